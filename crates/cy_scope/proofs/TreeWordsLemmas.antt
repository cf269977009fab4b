-- Expressions of one tree have the same words, and so a key without a place repeats no item.
use Rattle.std.proofs.Common.{zero, suc, ◌+◌, ◌<◌, ◌≤◌, length, get_or, take, subst, ◌≡◌, ℕ, Bool, true, false, ◌||◌, map, List, [], ◌∷◌, Some, None, take_all, refl, sym, ap, ◌∙◌}
use Rattle.std.specs.Prelude.{IsTrue, is_some, slice_get}
use Rattle.std.specs.List.{All}
use Rattle.std.specs.Map.{lookup}
use Rattle.std.specs.BTreeMap.{insert_entry, is_at}
use Rattle.std.specs.Cmp.Lexicographic.{slice_cmp}
use Rattle.std.specs.Ordering.{is_eq, match_ordering, nat_cmp}
use Rattle.std.specs.declared.alloc.Global.{Global}
use Rattle.std.specs.declared.cmp.Ordering.{Ordering}
use Rattle.std.specs.declared.cmp.Ordering.TheVariants.{Less, Equal, Greater}
use Rattle.std.specs.declared.vec.Vec.{Vec}
use Rattle.std.proofs.lemmas.List.Elements.{All-weaker, All-more, All-map, All-same}
use Rattle.std.proofs.lemmas.List.Folds.{list_any_none}
use Rattle.std.proofs.lemmas.Map.Text.{is_eq-slice_cmp}
use Rattle.std.proofs.lemmas.Option.{none-some, same_Some}
use Rattle.std.proofs.lemmas.Slice.Eq.{bytes_eq-Decides}
use Rattle.cy_trees.specs.declared.clauses.Item as coded
use Rattle.cy_trees.specs.TreeModels.{expression_of, item_of}
use Rattle.cy_trees.specs.Trees.{Expression, property, has_labels, unary, binary, comparison, list, case, call, Expressions, no_more, more, Links, no_links, link, Arms, no_arms, arm, Otherwise, nothing, otherwise, Item}
use Rattle.cy_scope_kinds.specs.Same.{same}
use Rattle.cy_scope.specs.ProjectionFaults.{repeats}
use Rattle.cy_scope_kinds.specs.ResolvedExpressions.{resolved, resolved_expressions, resolved_links, resolved_arms, resolved_otherwise}
use Rattle.cy_scope_kinds.specs.internal.TreeWords.{with_word, with_text, with_names, unary_word, binary_word, comparator_word, with_flag, with_tree, with_elements, with_links, with_arms, with_otherwise, words_of, HasPlace, ArePlaced}
use Rattle.cy_scope.proofs.SameTrees.{same_resolved}

mutual
  tree_kept : (n : List ℕ) (e : Expression) → with_tree n (resolved [] e) ≡ with_tree n e
  tree_kept n (property e key) = ap (λ (m : List ℕ). with_text m key) (tree_kept (with_word n 5) e)
  tree_kept n (has_labels e labels) = ap (λ (m : List ℕ). with_names m labels) (tree_kept (with_word n 6) e)
  tree_kept n (unary operator e) = tree_kept (with_word (with_word n 7) (unary_word operator)) e
  tree_kept n (binary operator a b) =
      let start = with_word (with_word n 8) (binary_word operator) in
      ap (λ (m : List ℕ). with_tree m (resolved [] b)) (tree_kept start a) ∙ tree_kept (with_tree start a) b
  tree_kept n (comparison e links) =
      ap (λ (m : List ℕ). with_links m (resolved_links [] links)) (tree_kept (with_word n 9) e) ∙ links_kept (with_tree (with_word n 9) e) links
  tree_kept n (list es) = elements_kept (with_word n 10) es
  tree_kept n (case arms e) =
      ap (λ (m : List ℕ). with_otherwise m (resolved_otherwise [] e)) (arms_kept (with_word n 11) arms) ∙ otherwise_kept (with_arms (with_word n 11) arms) e
  tree_kept n (call name distinct es) = elements_kept (with_flag (with_text (with_word n 12) name) distinct) es
  tree_kept n _ = refl

  elements_kept : (n : List ℕ) (es : Expressions) → with_elements n (resolved_expressions [] es) ≡ with_elements n es
  elements_kept n no_more = refl
  elements_kept n (more e es) =
      let start = with_word n 1 in
      ap (λ (m : List ℕ). with_elements m (resolved_expressions [] es)) (tree_kept start e) ∙ elements_kept (with_tree start e) es

  links_kept : (n : List ℕ) (links : Links) → with_links n (resolved_links [] links) ≡ with_links n links
  links_kept n no_links = refl
  links_kept n (link by e links) =
      let start = with_word (with_word n 1) (comparator_word by) in
      ap (λ (m : List ℕ). with_links m (resolved_links [] links)) (tree_kept start e) ∙ links_kept (with_tree start e) links

  arms_kept : (n : List ℕ) (arms : Arms) → with_arms n (resolved_arms [] arms) ≡ with_arms n arms
  arms_kept n no_arms = refl
  arms_kept n (arm condition outcome arms) =
      let start = with_word n 1 in
      ap (λ (m : List ℕ). with_arms (with_tree m (resolved [] outcome)) (resolved_arms [] arms)) (tree_kept start condition)
      ∙ ap (λ (m : List ℕ). with_arms m (resolved_arms [] arms)) (tree_kept (with_tree start condition) outcome)
      ∙ arms_kept (with_tree (with_tree start condition) outcome) arms

  otherwise_kept : (n : List ℕ) (e : Otherwise) → with_otherwise n (resolved_otherwise [] e) ≡ with_otherwise n e
  otherwise_kept n nothing = refl
  otherwise_kept n (otherwise e) = tree_kept (with_word n 1) e

pub same_words : (a b : Expression) → same a b ≡ true → words_of a ≡ words_of b
same_words a b is = sym (tree_kept [] a) ∙ ap (λ (e : Expression). with_tree [] e) (same_resolved [] a b is) ∙ tree_kept [] b

abbrev Key : Type 0
Key = Vec ℕ Global

-- the test for a key of the words
abbrev pub has : List ℕ → Key → Bool
has words = is_at (λ k. slice_cmp nat_cmp words k.items)

abbrev by_items : Key → Key → Ordering
by_items k l = slice_cmp nat_cmp k.items l.items

pub no_repeat : (entries : List (Key × ℕ)) (items : List Item) (e : Expression) → ArePlaced entries items → lookup (has (words_of e)) entries ≡ None → repeats items e ≡ false
no_repeat entries items e placed none =
    list_any_none (λ i. same i.expression e) items
    (All-weaker (HasPlace entries) (λ (i : Item). same i.expression e ≡ false) (λ i known. differs i known (same i.expression e) refl) items placed)
  where
    differs : (i : Item) → HasPlace entries i → (t : Bool) → same i.expression e ≡ t → t ≡ false
    differs i known false is = refl
    differs i known true is =
        let missing : is_some (lookup (has (words_of i.expression)) entries) ≡ false =
        ap (λ (n : List ℕ). is_some (lookup (has n) entries)) (same_words i.expression e is) ∙ ap is_some none in
        sym known ∙ missing

-- an item that is looked at twice
again : (a rest : Bool) → (a || (a || rest)) ≡ (a || rest)
again true rest = refl
again false rest = refl

behind : (a b rest : Bool) → (a || rest) ≡ rest → (a || (b || rest)) ≡ (b || rest)
behind true true rest is = refl
behind true false rest is = is
behind false b rest is = refl

pub looked_at : (items : List coded.Item) (place : ℕ) (i : coded.Item) (e : Expression) → slice_get items place ≡ Some i
    → (same (expression_of i.expression) e || repeats (map item_of items) e) ≡ repeats (map item_of items) e
looked_at [] place i e is = absurd (none-some i is)
looked_at (j ∷ items) zero i e is =
    ap (λ (k : coded.Item). same (expression_of k.expression) e || repeats (map item_of (j ∷ items)) e) (sym (same_Some j i is))
    ∙ again (same (expression_of j.expression) e) (repeats (map item_of items) e)
looked_at (j ∷ items) (suc place) i e is =
    behind (same (expression_of i.expression) e) (same (expression_of j.expression) e) (repeats (map item_of items) e) (looked_at items place i e is)

-- an entry more
stays : (test : Key → Bool) (es : List (Key × ℕ)) (k : Key) (v : ℕ) → IsTrue (is_some (lookup test es)) → IsTrue (is_some (lookup test (insert_entry by_items es k v)))
stays test [] k v is = cc
stays test (e ∷ es) k v is = cases (by_items k e.0) (test k) (test e.0) refl refl refl (λ there. stays test es k v there)
  where
    cases : (o : Ordering) (s t : Bool) → by_items k e.0 ≡ o → test k ≡ s → test e.0 ≡ t → (IsTrue (is_some (lookup test es)) → IsTrue (is_some (lookup test (insert_entry by_items es k v))))
        → IsTrue (is_some (lookup test (match_ordering (by_items k e.0) ((k, v) ∷ e ∷ es) ((e.0, v) ∷ es) (e ∷ insert_entry by_items es k v))))
    cases Less true t order mine its others = rw (order, mine) refl
    cases Less false t order mine its others = rw (order, mine) is
    cases Equal s true order mine its others = rw (order, its) refl
    cases Equal s false order mine its others = rw (order, its) (rw its at is)
    cases Greater s true order mine its others = rw (order, its) refl
    cases Greater s false order mine its others = rw (order, its) (others (rw its at is))

own : (l : Key) → has l.items l ≡ true
own l = is_eq-slice_cmp l.items l.items ∙ (bytes_eq-Decides l.items l.items).1 refl

entered : (es : List (Key × ℕ)) (k : Key) (v : ℕ) → IsTrue (is_some (lookup (has k.items) (insert_entry by_items es k v)))
entered [] k v = rw (own k) refl
entered (e ∷ es) k v = cases (by_items k e.0) refl (entered es k v)
  where
    cases : (o : Ordering) → by_items k e.0 ≡ o → IsTrue (is_some (lookup (has k.items) (insert_entry by_items es k v)))
        → IsTrue (is_some (lookup (has k.items) (match_ordering (by_items k e.0) ((k, v) ∷ e ∷ es) ((e.0, v) ∷ es) (e ∷ insert_entry by_items es k v))))
    cases Less order others = rw (order, own k) refl
    cases Equal order others =
        let here : has k.items e.0 ≡ true = ap is_eq order in
        rw (order, here) refl
    cases Greater order others =
        let here : has k.items e.0 ≡ false = ap is_eq order in
        rw (order, here) others

abbrev pub IsPlaced : List (Key × ℕ) → coded.Item → Type 0
IsPlaced entries i = HasPlace entries (item_of i)

pub placed_more : (entries : List (Key × ℕ)) (items : List coded.Item) (place : ℕ) (d : coded.Item) (k : Key) → place < length items
    → k.items ≡ words_of (expression_of (get_or items place d).expression)
    → All (IsPlaced entries) (take place items) → All (IsPlaced (insert_entry by_items entries k place)) (take (place + 1) items)
placed_more entries items place d k inside is placed =
    All-more (IsPlaced (insert_entry by_items entries k place)) items place d inside
    (All-weaker (IsPlaced entries) (IsPlaced (insert_entry by_items entries k place)) (λ i there. stays (has (words_of (expression_of i.expression))) entries k place there) (take place items) placed)
    (subst (λ (n : List ℕ). IsTrue (is_some (lookup (has n) (insert_entry by_items entries k place)))) is (entered entries k place))

pub placed_all : (entries : List (Key × ℕ)) (items : List coded.Item) (n : ℕ) → length items ≤ n → All (IsPlaced entries) (take n items) → ArePlaced entries (map item_of items)
placed_all entries items n ends placed = All-map (HasPlace entries) item_of items (All-same (IsPlaced entries) items (take n items) (sym (take_all n items ends)) placed)
