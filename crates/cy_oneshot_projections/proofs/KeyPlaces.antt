-- The first item whose tree is that of a key, by the words of the trees.
use Rattle.std.proofs.Common.{◌≡◌, ℕ, zero, suc, ◌+◌, ◌<◌, ◌≤◌, Bool, true, false, cond, List, [], ◌∷◌, Some, None, drop, get_or, length, map, refl, sym, ap, ◌∙◌, arith}
use Rattle.std.specs.Prelude.{Option, slice_get}
use Rattle.std.specs.BTreeMap.{insert_entry}
use Rattle.std.specs.Cmp.Lexicographic.{slice_cmp}
use Rattle.std.specs.List.{position_from}
use Rattle.std.specs.Map.{lookup}
use Rattle.std.specs.Ordering.{is_eq, match_ordering, nat_cmp}
use Rattle.std.specs.Str.{bytes_eq}
use Rattle.std.specs.declared.alloc.Global.{Global}
use Rattle.std.specs.declared.cmp.Ordering.{Ordering}
use Rattle.std.specs.declared.cmp.Ordering.TheVariants.{Less, Equal, Greater}
use Rattle.std.specs.declared.vec.Vec.{Vec}
use Rattle.std.proofs.lemmas.Bool.{false≢true}
use Rattle.std.proofs.lemmas.Map.Text.{is_eq-slice_cmp}
use Rattle.std.proofs.lemmas.Option.{none-some, same_Some}
use Rattle.std.proofs.lemmas.Slice.Eq.{bytes_eq-Decides}
use Rattle.cy_trees.specs.declared.clauses.Item as coded
use Rattle.cy_trees.specs.Trees.{Expression, Item}
use Rattle.cy_trees.specs.TreeModels.{expression_of, item_of}
use Rattle.cy_scope_kinds.specs.Same.{same}
use Rattle.cy_scope_kinds.specs.internal.TreeWords.{words_of}
use Rattle.cy_scope.proofs.TreeWordsLemmas.{same_words}
use Rattle.cy_oneshot_projections.specs.internal.KeyPlaces.{AreFirst, has, has_words}

abbrev Key : Type 0
Key = Vec ℕ Global

abbrev by_items : Key → Key → Ordering
by_items k l = slice_cmp nat_cmp k.items l.items

-- a key has its own words, and no others
has_is : (words : List ℕ) (k : Key) → has words k ≡ bytes_eq words k.items
has_is words k = is_eq-slice_cmp words k.items

equal_items : (k l : Key) → is_eq (by_items k l) ≡ true → k.items ≡ l.items
equal_items k l h = (bytes_eq-Decides k.items l.items).0 (sym (is_eq-slice_cmp k.items l.items) ∙ h)

-- of an entry that stands before, and another
swapped : (b c : Bool) (v x : ℕ) (rest : Option ℕ) → (b ≡ true → c ≡ false) → cond c (Some x) (cond b (Some v) rest) ≡ cond b (Some v) (cond c (Some x) rest)
swapped true true v x rest apart = absurd (false≢true (sym (apart refl)))
swapped true false v x rest apart = refl
swapped false c v x rest apart = refl

covered : (b c : Bool) (v x : ℕ) (rest : Option ℕ) → b ≡ c → cond c (Some v) rest ≡ cond b (Some v) (cond c (Some x) rest)
covered true true v x rest is = refl
covered false false v x rest is = refl
covered true false v x rest is = absurd (false≢true (sym is))
covered false true v x rest is = absurd (false≢true is)

-- what is found after an entry more
found_more : (words : List ℕ) (es : List (Key × ℕ)) (k : Key) (v : ℕ) → lookup (has words) (insert_entry by_items es k v) ≡ cond (has words k) (Some v) (lookup (has words) es)
found_more words [] k v = refl
found_more words (e ∷ es) k v = cases (by_items k e.0) refl (found_more words es k v)
  where
    cases : (o : Ordering) → by_items k e.0 ≡ o → lookup (has words) (insert_entry by_items es k v) ≡ cond (has words k) (Some v) (lookup (has words) es)
        → lookup (has words) (match_ordering (by_items k e.0) ((k, v) ∷ e ∷ es) ((e.0, v) ∷ es) (e ∷ insert_entry by_items es k v)) ≡ cond (has words k) (Some v) (lookup (has words) (e ∷ es))
    cases Less order others = rw order refl
    cases Equal order others =
        let one : k.items ≡ e.0.items = equal_items k e.0 (ap is_eq order) in
        let both : has words k ≡ has words e.0 = ap (λ l. is_eq (slice_cmp nat_cmp words l)) one in
        rw order (covered (has words k) (has words e.0) v e.1 (lookup (has words) es) both)
    cases Greater order others =
        let apart : has words k ≡ true → has words e.0 ≡ false =
        λ h. ap (λ l. is_eq (slice_cmp nat_cmp l e.0.items)) ((bytes_eq-Decides words k.items).0 (sym (has_is words k) ∙ h)) ∙ ap is_eq order in
        rw order (ap (λ r. cond (has words e.0) (Some e.1) r) others ∙ swapped (has words k) (has words e.0) v e.1 (lookup (has words) es) apart)

drop_at : {A : Type 0} (xs : List A) (n : ℕ) (d : A) → n < length xs → drop n xs ≡ get_or xs n d ∷ drop (suc n) xs
drop_at [] n d within = absurd (omega arith)
drop_at (x ∷ xs) zero d within = refl
drop_at (x ∷ xs) (suc n) d within = drop_at xs n d (omega arith)

-- one item more, before the others
pub first_more : (entries : List (Key × ℕ)) (items : List coded.Item) (left next : ℕ) (d : coded.Item) (k : Key) → left ≡ next + 1 → next < length items
    → k.items ≡ words_of (expression_of (get_or items next d).expression)
    → AreFirst entries (map item_of (drop left items)) left → AreFirst (insert_entry by_items entries k next) (map item_of (drop next items)) next
first_more entries items left next d k one within is first words =
    let after : left ≡ suc next = omega (arith, one) in
    found_more words entries k next
    ∙ (λ i. cond ((has_is words k ∙ ap (bytes_eq words) is) i) (Some next) (first words i))
    ∙ ap (λ n. cond (bytes_eq words (words_of (expression_of (get_or items next d).expression))) (Some next) (position_from (has_words words) n (map item_of (drop n items)))) after
    ∙ ap (λ n. cond (bytes_eq words (words_of (expression_of (get_or items next d).expression))) (Some next) (position_from (has_words words) n (map item_of (drop (suc next) items)))) (let e : suc next ≡ next + 1 = omega arith in e)
    ∙ sym (ap (λ l. position_from (has_words words) next (map item_of l)) (drop_at items next d within))

-- ---- the first that passes a test, where each that passes it passes another one

not_none : (n : ℕ) (rest : Option ℕ) (b : Bool) → cond b (Some n) rest ≡ None → (b ≡ false) × (rest ≡ None)
not_none n rest true none = absurd (none-some n (sym none))
not_none n rest false none = (refl, none)

module _ {A : Type 0} (t s : A → Bool) (weaker : (x : A) → s x ≡ true → t x ≡ true) where
  fails : (x : A) → t x ≡ false → s x ≡ false
  fails x h = elim (s x) as (λ b. s x ≡ b → b ≡ false) [ true ↦ λ k. absurd (false≢true (sym h ∙ weaker x k)) | false ↦ λ k. refl ] refl

  none_first : (xs : List A) (from : ℕ) → position_from t from xs ≡ None → position_from s from xs ≡ None
  none_first [] from none = refl
  none_first (x ∷ xs) from none =
      let parts = not_none from (position_from t (from + 1) xs) (t x) none in
      ap (λ b. cond b (Some from) (position_from s (from + 1) xs)) (fails x parts.0) ∙ none_first xs (from + 1) parts.1

  one_first : (xs : List A) (from place p : ℕ) (y : A) → position_from t from xs ≡ Some p → p ≡ from + place → slice_get xs place ≡ Some y → s y ≡ true → position_from s from xs ≡ Some p
  one_first [] from place p y found at is passes = absurd (none-some y is)
  one_first (x ∷ xs) from zero p y found at is passes =
      ap (λ b. cond b (Some from) (position_from s (from + 1) xs)) (ap s (same_Some x y is) ∙ passes) ∙ ap (λ n. Some n) (let e : from ≡ p = omega (arith, at) in e)
  one_first (x ∷ xs) from (suc place) p y found at is passes =
      elim (t x) as (λ b. t x ≡ b → cond b (Some from) (position_from t (from + 1) xs) ≡ Some p → position_from s from (x ∷ xs) ≡ Some p) [
        | true ↦ λ h k. absurd (let e : from ≡ p = same_Some from p k in omega (arith, e, at))
        | false ↦ λ h k.
            ap (λ b. cond b (Some from) (position_from s (from + 1) xs)) (fails x h)
            ∙ one_first xs (from + 1) place p y k (let e : p ≡ from + 1 + place = omega (arith, at) in e) is passes
      ] refl found

-- trees that are the same have the same words
module _ (items : List coded.Item) (e : Expression) where
  abbrev is_same : Item → Bool
  is_same i = same i.expression e

  with_same : (i : Item) → same i.expression e ≡ true → has_words (words_of e) i ≡ true
  with_same i h = (bytes_eq-Decides (words_of e) (words_of i.expression)).1 (sym (same_words i.expression e h))

  pub no_item : position_from (has_words (words_of e)) 0 (map item_of items) ≡ None → position_from is_same 0 (map item_of items) ≡ None
  no_item none = none_first (has_words (words_of e)) is_same with_same (map item_of items) 0 none

  mapped : (is : List coded.Item) (place : ℕ) (i : coded.Item) → slice_get is place ≡ Some i → slice_get (map item_of is) place ≡ Some (item_of i)
  mapped [] place i found = absurd (none-some i found)
  mapped (j ∷ is) zero i found = ap (λ (k : coded.Item). Some (item_of k)) (same_Some j i found)
  mapped (j ∷ is) (suc place) i found = mapped is place i found

  pub first_item : (place : ℕ) (i : coded.Item) → position_from (has_words (words_of e)) 0 (map item_of items) ≡ Some place → slice_get items place ≡ Some i
      → same (expression_of i.expression) e ≡ true → position_from is_same 0 (map item_of items) ≡ Some place
  first_item place i found is alike =
      one_first (has_words (words_of e)) is_same with_same (map item_of items) 0 place place (item_of i) found (let e : place ≡ 0 + place = omega arith in e) (mapped items place i is) alike
