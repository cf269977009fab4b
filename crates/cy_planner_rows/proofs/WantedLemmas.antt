-- Where look-ups stand, by their words.
use Rattle.std.proofs.Common.{◌≡◌, ℕ, ◌+◌, ◌&&◌, ◌||◌, Bool, true, false, cond, eqb, is_some, not, List, [], ◌∷◌, ◌++◌, Some, None, length, refl, sym, ap, ◌∙◌, arith, if◌then◌else◌}
use Rattle.std.specs.Prelude.{Option}
use Rattle.std.specs.BTreeMap.{insert_entry}
use Rattle.std.specs.Cmp.Lexicographic.{nat_list_eq_equiv, slice_cmp}
use Rattle.std.specs.List.{list_any, position_from}
use Rattle.std.specs.Map.{lookup}
use Rattle.std.specs.Option.{option_map_or, option_or}
use Rattle.std.specs.Ordering.{is_eq, match_ordering, nat_cmp}
use Rattle.std.specs.Str.{bytes_eq}
use Rattle.std.specs.declared.alloc.Global.{Global}
use Rattle.std.specs.declared.cmp.Ordering.{Ordering}
use Rattle.std.specs.declared.cmp.Ordering.TheVariants.{Less, Equal, Greater}
use Rattle.std.specs.declared.vec.Vec.{Vec}
use Rattle.std.proofs.lemmas.Bool.{false≢true}
use Rattle.std.proofs.lemmas.Map.Text.{is_eq-slice_cmp}
use Rattle.std.proofs.lemmas.Option.{none-some}
use Rattle.std.proofs.lemmas.Slice.Eq.{bytes_eq-Decides}
use Rattle.cy_scope_kinds.proofs.ScopesLemmas.{position_both}
use Rattle.cy_planner_algebra.specs.declared.operators.Attribute.{Attribute}
use Rattle.cy_planner_algebra.specs.declared.operators.Attribute.TheVariants.{Property, RelType, Labels}
use Rattle.cy_planner_rows.specs.declared.places.Wanted.{Wanted}
use Rattle.cy_planner_rows.specs.Places.{added, is_of, place, same_attribute}
use Rattle.cy_planner_rows.specs.internal.WantedLists.{ArePlaced, attribute_words, by_items, has, has_words, words_of}

abbrev Key : Type 0
Key = Vec ℕ Global

-- a key has its own words, and no others
has_is : (words : List ℕ) (k : Key) → has words k ≡ bytes_eq words k.items
has_is words k = is_eq-slice_cmp words k.items

equal_items : (k l : Key) → is_eq (by_items k l) ≡ true → k.items ≡ l.items
equal_items k l h = (bytes_eq-Decides k.items l.items).0 (sym (is_eq-slice_cmp k.items l.items) ∙ h)

-- of an entry that stands before, and another
swapped : (b c : Bool) (v x : ℕ) (rest : Option ℕ) → (b ≡ true → c ≡ false) → cond c (Some x) (cond b (Some v) rest) ≡ cond b (Some v) (cond c (Some x) rest)
swapped true true v x rest apart = absurd (false≢true (sym (apart refl)))
swapped true false v x rest apart = refl
swapped false c v x rest apart = refl

covered : (b c : Bool) (v x : ℕ) (rest : Option ℕ) → b ≡ c → cond c (Some v) rest ≡ cond b (Some v) (cond c (Some x) rest)
covered true true v x rest is = refl
covered false false v x rest is = refl
covered true false v x rest is = absurd (false≢true (sym is))
covered false true v x rest is = absurd (false≢true is)

-- what is found after an entry more
found_more : (words : List ℕ) (es : List (Key × ℕ)) (k : Key) (v : ℕ) → lookup (has words) (insert_entry by_items es k v) ≡ cond (has words k) (Some v) (lookup (has words) es)
found_more words [] k v = refl
found_more words (e ∷ es) k v = cases (by_items k e.0) refl (found_more words es k v)
  where
    cases : (o : Ordering) → by_items k e.0 ≡ o → lookup (has words) (insert_entry by_items es k v) ≡ cond (has words k) (Some v) (lookup (has words) es)
        → lookup (has words) (match_ordering (by_items k e.0) ((k, v) ∷ e ∷ es) ((e.0, v) ∷ es) (e ∷ insert_entry by_items es k v)) ≡ cond (has words k) (Some v) (lookup (has words) (e ∷ es))
    cases Less order others = rw order refl
    cases Equal order others =
        let one : k.items ≡ e.0.items = equal_items k e.0 (ap is_eq order) in
        let both : has words k ≡ has words e.0 = ap (λ l. is_eq (slice_cmp nat_cmp words l)) one in
        rw order (covered (has words k) (has words e.0) v e.1 (lookup (has words) es) both)
    cases Greater order others =
        let apart : has words k ≡ true → has words e.0 ≡ false =
        λ h. ap (λ l. is_eq (slice_cmp nat_cmp l e.0.items)) ((bytes_eq-Decides words k.items).0 (sym (has_is words k) ∙ h)) ∙ ap is_eq order in
        rw order (ap (λ r. cond (has words e.0) (Some e.1) r) others ∙ swapped (has words k) (has words e.0) v e.1 (lookup (has words) es) apart)

-- words tell look-ups apart
same_words : (a b : Attribute) → bytes_eq (attribute_words a) (attribute_words b) ≡ same_attribute a b
same_words (Property key) (Property other) = refl
same_words (Property key) RelType = refl
same_words (Property key) Labels = refl
same_words RelType (Property other) = refl
same_words RelType RelType = refl
same_words RelType Labels = refl
same_words Labels (Property other) = refl
same_words Labels RelType = refl
same_words Labels Labels = refl

has_its_words : (column : ℕ) (attribute : Attribute) (w : Wanted) → has_words (words_of column attribute) w ≡ is_of column attribute w
has_its_words column attribute w =
    nat_list_eq_equiv.symm (words_of column attribute) (words_of w.column w.attribute) ∙ ap (λ b. eqb w.column column && b) (same_words w.attribute attribute)

pub same_place : (column : ℕ) (attribute : Attribute) (ws : List Wanted) → position_from (has_words (words_of column attribute)) 0 ws ≡ position_from (is_of column attribute) 0 ws
same_place column attribute ws = λ i. position_from (λ w. has_its_words column attribute w i) 0 ws

-- ---- the column of a look-up

place_from : (first i : ℕ) (ws : List Wanted) (column : ℕ) (attribute : Attribute)
    → place (first + i) ws column attribute ≡ option_map_or (λ p. first + p) (position_from (is_of column attribute) i ws) (first + i + length ws)
place_from first i [] column attribute = omega arith
place_from first i (w ∷ ws) column attribute =
    elim (is_of column attribute w) as (λ b. cond b (first + i) (place (first + i + 1) ws column attribute)
    ≡ option_map_or (λ p. first + p) (cond b (Some i) (position_from (is_of column attribute) (i + 1) ws)) (first + i + length (w ∷ ws))) [
      | true ↦ refl
      | false ↦ ap (λ n. place n ws column attribute) (let e : first + i + 1 ≡ first + (i + 1) = omega arith in e)
          ∙ place_from first (i + 1) ws column attribute
          ∙ ap (λ n. option_map_or (λ p. first + p) (position_from (is_of column attribute) (i + 1) ws) n) (let e : first + (i + 1) + length ws ≡ first + i + length (w ∷ ws) = omega arith in e)
    ]

-- the place that is found by the words
pub place_found : (first column : ℕ) (attribute : Attribute) (ws : List Wanted) (found : Option ℕ) → found ≡ position_from (has_words (words_of column attribute)) 0 ws
    → place first ws column attribute ≡ option_map_or (λ p. first + p) found (first + length ws)
place_found first column attribute ws found is =
    ap (λ n. place n ws column attribute) (let e : first ≡ first + 0 = omega arith in e)
    ∙ place_from first 0 ws column attribute
    ∙ (λ i. option_map_or (λ p. first + p) (sym (is ∙ same_place column attribute ws) i) ((let e : first + 0 + length ws ≡ first + length ws = omega arith in e) i))

-- ---- one look-up more

pub any_placed : (t : Wanted → Bool) (i : ℕ) (ws : List Wanted) → list_any t ws ≡ is_some (position_from t i ws)
any_placed t i [] = refl
any_placed t i (w ∷ ws) =
    elim (t w) as (λ b. (b || list_any t ws) ≡ is_some (cond b (Some i) (position_from t (i + 1) ws))) [
      | true ↦ refl
      | false ↦ any_placed t (i + 1) ws
    ]

pub added_if : (ws : List Wanted) (w : Wanted) (b : Bool) (found : Option ℕ) → found ≡ position_from (has_words (words_of w.column w.attribute)) 0 ws → b ≡ is_some found
    → added ws w ≡ (if b then ws else ws ++ w ∷ [])
added_if ws w b found is some =
    ap (λ t. if t then ws else ws ++ w ∷ []) (any_placed (is_of w.column w.attribute) 0 ws ∙ ap is_some (sym (is ∙ same_place w.column w.attribute ws)) ∙ sym some)

either : (t : Bool) (n : ℕ) (o : Option ℕ) → (t ≡ true → o ≡ None) → cond t (Some n) o ≡ option_or o (cond t (Some n) None)
either true n None h = refl
either true n (Some m) h = absurd (none-some m (sym (h refl)))
either false n None h = refl
either false n (Some m) h = refl

none_found : (o : Option ℕ) → is_some o ≡ false → o ≡ None
none_found None is = refl
none_found (Some p) is = absurd (false≢true (sym is))

-- what is found, by whether it is new
pub unless_new : (b new : Bool) → not b ≡ new → b ≡ not new
unless_new true new is = ap not is
unless_new false new is = ap not is

-- its words have the next place
pub placed_more : (entries : List (Key × ℕ)) (ws : List Wanted) (w : Wanted) (k : Key) (found : Option ℕ) (n : ℕ) → ArePlaced entries ws → k.items ≡ words_of w.column w.attribute
    → found ≡ position_from (has_words (words_of w.column w.attribute)) 0 ws → is_some found ≡ false → n ≡ length ws → ArePlaced (insert_entry by_items entries k n) (ws ++ w ∷ [])
placed_more entries ws w k found n placed is at none long words =
    let own : List ℕ = words_of w.column w.attribute in
    let before : Option ℕ = position_from (has_words words) 0 ws in
    found_more words entries k n
    ∙ (λ i. cond ((has_is words k ∙ ap (bytes_eq words) is) i) (Some n) (placed words i))
    ∙ either (bytes_eq words own) n before (λ alike. ap (λ l. position_from (has_words l) 0 ws) ((bytes_eq-Decides words own).0 alike) ∙ sym at ∙ none_found found none)
    ∙ ap (λ m. option_or before (cond (bytes_eq words own) (Some m) None)) (let e : n ≡ 0 + length ws = omega (arith, long) in e)
    ∙ sym (position_both (has_words words) 0 ws (w ∷ []))
