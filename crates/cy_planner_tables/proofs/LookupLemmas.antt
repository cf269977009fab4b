-- Look-ups that stand one after another are found by those that differ.
use Rattle.std.proofs.Common.{◌≡◌, ℕ, ◌+◌, ◌<◌, ◌≤◌, subst, take, Bool, true, false, cond, is_some, List, [], ◌∷◌, ◌++◌, length, refl, sym, ap, ◌∙◌, arith}
use Rattle.std.specs.Prelude.{Option, None, Some, ◌==◌, nat_lt, get_or}
use Rattle.std.specs.List.{list_any, position_from, slice_get}
use Rattle.std.specs.Option.{option_and_then, option_map_or, option_or}
use Rattle.std.proofs.lemmas.Bool.{false≢true}
use Rattle.std.proofs.lemmas.Bool.Decides.{nat_tests}
use Rattle.std.proofs.lemmas.List.{get_or_append_left, length-append, length-take-le, take_all, take_more}
use Rattle.std.proofs.Math.Seq.{get_or-append_seam}
use Rattle.std.proofs.lemmas.Option.{slice_get-get_or, slice_get_past, slice_get_read}
use Rattle.cy_values.proofs.Booleans.{both_first, both_second}
use Rattle.cy_planner_algebra.specs.declared.operators.Attribute.{Attribute}
use Rattle.cy_planner_rows.specs.declared.places.Wanted.{Wanted}
use Rattle.cy_planner_rows.specs.Places.{added, is_of, place, same_attribute}
use Rattle.cy_planner_rows.specs.internal.WantedLists.{has_words, words_of}
use Rattle.cy_planner_rows.proofs.WantedLemmas.{place_found, same_place, any_placed}
use Rattle.cy_planner_rows.proofs.Placed.{attribute_is}
use Rattle.cy_planner_tables.specs.internal.LookupLists.{AreFirsts}
use Rattle.cy_scope_kinds.proofs.ScopesLemmas.{position_both, position_inside}

-- ---- a look-up is told by its column and its attribute

-- whoever asks for it asks as it does
asked_alike : (column : ℕ) (a : Attribute) (w : Wanted) (ws : List Wanted) → is_of column a w ≡ true → list_any (is_of column a) ws ≡ list_any (is_of w.column w.attribute) ws
asked_alike column a w ws h =
    let k : column ≡ w.column = (let e = both_first (w.column == column) (same_attribute w.attribute a) h in grind (arith, nat_tests, e)) in
    let b : a ≡ w.attribute = sym (attribute_is w.attribute a (both_second (w.column == column) (same_attribute w.attribute a) h)) in
    λ i. list_any (is_of (k i) (b i)) ws

-- ---- one look-up more

module _ (ws ds : List Wanted) (fs : List ℕ) (w : Wanted) where
  -- what is there is found before
  kept : (b : Bool) (o : Option ℕ) (n : ℕ) → (b ≡ true → is_some o ≡ true) → option_or o (cond b (Some n) None) ≡ o
  kept true None n h = absurd (false≢true (h refl))
  kept true (Some m) n h = refl
  kept false None n h = refl
  kept false (Some m) n h = refl

  inside : (column : ℕ) (a : Attribute) (n : ℕ) → position_from (is_of column a) 0 ds ≡ Some n → n < length ds
  inside column a n is = let e = position_inside (is_of column a) 0 ds n is in omega (arith, e)

  found_inside : length fs ≡ length ds → (o : Option ℕ) → ((n : ℕ) → o ≡ Some n → n < length ds) → is_some o ≡ true → is_some (option_and_then (slice_get fs) o) ≡ true
  found_inside long None inside h = h
  found_inside long (Some n) inside h = ap is_some (slice_get-get_or fs n 0 (let e = inside n refl in omega (arith, e, long)))

  pub there_still : AreFirsts ws ds fs → list_any (is_of w.column w.attribute) ds ≡ true → AreFirsts (ws ++ w ∷ []) ds fs
  there_still s there = record {
    each = s.each;
    fewer = let e = s.fewer in let l = length-append ws (w ∷ []) in omega (arith, e, l);
    at = λ column a.
        position_both (is_of column a) 0 ws (w ∷ [])
        ∙ kept (is_of column a w) (position_from (is_of column a) 0 ws) (0 + length ws) (λ h.
        ap is_some (s.at column a)
        ∙ found_inside s.each (position_from (is_of column a) 0 ds) (inside column a)
        (sym (any_placed (is_of column a) 0 ds) ∙ asked_alike column a w ds h ∙ there))
        ∙ s.at column a;
  }

  -- a new one has the next number, and stands at the next place
  next : (at : ℕ) → length fs ≡ length ds → at ≡ length ws → (b : Bool) (o : Option ℕ) → ((n : ℕ) → o ≡ Some n → n < length ds)
      → option_or (option_and_then (slice_get fs) o) (cond b (Some (0 + length ws)) None) ≡ option_and_then (slice_get (fs ++ at ∷ [])) (option_or o (cond b (Some (0 + length ds)) None))
  next at long is true None inside =
      ap Some (let e : 0 + length ws ≡ at = omega (arith, is) in e ∙ sym (get_or-append_seam fs at [] 0))
      ∙ sym (slice_get-get_or (fs ++ at ∷ []) (length fs) 0 (let l = length-append fs (at ∷ []) in omega (arith, l)))
      ∙ ap (slice_get (fs ++ at ∷ [])) (let e : length fs ≡ 0 + length ds = omega (arith, long) in e)
  next at long is false None inside = refl
  next at long is b (Some n) inside =
      let low : n < length fs = (let e = inside n refl in omega (arith, e, long)) in
      ap (λ o. option_or o (cond b (Some (0 + length ws)) None)) (slice_get-get_or fs n 0 low)
      ∙ ap Some (sym (get_or_append_left fs (at ∷ []) 0 n low))
      ∙ sym (slice_get-get_or (fs ++ at ∷ []) n 0 (let l = length-append fs (at ∷ []) in omega (arith, low, l)))

  pub one_more : (at : ℕ) → AreFirsts ws ds fs → at ≡ length ws → AreFirsts (ws ++ w ∷ []) (ds ++ w ∷ []) (fs ++ at ∷ [])
  one_more at s is = record {
    each = let e = s.each in let l = length-append ds (w ∷ []) in let m = length-append fs (at ∷ []) in omega (arith, e, l, m);
    fewer = let e = s.fewer in let l = length-append ds (w ∷ []) in let m = length-append ws (w ∷ []) in omega (arith, e, l, m);
    at = λ column a.
        position_both (is_of column a) 0 ws (w ∷ [])
        ∙ ap (λ o. option_or o (cond (is_of column a w) (Some (0 + length ws)) None)) (s.at column a)
        ∙ next at s.each is (is_of column a w) (position_from (is_of column a) 0 ds) (inside column a)
        ∙ ap (option_and_then (slice_get (fs ++ at ∷ []))) (sym (position_both (is_of column a) 0 ds (w ∷ [])));
  }

  -- with one more, whether it is there or not
  pub next_firsts : (at : ℕ) (ds' : List Wanted) (fs' : List ℕ) → AreFirsts ws ds fs → at ≡ length ws → ds' ≡ added ds w → fs' ≡ cond (nat_lt (length ds) (length ds')) (fs ++ at ∷ []) fs
      → AreFirsts (ws ++ w ∷ []) ds' fs'
  next_firsts at ds' fs' s is more firsts =
      elim (list_any (is_of w.column w.attribute) ds) as (λ b. list_any (is_of w.column w.attribute) ds ≡ b → ds' ≡ cond b ds (ds ++ w ∷ []) → AreFirsts (ws ++ w ∷ []) ds' fs') [
        | true ↦ λ there same.
            both ds ds' fs fs' (sym same) (sym (firsts ∙ ap (λ d. cond (nat_lt (length ds) (length d)) (fs ++ at ∷ []) fs) same ∙ ap (λ t. cond t (fs ++ at ∷ []) fs) (let e : nat_lt (length ds) (length ds) ≡ false = grind (arith, nat_tests) in e)))
            (there_still s there)
        | false ↦ λ new longer.
            both (ds ++ w ∷ []) ds' (fs ++ at ∷ []) fs' (sym longer) (sym (firsts ∙ ap (λ d. cond (nat_lt (length ds) (length d)) (fs ++ at ∷ []) fs) longer ∙ ap (λ t. cond t (fs ++ at ∷ []) fs) (let l = length-append ds (w ∷ []) in let e : nat_lt (length ds) (length (ds ++ w ∷ [])) ≡ true = grind (arith, nat_tests, l) in e)))
            (one_more at s is)
      ] refl more
    where
      both : (d e : List Wanted) (f g : List ℕ) → d ≡ e → f ≡ g → AreFirsts (ws ++ w ∷ []) d f → AreFirsts (ws ++ w ∷ []) e g
      both d e f g same alike h = subst (λ x. AreFirsts (ws ++ w ∷ []) x g) same (subst (λ y. AreFirsts (ws ++ w ∷ []) d y) alike h)

-- ---- where a look-up stands

-- by the first one in the list
place_by : (first column : ℕ) (a : Attribute) (ws : List Wanted) → place first ws column a ≡ option_map_or (λ p. first + p) (position_from (is_of column a) 0 ws) (first + length ws)
place_by first column a ws =
    place_found first column a ws (position_from (has_words (words_of column a)) 0 ws) refl
    ∙ ap (λ o. option_map_or (λ p. first + p) o (first + length ws)) (same_place column a ws)

-- by its number among the distinct ones
placed_at : (ws ds : List Wanted) (fs : List ℕ) (first number column : ℕ) (a : Attribute) → AreFirsts ws ds fs → number ≡ place 0 ds column a
    → place first ws column a ≡ option_map_or (λ p. first + p) (slice_get fs number) (first + length ws)
placed_at ws ds fs first number column a s is =
    place_by first column a ws ∙ ap (λ o. option_map_or (λ p. first + p) o (first + length ws)) found
  where
    by : (o : Option ℕ) → number ≡ option_map_or (λ p. 0 + p) o (0 + length ds) → option_and_then (slice_get fs) o ≡ slice_get fs number
    by None at = sym (slice_get_past fs number (let e = s.each in omega (arith, at, e)))
    by (Some n) at = ap (slice_get fs) (let e : n ≡ number = omega (arith, at) in e)

    found : position_from (is_of column a) 0 ws ≡ slice_get fs number
    found = s.at column a ∙ by (position_from (is_of column a) 0 ds) (is ∙ place_by 0 column a ds)

-- the place that is found, and that there is none
pub place_known : (ws ds : List Wanted) (fs : List ℕ) (first number at column : ℕ) (a : Attribute) → AreFirsts ws ds fs → number ≡ place 0 ds column a → number < length fs → at ≡ get_or fs number at
    → first + at ≡ place first ws column a
place_known ws ds fs first number at column a s is low known =
    sym (placed_at ws ds fs first number column a s is ∙ ap (λ o. option_map_or (λ p. first + p) o (first + length ws)) (slice_get_read fs (length fs) number at refl low known))

pub place_unknown : (ws ds : List Wanted) (fs : List ℕ) (first number column : ℕ) (a : Attribute) → AreFirsts ws ds fs → number ≡ place 0 ds column a → length fs ≤ number
    → first + length ws ≡ place first ws column a
place_unknown ws ds fs first number column a s is unknown =
    sym (placed_at ws ds fs first number column a s is ∙ ap (λ o. option_map_or (λ p. first + p) o (first + length ws)) (slice_get_past fs number unknown))

-- of a list, one look-up after another
pub list_next : (ws vs : List Wanted) (at : ℕ) (w : Wanted) (ds ds' : List Wanted) (fs fs' : List ℕ) → vs ≡ ws → at < length vs → w ≡ get_or vs at w → AreFirsts (take at ws) ds fs → ds' ≡ added ds w
    → fs' ≡ cond (nat_lt (length ds) (length ds')) (fs ++ at ∷ []) fs → AreFirsts (take (at + 1) ws) ds' fs'
list_next ws vs at w ds ds' fs fs' same less is s more firsts =
    let low : at < length ws = subst (λ (l : List Wanted). at < length l) same less in
    let last : take (at + 1) ws ≡ take at ws ++ w ∷ [] = take_more ws at w low ∙ ap (λ v. take at ws ++ v ∷ []) (sym (is ∙ ap (λ l. get_or l at w) same)) in
    subst (λ (l : List Wanted). AreFirsts l ds' fs') (sym last) (next_firsts (take at ws) ds fs w at ds' fs' s (sym (length-take-le at ws (let e = low in omega (arith, e)))) more firsts)

pub list_whole : (ws vs : List Wanted) (at : ℕ) (ds : List Wanted) (fs : List ℕ) → vs ≡ ws → length vs ≤ at → AreFirsts (take at ws) ds fs → AreFirsts ws ds fs
list_whole ws vs at ds fs same end s = subst (λ (l : List Wanted). AreFirsts l ds fs) (take_all at ws (subst (λ (l : List Wanted). length l ≤ at) same end)) s
