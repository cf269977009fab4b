-- Where a chain is cut: at its scan, or else at its last part.
use Rattle.std.proofs.Common.{◌≡◌, ◌≢◌, ℕ, zero, suc, ◌+◌, ◌<◌, ◌≤◌, true, false, List, [], ◌∷◌, ◌++◌, inl, inr, Option, None, length, map, take, drop, get_or, sym, ap, subst, ◌∙◌, arith}
use Rattle.std.specs.Prelude.{is_some}
use Rattle.std.specs.List.{All}
use Rattle.std.proofs.lemmas.List.{drop_more, get_or-map, length-drop, length-map, take-append-drop, take_more}
use Rattle.std.proofs.lemmas.List.Elements.{All-append, All-cons, All-nil}
use Rattle.cy_planner_algebra.specs.Plans.{Plan}
use Rattle.cy_network_sources.specs.Scans.{column_over, scan_column}
use Rattle.cy_network_parts.specs.Memories.{is_scan}
use Rattle.cy_network_parts.specs.Parts.{IsCut, below_count, chain, first_below}
use Rattle.cy_network_parts.specs.internal.Parts.{IsWholeAt}
use Rattle.cy_network_parts.proofs.Chains.{chain_ends, chain_first, chain_more, link, linked_one, same_first, single_or_not}
use Rattle.cy_network_parts.proofs.Scanned.{column_above, column_alone, no_scan_above}

abbrev Unscanned : Plan → Type 0
Unscanned q = is_scan q ≡ false

-- nothing above what is no scan is one
unscanned_above : (p : Plan) (above : List Plan) (r : Plan) → chain p ≡ above ++ chain r → is_scan r ≡ false → All Unscanned above × (is_scan p ≡ false)
unscanned_above p [] r linked last = (All-nil Unscanned, subst Unscanned (sym (same_first p r linked)) last)
unscanned_above p (x ∷ above) r linked last =
    let l = link p x above r linked in
    let rest = unscanned_above (first_below p) above r l.2 last in
    let here : is_scan p ≡ false = no_scan_above p l.0 rest.1 in
    (All-cons Unscanned x above (subst Unscanned l.1 here) rest.0, here)

pub some_parts : (p : Plan) → 1 ≤ length (chain p)
some_parts p = let n = ap length (chain_first p).1 in omega (arith, n)

-- what is left of a chain at a place is the chain of the part there
left_at : (place : ℕ) (p d : Plan) → place < length (chain p) → drop place (chain p) ≡ chain (get_or (chain p) place d)
left_at zero p d less = sym (ap chain (ap (λ xs. get_or xs 0 d) (chain_first p).1))
left_at (suc n) p d less =
    elim (single_or_not p) [
      | inl one ↦
          let more = chain_more p one in
          let long = ap length more in
          ap (drop (suc n)) more ∙ left_at n (first_below p) d (omega (arith, less, long)) ∙ sym (ap (λ xs. chain (get_or xs (suc n) d)) more)
      | inr other ↦ absurd (let long = ap length (chain_ends p other) in omega (arith, less, long))
    ]

-- the last part hasn't one part below it
last_alone : (p d : Plan) (i : ℕ) → i + 1 ≡ length (chain p) → below_count (get_or (chain p) i d) ≢ 1
last_alone p d i last one =
    let q = get_or (chain p) i d in
    let here = ap length (left_at i p d (omega (arith, last))) in
    let left = length-drop i (chain p) in
    let more = ap length (chain_more q one) in
    let some = some_parts (first_below q) in
    omega (arith, last, here, left, more, some)

module _ {A : Type 0} (f : A → Plan) (xs : List A) (p : Plan) (is : map f xs ≡ chain p) where
  long : length (map f xs) ≡ length xs
  long = length-map xs f

  part_at : (i : ℕ) (x : A) → i < length xs → x ≡ get_or xs i x → get_or (map f xs) i (f x) ≡ f x
  part_at i x less at = get_or-map f xs i x (f x) less ∙ ap f (sym at)

  drop_at : (i : ℕ) (x : A) → i < length xs → x ≡ get_or xs i x → drop i (map f xs) ≡ chain (f x)
  drop_at i x less at =
      let fits = ap length is in
      ap (drop i) is ∙ left_at i p (f x) (omega (arith, less, fits, long)) ∙ ap chain (ap (λ ys. get_or ys i (f x)) (sym is) ∙ part_at i x less at)

  -- the last part
  pub begins : (i : ℕ) (x : A) (column : Option ℕ) → i + 1 ≡ length xs → x ≡ get_or xs i x → column ≡ column_over (f x) None → IsWholeAt (map f xs) i column
  begins i x column last at found =
      let fits = ap length is in
      let other : below_count (f x) ≢ 1 =
      subst (λ q. below_count q ≢ 1) (ap (λ ys. get_or ys i (f x)) (sym is) ∙ part_at i x (omega (arith, last)) at) (last_alone p (f x) i (omega (arith, last, fits, long))) in
      record {
        within = omega (arith, last, long);
        end = f x;
        rest = drop_at i x (omega (arith, last)) at;
        named = found ∙ sym (column_alone (f x) None other);
        whole = inr other;
      }

  module _ (i place : ℕ) (next : place ≡ i + 1) (x : A) (column : Option ℕ) (whole : IsWholeAt (map f xs) place column) (less : i < length xs) (at : x ≡ get_or xs i x) where
    above : (below_count (f x) ≡ 1) × (first_below (f x) ≡ whole.end)
    above =
        linked_one (f x) [] (f x) whole.end
        (sym (drop_at i x less at) ∙ drop_more (map f xs) i (f x) (omega (arith, less, long))
        ∙ ap (λ y. y ∷ drop (i + 1) (map f xs)) (part_at i x less at)
        ∙ ap (λ ys. f x ∷ ys) (ap (λ n. drop n (map f xs)) (sym next) ∙ whole.rest))

    column_is : scan_column (f x) ≡ column_over (f x) column
    column_is = column_above (f x) above.0 ∙ ap (column_over (f x)) (ap scan_column above.1 ∙ sym whole.named)

    -- a part that is a scan too
    pub goes_on : is_some (column_over (f x) column) ≡ true → IsWholeAt (map f xs) i (column_over (f x) column)
    goes_on some = record {
      within = omega (arith, less, long);
      end = f x;
      rest = drop_at i x less at;
      named = sym column_is;
      whole = inl (ap is_some column_is ∙ some);
    }

    -- or none
    pub ends : is_some (column_over (f x) column) ≡ false → IsCut (map f xs) place
    ends none =
        let ys = map f xs in
        let last : is_scan (f x) ≡ false = ap is_some column_is ∙ none in
        let linked : chain p ≡ take i ys ++ chain (f x) = sym is ∙ sym (take-append-drop i ys) ∙ ap (λ zs. take i ys ++ zs) (drop_at i x less at) in
        let more : take place ys ≡ take i ys ++ f x ∷ [] =
        ap (λ n. take n ys) next ∙ take_more ys i (f x) (omega (arith, less, long)) ∙ ap (λ y. take i ys ++ y ∷ []) (part_at i x less at) in
        record {
          within = whole.within;
          unscanned = subst (All Unscanned) (sym more) (All-append Unscanned (take i ys) (f x ∷ []) (unscanned_above p (take i ys) (f x) linked last).0 (All-cons Unscanned (f x) [] last (All-nil Unscanned)));
          end = whole.end;
          rest = whole.rest;
          whole = whole.whole;
        }
