-- Rows in canonical order: what one of them counts, and their surplus over others.
use Rattle.std.proofs.Common.{◌≡◌, ℕ, zero, suc, ◌+◌, ◌-◌, ◌<◌, ◌≤◌, true, false, cond, nat_lt, List, [], ◌∷◌, length, get_or, Err, refl, sym, ap, subst, ◌∙◌, arith}
use Rattle.std.specs.List.Sorted.{IsBinarySearchResult, IsNonDecreasingBy}
use Rattle.std.specs.declared.cmp.Ordering.{Ordering}
use Rattle.std.specs.declared.cmp.Ordering.TheVariants.{Less, Equal, Greater}
use Rattle.std.specs.Cmp.{IsTotalOrder, tied_itself}
use Rattle.std.specs.Ordering.{eq_by_cmp, is_eq, is_lt, ordering_reverse, ordering_index}
use Rattle.std.proofs.lemmas.List.Sorted.{searchable_from_sorted}
use Rattle.std.proofs.lemmas.List.Sums.{sum_by-cons}
use Rattle.std.proofs.lemmas.Bool.{ltb-false, ltb-true}
use Rattle.cy_values.specs.declared.rows.Cell.{Cell}
use Rattle.cy_values.specs.Order.{row_cmp}
use Rattle.cy_values.specs.Bag.{weight_of, IsCanonical}
use Rattle.cy_values.proofs.SameRows.{equal_order}
use Rattle.cy_bags.specs.Difference.{IsCountedSurplus}
use Rattle.cy_bags.specs.internal.Surplus.{surplus_of}

abbrev pub Pairs : Type 0
Pairs = List (List Cell × ℕ)

-- all these rows come after a row
abbrev Above : List Cell → Pairs → Type 0
Above row [] = Unit {0}
Above row (p ∷ ps) = (row_cmp row p.0 ≡ Less) × Above row ps

canonical_tail : (p : List Cell × ℕ) (ps : Pairs) → IsCanonical (p ∷ ps) → IsCanonical ps
canonical_tail p [] can = tt
canonical_tail p (q ∷ qs) can = can.2

pub canonical_counts : (p : List Cell × ℕ) (ps : Pairs) → IsCanonical (p ∷ ps) → 0 < p.1
canonical_counts p [] can = can
canonical_counts p (q ∷ qs) can = can.0

canonical_cons : (row : List Cell) (n : ℕ) (ps : Pairs) → 0 < n → Above row ps → IsCanonical ps → IsCanonical ((row, n) ∷ ps)
canonical_cons row n [] pos above can = pos
canonical_cons row n (q ∷ qs) pos above can = (pos, above.0, can)

-- a row weighs nothing among those after it
weight_above : (row : List Cell) (ps : Pairs) → Above row ps → weight_of row ps ≡ 0
weight_above row [] above = refl
weight_above row (p ∷ ps) above =
    sum_by-cons (λ (q : List Cell × ℕ). cond (eq_by_cmp row_cmp row q.0) q.1 0) p ps
    ∙ ap (λ o. cond (is_eq o) p.1 0 + weight_of row ps) above.0 ∙ omega (arith, weight_above row ps above.1)

pub weight_cons : (row : List Cell) (p : List Cell × ℕ) (ps : Pairs) → weight_of row (p ∷ ps) ≡ cond (eq_by_cmp row_cmp row p.0) p.1 0 + weight_of row ps
weight_cons row p ps = sum_by-cons (λ (q : List Cell × ℕ). cond (eq_by_cmp row_cmp row q.0) q.1 0) p ps

module _ (total : IsTotalOrder row_cmp) (same : (x y : List Cell) → row_cmp x y ≡ Equal → x ≡ y) where
  above_smaller : (x y : List Cell) (ps : Pairs) → row_cmp x y ≡ Less → Above y ps → Above x ps
  above_smaller x y [] less above = tt
  above_smaller x y (p ∷ ps) less above = (total.trans x y p.0 less above.0, above_smaller x y ps less above.1)

  -- in canonical order each row comes before all that follow
  above_rest : (p : List Cell × ℕ) (ps : Pairs) → IsCanonical (p ∷ ps) → Above p.0 ps
  above_rest p [] can = tt
  above_rest p (q ∷ qs) can = (can.1, above_smaller p.0 q.0 qs can.1 (above_rest q qs can.2))

  above_surplus : (row : List Cell) (more less : Pairs) → Above row more → Above row (surplus_of more less)
  above_surplus row [] less above = tt
  above_surplus row (p ∷ more) less above =
      let rest = above_surplus row more less above.1 in
      elim (nat_lt (weight_of p.0 less) p.1) as (λ b. Above row (cond b ((p.0, p.1 - weight_of p.0 less) ∷ surplus_of more less) (surplus_of more less))) [
        | true ↦ (above.0, rest)
        | false ↦ rest
      ]

  canonical_surplus : (more less : Pairs) → IsCanonical more → IsCanonical (surplus_of more less)
  canonical_surplus [] less can = tt
  canonical_surplus (p ∷ more) less can =
      let rest = canonical_surplus more less (canonical_tail p more can) in
      elim (nat_lt (weight_of p.0 less) p.1) as (λ b. nat_lt (weight_of p.0 less) p.1 ≡ b → IsCanonical (cond b ((p.0, p.1 - weight_of p.0 less) ∷ surplus_of more less) (surplus_of more less))) [
        | true ↦ λ h. canonical_cons p.0 (p.1 - weight_of p.0 less) (surplus_of more less) (omega (arith, ltb-true _ _ h)) (above_surplus p.0 more less (above_rest p more can)) rest
        | false ↦ λ h. rest
      ] refl

  weight_surplus : (row : List Cell) (more less : Pairs) → IsCanonical more → weight_of row (surplus_of more less) ≡ weight_of row more - weight_of row less
  weight_surplus row [] less can = omega arith
  weight_surplus row (p ∷ more) less can =
      let w = weight_of p.0 less in
      let rest = weight_surplus row more less (canonical_tail p more can) in
      let above = above_rest p more can in
      elim (eq_by_cmp row_cmp row p.0) as (λ t. eq_by_cmp row_cmp row p.0 ≡ t → weight_of row (surplus_of (p ∷ more) less) ≡ weight_of row (p ∷ more) - weight_of row less) [
        | true ↦ λ h. here row p more less (same_row row p.0 h) above
        | false ↦ λ h. other row p more less h rest
      ] refl
    where
      same_row : (x y : List Cell) → eq_by_cmp row_cmp x y ≡ true → x ≡ y
      same_row x y h = same x y (equal_order _ h)

      itself : (x : List Cell) → eq_by_cmp row_cmp x x ≡ true
      itself x = ap is_eq (tied_itself total x)

      here : (row : List Cell) (p : List Cell × ℕ) (more less : Pairs) → row ≡ p.0 → Above p.0 more → weight_of row (surplus_of (p ∷ more) less) ≡ weight_of row (p ∷ more) - weight_of row less
      here row p more less is above = subst (λ (r : List Cell). weight_of r (surplus_of (p ∷ more) less) ≡ weight_of r (p ∷ more) - weight_of r less) (sym is) at_itself
        where
          nothing : weight_of p.0 (surplus_of more less) ≡ 0
          nothing = weight_above p.0 (surplus_of more less) (above_surplus p.0 more less above)

          all : weight_of p.0 (p ∷ more) ≡ p.1
          all = weight_cons p.0 p more ∙ ap (λ b. cond b p.1 0 + weight_of p.0 more) (itself p.0) ∙ omega (arith, weight_above p.0 more above)

          at_itself : weight_of p.0 (surplus_of (p ∷ more) less) ≡ weight_of p.0 (p ∷ more) - weight_of p.0 less
          at_itself =
              elim (nat_lt (weight_of p.0 less) p.1) as (λ b. nat_lt (weight_of p.0 less) p.1 ≡ b → weight_of p.0 (cond b ((p.0, p.1 - weight_of p.0 less) ∷ surplus_of more less) (surplus_of more less)) ≡ weight_of p.0 (p ∷ more) - weight_of p.0 less) [
                | true ↦ λ h. weight_cons p.0 (p.0, p.1 - weight_of p.0 less) (surplus_of more less) ∙ ap (λ b. cond b (p.1 - weight_of p.0 less) 0 + weight_of p.0 (surplus_of more less)) (itself p.0) ∙ omega (arith, nothing, all)
                | false ↦ λ h. omega (arith, nothing, all, ltb-false _ _ h)
              ] refl

      other : (row : List Cell) (p : List Cell × ℕ) (more less : Pairs) → eq_by_cmp row_cmp row p.0 ≡ false
          → weight_of row (surplus_of more less) ≡ weight_of row more - weight_of row less
          → weight_of row (surplus_of (p ∷ more) less) ≡ weight_of row (p ∷ more) - weight_of row less
      other row p more less h rest =
          elim (nat_lt (weight_of p.0 less) p.1) as (λ b. weight_of row (cond b ((p.0, p.1 - weight_of p.0 less) ∷ surplus_of more less) (surplus_of more less)) ≡ weight_of row (p ∷ more) - weight_of row less) [
            | true ↦ weight_cons row (p.0, p.1 - weight_of p.0 less) (surplus_of more less) ∙ ap (λ b. cond b (p.1 - weight_of p.0 less) 0 + weight_of row (surplus_of more less)) h ∙ omega arith ∙ rest ∙ ap (λ n. n - weight_of row less) (sym all)
            | false ↦ rest ∙ ap (λ n. n - weight_of row less) (sym all)
          ]
        where
          all : weight_of row (p ∷ more) ≡ weight_of row more
          all = weight_cons row p more ∙ ap (λ b. cond b p.1 0 + weight_of row more) h ∙ omega arith

  pub is_surplus : (more less : Pairs) → IsCanonical more → IsCountedSurplus more less (surplus_of more less)
  is_surplus more less can = record { counts = λ row. weight_surplus row more less can; canonical = canonical_surplus more less can }

  -- ---- a search among rows in canonical order

  later : (o : Ordering) → o ≡ Less → is_lt (ordering_reverse o) ≡ false
  later o h = ap (λ r. is_lt (ordering_reverse r)) h

  above_at : (row : List Cell) (ps : Pairs) → Above row ps → (i : ℕ) (d : List Cell × ℕ) → i < length ps → row_cmp row (get_or ps i d).0 ≡ Less
  above_at row [] above i d lt = absurd (omega arith)
  above_at row (p ∷ ps) above zero d lt = above.0
  above_at row (p ∷ ps) above (suc i) d lt = above_at row ps above.1 i d (omega arith)

  -- neighbours stand in order
  neighbours : (ps : Pairs) → IsCanonical ps → (i : ℕ) (d : List Cell × ℕ) → i + 1 < length ps → is_lt (row_cmp (get_or ps (suc i) d).0 (get_or ps i d).0) ≡ false
  neighbours [] can i d lt = absurd (omega arith)
  neighbours (p ∷ ps) can zero d lt = ap is_lt (total.antisymm (get_or ps 0 d).0 p.0) ∙ later _ (above_at p.0 ps (above_rest p ps can) 0 d (omega arith))
  neighbours (p ∷ ps) can (suc i) d lt = neighbours ps (canonical_tail p ps can) i d (omega arith)

  comparisons_rise : (row : List Cell) (ps : Pairs) → IsCanonical ps → IsNonDecreasingBy (λ p. ordering_index (row_cmp p.0 row)) ps
  comparisons_rise row ps can = searchable_from_sorted total (λ p. p.0) ps row (λ i d le lt. subst (λ k. is_lt (row_cmp (get_or ps k d).0 (get_or ps i d).0) ≡ false) {x = suc i} (omega arith) (neighbours ps can i d lt))

  -- a row that stands among them counts what stands with it
  pub weight_at : (row : List Cell) (ps : Pairs) → IsCanonical ps → (i : ℕ) (d : List Cell × ℕ) → i < length ps → row_cmp (get_or ps i d).0 row ≡ Equal → weight_of row ps ≡ (get_or ps i d).1
  weight_at row [] can i d lt tied = absurd (omega arith)
  weight_at row (p ∷ ps) can zero d lt tied =
      let is : p.0 ≡ row = same p.0 row tied in
      subst (λ (r : List Cell). weight_of r (p ∷ ps) ≡ p.1) is
      (weight_cons p.0 p ps ∙ ap (λ o. cond (is_eq o) p.1 0 + weight_of p.0 ps) (tied_itself total p.0) ∙ omega (arith, weight_above p.0 ps (above_rest p ps can)))
  weight_at row (p ∷ ps) can (suc i) d lt tied =
      let is : (get_or ps i d).0 ≡ row = same (get_or ps i d).0 row tied in
      let before : row_cmp p.0 row ≡ Less = subst (λ (r : List Cell). row_cmp p.0 r ≡ Less) is (above_at p.0 ps (above_rest p ps can) i d (omega arith)) in
      let apart : eq_by_cmp row_cmp row p.0 ≡ false = ap is_eq (total.antisymm row p.0) ∙ ap (λ o. is_eq (ordering_reverse o)) before in
      weight_cons row p ps ∙ ap (λ b. cond b p.1 0 + weight_of row ps) apart ∙ omega (arith, weight_at row ps (canonical_tail p ps can) i d (omega arith) tied)

  -- a row that ties with none counts nothing
  weight_none : (row : List Cell) (ps : Pairs) → ((i : ℕ) (d : List Cell × ℕ) → i < length ps → is_eq (row_cmp row (get_or ps i d).0) ≡ false) → weight_of row ps ≡ 0
  weight_none row [] none = refl
  weight_none row (p ∷ ps) none = weight_cons row p ps ∙ ap (λ b. cond b p.1 0 + weight_of row ps) (none 0 p (omega arith)) ∙ omega (arith, weight_none row ps (λ i d lt. none (suc i) d (omega arith)))

  pub searched : (row : List Cell) (ps : Pairs) → IsCanonical ps → (at : ℕ) → at ≤ length ps → IsBinarySearchResult (λ p. row_cmp p.0 row) ps (Err at) → weight_of row ps ≡ 0
  searched row ps can at le result =
      let parted = result (comparisons_rise row ps can) in
      weight_none row ps (λ i d lt. elim (nat_lt i at) as (λ b. nat_lt i at ≡ b → is_eq (row_cmp row (get_or ps i d).0) ≡ false) [
        | true ↦ λ h. ap is_eq (total.antisymm row (get_or ps i d).0) ∙ ap (λ o. is_eq (ordering_reverse o)) (parted.0 i d (omega arith) (ltb-true i at h))
        | false ↦ λ h. ap is_eq (total.antisymm row (get_or ps i d).0) ∙ ap (λ o. is_eq (ordering_reverse o)) (parted.1 i d (ltb-false i at h) lt)
      ] refl)

  -- ---- rows in canonical order are known by what each weighs

  first_weight : (p : List Cell × ℕ) (ps : Pairs) → IsCanonical (p ∷ ps) → weight_of p.0 (p ∷ ps) ≡ p.1
  first_weight p ps can = weight_cons p.0 p ps ∙ ap (λ o. cond (is_eq o) p.1 0 + weight_of p.0 ps) (tied_itself total p.0) ∙ omega (arith, weight_above p.0 ps (above_rest p ps can))

  -- a row that comes before all others weighs nothing among them
  smaller_weight : (x : List Cell) (q : List Cell × ℕ) (qs : Pairs) → IsCanonical (q ∷ qs) → row_cmp x q.0 ≡ Less → weight_of x (q ∷ qs) ≡ 0
  smaller_weight x q qs can less = weight_above x (q ∷ qs) (less, above_smaller x q.0 qs less (above_rest q qs can))

  same_tail : (p : List Cell × ℕ) (ps qs : Pairs) (row : List Cell) → weight_of row (p ∷ ps) ≡ weight_of row (p ∷ qs) → weight_of row ps ≡ weight_of row qs
  same_tail p ps qs row same = omega (arith, same, weight_cons row p ps, weight_cons row p qs)

  pub same_pairs : (ps qs : Pairs) → IsCanonical ps → IsCanonical qs → ((row : List Cell) → weight_of row ps ≡ weight_of row qs) → ps ≡ qs
  same_pairs [] [] a b w = refl
  same_pairs [] (q ∷ qs) a b w =
      let none : 0 ≡ weight_of q.0 (q ∷ qs) = w q.0 in
      absurd (omega (arith, none, first_weight q qs b, canonical_counts q qs b))
  same_pairs (p ∷ ps) [] a b w =
      let none : weight_of p.0 (p ∷ ps) ≡ 0 = w p.0 in
      absurd (omega (arith, none, first_weight p ps a, canonical_counts p ps a))
  same_pairs (p ∷ ps) (q ∷ qs) a b w =
      elim (row_cmp p.0 q.0) as (λ o. row_cmp p.0 q.0 ≡ o → p ∷ ps ≡ q ∷ qs) [
        | Less ↦ λ h. absurd (omega (arith, w p.0, first_weight p ps a, canonical_counts p ps a, smaller_weight p.0 q qs b h))
        | Equal ↦ λ h. heads (same p.0 q.0 h) (λ tails. same_pairs ps qs (canonical_tail p ps a) (canonical_tail q qs b) tails)
        | Greater ↦ λ h.
            let less : row_cmp q.0 p.0 ≡ Less = total.antisymm q.0 p.0 ∙ ap ordering_reverse h in
            absurd (omega (arith, w q.0, first_weight q qs b, canonical_counts q qs b, smaller_weight q.0 p ps a less))
      ] refl
    where
      heads : p.0 ≡ q.0 → (((row : List Cell) → weight_of row ps ≡ weight_of row qs) → ps ≡ qs) → p ∷ ps ≡ q ∷ qs
      heads e rest =
          let weighs : weight_of p.0 (q ∷ qs) ≡ q.1 = subst (λ (r : List Cell). weight_of r (q ∷ qs) ≡ q.1) (sym e) (first_weight q qs b) in
          let counts : p.1 ≡ q.1 = sym (first_weight p ps a) ∙ w p.0 ∙ weighs in
          let pair : p ≡ q = λ i. (e i, counts i) in
          let with_p : (row : List Cell) → weight_of row (p ∷ ps) ≡ weight_of row (p ∷ qs) = λ row. w row ∙ ap (λ (r : List Cell × ℕ). weight_of row (r ∷ qs)) (sym pair) in
          let tails : ps ≡ qs = rest (λ row. same_tail p ps qs row (with_p row)) in
          λ i. pair i ∷ tails i
