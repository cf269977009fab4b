-- Two lists of rows in canonical order, merged row by row.
use Rattle.std.proofs.Common.{◌≡◌, ℕ, suc, ◌+◌, ◌^◌, ◌<◌, ◌≤◌, true, false, Bool, cond, List, [], ◌∷◌, ◌++◌, length, get_or, drop, refl, sym, ap, subst, ◌∙◌, arith, append_assoc, drop-cons, add-one}
use Rattle.std.specs.declared.cmp.Ordering.TheVariants.{Less, Equal}
use Rattle.std.specs.Cmp.{IsTotalOrder, tied_itself}
use Rattle.std.specs.Ordering.{eq_by_cmp}
use Rattle.std.proofs.lemmas.List.Sums.{sum_by-append}
use Rattle.cy_values.specs.declared.rows.Cell.{Cell}
use Rattle.cy_values.specs.Order.{row_cmp}
use Rattle.cy_values.specs.Bag.{weight_of, IsCanonical}
use Rattle.cy_bags.proofs.Surpluses.{Pairs, canonical_counts, weight_at, weight_cons}

weight_append : (row : List Cell) (ps qs : Pairs) → weight_of row (ps ++ qs) ≡ weight_of row ps + weight_of row qs
weight_append row ps qs = sum_by-append (λ (p : List Cell × ℕ). cond (eq_by_cmp row_cmp row p.0) p.1 0) ps qs

-- a smaller row may stand between
squeezed : (out : Pairs) (x y : List Cell × ℕ) (xs ys : Pairs) → row_cmp x.0 y.0 ≡ Less → IsCanonical (out ++ x ∷ xs) → IsCanonical (out ++ y ∷ ys) → IsCanonical (out ++ x ∷ y ∷ ys)
squeezed [] x y xs ys less a b = (canonical_counts x xs a, less, b)
squeezed (p ∷ []) x y xs ys less a b = (a.0, a.1, squeezed [] x y xs ys less (canonical_rest p (x ∷ xs) a) (canonical_rest p (y ∷ ys) b))
  where
    canonical_rest : (p : List Cell × ℕ) (ps : Pairs) → IsCanonical (p ∷ ps) → IsCanonical ps
    canonical_rest p [] can = tt
    canonical_rest p (q ∷ qs) can = can.2
squeezed (p ∷ q ∷ out) x y xs ys less a b = (a.0, a.1, squeezed (q ∷ out) x y xs ys less a.2 b.2)

-- a row may have another count
recounted : (out : Pairs) (x : List Cell × ℕ) (n : ℕ) (xs : Pairs) → 0 < n → IsCanonical (out ++ x ∷ xs) → IsCanonical (out ++ (x.0, n) ∷ xs)
recounted [] x n [] pos can = pos
recounted [] x n (y ∷ xs) pos can = (pos, can.1, can.2)
recounted (p ∷ []) x n xs pos can = (can.0, can.1, recounted [] x n xs pos can.2)
recounted (p ∷ q ∷ out) x n xs pos can = (can.0, can.1, recounted (q ∷ out) x n xs pos can.2)

-- each row counts
counts_at : (out : Pairs) (x : List Cell × ℕ) (xs : Pairs) → IsCanonical (out ++ x ∷ xs) → 0 < x.1
counts_at [] x xs can = canonical_counts x xs can
counts_at (p ∷ []) x xs can = counts_at [] x xs can.2
counts_at (p ∷ q ∷ out) x xs can = counts_at (q ∷ out) x xs can.2

-- the row at a place, and those after it
pub from_place : (ps : Pairs) (i : ℕ) (x : List Cell × ℕ) → i < length ps → x ≡ get_or ps i x → drop i ps ≡ x ∷ drop (i + 1) ps
from_place ps i x lt is = rw (add-one, drop-cons ps i x lt) (ap (λ (y : List Cell × ℕ). y ∷ drop (suc i) ps) (sym is))

-- what is merged so far, and what is left on both sides
pub record IsMerged (left right out : Pairs) (i j : ℕ) : Type 0 where
  pub in_left : i ≤ length left
  pub in_right : j ≤ length right
  pub counts : (row : List Cell) → weight_of row out + (weight_of row (drop i left) + weight_of row (drop j right)) ≡ weight_of row left + weight_of row right
  pub with_left : IsCanonical (out ++ drop i left)
  pub with_right : IsCanonical (out ++ drop j right)

abbrev put : Pairs → List Cell × ℕ → Pairs → Pairs
put out x xs = (out ++ x ∷ []) ++ xs

put_is : (out : Pairs) (x : List Cell × ℕ) (xs : Pairs) → put out x xs ≡ out ++ x ∷ xs
put_is out x xs = append_assoc out (x ∷ []) xs

-- the smaller first row goes over
module _ (left right out : Pairs) (i j : ℕ) (x y : List Cell × ℕ) (merged : IsMerged left right out i j)
    (at_left : drop i left ≡ x ∷ drop (i + 1) left) (at_right : drop j right ≡ y ∷ drop (j + 1) right) where
  can_left : IsCanonical (out ++ x ∷ drop (i + 1) left)
  can_left = subst (λ ps. IsCanonical (out ++ ps)) at_left merged.with_left

  can_right : IsCanonical (out ++ y ∷ drop (j + 1) right)
  can_right = subst (λ ps. IsCanonical (out ++ ps)) at_right merged.with_right

  one : (row : List Cell) (p : List Cell × ℕ) → weight_of row (out ++ p ∷ []) ≡ weight_of row out + cond (eq_by_cmp row_cmp row p.0) p.1 0
  one row p = weight_append row out (p ∷ []) ∙ ap (λ n. weight_of row out + n) (weight_cons row p []) ∙ omega arith

  first_left : (row : List Cell) → weight_of row (drop i left) ≡ cond (eq_by_cmp row_cmp row x.0) x.1 0 + weight_of row (drop (i + 1) left)
  first_left row = ap (weight_of row) at_left ∙ weight_cons row x (drop (i + 1) left)

  first_right : (row : List Cell) → weight_of row (drop j right) ≡ cond (eq_by_cmp row_cmp row y.0) y.1 0 + weight_of row (drop (j + 1) right)
  first_right row = ap (weight_of row) at_right ∙ weight_cons row y (drop (j + 1) right)

  pub left_first : row_cmp x.0 y.0 ≡ Less → i < length left → IsMerged left right (out ++ x ∷ []) (i + 1) j
  left_first less lt = record {
    in_left = omega arith;
    in_right = merged.in_right;
    counts = λ row. omega (arith, one row x, first_left row, merged.counts row);
    with_left = subst IsCanonical (sym (put_is out x (drop (i + 1) left))) can_left;
    with_right = subst IsCanonical (sym (put_is out x (drop j right))) (subst (λ ps. IsCanonical (out ++ x ∷ ps)) (sym at_right) (squeezed out x y (drop (i + 1) left) (drop (j + 1) right) less can_left can_right));
  }

  pub right_first : row_cmp y.0 x.0 ≡ Less → j < length right → IsMerged left right (out ++ y ∷ []) i (j + 1)
  right_first less lt = record {
    in_left = merged.in_left;
    in_right = omega arith;
    counts = λ row. omega (arith, one row y, first_right row, merged.counts row);
    with_left = subst IsCanonical (sym (put_is out y (drop i left))) (subst (λ ps. IsCanonical (out ++ y ∷ ps)) (sym at_left) (squeezed out y x (drop (j + 1) right) (drop (i + 1) left) less can_right can_left));
    with_right = subst IsCanonical (sym (put_is out y (drop (j + 1) right))) can_right;
  }

  split : (b : Bool) → cond b (x.1 + y.1) 0 ≡ cond b x.1 0 + cond b y.1 0
  split true = refl
  split false = refl

  pub both_first : x.0 ≡ y.0 → i < length left → j < length right → IsMerged left right (out ++ (x.0, x.1 + y.1) ∷ []) (i + 1) (j + 1)
  both_first is in_left in_right =
      let pos = counts_at out x (drop (i + 1) left) can_left in record {
        in_left = omega arith;
        in_right = omega arith;
        counts = λ row.
            let tied : cond (eq_by_cmp row_cmp row y.0) y.1 0 ≡ cond (eq_by_cmp row_cmp row x.0) y.1 0 = ap (λ (r : List Cell). cond (eq_by_cmp row_cmp row r) y.1 0) (sym is) in
            omega (arith, one row (x.0, x.1 + y.1), split (eq_by_cmp row_cmp row x.0), tied, first_left row, first_right row, merged.counts row);
        with_left = subst IsCanonical (sym (put_is out (x.0, x.1 + y.1) (drop (i + 1) left))) (recounted out x (x.1 + y.1) (drop (i + 1) left) (omega arith) can_left);
        with_right = subst IsCanonical (sym (put_is out (x.0, x.1 + y.1) (drop (j + 1) right)))
            (subst (λ (r : List Cell). IsCanonical (out ++ (r, x.1 + y.1) ∷ drop (j + 1) right)) (sym is) (recounted out y (x.1 + y.1) (drop (j + 1) right) (omega arith) can_right));
      }

-- two rows that are the same count no more than they do on both sides
pub both_bounded : IsTotalOrder row_cmp → ((x y : List Cell) → row_cmp x y ≡ Equal → x ≡ y) → (left right : Pairs) → IsCanonical left → IsCanonical right → (i j : ℕ) (x y : List Cell × ℕ) → i < length left → j < length right
    → x ≡ get_or left i x → y ≡ get_or right j y → row_cmp x.0 y.0 ≡ Equal → ((row : List Cell) → weight_of row left + weight_of row right < 2 ^ 64) → x.1 + y.1 < 2 ^ 64
both_bounded total same left right can_left can_right i j x y in_left in_right is_x is_y tied bounded =
    let on_left : weight_of y.0 left ≡ (get_or left i x).1 = weight_at total same y.0 left can_left i x in_left (ap (λ (p : List Cell × ℕ). row_cmp p.0 y.0) (sym is_x) ∙ tied) in
    let on_right : weight_of y.0 right ≡ (get_or right j y).1 = weight_at total same y.0 right can_right j y in_right (ap (λ (p : List Cell × ℕ). row_cmp p.0 y.0) (sym is_y) ∙ tied_itself total y.0) in
    let count_x : x.1 ≡ (get_or left i x).1 = ap (λ (p : List Cell × ℕ). p.1) is_x in
    let count_y : y.1 ≡ (get_or right j y).1 = ap (λ (p : List Cell × ℕ). p.1) is_y in
    omega (arith, bounded y.0, on_left, on_right, count_x, count_y)
