-- Whether a row that is kept is another one, cell by cell.
use Rattle.std.proofs.Common.{◌≡◌, ℕ, ◌+◌, ◌<◌, ◌≤◌, Bool, true, false, List, Option, None, Some, length, get_or, slice_get, nat_eq, nat_lt, nat_le, refl, sym, ap, subst, ◌∙◌, arith}
use Rattle.std.specs.Option.{option_map_or}
use Rattle.std.proofs.lemmas.Bool.{eqb-true, ltb-true, ltb-false, eqb-false}
use Rattle.std.proofs.lemmas.Bool.Decides.{nat_tests}
use Rattle.std.proofs.lemmas.Option.{slice_get_past, slice_get_read}
use Rattle.cy_values.specs.declared.rows.Cell.{Cell}
use Rattle.cy_values.specs.Same.{is_row, is_cell}
use Rattle.cy_network_columns.proofs.Elements.{same_elements}
use Rattle.cy_values.proofs.SameRows.{cell_is_itself, cell_same, row_itself, rows_apart}
use Rattle.cy_network_columns.proofs.Ranks.{true_false}

module _ (row self cells : List Cell) (place : ℕ) (x : Cell) (same : cells ≡ row) (inside : place < length cells) (is : x ≡ get_or cells place x) where
  there : slice_get row place ≡ Some x
  there = ap (λ (xs : List Cell). slice_get xs place) (sym same) ∙ slice_get_read cells (length cells) place x refl inside is

  -- a cell that differs
  pub differs : option_map_or (λ mine. is_cell x mine) (slice_get self place) false ≡ false → false ≡ is_row row self
  differs off = sym (rows_apart row self (λ e. true_false (sym (ap (λ o. option_map_or (λ mine. is_cell x mine) o false) (ap (λ (r : List Cell). slice_get r place) (sym e) ∙ there) ∙ cell_is_itself x) ∙ off)))

  -- one cell more is the same
  pub one_same : ((p : ℕ) → p < place → slice_get self p ≡ slice_get row p) → option_map_or (λ mine. is_cell x mine) (slice_get self place) false ≡ true
      → (p : ℕ) → p < place + 1 → slice_get self p ≡ slice_get row p
  one_same before on p less = by (nat_eq place p) refl
    where
      here : (o : Option Cell) → option_map_or (λ mine. is_cell x mine) o false ≡ true → o ≡ Some x
      here None e = cc
      here (Some y) e = ap Some (sym (cell_same x y e))

      by : (b : Bool) → nat_eq place p ≡ b → slice_get self p ≡ slice_get row p
      by true e = subst (λ (q : ℕ). slice_get self q ≡ slice_get row q) (eqb-true place p e) (here (slice_get self place) on ∙ sym there)
      by false e = before p (omega (arith, less, eqb-false place p e))

-- all cells are the same: the row is this one unless it goes on
pub all_same : (row self cells : List Cell) (place : ℕ) (result : Bool) → cells ≡ row → length cells ≤ place → ((p : ℕ) → p < place → slice_get self p ≡ slice_get row p)
    → result ≡ nat_le (length self) (length cells) → result ≡ is_row row self
all_same row self cells place result same past before told = told ∙ by (nat_lt (length cells) (length self)) refl
  where
    not_more : (a b : ℕ) → b ≤ a → nat_le b a ≡ true
    not_more a b le = grind (arith, nat_tests)

    more : (a b : ℕ) → a < b → nat_le b a ≡ false
    more a b lt = grind (arith, nat_tests)

    by : (b : Bool) → nat_lt (length cells) (length self) ≡ b → nat_le (length self) (length cells) ≡ is_row row self
    by true e =
        more (length cells) (length self) (ltb-true (length cells) (length self) e)
        ∙ sym (rows_apart row self (λ it. omega (arith, ap length it, ap length same, ltb-true (length cells) (length self) e)))
    by false e =
        let it : row ≡ self = same_elements row self (λ p. each p (nat_lt p place) refl) in
        not_more (length cells) (length self) (ltb-false (length cells) (length self) e) ∙ sym (ap (is_row row) (sym it) ∙ row_itself row)
      where
        each : (p : ℕ) (b : Bool) → nat_lt p place ≡ b → slice_get row p ≡ slice_get self p
        each p true f = sym (before p (ltb-true p place f))
        each p false f =
            slice_get_past row p (omega (arith, past, ap length same, ltb-false p place f))
            ∙ sym (slice_get_past self p (omega (arith, past, ltb-false p place f, ltb-false (length cells) (length self) e)))
