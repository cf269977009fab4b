-- Rows of which the cells that aren't needed are cleared in their places.
use Rattle.std.proofs.Common.{◌≡◌, ℕ, zero, suc, ◌+◌, ◌<◌, Bool, true, false, cond, List, [], ◌∷◌, length, take, set, refl, sym, ap, ◌∙◌, arith, add-one}
use Rattle.cy_values.specs.declared.scalars.Value.TheVariants as value
use Rattle.cy_values.specs.declared.rows.Cell.{Cell}
use Rattle.cy_values.specs.declared.rows.Cell.TheVariants as cell
use Rattle.cy_oneshot.specs.Carried.{carried_from, is_needed}
use Rattle.cy_oneshot.proofs.Carried.{row_whole}

needed_shifted : (b : Bool) (needed : List Bool) (place : ℕ) → is_needed (b ∷ needed) (place + 1) ≡ is_needed needed place
needed_shifted b needed place = ap (is_needed (b ∷ needed)) (add-one place)

-- the cells after the first
row_shifted : (b : Bool) (needed : List Bool) (place : ℕ) (row : List Cell) → carried_from (b ∷ needed) (place + 1) row ≡ carried_from needed place row
row_shifted b needed place [] = refl
row_shifted b needed place (c ∷ row) = λ j. cond (needed_shifted b needed place j) c (cell.Value value.Null) ∷ row_shifted b needed (place + 1) row j

-- one flag more, of a cell that is needed
pub kept_more : (needed : List Bool) (place : ℕ) (row : List Cell) → place < length needed → is_needed needed place ≡ true
    → carried_from (take (suc place) needed) 0 row ≡ carried_from (take place needed) 0 row
kept_more [] place row less is = absurd (omega arith)
kept_more (b ∷ needed) place [] less is = refl
kept_more (b ∷ needed) zero (c ∷ row) less is = λ j. cond (is j) c (cell.Value value.Null) ∷ (row_shifted b [] 0 row ∙ row_whole 0 row ∙ sym (row_whole 1 row)) j
kept_more (b ∷ needed) (suc place) (c ∷ row) less is =
    ap (λ (cells : List Cell). cond b c (cell.Value value.Null) ∷ cells)
    (row_shifted b (take (suc place) needed) 0 row ∙ kept_more needed place row (omega arith) is ∙ sym (row_shifted b (take place needed) 0 row))

-- one flag more, of a cell that isn't
pub cleared_more : (needed : List Bool) (place : ℕ) (row : List Cell) → place < length needed → is_needed needed place ≡ false
    → carried_from (take (suc place) needed) 0 row ≡ set (carried_from (take place needed) 0 row) place (cell.Value value.Null)
cleared_more [] place row less is = absurd (omega arith)
cleared_more (b ∷ needed) place [] less is = refl
cleared_more (b ∷ needed) zero (c ∷ row) less is = λ j. cond (is j) c (cell.Value value.Null) ∷ (row_shifted b [] 0 row ∙ row_whole 0 row ∙ sym (row_whole 1 row)) j
cleared_more (b ∷ needed) (suc place) (c ∷ row) less is =
    ap (λ (cells : List Cell). cond b c (cell.Value value.Null) ∷ cells)
    (row_shifted b (take (suc place) needed) 0 row
    ∙ cleared_more needed place row (omega arith) is
    ∙ ap (λ (cells : List Cell). set cells place (cell.Value value.Null)) (sym (row_shifted b (take place needed) 0 row)))
