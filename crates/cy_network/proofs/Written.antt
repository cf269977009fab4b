-- Counts of rows that are written over others.
use Rattle.std.proofs.Common.{◌≡◌, ℕ, Bool, true, false, cond, List, [], ◌∷◌, ◌++◌, Option, unwrap_or, refl, sym, ap, subst, ◌∙◌}
use Rattle.cy_values.specs.declared.rows.Cell.{Cell}
use Rattle.cy_values.specs.Same.{is_row}
use Rattle.cy_network_memory.specs.Counts.{Counts, with_count}
use Rattle.cy_network_memory.specs.internal.Maps.{at_row}
use Rattle.cy_network_parts.specs.Counted.{ArePositive, IsPositive, counted, written}

-- one more is written over those
pub written_more : (next : List (List Cell × ℕ)) (e : List Cell × ℕ) (before : Counts) → written (next ++ e ∷ []) before ≡ with_count e.0 e.1 (written next before)
written_more [] e before = refl
written_more (x ∷ next) e before = written_more next e (with_count x.0 x.1 before)

either : (b : Bool) (w found : Option ℕ) → unwrap_or (cond b w found) 0 ≡ cond b (unwrap_or w 0) (unwrap_or found 0)
either true w found = refl
either false w found = refl

-- what rows count in a map after what is under one of them was changed
pub counted_put : (row : List Cell) (w : Option ℕ) (old new : List (List Cell × ℕ))
    → ((other : List Cell) → at_row other new ≡ cond (is_row row other) w (at_row other old))
    → (other : List Cell) → counted new other ≡ with_count row (unwrap_or w 0) (counted old) other
counted_put row w old new changed other = ap (λ o. unwrap_or o 0) (changed other) ∙ either (is_row row other) w (at_row other old)

kept : (b : Bool) (w found : Option ℕ) → IsPositive w → IsPositive found → IsPositive (cond b w found)
kept true w found p q = p
kept false w found p q = q

-- none of them counts 0 then
pub positive_put : (row : List Cell) (w : Option ℕ) (old new : List (List Cell × ℕ)) → IsPositive w → ArePositive old
    → ((other : List Cell) → at_row other new ≡ cond (is_row row other) w (at_row other old)) → ArePositive new
positive_put row w old new some positive changed other = subst IsPositive (sym (changed other)) (kept (is_row row other) w (at_row other old) some (positive other))
