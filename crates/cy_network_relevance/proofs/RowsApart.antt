-- Parts of a plan that are apart have no row in common.
use Rattle.std.proofs.Common.{◌≡◌, ℕ, ◌+◌, ◌<◌, ◌≤◌, Bool, true, false, cond, List, [], ◌∷◌, Option, None, Some, refl, sym, subst, ◌∙◌, inl, inr, arith}
use Rattle.std.specs.Prelude.{◌⊎◌, ◌||◌}
use Rattle.std.specs.List.{All}
use Rattle.std.proofs.lemmas.Bool.{cases_lt, false≢true, ltb-true}
use Rattle.std.proofs.lemmas.List.Elements.{All-head, All-tail}
use Rattle.cy_values.specs.declared.rows.Cell.{Cell}
use Rattle.cy_values.specs.Bag.{count_of}
use Rattle.cy_planner_algebra.specs.Plans.{Plan}
use Rattle.cy_planner_algebra.specs.Meaning.{rows_of}
use Rattle.cy_planner_algebra.specs.WellFormed.{IsWellFormed}
use Rattle.cy_planner_algebra.proofs.Counts.{count_cons, identity, same}
use Rattle.cy_network_relevance.specs.Lists.{IsAtMost, IsInOne, are_apart, is_above, least_named, most_named, named}
use Rattle.cy_network_relevance.proofs.Bounds.{IsBetween, bounds}

-- a row of which that isn't so that is so of all rows isn't among them
none_counted : (P : List Cell → Type 0) (rows : List (List Cell)) → All P rows → (row : List Cell) → (P row → ⊥) → count_of row rows ≡ 0
none_counted P [] all row never = refl
none_counted P (x ∷ xs) all row never = count_cons row x xs ∙ step (same row x) refl (none_counted P xs (All-tail P x xs all) row never)
  where
    step : (b : Bool) → same row x ≡ b → count_of row xs ≡ 0 → cond b 1 0 + count_of row xs ≡ 0
    step true is rest = absurd (never (subst P (sym (identity row x is)) (All-head P x xs all)))
    step false is rest = omega (arith, rest)

module _ (shorter longer : Plan) (shorter_good : IsWellFormed shorter) (longer_good : IsWellFormed longer) (row : List Cell) where
  in_one : is_above (least_named longer 0) (most_named shorter 0) ≡ true → IsInOne shorter longer row
  in_one above = by (most_named shorter 0) refl above
    where
      by : (most : Option ℕ) → most_named shorter 0 ≡ most → is_above (least_named longer 0) most ≡ true → IsInOne shorter longer row
      by None is over = absurd (false≢true over)
      by (Some most) is over = choose (cases_lt most (named 0 row))
        where
          less : most < least_named longer 0
          less = ltb-true most (least_named longer 0) over

          choose : (most < named 0 row) ⊎ (named 0 row ≤ most) → IsInOne shorter longer row
          choose (inl many) =
              inl (λ graph. none_counted (λ r. IsBetween (least_named shorter 0) (most_named shorter 0) (named 0 r)) (rows_of graph shorter) (bounds graph shorter shorter_good 0) row
              (λ between. let few : named 0 row ≤ most = subst (λ m. IsAtMost m (named 0 row)) is between.below in absurd (omega (arith, few, many))))
          choose (inr few) =
              inr (λ graph. none_counted (λ r. IsBetween (least_named longer 0) (most_named longer 0) (named 0 r)) (rows_of graph longer) (bounds graph longer longer_good 0) row
              (λ between. let many = between.above in absurd (omega (arith, few, many, less))))

turned : (left right : Plan) (row : List Cell) → IsInOne left right row → IsInOne right left row
turned left right row (inl none) = inr none
turned left right row (inr none) = inl none

pub in_one_part : (left right : Plan) → IsWellFormed left → IsWellFormed right → are_apart left right ≡ true → (row : List Cell) → IsInOne left right row
in_one_part left right left_good right_good apart row = by (is_above (least_named right 0) (most_named left 0)) refl apart
  where
    by : (b : Bool) → is_above (least_named right 0) (most_named left 0) ≡ b → (b || is_above (least_named left 0) (most_named right 0)) ≡ true → IsInOne left right row
    by true is either = in_one left right left_good right_good row is
    by false is either = turned right left row (in_one right left right_good left_good row either)
