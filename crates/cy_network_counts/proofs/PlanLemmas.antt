-- What the parts of a plan give an outer join of them.
use Rattle.std.proofs.Common.{◌≡◌, ℕ, ◌+◌, ◌*◌, ◌<◌, ◌≤◌, ◌==◌, Bool, true, false, cond, ◌&&◌, List, [], ◌∷◌, ◌++◌, Option, Some, None, IfSome, length, refl, sym, ap, subst, ◌∙◌, suc, zero, arith}
use Rattle.std.specs.Prelude.{count_by}
use Rattle.std.specs.Option.{option_map}
use Rattle.std.specs.List.{All}
use Rattle.std.proofs.lemmas.Bool.Decides.{nat_tests}
use Rattle.std.proofs.lemmas.List.Elements.{All-append, All-head, All-tail}
use Rattle.cy_values.specs.declared.rows.Cell.{Cell}
use Rattle.cy_values.specs.Bag.{count_of}
use Rattle.cy_trees.specs.Trees.{Expression}
use Rattle.cy_graph.specs.Graph.{Content, IsGraph, State}
use Rattle.cy_expr.specs.Lookups.{IsNumbered}
use Rattle.cy_values.specs.Same.{is_row}
use Rattle.cy_values.proofs.SameRows.{same_row}
use Rattle.cy_network_memory.specs.Counts.{greatest_count}
use Rattle.cy_planner_algebra.specs.declared.operators.KeyColumns.{KeyColumns}
use Rattle.cy_planner_algebra.specs.Expressions.{holds}
use Rattle.cy_planner_algebra.specs.Keys.{meet}
use Rattle.cy_planner_algebra.specs.Meaning.{is_partner, nulls, rows_of}
use Rattle.cy_planner_algebra.specs.Plans as plan
use Rattle.cy_planner_algebra.specs.Plans.{Plan, width}
use Rattle.cy_planner_algebra.specs.Sure.{HasTruth, IsSure}
use Rattle.cy_planner_algebra.specs.WellFormed.{IsWellFormed}
use Rattle.cy_planner_algebra.proofs.Counts.{count_cons}
use Rattle.cy_planner_algebra.proofs.Numbers.{numbered_rows}
use Rattle.cy_planner_algebra.proofs.PartCounts.{join_counts, outer_counts}
use Rattle.cy_network_operators.specs.Deltas.{counts, rows_at}
use Rattle.cy_network_operators.proofs.PlanLemmas.{parts_wide}
use Rattle.cy_network_counts.specs.Outer.{AreSurePairs, HasTooMany}
use Rattle.cy_network_counts.proofs.JoinedLemmas.{some_pass}
use Rattle.cy_network_counts.proofs.Naturals.{factors}

-- what holds of all rows holds of each that counts
pub of_counted : (P : List Cell → Type 0) (rows : List (List Cell)) → All P rows → (row : List Cell) → 0 < count_of row rows → P row
of_counted P [] all row some = absurd (omega (arith, some))
of_counted P (x ∷ xs) all row some = step (is_row row x) refl (of_counted P xs (All-tail P x xs all) row)
  where
    step : (b : Bool) → is_row row x ≡ b → (0 < count_of row xs → P row) → P row
    step true is rest = subst P (sym (same_row row x is)) (All-head P x xs all)
    step false is rest =
        rest (subst (λ n. 0 < n) (count_cons row x xs ∙ ap (λ b. cond b 1 0 + count_of row xs) is ∙ (let e : 0 + count_of row xs ≡ count_of row xs = omega arith in e)) some)

module _ (left right : Plan) (keys : List KeyColumns) (test : Expression) (good : IsWellFormed (plan.outer left right keys test)) where
  abbrev whole : Plan
  whole = plan.outer left right keys test

  -- a row of the left part that counts is as wide as all of them
  wide : (graph : Content) (row : List Cell) → 0 < count_of row (rows_of graph left) → length row ≡ width left
  wide graph row some = parts_wide (Some graph) (Some graph) left good.0 row (omega (arith, some))

  -- a pair of partners that counts does so in the outer join
  pair_count : (graph : Content) (row other : List Cell) → 0 < count_of row (rows_of graph left) → 0 < count_of other (rows_of graph right) → is_partner keys test row other ≡ true
      → count_of (row ++ other) (rows_of graph whole) ≡ count_of row (rows_of graph left) * count_of other (rows_of graph right)
  pair_count graph row other first second is =
      outer_counts graph left right keys test row other good.0 (wide graph row first)
      ∙ ap (λ b. count_of row (rows_of graph left) * cond b (cond (is_row other (nulls (width right))) 1 0) (cond (is_partner keys test row other) (count_of other (rows_of graph right)) 0))
      (found (count_by (is_partner keys test row) (rows_of graph right)) (some_pass (is_partner keys test row) other (rows_of graph right) is second))
      ∙ ap (λ b. count_of row (rows_of graph left) * cond b (count_of other (rows_of graph right)) 0) is
    where
      found : (n : ℕ) → 0 < n → (n == 0) ≡ false
      found n some = grind (arith, nat_tests)

  pub plan_too_many : (graph : Content) → HasTooMany keys test (counts (rows_of graph left)) (counts (rows_of graph right))
      → (row : List Cell) × (greatest_count < counts (rows_of graph whole) row)
  plan_too_many graph (row, (other, (is, more))) =
      let some = factors (count_of row (rows_of graph left)) (count_of other (rows_of graph right)) (omega (arith, more)) in
      (row ++ other, subst (λ n. greatest_count < n) (sym (pair_count graph row other some.0 some.1 is)) more)

  abbrev of : Option State → Plan → List (List Cell)
  of graph p = rows_at (option_map (λ s. s.content) graph) p

  module _ (sure : IsSure whole) where
    -- on a graph, the predicate has a truth on a pair with the same key, and what the pair names has numbers
    pair_sure : (graph : Option State) → IfSome graph IsGraph → (row other : List Cell) → 0 < count_of row (of graph left) * count_of other (of graph right) → meet keys row other ≡ true
        → HasTruth test (row ++ other) × All IsNumbered (row ++ other)
    pair_sure None is row other some meets = absurd (omega (arith, some))
    pair_sure (Some state) is row other some meets =
        let parts = factors (count_of row (rows_of state.content left)) (count_of other (rows_of state.content right)) some in
        let counted : count_of (row ++ other) (rows_of state.content (plan.join left right keys)) ≡ count_of row (rows_of state.content left) * count_of other (rows_of state.content right)
        = join_counts state.content left right keys row other good.0 (wide state.content row parts.0)
        ∙ ap (λ b. cond b (count_of row (rows_of state.content left) * count_of other (rows_of state.content right)) 0) meets in (
          of_counted (HasTruth test) (rows_of state.content (plan.join left right keys)) (sure state is).2 (row ++ other) (subst (λ n. 0 < n) (sym counted) some),
          All-append IsNumbered row other
              (of_counted (λ r. All IsNumbered r) (rows_of state.content left) (numbered_rows state is left) row parts.0)
              (of_counted (λ r. All IsNumbered r) (rows_of state.content right) (numbered_rows state is right) other parts.1),
        )

    -- a pair of partners counts no more often than the outer join may
    pair_within : (graph : Option State) (most : ℕ) → ((row : List Cell) → counts (of graph whole) row ≤ most) → (row other : List Cell) → is_partner keys test row other ≡ true
        → count_of row (of graph left) * count_of other (of graph right) ≤ most
    pair_within None most within row other is = omega arith
    pair_within (Some state) most within row other is = by (count_of row (rows_of state.content left) * count_of other (rows_of state.content right)) refl
      where
        by : (n : ℕ) → count_of row (rows_of state.content left) * count_of other (rows_of state.content right) ≡ n
            → count_of row (rows_of state.content left) * count_of other (rows_of state.content right) ≤ most
        by zero none = omega (arith, none)
        by (suc n) more =
            let parts = factors (count_of row (rows_of state.content left)) (count_of other (rows_of state.content right)) (omega (arith, more)) in
            subst (λ k. k ≤ most) (pair_count state.content row other parts.0 parts.1 is) (within (row ++ other))

    pub plan_sure : (old new : Option State) → IfSome old IsGraph → IfSome new IsGraph → ((row : List Cell) → counts (of old whole) row ≤ greatest_count)
        → AreSurePairs keys test (counts (of old left)) (counts (of new left)) (counts (of old right)) (counts (of new right))
    plan_sure old new old_is new_is within row other some meets = record { truth = facts.0; numbered = facts.1; within = limit }
      where
        facts : HasTruth test (row ++ other) × All IsNumbered (row ++ other)
        facts = by (count_of row (of old left) * count_of other (of old right)) refl
          where
            by : (n : ℕ) → count_of row (of old left) * count_of other (of old right) ≡ n → HasTruth test (row ++ other) × All IsNumbered (row ++ other)
            by zero none = pair_sure new new_is row other (omega (arith, some, none)) meets
            by (suc n) more = pair_sure old old_is row other (omega (arith, more)) meets

        limit : holds test (row ++ other) ≡ true → count_of row (of old left) * count_of other (of old right) ≤ greatest_count
        limit is = pair_within old greatest_count within row other (ap (λ b. b && holds test (row ++ other)) meets ∙ is)
