-- The rows of a plan that serves a query are the rows of the query.
use Rattle.std.proofs.Common.{◌≡◌, ℕ, ◌<◌, ◌≤◌, nat_lt, List, [], ◌∷◌, Option, Some, None, Result, Ok, Err, true, false, cond, refl, sym, ap, subst, ◌∙◌, arith}
use Rattle.std.specs.Prelude.{◌↔◌, IsErrOf}
use Rattle.std.specs.Result.{result_unwrap_or}
use Rattle.std.proofs.lemmas.Bool.Decides.{nat_tests}
use Rattle.std.specs.Cmp.{IsTotalOrder, tied_itself}
use Rattle.std.specs.Ordering.{eq_by_cmp, is_eq}
use Rattle.std.proofs.lemmas.List.Sums.{sum_by-cons}
use Rattle.cy_trees.specs.Trees.{Statement}
use Rattle.cy_trees.specs.TreeModels.{statement_of}
use Rattle.cy_values.specs.declared.rows.Cell.{Cell}
use Rattle.cy_values.specs.Bag.{IsBagOf, IsCanonical, IsSameBag, IsSurplus, weight_of}
use Rattle.cy_values.specs.Order.{row_cmp}
use Rattle.cy_graph.specs.Graph.{Content, State}
use Rattle.cy_expr.specs.declared.faults.EvalFault.{EvalFault}
use Rattle.cy_oneshot_patterns.specs.Outcomes.{IsSameOutcome}
use Rattle.cy_oneshot_meaning.specs.Queries.{statement_rows}
use Rattle.cy_bags.specs.declared.changes.Change.{Change}
use Rattle.cy_bags.specs.Difference.{IsDifference, is_nothing}
use Rattle.cy_network_memory.specs.declared.faults.MemoryFault.{MemoryFault}
use Rattle.cy_network_memory.specs.declared.faults.MemoryFault.TheVariants as memory
use Rattle.cy_network.specs.Networks.{HasTooManyRows}
use Rattle.cy_planner_algebra.specs.declared.operators.Operator.{Operator}
use Rattle.cy_planner_algebra.specs.PlanModels.{plan_of}
use Rattle.cy_planner_algebra.specs.Plans.{Plan}
use Rattle.cy_planner_algebra.specs.Meaning as plans
use Rattle.cy_planner.specs.declared.faults.PlanFault.{PlanFault}
use Rattle.cy_planner.specs.declared.faults.PlanFault.TheVariants as planning
use Rattle.cy_planner.specs.Serves.{Serves}
use Rattle.cy_planner.specs.Weight.{greatest_weight, weight}
use Rattle.cy_engine_views.specs.Faults.{of_memory, of_plan}
use Rattle.cy_engine_views.specs.declared.faults.UpkeepFault.{UpkeepFault}
use Rattle.cy_engine_views.specs.declared.faults.UpkeepFault.TheVariants as upkeep
use Rattle.cy_engine_views.specs.declared.rows.QueryRows.{QueryRows}
use Rattle.cy_engine_views.specs.Upkeep.{CannotFollow, CannotFollowBy, IsHeldByGraph, IsItsChange, IsPrepared, IsUnkept, SomeHasTooManyRows, StandsFor, Upkeep, network_of}
use Rattle.cy_engine_views.specs.RegisteredViews.{AreRowsOf, rows_of}

same_outcome : (rows : List (List Cell)) (meant : Result (List (List Cell)) EvalFault) → IsSameOutcome (Ok rows) meant → IsSameBag rows (result_unwrap_or meant [])
same_outcome rows (Ok others) same = same
same_outcome rows (Err fault) same = absurd same

pub same_rows : (plan : Plan) (query : Statement) (graph : Content) → Serves plan query → IsHeldByGraph graph → IsSameBag (plans.rows_of graph plan) (rows_of query graph)
same_rows plan query graph serves (state, is, same) =
    subst (λ (c : Content). IsSameBag (plans.rows_of c plan) (rows_of query c)) same (same_outcome (plans.rows_of state.content plan) (statement_rows state.content query) (serves.rows state is))

-- the difference of two bags is that of the same bags
same_difference : (before after olds news : List (List Cell)) (change : Change) → IsSameBag before olds → IsSameBag after news → IsDifference before after change → IsDifference olds news change
same_difference before after olds news change old new difference = record {
  removed = record { counts = λ row. omega (arith, difference.removed.counts row, old row, new row); canonical = difference.removed.canonical };
  added = record { counts = λ row. omega (arith, difference.added.counts row, old row, new row); canonical = difference.added.canonical };
}

-- what is pending is the difference of the query's rows
module _ (rows : QueryRows) (before after : State) (prepared : IsPrepared rows before after) where
  pub pending_difference : (change : Change) → (network_of rows).pending ≡ Some change → IsDifference (rows_of (statement_of rows.query) before.content) (rows_of (statement_of rows.query) after.content) change
  pending_difference change is =
      let same : prepared.network.change ≡ change = same_some prepared.network.change change (sym prepared.network.pending ∙ is) in
      subst (λ (c : Change). IsDifference (rows_of (statement_of rows.query) before.content) (rows_of (statement_of rows.query) after.content) c) same
      (same_difference _ _ _ _ prepared.network.change
      (same_rows (network_of rows).plan (statement_of rows.query) before.content prepared.serves prepared.from_graph)
      (same_rows (network_of rows).plan (statement_of rows.query) after.content prepared.serves prepared.to_graph)
      prepared.network.difference)
    where
      same_some : (a b : Change) → (let o : Option Change = Some a in o) ≡ Some b → a ≡ b
      same_some a b e = cc

-- the rows of a network that stands for a graph are those of the query
pub counted_rows : (rows : QueryRows) (graph : Content) (pairs : List (List Cell × ℕ)) → StandsFor rows graph → IsBagOf (plans.rows_of graph (network_of rows).plan) pairs → IsCanonical pairs
    → AreRowsOf (statement_of rows.query) graph pairs
counted_rows rows graph pairs stands bag canonical = record {
  bag = λ row. bag row ∙ same_rows (network_of rows).plan (statement_of rows.query) graph stands.serves stands.is_graph row;
  canonical = canonical;
}

-- ---- whether anything changes

module _ (before after : List (List Cell)) (change : Change) (difference : IsDifference before after change) where
  -- the bags are the same where neither has a surplus
  no_surplus : change.removed ≡ [] → change.added ≡ [] → IsSameBag before after
  no_surplus removed added row =
      let gone : weight_of row change.removed ≡ 0 = ap (weight_of row) removed in
      let come : weight_of row change.added ≡ 0 = ap (weight_of row) added in
      omega (arith, gone, come, difference.removed.counts row, difference.added.counts row)

  pub nothing_changes : is_nothing change ≡ true → IsItsChange None before after
  nothing_changes nothing = from change.removed change.added refl refl nothing
    where
      from : (removed added : List (List Cell × ℕ)) → change.removed ≡ removed → change.added ≡ added → is_nothing (record { removed = removed; added = added }) ≡ true → IsSameBag before after
      from [] [] gone come is = no_surplus gone come
      from (p ∷ ps) added gone come is = cc
      from [] (p ∷ ps) gone come is = cc

  module _ (total : IsTotalOrder row_cmp) where
    -- rows in canonical order count, so a bag has a surplus where they are there
    counts_first : (p : List Cell × ℕ) (ps : List (List Cell × ℕ)) → IsCanonical (p ∷ ps) → 0 < weight_of p.0 (p ∷ ps)
    counts_first p ps can =
        let first = sum_by-cons (λ (q : List Cell × ℕ). cond (eq_by_cmp row_cmp p.0 q.0) q.1 0) p ps in
        let here : cond (eq_by_cmp row_cmp p.0 p.0) p.1 0 ≡ p.1 = ap (λ o. cond (is_eq o) p.1 0) (tied_itself total p.0) in
        omega (arith, first, here, counted p ps can)
      where
        counted : (p : List Cell × ℕ) (ps : List (List Cell × ℕ)) → IsCanonical (p ∷ ps) → 0 < p.1
        counted p [] can = can
        counted p (q ∷ qs) can = can.0

    not_same : (more less : List (List Cell)) (p : List Cell × ℕ) (ps : List (List Cell × ℕ)) → IsSurplus more less (p ∷ ps) → IsSameBag more less → ⊥
    not_same more less p ps above same = omega (arith, counts_first p ps above.canonical, above.counts p.0, same p.0)

    pub something_changes : (is_nothing change ≡ true → ⊥) → IsItsChange (Some change) before after
    something_changes some = (from change.removed change.added refl refl difference.removed difference.added some, difference)
      where
        from : (removed added : List (List Cell × ℕ)) → change.removed ≡ removed → change.added ≡ added → IsSurplus before after removed → IsSurplus after before added
            → (is_nothing (record { removed = removed; added = added }) ≡ true → ⊥) → IsSameBag before after → ⊥
        from [] [] gone come less more some same = some refl
        from (p ∷ ps) added gone come less more some same = not_same before after p ps less same
        from [] (p ∷ ps) gone come less more some same = not_same after before p ps more (λ row. sym (same row))

-- ---- why there are no rows

module _ (query : Statement) (graph : Content) where
  -- a query that isn't planned
  pub unplanned : (result : Result Operator PlanFault) (why : PlanFault) → result ≡ Err why → (IsErrOf result planning.PlanTooLarge ↔ (greatest_weight < weight query)) → IsUnkept query graph (of_plan why)
  unplanned result planning.PlanTooLarge is heavy = heavy.0 is
  unplanned result planning.NoMemory is heavy = tt

  -- one that is weighs no more than it may
  pub light : (result : Result Operator PlanFault) (p : Operator) → result ≡ Ok p → (IsErrOf result planning.PlanTooLarge ↔ (greatest_weight < weight query)) → weight query ≤ greatest_weight
  light result p is heavy =
      elim (nat_lt greatest_weight (weight query)) as (λ b. nat_lt greatest_weight (weight query) ≡ b → weight query ≤ greatest_weight) [
        | true ↦ λ above. absurd (no_fault (heavy.1 (grind (arith, nat_tests))))
        | false ↦ λ below. grind (arith, nat_tests)
      ] refl
    where
      no_fault : result ≡ Err planning.PlanTooLarge → ⊥
      no_fault refused = let wrong : Ok p ≡ Err planning.PlanTooLarge = sym is ∙ refused in cc

  -- a plan whose rows count too much
  pub unbuilt : (p : Operator) (why : MemoryFault) → weight query ≤ greatest_weight → Serves (plan_of p) query → (why ≡ memory.TooManyRows → HasTooManyRows graph (plan_of p)) → IsUnkept query graph (of_memory why)
  unbuilt p memory.TooManyRows few serves many = (few, (plan_of p, serves, many refl))
  unbuilt p memory.NoMemory few serves many = tt

-- rows that can't follow a change
pub unprepared : (p : Plan) (graph : Content) (why : MemoryFault) → (why ≡ memory.TooManyRows → HasTooManyRows graph p) → CannotFollowBy p graph (of_memory why)
unprepared p graph memory.TooManyRows many = many refl
unprepared p graph memory.NoMemory many = tt

-- of one of all views
pub follows_not : (p : Plan) (us : List Upkeep) (graph : Content) (why : UpkeepFault) → (HasTooManyRows graph p → SomeHasTooManyRows graph us) → CannotFollowBy p graph why → CannotFollow us graph why
follows_not p us graph upkeep.PlanTooLarge some cannot = absurd cannot
follows_not p us graph upkeep.TooManyRows some cannot = some cannot
follows_not p us graph upkeep.NoMemory some cannot = tt
