use Rattle.std.proofs.Common.{◌≡◌, ℕ, List, Option, Some, Result, Ok, filter, map, refl, ap, sym, subst, ◌∙◌}
use Rattle.std.specs.Prelude.{IsErr, IsErrAnd, sum_by}
use Rattle.std.specs.declared.alloc.Global.{Global}
use Rattle.std.specs.declared.vec.Vec.{Vec}
use Rattle.std.proofs.lemmas.Result.{IfOk-from_err}
use Rattle.std.specs.List.{All}
use Rattle.cy_values.specs.declared.rows.Cell.{Cell}
use Rattle.cy_values.proofs.Naturals.{no_less}
use Rattle.cy_trees.specs.Trees.{Expression}
use Rattle.cy_trees.specs.TreeModels.{expression_of}
use Rattle.cy_graph.specs.Graph.{State}
use Rattle.cy_index.specs.Index.{SightState}
use Rattle.cy_expr.specs.Lookups.{IsNumbered}
use Rattle.cy_expr.specs.Graphs.{are_different}
use Rattle.cy_network_memory.specs.Counts.{Counts}
use Rattle.cy_network_memory.specs.declared.faults.MemoryFault.{MemoryFault}
use Rattle.cy_network_memory.specs.declared.faults.MemoryFault.TheVariants.{NoMemory}
use Rattle.cy_planner_algebra.specs.declared.operators.Operator.TheFolds.{fold-roll-Operator}
use Rattle.cy_planner_algebra.specs.declared.operators.Operator.TheVariants.{rolls-AllDifferent, rolls-Distinct, rolls-Filter}
use Rattle.cy_planner_algebra.specs.Plans as plan
use Rattle.cy_planner_algebra.specs.Plans.{Plan}
use Rattle.cy_planner_algebra.specs.Expressions.{holds, relationships_at}
use Rattle.cy_planner_algebra.specs.Meaning.{each_once}
use Rattle.cy_planner_algebra.specs.Sure.{HasTruth}
use Rattle.cy_planner_algebra.specs.PlanModels.{plan_of, plan_step}
use Rattle.cy_network_memory.specs.declared.memory.Memory.{Ghosts}
use Rattle.cy_network_memory.specs.declared.memory.RowDelta.{RowDelta}
use Rattle.cy_network_operators.specs.Deltas.{IsBounded, IsDelta, counts, rows_at}
use Rattle.cy_network_sources.specs.Changes.{Touches}
use Rattle.cy_network_sources.specs.Work.{own_reads, own_steps}
use Rattle.cy_network_parts.specs.internal.Upkeep.{IsFed, IsOwnDone, content_of}
use Rattle.cy_network_parts.proofs.Outcomes.{if_err_more, if_ok_from, if_ok_more}
use Rattle.cy_network_parts.proofs.Refusals.{if_memory}
use Rattle.cy_network_parts.proofs.Taken.{grown_none}
use Rattle.cy_network_changes.specs.internal.OperatorsKeptUp.{FedRows, IsKeptUpReading}
use Rattle.cy_network_changes.proofs.OwnSingles.{different_done, distinct_done, filter_done, filter_sure}
use Rattle.cy_network_changes.proofs.Shifted.{row_delta_numbers}
use Rattle.cy_network_changes.proofs.OtherParts.{single_else}
use Rattle.cy_network_changes.proofs.operators.singles.single_deltas.Goals as goal

given_sure : (old : Option State) (now : State) (touches : Touches) (part p : Plan) (test : Expression) (deltas : List RowDelta) (columns : List (List ℕ)) (was staged : List Counts)
    → part ≡ plan.filter p test → IsFed old now touches part columns was staged deltas → All (λ s. HasTruth test s.row) deltas
given_sure old now touches part p test deltas columns was staged is fed =
    let own = subst (λ q. IsFed old now touches q columns was staged deltas) is fed in filter_sure old now touches p test deltas own.step own.below

given_numbers : (old : Option State) (now : State) (touches : Touches) (part p : Plan) (test : Expression) (deltas : List RowDelta) (columns : List (List ℕ)) (was staged : List Counts)
    → part ≡ plan.filter p test → IsFed old now touches part columns was staged deltas → All (λ s. All IsNumbered s.row) deltas
given_numbers old now touches part p test deltas columns was staged is fed =
    let own = subst (λ q. IsFed old now touches q columns was staged deltas) is fed in row_delta_numbers old now touches p deltas own.step.change own.below

made_different : (old : Option State) (now : State) (touches : Touches) (part p : Plan) (cells lent : List ℕ) (deltas made : List RowDelta) (columns : List (List ℕ)) (was staged : List Counts)
    → part ≡ plan.all_different p cells → lent ≡ cells
    → ((before after : List (List Cell)) → IsDelta (counts before) (counts after) deltas
    → IsDelta (counts (filter (λ row. are_different (relationships_at lent row)) before)) (counts (filter (λ row. are_different (relationships_at lent row)) after)) made)
    → (All IsBounded deltas → All IsBounded made) → IsFed old now touches part columns was staged deltas → IsOwnDone old now part staged made
made_different old now touches part p cells lent deltas made columns was staged is same leads bounds fed =
    let own = subst (λ q. IsFed old now touches q columns was staged deltas) (is ∙ ap (plan.all_different p) (sym same)) fed in
    subst (λ q. IsOwnDone old now q staged made) (sym (is ∙ ap (plan.all_different p) (sym same)))
    (different_done old now p lent deltas made columns was staged leads bounds own.own own.below)

made_filtered : (old : Option State) (now : State) (touches : Touches) (part p : Plan) (test : Expression) (deltas made : List RowDelta) (columns : List (List ℕ)) (was staged : List Counts)
    → part ≡ plan.filter p test → ((before after : List (List Cell)) → IsDelta (counts before) (counts after) deltas → IsDelta (counts (filter (holds test) before)) (counts (filter (holds test) after)) made)
    → (All IsBounded deltas → All IsBounded made) → IsFed old now touches part columns was staged deltas → IsOwnDone old now part staged made
made_filtered old now touches part p test deltas made columns was staged is leads bounds fed =
    let own = subst (λ q. IsFed old now touches q columns was staged deltas) is fed in
    subst (λ q. IsOwnDone old now q staged made) (sym is) (filter_done old now p test deltas made columns was staged leads bounds own.own own.below)

made_distinct : (old : Option State) (now : State) (touches : Touches) (part p : Plan) (deltas made : List RowDelta) (columns : List (List ℕ)) (was staged : List Counts)
    → part ≡ plan.distinct p → ((before after : List (List Cell)) → IsDelta (counts before) (counts after) deltas → IsDelta (counts (each_once before)) (counts (each_once after)) made)
    → All IsBounded made → IsFed old now touches part columns was staged deltas → IsOwnDone old now part staged made
made_distinct old now touches part p deltas made columns was staged is leads bounds fed =
    let own = subst (λ q. IsFed old now touches q columns was staged deltas) is fed in
    subst (λ q. IsOwnDone old now q staged made) (sym is) (distinct_done old now p deltas made columns was staged leads bounds own.own own.below)

kept_nothing : {M C : Type 0} (memory : Ghosts M C) (p : Plan) (touches : Touches) (deltas : List RowDelta) (own : List M) (sight : SightState) (made : Vec RowDelta Global)
    → ((old : Option State) → FedRows memory own p deltas old sight.graph.now touches → IsOwnDone old sight.graph.now p (map memory.staged own) made.items)
    → IsKeptUpReading memory p touches deltas own own sight sight (Ok made)
kept_nothing memory p touches deltas own sight made done = record {
  done = done;
  too_many = tt;
  was = refl;
  columns = refl;
  grows = grown_none memory.step_count own;
  graph = refl;
  steps = λ is old fed. no_less (sum_by memory.step_count own) (own_steps (rows_at (content_of old)) (rows_at (Some sight.graph.now.content)) touches p);
  reads = λ old fed. no_less sight.reads (own_reads (rows_at (content_of old)) (rows_at (Some sight.graph.now.content)) touches p);
}

kept_refused : {M C : Type 0} (memory : Ghosts M C) (p : Plan) (touches : Touches) (deltas : List RowDelta) (own : List M) (sight : SightState) (result : Result (Vec RowDelta Global) MemoryFault)
    → IsErr result → IsErrAnd result (λ fault. fault ≡ NoMemory) → IsKeptUpReading memory p touches deltas own own sight sight result
kept_refused memory p touches deltas own sight result refused none = record {
  done = IfOk-from_err result _ refused;
  too_many = if_memory _ result none;
  was = refl;
  columns = refl;
  grows = grown_none memory.step_count own;
  graph = refl;
  steps = IfOk-from_err result _ refused;
  reads = IfOk-from_err result _ refused;
}

pub filter-requires-clause-sure : goal.filter-requires-clause-sure
filter-requires-clause-sure g c =
    let p = plan_of c.in-Filter.field-0.value in
    let test = expression_of c.in-Filter.test in
    let is : plan_of c.args.part.now ≡ plan.filter p test = ap plan_of (c.in-Filter.is ∙ sym (rolls-Filter c.in-Filter.field-0 c.in-Filter.test)) ∙ fold-roll-Operator Plan plan_step _ in
    given_sure c.requires.begun.0 c.args.sight.now.graph.now c.args.change.now (plan_of c.args.part.now) p test c.args.deltas.items
    (map g.M.Memory.key_columns c.args.own.now) (map g.M.Memory.was c.args.own.now) (map g.M.Memory.staged c.args.own.now) is c.requires.begun.1

pub filter-requires-clause-numbered : goal.filter-requires-clause-numbered
filter-requires-clause-numbered g c =
    let p = plan_of c.in-Filter.field-0.value in
    let test = expression_of c.in-Filter.test in
    let is : plan_of c.args.part.now ≡ plan.filter p test = ap plan_of (c.in-Filter.is ∙ sym (rolls-Filter c.in-Filter.field-0 c.in-Filter.test)) ∙ fold-roll-Operator Plan plan_step _ in
    given_numbers c.requires.begun.0 c.args.sight.now.graph.now c.args.change.now (plan_of c.args.part.now) p test c.args.deltas.items
    (map g.M.Memory.key_columns c.args.own.now) (map g.M.Memory.was c.args.own.now) (map g.M.Memory.staged c.args.own.now) is c.requires.begun.1

pub returns-in-Project : goal.returns-in-Project
returns-in-Project g c =
    let now = c.args.sight.now.graph.now in
    let touches = c.args.change.now in
    record {
      done = if_ok_more _ _ c.projection_deltas.result c.projection_deltas.ensures.done (λ made done old fed. done old now touches fed);
      too_many = if_err_more _ _ c.projection_deltas.result c.projection_deltas.ensures.too_many (λ fault found many old fed. found many old now touches fed);
      was = c.projection_deltas.ensures.was;
      columns = c.projection_deltas.ensures.columns;
      grows = c.projection_deltas.ensures.grows;
      graph = refl;
      steps = if_ok_more _ _ c.projection_deltas.result c.projection_deltas.ensures.steps (λ made most exact old fed. most exact old now touches fed);
      reads =
          if_ok_from _ c.projection_deltas.result
          (λ made old fed. no_less c.args.sight.now.reads (own_reads (rows_at (content_of old)) (rows_at (Some now.content)) touches (plan_of c.args.part.now)));
    }

pub returns-in_ok-filter-in-Filter : goal.returns-in_ok-filter-in-Filter
returns-in_ok-filter-in-Filter g c =
    let is : plan_of c.args.part.now ≡ plan.filter (plan_of c.in-Filter.field-0.value) (expression_of c.in-Filter.test) =
    ap plan_of (c.in-Filter.is ∙ sym (rolls-Filter c.in-Filter.field-0 c.in-Filter.test)) ∙ fold-roll-Operator Plan plan_step _ in
    kept_nothing _ _ _ _ _ _ _
    (λ old fed. made_filtered old c.args.sight.now.graph.now c.args.change.now (plan_of c.args.part.now) (plan_of c.in-Filter.field-0.value) (expression_of c.in-Filter.test) c.args.deltas.items c.in_ok-filter-in-Filter.field-0.items
    (map g.M.Memory.key_columns c.args.own.now) (map g.M.Memory.was c.args.own.now) (map g.M.Memory.staged c.args.own.now) is c.in_ok-filter-in-Filter.ensures.kept c.in_ok-filter-in-Filter.ensures.bounded fed)

pub returns-in_err-filter-in-Filter : goal.returns-in_err-filter-in-Filter
returns-in_err-filter-in-Filter g c =
    kept_refused _ _ _ _ _ _ c.from_residual.result c.from_residual.ensures.0 c.from_residual.ensures.1

pub returns-in_ok-all_different-in-AllDifferent : goal.returns-in_ok-all_different-in-AllDifferent
returns-in_ok-all_different-in-AllDifferent g c =
    let p = plan_of c.in-AllDifferent.field-0.value in
    let cells = c.in-AllDifferent.columns.items in
    let is : plan_of c.args.part.now ≡ plan.all_different p cells =
    ap plan_of (c.in-AllDifferent.is ∙ sym (rolls-AllDifferent c.in-AllDifferent.field-0 c.in-AllDifferent.columns)) ∙ fold-roll-Operator Plan plan_step _ in
    kept_nothing _ _ _ _ _ _ _
    (λ old fed. made_different old c.args.sight.now.graph.now c.args.change.now (plan_of c.args.part.now) p cells c.deref-in-AllDifferent.result.now c.args.deltas.items c.in_ok-all_different-in-AllDifferent.field-0.items
    (map g.M.Memory.key_columns c.args.own.now) (map g.M.Memory.was c.args.own.now) (map g.M.Memory.staged c.args.own.now) is c.deref-in-AllDifferent.ensures.value
    c.in_ok-all_different-in-AllDifferent.ensures.kept c.in_ok-all_different-in-AllDifferent.ensures.bounded fed)

pub returns-in_err-all_different-in-AllDifferent : goal.returns-in_err-all_different-in-AllDifferent
returns-in_err-all_different-in-AllDifferent g c =
    kept_refused _ _ _ _ _ _ c.from_residual-in_err-all_different-in-AllDifferent.result c.from_residual-in_err-all_different-in-AllDifferent.ensures.0 c.from_residual-in_err-all_different-in-AllDifferent.ensures.1

pub returns-in_ok-distinct-in-Distinct : goal.returns-in_ok-distinct-in-Distinct
returns-in_ok-distinct-in-Distinct g c =
    let is : plan_of c.args.part.now ≡ plan.distinct (plan_of c.in-Distinct.field-0.value) = ap plan_of (c.in-Distinct.is ∙ sym (rolls-Distinct c.in-Distinct.field-0)) ∙ fold-roll-Operator Plan plan_step _ in
    kept_nothing _ _ _ _ _ _ _
    (λ old fed. made_distinct old c.args.sight.now.graph.now c.args.change.now (plan_of c.args.part.now) (plan_of c.in-Distinct.field-0.value) c.args.deltas.items c.in_ok-distinct-in-Distinct.field-0.items
    (map g.M.Memory.key_columns c.args.own.now) (map g.M.Memory.was c.args.own.now) (map g.M.Memory.staged c.args.own.now) is c.in_ok-distinct-in-Distinct.ensures.once c.in_ok-distinct-in-Distinct.ensures.bounded fed)

pub returns-in_err-distinct-in-Distinct : goal.returns-in_err-distinct-in-Distinct
returns-in_err-distinct-in-Distinct g c =
    kept_refused _ _ _ _ _ _ c.from_residual-in_err-distinct-in-Distinct.result c.from_residual-in_err-distinct-in-Distinct.ensures.0 c.from_residual-in_err-distinct-in-Distinct.ensures.1

pub unreachable-requires : goal.unreachable-requires
unreachable-requires g c = single_else c.args.part.now c.in_default.not-Lookup c.in_default.not-Filter c.in_default.not-AllDifferent c.in_default.not-Project c.in_default.not-Distinct c.requires.single
