use Rattle.std.proofs.Common.{◌≡◌, ℕ, ◌+◌, ◌≤◌, ◌⊎◌, inl, inr, Bool, true, false, cond, List, [], ◌∷◌, Option, Some, None, is_none, refl, sym, ap, subst, ◌∙◌, arith, true≢false}
use Rattle.std.proofs.lemmas.List.Elements.{All-cons, All-nil}
use Rattle.cy_values.specs.declared.rows.Cell.{Cell}
use Rattle.cy_graph.specs.Graph.{State, empty_state}
use Rattle.cy_planner_algebra.specs.Plans as plan
use Rattle.cy_planner_algebra.specs.Plans.{Plan}
use Rattle.cy_planner_algebra.specs.PlanModels.{plan_of}
use Rattle.cy_network_memory.specs.declared.memory.RowDelta.{RowDelta}
use Rattle.cy_network_operators.specs.Deltas.{IsBounded, counts, rows_at, row_delta_between, deltas_of}
use Rattle.cy_network_parts.specs.Memories.{is_scan}
use Rattle.cy_network_parts.specs.Parts.{is_unit}
use Rattle.cy_network_sources.specs.Changes.{IsChange, Touches}
use Rattle.cy_network_parts.specs.internal.Upkeep.{IsDeltaOf, IsStep, state_of}
use Rattle.cy_network_parts.proofs.Outcomes.{if_ok_more, if_ok_two}
use Rattle.cy_network_parts.proofs.Scanned.{chain_scan, is_scan_of, reads_within, scan_delta}
use Rattle.cy_network_changes.proofs.operators.leaves.lowest_deltas.Goals as goal

-- the empty row comes with the first graph, and stays
unit_delta : (old : Option State) (now : State) → IsDeltaOf old now plan.unit (row_delta_between [] (cond (is_none old) 0 1) 1)
unit_delta None now = record {
  delta = record { each = by };
  bounded = All-cons IsBounded (record { row = []; before = 0; after = 1 }) [] (omega arith, omega arith) (All-nil IsBounded);
}
  where
    by : (row : List Cell) → deltas_of row (row_delta_between [] 0 1) ≡ row_delta_between row (counts (rows_at None plan.unit) row) (counts (rows_at (Some now.content) plan.unit) row)
    by [] = refl
    by (x ∷ row) = refl
unit_delta (Some s) now = record { delta = record { each = by }; bounded = All-nil IsBounded }
  where
    by : (row : List Cell) → deltas_of row (row_delta_between [] 1 1) ≡ row_delta_between row (counts (rows_at (Some s.content) plan.unit) row) (counts (rows_at (Some now.content) plan.unit) row)
    by [] = refl
    by (x ∷ row) = refl

unit_done : (p : Plan) (from_nothing : Bool) (old : Option State) (now : State) (deltas : List RowDelta) → p ≡ plan.unit → from_nothing ≡ is_none old
    → deltas ≡ row_delta_between [] (cond from_nothing 0 1) 1 → IsDeltaOf old now p deltas
unit_done p from_nothing old now deltas is first made =
    subst (λ q. IsDeltaOf old now q deltas) (sym is)
    (subst (IsDeltaOf old now plan.unit) (ap (λ b. row_delta_between [] (cond b 0 1) 1) (sym first) ∙ sym made) (unit_delta old now))

unit_is : (p : Plan) → is_unit p ≡ true → p ≡ plan.unit
unit_is plan.unit is = refl
unit_is _ is = absurd (true≢false (sym is))

-- what is no part of the empty row is a scan
other_is : (p : Plan) → is_unit p ≡ false → (is_scan p ≡ true) ⊎ (p ≡ plan.unit) → is_scan p ≡ true
other_is p other (inl is) = is
other_is p other (inr is) = absurd (true≢false (sym (ap is_unit is) ∙ other))

pub returns-then-is_unit-clause-delta : goal.returns-then-is_unit-clause-delta
returns-then-is_unit-clause-delta c =
    let is = unit_is (plan_of c.args.part.now) (sym c.is_unit.ensures ∙ c.if-is_unit.true) in
    if_ok_more _ _ c.unit_deltas.result c.unit_deltas.ensures
    (λ deltas made old first step. unit_done (plan_of c.args.part.now) c.args.from_nothing old c.args.sight.now.graph.now deltas.items is first made)

-- where there was no graph before, all of it comes
change_from : (old : Option State) (now : State) (touches : Touches) (p : Plan) (from_nothing : Bool) → from_nothing ≡ is_none old → from_nothing ≡ true → IsStep old now touches p
    → IsChange (empty_state 1 1) now touches
change_from None now touches p from_nothing same first step = step.change
change_from (Some s) now touches p from_nothing same first step = absurd (true≢false (sym first ∙ same))

pub scan-requires : goal.scan-requires
scan-requires c =
    let p = plan_of c.args.part.now in
    let old = c.requires.begun.0 in
    let is = other_is p (sym c.is_unit.ensures ∙ c.if-is_unit.false) c.requires.lowest in
    record {
      scan = (state_of old, (p, is_scan_of old c.args.sight.now.graph.now c.args.change.now _ p c.requires.scanned is c.requires.begun.1.1));
      nothing = λ first. change_from old c.args.sight.now.graph.now c.args.change.now p c.args.from_nothing c.requires.begun.1.0 first c.requires.begun.1.1;
    }

pub returns-clause-delta : goal.returns-clause-delta
returns-clause-delta c =
    let p = plan_of c.args.part.now in
    let is = other_is p (sym c.is_unit.ensures ∙ c.if-is_unit.false) c.requires.lowest in
    if_ok_two _ _ _ c.scan.result c.scan.ensures.delta c.scan.ensures.bounded
    (λ deltas leads bounds old first step.
    scan_delta old c.args.sight.now.graph.now p deltas.items is (leads (state_of old) p (is_scan_of old c.args.sight.now.graph.now c.args.change.now _ p c.requires.scanned is step)) bounds)

within : (start new scanned all : ℕ) → new ≤ start + scanned → scanned ≤ all → new ≤ start + all
within start new scanned all most few = omega (arith, most, few)

pub returns-clause-reads : goal.returns-clause-reads
returns-clause-reads c rows rows_now =
    let p = plan_of c.args.part.now in
    let is = other_is p (sym c.is_unit.ensures ∙ c.if-is_unit.false) c.requires.lowest in
    within _ _ _ _ (c.scan.ensures.reads p (c.requires.scanned ∙ chain_scan p is)) (reads_within rows rows_now c.args.change.now p is)
