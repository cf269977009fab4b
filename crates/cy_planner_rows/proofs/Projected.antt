-- Expressions as the columns of a plan.
use Rattle.std.proofs.Common.{◌≡◌, ◌+◌, ◌≤◌, true, List, [], ◌∷◌, length, map, refl, sym, ap, subst, ◌∙◌}
use Rattle.std.specs.Prelude.{IsOk, Result, flat_map}
use Rattle.std.specs.List.{All, AllByRecursion}
use Rattle.std.proofs.lemmas.List.{length-map}
use Rattle.std.proofs.lemmas.List.Elements.{All-cons, All-nil}
use Rattle.cy_values.specs.declared.rows.Cell.{Cell}
use Rattle.cy_values.proofs.Lists.{each_append, each_both, each_left, each_right}
use Rattle.cy_trees.specs.Trees.{Expression}
use Rattle.cy_scope_kinds.specs.Rows.{row_fits}
use Rattle.cy_scope_kinds.specs.Scopes.{Scope}
use Rattle.cy_graph.specs.Graph.{State, IsGraph}
use Rattle.cy_expr.specs.declared.faults.EvalFault.{EvalFault}
use Rattle.cy_expr.specs.Evaluation.{cell_of}
use Rattle.cy_expr.specs.Graphs.{lookups}
use Rattle.cy_planner_algebra.specs.Plans as plan
use Rattle.cy_planner_algebra.specs.Plans.{Plan, Output, computed, width}
use Rattle.cy_planner_algebra.specs.Expressions.{cell_or_null, projected}
use Rattle.cy_planner_algebra.specs.Meaning.{rows_of}
use Rattle.cy_planner_algebra.specs.Parts.{parts}
use Rattle.cy_planner_algebra.specs.Sure.{HasCell, HasCells, IsSureOn}
use Rattle.cy_planner_algebra.specs.WellFormed.{IsOutputOver, IsWellFormed, greatest_width}
use Rattle.cy_planner_algebra.specs.Within.{IsWithin}
use Rattle.cy_planner_rows.specs.declared.places.Wanted.{Wanted}
use Rattle.cy_planner_rows.specs.internal.Lowered.{lowered}
use Rattle.cy_planner_rows.specs.Places.{place}
use Rattle.cy_planner_rows.specs.internal.Asked.{asked, with_asked}
use Rattle.cy_planner_rows.specs.internal.Lookups.{over, with_values}
use Rattle.cy_planner_rows.specs.Rows.{AreReadOver, FitsRows, IsProjected, cells_on}
use Rattle.cy_scope_kinds.specs.Kinded.{IsKinded}
use Rattle.cy_planner_rows.proofs.Filtered.{lowered_over, same_value}
use Rattle.cy_planner_rows.proofs.Lists.{all_of_each, each_mapped, map_twice}
use Rattle.cy_planner_rows.proofs.Lowerable.{inside}
use Rattle.cy_planner_rows.proofs.OverRows.{IsInside, own_part, parts_over, rows_over, sure_over}
use Rattle.cy_planner_rows.proofs.Placed.{IsAmong, asked_among, asked_each}

-- what is wanted of several expressions
abbrev pub wanted_of_all : List Expression → List Wanted
wanted_of_all es = with_asked [] (flat_map asked es)

all_inside : (scope : Scope) (es : List Expression) → AllByRecursion (IsKinded scope) es → AllByRecursion (IsInside (length scope)) (flat_map asked es)
all_inside scope [] kinded = tt
all_inside scope (e ∷ es) kinded = each_append (IsInside (length scope)) (asked e) (flat_map asked es) (inside scope [] e kinded.0.0 kinded.0.1) (all_inside scope es kinded.1)

pub all_wanted_inside : (p : Plan) (es : List Expression) → AreReadOver p es → AllByRecursion (IsInside (width p)) (wanted_of_all es)
all_wanted_inside p es read =
    subst (λ n. AllByRecursion (IsInside n) (wanted_of_all es)) read.1
    (asked_each (IsInside (length read.0)) [] (flat_map asked es) tt (all_inside read.0 es read.2))

-- the columns lie in the rows with what is looked up
outputs_from : (p : Plan) (wanted : List Wanted) (scope : Scope) → length scope ≡ width p → (es : List Expression) → AllByRecursion (IsKinded scope) es → AllByRecursion (IsAmong wanted) (flat_map asked es)
    → All (IsOutputOver (width (over p wanted))) (map (λ e. computed (lowered (place (width p) wanted) e)) es)
outputs_from p wanted scope long [] kinded among = All-nil (IsOutputOver (width (over p wanted)))
outputs_from p wanted scope long (e ∷ es) kinded among =
    All-cons (IsOutputOver (width (over p wanted))) (computed (lowered (place (width p) wanted) e)) (map (λ e. computed (lowered (place (width p) wanted) e)) es)
    (lowered_over p wanted e (scope, long, kinded.0) (each_left (IsAmong wanted) (asked e) (flat_map asked es) among))
    (outputs_from p wanted scope long es kinded.1 (each_right (IsAmong wanted) (asked e) (flat_map asked es) among))

pub outputs_over : (p : Plan) (es : List Expression) → AreReadOver p es
    → All (IsOutputOver (width (over p (wanted_of_all es)))) (map (λ e. computed (lowered (place (width p) (wanted_of_all es)) e)) es)
outputs_over p es read = outputs_from p (wanted_of_all es) read.0 read.1 es read.2 (asked_among [] (flat_map asked es))

module _ (below : Plan) (all : List Expression) (well : IsWellFormed below) (room : width below + length (wanted_of_all all) ≤ greatest_width) (read : AreReadOver below all) where
  abbrev wanted : List Wanted
  wanted = wanted_of_all all

  abbrev output : Expression → Output
  output e = computed (lowered (place (width below) wanted) e)

  abbrev made : Plan
  made = plan.project (over below wanted) (map output all)

  module _ (graph : State) (scope : Scope) (is : IsGraph graph) (kinded : AllByRecursion (IsKinded scope) all) (fits : FitsRows scope graph.content below) where
    abbrev Fits : List Cell → Type 0
    Fits row = row_fits scope row ≡ true

    same_cells : (row : List Cell) → Fits row → (es : List Expression) → AllByRecursion (IsKinded scope) es → AllByRecursion (IsAmong wanted) (flat_map asked es)
        → projected (map output es) (with_values graph.content wanted row) ≡ cells_on graph.content es row
    same_cells row fit [] each among = refl
    same_cells row fit (e ∷ es) each among =
        λ i. cell_or_null (same_value graph scope (width below) wanted e is fits.0 each.0 (each_left (IsAmong wanted) (asked e) (flat_map asked es) among) row fit i)
        ∷ same_cells row fit es each.1 (each_right (IsAmong wanted) (asked e) (flat_map asked es) among) i

    over_is : rows_of graph.content (over below wanted) ≡ map (with_values graph.content wanted) (rows_of graph.content below)
    over_is = rows_over graph.content below wanted well (all_wanted_inside below all read)

    projected_rows : rows_of graph.content made ≡ map (cells_on graph.content all) (rows_of graph.content below)
    projected_rows =
        ap (λ rows. map (projected (map output all)) rows) over_is
        ∙ map_twice Fits (with_values graph.content wanted) (projected (map output all)) (cells_on graph.content all)
        (λ row fit. same_cells row fit all kinded (asked_among [] (flat_map asked all))) (rows_of graph.content below) fits.1

    abbrev HasAll : List Cell → Type 0
    HasAll row = AllByRecursion (λ e. IsOk (cell_of (lookups graph.content) row e)) all

    have_cells : (row : List Cell) → Fits row → (es : List Expression) → AllByRecursion (IsKinded scope) es → AllByRecursion (IsAmong wanted) (flat_map asked es)
        → AllByRecursion (λ e. IsOk (cell_of (lookups graph.content) row e)) es → HasCells (map output es) (with_values graph.content wanted row)
    have_cells row fit [] each among has = All-nil (HasCell (with_values graph.content wanted row))
    have_cells row fit (e ∷ es) each among has =
        All-cons (HasCell (with_values graph.content wanted row)) (output e) (map output es)
        (subst (λ (o : Result Cell EvalFault). IsOk o) (sym (same_value graph scope (width below) wanted e is fits.0 each.0 (each_left (IsAmong wanted) (asked e) (flat_map asked es) among) row fit)) has.0)
        (have_cells row fit es each.1 (each_right (IsAmong wanted) (asked e) (flat_map asked es) among) has.1)

    projected_sure : IsSureOn graph.content below → AllByRecursion HasAll (rows_of graph.content below) → IsSureOn graph.content made
    projected_sure sure has = (
      sure_over graph.content below wanted sure,
      subst (λ rows. All (HasCells (map output all)) rows) (sym over_is)
          (all_of_each (HasCells (map output all)) (map (with_values graph.content wanted) (rows_of graph.content below))
          (each_mapped (λ row. Fits row × HasAll row) (HasCells (map output all)) (with_values graph.content wanted)
          (λ row both. have_cells row both.0 all kinded (asked_among [] (flat_map asked all)) both.1) (rows_of graph.content below)
          (each_both Fits HasAll (rows_of graph.content below) fits.1 has))),
    )

  pub projected_on : IsProjected below all made
  projected_on = record {
    as_wide = length-map all output;
    rows = λ graph scope is kinded fits. projected_rows graph scope is kinded fits;
    sure = λ graph scope is kinded fits. projected_sure graph scope is kinded fits;
    bounded = λ graph tables again each own.
        All-cons (IsWithin graph.content tables) made (parts (over below wanted)) own
        (parts_over graph.content tables below wanted well (all_wanted_inside below all read) room each (own_part (IsWithin graph.content tables) below each));
  }
