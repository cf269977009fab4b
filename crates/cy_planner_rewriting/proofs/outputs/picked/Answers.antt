use Rattle.std.proofs.Common.{◌≡◌, ℕ, ◌+◌, List, [], ◌∷◌, get_or, map, take, sym, ap, subst, ◌∙◌}
use Rattle.std.specs.Prelude.{Some, slice_get}
use Rattle.std.specs.Option.{option_map}
use Rattle.std.proofs.lemmas.List.{map-append}
use Rattle.std.proofs.lemmas.Option.{slice_get-get_or, slice_get-map}
use Rattle.cy_planner_algebra.specs.declared.operators.Output as coded_output
use Rattle.cy_planner_algebra.specs.Plans.{Output}
use Rattle.cy_planner_algebra.specs.PlanModels.{output_of}
use Rattle.cy_planner_rewriting.specs.internal.Columns.{ArePicked}
use Rattle.cy_planner_rewriting.proofs.Projections.{picked_next}
use Rattle.cy_planner_rewriting.proofs.outputs.picked.Goals as goal

pub loop-column-preserved : goal.loop-column-preserved
loop-column-preserved c =
    let outputs : List Output = map output_of c.args.outputs.now in
    let columns : List ℕ = c.args.columns.now in
    let next : ℕ = get_or columns c.loop-column.column-index 0 in
    let made : List coded_output.Output = c.loop-column.made.items in
    let copied : coded_output.Output = c.in_ok-copy_output-in-Some.field-0 in
    let found : slice_get c.args.outputs.now next ≡ Some c.in-Some.output.now =
    slice_get-get_or c.args.outputs.now next c.in-Some.output.now c.in-Some.ensures.lookup.3.0 ∙ ap Some (sym c.in-Some.ensures.lookup.1) in
    let there : slice_get outputs next ≡ Some (output_of copied) =
    slice_get-map output_of c.args.outputs.now next ∙ ap (option_map output_of) found ∙ ap Some (sym c.in_ok-copy_output-in-Some.ensures) in
    subst (λ (items : List coded_output.Output). ArePicked outputs (take (c.loop-column.column-index + 1) columns) (map output_of items)) (sym c.in_ok-push-in-Some.ensures.items)
    (subst (λ (os : List Output). ArePicked outputs (take (c.loop-column.column-index + 1) columns) os) (sym (map-append output_of made (copied ∷ [])))
    (picked_next outputs columns c.loop-column.column-index (map output_of made) (output_of copied) c.loop-column-test.true c.loop-column.invariant there))
