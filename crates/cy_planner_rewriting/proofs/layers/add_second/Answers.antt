use Rattle.std.proofs.Common.{List, map}
use Rattle.std.proofs.lemmas.Result.{on_ok_weaker}
use Rattle.cy_planner_algebra.specs.PlanModels.{output_of}
use Rattle.cy_planner_rewriting.specs.declared.layers.Layer.{Layer}
use Rattle.cy_planner_rewriting.specs.internal.Columns.{IsMerged}
use Rattle.cy_planner_rewriting.proofs.Layering.{both_in_place}
use Rattle.cy_planner_rewriting.proofs.layers.add_second.Goals as goal

pub returns-in-Some : goal.returns-in-Some
returns-in-Some c =
    let ls : List Layer = c.args.layers.now.items in
    let merged : IsMerged (map output_of c.args.outer.items) (map output_of c.args.inner.items) (map output_of c.in-Some.outputs.items) = rw c.as_slice.ensures.value at (rw c.as_slice-2.ensures.value at (rw c.in-Some.is at c.in_ok-outputs.ensures)) in
    on_ok_weaker c.push.result (λ place p. both_in_place ls c.push.new.layers.items c.args.outer c.args.inner c.in-Some.outputs p merged (place p)) c.push.ensures
