use Rattle.std.proofs.Common.{◌≡◌, map}
use Rattle.cy_planner_algebra.specs.Expressions.{projected}
use Rattle.cy_planner_algebra.specs.PlanModels.{output_of}
use Rattle.cy_network_counts.specs.Merges.{image}
use Rattle.cy_network_counts.proofs.projections.images_of.Given as goal

-- the images so far
abbrev pub invariant-loop-row_delta : goal.invariant-loop-row_delta
invariant-loop-row_delta l = l.images.items ≡ map (image (projected (map output_of l.outputs))) l.yielded
