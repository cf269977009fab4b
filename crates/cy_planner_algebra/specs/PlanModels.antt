-- The plan that a value of the code stands for (own).
use Rattle.std.specs.Prelude.{map}
use Rattle.cy_trees.specs.TreeModels.{expression_of}
use Rattle.cy_planner_algebra.specs.declared.operators.Output as coded_output
use Rattle.cy_planner_algebra.specs.declared.operators.Output.TheVariants as output
use Rattle.cy_planner_algebra.specs.declared.operators.Operator.{Operator, fold-Operator}
use Rattle.cy_planner_algebra.specs.declared.operators.Operator.TheOpen.{Operator-F}
use Rattle.cy_planner_algebra.specs.Plans.{Plan, unit, nodes, rels, join, outer, semi, lookup, filter, all_different, project, distinct, union, Output, computed, gathered}

abbrev pub output_of : coded_output.Output → Output
output_of (output.Cell e) = computed (expression_of e)
output_of (output.Rels columns) = gathered columns.items

-- one operator, with each operator below it already seen as its plan
abbrev pub plan_step : Operator-F Plan → Plan
plan_step Operator-F.Unit = unit
plan_step Operator-F.Nodes = nodes
plan_step (Operator-F.Rels types orientation) = rels types.items orientation
plan_step (Operator-F.Join left right keys) = join left.value right.value keys.items
plan_step (Operator-F.Outer left right keys test) = outer left.value right.value keys.items (expression_of test)
plan_step (Operator-F.Semi left right keys keeping) = semi left.value right.value keys.items keeping
plan_step (Operator-F.Lookup p column attribute) = lookup p.value column attribute
plan_step (Operator-F.Filter p test) = filter p.value (expression_of test)
plan_step (Operator-F.AllDifferent p columns) = all_different p.value columns.items
plan_step (Operator-F.Project p outputs) = project p.value (map output_of outputs.items)
plan_step (Operator-F.Distinct p) = distinct p.value
plan_step (Operator-F.Union left right) = union left.value right.value

abbrev pub plan_of : Operator → Plan
plan_of = fold-Operator Plan plan_step
