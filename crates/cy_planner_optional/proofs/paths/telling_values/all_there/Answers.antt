use Rattle.std.proofs.Common.{◌∙◌}
use Rattle.std.specs.Prelude.{option_map}
use Rattle.cy_trees.specs.TreeModels.{expression_of}
use Rattle.cy_planner_optional.proofs.CodeSteps.{columns_done}
use Rattle.cy_planner_optional.proofs.paths.telling_values.all_there.Goals as goal

pub returns : goal.returns
returns c =
    c.or_true.ensures ∙ columns_done c.args.columns.now c.loop-column.column-index (option_map expression_of c.loop-column.tests) c.loop-column-test.false c.loop-column.invariant
