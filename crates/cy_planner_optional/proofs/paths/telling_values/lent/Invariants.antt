-- Those so far.
use Rattle.std.proofs.Common.{◌≡◌, map, take}
use Rattle.cy_trees.specs.TreeModels.{expression_of}
use Rattle.cy_planner_optional.proofs.paths.telling_values.lent.Given as goal

abbrev pub invariant-loop-expression : goal.invariant-loop-expression
invariant-loop-expression l = map (λ e. expression_of e.now) l.refs.items ≡ map expression_of (take l.expression-index l.expressions)
