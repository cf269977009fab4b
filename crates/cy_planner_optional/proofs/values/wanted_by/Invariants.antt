-- What is wanted so far, with what is left to ask.
use Rattle.std.proofs.Common.{◌≡◌, [], drop, map}
use Rattle.std.specs.Prelude.{flat_map}
use Rattle.cy_trees.specs.TreeModels.{expression_of}
use Rattle.cy_planner_rows.specs.internal.Asked.{asked, with_asked}
use Rattle.cy_planner_optional.proofs.values.wanted_by.Given as goal

abbrev pub invariant-loop-expression : goal.invariant-loop-expression
invariant-loop-expression l =
    with_asked l.wanted (flat_map asked (map (λ e. expression_of e.now) (drop l.expression-index l.expressions))) ≡ with_asked [] (flat_map asked (map (λ e. expression_of e.now) l.expressions))
