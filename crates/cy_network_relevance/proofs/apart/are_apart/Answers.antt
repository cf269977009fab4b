use Rattle.std.proofs.Common.{sym, ap, ◌∙◌}
use Rattle.std.specs.Prelude.{◌||◌}
use Rattle.cy_planner_algebra.specs.PlanModels.{plan_of}
use Rattle.cy_network_relevance.specs.Lists.{is_above, least_named, most_named}
use Rattle.cy_network_relevance.proofs.RowsApart.{in_one_part}
use Rattle.cy_network_relevance.proofs.apart.are_apart.Goals as goal

pub returns-then-is_above-clause-rows : goal.returns-then-is_above-clause-rows
returns-then-is_above-clause-rows c is row =
    in_one_part (plan_of c.args.left.now) (plan_of c.args.right.now) c.requires.left c.requires.right
    (ap (λ b. b || is_above (least_named (plan_of c.args.left.now) 0) (most_named (plan_of c.args.right.now) 0)) (sym c.is_above.ensures ∙ is)) row

pub returns-else-is_above-clause-rows : goal.returns-else-is_above-clause-rows
returns-else-is_above-clause-rows c is row =
    in_one_part (plan_of c.args.left.now) (plan_of c.args.right.now) c.requires.left c.requires.right
    (ap (λ b. b || is_above (least_named (plan_of c.args.left.now) 0) (most_named (plan_of c.args.right.now) 0)) (sym c.is_above.ensures ∙ c.if-is_above.false)
    ∙ sym c.is_above-else-is_above.ensures ∙ is) row
