use Rattle.std.proofs.Common.{◌≡◌, [], ◌∷◌, map, rules, arith, ap, ◌∙◌}
use Rattle.std.proofs.lemmas.Grind.{common_steps}
use Rattle.cy_trees.specs.declared.expressions.Arm.{roll-Arm}
use Rattle.cy_trees.specs.declared.expressions.Expr.{Null}
use Rattle.cy_trees.specs.TreeModels.{arm_of, expression_of}
use Rattle.cy_planner_rows.proofs.LoweredLists.{guarded_case, null_arm}
use Rattle.cy_planner_rows.proofs.lowering.unless_null.Goals as goal

pub returns : goal.returns
returns c =
    let items : map arm_of c.push.new.self.items ≡ arm_of (roll-Arm (record { condition = c.in_ok-is_null.field-0; outcome = Null })) ∷ [] =
    first_of (cc, first_of (search rules, grind (arith, common_steps))) in
    guarded_case c.push.new.self c.in_ok-new.field-0 (expression_of c.args.tested) (expression_of c.args.given)
    (items ∙ ap (λ a. a ∷ []) (null_arm c.in_ok-is_null.field-0 (expression_of c.args.tested) c.in_ok-is_null.ensures))
    (ap expression_of c.in_ok-new.ensures.ok)
