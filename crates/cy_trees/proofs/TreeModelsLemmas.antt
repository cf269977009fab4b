-- What the code's values stand for, where search doesn't find it.
use Rattle.std.proofs.Common.{◌≡◌, Some, Vec, Global, map, rules, arith}
use Rattle.std.specs.declared.boxed.Box.{Box}
use Rattle.cy_trees.specs.declared.expressions.Expr.{Expr, Case, the_lemmas}
use Rattle.cy_trees.specs.declared.expressions.Arm.{Arm}
use Rattle.cy_trees.specs.Trees.{case, otherwise}
use Rattle.cy_trees.specs.TreeModels.{expression_of, arms_of, arm_of}

pub case_otherwise : (arms : Vec Arm Global) (e : Box Expr Global) → expression_of (Case arms (Some e)) ≡ case (arms_of arms) (otherwise (expression_of e.value))
case_otherwise arms e = search (rules, the_lemmas)

pub case_copied : (arms twins : Vec Arm Global) (e f : Box Expr Global) → map arm_of twins.items ≡ map arm_of arms.items → expression_of f.value ≡ expression_of e.value → expression_of (Case twins (Some f)) ≡ expression_of (Case arms (Some e))
case_copied arms twins e f same_arms same =
    let one = case_otherwise arms e in
    let two = case_otherwise twins f in
    grind (arith, one, two, same_arms, same)
