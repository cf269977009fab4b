use Rattle.std.proofs.Common.{◌≡◌, [], sym, ap, subst, ◌∙◌, rules, arith}
use Rattle.std.proofs.lemmas.Grind.{common_steps}
use Rattle.cy_planner_algebra.specs.declared.operators.Operator.{Operator}
use Rattle.cy_planner_algebra.specs.Plans as plan
use Rattle.cy_planner_algebra.specs.Plans.{Output, Plan}
use Rattle.cy_planner_algebra.specs.PlanModels.{plan_of}
use Rattle.cy_planner_pushdown.specs.declared.above.Above.TheVariants as above
use Rattle.cy_planner_pushdown.specs.declared.above.Pair.TheVariants as pair
use Rattle.cy_planner_pushdown.specs.internal.Above.{placed}
use Rattle.cy_planner_pushdown.specs.internal.Splits.{Tests, tests_in}
use Rattle.cy_planner_pushdown.specs.internal.Pairs.{paired}
use Rattle.cy_planner_pushdown.specs.internal.Steps.{LeadsTo}
use Rattle.cy_planner_pushdown.specs.internal.Tests.{tests_of}
use Rattle.cy_planner_pushdown.proofs.Stepping.{at_place, at_places, into_both, into_left, into_right}
use Rattle.cy_planner_pushdown.proofs.ways.below_join.Goals as goal

pub returns-then-is_empty-clause-is : goal.returns-then-is_empty-clause-is
returns-then-is_empty-clause-is c tests split =
    let ts : Tests = tests_in c.args.split in
    let left : Plan = plan_of c.args.left.value in
    let right : Plan = plan_of c.args.right.value in
    let whole : Plan = plan.join left right c.args.keys.items in
    let empty : c.args.split.second.items ≡ [] = first_of (search rules, grind (arith, common_steps)) in
    let none : ts.second ≡ [] = ap tests_of empty in
    at_place whole tests ts.here (placed (above.JoinLeft c.from_root-right.result c.args.keys)) c.args.left.value c.args.split.first c.at.result c.at.ensures.part c.at.ensures.tests
    (subst (λ (q : Operator). LeadsTo whole tests left ts.first ts.here (placed (above.JoinLeft q c.args.keys))) (sym (c.from_root-right.ensures ∙ c.into_inner.ensures))
    (into_left tests ts left right c.args.keys.items c.requires.good split none))

pub returns-then-is_empty-2-clause-is : goal.returns-then-is_empty-2-clause-is
returns-then-is_empty-2-clause-is c tests split =
    let ts : Tests = tests_in c.args.split in
    let left : Plan = plan_of c.args.left.value in
    let right : Plan = plan_of c.args.right.value in
    let whole : Plan = plan.join left right c.args.keys.items in
    let empty : c.args.split.first.items ≡ [] = first_of (search rules, grind (arith, common_steps)) in
    let none : ts.first ≡ [] = ap tests_of empty in
    at_place whole tests ts.here (placed (above.JoinRight c.from_root-left.result c.args.keys)) c.args.right.value c.args.split.second c.at-then-is_empty-2.result c.at-then-is_empty-2.ensures.part c.at-then-is_empty-2.ensures.tests
    (subst (λ (q : Operator). LeadsTo whole tests right ts.second ts.here (placed (above.JoinRight q c.args.keys))) (sym (c.from_root-left.ensures ∙ c.into_inner-then-is_empty-2.ensures))
    (into_right tests ts left right c.args.keys.items c.requires.good split none))

pub returns-else-is_empty-2-clause-is : goal.returns-else-is_empty-2-clause-is
returns-else-is_empty-2-clause-is c tests split =
    let ts : Tests = tests_in c.args.split in
    let left : Plan = plan_of c.args.left.value in
    let right : Plan = plan_of c.args.right.value in
    let whole : Plan = plan.join left right c.args.keys.items in
    at_places whole tests ts.here (paired (pair.Join c.args.keys)) c.args.left.value c.args.right.value c.args.split.first c.args.split.second c.at-left.result c.at-right.result c.at-left.ensures.part c.at-left.ensures.tests c.at-right.ensures.part c.at-right.ensures.tests
    (into_both tests ts left right c.args.keys.items c.requires.good split)
