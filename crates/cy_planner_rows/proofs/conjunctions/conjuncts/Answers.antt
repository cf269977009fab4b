use Rattle.std.proofs.Common.{◌≡◌, rules, [], ◌∷◌, ◌++◌, map, ap, ◌∙◌, arith}
use Rattle.std.proofs.lemmas.Grind.{common_steps}
use Rattle.cy_trees.specs.TreeModels.{expression_of}
use Rattle.cy_planner_rows.proofs.Stacks.{fewer_both, fewer_one, open_both, open_one}
use Rattle.cy_planner_rows.proofs.conjunctions.conjuncts.Goals as goal

pub loop-test-smaller-in-Continue-branch-3 : goal.loop-test-smaller-in-Continue-branch-3
loop-test-smaller-in-Continue-branch-3 c =
    let last : c.loop-test.tests.items ≡ c.pop.new.self.items ++ c.in-Some.test ∷ [] = first_of (search rules, grind (arith, common_steps)) in
    fewer_both c.loop-test.tests.items c.pop.new.self.items c.in-Some.test last c.push-in-Both.new.self.items c.push-in-Both-2.new.self.items c.in-Both.left c.in-Both.right
    c.in_ok-push-in-Both.ensures.items c.in_ok-push-in-Both-2.ensures.items c.in-Both.ensures

pub loop-test-preserved-in-Continue-branch-3 : goal.loop-test-preserved-in-Continue-branch-3
loop-test-preserved-in-Continue-branch-3 c =
    let last : c.loop-test.tests.items ≡ c.pop.new.self.items ++ c.in-Some.test ∷ [] = first_of (search rules, grind (arith, common_steps)) in
    ap (λ l. map expression_of c.loop-test.found.items ++ l)
    (open_both c.loop-test.tests.items c.pop.new.self.items c.in-Some.test last c.push-in-Both.new.self.items c.push-in-Both-2.new.self.items c.in-Both.left c.in-Both.right
    c.in_ok-push-in-Both.ensures.items c.in_ok-push-in-Both-2.ensures.items c.in-Both.ensures)
    ∙ c.loop-test.invariant

pub loop-test-smaller : goal.loop-test-smaller
loop-test-smaller c =
    let last : c.loop-test.tests.items ≡ c.pop.new.self.items ++ c.in-Some.test ∷ [] = first_of (search rules, grind (arith, common_steps)) in
    fewer_one c.loop-test.tests.items c.pop.new.self.items c.in-Some.test last

pub loop-test-preserved : goal.loop-test-preserved
loop-test-preserved c =
    let last : c.loop-test.tests.items ≡ c.pop.new.self.items ++ c.in-Some.test ∷ [] = first_of (search rules, grind (arith, common_steps)) in
    open_one c.loop-test.tests.items c.pop.new.self.items c.in-Some.test last c.in-One.test c.loop-test.found.items c.push-in-One.new.self.items c.in_ok-push-in-One.ensures.items c.in-One.ensures.0 c.in-One.ensures.1
    ∙ c.loop-test.invariant
