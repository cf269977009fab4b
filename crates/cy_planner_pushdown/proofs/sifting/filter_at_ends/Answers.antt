use Rattle.std.proofs.Common.{◌≡◌, ℕ, List, [], ◌∷◌, ◌++◌, ap, subst, ◌∙◌}
use Rattle.std.proofs.lemmas.List.{map-append}
use Rattle.cy_trees.specs.Trees.{Expression}
use Rattle.cy_planner_algebra.specs.Plans.{Plan}
use Rattle.cy_planner_algebra.specs.PlanModels.{plan_of}
use Rattle.cy_planner_pushdown.specs.internal.Sifting.{ArePartlyPut}
use Rattle.cy_planner_pushdown.specs.internal.Tests.{test_of, tests_of}
use Rattle.cy_planner_pushdown.proofs.Putting.{can_now, put_nodes, put_none, put_one}
use Rattle.cy_planner_pushdown.proofs.sifting.filter_at_ends.Goals as goal

pub loop-test-init : goal.loop-test-init
loop-test-init c = put_none (plan_of c.args.below) (tests_of c.args.tests.items) c.requires

pub loop-test-preserved-in-Some-joined_end : goal.loop-test-preserved-in-Some-joined_end
loop-test-preserved-in-Some-joined_end c =
    let below : Plan = plan_of c.args.below in
    let all : List (List ℕ × Expression) = tests_of c.args.tests.items in
    let rest : List (List ℕ × Expression) = tests_of c.pop.new.self.items in
    let last : tests_of c.loop-test.rest.items ≡ rest ++ test_of c.in-Some.test ∷ [] = ap tests_of c.in-Some.ensures.items ∙ map-append test_of c.pop.new.self.items (c.in-Some.test ∷ []) in
    let was : ArePartlyPut below all (rest ++ test_of c.in-Some.test ∷ []) (plan_of c.loop-test.plan) = subst (λ (rs : List (List ℕ × Expression)). ArePartlyPut below all rs (plan_of c.loop-test.plan)) last c.loop-test.invariant in
    let parted = c.in_ok-alone-in-Some-joined_end.ensures.parted in
    let alone : List (List ℕ × Expression) = tests_of c.in_ok-alone-in-Some-joined_end.field-0.alone.items in
    let others : List (List ℕ × Expression) = tests_of c.in_ok-alone-in-Some-joined_end.field-0.others.items in
    put_nodes below all (rest ++ test_of c.in-Some.test ∷ []) alone others c.in-Some-joined_end.column (plan_of c.loop-test.plan) was parted (plan_of c.in_ok-plan-in-Some-joined_end.plan) c.in_ok-plan-in-Some-joined_end.ensures

pub filter_in_place-requires : goal.filter_in_place-requires
filter_in_place-requires c =
    let below : Plan = plan_of c.args.below in
    let all : List (List ℕ × Expression) = tests_of c.args.tests.items in
    let rest : List (List ℕ × Expression) = tests_of c.pop.new.self.items in
    let last : tests_of c.loop-test.rest.items ≡ rest ++ test_of c.in-Some.test ∷ [] = ap tests_of c.in-Some.ensures.items ∙ map-append test_of c.pop.new.self.items (c.in-Some.test ∷ []) in
    let was : ArePartlyPut below all (rest ++ test_of c.in-Some.test ∷ []) (plan_of c.loop-test.plan) = subst (λ (rs : List (List ℕ × Expression)). ArePartlyPut below all rs (plan_of c.loop-test.plan)) last c.loop-test.invariant in
    (can_now below all rest (test_of c.in-Some.test) (plan_of c.loop-test.plan) was).1.0

pub loop-test-preserved : goal.loop-test-preserved
loop-test-preserved c =
    let below : Plan = plan_of c.args.below in
    let all : List (List ℕ × Expression) = tests_of c.args.tests.items in
    let rest : List (List ℕ × Expression) = tests_of c.pop.new.self.items in
    let last : tests_of c.loop-test.rest.items ≡ rest ++ test_of c.in-Some.test ∷ [] = ap tests_of c.in-Some.ensures.items ∙ map-append test_of c.pop.new.self.items (c.in-Some.test ∷ []) in
    let was : ArePartlyPut below all (rest ++ test_of c.in-Some.test ∷ []) (plan_of c.loop-test.plan) = subst (λ (rs : List (List ℕ × Expression)). ArePartlyPut below all rs (plan_of c.loop-test.plan)) last c.loop-test.invariant in
    put_one below all rest (test_of c.in-Some.test) (plan_of c.loop-test.plan) was (plan_of c.in_ok-plan-in-None.plan) c.in_ok-plan-in-None.ensures
