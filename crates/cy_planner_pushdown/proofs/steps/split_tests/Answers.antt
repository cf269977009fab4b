use Rattle.std.proofs.Common.{◌≡◌, ℕ, List, [], ◌∷◌, ◌++◌, reverse, sym, ap, subst, ◌∙◌}
use Rattle.std.proofs.lemmas.List.{map-append}
use Rattle.cy_trees.specs.Trees.{Expression}
use Rattle.cy_planner_algebra.specs.Plans.{Plan}
use Rattle.cy_planner_algebra.specs.PlanModels.{plan_of}
use Rattle.cy_planner_pushdown.specs.internal.Splits.{IsSplit, Tests, none, tests_in}
use Rattle.cy_planner_pushdown.specs.internal.Tests.{test_of, tests_of}
use Rattle.cy_planner_pushdown.proofs.Splitting.{map_reversed, split_first, split_none}
use Rattle.cy_planner_pushdown.proofs.steps.split_tests.Goals as goal

pub loop-test-init : goal.loop-test-init
loop-test-init c =
    let p : Plan = plan_of c.args.part.now in
    let all : List (List ℕ × Expression) = tests_of c.args.tests.items in
    let rest : tests_of c.reverse.new.self.items ≡ reverse all = ap tests_of c.reverse.ensures.items ∙ map_reversed test_of c.args.tests.items in
    subst (λ (ts : Tests). IsSplit p all (tests_of c.reverse.new.self.items) ts) (sym c.new-split.ensures)
    (subst (λ (rs : List (List ℕ × Expression)). IsSplit p all rs none) (sym rest) (split_none p all c.requires.can))

pub loop-test-preserved : goal.loop-test-preserved
loop-test-preserved c =
    let p : Plan = plan_of c.args.part.now in
    let all : List (List ℕ × Expression) = tests_of c.args.tests.items in
    let rest : List (List ℕ × Expression) = tests_of c.pop.new.self.items in
    let last : tests_of c.loop-test.rest.items ≡ rest ++ test_of c.in-Some.test ∷ [] = ap tests_of c.in-Some.ensures.items ∙ map-append test_of c.pop.new.self.items (c.in-Some.test ∷ []) in
    let same : p ≡ plan_of c.new-measured.result.part.now = ap plan_of (sym c.new-measured.ensures) in
    subst (λ (q : Plan). IsSplit q all rest (tests_in c.add_test.new.split)) (sym same)
    (c.in_ok-add_test.ensures all rest (subst (λ (q : Plan). IsSplit q all (rest ++ test_of c.in-Some.test ∷ []) (tests_in c.loop-test.split)) same
    (subst (λ (rs : List (List ℕ × Expression)). IsSplit p all rs (tests_in c.loop-test.split)) last c.loop-test.invariant)))

pub returns-then-takes_all : goal.returns-then-takes_all
returns-then-takes_all c =
    let p : Plan = plan_of c.args.part.now in
    let all : List (List ℕ × Expression) = tests_of c.args.tests.items in
    subst (λ (ts : Tests). IsSplit p all [] ts) (sym c.of_first.ensures) (split_first p all (c.takes_all.ensures c.if-takes_all.true) c.requires.can)
