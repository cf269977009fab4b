use Rattle.std.proofs.Common.{◌≡◌, ℕ, List, [], ◌∷◌, ◌++◌, reverse, sym, ap, subst, ◌∙◌}
use Rattle.std.proofs.lemmas.List.{map-append}
use Rattle.cy_trees.specs.Trees.{Expression}
use Rattle.cy_planner_pushdown.specs.internal.Sifting.{AreDivided}
use Rattle.cy_planner_pushdown.specs.internal.Tests.{test_of, tests_of}
use Rattle.cy_planner_pushdown.proofs.Putting.{divide_asked, divide_none, divide_other}
use Rattle.cy_planner_pushdown.proofs.Splitting.{map_reversed}
use Rattle.cy_planner_pushdown.proofs.sifting.at_ends_of.Goals as goal

pub loop-test-init : goal.loop-test-init
loop-test-init c =
    let all : List (List ℕ × Expression) = tests_of c.args.tests.items in
    let rest : tests_of c.reverse.new.self.items ≡ reverse all = ap tests_of c.reverse.ensures.items ∙ map_reversed test_of c.args.tests.items in
    subst (λ (ts : List (List ℕ × Expression)). AreDivided all (tests_of c.reverse.new.self.items) ts (tests_of c.new-others.result.items)) (sym (ap tests_of c.new-asked.ensures.items))
    (subst (λ (ts : List (List ℕ × Expression)). AreDivided all (tests_of c.reverse.new.self.items) [] ts) (sym (ap tests_of c.new-others.ensures.items))
    (subst (λ (rs : List (List ℕ × Expression)). AreDivided all rs [] []) (sym rest) (divide_none all)))

pub loop-test-preserved-in-Continue-1 : goal.loop-test-preserved-in-Continue-1
loop-test-preserved-in-Continue-1 c =
    let all : List (List ℕ × Expression) = tests_of c.args.tests.items in
    let rest : List (List ℕ × Expression) = tests_of c.pop.new.self.items in
    let asked : List (List ℕ × Expression) = tests_of c.loop-test.asked.items in
    let others : List (List ℕ × Expression) = tests_of c.loop-test.others.items in
    let last : tests_of c.loop-test.rest.items ≡ rest ++ test_of c.in-Some.test ∷ [] = ap tests_of c.in-Some.ensures.items ∙ map-append test_of c.pop.new.self.items (c.in-Some.test ∷ []) in
    let was : AreDivided all (rest ++ test_of c.in-Some.test ∷ []) asked others = subst (λ (rs : List (List ℕ × Expression)). AreDivided all rs asked others) last c.loop-test.invariant in
    let more : tests_of c.push.new.self.items ≡ asked ++ test_of c.in-Some.test ∷ [] = ap tests_of c.in_ok-push.ensures.items ∙ map-append test_of c.loop-test.asked.items (c.in-Some.test ∷ []) in
    subst (λ (ts : List (List ℕ × Expression)). AreDivided all rest ts others) (sym more) (divide_asked all rest (test_of c.in-Some.test) asked others was)

pub loop-test-preserved : goal.loop-test-preserved
loop-test-preserved c =
    let all : List (List ℕ × Expression) = tests_of c.args.tests.items in
    let rest : List (List ℕ × Expression) = tests_of c.pop.new.self.items in
    let asked : List (List ℕ × Expression) = tests_of c.loop-test.asked.items in
    let others : List (List ℕ × Expression) = tests_of c.loop-test.others.items in
    let last : tests_of c.loop-test.rest.items ≡ rest ++ test_of c.in-Some.test ∷ [] = ap tests_of c.in-Some.ensures.items ∙ map-append test_of c.pop.new.self.items (c.in-Some.test ∷ []) in
    let was : AreDivided all (rest ++ test_of c.in-Some.test ∷ []) asked others = subst (λ (rs : List (List ℕ × Expression)). AreDivided all rs asked others) last c.loop-test.invariant in
    let more : tests_of c.push-else-is_some.new.self.items ≡ others ++ test_of c.in-Some.test ∷ [] = ap tests_of c.in_ok-push-2.ensures.items ∙ map-append test_of c.loop-test.others.items (c.in-Some.test ∷ []) in
    subst (λ (ts : List (List ℕ × Expression)). AreDivided all rest asked ts) (sym more) (divide_other all rest (test_of c.in-Some.test) asked others was)
