use Rattle.std.proofs.Common.{◌≡◌, ℕ, List, [], ◌∷◌, ◌++◌, map, reverse, sym, ap, subst, ◌∙◌}
use Rattle.std.proofs.lemmas.List.{map-append}
use Rattle.cy_trees.specs.Trees.{Expression}
use Rattle.cy_trees.specs.TreeModels.{expression_of}
use Rattle.cy_planner_algebra.specs.Plans.{Plan}
use Rattle.cy_planner_algebra.specs.PlanModels.{plan_of}
use Rattle.cy_planner_pushdown.specs.internal.Finding.{AreFound}
use Rattle.cy_planner_pushdown.specs.internal.Tests.{test_of, tests_of}
use Rattle.cy_planner_pushdown.proofs.Finding.{found_next, left_next, none_found}
use Rattle.cy_planner_pushdown.proofs.Splitting.{map_reversed}
use Rattle.cy_planner_pushdown.proofs.filters.find_tests.Goals as goal

pub loop-test-init : goal.loop-test-init
loop-test-init c =
    let below : Plan = plan_of c.args.below.now in
    let all : List Expression = map expression_of c.args.tests.items in
    let waiting : map expression_of c.reverse.new.self.items ≡ reverse all = ap (map expression_of) c.reverse.ensures.items ∙ map_reversed expression_of c.args.tests.items in
    subst (λ (fs : List (List ℕ × Expression)). AreFound c.args.before below all (map expression_of c.reverse.new.self.items) fs (map expression_of c.new-rest.result.items)) (sym (ap tests_of c.new-found.ensures.items))
    (subst (λ (rs : List Expression). AreFound c.args.before below all (map expression_of c.reverse.new.self.items) [] rs) (sym (ap (map expression_of) c.new-rest.ensures.items))
    (subst (λ (ws : List Expression). AreFound c.args.before below all ws [] []) (sym waiting) (none_found c.args.before below all)))

pub loop-test-preserved-in-Continue-branch-2 : goal.loop-test-preserved-in-Continue-branch-2
loop-test-preserved-in-Continue-branch-2 c =
    let below : Plan = plan_of c.args.below.now in
    let all : List Expression = map expression_of c.args.tests.items in
    let e : Expression = expression_of c.in-Some.test in
    let waiting : List Expression = map expression_of c.pop.new.self.items in
    let found : List (List ℕ × Expression) = tests_of c.loop-test.found.items in
    let rest : List Expression = map expression_of c.loop-test.rest.items in
    let last : map expression_of c.loop-test.waiting.items ≡ waiting ++ e ∷ [] = ap (map expression_of) c.in-Some.ensures.items ∙ map-append expression_of c.pop.new.self.items (c.in-Some.test ∷ []) in
    let was : AreFound c.args.before below all (waiting ++ e ∷ []) found rest = subst (λ (ws : List Expression). AreFound c.args.before below all ws found rest) last c.loop-test.invariant in
    let is = rw c.in-OnCells.is at c.in_ok-looked.ensures in
    let more : tests_of c.push.new.self.items ≡ found ++ test_of c.in-OnCells.on_cells ∷ [] = ap tests_of c.in_ok-push-in-OnCells.ensures.items ∙ map-append test_of c.loop-test.found.items (c.in-OnCells.on_cells ∷ []) in
    subst (λ (fs : List (List ℕ × Expression)). AreFound c.args.before below all waiting fs rest) (sym more)
    (found_next c.args.before below all waiting e found rest was c.in-OnCells.on_cells.columns.items (expression_of c.in-OnCells.on_cells.test) is.0 is.1)

pub loop-test-preserved-in-Continue-branch-3 : goal.loop-test-preserved-in-Continue-branch-3
loop-test-preserved-in-Continue-branch-3 c =
    let below : Plan = plan_of c.args.below.now in
    let all : List Expression = map expression_of c.args.tests.items in
    let e : Expression = expression_of c.in-Some.test in
    let waiting : List Expression = map expression_of c.pop.new.self.items in
    let found : List (List ℕ × Expression) = tests_of c.loop-test.found.items in
    let rest : List Expression = map expression_of c.loop-test.rest.items in
    let last : map expression_of c.loop-test.waiting.items ≡ waiting ++ e ∷ [] = ap (map expression_of) c.in-Some.ensures.items ∙ map-append expression_of c.pop.new.self.items (c.in-Some.test ∷ []) in
    let was : AreFound c.args.before below all (waiting ++ e ∷ []) found rest = subst (λ (ws : List Expression). AreFound c.args.before below all ws found rest) last c.loop-test.invariant in
    let same : expression_of c.in-Other.other ≡ e = rw c.in-Other.is at c.in_ok-looked.ensures in
    let more : map expression_of c.push-in-Other.new.self.items ≡ rest ++ e ∷ [] =
    ap (map expression_of) c.in_ok-push-in-Other.ensures.items ∙ map-append expression_of c.loop-test.rest.items (c.in-Other.other ∷ []) ∙ ap (λ (f : Expression). rest ++ f ∷ []) same in
    subst (λ (rs : List Expression). AreFound c.args.before below all waiting found rs) (sym more) (left_next c.args.before below all waiting e found rest was)

pub loop-test-preserved : goal.loop-test-preserved
loop-test-preserved c =
    let below : Plan = plan_of c.args.below.now in
    let all : List Expression = map expression_of c.args.tests.items in
    let e : Expression = expression_of c.in-Some.test in
    let waiting : List Expression = map expression_of c.pop.new.self.items in
    let found : List (List ℕ × Expression) = tests_of c.loop-test.found.items in
    let rest : List Expression = map expression_of c.loop-test.rest.items in
    let last : map expression_of c.loop-test.waiting.items ≡ waiting ++ e ∷ [] = ap (map expression_of) c.in-Some.ensures.items ∙ map-append expression_of c.pop.new.self.items (c.in-Some.test ∷ []) in
    let was : AreFound c.args.before below all (waiting ++ e ∷ []) found rest = subst (λ (ws : List Expression). AreFound c.args.before below all ws found rest) last c.loop-test.invariant in
    let more : map expression_of c.push-else-len-most.new.self.items ≡ rest ++ e ∷ [] = ap (map expression_of) c.in_ok-push.ensures.items ∙ map-append expression_of c.loop-test.rest.items (c.in-Some.test ∷ []) in
    subst (λ (rs : List Expression). AreFound c.args.before below all waiting found rs) (sym more) (left_next c.args.before below all waiting e found rest was)
