use Rattle.std.proofs.Common.{◌≡◌, ℕ, ◌+◌, List, [], ◌∷◌, ◌++◌, length, sym, ap, subst, ◌∙◌, arith}
use Rattle.std.proofs.lemmas.List.{length-append, map-append}
use Rattle.cy_trees.specs.Trees.{Expression}
use Rattle.cy_trees.specs.TreeModels.{expression_of}
use Rattle.cy_planner_pushdown.specs.internal.Sifting.{AreParted}
use Rattle.cy_planner_pushdown.specs.internal.Tests.{test_of, tests_of}
use Rattle.cy_planner_pushdown.proofs.Putting.{part_alone, part_first, part_other}
use Rattle.cy_planner_pushdown.proofs.sifting.part_by_column.Goals as goal

pub loop-test-init : goal.loop-test-init
loop-test-init c =
    let rest : List (List ℕ × Expression) = tests_of c.args.rest.items in
    let all : List (List ℕ × Expression) = rest ++ test_of c.args.first ∷ [] in
    let alone : tests_of c.push.new.self.items ≡ (0 ∷ [], expression_of c.args.first.test) ∷ [] =
    ap tests_of (c.in_ok-push.ensures.items ∙ ap (λ ts. ts ++ c.in_ok-on_cell.field-0 ∷ []) c.new-alone.ensures.items) ∙ ap (λ (t : List ℕ × Expression). t ∷ []) c.in_ok-on_cell.ensures in
    let none : tests_of c.new-others.result.items ≡ [] = ap tests_of c.new-others.ensures.items in
    let long : length c.new-others.result.items ≡ 0 = ap length c.new-others.ensures.items in (
      subst (λ (os : List (List ℕ × Expression)). AreParted c.args.column all rest (tests_of c.push.new.self.items) os) (sym none)
          (subst (λ (ts : List (List ℕ × Expression)). AreParted c.args.column all rest ts []) (sym alone) (part_first c.args.column (test_of c.args.first) c.requires rest)),
      omega (arith, long),
    )

pub loop-test-preserved-in_ok-push-2 : goal.loop-test-preserved-in_ok-push-2
loop-test-preserved-in_ok-push-2 c =
    let all : List (List ℕ × Expression) = tests_of c.args.rest.items ++ test_of c.args.first ∷ [] in
    let rest : List (List ℕ × Expression) = tests_of c.pop.new.self.items in
    let alone : List (List ℕ × Expression) = tests_of c.loop-test.alone.items in
    let others : List (List ℕ × Expression) = tests_of c.loop-test.others.items in
    let last : tests_of c.loop-test.rest.items ≡ rest ++ test_of c.in-Some.test ∷ [] = ap tests_of c.in-Some.ensures.items ∙ map-append test_of c.pop.new.self.items (c.in-Some.test ∷ []) in
    let was : AreParted c.args.column all (rest ++ test_of c.in-Some.test ∷ []) alone others = subst (λ (rs : List (List ℕ × Expression)). AreParted c.args.column all rs alone others) last c.loop-test.invariant.0 in
    let more : tests_of c.push-then-is_on.new.self.items ≡ alone ++ (0 ∷ [], expression_of c.in-Some.test.test) ∷ [] =
    ap tests_of c.in_ok-push-2.ensures.items ∙ map-append test_of c.loop-test.alone.items (c.in_ok-on_cell-2.field-0 ∷ []) ∙ ap (λ (t : List ℕ × Expression). alone ++ t ∷ []) c.in_ok-on_cell-2.ensures in
    let long : length c.loop-test.rest.items ≡ length c.pop.new.self.items + 1 = ap length c.in-Some.ensures.items ∙ length-append c.pop.new.self.items (c.in-Some.test ∷ []) in
    let before = c.loop-test.invariant.1 in (
      subst (λ (ts : List (List ℕ × Expression)). AreParted c.args.column all rest ts others) (sym more)
          (part_alone c.args.column (test_of c.in-Some.test) (c.is_on.ensures c.if-is_on.true) all rest alone others was),
      omega (arith, long, before),
    )

pub loop-test-preserved : goal.loop-test-preserved
loop-test-preserved c =
    let all : List (List ℕ × Expression) = tests_of c.args.rest.items ++ test_of c.args.first ∷ [] in
    let rest : List (List ℕ × Expression) = tests_of c.pop.new.self.items in
    let alone : List (List ℕ × Expression) = tests_of c.loop-test.alone.items in
    let others : List (List ℕ × Expression) = tests_of c.loop-test.others.items in
    let last : tests_of c.loop-test.rest.items ≡ rest ++ test_of c.in-Some.test ∷ [] = ap tests_of c.in-Some.ensures.items ∙ map-append test_of c.pop.new.self.items (c.in-Some.test ∷ []) in
    let was : AreParted c.args.column all (rest ++ test_of c.in-Some.test ∷ []) alone others = subst (λ (rs : List (List ℕ × Expression)). AreParted c.args.column all rs alone others) last c.loop-test.invariant.0 in
    let pushed : c.push-else-is_on.new.self.items ≡ c.loop-test.others.items ++ c.in-Some.test ∷ [] = c.in_ok-push-3.ensures.items in
    let more : tests_of c.push-else-is_on.new.self.items ≡ others ++ test_of c.in-Some.test ∷ [] = ap tests_of pushed ∙ map-append test_of c.loop-test.others.items (c.in-Some.test ∷ []) in
    let long : length c.loop-test.rest.items ≡ length c.pop.new.self.items + 1 = ap length c.in-Some.ensures.items ∙ length-append c.pop.new.self.items (c.in-Some.test ∷ []) in
    let longer : length c.push-else-is_on.new.self.items ≡ length c.loop-test.others.items + 1 = ap length pushed ∙ length-append c.loop-test.others.items (c.in-Some.test ∷ []) in
    let before = c.loop-test.invariant.1 in (
      subst (λ (ts : List (List ℕ × Expression)). AreParted c.args.column all rest alone ts) (sym more) (part_other c.args.column (test_of c.in-Some.test) all rest alone others was),
      omega (arith, long, longer, before),
    )
