use Rattle.std.proofs.Common.{◌≡◌, [], length, sym, ap, ◌∙◌, arith}
use Rattle.cy_trees.specs.Trees.{Expression}
use Rattle.cy_trees.specs.TreeModels.{expression_of}
use Rattle.cy_planner_rows.specs.internal.Conjuncts.{all_conjuncts, conjuncts}
use Rattle.cy_planner_rows.proofs.Alike.{one_at_least}
use Rattle.cy_planner_rows.proofs.Stacks.{conjuncts_again}
use Rattle.cy_planner_rows.proofs.conjunctions.halved.Goals as goal

pub unreachable-requires : goal.unreachable-requires
unreachable-requires c =
    let test : Expression = expression_of c.args.test in
    let none : all_conjuncts c.in_ok-tests.tests.items ≡ [] = rw c.in-None.is at c.in_ok-test.ensures in
    let again = conjuncts_again c.in_ok-tests.tests.items test c.in_ok-tests.ensures in
    let long = ap length (sym again ∙ none) in
    let one = one_at_least test in
    omega (arith, long, one)

pub returns : goal.returns
returns c =
    let is : conjuncts (expression_of c.in-Some.test) ≡ all_conjuncts c.in_ok-tests.tests.items = rw c.in-Some.is at c.in_ok-test.ensures in
    is ∙ conjuncts_again c.in_ok-tests.tests.items (expression_of c.args.test) c.in_ok-tests.ensures
