use Rattle.std.proofs.Common.{rules, ◌≡◌, None}
use Rattle.cy_trees.specs.TreeModels.{statement_of}
use Rattle.cy_scope.specs.ClauseFaults.{statement_fault}
use Rattle.cy_scope.proofs.statements.check.Goals as goal

-- the tree that came has no fault, and its columns were set
pub invariant_of-result : goal.invariant_of-result
invariant_of-result c =
    let s = statement_of c.args.statement in
    let good : statement_fault s ≡ None = search rules in
    (s, good, c.in_ok-statement.ensures)
