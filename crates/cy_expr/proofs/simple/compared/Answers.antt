-- One comparison, of cells that are read where they lie.
use Rattle.std.proofs.Common.{sym}
use Rattle.cy_trees.specs.TreeModels.{expression_of}
use Rattle.cy_expr.specs.internal.Lent.{lent_cell}
use Rattle.cy_expr.proofs.Rules.{one_compared}
use Rattle.cy_expr.proofs.simple.compared.Goals as goal

pub returns-in-Ok : goal.returns-in-Ok
returns-in-Ok g c =
    one_compared (g.G.Lookups.lookups c.args.graph.now) c.args.row.now (expression_of c.args.first.now) c.args.links.now c.index-links-0.result (lent_cell c.in_ok-left.left) (lent_cell c.in_ok-right.right) c.in-Ok.truth
    c.if-links-ne1.false c.index-links-0.is c.in_ok-left.ensures c.in_ok-right.ensures (sym c.in-Ok.ensures)
