use Rattle.cy_trees.specs.TreeModels.{expression_of}
use Rattle.cy_expr.proofs.ReadingLemmas.{sure-cell}
use Rattle.cy_expr.proofs.cells.eval_sure.Goals as goal

pub returns-in-Ok : goal.returns-in-Ok
returns-in-Ok c = λ graph. sure-cell graph c.args.row.now (expression_of c.args.expression.now) c.in-Ok.cell c.requires.columns c.in-Ok.ensures
