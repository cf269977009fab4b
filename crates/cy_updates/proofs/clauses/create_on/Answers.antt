use Rattle.std.proofs.Common.{map}
use Rattle.std.proofs.lemmas.Result.{IfOk-at_ok, err_from_is_err_and}
use Rattle.cy_trees.specs.TreeModels.{path_of}
use Rattle.cy_updates.proofs.ClauseSteps.{none_gone_grown}
use Rattle.cy_updates_meaning.proofs.Created.{GoodTable, rows_good}
use Rattle.cy_updates.proofs.clauses.create_on.Goals as goal

pub returns-in_err-made-clause-meaning : goal.returns-in_err-made-clause-meaning
returns-in_err-made-clause-meaning c =
    let p = err_from_is_err_and c.from_residual-in_err-made.result c.from_residual-in_err-made.ensures.1 in
    rw (p.1, p.2) c.in_err-made.ensures.meaning

pub returns-clause-meaning : goal.returns-clause-meaning
returns-clause-meaning c = rw c.with_none_gone.ensures c.in_ok-made.ensures.meaning

pub returns-clause-columns : goal.returns-clause-columns
returns-clause-columns c = rw c.with_none_gone.ensures c.in_ok-add_names.ensures

pub returns-clause-gone : goal.returns-clause-gone
returns-clause-gone c =
    let before = c.args.store.now.graph.now in
    let good = IfOk-at_ok (GoodTable before) c.in_ok-made.ensures.meaning (rows_good before (map path_of c.args.paths.now) c.args.table.rows.items c.laws.ensures c.requires.there) in
    rw c.with_none_gone.ensures (none_gone_grown before c.create.new.store.graph.now good.grown)
