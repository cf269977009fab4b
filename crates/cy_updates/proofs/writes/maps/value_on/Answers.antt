use Rattle.std.proofs.lemmas.Result.{err_from_is_err_and}
use Rattle.cy_oneshot_meaning.proofs.InGraphLemmas.{row_numbered}
use Rattle.cy_updates.proofs.MapValues.{fault_is, value_is}
use Rattle.cy_updates.proofs.writes.maps.value_on.Goals as goal

-- the numbers of what is in the graph
pub eval_value-requires : goal.eval_value-requires
eval_value-requires c = row_numbered c.args.store.now.graph.now c.laws.ensures c.args.row.now c.requires

pub returns-in_err-value : goal.returns-in_err-value
returns-in_err-value c =
    let p = err_from_is_err_and c.from_residual.result c.from_residual.ensures.1 in
    rw (p.1, p.2) (fault_is _ c.in_err-value.field-0.0 c.in_err-value.ensures)

pub returns : goal.returns
returns c = value_is _ c.in_ok-value.value c.in_ok-value.ensures
