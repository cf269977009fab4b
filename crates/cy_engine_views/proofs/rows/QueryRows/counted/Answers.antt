use Rattle.cy_engine_views.proofs.Served.{counted_rows}
use Rattle.cy_engine_views.proofs.rows.QueryRows.counted.Goals as goal

pub rows-requires : goal.rows-requires
rows-requires c = (c.requires.0, record { rows = c.requires.1.network.rows; positive = c.requires.1.network.positive })

pub returns : goal.returns
returns c = λ graph stands.
    counted_rows c.args.self.now graph c.in_ok-rows.rows.items stands
    (c.in_ok-rows.ensures.bag graph (record { rows = stands.network.rows; positive = stands.network.positive })) c.in_ok-rows.ensures.canonical
