use Rattle.std.proofs.Common.{refl, inr}
use Rattle.std.specs.Prelude.{IsOk}
use Rattle.std.proofs.lemmas.Result.{err_from_is_err_and}
use Rattle.cy_engine_views.specs.Upkeep.{views_in}
use Rattle.cy_engine_views.specs.RegisteredViews.{view_among}
use Rattle.cy_engine_lines.specs.Model.{state_of}
use Rattle.cy_engine_lines.specs.Verdicts.{rows_verdict}
use Rattle.cy_engine_lines.proofs.Since.{found_rows, is_found, missing_rows}
use Rattle.cy_engine_lines.proofs.engine.Engine.rows.Goals as goal

pub rows-requires : goal.rows-requires
rows-requires c = (c.self.inside.store.graph.now.content, (c.self.inside.tick, c.self.invariant.stand))

pub returns-in_err-rows-clause-refused : goal.returns-in_err-rows-clause-refused
returns-in_err-rows-clause-refused c =
    let p = err_from_is_err_and c.from_residual.result c.from_residual.ensures.1 in
    let there : IsOk (rows_verdict c.args.view.now (state_of c.args.self.now)) = rw (← c.self.view_is) (is_found (view_among c.args.view.now (views_in c.self.inside.views)) c.in_err-rows.ensures.there) in
    rw (p.1, p.2) (inr (refl, there))

pub returns-clause-rows : goal.returns-clause-rows
returns-clause-rows c =
    let graph = c.self.inside.store.graph.now.content in
    rw (← c.self.view_is) (found_rows (view_among c.args.view.now (views_in c.self.inside.views)) graph c.in_ok-rows.field-0 (c.in_ok-rows.ensures.rows graph c.self.inside.tick c.self.invariant.stand) c.ok_or.result c.ok_or.ensures.value)

pub returns-clause-refused : goal.returns-clause-refused
returns-clause-refused c =
    let graph = c.self.inside.store.graph.now.content in
    rw (← c.self.view_is) (missing_rows (view_among c.args.view.now (views_in c.self.inside.views)) graph c.in_ok-rows.field-0 (c.in_ok-rows.ensures.rows graph c.self.inside.tick c.self.invariant.stand) c.ok_or.result c.ok_or.ensures.value)
