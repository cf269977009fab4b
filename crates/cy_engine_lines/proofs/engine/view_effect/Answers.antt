use Rattle.std.proofs.Common.{refl, sym, ◌∙◌, arith, inl, inr}
use Rattle.std.proofs.lemmas.Result.{err_from_is_err_and}
use Rattle.cy_network_sources.specs.Changes.{before_change}
use Rattle.cy_engine_lines.proofs.ChangeEffects.{cannot_follow, differs, graph_before, moves_on, same, touched_before}
use Rattle.cy_engine_lines.proofs.Queries.{risen}
use Rattle.cy_engine_lines.proofs.engine.view_effect.Goals as goal

pub returns-then-is_empty-clause-effect : goal.returns-then-is_empty-clause-effect
returns-then-is_empty-clause-effect c =
    let graph = c.args.store.now.graph in
    let touched = touched_before graph c.in_ok-touched.touched c.requires.«open» c.in_ok-touched.ensures.ok in (
      same graph.now (before_change graph) c.in_ok-touched.touched touched (sym c.is_empty.ensures ∙ c.if-is_empty.true) c.in_ok-touched.ensures.graphs.0
          (graph_before graph c.requires.«open» c.in_ok-touched.ensures.graphs.1),
      refl,
    )

pub returns-in_err-next-clause-refused : goal.returns-in_err-next-clause-refused
returns-in_err-next-clause-refused c =
    let p = err_from_is_err_and c.from_residual-in_err-next.result c.from_residual-in_err-next.ensures.1 in
    let graph = c.args.store.now.graph in
    let touched = touched_before graph c.in_ok-touched.touched c.requires.«open» c.in_ok-touched.ensures.ok in
    rw (p.1, p.2) (inr (inl (moves_on graph.now (before_change graph) c.in_ok-touched.touched touched (sym c.is_empty.ensures ∙ c.if-is_empty.false) c.args.tick ∙ sym c.in_err-next.ensures.next)))

pub prepare-requires : goal.prepare-requires
prepare-requires c = record {
  «open» = c.requires.«open»;
  stand = (c.args.tick, omega (arith, risen c.args.tick c.in_ok-next.next (sym c.in_ok-next.ensures.next)), c.requires.stand);
}

pub returns-in_err-entries-clause-refused : goal.returns-in_err-entries-clause-refused
returns-in_err-entries-clause-refused c =
    let p = err_from_is_err_and c.from_residual-in_err-entries.result c.from_residual-in_err-entries.ensures.1 in
    let graph = c.args.store.now.graph in
    let touched = touched_before graph c.in_ok-touched.touched c.requires.«open» c.in_ok-touched.ensures.ok in
    rw (p.1, p.2) (cannot_follow _ (before_change graph) graph.now c.args.tick c.in_ok-next.next c.in_err-entries.field-0.0
    (moves_on graph.now (before_change graph) c.in_ok-touched.touched touched (sym c.is_empty.ensures ∙ c.if-is_empty.false) c.args.tick ∙ sym c.in_ok-next.ensures.next) c.in_err-entries.ensures.refused)

pub returns-clause-effect : goal.returns-clause-effect
returns-clause-effect c =
    let graph = c.args.store.now.graph in
    let touched = touched_before graph c.in_ok-touched.touched c.requires.«open» c.in_ok-touched.ensures.ok in
    record {
      differs = differs graph.now (before_change graph) c.in_ok-touched.touched touched (sym c.is_empty.ensures ∙ c.if-is_empty.false);
      ticks = sym c.in_ok-next.ensures.next;
      in_time = c.in_ok-next.ensures.in_time;
      entries_are = c.in_ok-entries.ensures.entries;
      ready_are = c.in_ok-entries.ensures.ready;
      held = c.prepare.ensures.held;
    }

pub returns-in_err-entries-clause-back : goal.returns-in_err-entries-clause-back
returns-in_err-entries-clause-back c =
    let p = err_from_is_err_and c.from_residual-in_err-entries.result c.from_residual-in_err-entries.ensures.1 in
    rw p.1 (c.in_err-entries.ensures.err c.args.tick c.requires.stand)
