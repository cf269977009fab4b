use Rattle.std.proofs.Common.{◌+◌, ◌++◌, IsSome, List, Option, sym, ap, subst, ◌∙◌, drop, map}
use Rattle.std.specs.Prelude.{Ok}
use Rattle.std.proofs.lemmas.Result.{err_from_is_err_and}
use Rattle.cy_values.specs.declared.rows.Cell.{Cell}
use Rattle.cy_trees.specs.TreeModels.{path_of}
use Rattle.cy_graph.specs.Graph.{State}
use Rattle.cy_updates_meaning.specs.Creating.{with_path}
use Rattle.cy_updates_meaning.specs.Faults.{◌>>=◌}
use Rattle.cy_updates.specs.internal.Creating.{creation, graph_row}
use Rattle.cy_updates.proofs.CreatedRows.{path_kept}
use Rattle.cy_updates_meaning.proofs.InTurn.{all_done, next_in, next_leads, next_stops, none_in, or_wants}
use Rattle.cy_updates.proofs.writes.creating.create_row.Goals as goal

pub returns-in_err-create_path-clause-meaning : goal.returns-in_err-create_path-clause-meaning
returns-in_err-create_path-clause-meaning c =
    let l = c.loop-path in
    let paths = c.args.paths.now in
    let row = c.args.row in
    let p = err_from_is_err_and c.from_residual.result c.from_residual.ensures.1 in
    let why = c.in_err-create_path.field-0.0 in
    rw (p.1, p.2) (or_wants why (λ stops.
    ap (λ r. r >>= λ made. Ok (graph_row made.graph made.row))
    (next_stops (with_path row) (map path_of (drop l.path-index paths)) (map path_of (drop (l.path-index + 1) paths)) (path_of c.path-item.result)
    (next_in path_of paths l.path-index c.path-item.result c.loop-path-test.true c.path-item.is) (creation l.store.graph.now row l.made) _ l.invariant.leads why stops)) c.in_err-create_path.ensures.meaning)

pub loop-path-preserved : goal.loop-path-preserved
loop-path-preserved c =
    let l = c.loop-path in
    let paths = c.args.paths.now in
    let row = c.args.row in
    let done = c.in_ok-create_path.ensures in
    let before = creation l.store.graph.now row l.made in
    let now = creation c.create_path.new.store.graph.now row c.create_path.new.made in
    record {
      leads = next_leads (with_path row) (map path_of (drop l.path-index paths)) (map path_of (drop (l.path-index + 1) paths)) (path_of c.path-item.result)
          (next_in path_of paths l.path-index c.path-item.result c.loop-path-test.true c.path-item.is) before _ l.invariant.leads now done.meaning;
      there = path_kept row before now c.laws.ensures l.invariant.there (path_of c.path-item.result) done.meaning;
      was = done.open ∙ l.invariant.was;
      opened = subst (λ (o : Option State). IsSome o) (sym done.open) l.invariant.opened;
      indexes = done.indexes ∙ l.invariant.indexes;
    }

pub returns-clause-meaning : goal.returns-clause-meaning
returns-clause-meaning c =
    let l = c.loop-path in
    let row = c.args.row in
    let done = all_done (with_path row) (map path_of (drop l.path-index c.args.paths.now)) (none_in path_of c.args.paths.now l.path-index c.loop-path-test.false) (creation l.store.graph.now row l.made) _ l.invariant.leads in
    let longer = c.new-2.ensures ∙ c.in_ok-append.ensures.items ∙ ap (λ (cells : List Cell). cells ++ l.made.cells.items) c.into_vec-cells.ensures in
    ap (λ r. r >>= λ made. Ok (graph_row made.graph made.row)) done ∙ ap (λ (cells : List Cell). Ok (graph_row l.store.graph.now cells)) (sym longer)
