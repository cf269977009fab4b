use Rattle.std.proofs.Common.{List, IsSome, Option, refl, sym, subst, ◌++◌, ◌∷◌, [], ◌∙◌, map}
use Rattle.std.specs.Vec.Iter.{into_iter_items}
use Rattle.std.proofs.lemmas.List.{nil_from_length}
use Rattle.std.proofs.lemmas.Result.{err_from_is_err_and}
use Rattle.cy_values.specs.declared.rows.Cell.{Cell}
use Rattle.cy_trees.specs.TreeModels.{path_of}
use Rattle.cy_graph.specs.Graph.{State}
use Rattle.cy_oneshot_meaning.specs.Reading.{AreInGraph}
use Rattle.cy_updates_meaning.specs.Statements.{create_row}
use Rattle.cy_updates_meaning.specs.internal.Answers.{graph_table}
use Rattle.cy_updates.proofs.CreatedRows.{row_done, row_stopped, rows_kept}
use Rattle.cy_updates_meaning.proofs.InTurn.{all_done, next_leads, next_stops, or_wants}
use Rattle.cy_updates.proofs.writes.creating.create.Goals as goal

pub loop-row-init : goal.loop-row-init
loop-row-init c =
    rw (c.in_ok-longer.ensures.items, c.into_iter-row-iterator.ensures.into_iter_gives.0) (record { leads = refl; there = c.requires.there; was = refl; opened = c.requires.open; indexes = refl })

pub create_row-requires-clause-there : goal.create_row-requires-clause-there
create_row-requires-clause-there c =
    (subst (λ (l : List (List Cell)). AreInGraph c.loop-row.store.graph.now.content l) c.in-Some.ensures.steps.0 c.loop-row.invariant.there).0

pub returns-in_err-made-clause-meaning : goal.returns-in_err-made-clause-meaning
returns-in_err-made-clause-meaning c =
    let l = c.loop-row in
    let paths = map path_of c.args.paths.now in
    let p = err_from_is_err_and c.from_residual-in_err-made.result c.from_residual-in_err-made.ensures.1 in
    let why = c.in_err-made.field-0.0 in
    rw (p.1, p.2) (or_wants why (λ stops.
    next_stops (create_row paths) (into_iter_items l.row-iterator) (into_iter_items c.next.new.self) c.in-Some.row c.in-Some.ensures.steps.0 (graph_table l.store.graph.now l.longer.items) _ l.invariant.leads why
    (row_stopped l.store.graph.now paths c.in-Some.row why stops l.longer.items)) c.in_err-made.ensures.meaning)

pub loop-row-preserved : goal.loop-row-preserved
loop-row-preserved c =
    let l = c.loop-row in
    let paths = map path_of c.args.paths.now in
    let next = c.in-Some.ensures.steps.0 in
    let row = c.in-Some.row in
    let made = c.in_ok-made.made in
    let done = c.in_ok-made.ensures in
    let before = l.store.graph.now in
    let now = c.create_row.new.store.graph.now in
    let there = subst (λ (l : List (List Cell)). AreInGraph before.content l) next l.invariant.there in
    rw c.in_ok-push.ensures.items (record {
      leads = next_leads (create_row paths) (into_iter_items l.row-iterator) (into_iter_items c.next.new.self) row next (graph_table before l.longer.items) _ l.invariant.leads
          (graph_table now (l.longer.items ++ made ∷ [])) (row_done before now paths row made done.meaning l.longer.items);
      there = rows_kept before now paths row made c.laws.ensures there.0 done.meaning (into_iter_items c.next.new.self) there.1;
      was = done.open ∙ l.invariant.was;
      opened = subst (λ (o : Option State). IsSome o) (sym done.open) l.invariant.opened;
      indexes = done.indexes ∙ l.invariant.indexes;
    })

pub returns-clause-meaning : goal.returns-clause-meaning
returns-clause-meaning c =
    let l = c.loop-row in
    let left = into_iter_items l.row-iterator in
    let none = nil_from_length left (sym l.row-iterator.rest.ok.0 ∙ c.in-None.ensures.steps.0) in
    all_done (create_row (map path_of c.args.paths.now)) left none (graph_table l.store.graph.now l.longer.items) _ l.invariant.leads
