use Rattle.std.proofs.Common.{◌+◌, inl, List, map, drop, sym, ap, ◌∙◌}
use Rattle.std.specs.Prelude.{Ok}
use Rattle.std.specs.Vec.Iter.{into_iter_items}
use Rattle.std.proofs.lemmas.List.{drop_all}
use Rattle.std.proofs.lemmas.Result.{err_from_is_err_and}
use Rattle.cy_trees.specs.declared.clauses.Item.{Item}
use Rattle.cy_trees.specs.TreeModels.{item_of}
use Rattle.cy_oneshot_meaning.specs.Groups.{group_cells}
use Rattle.cy_oneshot_patterns.specs.Outcomes.{gathered, together}
use Rattle.cy_oneshot_projections.proofs.GroupAnswers.{cells_more}
use Rattle.cy_oneshot_patterns.proofs.SliceReads.{next_of}
use Rattle.cy_oneshot_meaning.proofs.Together.{settled, together_first, together_last}
use Rattle.cy_oneshot_projections.proofs.groups.group_row.Goals as goal

pub loop-item-preserved : goal.loop-item-preserved
loop-item-preserved c =
    let graph = c.args.store.now.graph.now.content in
    let all = c.args.items.now in
    let i = c.loop-item.item-index in
    let rows = c.deref.ensures.value in
    cells_more graph c.args.group.rows.items c.loop-item.cells c.add.new.self _ (item_of c.item-item.result) (map item_of (drop (i + 1) all)) (map item_of (drop i all))
    (into_iter_items c.loop-item.key) (into_iter_items c.kept_cell-kept.new.key) c.kept_cell-kept.result c.item_cell-outcome.result
    (ap (map item_of) (next_of all i c.item-item.result c.loop-item-test.true c.item-item.is)) c.kept_cell-kept.ensures.cell c.kept_cell-kept.ensures.left
    c.in_ok-add.ensures.ok (settled c.item_cell-outcome.result _ (rw rows at c.item_cell-outcome.ensures) c.in_ok-add.ensures.settled) c.loop-item.invariant

pub loop-item-init : goal.loop-item-init
loop-item-init c = rw (c.in_ok-cells.ensures, c.into_iter-key.ensures.rest, c.into_vec.ensures) (together_first _)

pub returns-in_err-finish : goal.returns-in_err-finish
returns-in_err-finish c =
    let r = err_from_is_err_and c.from_residual-in_err-finish.result c.from_residual-in_err-finish.ensures.1 in
    let all = c.args.items.now in
    let through = sym (together_last c.loop-item.cells)
    ∙ ap (λ (l : List Item). together c.loop-item.cells (gathered (group_cells c.args.store.now.graph.now.content (map item_of l) (into_iter_items c.loop-item.key) c.args.group.rows.items))) (sym (drop_all c.loop-item.item-index all c.loop-item-test.false))
    ∙ c.loop-item.invariant in
    rw (r.1, r.2) (inl (sym through ∙ c.in_err-finish.ensures))

pub returns : goal.returns
returns c =
    let all = c.args.items.now in
    let through = sym (together_last c.loop-item.cells)
    ∙ ap (λ (l : List Item). together c.loop-item.cells (gathered (group_cells c.args.store.now.graph.now.content (map item_of l) (into_iter_items c.loop-item.key) c.args.group.rows.items))) (sym (drop_all c.loop-item.item-index all c.loop-item-test.false))
    ∙ c.loop-item.invariant in
    sym through ∙ c.in_ok-finish.ensures ∙ ap Ok (sym c.new.ensures)
