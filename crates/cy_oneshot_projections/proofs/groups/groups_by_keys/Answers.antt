use Rattle.std.proofs.Common.{List, map, refl, sym, ap, ◌∙◌}
use Rattle.std.specs.Vec.Iter.{into_iter_items}
use Rattle.std.proofs.lemmas.List.{nil_from_length}
use Rattle.std.proofs.lemmas.Result.{IfOk-weaker}
use Rattle.cy_oneshot_meaning.specs.Groups.{Grouped}
use Rattle.cy_oneshot_projections.specs.internal.Grouping.{Gathering, with_rows}
use Rattle.cy_oneshot_projections.specs.internal.Keys.{gathering_of, grouped_of}
use Rattle.cy_oneshot_projections.proofs.GroupsByKeys.{groups_of_rows}
use Rattle.cy_oneshot_projections.proofs.groups.groups_by_keys.Goals as goal

pub loop-next-init : goal.loop-next-init
loop-next-init c = rw (c.new-groups.ensures.empty, c.into_iter-next-iterator.ensures.into_iter_gives.0) refl

pub loop-next-preserved : goal.loop-next-preserved
loop-next-preserved c =
    ap (λ (l : List Gathering). with_rows l (map grouped_of (into_iter_items c.next.new.self))) c.in_ok-add_row.ensures
    ∙ ap (λ l. with_rows (map gathering_of c.loop-next.groups.entries) (map grouped_of l)) (sym c.in-Some.ensures.steps.0)
    ∙ c.loop-next.invariant

pub returns : goal.returns
returns c =
    let left = into_iter_items c.loop-next.next-iterator in
    let none = nil_from_length left (sym c.loop-next.next-iterator.rest.ok.0 ∙ c.in-None.ensures.steps.0) in
    let gs : List Grouped = map grouped_of c.args.grouped.items in
    IfOk-weaker c.listed.result _ _ (λ groups are.
    are ∙ ap (λ l. with_rows (map gathering_of c.loop-next.groups.entries) (map grouped_of l)) (sym none) ∙ c.loop-next.invariant ∙ groups_of_rows c.row_order_laws.ensures.total gs)
    c.listed.ensures
