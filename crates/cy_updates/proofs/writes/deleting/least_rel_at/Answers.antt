use Rattle.std.proofs.Common.{◌≡◌, ◌+◌, [], false, List, map, refl, sym, ap, take, ◌∙◌}
use Rattle.std.specs.Prelude.{slice_get}
use Rattle.std.proofs.lemmas.List.{take_all, take_more}
use Rattle.cy_values.specs.declared.numbers.NodeId.{NodeId}
use Rattle.cy_updates.specs.internal.Deleting.{lesser_of, lies_among}
use Rattle.cy_updates.proofs.DeletedAll.{Entry, keys_where, key, least_more, passes_none}
use Rattle.cy_updates.proofs.DeletedSets.{each_is}
use Rattle.cy_updates.proofs.writes.deleting.least_rel_at.Goals as goal

pub loop-id-init : goal.loop-id-init
loop-id-init c =
    let rels = c.args.store.now.graph.now.content.rels in
    sym (ap (λ (es : List Entry). slice_get (map key es) 0) (passes_none (lies_among []) rels (each_is (λ (e : Entry). lies_among [] e ≡ false) (λ e. refl) rels)))

pub loop-id-preserved : goal.loop-id-preserved
loop-id-preserved c =
    let l = c.loop-id in
    let nodes = c.args.nodes.now in
    c.lesser-least.ensures ∙ ap (lesser_of l.least) c.least_rel.ensures
    ∙ least_more c.args.store.now.graph.now c.laws.ensures (take l.id-index nodes) _ (take (l.id-index + 1) nodes)
    (take_more nodes l.id-index _ c.loop-id-test.true) l.least l.invariant

pub returns : goal.returns
returns c =
    let l = c.loop-id in
    let nodes = c.args.nodes.now in
    l.invariant ∙ ap (λ (ids : List NodeId). slice_get (keys_where (lies_among ids) c.args.store.now.graph.now.content.rels) 0) (take_all l.id-index nodes c.loop-id-test.false)
