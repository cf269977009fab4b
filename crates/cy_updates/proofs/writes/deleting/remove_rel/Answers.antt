use Rattle.std.proofs.Common.{◌≡◌, ◌+◌, ◌∷◌, ◌++◌, [], length, refl, sym, ap, ◌∙◌, arith}
use Rattle.cy_graph.specs.Graph.{without_rel}
use Rattle.cy_index.specs.Index.{StoreState}
use Rattle.cy_updates.specs.internal.Deleting.{without_rels}
use Rattle.cy_updates.proofs.DeletedSets.{one_less, rels_none, rels_one}
use Rattle.cy_updates_meaning.proofs.Graphs.{rel_number}
use Rattle.cy_updates.proofs.writes.deleting.remove_rel.Goals as goal

pub returns-in_default-clause-removed : goal.returns-in_default-clause-removed
returns-in_default-clause-removed c = λ ids. rels_none ids c.args.id (ids ++ c.args.id ∷ []) c.args.store.now.graph.now refl (sym c.in_default.ensures)

pub remove_rel-requires-clause-there : goal.remove_rel-requires-clause-there
remove_rel-requires-clause-there c = rw (sym c.in-Some.ensures) refl

pub returns-clause-removed : goal.returns-clause-removed
returns-clause-removed c = λ ids.
    ap (λ (s : StoreState). without_rels ids s.graph.now) c.in_ok-remove_rel.ensures.ok ∙ rels_one ids c.args.id (ids ++ c.args.id ∷ []) c.args.store.now.graph.now refl

pub returns-clause-count : goal.returns-clause-count
returns-clause-count c =
    let before = c.args.store.now.graph.now in
    let left : length c.remove_rel.new.self.graph.now.content.rels ≡ length (without_rel c.args.id before).content.rels = ap (λ (s : StoreState). length s.graph.now.content.rels) c.in_ok-remove_rel.ensures.ok in
    let less : length (without_rel c.args.id before).content.rels + 1 ≡ length before.content.rels = one_less rel_number c.args.id before.content.rels c.laws.ensures.rels_rising (rw (sym c.in-Some.ensures) refl) in
    omega (arith, left, less)
