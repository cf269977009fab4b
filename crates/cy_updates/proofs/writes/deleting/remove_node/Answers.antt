use Rattle.std.proofs.Common.{◌≡◌, ◌+◌, ◌∷◌, ◌++◌, [], Err, length, refl, sym, ap, ◌∙◌, arith, inl, inr}
use Rattle.std.specs.Prelude.{◌⊎◌}
use Rattle.std.proofs.lemmas.Option.{none-some}
use Rattle.std.proofs.lemmas.Result.{err_from_is_err_and}
use Rattle.cy_values.specs.declared.numbers.RelId.{RelId}
use Rattle.cy_graph.specs.declared.faults.GraphFault.{GraphFault}
use Rattle.cy_graph.specs.declared.faults.GraphFault.TheVariants as refusal
use Rattle.cy_graph.specs.Graph.{without_node}
use Rattle.cy_index.specs.Index.{StoreState}
use Rattle.cy_updates_meaning.specs.declared.faults.UpdateFault.TheVariants.{NoMemory}
use Rattle.cy_updates_meaning.specs.Faults.{of_graph}
use Rattle.cy_updates.specs.internal.Deleting.{without_nodes}
use Rattle.cy_updates.proofs.DeletedSets.{nodes_none, nodes_one, one_less}
use Rattle.cy_updates_meaning.proofs.Graphs.{node_number}
use Rattle.cy_updates.proofs.writes.deleting.remove_node.Goals as goal

-- the removal is refused only when out of memory
memory_only : (refused : GraphFault) → ((rel : RelId) × (refused ≡ refusal.StillConnected rel)) ⊎ (refused ≡ refusal.NoMemory) → ((rel : RelId) → refused ≡ refusal.StillConnected rel → ⊥) → of_graph refused ≡ NoMemory
memory_only refused (inl still) never = absurd (never still.0 still.1)
memory_only refused (inr memory) never = ap of_graph memory

pub returns-in_default-clause-removed : goal.returns-in_default-clause-removed
returns-in_default-clause-removed c = λ ids. nodes_none ids c.args.id (ids ++ c.args.id ∷ []) c.args.store.now.graph.now refl (sym c.in_default.ensures)

pub remove_node-requires-clause-there : goal.remove_node-requires-clause-there
remove_node-requires-clause-there c = rw (sym c.in-Some.ensures) refl

pub returns-in_err-remove_node-clause-memory : goal.returns-in_err-remove_node-clause-memory
returns-in_err-remove_node-clause-memory c =
    let p = err_from_is_err_and c.from_residual.result c.from_residual.ensures.1 in
    let refused = c.in_err-remove_node in
    rw (p.1, p.2) (memory_only refused.field-0.0 refused.ensures.fault (λ rel is. none-some rel (sym c.requires.alone ∙ (refused.ensures.connected rel).0 (ap Err is))))

pub returns-clause-removed : goal.returns-clause-removed
returns-clause-removed c = λ ids.
    ap (λ (s : StoreState). without_nodes ids s.graph.now) c.in_ok-remove_node.ensures.ok ∙ nodes_one ids c.args.id (ids ++ c.args.id ∷ []) c.args.store.now.graph.now refl

pub returns-clause-count : goal.returns-clause-count
returns-clause-count c =
    let before = c.args.store.now.graph.now in
    let left : length c.remove_node.new.self.graph.now.content.nodes ≡ length (without_node c.args.id before).content.nodes = ap (λ (s : StoreState). length s.graph.now.content.nodes) c.in_ok-remove_node.ensures.ok in
    let less : length (without_node c.args.id before).content.nodes + 1 ≡ length before.content.nodes = one_less node_number c.args.id before.content.nodes c.laws.ensures.rising (rw (sym c.in-Some.ensures) refl) in
    omega (arith, left, less)
