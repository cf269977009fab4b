use Rattle.std.proofs.Common.{IsSome, refl, sym, subst}
use Rattle.cy_graph.specs.Graph.{Versions}
use Rattle.cy_graph.proofs.Relating.{rolled_are, rolled_versions, some_in_nodes, some_in_rels}
use Rattle.cy_graph.proofs.graph.Graph.rollback.Goals as goal

pub invariant_of-self : goal.invariant_of-self
invariant_of-self c =
    let inside = c.self.inside in
    let some = subst (λ (v : Versions). IsSome v.was) (sym c.self.view_is) c.requires in
    let out = c.rollback-3.ensures in
    let into = c.rollback-4.ensures in
    rolled_are inside.nodes c.rollback.new.self inside.rels c.rollback-2.new.self inside.outgoing inside.incoming c.rollback-3.new.self c.rollback-4.new.self c.self.invariant inside.nodes.was refl inside.rels.was refl
    (some_in_nodes inside.nodes.was inside.rels.was c.self.invariant.both some) (some_in_rels inside.nodes.was inside.rels.was c.self.invariant.both some) c.rollback.ensures c.rollback-2.ensures
    (record { ids = out.ids; steps = out.steps }) (record { ids = into.ids; steps = into.steps })

-- the graph is as it was
pub returns : goal.returns
returns c =
    let inside = c.self.inside in
    let some = subst (λ (v : Versions). IsSome v.was) (sym c.self.view_is) c.requires in
    rw (← c.self.view_is) (rolled_versions inside.nodes c.rollback.new.self inside.rels c.rollback-2.new.self inside.nodes.was inside.rels.was
    (some_in_nodes inside.nodes.was inside.rels.was c.self.invariant.both some) (some_in_rels inside.nodes.was inside.rels.was c.self.invariant.both some) c.rollback.ensures c.rollback-2.ensures)
