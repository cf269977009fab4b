use Rattle.std.proofs.Common.{◌≡◌, false, true, is_some, List, ◌++◌, ◌∷◌, [], IsSome, sym, ap, subst, ◌∙◌}
use Rattle.cy_graph.specs.declared.adjacency.Step.{Step}
use Rattle.cy_graph.specs.declared.adjacency.Step.TheVariants.{Removed}
use Rattle.cy_graph.specs.Graph.{Versions}
use Rattle.cy_graph.specs.internal.Adjacency.{ids_at}
use Rattle.cy_graph.specs.internal.Contents.{AreVersions}
use Rattle.cy_graph.proofs.Graphs.{there_joined, rel_removed_versions}
use Rattle.cy_graph.proofs.Kept.{joined_removed, joined_reserved}
use Rattle.cy_graph.proofs.Relating.{rel_removed_are, reserved_are, some_in_rels}
use Rattle.cy_graph.proofs.graph.Graph.remove_rel.Goals as goal

-- it is there
pub returns-in_default-clause-ok : goal.returns-in_default-clause-ok
returns-in_default-clause-ok c =
    let there = there_joined c.self.inside.nodes c.self.inside.rels c.args.self.now c.args.id c.self.view_is c.requires.there in
    let clash : false ≡ true = ap is_some c.in_default.ensures.value ∙ there in
    cc

-- room alone changes nothing
pub invariant_of-self : goal.invariant_of-self
invariant_of-self c =
    let inside = c.self.inside in
    let out = c.reserve_step.ensures in
    reserved_are inside.nodes inside.rels inside.outgoing inside.incoming c.reserve_step.new.self inside.incoming c.self.invariant
    (joined_reserved (λ rel. rel.source.0) inside.rels inside.outgoing c.reserve_step.new.self c.self.invariant.out_joined (λ m. ap (λ lists. ids_at m lists) out.lists) out.steps) c.self.invariant.in_joined

pub invariant_of-self-in_err-reserve_step-2 : goal.invariant_of-self-in_err-reserve_step-2
invariant_of-self-in_err-reserve_step-2 c =
    let inside = c.self.inside in
    let out = c.reserve_step.ensures in
    let into = c.reserve_step-2.ensures in
    reserved_are inside.nodes inside.rels inside.outgoing inside.incoming c.reserve_step.new.self c.reserve_step-2.new.self c.self.invariant
    (joined_reserved (λ rel. rel.source.0) inside.rels inside.outgoing c.reserve_step.new.self c.self.invariant.out_joined (λ m. ap (λ lists. ids_at m lists) out.lists) out.steps)
    (joined_reserved (λ rel. rel.target.0) inside.rels inside.incoming c.reserve_step-2.new.self c.self.invariant.in_joined (λ m. ap (λ lists. ids_at m lists) into.lists) into.steps)

pub invariant_of-self-in_err-remove : goal.invariant_of-self-in_err-remove
invariant_of-self-in_err-remove c =
    let inside = c.self.inside in
    let out = c.reserve_step.ensures in
    let into = c.reserve_step-2.ensures in
    subst (λ r. AreVersions inside.nodes r c.reserve_step.new.self c.reserve_step-2.new.self) (sym c.in_err-remove.ensures.err) (reserved_are inside.nodes inside.rels inside.outgoing inside.incoming c.reserve_step.new.self c.reserve_step-2.new.self c.self.invariant
    (joined_reserved (λ rel. rel.source.0) inside.rels inside.outgoing c.reserve_step.new.self c.self.invariant.out_joined (λ m. ap (λ lists. ids_at m lists) out.lists) out.steps)
    (joined_reserved (λ rel. rel.target.0) inside.rels inside.incoming c.reserve_step-2.new.self c.self.invariant.in_joined (λ m. ap (λ lists. ids_at m lists) into.lists) into.steps))

-- the relationship no longer stands at its ends
pub invariant_of-self-2 : goal.invariant_of-self-2
invariant_of-self-2 c =
    let inside = c.self.inside in
    let open_change = some_in_rels inside.nodes.was inside.rels.was c.self.invariant.both (subst (λ (v : Versions). IsSome v.was) (sym c.self.view_is) c.requires.open) in
    let out = c.reserve_step.ensures in
    let into = c.reserve_step-2.ensures in
    let source = c.in-Some.rel.now.source.0 in
    let target = c.in-Some.rel.now.target.0 in
    subst (λ r. AreVersions inside.nodes r c.remove-2.new.self c.remove-3.new.self) (sym c.in_ok-remove.ensures.ok)
    (rel_removed_are inside.nodes inside.rels inside.outgoing inside.incoming c.remove-2.new.self c.remove-3.new.self c.self.invariant c.args.id.0
    (joined_removed (λ rel. rel.source.0) inside.rels c.args.id.0 source inside.outgoing c.remove-2.new.self open_change c.self.invariant.out_joined
    (λ m. c.remove-2.ensures.ids m ∙ ap (λ lists. ids_at m lists) out.lists) (c.remove-2.ensures.steps ∙ ap (λ (steps : List Step). steps ++ Removed source ∷ []) out.steps))
    (joined_removed (λ rel. rel.target.0) inside.rels c.args.id.0 target inside.incoming c.remove-3.new.self open_change c.self.invariant.in_joined
    (λ m. c.remove-3.ensures.ids m ∙ ap (λ lists. ids_at m lists) into.lists) (c.remove-3.ensures.steps ∙ ap (λ (steps : List Step). steps ++ Removed target ∷ []) into.steps)))

-- it is gone
pub returns-clause-ok : goal.returns-clause-ok
returns-clause-ok c = rw (← c.self.view_is, c.in_ok-remove.ensures.ok) (rel_removed_versions c.self.inside.nodes c.self.inside.rels c.args.id)
