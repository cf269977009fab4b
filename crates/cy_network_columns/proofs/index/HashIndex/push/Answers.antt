use Rattle.std.proofs.Common.{◌++◌, List, ℕ, length, take, drop, refl, sym, ap, subst, ◌∙◌, arith}
use Rattle.cy_network_columns.specs.declared.chains.Link.{Link}
use Rattle.cy_network_columns.specs.internal.Chains.{IsIndex, hashes_of}
use Rattle.cy_network_columns.proofs.Links.{push_hashes, push_index, push_linked}
use Rattle.cy_network_columns.proofs.Elements.{back}
use Rattle.cy_network_columns.proofs.index.HashIndex.push.Goals as goal

pub join_chain-requires-clause-linked : goal.join_chain-requires-clause-linked
join_chain-requires-clause-linked c =
    push_linked c.self.inside.heads.items c.deref_mut.result.now c.self.inside.links.items c.deref_mut-2.result.now _ c.self.invariant c.deref_mut.ensures.value
    (c.deref_mut-2.ensures.value ∙ c.push_reserved.ensures.items) refl c.len-number.result (search c.len-number.ensures)

pub invariant_of-self : goal.invariant_of-self
invariant_of-self c =
    let heads = c.self.inside.heads.items in
    let links = c.self.inside.links.items in
    let hs = back c.self.inside.heads.len c.join_chain.new.heads heads (c.join_chain.ensures.places ∙ c.deref_mut.ensures.len) (ap length (sym c.deref_mut.ensures.value) ∙ c.deref_mut.ensures.len) in
    let ls = back c.push_reserved.new.self.len c.join_chain.new.links c.push_reserved.new.self.items (c.join_chain.ensures.long ∙ c.deref_mut-2.ensures.len)
    (ap length (sym c.deref_mut-2.ensures.value) ∙ c.deref_mut-2.ensures.len) in
    let room = rw (← c.self.view_is) at c.requires in
    let index = push_index heads c.deref_mut.result.now links c.deref_mut-2.result.now _ c.self.invariant c.deref_mut.ensures.value
    (c.deref_mut-2.ensures.value ∙ c.push_reserved.ensures.items) refl c.len-number.result (search c.len-number.ensures)
    c.join_chain.new.heads c.join_chain.new.links c.args.hash c.join_chain.ensures.hashes (omega (arith, room)) c.join_chain.ensures.places c.join_chain.ensures.long c.join_chain.ensures.linked in
    subst (λ (x : List ℕ). IsIndex x (take c.push_reserved.new.self.len (c.join_chain.new.links ++ drop (length c.join_chain.new.links) c.push_reserved.new.self.items))) (sym hs)
    (subst (λ (y : List Link). IsIndex c.join_chain.new.heads y) (sym ls) index)

pub returns-clause-hashes : goal.returns-clause-hashes
returns-clause-hashes c =
    let links = c.self.inside.links.items in
    let ls = back c.push_reserved.new.self.len c.join_chain.new.links c.push_reserved.new.self.items (c.join_chain.ensures.long ∙ c.deref_mut-2.ensures.len)
    (ap length (sym c.deref_mut-2.ensures.value) ∙ c.deref_mut-2.ensures.len) in
    rw (← c.self.view_is) (ap hashes_of ls
    ∙ push_hashes c.self.inside.heads.items c.deref_mut.result.now links c.deref_mut-2.result.now _ c.self.invariant c.deref_mut.ensures.value
    (c.deref_mut-2.ensures.value ∙ c.push_reserved.ensures.items) refl c.len-number.result (search c.len-number.ensures)
    c.join_chain.new.heads c.join_chain.new.links c.args.hash c.join_chain.ensures.hashes)
