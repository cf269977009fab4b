use Rattle.std.proofs.Common.{◌-◌, List, ℕ, length, sym, ap, subst, ◌∙◌, arith}
use Rattle.cy_network_columns.specs.internal.Chains.{IsIndex}
use Rattle.cy_network_columns.proofs.Links.{hashes_long, pop_filled, pop_index, popped}
use Rattle.cy_network_columns.proofs.Elements.{back}
use Rattle.cy_network_columns.proofs.index.HashIndex.swap_remove.Goals as goal

pub invariant_of-self : goal.invariant_of-self
invariant_of-self c =
    let heads = c.self.inside.heads.items in
    let links = c.self.inside.links.items in
    let hs = back c.self.inside.heads.len c.remove.new.heads heads (c.remove.ensures.places ∙ c.deref_mut.ensures.len) (ap length (sym c.deref_mut.ensures.value) ∙ c.deref_mut.ensures.len) in
    let ls = back c.self.inside.links.len c.remove.new.links links (c.remove.ensures.long ∙ c.deref_mut-2.ensures.len) (ap length (sym c.deref_mut-2.ensures.value) ∙ c.deref_mut-2.ensures.len) in
    let inside = rw (← c.self.view_is) at c.requires in
    let long = ap length c.deref_mut-2.ensures.value in
    let some = c.pop.ensures.variant.1 (omega (arith, inside, hashes_long links, long, c.deref_mut-2.ensures.len)) in
    let p = popped c.pop.new.self.items c.remove.new.links c.pop.result (sym ls ∙ c.pop.ensures.items) some in
    let index = pop_index c.deref_mut.result.now c.remove.new.heads c.remove.new.links c.pop.new.self.items p.0 (length c.deref_mut-2.result.now - 1) p.1
    (omega (arith, inside, hashes_long links, long, c.remove.ensures.long)) c.remove.ensures.places (omega (arith, c.self.invariant.small, long, c.remove.ensures.long)) c.remove.ensures.linked in
    subst (λ (x : List ℕ). IsIndex x c.pop.new.self.items) (sym hs) index

pub returns : goal.returns
returns c =
    let links = c.self.inside.links.items in
    let ls = back c.self.inside.links.len c.remove.new.links links (c.remove.ensures.long ∙ c.deref_mut-2.ensures.len) (ap length (sym c.deref_mut-2.ensures.value) ∙ c.deref_mut-2.ensures.len) in
    let inside = rw (← c.self.view_is) at c.requires in
    let long = ap length c.deref_mut-2.ensures.value in
    let some = c.pop.ensures.variant.1 (omega (arith, inside, hashes_long links, long, c.deref_mut-2.ensures.len)) in
    let p = popped c.pop.new.self.items c.remove.new.links c.pop.result (sym ls ∙ c.pop.ensures.items) some in
    rw (← c.self.view_is) (pop_filled links c.deref_mut-2.result.now c.remove.new.links c.pop.new.self.items p.0 c.args.number c.deref_mut-2.ensures.value p.1 c.remove.ensures.long c.remove.ensures.hashes)
