use Rattle.std.proofs.Common.{◌≡◌, ◌-◌, ◌%◌, ◌<◌, ℕ, suc, cond, List, length, slice_get, slice_set, sym, ap, ◌∙◌, slice_index_or, arith}
use Rattle.std.proofs.lemmas.Bool.{ne_eqb}
use Rattle.cy_network_columns.specs.internal.Chains.{hashes_of, placed_at, those_below, with_place, without}
use Rattle.cy_network_columns.proofs.Links.{as_placed, both_out, filled_then, last_hash, last_there, last_went, no_link, past_last, placed_is, removed_then}
use Rattle.cy_network_columns.proofs.chains.remove.Goals as goal

pub nonzero_rem-place : goal.nonzero_rem-place
nonzero_rem-place c =
    omega (arith, c.requires.index.linked.placed c.args.number _ (placed_is (length c.args.heads.now) c.args.links.now c.args.number no_link c.requires.inside))

pub leave_chain-requires : goal.leave_chain-requires
leave_chain-requires c =
    let there = placed_is (length c.args.heads.now) c.args.links.now c.args.number no_link c.requires.inside in
    record {
      place = c.requires.index.linked.placed c.args.number _ there;
      inside = c.requires.inside;
      linked = (_, c.requires.index.linked, there);
    }

pub nonzero_rem-place-then-number-last : goal.nonzero_rem-place-then-number-last
nonzero_rem-place-then-number-last c =
    omega (arith, c.leave_chain.ensures.places, c.requires.index.linked.placed c.args.number _ (placed_is (length c.args.heads.now) c.args.links.now c.args.number no_link c.requires.inside))

pub leave_chain-requires-then-number-last : goal.leave_chain-requires-then-number-last
leave_chain-requires-then-number-last c =
    let at = placed_at (length c.args.heads.now) (hashes_of c.args.links.now) in
    let there = placed_is (length c.args.heads.now) c.args.links.now c.args.number no_link c.requires.inside in
    let inside : length c.args.links.now - 1 < length c.leave_chain.new.links = omega (arith, c.leave_chain.ensures.long, c.if-number-last.true) in
    let linked = c.leave_chain.ensures.linked at c.requires.index.linked there in
    let last = last_there (length c.args.heads.now) (length c.leave_chain.new.heads) c.args.links.now c.leave_chain.new.links c.args.number (length c.args.links.now - 1) no_link c.if-number-last.true inside
    c.leave_chain.ensures.hashes c.leave_chain.ensures.places in
    record {
      place = linked.placed (length c.args.links.now - 1) _ last;
      inside = inside;
      linked = (without c.args.number at, linked, last);
    }

pub join_chain-requires-clause-some : goal.join_chain-requires-clause-some
join_chain-requires-clause-some c =
    omega (
      arith,
      c.leave_chain-then-number-last.ensures.places,
      c.leave_chain.ensures.places,
      c.requires.index.linked.placed c.args.number _ (placed_is (length c.args.heads.now) c.args.links.now c.args.number no_link c.requires.inside),
    )

pub join_chain-requires-clause-linked : goal.join_chain-requires-clause-linked
join_chain-requires-clause-linked c =
    let at = placed_at (length c.args.heads.now) (hashes_of c.args.links.now) in
    let there = placed_is (length c.args.heads.now) c.args.links.now c.args.number no_link c.requires.inside in
    let inside : length c.args.links.now - 1 < length c.leave_chain.new.links = omega (arith, c.leave_chain.ensures.long, c.if-number-last.true) in
    let linked = c.leave_chain.ensures.linked at c.requires.index.linked there in
    let last = last_there (length c.args.heads.now) (length c.leave_chain.new.heads) c.args.links.now c.leave_chain.new.links c.args.number (length c.args.links.now - 1) no_link c.if-number-last.true inside
    c.leave_chain.ensures.hashes c.leave_chain.ensures.places in
    (_, c.leave_chain-then-number-last.ensures.linked (without c.args.number at) linked last, both_out at c.args.number (length c.args.links.now - 1) c.if-number-last.true)

pub returns-then-number-last-clause-linked : goal.returns-then-number-last-clause-linked
returns-then-number-last-clause-linked c =
    let number = c.args.number in
    let links = c.args.links.now in
    let at = placed_at (length c.args.heads.now) (hashes_of links) in
    let there = placed_is (length c.args.heads.now) links number no_link c.requires.inside in
    let lower = c.if-number-last.true in
    let inside : length c.args.links.now - 1 < length c.leave_chain.new.links = omega (arith, c.leave_chain.ensures.long, c.if-number-last.true) in
    let ends : suc (length c.args.links.now - 1) ≡ length c.args.links.now = omega (arith, c.if-number-last.true) in
    let linked = c.leave_chain.ensures.linked at c.requires.index.linked there in
    let last = last_there (length c.args.heads.now) (length c.leave_chain.new.heads) links c.leave_chain.new.links number (length c.args.links.now - 1) no_link lower inside
    c.leave_chain.ensures.hashes c.leave_chain.ensures.places in
    let both = c.leave_chain-then-number-last.ensures.linked (without number at) linked last in
    let out = both_out at number (length c.args.links.now - 1) lower in
    let set = c.join_chain.ensures.hashes ∙ ap (λ (hs : List ℕ). slice_set hs number (slice_index_or c.leave_chain.new.links (length c.args.links.now - 1) no_link).hash) (c.leave_chain-then-number-last.ensures.hashes ∙ c.leave_chain.ensures.hashes) in
    let of_last = last_hash links c.leave_chain.new.links (length c.args.links.now - 1) no_link inside c.leave_chain.ensures.hashes in
    as_placed _ _ _ _ (λ i. ap (λ (n : ℕ). with_place number ((slice_index_or c.leave_chain.new.links (length c.args.links.now - 1) no_link).hash % n) (without (length c.args.links.now - 1) (without number at)) i) (c.leave_chain-then-number-last.ensures.places ∙ c.leave_chain.ensures.places)
    ∙ removed_then links c.join_chain.new.links (length c.args.heads.now) number (length c.args.links.now - 1) _ lower ends set of_last i) (c.join_chain.ensures.linked _ both out)

pub returns-then-number-last-clause-hashes : goal.returns-then-number-last-clause-hashes
returns-then-number-last-clause-hashes c =
    let number = c.args.number in
    let links = c.args.links.now in
    let inside : length c.args.links.now - 1 < length c.leave_chain.new.links = omega (arith, c.leave_chain.ensures.long, c.if-number-last.true) in
    let ends : suc (length c.args.links.now - 1) ≡ length c.args.links.now = omega (arith, c.if-number-last.true) in
    let set = c.join_chain.ensures.hashes ∙ ap (λ (hs : List ℕ). slice_set hs number (slice_index_or c.leave_chain.new.links (length c.args.links.now - 1) no_link).hash) (c.leave_chain-then-number-last.ensures.hashes ∙ c.leave_chain.ensures.hashes) in
    λ i less. filled_then links c.join_chain.new.links number (length c.args.links.now - 1) _ c.if-number-last.true ends set
    (last_hash links c.leave_chain.new.links (length c.args.links.now - 1) no_link inside c.leave_chain.ensures.hashes) i

pub returns-else-number-last-clause-linked : goal.returns-else-number-last-clause-linked
returns-else-number-last-clause-linked c =
    let number = c.args.number in
    let links = c.args.links.now in
    let at = placed_at (length c.args.heads.now) (hashes_of links) in
    let there = placed_is (length c.args.heads.now) links number no_link c.requires.inside in
    let it : c.args.number ≡ length c.args.links.now - 1 = omega (arith, c.requires.inside, c.if-number-last.false) in
    as_placed _ _ _ _ (λ i. ap (λ (n : ℕ). without n at i) it ∙ last_went at (length c.args.links.now - 1) (past_last (length c.args.heads.now) links) i
    ∙ ap (λ (hs : List ℕ). those_below (length c.args.links.now - 1) (placed_at (length c.args.heads.now) hs) i) (sym c.leave_chain.ensures.hashes))
    (c.leave_chain.ensures.linked at c.requires.index.linked there)

pub returns-else-number-last-clause-hashes : goal.returns-else-number-last-clause-hashes
returns-else-number-last-clause-hashes c = λ i less.
    ap (λ (hs : List ℕ). slice_get hs i) c.leave_chain.ensures.hashes
    ∙ ap (λ b. slice_get (hashes_of c.args.links.now) (cond b (length c.args.links.now - 1) i)) (sym (ne_eqb c.args.number i (λ e. omega (arith, e, less, c.if-number-last.false))))
