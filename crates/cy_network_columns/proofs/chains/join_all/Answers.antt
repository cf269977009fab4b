use Rattle.std.proofs.Common.{◌≡◌, ◌%◌, ◌<◌, ℕ, List, Some, length, refl, sym, ap, ◌∙◌, slice_index_or, arith}
use Rattle.cy_network_columns.specs.internal.Chains.{hashes_of, placed_at, those_below}
use Rattle.cy_network_columns.proofs.Links.{all_below, as_placed, no_link, none_linked, not_yet, one_more, placed_is, set_own_hash}
use Rattle.cy_network_columns.proofs.chains.join_all.Goals as goal

pub loop-number-init : goal.loop-number-init
loop-number-init c = record { linked = none_linked _ c.args.heads.now c.args.links.now c.requires.none c.requires.descend; hashes = refl; places = refl; long = refl }

pub join_chain-requires-clause-linked : goal.join_chain-requires-clause-linked
join_chain-requires-clause-linked c = (_, c.loop-number.invariant.linked, not_yet (placed_at (length c.args.heads.now) (hashes_of c.args.links.now)) c.loop-number.number)

pub loop-number-preserved : goal.loop-number-preserved
loop-number-preserved c =
    let at = placed_at (length c.args.heads.now) (hashes_of c.args.links.now) in
    let number = c.loop-number.number in
    let inv = c.loop-number.invariant in
    let inside : c.loop-number.number < length c.loop-number.links = omega (arith, inv.long, c.loop-number-test.true) in
    let there =
    ap (λ (hs : List ℕ). placed_at (length c.args.heads.now) hs number) (sym inv.hashes) ∙ placed_is (length c.args.heads.now) c.loop-number.links number no_link inside
    ∙ ap (λ (n : ℕ). Some ((slice_index_or c.loop-number.links number no_link).hash % n)) (sym inv.places) in
    record {
      linked = as_placed _ _ _ _ (one_more at number ((slice_index_or c.loop-number.links number no_link).hash % length c.loop-number.heads) there) (c.join_chain.ensures.linked _ inv.linked (not_yet at number));
      hashes = c.join_chain.ensures.hashes ∙ set_own_hash c.loop-number.links number no_link inside ∙ inv.hashes;
      places = c.join_chain.ensures.places ∙ inv.places;
      long = c.join_chain.ensures.long ∙ inv.long;
    }

pub returns-clause-linked : goal.returns-clause-linked
returns-clause-linked c =
    let at = placed_at (length c.args.heads.now) (hashes_of c.args.links.now) in
    let it : c.loop-number.number ≡ length c.args.links.now = omega (arith, c.loop-number-test.false, c.loop-number.auto.number-end) in
    as_placed _ _ _ _ (λ i. ap (λ (n : ℕ). those_below n at i) it ∙ all_below (length c.args.heads.now) c.args.links.now i) c.loop-number.invariant.linked
