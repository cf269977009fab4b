use Rattle.std.proofs.Common.{suc, ◌-◌, ◌<◌, ◌≡◌, cond, Some, length, nat_eq, sym, ap, ◌∙◌, arith}
use Rattle.std.proofs.lemmas.Bool.{ne_eqb}
use Rattle.cy_values.proofs.Booleans.{itself_equal}
use Rattle.cy_network_columns.specs.Hashes.{has_hash, last_below}
use Rattle.cy_network_columns.specs.internal.Chains.{hashes_of, is_at}
use Rattle.cy_network_columns.proofs.Chaining.{there_is}
use Rattle.cy_network_columns.proofs.Links.{below_is, has_hash_at, no_link, not_up, skipped, step}
use Rattle.cy_network_columns.proofs.Ranks.{rank_at}
use Rattle.cy_network_columns.proofs.chains.last_with.Goals as goal

pub loop-rank-init : goal.loop-rank-init
loop-rank-init c = record {
  inside = c.requires.inside;
  skipped = λ at place bound chained is placed. skipped at (hashes_of c.args.links.now) c.args.hash place bound placed ∙ ap (last_below (has_hash (hashes_of c.args.links.now) c.args.hash)) (sym is);
  placed = λ at place bound i chained is one. there_is at place i (rank_at (is_at at place) bound i (sym is ∙ one));
}

pub returns-then-link-hash : goal.returns-then-link-hash
returns-then-link-hash c = λ at place bound chained is placed.
    let has = has_hash (hashes_of c.args.links.now) c.args.hash in
    let number = c.loop-rank.rank - 1 in
    let it : c.loop-rank.rank ≡ suc (c.loop-rank.rank - 1) = omega (arith, c.loop-rank-test.true) in
    let inside : c.loop-rank.rank - 1 < length c.args.links.now = omega (arith, c.loop-rank-test.true, c.loop-rank.invariant.inside) in
    sym (c.loop-rank.invariant.skipped at place bound chained is placed ∙ ap (last_below has) it
    ∙ ap (λ b. cond b (Some number) (last_below has number)) (has_hash_at c.args.links.now c.args.hash number no_link inside ∙ ap (nat_eq c.args.hash) c.if-link-hash.true ∙ itself_equal c.args.hash))

pub loop-rank-smaller : goal.loop-rank-smaller
loop-rank-smaller c =
    omega (arith, c.loop-rank-test.true, not_up c.args.links.now (c.loop-rank.rank - 1) no_link (omega (arith, c.loop-rank-test.true, c.loop-rank.invariant.inside)) c.requires.descend)

pub loop-rank-preserved : goal.loop-rank-preserved
loop-rank-preserved c =
    let has = has_hash (hashes_of c.args.links.now) c.args.hash in
    let number = c.loop-rank.rank - 1 in
    let it : c.loop-rank.rank ≡ suc (c.loop-rank.rank - 1) = omega (arith, c.loop-rank-test.true) in
    let inside : c.loop-rank.rank - 1 < length c.args.links.now = omega (arith, c.loop-rank-test.true, c.loop-rank.invariant.inside) in
    let low = not_up c.args.links.now number no_link inside c.requires.descend in
    record {
      inside = omega (arith, low, inside);
      skipped = λ at place bound chained is placed.
          c.loop-rank.invariant.skipped at place bound chained is placed ∙ ap (last_below has) it
          ∙ ap (λ b. cond b (Some number) (last_below has number)) (has_hash_at c.args.links.now c.args.hash number no_link inside ∙ ne_eqb _ _ (λ e. c.if-link-hash.false (sym e)))
          ∙ skipped at (hashes_of c.args.links.now) c.args.hash place number placed
          ∙ ap (last_below has) (sym (below_is at c.args.links.now number place no_link inside chained (c.loop-rank.invariant.placed at place bound number chained is it)));
      placed = λ at place bound i chained is one. step at c.args.links.now number place i no_link inside chained (c.loop-rank.invariant.placed at place bound number chained is it) (sym one);
    }
