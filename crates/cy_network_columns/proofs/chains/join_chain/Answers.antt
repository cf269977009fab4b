use Rattle.std.proofs.Common.{◌+◌, ◌≤◌, refl, arith}
use Rattle.std.proofs.Math.Nat.{mod-lt}
use Rattle.std.proofs.lemmas.Option.{slice_get-get_or}
use Rattle.cy_network_columns.proofs.Chaining.{joined_above, joined_first}
use Rattle.cy_network_columns.proofs.Links.{from_link, hashes_both, hashes_set, head_there, head_within}
use Rattle.cy_network_columns.proofs.chains.join_chain.Goals as goal

pub above-above-requires-clause-inside : goal.above-above-requires-clause-inside
above-above-requires-clause-inside c =
    omega (arith, c.if-rank-number.false, head_within c.requires.linked.0 c.args.heads.now c.args.links.now _ 0 c.requires.linked.1 (mod-lt c.args.hash c.requires.some))

pub above-above-requires-clause-descend : goal.above-above-requires-clause-descend
above-above-requires-clause-descend c = c.requires.linked.1.descend

pub returns-then-rank-number-clause-linked : goal.returns-then-rank-number-clause-linked
returns-then-rank-number-clause-linked c = λ at linked out.
    let place = mod-lt c.args.hash c.requires.some in
    joined_first at c.args.heads.now c.args.links.now linked c.args.number _ c.args.hash out c.requires.inside place _ (slice_get-get_or c.args.heads.now _ 0 place) c.if-rank-number.true

pub returns-then-rank-number-clause-hashes : goal.returns-then-rank-number-clause-hashes
returns-then-rank-number-clause-hashes c = hashes_set c.args.links.now c.args.number _

pub returns-else-rank-number-clause-linked : goal.returns-else-rank-number-clause-linked
returns-else-rank-number-clause-linked c = λ at linked out.
    let up = c.above-above.result in
    let place = mod-lt c.args.hash c.requires.some in
    joined_above at c.args.heads.now c.args.links.now linked c.args.number _ c.args.hash out c.requires.inside place up _ c.above-above.ensures.above
    (c.above-above.ensures.placed at _ linked.chained (head_there at c.args.heads.now c.args.links.now _ 0 _ linked place (omega (arith, c.if-rank-number.false))))
    (slice_get-get_or c.args.links.now up _ c.above-above.ensures.inside)
    (from_link c.args.links.now up _ (λ l. l.below ≤ c.args.number + 1) c.above-above.ensures.inside c.above-above.ensures.last)

pub returns-else-rank-number-clause-hashes : goal.returns-else-rank-number-clause-hashes
returns-else-rank-number-clause-hashes c =
    hashes_both c.args.links.now c.args.number c.above-above.result c.args.hash _ _ c.above-above.ensures.above refl _ refl
