use Rattle.std.proofs.Common.{◌+◌, ◌≤◌, refl, ap, option_map, arith}
use Rattle.std.proofs.lemmas.Option.{slice_get-get_or}
use Rattle.cy_network_columns.proofs.Chaining.{left_above, left_first}
use Rattle.cy_network_columns.proofs.Links.{from_link, hashes_kept, head_there, head_within, no_link}
use Rattle.cy_network_columns.proofs.chains.leave_chain.Goals as goal

pub above-above-requires-clause-inside : goal.above-above-requires-clause-inside
above-above-requires-clause-inside c =
    omega (arith, c.if-rank-number.false, head_within c.requires.linked.0 c.args.heads.now c.args.links.now c.args.place 0 c.requires.linked.1 c.requires.place)

pub above-above-requires-clause-descend : goal.above-above-requires-clause-descend
above-above-requires-clause-descend c = c.requires.linked.1.descend

pub returns-then-rank-number-clause-linked : goal.returns-then-rank-number-clause-linked
returns-then-rank-number-clause-linked c = λ at linked there.
    left_first at c.args.heads.now c.args.links.now linked c.args.number c.args.place there _ _ (slice_get-get_or c.args.heads.now c.args.place 0 c.requires.place) c.if-rank-number.true
    (ap (option_map (λ l. l.below)) (slice_get-get_or c.args.links.now c.args.number no_link c.requires.inside))

pub returns-else-rank-number-clause-linked : goal.returns-else-rank-number-clause-linked
returns-else-rank-number-clause-linked c = λ at linked there.
    let up = c.above-above.result in
    left_above at c.args.heads.now c.args.links.now linked c.args.number c.args.place there up _ _ c.above-above.ensures.above
    (c.above-above.ensures.placed at c.args.place linked.chained (head_there at c.args.heads.now c.args.links.now c.args.place 0 _ linked c.requires.place (omega (arith, c.if-rank-number.false))))
    (slice_get-get_or c.args.links.now up _ c.above-above.ensures.inside)
    (from_link c.args.links.now up _ (λ l. l.below ≤ c.args.number + 1) c.above-above.ensures.inside c.above-above.ensures.last)
    (ap (option_map (λ l. l.below)) (slice_get-get_or c.args.links.now c.args.number no_link c.requires.inside))

pub returns-else-rank-number-clause-hashes : goal.returns-else-rank-number-clause-hashes
returns-else-rank-number-clause-hashes c = hashes_kept c.args.links.now c.above-above.result _ _ refl
