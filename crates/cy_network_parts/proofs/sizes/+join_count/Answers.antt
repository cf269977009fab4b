use Rattle.std.proofs.Common.{length, refl, sym, ap, ◌∙◌, arith}
use Rattle.cy_planner_algebra.specs.Parts.{parts}
use Rattle.cy_planner_algebra.specs.PlanModels.{plan_of}
use Rattle.cy_network_parts.specs.Memories.{keys}
use Rattle.cy_network_parts.specs.Parts.{first_below, second_below}
use Rattle.cy_network_parts.specs.Shared.{join_count}
use Rattle.cy_network_parts.proofs.JoinCounts.{few_joins, forked, no_forks}
use Rattle.cy_network_parts.proofs.sizes.+join_count.Goals as goal

pub returns-then-below_count-eq0 : goal.returns-then-below_count-eq0
returns-then-below_count-eq0 t c =
    sym (no_forks (plan_of c.args.part.now) (plan_of c.chain_end-end.result.now) c.below_count.result c.chain_end-end.ensures c.below_count.ensures c.if-below_count-eq0.true)

pub join_count-left-requires : goal.join_count-left-requires
join_count-left-requires t c =
    let two =
    forked (plan_of c.args.part.now) (plan_of c.chain_end-end.result.now) (first_below (plan_of c.chain_end-end.result.now)) (second_below (plan_of c.chain_end-end.result.now)) c.below_count.result
    c.chain_end-end.ensures c.below_count.ensures c.if-below_count-eq0.false refl refl in
    let size = two.left_size in
    let few = two.left_memories in
    let same_size = ap (λ q. length (parts q)) c.first_below.ensures in
    let same = ap (λ q. length (keys q)) c.first_below.ensures in
    (omega (arith, size, same_size, c.decreases), omega (arith, few, same, c.requires.few))

pub join_count-right-requires : goal.join_count-right-requires
join_count-right-requires t c =
    let two =
    forked (plan_of c.args.part.now) (plan_of c.chain_end-end.result.now) (first_below (plan_of c.chain_end-end.result.now)) (second_below (plan_of c.chain_end-end.result.now)) c.below_count.result
    c.chain_end-end.ensures c.below_count.ensures c.if-below_count-eq0.false refl refl in
    let size = two.right_size in
    let few = two.right_memories in
    let same_size = ap (λ q. length (parts q)) c.second_below.ensures in
    let same = ap (λ q. length (keys q)) c.second_below.ensures in
    (omega (arith, size, same_size, c.decreases), omega (arith, few, same, c.requires.few))

pub overflow_add-result : goal.overflow_add-result
overflow_add-result t c =
    let two =
    forked (plan_of c.args.part.now) (plan_of c.chain_end-end.result.now) (first_below (plan_of c.chain_end-end.result.now)) (second_below (plan_of c.chain_end-end.result.now)) c.below_count.result
    c.chain_end-end.ensures c.below_count.ensures c.if-below_count-eq0.false refl refl in
    let all = few_joins (plan_of c.args.part.now) in
    let sum = two.joins in
    let left = c.join_count-left.ensures ∙ ap join_count c.first_below.ensures in
    let right = c.join_count-right.ensures ∙ ap join_count c.second_below.ensures in
    omega (arith, all, sum, left, right, c.requires.few, c.ranges.most.fits)

pub overflow_add-result-2 : goal.overflow_add-result-2
overflow_add-result-2 t c =
    let two =
    forked (plan_of c.args.part.now) (plan_of c.chain_end-end.result.now) (first_below (plan_of c.chain_end-end.result.now)) (second_below (plan_of c.chain_end-end.result.now)) c.below_count.result
    c.chain_end-end.ensures c.below_count.ensures c.if-below_count-eq0.false refl refl in
    let all = few_joins (plan_of c.args.part.now) in
    let sum = two.joins in
    let left = c.join_count-left.ensures ∙ ap join_count c.first_below.ensures in
    let right = c.join_count-right.ensures ∙ ap join_count c.second_below.ensures in
    let own = c.own_joins.ensures in
    omega (arith, all, sum, left, right, own, c.requires.few, c.ranges.most.fits)

pub returns : goal.returns
returns t c =
    let two =
    forked (plan_of c.args.part.now) (plan_of c.chain_end-end.result.now) (first_below (plan_of c.chain_end-end.result.now)) (second_below (plan_of c.chain_end-end.result.now)) c.below_count.result
    c.chain_end-end.ensures c.below_count.ensures c.if-below_count-eq0.false refl refl in
    let sum = two.joins in
    let left = c.join_count-left.ensures ∙ ap join_count c.first_below.ensures in
    let right = c.join_count-right.ensures ∙ ap join_count c.second_below.ensures in
    let own = c.own_joins.ensures in
    omega (arith, sum, left, right, own)
