use Rattle.std.proofs.Common.{length, refl, ap, arith}
use Rattle.cy_planner_algebra.specs.Parts.{parts}
use Rattle.cy_planner_algebra.specs.PlanModels.{plan_of}
use Rattle.cy_network_parts.specs.Parts.{first_below, second_below}
use Rattle.cy_network_parts.specs.Shared.{join_count}
use Rattle.cy_network_parts.proofs.JoinCounts.{forked, no_forks}
use Rattle.cy_network_parts.proofs.sizes.+missing_joins.Goals as goal

pub returns-then-below_count-eq0 : goal.returns-then-below_count-eq0
returns-then-below_count-eq0 t c =
    let none = no_forks (plan_of c.args.part.now) (plan_of c.chain_end-end.result.now) c.below_count.result c.chain_end-end.ensures c.below_count.ensures c.if-below_count-eq0.true in
    omega (arith, none)

pub missing_joins-number-requires : goal.missing_joins-number-requires
missing_joins-number-requires t c =
    let two =
    forked (plan_of c.args.part.now) (plan_of c.chain_end-end.result.now) (first_below (plan_of c.chain_end-end.result.now)) (second_below (plan_of c.chain_end-end.result.now)) c.below_count.result
    c.chain_end-end.ensures c.below_count.ensures c.if-below_count-eq0.false refl refl in
    let size = two.left_size in
    let same_size = ap (λ q. length (parts q)) c.first_below.ensures in
    omega (arith, size, same_size, c.decreases)

pub missing_joins-requires : goal.missing_joins-requires
missing_joins-requires t c =
    let two =
    forked (plan_of c.args.part.now) (plan_of c.chain_end-end.result.now) (first_below (plan_of c.chain_end-end.result.now)) (second_below (plan_of c.chain_end-end.result.now)) c.below_count.result
    c.chain_end-end.ensures c.below_count.ensures c.if-below_count-eq0.false refl refl in
    let size = two.right_size in
    let same_size = ap (λ q. length (parts q)) c.second_below.ensures in
    omega (arith, size, same_size, c.decreases)

pub returns : goal.returns
returns t c =
    let two =
    forked (plan_of c.args.part.now) (plan_of c.chain_end-end.result.now) (first_below (plan_of c.chain_end-end.result.now)) (second_below (plan_of c.chain_end-end.result.now)) c.below_count.result
    c.chain_end-end.ensures c.below_count.ensures c.if-below_count-eq0.false refl refl in
    let sum = two.joins in
    let first = c.missing_joins-number.ensures in
    let second = c.missing_joins.ensures in
    let left = ap join_count c.first_below.ensures in
    let right = ap join_count c.second_below.ensures in
    let own = c.own_joins.ensures in
    let rest = c.saturating_sub-number.ensures in
    omega (arith, sum, first, second, left, right, own, rest)
