use Rattle.std.proofs.Common.{◌≡◌, ℕ, ◌-◌, ◌≤◌, not, List, Option, length, map, ap, sym, ◌∙◌, arith, subst}
use Rattle.std.specs.Borrow.{Bor}
use Rattle.std.specs.Prelude.{is_some}
use Rattle.std.proofs.lemmas.List.{length-map}
use Rattle.cy_planner_algebra.specs.declared.operators.Operator.{Operator}
use Rattle.cy_planner_algebra.specs.Plans.{Plan}
use Rattle.cy_planner_algebra.specs.PlanModels.{plan_of}
use Rattle.cy_network_parts.specs.internal.Parts.{IsWholeAt}
use Rattle.cy_network_parts.specs.Parts.{chain}
use Rattle.cy_network_parts.proofs.Cuts.{begins, ends, goes_on, some_parts}
use Rattle.cy_network_parts.proofs.parts.cut_of.Goals as goal

-- a chain has a part at least
not_none : (xs : List (Bor Operator)) (p : Plan) → map (λ q. plan_of q.now) xs ≡ chain p → 1 ≤ length xs
not_none xs p is =
    let f : Bor Operator → Plan = λ q. plan_of q.now in
    let n = length-map xs f in
    let m = ap length is in
    let k = some_parts p in
    omega (arith, n, m, k)

pub overflow_sub-place : goal.overflow_sub-place
overflow_sub-place c = not_none c.args.chain.now c.requires.0 c.requires.1

pub bounds-chain-place : goal.bounds-chain-place
bounds-chain-place c = let some = not_none c.args.chain.now c.requires.0 c.requires.1 in omega (arith, some)

pub up-init : goal.up-init
up-init c =
    let f : Bor Operator → Plan = λ q. plan_of q.now in
    let some = not_none c.args.chain.now c.requires.0 c.requires.1 in
    begins f c.args.chain.now c.requires.0 c.requires.1 (length c.args.chain.now - 1) c.index-chain-place.result c.column_over-column.result (omega (arith, some)) c.index-chain-place.is c.column_over-column.ensures

pub returns-then-is_none : goal.returns-then-is_none
returns-then-is_none c =
    let f : Bor Operator → Plan = λ q. plan_of q.now in
    let long = length-map c.args.chain.now f in
    let within = c.up.invariant.within in
    let some = c.up-test.true in
    ends f c.args.chain.now c.requires.0 c.requires.1 (c.up.place - 1) c.up.place (omega (arith, some)) c.index-chain-place-in-up.result c.up.column c.up.invariant (omega (arith, long, within, some)) c.index-chain-place-in-up.is
    (ap is_some (sym c.column_over-column-in-up.ensures) ∙ c.is_none.ensures ∙ ap not c.if-is_none.true)

pub up-preserved : goal.up-preserved
up-preserved c =
    let f : Bor Operator → Plan = λ q. plan_of q.now in
    let long = length-map c.args.chain.now f in
    let within = c.up.invariant.within in
    let some = c.up-test.true in
    subst (λ (column : Option ℕ). IsWholeAt (map f c.args.chain.now) (c.up.place - 1) column) (sym c.column_over-column-in-up.ensures)
    (goes_on f c.args.chain.now c.requires.0 c.requires.1 (c.up.place - 1) c.up.place (omega (arith, some)) c.index-chain-place-in-up.result c.up.column c.up.invariant (omega (arith, long, within, some)) c.index-chain-place-in-up.is
    (ap is_some (sym c.column_over-column-in-up.ensures) ∙ c.is_none.ensures ∙ ap not c.if-is_none.false))
