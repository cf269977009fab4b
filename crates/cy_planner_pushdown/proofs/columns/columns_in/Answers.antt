use Rattle.std.proofs.Common.{◌≡◌, ℕ, ◌+◌, List, [], ◌∷◌, ◌++◌, false, sym, subst, take, arith, rules}
use Rattle.std.proofs.lemmas.Grind.{common_steps}
use Rattle.std.proofs.lemmas.List.{take_all}
use Rattle.cy_planner_pushdown.specs.internal.Conditions.{is_among}
use Rattle.cy_planner_pushdown.specs.internal.Pushed.{AreMoved}
use Rattle.cy_planner_pushdown.specs.internal.Sources.{stands}
use Rattle.cy_planner_pushdown.proofs.Moves.{moved_next, none_moved}
use Rattle.cy_planner_pushdown.proofs.columns.columns_in.Goals as goal

pub loop-column-init : goal.loop-column-init
loop-column-init c =
    let none : c.new-found.result.items ≡ [] = first_of (cc, grind (arith, common_steps)) in
    subst (λ (items : List ℕ). AreMoved (stands c.args.source.now) (take 0 c.args.columns.now) items) (sym none) (none_moved (stands c.args.source.now) c.args.columns.now)

pub loop-column-preserved : goal.loop-column-preserved
loop-column-preserved c =
    let found : List ℕ = c.loop-column.found.items in
    let new : is_among found c.in-Some.other ≡ false = first_of (search rules, grind (arith, common_steps)) in
    let pushed : c.push.new.self.items ≡ found ++ c.in-Some.other ∷ [] = first_of (cc, grind (arith, common_steps)) in
    subst (λ (items : List ℕ). AreMoved (stands c.args.source.now) (take (c.loop-column.column-index + 1) c.args.columns.now) items) (sym pushed)
    (moved_next (stands c.args.source.now) c.args.columns.now found c.loop-column.column-index c.in-Some.other c.loop-column-test.true c.loop-column.invariant c.in-Some.ensures new)

pub returns : goal.returns
returns c =
    subst (λ (xs : List ℕ). AreMoved (stands c.args.source.now) xs c.loop-column.found.items) (take_all c.loop-column.column-index c.args.columns.now c.loop-column-test.false) c.loop-column.invariant
