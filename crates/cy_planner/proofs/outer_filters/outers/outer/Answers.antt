use Rattle.std.proofs.Common.{◌≡◌, ◌+◌, ◌≤◌, ℕ, List, sym, ap, subst, ◌∙◌}
use Rattle.std.specs.Prelude.{Option, option_map}
use Rattle.std.specs.List.{All}
use Rattle.cy_trees.specs.Trees.{Expression}
use Rattle.cy_trees.specs.TreeModels.{expression_of}
use Rattle.cy_planner_algebra.specs.declared.operators.KeyColumns.{KeyColumns}
use Rattle.cy_planner_algebra.specs.Plans as plan
use Rattle.cy_planner_algebra.specs.Plans.{Plan, width}
use Rattle.cy_planner_algebra.specs.PlanModels.{plan_of}
use Rattle.cy_planner_algebra.specs.WellFormed.{IsKeyBetween, IsOver, IsWellFormed, greatest_width}
use Rattle.cy_planner.specs.internal.Standing.{StandsFor}
use Rattle.cy_planner_rows.specs.Conditions.{or_true}
use Rattle.cy_planner.specs.internal.SplitPredicates.{IsSplit}
use Rattle.cy_planner.proofs.OuterLaw.{outer_law}
use Rattle.cy_planner.proofs.outer_filters.outers.outer.Goals as goal

pub outer-requires-clause-keys : goal.outer-requires-clause-keys
outer-requires-clause-keys c = subst (λ (n : ℕ). All (IsKeyBetween (width (plan_of c.args.left)) n) c.args.keys.items) (sym c.in_ok-right.ensures.as_wide) c.requires.keys

pub outer-requires-clause-room : goal.outer-requires-clause-room
outer-requires-clause-room c = subst (λ (n : ℕ). width (plan_of c.args.left) + n ≤ greatest_width) (sym c.in_ok-right.ensures.as_wide) c.requires.room

pub outer-requires-clause-test : goal.outer-requires-clause-test
outer-requires-clause-test c =
    let left : Plan = plan_of c.args.left in
    let test : Expression = expression_of c.args.test in
    let wide : ℕ = width left + width (plan_of c.in_ok-right.field-0.right) in
    subst (λ (e : Expression). IsOver wide e) (sym c.or_true.ensures)
    (c.in_ok-right.ensures.over wide (subst (λ (n : ℕ). IsOver (width left + n) test) (sym c.in_ok-right.ensures.as_wide) c.requires.test))

pub returns : goal.returns
returns c =
    let left : Plan = plan_of c.args.left in
    let right : Plan = plan_of c.args.right in
    let put : Plan = plan_of c.in_ok-right.field-0.right in
    let keys : List KeyColumns = c.args.keys.items in
    let test : Expression = expression_of c.args.test in
    let rest : Option Expression = option_map expression_of c.in_ok-right.field-0.rest in
    let made : Plan = plan_of c.in_ok-made.made in
    let split : IsSplit (width left) right test put rest = subst (λ (n : ℕ). IsSplit n right test put rest) c.width.ensures.width c.in_ok-right.ensures in
    let is : made ≡ plan.outer left put keys (or_true rest) = c.in_ok-made.ensures ∙ ap (λ (e : Expression). plan.outer left put keys e) c.or_true.ensures in
    subst (λ (p : Plan). StandsFor (plan.outer left right keys test) p) (sym is)
    (outer_law left right put keys test rest c.width.ensures.well_formed c.requires.test.0 split (subst IsWellFormed is c.meant.ensures))
