use Rattle.std.proofs.Common.{◌≡◌, ◌+◌, ◌≤◌, [], ◌∷◌, List, ℕ, sym, ap, subst, ◌∙◌}
use Rattle.std.specs.List.{All}
use Rattle.std.proofs.lemmas.Result.{IfOk-weaker}
use Rattle.cy_trees.specs.Trees.{Expression}
use Rattle.cy_planner_algebra.specs.declared.operators.KeyColumns.{KeyColumns}
use Rattle.cy_planner_algebra.specs.Plans as plan
use Rattle.cy_planner_algebra.specs.Plans.{Plan, width}
use Rattle.cy_planner_algebra.specs.PlanModels.{plan_of}
use Rattle.cy_planner_algebra.specs.WellFormed.{IsKeyBetween, greatest_width}
use Rattle.cy_planner_rows.specs.internal.Lookups.{narrowed}
use Rattle.cy_planner_pushdown.specs.internal.Conditions.{cells_at}
use Rattle.cy_planner_pushdown.specs.internal.Pushed.{IsSifted}
use Rattle.cy_planner_pushdown.specs.internal.Tests.{CanAllBePushed, are_true, tests_of}
use Rattle.cy_planner_pushdown.proofs.EndRows.{by_nodes, keys_between}
use Rattle.cy_planner_pushdown.proofs.Putting.{alone_again}
use Rattle.cy_planner_pushdown.proofs.SiftedPlans.{passes_alike}
use Rattle.cy_planner_pushdown.proofs.sifting.filter_by_nodes.Goals as goal

pub filter_each-requires : goal.filter_each-requires
filter_each-requires c = subst (λ (p : Plan). CanAllBePushed p (tests_of c.args.tests.items)) (sym c.nodes.ensures) c.requires.can

pub join-requires-clause-keys : goal.join-requires-clause-keys
join-requires-clause-keys c =
    let below : Plan = plan_of c.args.below in
    let nodes : Plan = plan_of c.in_ok-nodes.nodes in
    let tests : List (List ℕ × Expression) = tests_of c.args.tests.items in
    let put : IsSifted plan.nodes (are_true tests) nodes = subst (λ (p : Plan). IsSifted p (are_true tests) nodes) c.nodes.ensures c.in_ok-nodes.ensures in
    subst (λ (keys : List KeyColumns). All (IsKeyBetween (width below) (width nodes)) keys) (sym c.in_ok-keys.ensures.items)
    (keys_between below c.args.column (are_true tests) c.width-width.ensures.well_formed c.requires.end nodes put)

pub returns : goal.returns
returns c =
    let below : Plan = plan_of c.args.below in
    let nodes : Plan = plan_of c.in_ok-nodes.nodes in
    let tests : List (List ℕ × Expression) = tests_of c.args.tests.items in
    let put : IsSifted plan.nodes (are_true tests) nodes = subst (λ (p : Plan). IsSifted p (are_true tests) nodes) c.nodes.ensures c.in_ok-nodes.ensures in
    let alone : IsSifted plan.nodes (λ graph row. are_true tests graph (cells_at (0 ∷ []) row)) nodes =
    passes_alike plan.nodes nodes (are_true tests) (λ graph row. are_true tests graph (cells_at (0 ∷ []) row)) (λ graph row. alone_again graph row tests c.requires.single) put in
    let key : KeyColumns = record { left = c.args.column; right = 0 } in
    let joined : plan_of c.in_ok-joined.joined ≡ plan.join below nodes (key ∷ []) = c.in_ok-joined.ensures ∙ ap (plan.join below nodes) c.in_ok-keys.ensures.items in
    let made : narrowed c.width-width.result (plan_of c.in_ok-joined.joined) ≡ narrowed (width below) (plan.join below nodes (key ∷ [])) =
    λ i. narrowed (c.width-width.ensures.width i) (joined i) in
    let room = subst (λ n. n + 1 ≤ greatest_width) c.width-width.ensures.width c.in_ok-check_room.ensures in
    IfOk-weaker c.narrowed.result _ _
    (λ p is. subst (λ (q : Plan). IsSifted below (λ graph row. are_true tests graph (cells_at (c.args.column ∷ []) row)) q) (sym (is ∙ made))
    (by_nodes below c.args.column (are_true tests) c.width-width.ensures.well_formed c.requires.end nodes c.width-one.ensures.well_formed alone room c.row_order_laws.ensures.total))
    c.narrowed.ensures
