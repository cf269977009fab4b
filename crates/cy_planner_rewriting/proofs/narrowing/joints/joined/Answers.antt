use Rattle.std.proofs.Common.{◌≡◌, ℕ, ◌+◌, ◌≤◌, List, map, sym, subst, ◌∙◌}
use Rattle.std.specs.List.{All}
use Rattle.cy_planner_algebra.specs.declared.operators.KeyColumns.{KeyColumns}
use Rattle.cy_planner_algebra.specs.Plans.{Plan, width}
use Rattle.cy_planner_algebra.specs.PlanModels.{plan_of}
use Rattle.cy_planner_algebra.specs.WellFormed.{IsKeyBetween, greatest_width}
use Rattle.cy_planner_rewriting.specs.internal.Narrows.{restored}
use Rattle.cy_planner_rewriting.specs.internal.KeyPairs.{paired_columns, renumbered_key}
use Rattle.cy_planner_rewriting.proofs.Made.{joined_as, keys_there, right_room}
use Rattle.cy_planner_rewriting.proofs.narrowing.joints.joined.Goals as goal

pub paired_columns-requires : goal.paired_columns-requires
paired_columns-requires c =
    let left : Plan = restored c.args.left in
    let right : Plan = restored c.args.right in
    let p : Plan = plan_of c.in_ok-left.left.plan in
    let q : Plan = plan_of c.in_ok-right.right.plan in
    let cl : List ℕ = c.in_ok-left.left.columns.items in
    let cr : List ℕ = c.in_ok-right.right.columns.items in
    let keys : List KeyColumns = c.args.keys.items in
    subst (λ (cs : List ℕ). All (λ k. c.width.result + k ≤ greatest_width) cs) (sym c.as_slice-5.ensures.value)
    (subst (λ (n : ℕ). All (λ k. n + k ≤ greatest_width) cr) (sym c.width.ensures.width) (right_room left right p q cl cr keys c.requires c.in_ok-left.ensures.same c.in_ok-right.ensures.same c.in_ok-left.ensures.few c.in_ok-right.ensures.few))

pub join-requires-clause-keys : goal.join-requires-clause-keys
join-requires-clause-keys c =
    let left : Plan = restored c.args.left in
    let right : Plan = restored c.args.right in
    let p : Plan = plan_of c.in_ok-left.left.plan in
    let q : Plan = plan_of c.in_ok-right.right.plan in
    let cl : List ℕ = c.in_ok-left.left.columns.items in
    let cr : List ℕ = c.in_ok-right.right.columns.items in
    let keys : List KeyColumns = c.args.keys.items in
    let made : c.in_ok-keys.keys.items ≡ map (renumbered_key cl cr) keys =
    c.in_ok-keys.ensures ∙ (λ i. map (renumbered_key (c.as_slice-2.ensures.value i) (c.as_slice-3.ensures.value i)) (c.as_slice.ensures.value i)) in
    subst (λ (ks : List KeyColumns). All (IsKeyBetween (width p) (width q)) ks) (sym made) (keys_there left right p q cl cr keys c.requires c.in_ok-left.ensures.same c.in_ok-right.ensures.same c.in_ok-left.ensures.few c.in_ok-right.ensures.few)

pub returns : goal.returns
returns c =
    let left : Plan = restored c.args.left in
    let right : Plan = restored c.args.right in
    let p : Plan = plan_of c.in_ok-left.left.plan in
    let q : Plan = plan_of c.in_ok-right.right.plan in
    let cl : List ℕ = c.in_ok-left.left.columns.items in
    let cr : List ℕ = c.in_ok-right.right.columns.items in
    let keys : List KeyColumns = c.args.keys.items in
    let made : c.in_ok-keys.keys.items ≡ map (renumbered_key cl cr) keys =
    c.in_ok-keys.ensures ∙ (λ i. map (renumbered_key (c.as_slice-2.ensures.value i) (c.as_slice-3.ensures.value i)) (c.as_slice.ensures.value i)) in
    let columns : List ℕ = c.in_ok-columns.columns.items in
    let pairs : columns ≡ paired_columns c.in_ok-keys.keys.items (width p) cl cr =
    c.in_ok-columns.ensures ∙ (λ i. paired_columns (c.as_slice-4.ensures.value i) (c.width.ensures.width i) cl (c.as_slice-5.ensures.value i)) in
    joined_as left right p q cl cr keys c.requires c.in_ok-left.ensures.same c.in_ok-right.ensures.same c.in_ok-left.ensures.few c.in_ok-right.ensures.few c.row_order_laws.ensures.total c.in_ok-keys.keys.items columns
    (plan_of c.in_ok-plan.plan) made pairs c.in_ok-plan.ensures
