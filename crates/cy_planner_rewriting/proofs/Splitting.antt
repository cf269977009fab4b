-- A base with look-ups on it, split.
use Rattle.std.proofs.Common.{◌≡◌, Global, ℕ, ◌+◌, ◌≤◌, List, [], Vec, length, map, sym, subst}
use Rattle.std.specs.Prelude.{None, Option, Some}
use Rattle.std.specs.Cmp.{IsTotalOrder}
use Rattle.std.specs.List.{AllByRecursion}
use Rattle.cy_values.specs.Order.{row_cmp}
use Rattle.cy_trees.specs.declared.expressions.Expr.{Expr}
use Rattle.cy_trees.specs.Trees.{Expression}
use Rattle.cy_trees.specs.TreeModels.{expression_of}
use Rattle.cy_planner_algebra.specs.declared.operators.KeyColumns.{KeyColumns}
use Rattle.cy_planner_algebra.specs.declared.operators.Operator.{Operator}
use Rattle.cy_planner_algebra.specs.declared.operators.Output.{Output}
use Rattle.cy_planner_algebra.specs.Plans as plan
use Rattle.cy_planner_algebra.specs.Plans.{Plan, width}
use Rattle.cy_planner_algebra.specs.PlanModels.{output_of, plan_of}
use Rattle.cy_planner_algebra.specs.WellFormed.{IsWellFormed, greatest_width}
use Rattle.cy_planner_rows.specs.declared.places.Wanted.{Wanted}
use Rattle.cy_planner_rows.specs.Renumbered.{renumbered}
use Rattle.cy_planner_rows.specs.Columns.{column_output}
use Rattle.cy_planner_rows.specs.internal.Lookups.{over}
use Rattle.cy_planner_rows.proofs.OverRows.{IsInside, width_bounded, width_over}
use Rattle.cy_planner_rewriting.specs.declared.layers.Layer.{Layer}
use Rattle.cy_planner_rewriting.specs.declared.splits.Rejoin.{Rejoin}
use Rattle.cy_planner_rewriting.specs.declared.splits.Rejoin.TheVariants as joint
use Rattle.cy_planner_rewriting.specs.declared.splits.Side.{Side}
use Rattle.cy_planner_rewriting.specs.internal.Layers.{layered, over_outputs}
use Rattle.cy_planner_rewriting.specs.internal.Lowered.{CanBeSplit, both_columns, joined_columns, lefts, rights}
use Rattle.cy_planner_rewriting.specs.internal.Splits.{AreSides, side_plan, together}
use Rattle.cy_planner_rewriting.specs.Rewritten.{IsRewritten}
use Rattle.cy_planner_rewriting.proofs.Congruent.{over_join, over_outer, over_project, over_union, rewritten_again}
use Rattle.cy_planner_rewriting.proofs.Joining.{on_join, on_outer}
use Rattle.cy_planner_rewriting.proofs.Layering.{over_all}
use Rattle.cy_planner_rewriting.proofs.Passing.{looked_up_alike, well_looked_up}

room_in : (p : Plan) (ws : List Wanted) → IsWellFormed (over p ws) → width p + length ws ≤ greatest_width
room_in p ws well = subst (λ (n : ℕ). n ≤ greatest_width) (width_over p ws) (width_bounded (over p ws) well)

module _ (left right : Plan) (ws : List Wanted) (keys : List KeyColumns) (inside : AllByRecursion (IsInside (width left + width right)) ws) where
  pub join_splits : IsWellFormed (over (plan.join left right keys) ws) → CanBeSplit left right ws
  join_splits well =
      let good = well_looked_up ws (plan.join left right keys) well in
      record { left = good.0; right = good.1; inside = inside; room = room_in (plan.join left right keys) ws well }

  pub outer_splits : (test : Expression) → IsWellFormed (over (plan.outer left right keys test) ws) → CanBeSplit left right ws
  outer_splits test well =
      let good = well_looked_up ws (plan.outer left right keys test) well in
      record { left = good.0; right = good.1; inside = inside; room = room_in (plan.outer left right keys test) ws well }

-- the sides of a join, and of an outer join
module _ (total : IsTotalOrder row_cmp) (left right : Operator) (ws : List Wanted) (keys : Vec KeyColumns Global) (inside : AllByRecursion (IsInside (width (plan_of left) + width (plan_of right))) ws)
    (here there : Vec Wanted Global) (outputs : Vec Output Global) (is_left : here.items ≡ lefts (width (plan_of left)) ws) (is_right : there.items ≡ rights (width (plan_of left)) ws)
    (are : map output_of outputs.items ≡ map column_output (joined_columns (width (plan_of left)) (width (plan_of right)) ws))
    (good_left : IsWellFormed (over (plan_of left) here.items)) (good_right : IsWellFormed (over (plan_of right) there.items)) where
  abbrev l : Side
  l = record { part = left; lookups = here }

  abbrev r : Side
  r = record { part = right; lookups = there }

  abbrev a : Plan
  a = plan_of left

  abbrev b : Plan
  b = plan_of right

  pub join_sides : IsWellFormed (over (plan.join a b keys.items) ws) → AreSides (plan.join a b keys.items) ws (joint.Join keys (Some outputs)) l r
  join_sides well = record {
    left = good_left;
    right = good_right;
    whole = λ p q first second.
        let whole : Plan = over (plan.join a b keys.items) ws in
        let put : IsRewritten whole (plan.project (plan.join (side_plan l) (side_plan r) keys.items) (map output_of outputs.items)) =
        subst (λ (os : List plan.Output). IsRewritten whole (plan.project (plan.join (side_plan l) (side_plan r) keys.items) os)) (sym are)
        (subst (λ (vs : List Wanted). IsRewritten whole (plan.project (plan.join (side_plan l) (over b vs) keys.items) (map column_output (joined_columns (width a) (width b) ws)))) (sym is_right)
        (subst (λ (us : List Wanted). IsRewritten whole (plan.project (plan.join (over a us) (over b (rights (width a) ws)) keys.items) (map column_output (joined_columns (width a) (width b) ws)))) (sym is_left)
        (on_join total a b ws keys.items inside well))) in
        rewritten_again whole (plan.project (plan.join (side_plan l) (side_plan r) keys.items) (map output_of outputs.items)) (together (joint.Join keys (Some outputs)) p q) put
        (over_project (plan.join (side_plan l) (side_plan r) keys.items) (plan.join p q keys.items) (over_join (side_plan l) (side_plan r) p q first second keys.items) (map output_of outputs.items));
  }

  module _ (test moved : Expr) (is_moved : expression_of moved ≡ renumbered (both_columns (width a) (width b) (length (lefts (width a) ws))) (expression_of test)) where
    abbrev t : Expression
    t = expression_of test

    pub outer_sides : IsWellFormed (over (plan.outer a b keys.items t) ws) → AreSides (plan.outer a b keys.items t) ws (joint.Outer keys moved (Some outputs)) l r
    outer_sides well = record {
      left = good_left;
      right = good_right;
      whole = λ p q first second.
          let whole : Plan = over (plan.outer a b keys.items t) ws in
          let put : IsRewritten whole (plan.project (plan.outer (side_plan l) (side_plan r) keys.items (expression_of moved)) (map output_of outputs.items)) =
          subst (λ (os : List plan.Output). IsRewritten whole (plan.project (plan.outer (side_plan l) (side_plan r) keys.items (expression_of moved)) os)) (sym are)
          (subst (λ (e : Expression). IsRewritten whole (plan.project (plan.outer (side_plan l) (side_plan r) keys.items e) (map column_output (joined_columns (width a) (width b) ws)))) (sym is_moved)
          (subst (λ (vs : List Wanted). IsRewritten whole
          (plan.project (plan.outer (side_plan l) (over b vs) keys.items (renumbered (both_columns (width a) (width b) (length (lefts (width a) ws))) t)) (map column_output (joined_columns (width a) (width b) ws)))) (sym is_right)
          (subst (λ (us : List Wanted). IsRewritten whole
          (plan.project (plan.outer (over a us) (over b (rights (width a) ws)) keys.items (renumbered (both_columns (width a) (width b) (length (lefts (width a) ws))) t)) (map column_output (joined_columns (width a) (width b) ws)))) (sym is_left)
          (on_outer total a b ws keys.items inside t well)))) in
          rewritten_again whole (plan.project (plan.outer (side_plan l) (side_plan r) keys.items (expression_of moved)) (map output_of outputs.items)) (together (joint.Outer keys moved (Some outputs)) p q) put
          (over_project (plan.outer (side_plan l) (side_plan r) keys.items (expression_of moved)) (plan.outer p q keys.items (expression_of moved))
          (over_outer (side_plan l) (side_plan r) p q first second keys.items (expression_of moved)) (map output_of outputs.items));
    }

-- sides without look-ups: of a join, of an outer join, and of a union
module _ (left right : Operator) (l r : Side) (is_left : l.part ≡ left) (is_right : r.part ≡ right) (no_left : l.lookups.items ≡ []) (no_right : r.lookups.items ≡ []) where
  left_plan : side_plan l ≡ plan_of left
  left_plan = λ i. over (plan_of (is_left i)) (no_left i)

  right_plan : side_plan r ≡ plan_of right
  right_plan = λ i. over (plan_of (is_right i)) (no_right i)

  pub bare_join_sides : (keys : Vec KeyColumns Global) → IsWellFormed (plan.join (plan_of left) (plan_of right) keys.items) → AreSides (plan.join (plan_of left) (plan_of right) keys.items) [] (joint.Join keys None) l r
  bare_join_sides keys well = record {
    left = subst IsWellFormed (sym left_plan) well.0;
    right = subst IsWellFormed (sym right_plan) well.1;
    whole = λ p q first second.
        over_join (plan_of left) (plan_of right) p q (subst (λ (s : Plan). IsRewritten s p) left_plan first) (subst (λ (s : Plan). IsRewritten s q) right_plan second) keys.items;
  }

  pub bare_outer_sides : (keys : Vec KeyColumns Global) (test : Expr) → IsWellFormed (plan.outer (plan_of left) (plan_of right) keys.items (expression_of test))
      → AreSides (plan.outer (plan_of left) (plan_of right) keys.items (expression_of test)) [] (joint.Outer keys test None) l r
  bare_outer_sides keys test well = record {
    left = subst IsWellFormed (sym left_plan) well.0;
    right = subst IsWellFormed (sym right_plan) well.1;
    whole = λ p q first second.
        over_outer (plan_of left) (plan_of right) p q (subst (λ (s : Plan). IsRewritten s p) left_plan first) (subst (λ (s : Plan). IsRewritten s q) right_plan second) keys.items (expression_of test);
  }

  pub union_sides : (ws : Vec Wanted Global) → IsWellFormed (over (plan.union (plan_of left) (plan_of right)) ws.items) → AreSides (plan.union (plan_of left) (plan_of right)) ws.items (joint.Union ws) l r
  union_sides ws well =
      let good = well_looked_up ws.items (plan.union (plan_of left) (plan_of right)) well in
      record {
        left = subst IsWellFormed (sym left_plan) good.0;
        right = subst IsWellFormed (sym right_plan) good.1;
        whole = λ p q first second.
            looked_up_alike ws.items (plan.union (plan_of left) (plan_of right)) (plan.union p q)
            (over_union (plan_of left) (plan_of right) p q (subst (λ (s : Plan). IsRewritten s p) left_plan first) (subst (λ (s : Plan). IsRewritten s q) right_plan second));
      }

-- what a join stands below is well formed, if what stands there is
pub well_joined : (outputs : Option (Vec Output Global)) (p : Plan) → IsWellFormed (over_outputs outputs p) → IsWellFormed p
well_joined None p well = well
well_joined (Some outputs) p well = well.0

-- layers over plans that can stand in place of the sides, together
pub over_sides : (orig base p q : Plan) (ls : List Layer) (ws : List Wanted) (j : Rejoin) (l r : Side) → IsRewritten orig (layered ls (over base ws)) → AreSides base ws j l r → IsRewritten (side_plan l) p → IsRewritten (side_plan r) q
    → IsRewritten orig (layered ls (together j p q))
over_sides orig base p q ls ws j l r before sides first second =
    rewritten_again orig (layered ls (over base ws)) (layered ls (together j p q)) before (over_all ls (over base ws) (together j p q) (sides.whole p q first second))

-- with the look-ups in other columns
pub sides_from : (base : Plan) (ws ms : List Wanted) (j : Rejoin) (l r : Side) → IsRewritten (over base ws) (over base ms) → AreSides base ms j l r → AreSides base ws j l r
sides_from base ws ms j l r is sides = record {
  left = sides.left;
  right = sides.right;
  whole = λ p q first second. rewritten_again (over base ws) (over base ms) (together j p q) is (sides.whole p q first second);
}
