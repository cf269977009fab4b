-- Plans in place of others, and parts over them.
use Rattle.std.proofs.Common.{◌≡◌, ℕ, ◌+◌, ◌≤◌, List, [], ◌∷◌, ◌++◌, map, filter, refl, sym, ap, subst, ◌∙◌}
use Rattle.std.specs.List.{All}
use Rattle.std.proofs.lemmas.List.Elements.{All-append, All-cons, All-head, All-nil, All-tail}
use Rattle.cy_values.specs.declared.rows.Cell.{Cell}
use Rattle.cy_values.specs.Bag.{count_of}
use Rattle.cy_trees.specs.Trees.{Expression}
use Rattle.cy_graph.specs.Graph.{Content}
use Rattle.cy_expr.specs.Graphs.{are_different}
use Rattle.cy_planner_algebra.specs.declared.operators.Attribute.{Attribute}
use Rattle.cy_planner_algebra.specs.declared.operators.Keeping.{Keeping}
use Rattle.cy_planner_algebra.specs.declared.operators.KeyColumns.{KeyColumns}
use Rattle.cy_planner_algebra.specs.Plans as plan
use Rattle.cy_planner_algebra.specs.Plans.{Plan, Output, width}
use Rattle.cy_planner_algebra.specs.Expressions.{holds, projected, relationships_at}
use Rattle.cy_planner_algebra.specs.Meaning.{each_once, joined, outer_joined, rows_of, semi_joined, with_attribute}
use Rattle.cy_planner_algebra.specs.Parts.{parts}
use Rattle.cy_planner_algebra.specs.Sure.{HasCells, HasTruth}
use Rattle.cy_planner_algebra.specs.WellFormed.{IsColumn, IsKeyBetween, IsOutputOver, IsOver, greatest_width}
use Rattle.cy_planner_algebra.specs.Within.{CountsWithin, IsWithin}
use Rattle.cy_planner_rewriting.specs.Rewritten.{IsRewritten}

pub same_plan : (p : Plan) → IsRewritten p p
same_plan p = record {
  as_wide = refl;
  well_formed = λ well. well;
  rows = λ graph. refl;
  sure = λ graph sure. sure;
  bounded = λ graph tables each. each;
}

pub equal_plans : (p q : Plan) → p ≡ q → IsRewritten p q
equal_plans p q is = subst (λ (r : Plan). IsRewritten p r) is (same_plan p)

pub rewritten_again : (p q r : Plan) → IsRewritten p q → IsRewritten q r → IsRewritten p r
rewritten_again p q r first second = record {
  as_wide = second.as_wide ∙ first.as_wide;
  well_formed = λ well. second.well_formed (first.well_formed well);
  rows = λ graph. second.rows graph ∙ first.rows graph;
  sure = λ graph sure. second.sure graph (first.sure graph sure);
  bounded = λ graph tables each. second.bounded graph tables (first.bounded graph tables each);
}

-- what is made of plans in place of others, where the whole is made of these
pub put_together : (whole p q r : Plan) → whole ≡ p → IsRewritten p q → r ≡ q → IsRewritten whole r
put_together whole p q r from is made = subst (λ (s : Plan). IsRewritten s r) (sym from) (subst (λ (s : Plan). IsRewritten p s) (sym made) is)

-- the same rows count no more
pub same_within : (graph : Content) (tables : List (List (List Cell))) (p q : Plan) → rows_of graph q ≡ rows_of graph p → IsWithin graph tables p → IsWithin graph tables q
same_within graph tables p q is within row = subst (λ rows. CountsWithin tables (count_of row rows)) (sym is) (within row)

pub all_split : (P : Plan → Type 0) (xs ys : List Plan) → All P (xs ++ ys) → All P xs × All P ys
all_split P [] ys each = (All-nil P, each)
all_split P (x ∷ xs) ys each =
    let rest = all_split P xs ys (All-tail P x (xs ++ ys) each) in
    (All-cons P x xs (All-head P x (xs ++ ys) each) rest.0, rest.1)

-- ---- a part with one part below it

module _ (p q : Plan) (is : IsRewritten p q) where
  one_below : (over other : Plan) (graph : Content) (tables : List (List (List Cell))) → rows_of graph other ≡ rows_of graph over → All (IsWithin graph tables) (over ∷ parts p) → All (IsWithin graph tables) (other ∷ parts q)
  one_below over other graph tables rows each =
      All-cons (IsWithin graph tables) other (parts q)
      (same_within graph tables over other rows (All-head (IsWithin graph tables) over (parts p) each))
      (is.bounded graph tables (All-tail (IsWithin graph tables) over (parts p) each))

  pub over_lookup : (column : ℕ) (attribute : Attribute) → IsRewritten (plan.lookup p column attribute) (plan.lookup q column attribute)
  over_lookup column attribute = record {
    as_wide = ap (λ n. n + 1) is.as_wide;
    well_formed = λ well. (is.well_formed well.0, subst (λ (n : ℕ). IsColumn n column) (sym is.as_wide) well.1, subst (λ (n : ℕ). n + 1 ≤ greatest_width) (sym is.as_wide) well.2);
    rows = λ graph. ap (map (with_attribute graph column attribute)) (is.rows graph);
    sure = λ graph sure. is.sure graph sure;
    bounded = λ graph tables each. one_below (plan.lookup p column attribute) (plan.lookup q column attribute) graph tables (ap (map (with_attribute graph column attribute)) (is.rows graph)) each;
  }

  pub over_filter : (test : Expression) → IsRewritten (plan.filter p test) (plan.filter q test)
  over_filter test = record {
    as_wide = is.as_wide;
    well_formed = λ well. (is.well_formed well.0, subst (λ (n : ℕ). IsOver n test) (sym is.as_wide) well.1);
    rows = λ graph. ap (filter (holds test)) (is.rows graph);
    sure = λ graph sure. (is.sure graph sure.0, subst (λ rows. All (HasTruth test) rows) (sym (is.rows graph)) sure.1);
    bounded = λ graph tables each. one_below (plan.filter p test) (plan.filter q test) graph tables (ap (filter (holds test)) (is.rows graph)) each;
  }

  pub over_different : (columns : List ℕ) → IsRewritten (plan.all_different p columns) (plan.all_different q columns)
  over_different columns = record {
    as_wide = is.as_wide;
    well_formed = λ well. (is.well_formed well.0, subst (λ (n : ℕ). All (IsColumn n) columns) (sym is.as_wide) well.1);
    rows = λ graph. ap (filter (λ row. are_different (relationships_at columns row))) (is.rows graph);
    sure = λ graph sure. is.sure graph sure;
    bounded = λ graph tables each.
        one_below (plan.all_different p columns) (plan.all_different q columns) graph tables (ap (filter (λ row. are_different (relationships_at columns row))) (is.rows graph)) each;
  }

  pub over_project : (outputs : List Output) → IsRewritten (plan.project p outputs) (plan.project q outputs)
  over_project outputs = record {
    as_wide = refl;
    well_formed = λ well. (is.well_formed well.0, subst (λ (n : ℕ). All (IsOutputOver n) outputs) (sym is.as_wide) well.1, well.2);
    rows = λ graph. ap (map (projected outputs)) (is.rows graph);
    sure = λ graph sure. (is.sure graph sure.0, subst (λ rows. All (HasCells outputs) rows) (sym (is.rows graph)) sure.1);
    bounded = λ graph tables each. one_below (plan.project p outputs) (plan.project q outputs) graph tables (ap (map (projected outputs)) (is.rows graph)) each;
  }

  pub over_distinct : IsRewritten (plan.distinct p) (plan.distinct q)
  over_distinct = record {
    as_wide = is.as_wide;
    well_formed = λ well. is.well_formed well;
    rows = λ graph. ap each_once (is.rows graph);
    sure = λ graph sure. is.sure graph sure;
    bounded = λ graph tables each. one_below (plan.distinct p) (plan.distinct q) graph tables (ap each_once (is.rows graph)) each;
  }

-- ---- a part with two parts below it

module _ (left right other_left other_right : Plan) (here : IsRewritten left other_left) (there : IsRewritten right other_right) where
  two_below : (over other : Plan) (graph : Content) (tables : List (List (List Cell))) → rows_of graph other ≡ rows_of graph over
      → All (IsWithin graph tables) (over ∷ parts left ++ parts right) → All (IsWithin graph tables) (other ∷ parts other_left ++ parts other_right)
  two_below over other graph tables rows each =
      let both = all_split (IsWithin graph tables) (parts left) (parts right) (All-tail (IsWithin graph tables) over (parts left ++ parts right) each) in
      All-cons (IsWithin graph tables) other (parts other_left ++ parts other_right)
      (same_within graph tables over other rows (All-head (IsWithin graph tables) over (parts left ++ parts right) each))
      (All-append (IsWithin graph tables) (parts other_left) (parts other_right) (here.bounded graph tables both.0) (there.bounded graph tables both.1))

  both_wide : width other_left + width other_right ≡ width left + width right
  both_wide = λ i. here.as_wide i + there.as_wide i

  keys_between : (keys : List KeyColumns) → All (IsKeyBetween (width left) (width right)) keys → All (IsKeyBetween (width other_left) (width other_right)) keys
  keys_between keys each =
      subst (λ (n : ℕ). All (IsKeyBetween n (width other_right)) keys) (sym here.as_wide) (subst (λ (n : ℕ). All (IsKeyBetween (width left) n) keys) (sym there.as_wide) each)

  joined_rows : (keys : List KeyColumns) (graph : Content) → rows_of graph (plan.join other_left other_right keys) ≡ rows_of graph (plan.join left right keys)
  joined_rows keys graph = λ i. joined keys (here.rows graph i) (there.rows graph i)

  pub over_join : (keys : List KeyColumns) → IsRewritten (plan.join left right keys) (plan.join other_left other_right keys)
  over_join keys = record {
    as_wide = both_wide;
    well_formed = λ well. (here.well_formed well.0, there.well_formed well.1, keys_between keys well.2, subst (λ (n : ℕ). n ≤ greatest_width) (sym both_wide) well.3);
    rows = joined_rows keys;
    sure = λ graph sure. (here.sure graph sure.0, there.sure graph sure.1);
    bounded = λ graph tables each. two_below (plan.join left right keys) (plan.join other_left other_right keys) graph tables (joined_rows keys graph) each;
  }

  outer_rows : (keys : List KeyColumns) (test : Expression) (graph : Content) → rows_of graph (plan.outer other_left other_right keys test) ≡ rows_of graph (plan.outer left right keys test)
  outer_rows keys test graph = λ i. outer_joined keys test (there.as_wide i) (here.rows graph i) (there.rows graph i)

  pub over_outer : (keys : List KeyColumns) (test : Expression) → IsRewritten (plan.outer left right keys test) (plan.outer other_left other_right keys test)
  over_outer keys test = record {
    as_wide = both_wide;
    well_formed = λ well. (
      here.well_formed well.0,
      there.well_formed well.1,
      keys_between keys well.2,
      subst (λ (n : ℕ). n ≤ greatest_width) (sym both_wide) well.3,
      subst (λ (n : ℕ). IsOver n test) (sym both_wide) well.4,
    );
    rows = outer_rows keys test;
    sure = λ graph sure. (here.sure graph sure.0, there.sure graph sure.1, subst (λ rows. All (HasTruth test) rows) (sym (joined_rows keys graph)) sure.2);
    bounded = λ graph tables each. two_below (plan.outer left right keys test) (plan.outer other_left other_right keys test) graph tables (outer_rows keys test graph) each;
  }

  semi_rows : (keys : List KeyColumns) (keeping : Keeping) (graph : Content) → rows_of graph (plan.semi other_left other_right keys keeping) ≡ rows_of graph (plan.semi left right keys keeping)
  semi_rows keys keeping graph = λ i. semi_joined keys keeping (here.rows graph i) (there.rows graph i)

  pub over_semi : (keys : List KeyColumns) (keeping : Keeping) → IsRewritten (plan.semi left right keys keeping) (plan.semi other_left other_right keys keeping)
  over_semi keys keeping = record {
    as_wide = here.as_wide;
    well_formed = λ well. (here.well_formed well.0, there.well_formed well.1, keys_between keys well.2);
    rows = semi_rows keys keeping;
    sure = λ graph sure. (here.sure graph sure.0, there.sure graph sure.1);
    bounded = λ graph tables each. two_below (plan.semi left right keys keeping) (plan.semi other_left other_right keys keeping) graph tables (semi_rows keys keeping graph) each;
  }

  union_rows : (graph : Content) → rows_of graph (plan.union other_left other_right) ≡ rows_of graph (plan.union left right)
  union_rows graph = λ i. here.rows graph i ++ there.rows graph i

  pub over_union : IsRewritten (plan.union left right) (plan.union other_left other_right)
  over_union = record {
    as_wide = here.as_wide;
    well_formed = λ well. (here.well_formed well.0, there.well_formed well.1, here.as_wide ∙ well.2 ∙ sym there.as_wide);
    rows = union_rows;
    sure = λ graph sure. (here.sure graph sure.0, there.sure graph sure.1);
    bounded = λ graph tables each. two_below (plan.union left right) (plan.union other_left other_right) graph tables (union_rows graph) each;
  }
