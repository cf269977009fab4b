-- Plans in place of others, and parts over them.
use Rattle.std.proofs.Common.{◌≡◌, ℕ, ◌+◌, ◌≤◌, List, ◌∷◌, ◌++◌, map, filter, refl, sym, ap, subst, ◌∙◌}
use Rattle.std.specs.List.{All}
use Rattle.std.proofs.lemmas.List.Elements.{All-append, All-cons, All-head, All-tail}
use Rattle.cy_values.specs.declared.rows.Cell.{Cell}
use Rattle.cy_trees.specs.Trees.{Expression}
use Rattle.cy_graph.specs.Graph.{State, IsGraph}
use Rattle.cy_expr.specs.Graphs.{are_different}
use Rattle.cy_planner_algebra.specs.declared.operators.Attribute.{Attribute}
use Rattle.cy_planner_algebra.specs.declared.operators.Keeping.{Keeping}
use Rattle.cy_planner_algebra.specs.declared.operators.KeyColumns.{KeyColumns}
use Rattle.cy_planner_algebra.specs.Plans as plan
use Rattle.cy_planner_algebra.specs.Plans.{Plan, Output, width}
use Rattle.cy_planner_algebra.specs.Expressions.{holds, projected, relationships_at}
use Rattle.cy_planner_algebra.specs.Meaning.{each_once, joined, outer_joined, rows_of, semi_joined, with_attribute}
use Rattle.cy_planner_algebra.specs.Parts.{parts}
use Rattle.cy_planner_algebra.specs.Sure.{HasCells, HasTruth}
use Rattle.cy_planner_algebra.specs.WellFormed.{IsColumn, IsKeyBetween, IsOutputOver, IsOver, greatest_width}
use Rattle.cy_planner_algebra.specs.Within.{IsWithin}
use Rattle.cy_planner_rewriting.specs.Rewritten.{IsRewritten}
use Rattle.cy_planner_rewriting.proofs.Congruent.{all_split, same_within}
use Rattle.cy_planner.specs.internal.Standing.{StandsFor}

same_plan : (p : Plan) → StandsFor p p
same_plan p = record {
  as_wide = refl;
  well_formed = λ well. well;
  rows = λ graph good. refl;
  sure = λ graph good sure. sure;
  bounded = λ graph tables good each. each;
}

pub equal_plans : (p q : Plan) → p ≡ q → StandsFor p q
equal_plans p q is = subst (λ (r : Plan). StandsFor p r) is (same_plan p)

pub stands_again : (p q r : Plan) → StandsFor p q → StandsFor q r → StandsFor p r
stands_again p q r first second = record {
  as_wide = second.as_wide ∙ first.as_wide;
  well_formed = λ well. second.well_formed (first.well_formed well);
  rows = λ graph good. second.rows graph good ∙ first.rows graph good;
  sure = λ graph good sure. second.sure graph good (first.sure graph good sure);
  bounded = λ graph tables good each. second.bounded graph tables good (first.bounded graph tables good each);
}

-- what can stand in its place whatever the graph holds
pub on_graphs : (p q : Plan) → IsRewritten p q → StandsFor p q
on_graphs p q is = record {
  as_wide = is.as_wide;
  well_formed = is.well_formed;
  rows = λ graph good. is.rows graph.content;
  sure = λ graph good. is.sure graph.content;
  bounded = λ graph tables good. is.bounded graph.content tables;
}

-- ---- a part with one part below it

module _ (p q : Plan) (is : StandsFor p q) where
  module _ (graph : State) (good : IsGraph graph) (tables : List (List (List Cell))) where
    one_below : (over other : Plan) → rows_of graph.content other ≡ rows_of graph.content over → All (IsWithin graph.content tables) (over ∷ parts p) → All (IsWithin graph.content tables) (other ∷ parts q)
    one_below over other rows each =
        All-cons (IsWithin graph.content tables) other (parts q)
        (same_within graph.content tables over other rows (All-head (IsWithin graph.content tables) over (parts p) each))
        (is.bounded graph tables good (All-tail (IsWithin graph.content tables) over (parts p) each))

  pub over_lookup : (column : ℕ) (attribute : Attribute) → StandsFor (plan.lookup p column attribute) (plan.lookup q column attribute)
  over_lookup column attribute = record {
    as_wide = ap (λ n. n + 1) is.as_wide;
    well_formed = λ well. (is.well_formed well.0, subst (λ (n : ℕ). IsColumn n column) (sym is.as_wide) well.1, subst (λ (n : ℕ). n + 1 ≤ greatest_width) (sym is.as_wide) well.2);
    rows = λ graph good. ap (map (with_attribute graph.content column attribute)) (is.rows graph good);
    sure = λ graph good sure. is.sure graph good sure;
    bounded = λ graph tables good each.
        one_below graph good tables (plan.lookup p column attribute) (plan.lookup q column attribute) (ap (map (with_attribute graph.content column attribute)) (is.rows graph good)) each;
  }

  pub over_filter : (test : Expression) → StandsFor (plan.filter p test) (plan.filter q test)
  over_filter test = record {
    as_wide = is.as_wide;
    well_formed = λ well. (is.well_formed well.0, subst (λ (n : ℕ). IsOver n test) (sym is.as_wide) well.1);
    rows = λ graph good. ap (filter (holds test)) (is.rows graph good);
    sure = λ graph good sure. (is.sure graph good sure.0, subst (λ rows. All (HasTruth test) rows) (sym (is.rows graph good)) sure.1);
    bounded = λ graph tables good each. one_below graph good tables (plan.filter p test) (plan.filter q test) (ap (filter (holds test)) (is.rows graph good)) each;
  }

  pub over_different : (columns : List ℕ) → StandsFor (plan.all_different p columns) (plan.all_different q columns)
  over_different columns = record {
    as_wide = is.as_wide;
    well_formed = λ well. (is.well_formed well.0, subst (λ (n : ℕ). All (IsColumn n) columns) (sym is.as_wide) well.1);
    rows = λ graph good. ap (filter (λ row. are_different (relationships_at columns row))) (is.rows graph good);
    sure = λ graph good sure. is.sure graph good sure;
    bounded = λ graph tables good each.
        one_below graph good tables (plan.all_different p columns) (plan.all_different q columns) (ap (filter (λ row. are_different (relationships_at columns row))) (is.rows graph good)) each;
  }

  pub over_project : (outputs : List Output) → StandsFor (plan.project p outputs) (plan.project q outputs)
  over_project outputs = record {
    as_wide = refl;
    well_formed = λ well. (is.well_formed well.0, subst (λ (n : ℕ). All (IsOutputOver n) outputs) (sym is.as_wide) well.1, well.2);
    rows = λ graph good. ap (map (projected outputs)) (is.rows graph good);
    sure = λ graph good sure. (is.sure graph good sure.0, subst (λ rows. All (HasCells outputs) rows) (sym (is.rows graph good)) sure.1);
    bounded = λ graph tables good each. one_below graph good tables (plan.project p outputs) (plan.project q outputs) (ap (map (projected outputs)) (is.rows graph good)) each;
  }

  pub over_distinct : StandsFor (plan.distinct p) (plan.distinct q)
  over_distinct = record {
    as_wide = is.as_wide;
    well_formed = λ well. is.well_formed well;
    rows = λ graph good. ap each_once (is.rows graph good);
    sure = λ graph good sure. is.sure graph good sure;
    bounded = λ graph tables good each. one_below graph good tables (plan.distinct p) (plan.distinct q) (ap each_once (is.rows graph good)) each;
  }

-- ---- a part with two parts below it

module _ (left right other_left other_right : Plan) (here : StandsFor left other_left) (there : StandsFor right other_right) where
  module _ (graph : State) (good : IsGraph graph) where
    two_below : (tables : List (List (List Cell))) (over other : Plan) → rows_of graph.content other ≡ rows_of graph.content over
        → All (IsWithin graph.content tables) (over ∷ parts left ++ parts right) → All (IsWithin graph.content tables) (other ∷ parts other_left ++ parts other_right)
    two_below tables over other rows each =
        let both = all_split (IsWithin graph.content tables) (parts left) (parts right) (All-tail (IsWithin graph.content tables) over (parts left ++ parts right) each) in
        All-cons (IsWithin graph.content tables) other (parts other_left ++ parts other_right)
        (same_within graph.content tables over other rows (All-head (IsWithin graph.content tables) over (parts left ++ parts right) each))
        (All-append (IsWithin graph.content tables) (parts other_left) (parts other_right) (here.bounded graph tables good both.0) (there.bounded graph tables good both.1))

    joined_rows : (keys : List KeyColumns) → rows_of graph.content (plan.join other_left other_right keys) ≡ rows_of graph.content (plan.join left right keys)
    joined_rows keys = λ i. joined keys (here.rows graph good i) (there.rows graph good i)

    outer_rows : (keys : List KeyColumns) (test : Expression) → rows_of graph.content (plan.outer other_left other_right keys test) ≡ rows_of graph.content (plan.outer left right keys test)
    outer_rows keys test = λ i. outer_joined keys test (there.as_wide i) (here.rows graph good i) (there.rows graph good i)

    semi_rows : (keys : List KeyColumns) (keeping : Keeping) → rows_of graph.content (plan.semi other_left other_right keys keeping) ≡ rows_of graph.content (plan.semi left right keys keeping)
    semi_rows keys keeping = λ i. semi_joined keys keeping (here.rows graph good i) (there.rows graph good i)

    union_rows : rows_of graph.content (plan.union other_left other_right) ≡ rows_of graph.content (plan.union left right)
    union_rows = λ i. here.rows graph good i ++ there.rows graph good i

  both_wide : width other_left + width other_right ≡ width left + width right
  both_wide = λ i. here.as_wide i + there.as_wide i

  keys_between : (keys : List KeyColumns) → All (IsKeyBetween (width left) (width right)) keys → All (IsKeyBetween (width other_left) (width other_right)) keys
  keys_between keys each =
      subst (λ (n : ℕ). All (IsKeyBetween n (width other_right)) keys) (sym here.as_wide) (subst (λ (n : ℕ). All (IsKeyBetween (width left) n) keys) (sym there.as_wide) each)

  pub over_join : (keys : List KeyColumns) → StandsFor (plan.join left right keys) (plan.join other_left other_right keys)
  over_join keys = record {
    as_wide = both_wide;
    well_formed = λ well. (here.well_formed well.0, there.well_formed well.1, keys_between keys well.2, subst (λ (n : ℕ). n ≤ greatest_width) (sym both_wide) well.3);
    rows = λ graph good. joined_rows graph good keys;
    sure = λ graph good sure. (here.sure graph good sure.0, there.sure graph good sure.1);
    bounded = λ graph tables good each. two_below graph good tables (plan.join left right keys) (plan.join other_left other_right keys) (joined_rows graph good keys) each;
  }

  pub over_outer : (keys : List KeyColumns) (test : Expression) → StandsFor (plan.outer left right keys test) (plan.outer other_left other_right keys test)
  over_outer keys test = record {
    as_wide = both_wide;
    well_formed = λ well. (
      here.well_formed well.0,
      there.well_formed well.1,
      keys_between keys well.2,
      subst (λ (n : ℕ). n ≤ greatest_width) (sym both_wide) well.3,
      subst (λ (n : ℕ). IsOver n test) (sym both_wide) well.4,
    );
    rows = λ graph good. outer_rows graph good keys test;
    sure = λ graph good sure. (here.sure graph good sure.0, there.sure graph good sure.1, subst (λ rows. All (HasTruth test) rows) (sym (joined_rows graph good keys)) sure.2);
    bounded = λ graph tables good each. two_below graph good tables (plan.outer left right keys test) (plan.outer other_left other_right keys test) (outer_rows graph good keys test) each;
  }

  pub over_semi : (keys : List KeyColumns) (keeping : Keeping) → StandsFor (plan.semi left right keys keeping) (plan.semi other_left other_right keys keeping)
  over_semi keys keeping = record {
    as_wide = here.as_wide;
    well_formed = λ well. (here.well_formed well.0, there.well_formed well.1, keys_between keys well.2);
    rows = λ graph good. semi_rows graph good keys keeping;
    sure = λ graph good sure. (here.sure graph good sure.0, there.sure graph good sure.1);
    bounded = λ graph tables good each. two_below graph good tables (plan.semi left right keys keeping) (plan.semi other_left other_right keys keeping) (semi_rows graph good keys keeping) each;
  }

  pub over_union : StandsFor (plan.union left right) (plan.union other_left other_right)
  over_union = record {
    as_wide = here.as_wide;
    well_formed = λ well. (here.well_formed well.0, there.well_formed well.1, here.as_wide ∙ well.2 ∙ sym there.as_wide);
    rows = union_rows;
    sure = λ graph good sure. (here.sure graph good sure.0, there.sure graph good sure.1);
    bounded = λ graph tables good each. two_below graph good tables (plan.union left right) (plan.union other_left other_right) (union_rows graph good) each;
  }
