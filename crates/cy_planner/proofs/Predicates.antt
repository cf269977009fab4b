-- The predicate of an outer join, taken apart.
use Rattle.std.proofs.Common.{◌≡◌, ℕ, true, ◌&&◌, List, [], ◌∷◌, ◌++◌, length, map, refl, sym, ap, subst, ◌∙◌, inl, inr}
use Rattle.std.specs.Prelude.{IsOk, Option, None, Some, Result, Ok, Err, option_map}
use Rattle.std.specs.List.{AllByRecursion, Contains}
use Rattle.std.proofs.lemmas.List.Folds.{list_all-append}
use Rattle.std.proofs.lemmas.Bool.{and_from, and_parts}
use Rattle.cy_values.specs.declared.rows.Cell.{Cell}
use Rattle.cy_values.specs.declared.scalars.Value.{Value}
use Rattle.cy_values.specs.declared.truth.Truth.{Truth}
use Rattle.cy_values.specs.Truth.{both}
use Rattle.cy_values.proofs.Lists.{each_append, each_parts}
use Rattle.cy_trees.specs.declared.expressions.BinaryOperator.TheVariants.{And}
use Rattle.cy_trees.specs.declared.expressions.Expr.{Expr}
use Rattle.cy_trees.specs.Trees.{Expression, binary}
use Rattle.cy_trees.specs.TreeModels.{expression_of}
use Rattle.cy_graph.specs.Graph.{Content}
use Rattle.cy_expr.specs.declared.faults.EvalFault.{EvalFault}
use Rattle.cy_expr.specs.Faults.{on_one}
use Rattle.cy_expr.specs.Graphs.{lookups}
use Rattle.cy_expr.specs.Logic.{conjunction, truth_of}
use Rattle.cy_expr.specs.Operators.{value_in_cell}
use Rattle.cy_expr.specs.Reading.{reads_below, reads_columns}
use Rattle.cy_expr.proofs.ReadingLemmas.{cell-alike}
use Rattle.cy_planner_algebra.specs.Expressions.{cell_of, holds, is_true, no_graph}
use Rattle.cy_planner_algebra.specs.Plans.{Plan}
use Rattle.cy_planner_algebra.specs.Sure.{HasTruth}
use Rattle.cy_planner_algebra.specs.WellFormed.{IsOver}
use Rattle.cy_planner_rows.specs.Rows.{keeps}
use Rattle.cy_planner_rows.specs.internal.Conjuncts.{IsAllOf, all_conjuncts, conjuncts}
use Rattle.cy_planner_rows.proofs.Alike.{one_or_both, in_cell}
use Rattle.cy_planner_pushdown.specs.After.{AreKept, keeps_each}
use Rattle.cy_planner_pushdown.proofs.Conjunctions.{joined_truth, truth_back, whole, whole_ok}
use Rattle.cy_planner_pushdown.proofs.Finding.{all_kept, among_each}
use Rattle.cy_planner.specs.internal.SplitPredicates.{IsSplit}

-- ---- what a condition is

-- over columns alone it is the same on each graph
same_on_graphs : (graph : Content) (test : Expression) (row : List Cell) → reads_columns test ≡ true → holds test row ≡ keeps graph test row
same_on_graphs graph test row reads =
    ap (λ (o : Result Cell EvalFault). is_true (on_one truth_of (on_one value_in_cell o))) (cell-alike no_graph (lookups graph) row row 0 (λ i less. refl) test (inr reads, inl refl))

joined_of : (o p : Result Truth EvalFault) → IsOk o → IsOk p → IsOk (joined_truth o p)
joined_of (Ok t) (Ok u) here there = subst (λ (o : Result Truth EvalFault). IsOk o) (sym (truth_back (both t u))) refl
joined_of (Ok t) (Err fault) here there = cc
joined_of (Err fault) p here there = cc

whole_of : (v w : Result Value EvalFault) → IsOk (on_one truth_of v) → IsOk (on_one truth_of w) → IsOk (whole v w)
whole_of (Ok v) (Ok w) here there =
    subst (λ (o : Result Value EvalFault). IsOk (on_one truth_of o)) (sym (in_cell (conjunction v w))) (joined_of (truth_of v) (truth_of w) here there)
whole_of (Ok v) (Err fault) here there = cc
whole_of (Err fault) w here there = cc

abbrev value_on : List Cell → Expression → Result Value EvalFault
value_on row e = on_one value_in_cell (cell_of row e)

parts_over : (n : ℕ) (a b : Expression) → IsOver n (binary And a b) → IsOver n a × IsOver n b
parts_over n a b (reads, below) =
    let columns = and_parts (reads_columns a) (reads_columns b) reads in
    let inside = and_parts (reads_below n a) (reads_below n b) below in
    ((columns.0, inside.0), (columns.1, inside.1))

over_both : (n : ℕ) (a b : Expression) → IsOver n a → IsOver n b → IsOver n (binary And a b)
over_both n a b here there = (and_from (reads_columns a) (reads_columns b) here.0 there.0, and_from (reads_below n a) (reads_below n b) here.1 there.1)

-- ---- what is so of a condition where it is so of each that AND joins in it

module _ (P : Expression → Type 0) (parts : (a b : Expression) → P (binary And a b) → P a × P b) (both : (a b : Expression) → P a → P b → P (binary And a b)) where
  of_each : (e : Expression) → P e → AllByRecursion P (conjuncts e)
  of_each =
      one_or_both (λ e. P e → AllByRecursion P (conjuncts e))
      (λ a b here there is. let two = parts a b is in each_append P (conjuncts a) (conjuncts b) (here two.0) (there two.1))
      (λ e one is. subst (AllByRecursion P) (sym one) (is, tt))

  of_all : (e : Expression) → AllByRecursion P (conjuncts e) → P e
  of_all =
      one_or_both (λ e. AllByRecursion P (conjuncts e) → P e)
      (λ a b here there each. let two = each_parts P (conjuncts a) (conjuncts b) each in both a b (here two.0) (there two.1))
      (λ e one each. (subst (AllByRecursion P) one each).0)

  of_trees : (tests : List Expr) → AllByRecursion P (map expression_of tests) → AllByRecursion P (all_conjuncts tests)
  of_trees [] each = tt
  of_trees (t ∷ tests) each = each_append P (conjuncts (expression_of t)) (all_conjuncts tests) (of_each (expression_of t) each.0) (of_trees tests each.1)

  -- of what is left
  of_rest : (test : Expression) (tests : List Expr) (e : Expression) → AllByRecursion (Contains (conjuncts test)) (map expression_of tests) → conjuncts e ≡ all_conjuncts tests → P test → P e
  of_rest test tests e among same is =
      of_all e (subst (AllByRecursion P) (sym same) (of_trees tests (among_each P (conjuncts test) (map expression_of tests) (of_each test is) among)))

-- ---- a predicate taken apart

trees_kept : (graph : Content) (row : List Cell) (tests : List Expr) → keeps_each graph (map expression_of tests) row ≡ keeps_each graph (all_conjuncts tests) row
trees_kept graph row [] = refl
trees_kept graph row (t ∷ tests) =
    (λ i. all_kept graph row (expression_of t) i && trees_kept graph row tests i)
    ∙ sym (list_all-append (λ (e : Expression). keeps graph e row) (conjuncts (expression_of t)) (all_conjuncts tests))

module _ (before : ℕ) (right : Plan) (test : Expression) (tests : List Expr) (made : Plan) (kept : AreKept before right (conjuncts test) (map expression_of tests) made) where
  kept_test : reads_columns test ≡ true → (graph : Content) (l r : List Cell) → length l ≡ before → holds test (l ++ r) ≡ (kept.holds graph r && keeps_each graph (all_conjuncts tests) (l ++ r))
  kept_test reads graph l r long =
      same_on_graphs graph test (l ++ r) reads
      ∙ all_kept graph (l ++ r) test
      ∙ kept.same graph l r long
      ∙ ap (λ b. kept.holds graph r && b) (trees_kept graph (l ++ r) tests)

  none_left : all_conjuncts tests ≡ [] → IsSplit before right test made None
  none_left none = record {
    as_wide = kept.as_wide;
    keeps = kept.holds;
    same = λ reads graph l r long. kept_test reads graph l r long ∙ ap (λ (es : List Expression). kept.holds graph r && keeps_each graph es (l ++ r)) none;
    rows = kept.rows;
    truth = λ row has. refl;
    over = λ n inside. (refl, refl);
    sure = kept.sure;
    bounded = kept.bounded;
  }

  some_left : (e : Expression) → conjuncts e ≡ all_conjuncts tests → IsSplit before right test made (Some e)
  some_left e same = record {
    as_wide = kept.as_wide;
    keeps = kept.holds;
    same = λ reads graph l r long.
        kept_test reads graph l r long
        ∙ ap (λ b. kept.holds graph r && b)
        (ap (λ (es : List Expression). keeps_each graph es (l ++ r)) (sym same)
        ∙ sym (all_kept graph (l ++ r) e)
        ∙ sym (same_on_graphs graph e (l ++ r) (of_rest (λ f. reads_columns f ≡ true) (λ a b. and_parts (reads_columns a) (reads_columns b)) (λ a b. and_from (reads_columns a) (reads_columns b)) test tests e kept.among same reads)));
    rows = kept.rows;
    truth = λ row. of_rest (λ f. HasTruth f row) (λ a b. whole_ok (value_on row a) (value_on row b)) (λ a b. whole_of (value_on row a) (value_on row b)) test tests e kept.among same;
    over = λ n. of_rest (IsOver n) (parts_over n) (over_both n) test tests e kept.among same;
    sure = kept.sure;
    bounded = kept.bounded;
  }

  pub left_split : (o : Option Expr) → IsAllOf tests o → IsSplit before right test made (option_map expression_of o)
  left_split None none = none_left none
  left_split (Some e) same = some_left (expression_of e) same
