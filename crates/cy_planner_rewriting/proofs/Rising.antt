-- Projections that take over columns go up over conditions and tests.
use Rattle.std.proofs.Common.{◌≡◌, Global, ℕ, Bool, true, List, [], ◌∷◌, ◌++◌, Vec, length, map, refl, sym, ap, subst, ◌∙◌}
use Rattle.std.specs.Prelude.{IsOk}
use Rattle.std.specs.List.{All, AllByRecursion}
use Rattle.std.proofs.lemmas.List.Elements.{All-cons, All-filter, All-head, All-nil, All-tail}
use Rattle.cy_values.specs.declared.rows.Cell.{Cell}
use Rattle.cy_trees.specs.declared.expressions.Expr.{Expr}
use Rattle.cy_trees.specs.Trees.{Expression}
use Rattle.cy_trees.specs.TreeModels.{expression_of}
use Rattle.cy_graph.specs.Graph.{Content}
use Rattle.cy_expr.specs.Faults.{on_one}
use Rattle.cy_expr.specs.Logic.{truth_of}
use Rattle.cy_expr.specs.Operators.{value_in_cell}
use Rattle.cy_expr.specs.Reading.{reads_below}
use Rattle.cy_expr.specs.Graphs.{are_different}
use Rattle.cy_planner_algebra.specs.declared.operators.Output.{Output}
use Rattle.cy_planner_algebra.specs.Plans as plan
use Rattle.cy_planner_algebra.specs.Plans.{Plan, width}
use Rattle.cy_planner_algebra.specs.PlanModels.{output_of}
use Rattle.cy_planner_algebra.specs.Expressions.{cell_of, holds, is_true, no_graph, projected, relationships_at, truth_on}
use Rattle.cy_planner_algebra.specs.Meaning.{rows_of}
use Rattle.cy_planner_algebra.specs.Parts.{parts}
use Rattle.cy_planner_algebra.specs.Sure.{HasCells, HasTruth}
use Rattle.cy_planner_algebra.specs.WellFormed.{IsColumn, IsWellFormed}
use Rattle.cy_planner_algebra.specs.Within.{IsWithin}
use Rattle.cy_planner_rows.specs.Renumbered.{new_column, renumbered}
use Rattle.cy_planner_rows.proofs.RenumberedLemmas.{reads_inside, same_cell, same_reading}
use Rattle.cy_planner_rows.proofs.OverRows.{filter_within, own_part}
use Rattle.cy_planner_rewriting.specs.declared.layers.Layer.{Layer}
use Rattle.cy_planner_rewriting.specs.declared.layers.Layer.TheVariants as layer
use Rattle.cy_planner_rewriting.specs.internal.Columns.{AreColumns}
use Rattle.cy_planner_rewriting.specs.internal.Opened.{over_layer}
use Rattle.cy_planner_rewriting.specs.internal.Layers.{AreInPlace, layered}
use Rattle.cy_planner_rewriting.specs.Rewritten.{IsRewritten}
use Rattle.cy_planner_rewriting.proofs.Congruent.{rewritten_again, same_within}
use Rattle.cy_planner_rewriting.proofs.Joining.{sifted_within}
use Rattle.cy_planner_rewriting.proofs.Layering.{layers_over, over_all, well_below}
use Rattle.cy_planner_rewriting.proofs.Passing.{tested_before}
use Rattle.cy_planner_rewriting.proofs.Projections.{as_many, columns_cells, columns_inside, members_inside, relationships_moved}

module _ (p : Plan) (outputs : List plan.Output) (columns : List ℕ) (are : AreColumns outputs columns) where
  abbrev anything : List Cell → Type 0
  anything row = Unit {0}

  all_anything : (rows : List (List Cell)) → AllByRecursion anything rows
  all_anything [] = tt
  all_anything (row ∷ rows) = (tt, all_anything rows)

  -- ---- a condition

  module _ (test : Expression) (well : IsWellFormed (plan.filter (plan.project p outputs) test)) where
    abbrev below : Expression
    below = renumbered columns test

    reads : reads_below (length columns) test ≡ true
    reads = subst (λ (n : ℕ). reads_below n test ≡ true) (sym (as_many outputs columns are)) well.1.1

    truth_below : (row : List Cell) → truth_on (projected outputs row) test ≡ truth_on row below
    truth_below row = ap (λ c. on_one truth_of (on_one value_in_cell c)) (ap (λ (k : List Cell). cell_of k test) (columns_cells row outputs columns are) ∙ sym (same_cell no_graph row columns test reads))

    sure_below : (rows : List (List Cell)) → All (HasTruth test) (map (projected outputs) rows) → All (HasTruth below) rows
    sure_below [] each = All-nil (HasTruth below)
    sure_below (row ∷ rows) each =
        All-cons (HasTruth below) row rows (subst IsOk (truth_below row) (All-head (HasTruth test) (projected outputs row) (map (projected outputs) rows) each))
        (sure_below rows (All-tail (HasTruth test) (projected outputs row) (map (projected outputs) rows) each))

    rows_below : (graph : Content) → rows_of graph (plan.project (plan.filter p below) outputs) ≡ rows_of graph (plan.filter (plan.project p outputs) test)
    rows_below graph = sym (tested_before anything (projected outputs) (holds test) (holds below) (λ row any. ap is_true (truth_below row)) (rows_of graph p) (all_anything (rows_of graph p)))

    pub up_from_filter : IsRewritten (plan.filter (plan.project p outputs) test) (plan.project (plan.filter p below) outputs)
    up_from_filter = record {
      as_wide = refl;
      well_formed = λ good. (
        (good.0.0, (same_reading columns test ∙ good.1.0, reads_inside (width p) columns (columns_inside (width p) outputs columns are good.0.1) test reads)),
        good.0.1,
        good.0.2,
      );
      rows = rows_below;
      sure = λ graph sure. ((sure.0.0, sure_below (rows_of graph p) sure.1), All-filter (holds below) (HasCells outputs) (rows_of graph p) sure.0.1);
      bounded = λ graph tables each.
          let rest = All-tail (IsWithin graph tables) (plan.filter (plan.project p outputs) test) (plan.project p outputs ∷ parts p) each in
          let under = All-tail (IsWithin graph tables) (plan.project p outputs) (parts p) rest in
          All-cons (IsWithin graph tables) (plan.project (plan.filter p below) outputs) (plan.filter p below ∷ parts p)
          (same_within graph tables (plan.filter (plan.project p outputs) test) (plan.project (plan.filter p below) outputs) (rows_below graph)
          (All-head (IsWithin graph tables) (plan.filter (plan.project p outputs) test) (plan.project p outputs ∷ parts p) each))
          (All-cons (IsWithin graph tables) (plan.filter p below) (parts p) (filter_within graph tables p below (own_part (IsWithin graph tables) p under)) under);
    }

  -- ---- a test that relationships differ

  module _ (members : List ℕ) (well : IsWellFormed (plan.all_different (plan.project p outputs) members)) where
    abbrev under : List ℕ
    under = map (new_column columns) members

    inside : All (IsColumn (length columns)) members
    inside = subst (λ (n : ℕ). All (IsColumn n) members) (sym (as_many outputs columns are)) well.1

    abbrev differs : List ℕ → List Cell → Bool
    differs cs row = are_different (relationships_at cs row)

    differs_below : (row : List Cell) → differs members (projected outputs row) ≡ differs under row
    differs_below row = ap are_different (ap (relationships_at members) (columns_cells row outputs columns are) ∙ sym (relationships_moved row columns members inside))

    different_below : (graph : Content) → rows_of graph (plan.project (plan.all_different p under) outputs) ≡ rows_of graph (plan.all_different (plan.project p outputs) members)
    different_below graph = sym (tested_before anything (projected outputs) (differs members) (differs under) (λ row any. differs_below row) (rows_of graph p) (all_anything (rows_of graph p)))

    pub up_from_different : IsRewritten (plan.all_different (plan.project p outputs) members) (plan.project (plan.all_different p under) outputs)
    up_from_different = record {
      as_wide = refl;
      well_formed = λ good. ((good.0.0, members_inside (width p) columns members (columns_inside (width p) outputs columns are good.0.1) inside), good.0.1, good.0.2);
      rows = different_below;
      sure = λ graph sure. (sure.0, All-filter (differs under) (HasCells outputs) (rows_of graph p) sure.1);
      bounded = λ graph tables each.
          let rest = All-tail (IsWithin graph tables) (plan.all_different (plan.project p outputs) members) (plan.project p outputs ∷ parts p) each in
          let lower = All-tail (IsWithin graph tables) (plan.project p outputs) (parts p) rest in
          All-cons (IsWithin graph tables) (plan.project (plan.all_different p under) outputs) (plan.all_different p under ∷ parts p)
          (same_within graph tables (plan.all_different (plan.project p outputs) members) (plan.project (plan.all_different p under) outputs) (different_below graph)
          (All-head (IsWithin graph tables) (plan.all_different (plan.project p outputs) members) (plan.project p outputs ∷ parts p) each))
          (All-cons (IsWithin graph tables) (plan.all_different p under) (parts p) (sifted_within graph tables (differs under) p (plan.all_different p under) refl (own_part (IsWithin graph tables) p lower)) lower);
    }

-- ---- among layers

-- a layer with a projection below it, where the projection goes up over it
rises : (ls mid : List Layer) (l m project : Layer) (p : Plan) → (IsWellFormed (over_layer l (over_layer project p)) → IsRewritten (over_layer l (over_layer project p)) (over_layer project (over_layer m p)))
    → ((q : Plan) → AreInPlace (ls ++ project ∷ []) mid q q) → (all others : List Layer) → all ≡ ls ++ l ∷ [] → others ≡ mid ++ m ∷ [] → AreInPlace (all ++ project ∷ []) others p p
rises ls mid l m project p step place all others is made well =
    let top : Plan = over_layer l (over_layer project p) in
    let next : Plan = over_layer m p in
    let whole : layered (all ++ project ∷ []) p ≡ layered ls top =
    layers_over all (project ∷ []) p ∙ ap (λ (ms : List Layer). layered ms (over_layer project p)) is ∙ layers_over ls (l ∷ []) (over_layer project p) in
    let here : IsRewritten (layered ls top) (layered ls (over_layer project next)) = over_all ls top (over_layer project next) (step (well_below ls top (subst IsWellFormed whole well))) in
    let there : IsRewritten (layered ls top) (layered (ls ++ project ∷ []) next) = subst (λ (q : Plan). IsRewritten (layered ls top) q) (sym (layers_over ls (project ∷ []) next)) here in
    let good = there.well_formed (subst IsWellFormed whole well) in
    let done : IsRewritten (layered ls top) (layered mid next) = rewritten_again (layered ls top) (layered (ls ++ project ∷ []) next) (layered mid next) there (place next good) in
    subst (λ (q : Plan). IsRewritten q (layered others p)) (sym whole)
    (subst (λ (q : Plan). IsRewritten (layered ls top) q) (sym (ap (λ (ms : List Layer). layered ms p) made ∙ layers_over mid (m ∷ []) p)) done)

pub rises_over_filter : (ls mid : List Layer) (test lower : Expr) (outputs : Vec Output Global) (columns : List ℕ) (p : Plan) → AreColumns (map output_of outputs.items) columns → expression_of lower ≡ renumbered columns (expression_of test)
    → ((q : Plan) → AreInPlace (ls ++ layer.Project outputs ∷ []) mid q q) → (all others : List Layer) → all ≡ ls ++ layer.Filter test ∷ [] → others ≡ mid ++ layer.Filter lower ∷ [] → AreInPlace (all ++ layer.Project outputs ∷ []) others p p
rises_over_filter ls mid test lower outputs columns p are is place all others from made =
    rises ls mid (layer.Filter test) (layer.Filter lower) (layer.Project outputs) p
    (λ well.
    subst (λ (e : Expression). IsRewritten (plan.filter (plan.project p (map output_of outputs.items)) (expression_of test)) (plan.project (plan.filter p e) (map output_of outputs.items))) (sym is)
    (up_from_filter p (map output_of outputs.items) columns are (expression_of test) well)) place all others from made

pub rises_over_test : (ls mid : List Layer) (members lower : Vec ℕ Global) (outputs : Vec Output Global) (columns : List ℕ) (p : Plan) → AreColumns (map output_of outputs.items) columns → lower.items ≡ map (new_column columns) members.items
    → ((q : Plan) → AreInPlace (ls ++ layer.Project outputs ∷ []) mid q q) → (all others : List Layer) → all ≡ ls ++ layer.AllDifferent members ∷ [] → others ≡ mid ++ layer.AllDifferent lower ∷ [] → AreInPlace (all ++ layer.Project outputs ∷ []) others p p
rises_over_test ls mid members lower outputs columns p are is place all others from made =
    rises ls mid (layer.AllDifferent members) (layer.AllDifferent lower) (layer.Project outputs) p
    (λ well.
    subst (λ (cs : List ℕ). IsRewritten (plan.all_different (plan.project p (map output_of outputs.items)) members.items) (plan.project (plan.all_different p cs) (map output_of outputs.items))) (sym is)
    (up_from_different p (map output_of outputs.items) columns are members.items well)) place all others from made
