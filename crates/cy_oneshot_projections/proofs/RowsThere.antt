-- What rows that are made of others name is in the graph.
use Rattle.std.proofs.Common.{◌≡◌, ℕ, Bool, true, false, List, [], ◌++◌, filter, map, take, sym, ap, subst, ◌∙◌}
use Rattle.std.specs.Prelude.{Option, None, Result, Ok, Err, IfOk}
use Rattle.std.specs.List.{AllByRecursion}
use Rattle.std.specs.Ordering.{eq_by_cmp}
use Rattle.cy_values.specs.declared.rows.Cell.{Cell}
use Rattle.cy_values.specs.Order.{row_cmp}
use Rattle.cy_values.proofs.Lists.{each_append, each_filter}
use Rattle.cy_trees.specs.Trees.{Expression, Item}
use Rattle.cy_graph.specs.Graph.{Content}
use Rattle.cy_expr.specs.declared.faults.EvalFault.{EvalFault}
use Rattle.cy_expr.specs.Evaluation.{cell_of}
use Rattle.cy_expr.specs.Graphs.{lookups}
use Rattle.cy_oneshot_meaning.specs.Groups.{Grouped, aggregated, rows_of_group}
use Rattle.cy_oneshot_meaning.specs.Order.{each_once, in_order}
use Rattle.cy_oneshot_patterns.specs.Outcomes.{gathered}
use Rattle.cy_oneshot_meaning.specs.Reading.{AreInGraph, IsInGraph}
use Rattle.cy_oneshot_meaning.specs.internal.Answers.{IsAnswer, sifted}
use Rattle.cy_oneshot_projections.specs.internal.Grouping.{AreGroupsOf, Gathering, grouped_by}
use Rattle.cy_oneshot_meaning.specs.internal.Seen.{cells_by, key_by, seen_by}
use Rattle.cy_oneshot_meaning.specs.internal.Permuted.{Alike, IsAlikeAnswer}
use Rattle.cy_oneshot_meaning.proofs.Each.{each_gathered, each_in_order, each_made, each_map, each_of_once, each_take, if_ok_any, if_ok_then}
use Rattle.cy_oneshot_meaning.proofs.EachValue.{each_value}
use Rattle.cy_oneshot_meaning.proofs.InGraphLemmas.{cell_there}
use Rattle.cy_oneshot_meaning.proofs.InGraphClauses.{aggregated_there}
use Rattle.cy_oneshot_meaning.proofs.SeenRows.{each_permuted}
use Rattle.cy_oneshot_projections.proofs.Sifted.{sifted_values}

module _ (graph : Content) where
  abbrev There : Cell → Type 0
  There c = IsInGraph graph c

  abbrev RowThere : List Cell → Type 0
  RowThere row = AllByRecursion (IsInGraph graph) row

  -- ---- items on rows

  cells_there : (es : List Expression) (row : List Cell) → RowThere row → IfOk (cells_by graph es row) RowThere
  cells_there es row there =
      each_gathered There (map (λ e. cell_of (lookups graph) row e) es)
      (each_made (λ o. IfOk o There) (λ (e : Expression). cell_of (lookups graph) row e) (λ e. cell_there graph row there e) es)

  seen_there : (es : List Expression) (row : List Cell) → RowThere row → IfOk (seen_by graph es row) RowThere
  seen_there es row there =
      if_ok_then RowThere RowThere (λ cells. Ok (cells ++ row)) (λ cells here. each_append There cells row here there) (cells_by graph es row) (cells_there es row there)

  rows_seen_there : (es : List Expression) (rows seen : List (List Cell)) → AreInGraph graph rows → gathered (map (seen_by graph es) rows) ≡ Ok seen → AreInGraph graph seen
  rows_seen_there es rows seen there are =
      subst (λ (o : Result (List (List Cell)) EvalFault). IfOk o (AreInGraph graph)) are
      (each_gathered RowThere (map (seen_by graph es) rows) (each_map RowThere (λ o. IfOk o RowThere) (seen_by graph es) (seen_there es) rows there))

  pub seen_answer_there : {A : Type 0} (view : A → List (List Cell)) (es : List Expression) (rows : List (List Cell)) (r : Result A EvalFault) → AreInGraph graph rows
      → IsAnswer r view (gathered (map (seen_by graph es) rows)) → IfOk r (λ x. AreInGraph graph (view x))
  seen_answer_there view es rows (Ok x) there is = rows_seen_there es rows (view x) there is
  seen_answer_there view es rows (Err fault) there is = tt

  -- ---- groups

  abbrev GroupedThere : Grouped → Type 0
  GroupedThere g = AllByRecursion (IsInGraph graph) g.row

  abbrev pub GroupThere : Gathering → Type 0
  GroupThere g = AreInGraph graph g.rows

  one_grouped_there : (es others : List Expression) (row : List Cell) → RowThere row → IfOk (grouped_by graph es others row) GroupedThere
  one_grouped_there es others row there = if_ok_any GroupedThere (λ key. Ok (record { key = key; row = row })) (λ key. there) (key_by graph es others row)

  pub grouped_there : (es others : List Expression) (rows : List (List Cell)) (gs : List Grouped) (fault : Option EvalFault)
      → sifted [] None (map (grouped_by graph es others) rows) ≡ (gs, fault) → AreInGraph graph rows → AllByRecursion GroupedThere gs
  grouped_there es others rows gs fault are there =
      subst (λ (l : List Grouped). AllByRecursion GroupedThere l)
      (sym (sifted_values [] None (map (grouped_by graph es others) rows)) ∙ ap (λ (p : List Grouped × Option EvalFault). p.0) are)
      (each_value GroupedThere (map (grouped_by graph es others) rows) (each_map RowThere (λ o. IfOk o GroupedThere) (grouped_by graph es others) (one_grouped_there es others) rows there))

  rows_of_there : (key : List Cell) (gs : List Grouped) → AllByRecursion GroupedThere gs → AreInGraph graph (rows_of_group key gs)
  rows_of_there key gs there =
      each_map GroupedThere RowThere (λ (g : Grouped). g.row) (λ g here. here) (filter (λ g. eq_by_cmp row_cmp key g.key) gs)
      (each_filter GroupedThere (λ (g : Grouped). eq_by_cmp row_cmp key g.key) gs there)

  pub groups_there : (without_keys : Bool) (gs : List Grouped) (groups : List Gathering) → AreGroupsOf without_keys gs groups → AllByRecursion GroupedThere gs
      → AllByRecursion GroupThere groups
  groups_there true gs groups are there =
      subst (λ (l : List Gathering). AllByRecursion GroupThere l) (sym are) (each_map GroupedThere RowThere (λ (g : Grouped). g.row) (λ g here. here) gs there, tt)
  groups_there false gs groups are there =
      subst (λ (l : List Gathering). AllByRecursion GroupThere l) (sym are)
      (each_made GroupThere (λ key. record { key = key; rows = rows_of_group key gs }) (λ key. rows_of_there key gs there) (each_once row_cmp (map (λ (g : Grouped). g.key) gs)))

  -- what groups make, in whatever order
  from_alike : (made : List (List Cell)) (o : Result (List (List Cell)) EvalFault) → Alike (Ok made) o → IfOk o (AreInGraph graph) → AreInGraph graph made
  from_alike made (Ok rows) alike there = each_permuted RowThere alike there
  from_alike made (Err fault) alike there = absurd alike

  groups_made_there : (items : List Item) (rows made : List (List Cell)) → AreInGraph graph rows → Alike (Ok made) (aggregated graph items rows) → AreInGraph graph made
  groups_made_there items rows made there alike = from_alike made (aggregated graph items rows) alike (aggregated_there graph items rows there)

  pub groups_answer_there : {A : Type 0} (view : A → List (List Cell)) (items : List Item) (rows : List (List Cell)) (r : Result A EvalFault) → AreInGraph graph rows
      → IsAlikeAnswer r view (aggregated graph items rows) → IfOk r (λ x. AreInGraph graph (view x))
  groups_answer_there view items rows (Ok x) there is = groups_made_there items rows (view x) there is
  groups_answer_there view items rows (Err fault) there is = tt

  -- ---- DISTINCT

  pub once_there : (width : ℕ) (seen : List (List Cell)) → AreInGraph graph seen → AreInGraph graph (in_order row_cmp (each_once row_cmp (map (take width) seen)))
  once_there width seen there =
      each_in_order RowThere row_cmp (each_once row_cmp (map (take width) seen))
      (each_of_once RowThere row_cmp (map (take width) seen) (each_map RowThere RowThere (take width) (λ row here. each_take There width row here) seen there))
