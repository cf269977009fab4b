-- What the groups of rows make is the aggregation of the rows.
use Rattle.std.proofs.Common.{◌≡◌, cond, List, [], ◌∷◌, filter, map, refl, sym, ap, subst, ◌∙◌}
use Rattle.std.specs.Prelude.{Option, Some, None, Result, Ok, Err, IfOk}
use Rattle.std.specs.List.{AllByRecursion}
use Rattle.std.specs.Ordering.{eq_by_cmp}
use Rattle.std.proofs.lemmas.Simd.{map-map}
use Rattle.cy_values.specs.declared.rows.Cell.{Cell}
use Rattle.cy_values.specs.Order.{row_cmp}
use Rattle.cy_trees.specs.Trees.{Expression, Item}
use Rattle.cy_graph.specs.Graph.{Content}
use Rattle.cy_expr.specs.declared.faults.EvalFault.{EvalFault}
use Rattle.cy_oneshot_meaning.specs.Groups.{Grouped, aggregated, arguments, arguments_on, group_cells, group_keys, group_rows, grouped, grouping, looked_at_with, rows_of_group, values_among}
use Rattle.cy_oneshot_meaning.specs.Order.{each_once}
use Rattle.cy_oneshot_patterns.specs.Outcomes.{and_also, gathered, smaller}
use Rattle.cy_oneshot_meaning.specs.internal.Answers.{outcome_of, sifted, with_fault}
use Rattle.cy_oneshot_projections.specs.internal.Grouping.{AreGroups, Gathering, grouped_by, with_key}
use Rattle.cy_oneshot_meaning.specs.internal.Permuted.{Alike}
use Rattle.cy_oneshot_meaning.proofs.Each.{each_made}
use Rattle.cy_oneshot_meaning.proofs.EachValue.{each_value}
use Rattle.cy_oneshot_meaning.proofs.Joined.{alike_itself}
use Rattle.cy_oneshot_meaning.proofs.SeenRows.{cells_are, expressions}
use Rattle.cy_oneshot_projections.proofs.Sifted.{and_also_is, sifted_gathered, sifted_values}

module _ (graph : Content) (items : List Item) where
  -- the row of a group
  abbrev pub row_of : Gathering → Result (List Cell) EvalFault
  row_of g = gathered (group_cells graph items g.key g.rows)

  grouped_are : (rows : List (List Cell)) → map (grouped graph items) rows ≡ map (grouped_by graph (expressions (grouping items)) (arguments items)) rows
  grouped_are rows = λ i. map (λ row. with_key row (looked_at_with (cells_are graph (grouping items) row i) (arguments_on graph items row))) rows

  alike_with : {A : Type 0} (fault : Option EvalFault) (o q : Result (List A) EvalFault) → Alike o q → Alike (with_fault fault o) (with_fault fault q)
  alike_with None o q p = p
  alike_with (Some f) (Ok xs) (Ok ys) p = refl
  alike_with (Some f) (Err g) (Err h) p = ap (smaller f) p
  alike_with (Some f) (Ok xs) (Err h) p = absurd p
  alike_with (Some f) (Err g) (Ok ys) p = absurd p

  -- a fault of a grouping item, and what the groups make
  pub aggregated_is : (rows : List (List Cell)) (gs : List Grouped) (fault : Option EvalFault) (made : Result (List (List Cell)) EvalFault)
      → sifted [] None (map (grouped_by graph (expressions (grouping items)) (arguments items)) rows) ≡ (gs, fault) → Alike made (group_rows graph items gs)
      → Alike (with_fault fault made) (aggregated graph items rows)
  aggregated_is rows gs fault made are alike =
      let os : List (Result Grouped EvalFault) = map (grouped graph items) rows in
      let sifts : sifted [] None os ≡ (gs, fault) = ap (sifted [] None) (grouped_are rows) ∙ are in
      let values : values_among os ≡ gs = sym (sifted_values [] None os) ∙ ap (λ (p : List Grouped × Option EvalFault). p.0) sifts in
      let outcome : gathered os ≡ outcome_of gs fault = sifted_gathered os ∙ ap (λ (p : List Grouped × Option EvalFault). outcome_of p.0 p.1) sifts in
      subst (λ (o : Result (List (List Cell)) EvalFault). Alike (with_fault fault made) o)
      (sym ((λ i. and_also (outcome i) (group_rows graph items (values i))) ∙ and_also_is gs fault (group_rows graph items gs)))
      (alike_with fault made (group_rows graph items gs) alike)

  -- ---- no grouping items: one group

  all_rows : (gs : List Grouped) → AllByRecursion (λ g. g.key ≡ []) gs → rows_of_group [] gs ≡ map (λ g. g.row) gs
  all_rows [] each = refl
  all_rows (g ∷ gs) each =
      ap (λ k. map (λ (r : Grouped). r.row) (cond (eq_by_cmp row_cmp [] k) (g ∷ filter (λ (r : Grouped). eq_by_cmp row_cmp [] r.key) gs) (filter (λ (r : Grouped). eq_by_cmp row_cmp [] r.key) gs))) each.0
      ∙ ap (λ l. g.row ∷ l) (all_rows gs each.1)

  no_keys : (es others : List Expression) → es ≡ [] → (rows : List (List Cell)) (gs : List Grouped) (fault : Option EvalFault) → sifted [] None (map (grouped_by graph es others) rows) ≡ (gs, fault)
      → AllByRecursion (λ g. g.key ≡ []) gs
  no_keys es others none rows gs fault are =
      subst (λ (l : List Grouped). AllByRecursion (λ g. g.key ≡ []) l)
      (sym (ap (λ (p : List Grouped × Option EvalFault). p.0) (sym are) ∙ ap (λ (l : List Expression). (sifted [] None (map (grouped_by graph l others) rows)).0) none
      ∙ sifted_values [] None (map (grouped_by graph [] others) rows)))
      (each_value (λ g. g.key ≡ []) (map (grouped_by graph [] others) rows) (each_made (λ o. IfOk o (λ (g : Grouped). g.key ≡ [])) (grouped_by graph [] others) (λ row. refl) rows))

  pub one_is : grouping items ≡ [] → (gs : List Grouped) → AllByRecursion (λ g. g.key ≡ []) gs
      → gathered (map row_of ((record { key = []; rows = map (λ g. g.row) gs }) ∷ [])) ≡ group_rows graph items gs
  one_is none gs each =
      ap (λ (rows : List (List Cell)). gathered (gathered (group_cells graph items [] rows) ∷ [])) (sym (all_rows gs each))
      ∙ ap (λ (keys : List (List Cell)). gathered (map (λ key. gathered (group_cells graph items key (rows_of_group key gs))) keys)) (ap (λ (is : List Item). group_keys is gs) (sym none))

  pub one_alike : grouping items ≡ [] → (rows : List (List Cell)) (gs : List Grouped) (fault : Option EvalFault) → sifted [] None (map (grouped_by graph (expressions (grouping items)) (arguments items)) rows) ≡ (gs, fault)
      → Alike (gathered (map row_of ((record { key = []; rows = map (λ g. g.row) gs }) ∷ []))) (group_rows graph items gs)
  one_alike none rows gs fault are =
      subst (λ (o : Result (List (List Cell)) EvalFault). Alike o (group_rows graph items gs)) (sym (one_is none gs (no_keys (expressions (grouping items)) (arguments items) (ap expressions none) rows gs fault are)))
      (alike_itself (group_rows graph items gs))

  -- ---- groups by their keys

  keys_by : (is : List Item) → (is ≡ [] → ⊥) → (gs : List Grouped) → group_keys is gs ≡ each_once row_cmp (map (λ g. g.key) gs)
  keys_by [] some gs = absurd (some refl)
  keys_by (i ∷ is) some gs = refl

  pub many_alike : (grouping items ≡ [] → ⊥) → (gs : List Grouped) (groups : List Gathering) → AreGroups gs groups → Alike (gathered (map row_of groups)) (group_rows graph items gs)
  many_alike some gs groups are =
      let made : gathered (map row_of groups) ≡ group_rows graph items gs =
      ap (λ (l : List Gathering). gathered (map row_of l)) are
      ∙ ap gathered (map-map row_of (λ key. record { key = key; rows = rows_of_group key gs }) (each_once row_cmp (map (λ (g : Grouped). g.key) gs)))
      ∙ ap (λ (keys : List (List Cell)). gathered (map (λ key. gathered (group_cells graph items key (rows_of_group key gs))) keys)) (sym (keys_by (grouping items) some gs)) in
      subst (λ (o : Result (List (List Cell)) EvalFault). Alike o (group_rows graph items gs)) (sym made) (alike_itself (group_rows graph items gs))
