-- What assignments, expressions and the rows of MATCH and UNWIND name is in the graph where what a row names is.
use Rattle.std.specs.FinMap.Entries as entries
use Rattle.std.proofs.Common.{◌≡◌, ℕ, ◌<◌, ◌≤◌, zero, suc, Bool, true, false, cond, List, [], ◌∷◌, ◌++◌, map, filter, length, get_or, refl, ap, ◌∙◌, arith}
use Rattle.std.specs.Prelude.{is_some, IsSome, Option, Some, None, zip, Result, Ok, Err, IfOk}
use Rattle.std.specs.List.{All, AllByRecursion, list_any}
use Rattle.std.specs.Cmp.{Equal-is, IsTotalOrder}
use Rattle.std.specs.declared.cmp.Ordering.{Ordering}
use Rattle.std.specs.Ordering.{eq_by_cmp, is_eq, nat_cmp}
use Rattle.std.proofs.lemmas.Bool.{false≢true, or_left, or_right}
use Rattle.std.proofs.lemmas.Cmp.{tied_itself}
use Rattle.std.proofs.lemmas.List.Elements.{All-from_recursion}
use Rattle.std.proofs.lemmas.Map.Lookups.{exact_unsigned}
use Rattle.cy_values.specs.declared.numbers.NodeId.{NodeId}
use Rattle.cy_values.specs.declared.numbers.RelId.{RelId}
use Rattle.cy_values.specs.declared.scalars.Value.{Value}
use Rattle.cy_values.specs.declared.scalars.Value.TheVariants as value
use Rattle.cy_values.specs.declared.rows.Cell.{Cell}
use Rattle.cy_values.specs.declared.rows.Cell.TheVariants as cell
use Rattle.cy_values.proofs.Lists.{each_append, each_filter}
use Rattle.cy_trees.specs.Trees.{Expression, variable, property, has_labels, unary, binary, comparison, list, case, call, Path}
use Rattle.cy_graph.specs.Graph.{Content, IsGraph, State, node_order, number_end, rel_order, node_in, relationship_in}
use Rattle.cy_graph.specs.declared.nodes.Rel.{Rel}
use Rattle.cy_scope_kinds.specs.Functions.{function_named}
use Rattle.cy_expr.specs.declared.faults.EvalFault.{EvalFault}
use Rattle.cy_expr.specs.Choice.{choice}
use Rattle.cy_expr.specs.Evaluation.{as_cell, call_value, cell_of, cells_of, chain, column_value, outcome_of_else, outcomes_of, outcomes_of_arms, property_exists, values_of}
use Rattle.cy_expr.specs.Faults.{on_one, on_two}
use Rattle.cy_expr.specs.Lists.{list_of}
use Rattle.cy_expr.specs.Logic.{value_of}
use Rattle.cy_expr.specs.Lookups.{IsNumbered, labels_test, property_value}
use Rattle.cy_expr.specs.Operators.{binary_value, unary_value, value_in_cell}
use Rattle.cy_oneshot_patterns.specs.Fits.{extended, fits, is_new}
use Rattle.cy_oneshot_patterns.specs.Matching.{assigned, elements_of, fitting, unwound, with_nulls}
use Rattle.cy_oneshot_patterns.specs.Places.{Place, node, relationship, relationships, assignments, candidates, lists_up_to, places}
use Rattle.cy_expr.specs.Graphs.{lookups}
use Rattle.cy_oneshot_meaning.specs.Reading.{IsInGraph}
use Rattle.cy_oneshot_meaning.proofs.KeyOrders.{nodes_total, rels_total}
use Rattle.cy_oneshot_meaning.proofs.Each.{each_flat_map, each_made, each_map, if_ok_any}

-- ---- candidates

-- what holds of all that a list has holds of each of its elements
from_members : {A : Type 0} (same : A → A → Bool) (itself : (x : A) → same x x ≡ true) (P : A → Type 0) (xs : List A) → ((x : A) → list_any (same x) xs ≡ true → P x) → AllByRecursion P xs
from_members same itself P [] step = tt
from_members same itself P (x ∷ xs) step =
    (step x (or_left (same x x) (list_any (same x) xs) (itself x)), from_members same itself P xs (λ y h. step y (or_right (same y x) (list_any (same y) xs) h)))

module _ {K X : Type 0} (R : K → K → Ordering) (total : IsTotalOrder R) where
  pub each_key_found : (es : List (K × X)) → AllByRecursion (λ k. IsSome (entries.find R k es)) (map (λ e. e.0) es)
  each_key_found es =
      from_members (eq_by_cmp R) (λ k. ap is_eq (tied_itself total k)) (λ k. IsSome (entries.find R k es)) (map (λ e. e.0) es)
      (λ k h. entries.is_some-find R k es ∙ h)

each_list : {A : Type 0} (P : A → Type 0) (most : ℕ) (xs : List A) → AllByRecursion P xs → AllByRecursion (λ l. AllByRecursion P l) (lists_up_to most xs)
each_list P zero xs each = (tt, tt)
each_list P (suc most) xs each = (
  tt,
  each_flat_map P (λ l. AllByRecursion P l) (λ x. map (λ others. x ∷ others) (lists_up_to most xs))
      (λ x here. each_map (λ l. AllByRecursion P l) (λ l. AllByRecursion P l) (λ others. x ∷ others) (λ l rest. (here, rest)) (lists_up_to most xs) (each_list P most xs each)) xs each,
)

pub each_key : {K X C : Type 0} (P : K → Type 0) (Q : C → Type 0) (f : K → C) → ((k : K) → P k → Q (f k)) → (es : List (K × X)) → AllByRecursion P (map (λ e. e.0) es)
    → AllByRecursion Q (map (λ e. f e.0) es)
each_key P Q f step [] each = tt
each_key P Q f step (e ∷ es) each = (step e.0 each.0, each_key P Q f step es each.1)

module _ (graph : Content) where
  abbrev There : Cell → Type 0
  There c = IsInGraph graph c

  abbrev RowThere : List Cell → Type 0
  RowThere row = AllByRecursion (IsInGraph graph) row

  abbrev RowsThere : List (List Cell) → Type 0
  RowsThere rows = AllByRecursion (λ row. AllByRecursion (IsInGraph graph) row) rows

  candidates_there : (place : Place) → RowThere (candidates graph place)
  candidates_there (node n) = each_key (λ (id : NodeId). IsSome (node_in graph id)) There (λ id. cell.Node id) (λ id here. here) graph.nodes (each_key_found node_order nodes_total graph.nodes)
  candidates_there (relationship r) = each_key (λ (id : RelId). IsSome (relationship_in graph id)) There (λ id. cell.Rel id) (λ id here. here) graph.rels (each_key_found rel_order rels_total graph.rels)
  candidates_there (relationships r l) =
      each_map (λ ids. AllByRecursion (λ id. IsSome (relationship_in graph id)) ids) There (λ ids. cell.Rels ids) (λ ids here. here)
      (lists_up_to (length graph.rels) (map (λ (e : RelId × Rel). e.0) graph.rels))
      (each_list (λ id. IsSome (relationship_in graph id)) (length graph.rels) (map (λ (e : RelId × Rel). e.0) graph.rels) (each_key_found rel_order rels_total graph.rels))

  assignments_there : (ps : List Place) → RowsThere (assignments graph ps)
  assignments_there [] = (tt, tt)
  assignments_there (place ∷ ps) =
      each_flat_map There RowThere (λ c. map (λ cs. c ∷ cs) (assignments graph ps))
      (λ c here. each_map RowThere RowThere (λ cs. c ∷ cs) (λ cs rest. (here, rest)) (assignments graph ps) (assignments_there ps)) (candidates graph place) (candidates_there place)

  -- ---- MATCH and UNWIND

  abbrev PairThere : Place × Cell → Type 0
  PairThere p = IsInGraph graph p.1

  zip_there : (ps : List Place) (cs : List Cell) → RowThere cs → AllByRecursion PairThere (zip ps cs)
  zip_there [] cs there = tt
  zip_there (p ∷ ps) [] there = tt
  zip_there (p ∷ ps) (c ∷ cs) there = (there.0, zip_there ps cs there.1)

  extended_there : (row : List Cell) (ps : List (Place × Cell)) → RowThere row → AllByRecursion PairThere ps → RowThere (extended row ps)
  extended_there row [] there each = there
  extended_there row (p ∷ ps) there each =
      extended_there (cond (is_new (length row) p.0) (row ++ p.1 ∷ []) row) ps
      (elim (is_new (length row) p.0) as (λ b. RowThere (cond b (row ++ p.1 ∷ []) row)) [
        | true ↦ each_append There row (p.1 ∷ []) there (each.0, tt)
        | false ↦ there
      ]) each.1

  pub fitting_there : (paths : List Path) (row : List Cell) → RowThere row → RowsThere (fitting graph paths row)
  fitting_there paths row there =
      each_map (λ ps. AllByRecursion PairThere ps) RowThere (extended row) (λ ps each. extended_there row ps there each) (filter (fits graph row) (assigned graph paths))
      (each_filter (λ ps. AllByRecursion PairThere ps) (fits graph row) (assigned graph paths)
      (each_map RowThere (λ ps. AllByRecursion PairThere ps) (λ cells. zip (places paths) cells) (zip_there (places paths)) (assignments graph (places paths)) (assignments_there (places paths))))

  pub nulls_there : (paths : List Path) (row : List Cell) → RowThere row → RowThere (with_nulls paths row)
  nulls_there paths row there =
      extended_there row (map (λ place. (place, cell.Value value.Null)) (places paths)) there
      (each_made PairThere (λ (place : Place). (place, cell.Value value.Null)) (λ place. tt) (places paths))

  pub unwound_there : (e : Expression) (row : List Cell) → RowThere row → IfOk (unwound graph e row) RowsThere
  unwound_there e row there =
      if_ok_any RowsThere (λ values. Ok (map (λ v. row ++ cell.Value v ∷ []) values))
      (λ values. each_made RowThere (λ (v : Value). row ++ cell.Value v ∷ []) (λ v. each_append There row (cell.Value v ∷ []) there (tt, tt)) values)
      (on_one elements_of (on_one value_in_cell (cell_of (lookups graph) row e)))

  -- ---- expressions

  pub value_there : (o : Result Value EvalFault) → IfOk (as_cell o) There
  value_there (Ok v) = tt
  value_there (Err fault) = tt

  at_there : (row : List Cell) (n : ℕ) → RowThere row → There (get_or row n (cell.Value value.Null))
  at_there [] n there = tt
  at_there (c ∷ row) zero there = there.0
  at_there (c ∷ row) (suc n) there = at_there row n there.1

  column_there : (column : Option ℕ) (row : List Cell) → RowThere row → There (column_value column row)
  column_there None row there = tt
  column_there (Some n) row there = at_there row n there

  pub cell_there : (row : List Cell) → RowThere row → (e : Expression) → IfOk (cell_of (lookups graph) row e) There
  cell_there row there (variable v) = column_there v.column row there
  cell_there row there (property e key) = value_there (on_one (property_value (lookups graph) key) (cell_of (lookups graph) row e))
  cell_there row there (has_labels e labels) = value_there (on_one (labels_test (lookups graph) labels) (cell_of (lookups graph) row e))
  cell_there row there (unary operator e) = value_there (on_one (unary_value operator) (cell_of (lookups graph) row e))
  cell_there row there (binary operator a b) =
      value_there (on_two (binary_value operator) (on_one value_in_cell (cell_of (lookups graph) row a)) (on_one value_in_cell (cell_of (lookups graph) row b)))
  cell_there row there (comparison e links) =
      value_there (on_one (λ a. Ok (value_of a)) (on_one (λ c. chain (lookups graph) row c links) (cell_of (lookups graph) row e)))
  cell_there row there (list es) = value_there (on_one list_of (values_of (lookups graph) row es))
  cell_there row there (case arms e) = value_there (choice (outcomes_of_arms (lookups graph) row arms) (outcome_of_else (lookups graph) row e))
  cell_there row there (call name distinct es) =
      value_there (call_value (lookups graph) (function_named name) (cells_of (lookups graph) row es) (outcomes_of (lookups graph) row es) (property_exists (lookups graph) row es))
  cell_there row there _ = tt

-- ---- numbers

-- a key that is found is below what all keys are below
below : {K X : Type 0} (number : K → ℕ) (next : ℕ) (q : K) (es : List (K × X)) → AllByRecursion (λ (e : K × X). (1 ≤ number e.0) × (number e.0 < next)) es
    → is_some (entries.find (λ m n. nat_cmp (number m) (number n)) q es) ≡ true → number q < next
below number next q [] each found = absurd (false≢true found)
below {K} {X} number next q (e ∷ es) each found =
    elim (is_eq (nat_cmp (number q) (number e.0))) as (λ b. is_eq (nat_cmp (number q) (number e.0)) ≡ b
    → is_some (cond b (Some e.1) (entries.find (λ (m n : K). nat_cmp (number m) (number n)) q es)) ≡ true → number q < next) [
      | true ↦ λ h rest. let same : number q ≡ number e.0 = exact_unsigned (number q) (number e.0) ((Equal-is (nat_cmp (number q) (number e.0))).0 h) in
          let less : number e.0 < next = each.0.1 in
          omega (arith, same, less)
      | false ↦ λ h rest. below number next q es each.1 rest
    ] refl found

module _ (state : State) (is : IsGraph state) where
  cell_numbered : (c : Cell) → IsInGraph state.content c → IsNumbered c
  cell_numbered (cell.Node id) there =
      let less : id.0 < state.next_node = below (λ (n : NodeId). n.0) state.next_node id state.content.nodes is.numbered there in
      let most : state.next_node ≤ number_end = is.node_range.1 in
      omega (arith, less, most)
  cell_numbered (cell.Rel id) there =
      let less : id.0 < state.next_rel = below (λ (r : RelId). r.0) state.next_rel id state.content.rels is.rels_numbered there in
      let most : state.next_rel ≤ number_end = is.rel_range.1 in
      omega (arith, less, most)
  cell_numbered (cell.Rels ids) there = tt
  cell_numbered (cell.Value v) there = tt

  each_numbered : (row : List Cell) → AllByRecursion (IsInGraph state.content) row → AllByRecursion IsNumbered row
  each_numbered [] there = tt
  each_numbered (c ∷ row) there = (cell_numbered c there.0, each_numbered row there.1)

  pub row_numbered : (row : List Cell) → AllByRecursion (IsInGraph state.content) row → All IsNumbered row
  row_numbered row there = All-from_recursion IsNumbered row (each_numbered row there)
