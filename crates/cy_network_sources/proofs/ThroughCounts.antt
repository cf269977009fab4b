-- How often the rows of a scan count, and how that changes where entities do.
use Rattle.std.proofs.Common.{◌≡◌, ℕ, Bool, true, false, cond, List, [], ◌∷◌, ◌++◌, Option, None, Some, refl, sym, ap, subst, ◌∙◌, filter, nat_eq, arith}
use Rattle.std.specs.Prelude.{flat_map}
use Rattle.std.specs.List.{All, AllByRecursion, IsDistinct}
use Rattle.std.specs.Map.{lookup, keys_of}
use Rattle.std.specs.Option.{option_map_or}
use Rattle.std.specs.declared.cmp.Ordering.{Ordering}
use Rattle.std.specs.Ordering.{eq_by_cmp, nat_cmp}
use Rattle.std.specs.FinMap.Entries as entries
use Rattle.std.proofs.lemmas.Bool.Decides.{nat_tests}
use Rattle.std.proofs.lemmas.List.{append-nil}
use Rattle.std.proofs.lemmas.List.Elements.{All-from_recursion}
use Rattle.std.proofs.lemmas.Bool.{eqb-true}
use Rattle.cy_values.specs.declared.numbers.NodeId.{NodeId}
use Rattle.cy_values.specs.declared.numbers.RelId.{RelId}
use Rattle.cy_values.specs.declared.scalars.Value.{Value}
use Rattle.cy_values.specs.declared.rows.Cell.{Cell}
use Rattle.cy_values.specs.declared.rows.Cell.TheVariants as cell
use Rattle.cy_values.specs.Bag.{count_of}
use Rattle.cy_values.proofs.Booleans.{itself_equal}
use Rattle.cy_trees.specs.Trees.{Name}
use Rattle.cy_graph.specs.declared.nodes.Node.{Node}
use Rattle.cy_graph.specs.declared.nodes.Rel.{Rel}
use Rattle.cy_graph.specs.Graph.{IsGraph, State, node_at, rel_at}
use Rattle.cy_expr.specs.Graphs.{has_type}
use Rattle.cy_planner_algebra.specs.declared.operators.Attribute.{Attribute}
use Rattle.cy_planner_algebra.specs.declared.operators.Orientation.{Orientation}
use Rattle.cy_planner_algebra.specs.declared.operators.Orientation.TheVariants.{Directed, Either}
use Rattle.cy_planner_algebra.specs.Expressions.{cell_at}
use Rattle.cy_planner_algebra.specs.Meaning.{attribute_of, backwards, forwards, is_loop, rows_of, ways}
use Rattle.cy_planner_algebra.specs.Plans as plan
use Rattle.cy_planner_algebra.specs.Plans.{Plan}
use Rattle.cy_planner_algebra.specs.Sure.{IsSure}
use Rattle.cy_planner_algebra.proofs.Numbers.{numbered_rows}
use Rattle.cy_network_memory.specs.declared.memory.RowDelta.{RowDelta}
use Rattle.cy_network_operators.specs.Deltas.{IsDelta, counts, row_delta_between, deltas_of}
use Rattle.cy_network_sources.specs.Changes.{IsChange, IsImage, Touches}
use Rattle.cy_network_sources.specs.Scans.{scan_column, scan_parts}
use Rattle.cy_network_sources.specs.Attributes.{node_attribute, rel_attribute}
use Rattle.cy_network_sources.specs.internal.Rows.{node_rows, rel_rows}
use Rattle.cy_network_sources.specs.internal.Through.{AreFit, IsNodeFit, IsRelFit, leaf_of, node_made, recounted, rel_made}
use Rattle.cy_network_sources.proofs.Keys.{found_alike, own_entries, rising_once, same_by_order}
use Rattle.cy_network_sources.proofs.LookupLemmas.{at_node, at_rel}
use Rattle.cy_network_sources.proofs.ScanDeltas.{node_rows_of, node_under, rel_under}
use Rattle.cy_network_sources.proofs.ScanLemmas.{Scan, count_at, count_scan}
use Rattle.cy_network_sources.proofs.Owners.{none_between, owns, none_counted}
use Rattle.cy_network_sources.proofs.Through.{each_found, each_weaker, fit_entities, holds_found, named, rows_by_entity}

-- ---- how a row's count changes, where the entities change by which are touched

kept_made : {X : Type 0} (h : X → List RowDelta) (p : X → Bool) → ((x : X) → p x ≡ false → h x ≡ []) → (xs : List X) → flat_map h xs ≡ flat_map h (filter p xs)
kept_made h p none [] = refl
kept_made h p none (x ∷ xs) = ap (λ rest. h x ++ rest) (kept_made h p none xs) ∙ step (p x) refl
  where
    step : (b : Bool) → p x ≡ b → h x ++ flat_map h (filter p xs) ≡ flat_map h (cond b (x ∷ filter p xs) (filter p xs))
    step true is = refl
    step false is = ap (λ made. made ++ flat_map h (filter p xs)) (none x is)

module _ {V : Type 0} (scan : Scan V) where
  pub recounted_all : (before now : ℕ → Option V) (touched : List (ℕ × Option V)) → IsDistinct nat_eq (keys_of touched)
      → ((n : ℕ) → IsImage (before n) (now n) (lookup (nat_eq n) touched)) → (row : List Cell)
      → flat_map (λ e. recounted (scan.rows e.0 e.1) (scan.rows e.0 (now e.0)) row) touched
      ≡ row_delta_between row (count_at scan.rows before row (scan.owner row)) (count_at scan.rows now row (scan.owner row))
  recounted_all before now touched once images row =
      kept_made changed (λ e. owns (scan.owner row) e.0) none touched ∙ by (scan.owner row) refl
    where
      changed : ℕ × Option V → List RowDelta
      changed e = recounted (scan.rows e.0 e.1) (scan.rows e.0 (now e.0)) row

      none : (e : ℕ × Option V) → owns (scan.owner row) e.0 ≡ false → changed e ≡ []
      none e h = none_between row _ _ (scan.apart row e.0 e.1 h ∙ sym (scan.apart row e.0 (now e.0) h))

      by : (o : Option ℕ) → scan.owner row ≡ o → flat_map changed (filter (λ e. owns o e.0) touched)
          ≡ row_delta_between row (count_at scan.rows before row o) (count_at scan.rows now row o)
      by None is = ap (flat_map changed) (none_kept touched)
        where
          none_kept : (xs : List (ℕ × Option V)) → filter (λ e. false) xs ≡ []
          none_kept [] = refl
          none_kept (x ∷ xs) = none_kept xs
      by (Some q) is = ap (flat_map changed) (own_entries nat_eq eqb-true q touched once) ∙ one (lookup (nat_eq q) touched) (images q)
        where
          one : (o : Option (Option V)) → IsImage (before q) (now q) o → flat_map changed (option_map_or (λ v. (q, v) ∷ []) o [])
              ≡ row_delta_between row (count_of row (scan.rows q (before q))) (count_of row (scan.rows q (now q)))
          one None same = sym (none_between row _ _ (ap (λ (v : Option V). count_of row (scan.rows q v)) same))
          one (Some was) image = append-nil (changed (q, was)) ∙ ap (λ (v : Option V). recounted (scan.rows q v) (scan.rows q (now q)) row) image.0

-- a touched entity has in the first graph the value that is kept of it
pub images_are : {V : Type 0} (before now : ℕ → Option V) (touched : List (ℕ × Option V)) → IsDistinct nat_eq (keys_of touched)
    → ((n : ℕ) → IsImage (before n) (now n) (lookup (nat_eq n) touched)) → AllByRecursion (λ e. e.1 ≡ before e.0) touched
images_are {V} before now touched once images =
    each_weaker (λ e. lookup (nat_eq e.0) touched ≡ Some e.1) (λ e. e.1 ≡ before e.0) was touched (each_found nat_eq itself_equal turned touched once)
  where
    turned : (m n : ℕ) → nat_eq m n ≡ nat_eq n m
    turned m n = grind (arith, nat_tests)

    was : (e : ℕ × Option V) → lookup (nat_eq e.0) touched ≡ Some e.1 → e.1 ≡ before e.0
    was e found = (subst (IsImage (before e.0) (now e.0)) found (images e.0)).0

-- ---- which entity a row names

-- the number of the node in a cell, and that of the relationship
abbrev pub node_number : Cell → Option ℕ
node_number (cell.Node id) = Some id.0
node_number (cell.Rel id) = None
node_number (cell.Rels ids) = None
node_number (cell.Value v) = None

abbrev pub rel_number : Cell → Option ℕ
rel_number (cell.Node id) = None
rel_number (cell.Rel id) = Some id.0
rel_number (cell.Rels ids) = None
rel_number (cell.Value v) = None

-- entries of a graph, each under its number
module _ {K V : Type 0} (number : K → ℕ) (key : ℕ → K) (back : (k : K) → key (number k) ≡ k) (es : List (K × V))
    (rising : entries.is_sorted (λ x y. nat_cmp (number x) (number y)) es ≡ true) where
  abbrev order : K → K → Ordering
  order x y = nat_cmp (number x) (number y)

  itself : (k : K) → eq_by_cmp order k k ≡ true
  itself k = same_by_order (number k) (number k) ∙ itself_equal (number k)

  turned : (j k : K) → eq_by_cmp order j k ≡ eq_by_cmp order k j
  turned j k = same_by_order (number j) (number k) ∙ other_way (number j) (number k) ∙ sym (same_by_order (number k) (number j))
    where
      other_way : (m n : ℕ) → nat_eq m n ≡ nat_eq n m
      other_way m n = grind (arith, nat_tests)

  same : (j k : K) → eq_by_cmp order j k ≡ true → j ≡ k
  same j k is = sym (back j) ∙ ap key (eqb-true (number j) (number k) (sym (same_by_order (number j) (number k)) ∙ is)) ∙ back k

  -- each is found
  pub each_there : AllByRecursion (λ e. entries.find order e.0 es ≡ Some e.1) es
  each_there =
      each_weaker (λ e. lookup (eq_by_cmp order e.0) es ≡ Some e.1) (λ e. entries.find order e.0 es ≡ Some e.1)
      (λ e found. sym (found_alike order e.0 es) ∙ found) es (each_found (eq_by_cmp order) itself turned es (rising_once order es rising))

  pub holds_there : (P : K × V → Type 0) (k : K) (v : V) → AllByRecursion P es → entries.find order k es ≡ Some v → P (k, v)
  holds_there P k v each found = holds_found (eq_by_cmp order) same P k v es each (found_alike order k es ∙ found)

-- ---- scans of nodes

abbrev own_node : NodeId × Node → Cell
own_node e = cell.Node e.0

abbrev node_values : NodeId × Node → Attribute → Value
node_values e attribute = node_attribute attribute (Some e.1)

abbrev node_leaf : NodeId × Node → List (List Cell)
node_leaf e = node_rows e.0.0 (Some e.1)

node_first : (e : NodeId × Node) → AllByRecursion (λ row. cell_at row 0 ≡ own_node e) (node_leaf e)
node_first e = (refl, tt)

node_known : (state : State) → IsGraph state → AllByRecursion (λ e. (a : Attribute) → attribute_of state.content a (own_node e) ≡ node_values e a) state.content.nodes
node_known state is =
    each_weaker (λ (e : NodeId × Node). node_at e.0 state ≡ Some e.1) (λ e. (a : Attribute) → attribute_of state.content a (own_node e) ≡ node_values e a)
    (λ e found a. at_node state a e.0 ∙ ap (node_attribute a) found) state.content.nodes
    (each_there (λ (k : NodeId). k.0) (λ n. record { 0 = n }) (λ k. refl) state.content.nodes is.rising)

module _ (p : Plan) (c : ℕ) (over : leaf_of p ≡ plan.nodes) (column : scan_column p ≡ Some c) where
  pub node_owned : (n : ℕ) (o : Option Node) → AllByRecursion (λ row. node_number (cell_at row c) ≡ Some n) (node_made (scan_parts p) n o)
  node_owned n None = tt
  node_owned n (Some node) =
      each_weaker (λ row. cell_at row c ≡ cell.Node (record { 0 = n })) (λ row. node_number (cell_at row c) ≡ Some n) (λ row at. ap node_number at) (node_made (scan_parts p) n (Some node))
      (named own_node node_values node_leaf (λ e. refl) node_first p c column (record { 0 = n }, node))

  -- the rows of a node
  abbrev pub node_rows_in : Scan Node
  node_rows_in = record {
    rows = node_made (scan_parts p);
    owner = λ row. node_number (cell_at row c);
    none = λ n. refl;
    apart = λ row n o. none_counted (λ r. node_number (cell_at r c)) row n (node_made (scan_parts p) n o)
        (All-from_recursion (λ r. node_number (cell_at r c) ≡ Some n) (node_made (scan_parts p) n o) (node_owned n o));
  }

  -- the rows of a scan are those of its nodes
  pub node_scan_rows : (state : State) → IsGraph state → rows_of state.content p ≡ flat_map (λ (e : NodeId × Node). node_made (scan_parts p) e.0.0 (Some e.1)) state.content.nodes
  node_scan_rows state is =
      rows_by_entity own_node node_values node_leaf (λ e. refl) node_first state.content state.content.nodes plan.nodes (node_known state is) (node_rows_of state.content.nodes) p c over column

  pub node_scan_count : (state : State) → IsGraph state → (row : List Cell)
      → count_of row (rows_of state.content p) ≡ count_at (node_made (scan_parts p)) (node_under state) row (node_number (cell_at row c))
  node_scan_count state is row =
      ap (count_of row) (node_scan_rows state is)
      ∙ count_scan node_rows_in (λ (k : NodeId). k.0) (λ n. record { 0 = n }) (λ k. refl) (λ n. refl) row state.content.nodes is.rising

  pub node_fit : (state : State) → IsGraph state → IsSure p → (n : ℕ) → IsNodeFit (scan_parts p) n (node_under state n)
  node_fit state is sure n = by (node_under state n) refl
    where
      by : (o : Option Node) → node_under state n ≡ o → IsNodeFit (scan_parts p) n o
      by None none = tt
      by (Some node) found =
          holds_there (λ (k : NodeId). k.0) (λ n. record { 0 = n }) (λ k. refl) state.content.nodes is.rising (λ e. AreFit (node_values e) (scan_parts p) (node_leaf e)) (record { 0 = n }) node
          (fit_entities own_node node_values node_leaf (λ e. refl) node_first state.content state.content.nodes plan.nodes (node_known state is) (node_rows_of state.content.nodes)
          (λ q. numbered_rows state is q) p c over column (sure state is)) found

  module _ (before now : State) (touches : Touches) (change : IsChange before now touches) where
    pub node_scan_delta : (deltas : List RowDelta)
        → ((row : List Cell) → deltas_of row deltas ≡ flat_map (λ e. recounted (node_made (scan_parts p) e.0 e.1) (node_made (scan_parts p) e.0 (node_under now e.0)) row) touches.nodes)
        → IsDelta (counts (rows_of before.content p)) (counts (rows_of now.content p)) deltas
    node_scan_delta deltas is = record {
      each = λ row.
          is row
          ∙ recounted_all node_rows_in (node_under before) (node_under now) touches.nodes change.nodes_once (λ n. change.nodes (record { 0 = n })) row
          ∙ sym (ap (λ k. row_delta_between row k (count_of row (rows_of now.content p))) (node_scan_count before change.graph_before row)
          ∙ ap (λ k. row_delta_between row (count_at (node_made (scan_parts p)) (node_under before) row (node_number (cell_at row c))) k) (node_scan_count now change.graph_now row));
    }

    pub node_fits : IsSure p → All (λ e. IsNodeFit (scan_parts p) e.0 e.1 × IsNodeFit (scan_parts p) e.0 (node_under now e.0)) touches.nodes
    node_fits sure =
        All-from_recursion (λ e. IsNodeFit (scan_parts p) e.0 e.1 × IsNodeFit (scan_parts p) e.0 (node_under now e.0)) touches.nodes
        (each_weaker (λ e. e.1 ≡ node_under before e.0) (λ e. IsNodeFit (scan_parts p) e.0 e.1 × IsNodeFit (scan_parts p) e.0 (node_under now e.0))
        (λ e was. (subst (IsNodeFit (scan_parts p) e.0) (sym was) (node_fit before change.graph_before sure e.0), node_fit now change.graph_now sure e.0)) touches.nodes
        (images_are (node_under before) (node_under now) touches.nodes change.nodes_once (λ n. change.nodes (record { 0 = n }))))

-- ---- scans of relationships

module _ (types : List Name) (orientation : Orientation) where
  abbrev own_rel : RelId × Rel → Cell
  own_rel e = cell.Rel e.0

  abbrev rel_values : RelId × Rel → Attribute → Value
  rel_values e attribute = rel_attribute attribute (Some e.1)

  abbrev rel_leaf : RelId × Rel → List (List Cell)
  rel_leaf e = rel_rows types orientation e.0.0 (Some e.1)

  ways_first : (o : Orientation) (e : RelId × Rel) → AllByRecursion (λ row. cell_at row 0 ≡ own_rel e) (ways o e)
  ways_first Directed e = (refl, tt)
  ways_first Either e =
      elim (is_loop e.1) as (λ b. AllByRecursion (λ row. cell_at row 0 ≡ own_rel e) (cond b (forwards e ∷ []) (forwards e ∷ backwards e ∷ []))) [
        | true ↦ (refl, tt)
        | false ↦ (refl, (refl, tt))
      ]

  rel_first : (e : RelId × Rel) → AllByRecursion (λ row. cell_at row 0 ≡ own_rel e) (rel_leaf e)
  rel_first e =
      elim (has_type types e.1) as (λ b. AllByRecursion (λ row. cell_at row 0 ≡ own_rel e) (cond b (ways orientation e) [])) [
        | true ↦ ways_first orientation e
        | false ↦ tt
      ]

  rel_known : (state : State) → IsGraph state → AllByRecursion (λ e. (a : Attribute) → attribute_of state.content a (own_rel e) ≡ rel_values e a) state.content.rels
  rel_known state is =
      each_weaker (λ (e : RelId × Rel). rel_at e.0 state ≡ Some e.1) (λ e. (a : Attribute) → attribute_of state.content a (own_rel e) ≡ rel_values e a)
      (λ e found a. at_rel state a e.0 ∙ ap (rel_attribute a) found) state.content.rels
      (each_there (λ (k : RelId). k.0) (λ n. record { 0 = n }) (λ k. refl) state.content.rels is.rels_rising)

  module _ (p : Plan) (c : ℕ) (over : leaf_of p ≡ plan.rels types orientation) (column : scan_column p ≡ Some c) where
    pub rel_owned : (n : ℕ) (o : Option Rel) → AllByRecursion (λ row. rel_number (cell_at row c) ≡ Some n) (rel_made types orientation (scan_parts p) n o)
    rel_owned n None = tt
    rel_owned n (Some rel) =
        each_weaker (λ row. cell_at row c ≡ cell.Rel (record { 0 = n })) (λ row. rel_number (cell_at row c) ≡ Some n) (λ row at. ap rel_number at) (rel_made types orientation (scan_parts p) n (Some rel))
        (named own_rel rel_values rel_leaf (λ e. refl) rel_first p c column (record { 0 = n }, rel))

    -- the rows of a relationship
    abbrev pub rel_rows_in : Scan Rel
    rel_rows_in = record {
      rows = rel_made types orientation (scan_parts p);
      owner = λ row. rel_number (cell_at row c);
      none = λ n. refl;
      apart = λ row n o. none_counted (λ r. rel_number (cell_at r c)) row n (rel_made types orientation (scan_parts p) n o)
          (All-from_recursion (λ r. rel_number (cell_at r c) ≡ Some n) (rel_made types orientation (scan_parts p) n o) (rel_owned n o));
    }

    -- or of its relationships
    pub rel_scan_rows : (state : State) → IsGraph state → rows_of state.content p ≡ flat_map (λ (e : RelId × Rel). rel_made types orientation (scan_parts p) e.0.0 (Some e.1)) state.content.rels
    rel_scan_rows state is =
        rows_by_entity own_rel rel_values rel_leaf (λ e. refl) rel_first state.content state.content.rels (plan.rels types orientation) (rel_known state is) refl p c over column

    pub rel_scan_count : (state : State) → IsGraph state → (row : List Cell)
        → count_of row (rows_of state.content p) ≡ count_at (rel_made types orientation (scan_parts p)) (rel_under state) row (rel_number (cell_at row c))
    rel_scan_count state is row =
        ap (count_of row) (rel_scan_rows state is)
        ∙ count_scan rel_rows_in (λ (k : RelId). k.0) (λ n. record { 0 = n }) (λ k. refl) (λ n. refl) row state.content.rels is.rels_rising

    pub rel_fit : (state : State) → IsGraph state → IsSure p → (n : ℕ) → IsRelFit types orientation (scan_parts p) n (rel_under state n)
    rel_fit state is sure n = by (rel_under state n) refl
      where
        by : (o : Option Rel) → rel_under state n ≡ o → IsRelFit types orientation (scan_parts p) n o
        by None none = tt
        by (Some rel) found =
            holds_there (λ (k : RelId). k.0) (λ n. record { 0 = n }) (λ k. refl) state.content.rels is.rels_rising (λ e. AreFit (rel_values e) (scan_parts p) (rel_leaf e)) (record { 0 = n }) rel
            (fit_entities own_rel rel_values rel_leaf (λ e. refl) rel_first state.content state.content.rels (plan.rels types orientation) (rel_known state is) refl
            (λ q. numbered_rows state is q) p c over column (sure state is)) found

    module _ (before now : State) (touches : Touches) (change : IsChange before now touches) where
      pub rel_scan_delta : (deltas : List RowDelta)
          → ((row : List Cell) → deltas_of row deltas
          ≡ flat_map (λ e. recounted (rel_made types orientation (scan_parts p) e.0 e.1) (rel_made types orientation (scan_parts p) e.0 (rel_under now e.0)) row) touches.rels)
          → IsDelta (counts (rows_of before.content p)) (counts (rows_of now.content p)) deltas
      rel_scan_delta deltas is = record {
        each = λ row.
            is row
            ∙ recounted_all rel_rows_in (rel_under before) (rel_under now) touches.rels change.rels_once (λ n. change.rels (record { 0 = n })) row
            ∙ sym (ap (λ k. row_delta_between row k (count_of row (rows_of now.content p))) (rel_scan_count before change.graph_before row)
            ∙ ap (λ k. row_delta_between row (count_at (rel_made types orientation (scan_parts p)) (rel_under before) row (rel_number (cell_at row c))) k) (rel_scan_count now change.graph_now row));
      }

      pub rel_fits : IsSure p → All (λ e. IsRelFit types orientation (scan_parts p) e.0 e.1 × IsRelFit types orientation (scan_parts p) e.0 (rel_under now e.0)) touches.rels
      rel_fits sure =
          All-from_recursion (λ e. IsRelFit types orientation (scan_parts p) e.0 e.1 × IsRelFit types orientation (scan_parts p) e.0 (rel_under now e.0)) touches.rels
          (each_weaker (λ e. e.1 ≡ rel_under before e.0) (λ e. IsRelFit types orientation (scan_parts p) e.0 e.1 × IsRelFit types orientation (scan_parts p) e.0 (rel_under now e.0))
          (λ e was. (subst (IsRelFit types orientation (scan_parts p) e.0) (sym was) (rel_fit before change.graph_before sure e.0), rel_fit now change.graph_now sure e.0)) touches.rels
          (images_are (rel_under before) (rel_under now) touches.rels change.rels_once (λ n. change.rels (record { 0 = n }))))
