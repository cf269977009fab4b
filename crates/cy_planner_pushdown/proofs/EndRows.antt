-- A condition on the node at an end of relationships, put on the table of nodes, which is joined to them.
use Rattle.std.proofs.Common.{◌≡◌, ℕ, zero, suc, ◌+◌, ◌-◌, ◌<◌, ◌≤◌, Bool, true, false, cond, ◌&&◌, List, [], ◌∷◌, ◌++◌, map, filter, take, refl, sym, ap, subst, ◌∙◌, arith, inl}
use Rattle.std.specs.Prelude.{◌==◌, IsSome, Option, Some, None, flat_map, is_some, not, slice_get}
use Rattle.std.specs.FinMap.Entries as entries
use Rattle.std.specs.List.{All, AllByRecursion, IsDistinct, list_any}
use Rattle.std.specs.Cmp.{Equal-is, IsTotalOrder, tied_itself}
use Rattle.std.specs.declared.cmp.Ordering.{Ordering}
use Rattle.std.specs.declared.cmp.Ordering.TheVariants.{Less, Equal, Greater}
use Rattle.std.specs.Option.{option_map_or}
use Rattle.std.specs.Ordering.{eq_by_cmp, is_eq, is_lt}
use Rattle.std.proofs.lemmas.Bool.{and_parts, false≢true, lt-ltb}
use Rattle.std.proofs.lemmas.Cmp.{nat_cmp_total, on_total}
use Rattle.std.proofs.lemmas.List.Elements.{All-append, All-cons, All-filter, All-map, All-nil, All-weaker}
use Rattle.std.proofs.Math.Seq.{take-append_seam}
use Rattle.cy_values.specs.declared.numbers.NodeId.{NodeId}
use Rattle.cy_values.specs.declared.numbers.RelId.{RelId}
use Rattle.cy_values.specs.declared.rows.Cell.{Cell}
use Rattle.cy_values.specs.declared.rows.Cell.TheVariants as cell
use Rattle.cy_values.specs.Bag.{count_of}
use Rattle.cy_values.specs.Order.{cell_order, row_cmp}
use Rattle.cy_values.proofs.Identity.{same_cells}
use Rattle.cy_values.proofs.Booleans.{and_true}
use Rattle.cy_values.proofs.Lists.{filters_swap}
use Rattle.cy_trees.specs.Trees.{Expression, Name}
use Rattle.cy_scope_kinds.specs.declared.kinds.Kind.TheVariants as kind
use Rattle.cy_graph.specs.Graph.{Content, IsGraph, State, node_at, node_in, node_order}
use Rattle.cy_graph.specs.declared.nodes.Node.{Node}
use Rattle.cy_graph.specs.declared.nodes.Rel.{Rel}
use Rattle.cy_expr.specs.Comparison.{is_null_cell}
use Rattle.cy_expr.specs.Graphs.{has_type}
use Rattle.cy_planner_algebra.specs.declared.operators.KeyColumns.{KeyColumns}
use Rattle.cy_planner_algebra.specs.declared.operators.Orientation.{Orientation}
use Rattle.cy_planner_algebra.specs.declared.operators.Orientation.TheVariants.{Directed, Either}
use Rattle.cy_planner_algebra.specs.Plans as plan
use Rattle.cy_planner_algebra.specs.Plans.{Plan, width}
use Rattle.cy_planner_algebra.specs.Expressions.{cell_at, projected}
use Rattle.cy_planner_algebra.specs.Keys.{meet}
use Rattle.cy_planner_algebra.specs.Meaning.{backwards, forwards, is_loop, paired, rows_of, rows_of_rel, ways, with_attribute}
use Rattle.cy_planner_algebra.specs.Parts.{parts}
use Rattle.cy_planner_algebra.specs.Sure.{IsSureOn}
use Rattle.cy_planner_algebra.specs.WellFormed.{IsKeyBetween, IsWellFormed, greatest_width}
use Rattle.cy_planner_algebra.specs.Within.{IsWithin}
use Rattle.cy_planner_algebra.proofs.Counts.{count_cons, count_passing, identity, same}
use Rattle.cy_planner_algebra.proofs.Widths.{all_made, wide_rows}
use Rattle.cy_planner_algebra.proofs.Pairs.{first_and}
use Rattle.cy_planner_rows.specs.internal.Lookups.{narrowed}
use Rattle.cy_planner_rows.proofs.Lists.{all_of_each, each_of_all}
use Rattle.cy_planner_rows.proofs.OverRows.{IsLong, cond_less, own_part, parts_narrowed, rows_narrowed, smaller_within, sure_narrowed, width_narrowed}
use Rattle.cy_planner_pushdown.specs.internal.Conditions.{cells_at}
use Rattle.cy_planner_pushdown.specs.internal.Ends.{IsEnd}
use Rattle.cy_planner_pushdown.specs.internal.Pushed.{AreDistinct, CanBePushed, IsSifted, kind_at, kind_made, kind_of_rels}
use Rattle.cy_planner_pushdown.proofs.Conjunctions.{all_anything, anything}
use Rattle.cy_planner_pushdown.proofs.ColumnKinds.{each_paired, inside, taken_over}
use Rattle.cy_planner_pushdown.proofs.SameKinds.{kinds_narrowed}

-- ---- the kind of what stands at an end

pub end_kind : (p : Plan) (column : ℕ) → IsWellFormed p → IsEnd p column → kind_at p column ≡ Some kind.Node
end_kind plan.unit column good end = absurd end
end_kind plan.nodes column good end = absurd end
end_kind (plan.rels types orientation) column good end = end
end_kind (plan.join left right keys) column good end =
    let here : kind_at left column ≡ Some kind.Node = end_kind left column good.0 end in
    ap (λ b. cond b (kind_at left column) (kind_at right (column - width left))) (lt-ltb column (width left) (inside left column kind.Node good.0 here)) ∙ here
end_kind (plan.outer left right keys test) column good end = absurd end
end_kind (plan.semi left right keys keeping) column good end = end_kind left column good.0 end
end_kind (plan.lookup p other attribute) column good end =
    let here : kind_at p column ≡ Some kind.Node = end_kind p column good.0 end in
    ap (λ b. cond b (kind_at p column) (cond (column == width p) (Some kind.Value) None)) (lt-ltb column (width p) (inside p column kind.Node good.0 here)) ∙ here
end_kind (plan.filter p test) column good end = end_kind p column good.0 end
end_kind (plan.all_different p columns) column good end = end_kind p column good.0 end
end_kind (plan.project p outputs) column good end =
    ap (λ (o : Option ℕ). option_map_or (kind_at p) o (kind_made (slice_get outputs column))) end.1 ∙ end_kind p end.0 good.0 end.2
end_kind (plan.distinct p) column good end = absurd end
end_kind (plan.union left right) column good end = absurd end

-- so the condition can be put on the table of nodes
first_alone : AreDistinct (0 ∷ [])
unfolding IsDistinct
first_alone = (tt, tt)

pub can_nodes : (p : Plan) (column : ℕ) (test : Expression) → IsWellFormed p → IsEnd p column → CanBePushed p (column ∷ []) test → CanBePushed plan.nodes (0 ∷ []) test
can_nodes p column test good end can = (can.0, ((λ i. sym (end_kind p column good end) i ∷ []) ∙ can.1.0, first_alone), can.2)

-- ---- the nodes that stand at the ends

-- the cell in the column is a node of the graph
abbrev IsNodeAt : Content → ℕ → List Cell → Type 0
IsNodeAt graph column row = (id : NodeId) × (cell_at row column ≡ cell.Node id) × (is_some (node_in graph id) ≡ true)

longer_row : (row more : List Cell) (column : ℕ) (id : NodeId) → cell_at row column ≡ cell.Node id → cell_at (row ++ more) column ≡ cell.Node id
longer_row [] more column id is = cc
longer_row (c ∷ row) more zero id is = is
longer_row (c ∷ row) more (suc column) id is = longer_row row more column id is

module _ (state : State) (is : IsGraph state) where
  abbrev At : ℕ → List Cell → Type 0
  At = IsNodeAt state.content

  abbrev HasEnds : RelId × Rel → Type 0
  HasEnds r = IsSome (node_at r.1.source state) × IsSome (node_at r.1.target state)

  forwards_at : (column : ℕ) → kind_of_rels column ≡ Some kind.Node → (r : RelId × Rel) → HasEnds r → At column (forwards r)
  forwards_at zero end r ends = cc
  forwards_at (suc zero) end r ends = (r.1.source, refl, ends.0)
  forwards_at (suc (suc zero)) end r ends = (r.1.target, refl, ends.1)
  forwards_at (suc (suc (suc zero))) end r ends = cc
  forwards_at (suc (suc (suc (suc n)))) end r ends = cc

  backwards_at : (column : ℕ) → kind_of_rels column ≡ Some kind.Node → (r : RelId × Rel) → HasEnds r → At column (backwards r)
  backwards_at zero end r ends = cc
  backwards_at (suc zero) end r ends = (r.1.target, refl, ends.1)
  backwards_at (suc (suc zero)) end r ends = (r.1.source, refl, ends.0)
  backwards_at (suc (suc (suc zero))) end r ends = cc
  backwards_at (suc (suc (suc (suc n)))) end r ends = cc

  ways_at : (orientation : Orientation) (column : ℕ) → kind_of_rels column ≡ Some kind.Node → (r : RelId × Rel) → HasEnds r → All (At column) (ways orientation r)
  ways_at Directed column end r ends = All-cons (At column) (forwards r) [] (forwards_at column end r ends) (All-nil (At column))
  ways_at Either column end r ends =
      elim (is_loop r.1) as (λ b. All (At column) (cond b (forwards r ∷ []) (forwards r ∷ backwards r ∷ []))) [
        | true ↦ All-cons (At column) (forwards r) [] (forwards_at column end r ends) (All-nil (At column))
        | false ↦ All-cons (At column) (forwards r) (backwards r ∷ []) (forwards_at column end r ends) (All-cons (At column) (backwards r) [] (backwards_at column end r ends) (All-nil (At column)))
      ]

  rel_at_ends : (types : List Name) (orientation : Orientation) (column : ℕ) → kind_of_rels column ≡ Some kind.Node → (r : RelId × Rel) → HasEnds r → All (At column) (rows_of_rel types orientation r)
  rel_at_ends types orientation column end r ends =
      elim (has_type types r.1) as (λ b. All (At column) (cond b (ways orientation r) [])) [
        | true ↦ ways_at orientation column end r ends
        | false ↦ All-nil (At column)
      ]

  pub ends_at : (p : Plan) (column : ℕ) → IsEnd p column → All (At column) (rows_of state.content p)
  ends_at plan.unit column end = absurd end
  ends_at plan.nodes column end = absurd end
  ends_at (plan.rels types orientation) column end =
      all_made HasEnds (At column) (rows_of_rel types orientation) (rel_at_ends types orientation column end) state.content.rels (all_of_each HasEnds state.content.rels is.ends)
  ends_at (plan.join left right keys) column end =
      all_of_each (At column) (rows_of state.content (plan.join left right keys))
      (each_paired (At column) anything (At column) (λ l. filter (meet keys l) (rows_of state.content right)) (λ l. all_anything (filter (meet keys l) (rows_of state.content right)))
      (λ l r at any. (at.0, longer_row l r column at.0 at.1, at.2)) (rows_of state.content left) (each_of_all (At column) (rows_of state.content left) (ends_at left column end)))
  ends_at (plan.outer left right keys test) column end = absurd end
  ends_at (plan.semi left right keys keeping) column end = All-filter _ (At column) (rows_of state.content left) (ends_at left column end)
  ends_at (plan.lookup p other attribute) column end =
      All-map (At column) (with_attribute state.content other attribute) (rows_of state.content p)
      (All-weaker (At column) (λ row. At column (with_attribute state.content other attribute row)) (λ row at. (at.0, longer_row row _ column at.0 at.1, at.2)) (rows_of state.content p) (ends_at p column end))
  ends_at (plan.filter p test) column end = All-filter _ (At column) (rows_of state.content p) (ends_at p column end)
  ends_at (plan.all_different p columns) column end = All-filter _ (At column) (rows_of state.content p) (ends_at p column end)
  ends_at (plan.project p outputs) column end =
      All-map (At column) (projected outputs) (rows_of state.content p)
      (All-weaker (At end.0) (λ row. At column (projected outputs row)) (λ row at. (at.0, taken_over outputs column end.0 end.1 row ∙ at.1, at.2)) (rows_of state.content p) (ends_at p end.0 end.2))
  ends_at (plan.distinct p) column end = absurd end
  ends_at (plan.union left right) column end = absurd end

-- ---- the row of a node in the table of nodes

nodes_total : IsTotalOrder node_order
nodes_total = on_total (λ (n : NodeId). n.0) nat_cmp_total

abbrev unnode : NodeId → Cell → NodeId
unnode d (cell.Node n) = n
unnode d _ = d

nodes_exact : (q k : NodeId) → node_order q k ≡ Equal → q ≡ k
nodes_exact q k is = ap (unnode q) (same_cells (cell.Node q) (cell.Node k) is)

abbrev node_row : NodeId × Node → List Cell
node_row e = cell.Node e.0 ∷ []

not_equal : (o : Ordering) → is_lt o ≡ true → is_eq o ≡ false
not_equal Less h = refl
not_equal Equal h = cc
not_equal Greater h = cc

same_node : (id n : NodeId) → same (cell.Node id ∷ []) (cell.Node n ∷ []) ≡ eq_by_cmp node_order id n
same_node id n = first_and (cell_order (cell.Node id) (cell.Node n)) (row_cmp [] []) ∙ and_true (eq_by_cmp node_order id n)

-- of nodes whose numbers rise, those that a test lets pass which knows one number
module _ (id : NodeId) (q : List Cell → Bool) (knows : (e : NodeId × Node) → q (node_row e) ≡ eq_by_cmp node_order id e.0) where
  passed : (e : NodeId × Node) (es : List (NodeId × Node)) (b : Bool) → eq_by_cmp node_order id e.0 ≡ b
      → filter q (map node_row (e ∷ es)) ≡ cond b (node_row e ∷ filter q (map node_row es)) (filter q (map node_row es))
  passed e es b here = ap (λ a. cond a (node_row e ∷ filter q (map node_row es)) (filter q (map node_row es))) (knows e ∙ here)

  none_pass : (k : NodeId) (es : List (NodeId × Node)) → node_order id k ≡ Equal → entries.below_all node_order k es ≡ true → filter q (map node_row es) ≡ []
  none_pass k [] tied below = refl
  none_pass k (e ∷ es) tied below =
      let split = and_parts (is_lt (node_order k e.0)) (entries.below_all node_order k es) below in
      passed e es false (ap is_eq (nodes_total.congr id k e.0 tied) ∙ not_equal (node_order k e.0) split.0) ∙ none_pass k es tied split.1

  one_passes : (es : List (NodeId × Node)) → entries.is_sorted node_order es ≡ true → is_some (entries.find node_order id es) ≡ true → filter q (map node_row es) ≡ (cell.Node id ∷ []) ∷ []
  one_passes [] sorted there = absurd (false≢true there)
  one_passes (e ∷ es) sorted there =
      let split = and_parts (entries.below_all node_order e.0 es) (entries.is_sorted node_order es) sorted in
      elim (eq_by_cmp node_order id e.0) as (λ b. eq_by_cmp node_order id e.0 ≡ b → is_some (cond b (Some e.1) (entries.find node_order id es)) ≡ true
      → filter q (map node_row (e ∷ es)) ≡ (cell.Node id ∷ []) ∷ []) [
        | true ↦ λ here rest.
            let tied : node_order id e.0 ≡ Equal = (Equal-is (node_order id e.0)).0 here in
            passed e es true here ∙ (λ i. node_row e ∷ none_pass e.0 es tied split.0 i) ∙ ap (λ (n : NodeId). (cell.Node n ∷ []) ∷ []) (sym (nodes_exact id e.0 tied))
        | false ↦ λ here rest. passed e es false here ∙ one_passes es split.1 rest
      ] refl there

-- each node stands once in the table
none_counted : (x : List Cell) (k : NodeId × Node) (es : List (NodeId × Node)) → x ≡ node_row k → entries.below_all node_order k.0 es ≡ true → count_of x (map node_row es) ≡ 0
none_counted x k [] is below = refl
none_counted x k (e ∷ es) is below =
    let split = and_parts (is_lt (node_order k.0 e.0)) (entries.below_all node_order k.0 es) below in
    let other : same x (node_row e) ≡ false = ap (λ r. same r (node_row e)) is ∙ same_node k.0 e.0 ∙ not_equal (node_order k.0 e.0) split.0 in
    count_cons x (node_row e) (map node_row es) ∙ ap (λ b. cond {A = ℕ} b 1 0 + count_of x (map node_row es)) other
    ∙ (let e : 0 + count_of x (map node_row es) ≡ count_of x (map node_row es) = omega arith in e) ∙ none_counted x k es is split.1

counted_once : (x : List Cell) (es : List (NodeId × Node)) → entries.is_sorted node_order es ≡ true → count_of x (map node_row es) ≤ 1
counted_once x [] sorted = omega arith
counted_once x (e ∷ es) sorted =
    let split = and_parts (entries.below_all node_order e.0 es) (entries.is_sorted node_order es) sorted in
    let rest = counted_once x es split.1 in
    subst (λ n. n ≤ 1) (sym (count_cons x (node_row e) (map node_row es)))
    (elim (same x (node_row e)) as (λ b. same x (node_row e) ≡ b → cond {A = ℕ} b 1 0 + count_of x (map node_row es) ≤ 1) [
      | true ↦ λ is. let none = none_counted x e es (identity x (node_row e) is) split.0 in omega (arith, none)
      | false ↦ λ is. omega (arith, rest)
    ] refl)

-- ---- what is left of the nodes, joined to the relationships

abbrev end_key : ℕ → KeyColumns
end_key column = record { left = column; right = 0 }

pub keys_between : (below : Plan) (column : ℕ) (passes : Content → List Cell → Bool) → IsWellFormed below → IsEnd below column → (table : Plan) → IsSifted plan.nodes passes table
    → All (IsKeyBetween (width below) (width table)) (end_key column ∷ [])
keys_between below column passes well end table pushed =
    let wide : width table ≡ 1 = pushed.as_wide in
    All-cons (IsKeyBetween (width below) (width table)) (end_key column) [] (inside below column kind.Node well (end_kind below column well end), omega (arith, wide)) (All-nil (IsKeyBetween (width below) (width table)))

-- which cells pass
module _ (below : Plan) (column : ℕ) (passes : Content → List Cell → Bool) (well : IsWellFormed below) (end : IsEnd below column) (nodes : Plan) (nodes_well : IsWellFormed nodes)
    (pushed : IsSifted plan.nodes (λ graph row. passes graph (cells_at (0 ∷ []) row)) nodes) (room : width below + 1 ≤ greatest_width) where
  abbrev keys : List KeyColumns
  keys = end_key column ∷ []

  abbrev join : Plan
  join = plan.join below nodes keys

  abbrev made : Plan
  made = narrowed (width below) join

  join_well : IsWellFormed join
  join_well = let wide : width nodes ≡ 1 = pushed.as_wide in (well, nodes_well, keys_between below column (λ graph row. passes graph (cells_at (0 ∷ []) row)) well end nodes pushed, omega (arith, wide, room))

  module _ (total : IsTotalOrder row_cmp) (state : State) (is : IsGraph state) where
    abbrev rows : List (List Cell)
    rows = rows_of state.content below

    abbrev keep : List Cell → Bool
    keep row = passes state.content (cells_at (column ∷ []) row)

    abbrev keep_node : List Cell → Bool
    keep_node row = passes state.content (cells_at (0 ∷ []) row)

    abbrev extended : List Cell → List Cell
    extended row = row ++ cell_at row column ∷ []

    meets_node : (row : List Cell) (id : NodeId) → cell_at row column ≡ cell.Node id → (e : NodeId × Node) → meet keys row (node_row e) ≡ eq_by_cmp node_order id e.0
    meets_node row id at e =
        ap (λ (c : Cell). same (c ∷ []) (node_row e) && not (list_any is_null_cell (c ∷ []))) at
        ∙ and_true (same (cell.Node id ∷ []) (node_row e)) ∙ same_node id e.0

    partners : (row : List Cell) → IsNodeAt state.content column row
        → filter (meet keys row) (rows_of state.content nodes) ≡ cond (keep row) ((cell_at row column ∷ []) ∷ []) []
    partners row (id, at, there) =
        ap (filter (meet keys row)) (pushed.rows state is)
        ∙ filters_swap (meet keys row) keep_node (map node_row state.content.nodes)
        ∙ ap (filter keep_node) (one_passes id (meet keys row) (meets_node row id at) state.content.nodes is.rising there)
        ∙ ap (λ (c : Cell). cond (passes state.content (c ∷ [])) ((c ∷ []) ∷ []) []) (sym at)

    one_pair : (b : Bool) (row : List Cell) (rest kept : List (List Cell)) → rest ≡ map extended kept
        → paired row (cond b ((cell_at row column ∷ []) ∷ []) []) ++ rest ≡ map extended (cond b (row ∷ kept) kept)
    one_pair true row rest kept same_rest = λ i. extended row ∷ same_rest i
    one_pair false row rest kept same_rest = same_rest

    pairs : (xs : List (List Cell)) → AllByRecursion (IsNodeAt state.content column) xs
        → flat_map (λ l. paired l (filter (meet keys l) (rows_of state.content nodes))) xs ≡ map extended (filter keep xs)
    pairs [] each = refl
    pairs (row ∷ xs) each =
        ap (λ found. paired row found ++ flat_map (λ l. paired l (filter (meet keys l) (rows_of state.content nodes))) xs) (partners row each.0)
        ∙ one_pair (keep row) row (flat_map (λ l. paired l (filter (meet keys l) (rows_of state.content nodes))) xs) (filter keep xs) (pairs xs each.1)

    join_rows : rows_of state.content join ≡ map extended (filter keep rows)
    join_rows = pairs rows (each_of_all (IsNodeAt state.content column) rows (ends_at state is below column end))

    kept_long : AllByRecursion (IsLong (width below)) (filter keep rows)
    kept_long = each_of_all (IsLong (width below)) (filter keep rows) (All-filter keep (IsLong (width below)) rows (wide_rows state.content below well))

    taken_back : (row : List Cell) → IsLong (width below) row → take (width below) (extended row) ≡ row
    taken_back row long = ap (λ n. take n (extended row)) (sym long) ∙ take-append_seam row (cell_at row column ∷ [])

    all_back : (xs : List (List Cell)) → AllByRecursion (IsLong (width below)) xs → map (take (width below)) (map extended xs) ≡ xs
    all_back [] each = refl
    all_back (row ∷ xs) each = λ i. taken_back row each.0 i ∷ all_back xs each.1 i

    made_rows : rows_of state.content made ≡ filter keep rows
    made_rows =
        rows_narrowed state.content (width below) join join_well (omega arith)
        ∙ ap (map (take (width below))) join_rows
        ∙ all_back (filter keep rows) kept_long

    itself : (row : List Cell) → same row row ≡ true
    itself row = ap is_eq (tied_itself total row)

    fewer : (x : List Cell) (xs : List (List Cell)) → AllByRecursion (IsLong (width below)) xs → count_of x (map extended xs) ≤ count_of (take (width below) x) xs
    fewer x [] each = omega arith
    fewer x (row ∷ xs) each =
        let rest = fewer x xs each.1 in
        let first = count_cons x (extended row) (map extended xs) in
        let other = count_cons (take (width below) x) row xs in
        elim (same x (extended row)) as (λ b. same x (extended row) ≡ b → count_of x (map extended (row ∷ xs)) ≤ count_of (take (width below) x) (row ∷ xs)) [
          | true ↦ λ at.
              let back : take (width below) x ≡ row = ap (take (width below)) (identity x (extended row) at) ∙ taken_back row each.0 in
              let there : same (take (width below) x) row ≡ true = ap (λ r. same r row) back ∙ itself row in
              let one = first ∙ ap (λ b. cond {A = ℕ} b 1 0 + count_of x (map extended xs)) at in
              let two = other ∙ ap (λ b. cond {A = ℕ} b 1 0 + count_of (take (width below) x) xs) there in
              omega (arith, one, two, rest)
          | false ↦ λ at.
              let one = first ∙ ap (λ b. cond {A = ℕ} b 1 0 + count_of x (map extended xs)) at in
              let two = at_least (same (take (width below) x) row) (count_of (take (width below) x) xs) in
              omega (arith, one, two, other, rest)
        ] refl
      where
        at_least : (b : Bool) (n : ℕ) → n ≤ cond {A = ℕ} b 1 0 + n
        at_least true n = omega arith
        at_least false n = omega arith

    kept_fewer : (x : List Cell) → count_of x (filter keep rows) ≤ count_of x rows
    kept_fewer x = subst (λ m. m ≤ count_of x rows) (sym (count_passing keep x rows)) (cond_less (keep x) (count_of x rows))

    join_fewer : (x : List Cell) → count_of x (rows_of state.content join) ≤ count_of (take (width below) x) rows
    join_fewer x =
        subst (λ found. count_of x found ≤ count_of (take (width below) x) rows) (sym join_rows)
        (let one = fewer x (filter keep rows) kept_long in let two = kept_fewer (take (width below) x) in omega (arith, one, two))

    made_sure : IsSureOn state.content below → IsSureOn state.content made
    made_sure sure = sure_narrowed state.content (width below) join (sure, pushed.sure state is tt)

    made_bounded : (tables : List (List (List Cell))) → All (IsWithin state.content tables) (parts below) → All (IsWithin state.content tables) (parts made)
    made_bounded tables each =
        let own : IsWithin state.content tables below = own_part (IsWithin state.content tables) below each in
        let few : IsWithin state.content tables plan.nodes = λ x. inl (counted_once x state.content.nodes is.rising) in
        let nodes_each : All (IsWithin state.content tables) (parts nodes) =
        pushed.bounded state tables is (All-cons (IsWithin state.content tables) plan.nodes [] few (All-nil (IsWithin state.content tables))) in
        let within : IsWithin state.content tables join =
        λ x. smaller_within tables (count_of x (rows_of state.content join)) (count_of (take (width below) x) rows) (join_fewer x) (own (take (width below) x)) in
        parts_narrowed state.content tables (width below) join
        (All-cons (IsWithin state.content tables) join (parts below ++ parts nodes) within (All-append (IsWithin state.content tables) (parts below) (parts nodes) each nodes_each))
        (λ x. smaller_within tables (count_of x (rows_of state.content made)) (count_of x rows) (subst (λ found. count_of x found ≤ count_of x rows) (sym made_rows) (kept_fewer x)) (own x))

  same_kinds : (other : ℕ) → other < width below → kind_at join other ≡ kind_at below other
  same_kinds other less = ap (λ b. cond b (kind_at below other) (kind_at nodes (other - width below))) (lt-ltb other (width below) less)

  pub by_nodes : IsTotalOrder row_cmp → IsSifted below (λ graph row. passes graph (cells_at (column ∷ []) row)) made
  by_nodes total = record {
    as_wide = width_narrowed (width below) join;
    kinds = kinds_narrowed below join well join_well same_kinds;
    rows = λ graph is. made_rows total graph is;
    sure = λ graph is. made_sure total graph is;
    bounded = λ graph tables is. made_bounded total graph is tables;
  }
