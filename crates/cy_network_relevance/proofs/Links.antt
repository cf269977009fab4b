-- What stands in the first columns of relationships and of trails.
use Rattle.std.proofs.Common.{◌≡◌, ℕ, ◌==◌, ◌<◌, ◌≤◌, true, false, cond, List, [], ◌∷◌, ◌++◌, Option, None, Some, get_or, map, filter, length, refl, sym, ap, ◌∙◌, inl, inr, arith}
use Rattle.std.specs.FinMap.Entries as entries
use Rattle.std.specs.Prelude.{◌⊎◌, ◌&&◌, ◌||◌, option_map, slice_get}
use Rattle.std.specs.List.{All}
use Rattle.std.specs.Option.{option_map_or}
use Rattle.std.specs.Cmp.{tied_itself}
use Rattle.std.specs.Ordering.{eq_by_cmp, is_eq, is_lt}
use Rattle.std.proofs.lemmas.Bool.{and_parts, cases_lt, false≢true, or_cases, eqb-true}
use Rattle.std.proofs.lemmas.Bool.Decides.{nat_tests}
use Rattle.std.proofs.lemmas.Cmp.{nat_cmp_total}
use Rattle.std.proofs.lemmas.List.{get_or_append_left, get_or_past}
use Rattle.std.proofs.lemmas.List.Elements.{All-append, All-cons, All-filter, All-map, All-nil, All-weaker}
use Rattle.std.proofs.lemmas.Option.{get_or_from_slice_get, slice_get-map}
use Rattle.cy_values.specs.declared.numbers.NodeId.{NodeId}
use Rattle.cy_values.specs.declared.numbers.RelId.{RelId}
use Rattle.cy_values.specs.declared.rows.Cell.{Cell}
use Rattle.cy_values.specs.declared.rows.Cell.TheVariants as cell
use Rattle.cy_values.specs.declared.scalars.Value.TheVariants as value
use Rattle.cy_graph.specs.Graph.{Content, IsGraph, State, rel_order, relationship_in}
use Rattle.cy_graph.specs.declared.nodes.Rel.{Rel}
use Rattle.cy_graph.proofs.Least.{is_below}
use Rattle.cy_trees.specs.Trees.{Name, null, boolean, integer, text, variable, property, has_labels, unary, binary, comparison, list, case, call, call_star}
use Rattle.cy_expr.specs.Evaluation.{column_value}
use Rattle.cy_expr.specs.Graphs.{has_type}
use Rattle.cy_planner_algebra.specs.declared.operators.Orientation.{Orientation}
use Rattle.cy_planner_algebra.specs.declared.operators.Orientation.TheVariants.{Directed, Either}
use Rattle.cy_planner_algebra.specs.Plans as plan
use Rattle.cy_planner_algebra.specs.Plans.{Output, Plan, computed, gathered}
use Rattle.cy_planner_algebra.specs.Expressions as expressions
use Rattle.cy_planner_algebra.specs.Expressions.{cell_at, output_cell, projected, relationships_at}
use Rattle.cy_planner_algebra.specs.Keys.{meet}
use Rattle.cy_planner_algebra.specs.Meaning.{backwards, forwards, is_loop, paired, rows_of, rows_of_rel, ways, with_attribute}
use Rattle.cy_planner_algebra.proofs.Widths.{all_made, all_mapped}
use Rattle.cy_network_relevance.specs.Trails.{has_links, has_lists, is_alone, is_at, is_list, keeps_links}

-- ---- relationships under their numbers

above : (id : RelId) (es : List (RelId × Rel)) → entries.below_all rel_order id es ≡ true → All (λ (e : RelId × Rel). id.0 < e.0.0) es
above id [] below = All-nil (λ (e : RelId × Rel). id.0 < e.0.0)
above id (e ∷ es) below =
    let split = and_parts (is_lt (rel_order id e.0)) (entries.below_all rel_order id es) below in
    All-cons (λ (f : RelId × Rel). id.0 < f.0.0) e es (is_below id e.0 split.0) (above id es split.1)

not_tied : (k m : RelId) → m.0 < k.0 → eq_by_cmp rel_order k m ≡ false
not_tied k m less = grind (arith, nat_tests)

-- each stands under its own
abbrev pub IsThere : List (RelId × Rel) → RelId × Rel → Type 0
IsThere es e = entries.find rel_order e.0 es ≡ Some e.1

pub each_there : (es : List (RelId × Rel)) → entries.is_sorted rel_order es ≡ true → All (IsThere es) es
each_there [] up = All-nil (IsThere [])
each_there (e ∷ es) up =
    let split = and_parts (entries.below_all rel_order e.0 es) (entries.is_sorted rel_order es) up in
    let later = above e.0 es split.0 in
    let rest = each_there es split.1 in
    All-cons (IsThere (e ∷ es)) e es (ap (λ o. cond (is_eq o) (Some e.1) (entries.find rel_order e.0 es)) (tied_itself nat_cmp_total e.0.0))
    (λ k d less. let f = get_or es k d in ap (λ b. cond b (Some e.1) (entries.find rel_order f.0 es)) (not_tied f.0 e.0 (later k d less)) ∙ rest k d less)

-- ---- a relationship and its ends

-- the ends in the second cell and in the third, in one order or the other
abbrev pub HasEnds : Rel → List Cell → Type 0
HasEnds rel row = ((cell_at row 1 ≡ cell.Node rel.source) × (cell_at row 2 ≡ cell.Node rel.target)) ⊎ ((cell_at row 1 ≡ cell.Node rel.target) × (cell_at row 2 ≡ cell.Node rel.source))

-- the first three cells of a row
pub record IsLink (graph : Content) (row : List Cell) : Type 0 where
  pub id : RelId
  pub rel : Rel
  pub there : relationship_in graph id ≡ Some rel
  pub first : cell_at row 0 ≡ cell.Rel id
  pub ends : HasEnds rel row

module _ (graph : Content) (e : RelId × Rel) (there : relationship_in graph e.0 ≡ Some e.1) where
  forth : IsLink graph (forwards e)
  forth = record { id = e.0; rel = e.1; there = there; first = refl; ends = inl (refl, refl) }

  back : IsLink graph (backwards e)
  back = record { id = e.0; rel = e.1; there = there; first = refl; ends = inr (refl, refl) }

  link_ways : (orientation : Orientation) → All (IsLink graph) (ways orientation e)
  link_ways Directed = All-cons (IsLink graph) (forwards e) [] forth (All-nil (IsLink graph))
  link_ways Either =
      elim (is_loop e.1) as (λ b. All (IsLink graph) (cond b (forwards e ∷ []) (forwards e ∷ backwards e ∷ []))) [
        | true ↦ All-cons (IsLink graph) (forwards e) [] forth (All-nil (IsLink graph))
        | false ↦ All-cons (IsLink graph) (forwards e) (backwards e ∷ []) forth (All-cons (IsLink graph) (backwards e) [] back (All-nil (IsLink graph)))
      ]

  link_rel : (types : List Name) (orientation : Orientation) → All (IsLink graph) (rows_of_rel types orientation e)
  link_rel types orientation =
      elim (has_type types e.1) as (λ b. All (IsLink graph) (cond b (ways orientation e) [])) [ true ↦ link_ways orientation | false ↦ All-nil (IsLink graph) ]

-- a relationship and its first end tell the second one
pub second_end : (graph : Content) (row other : List Cell) → IsLink graph row → IsLink graph other → cell_at row 0 ≡ cell_at other 0 → cell_at row 1 ≡ cell_at other 1 → cell_at row 2 ≡ cell_at other 2
second_end graph row other a b same_rel same_end = by a.ends b.ends
  where
    same_id : a.id ≡ b.id
    same_id = let e : cell.Rel a.id ≡ cell.Rel b.id = sym a.first ∙ same_rel ∙ b.first in cc

    found : Some a.rel ≡ Some b.rel
    found = sym a.there ∙ ap (relationship_in graph) same_id ∙ b.there

    same : a.rel ≡ b.rel
    same = let e = found in cc

    by : HasEnds a.rel row → HasEnds b.rel other
        → cell_at row 2 ≡ cell_at other 2
    by (inl p) (inl q) = p.1 ∙ ap (λ r. cell.Node r.target) same ∙ sym q.1
    by (inl p) (inr q) = p.1 ∙ ap (λ r. cell.Node r.target) same ∙ sym q.0 ∙ sym same_end ∙ p.0 ∙ ap (λ r. cell.Node r.source) same ∙ sym q.1
    by (inr p) (inl q) = p.1 ∙ ap (λ r. cell.Node r.source) same ∙ sym q.0 ∙ sym same_end ∙ p.0 ∙ ap (λ r. cell.Node r.target) same ∙ sym q.1
    by (inr p) (inr q) = p.1 ∙ ap (λ r. cell.Node r.source) same ∙ sym q.1

-- ---- rows with more cells, and rows that projections make

-- a cell that isn't null stands within the row
pub within : (row : List Cell) (column : ℕ) (c : Cell) → cell_at row column ≡ c → (c ≡ expressions.null → ⊥) → column < length row
within row column c is some = by (cases_lt column (length row))
  where
    by : (column < length row) ⊎ (length row ≤ column) → column < length row
    by (inl less) = less
    by (inr past) = absurd (some (sym is ∙ get_or_past row column expressions.null past))

pub more_cells : (row more : List Cell) (column : ℕ) (c : Cell) → cell_at row column ≡ c → (c ≡ expressions.null → ⊥) → cell_at (row ++ more) column ≡ c
more_cells row more column c is some = get_or_append_left row more expressions.null column (within row column c is some) ∙ is

pub no_rel : (id : RelId) → cell.Rel id ≡ cell.Value value.Null → ⊥
no_rel id is = cc

pub no_node : (id : NodeId) → cell.Node id ≡ cell.Value value.Null → ⊥
no_node id is = cc

pub no_list : (ids : List RelId) → cell.Rels ids ≡ cell.Value value.Null → ⊥
no_list ids is = cc

longer_link : (graph : Content) (row more : List Cell) → IsLink graph row → IsLink graph (row ++ more)
longer_link graph row more link = record {
  id = link.id;
  rel = link.rel;
  there = link.there;
  first = more_cells row more 0 (cell.Rel link.id) link.first (no_rel link.id);
  ends = by link.ends;
}
  where
    by : HasEnds link.rel row → HasEnds link.rel (row ++ more)
    by (inl p) = inl (more_cells row more 1 (cell.Node link.rel.source) p.0 (no_node link.rel.source), more_cells row more 2 (cell.Node link.rel.target) p.1 (no_node link.rel.target))
    by (inr p) = inr (more_cells row more 1 (cell.Node link.rel.target) p.0 (no_node link.rel.target), more_cells row more 2 (cell.Node link.rel.source) p.1 (no_node link.rel.source))

alone_value : (row : List Cell) (column : ℕ) (found : Option ℕ) → option_map_or (λ other. other == column) found false ≡ true → column_value found row ≡ cell_at row column
alone_value row column None is = absurd (false≢true is)
alone_value row column (Some other) is = ap (cell_at row) (eqb-true other column is)

-- what a column makes that stands alone
pub alone_cell : (row : List Cell) (column : ℕ) (o : Output) → is_alone column o ≡ true → output_cell row o ≡ cell_at row column
alone_cell row column (gathered columns) is = absurd (false≢true is)
alone_cell row column (computed (variable v)) is = alone_value row column v.column is
alone_cell row column (computed null) is = absurd (false≢true is)
alone_cell row column (computed (boolean b)) is = absurd (false≢true is)
alone_cell row column (computed (integer n)) is = absurd (false≢true is)
alone_cell row column (computed (text t)) is = absurd (false≢true is)
alone_cell row column (computed (property e key)) is = absurd (false≢true is)
alone_cell row column (computed (has_labels e labels)) is = absurd (false≢true is)
alone_cell row column (computed (unary operator e)) is = absurd (false≢true is)
alone_cell row column (computed (binary operator a b)) is = absurd (false≢true is)
alone_cell row column (computed (comparison e links)) is = absurd (false≢true is)
alone_cell row column (computed (list es)) is = absurd (false≢true is)
alone_cell row column (computed (case arms e)) is = absurd (false≢true is)
alone_cell row column (computed (call name distinct es)) is = absurd (false≢true is)
alone_cell row column (computed (call_star name)) is = absurd (false≢true is)

-- what stands at a place of the row that is made
made_cell : (outputs : List Output) (row : List Cell) (place : ℕ) (o : Output) → slice_get outputs place ≡ Some o → cell_at (projected outputs row) place ≡ output_cell row o
made_cell outputs row place o found =
    get_or_from_slice_get (map (output_cell row) outputs) place (output_cell row o) expressions.null (slice_get-map (output_cell row) outputs place ∙ ap (option_map (output_cell row)) found)

pub cell_there : (outputs : List Output) (row : List Cell) (place column : ℕ) → is_at outputs place column ≡ true → cell_at (projected outputs row) place ≡ cell_at row column
cell_there outputs row place column is = by (slice_get outputs place) refl is
  where
    by : (found : Option Output) → slice_get outputs place ≡ found → option_map_or (is_alone column) found false ≡ true → cell_at (projected outputs row) place ≡ cell_at row column
    by None none at = absurd (false≢true at)
    by (Some o) found at = made_cell outputs row place o found ∙ alone_cell row column o at

module _ (graph : Content) (outputs : List Output) (row : List Cell) (link : IsLink graph row) (keeps : keeps_links outputs ≡ true) where
  abbrev made : List Cell
  made = projected outputs row

  split : (is_at outputs 0 0 ≡ true) × (((is_at outputs 1 1 && is_at outputs 2 2) || (is_at outputs 1 2 && is_at outputs 2 1)) ≡ true)
  split = and_parts (is_at outputs 0 0) ((is_at outputs 1 1 && is_at outputs 2 2) || (is_at outputs 1 2 && is_at outputs 2 1)) keeps

  straight : (is_at outputs 1 1 && is_at outputs 2 2) ≡ true
      → HasEnds link.rel row → HasEnds link.rel made
  straight is (inl p) = let ats = and_parts (is_at outputs 1 1) (is_at outputs 2 2) is in inl (cell_there outputs row 1 1 ats.0 ∙ p.0, cell_there outputs row 2 2 ats.1 ∙ p.1)
  straight is (inr p) = let ats = and_parts (is_at outputs 1 1) (is_at outputs 2 2) is in inr (cell_there outputs row 1 1 ats.0 ∙ p.0, cell_there outputs row 2 2 ats.1 ∙ p.1)

  crossed : (is_at outputs 1 2 && is_at outputs 2 1) ≡ true
      → HasEnds link.rel row → HasEnds link.rel made
  crossed is (inl p) = let ats = and_parts (is_at outputs 1 2) (is_at outputs 2 1) is in inr (cell_there outputs row 1 2 ats.0 ∙ p.1, cell_there outputs row 2 1 ats.1 ∙ p.0)
  crossed is (inr p) = let ats = and_parts (is_at outputs 1 2) (is_at outputs 2 1) is in inl (cell_there outputs row 1 2 ats.0 ∙ p.1, cell_there outputs row 2 1 ats.1 ∙ p.0)

  either : ((is_at outputs 1 1 && is_at outputs 2 2) ≡ true) ⊎ ((is_at outputs 1 2 && is_at outputs 2 1) ≡ true)
      → HasEnds link.rel made
  either (inl is) = straight is link.ends
  either (inr is) = crossed is link.ends

  made_link : IsLink graph made
  made_link = record {
    id = link.id;
    rel = link.rel;
    there = link.there;
    first = cell_there outputs row 0 0 split.0 ∙ link.first;
    ends = either (or_cases (is_at outputs 1 1 && is_at outputs 2 2) (is_at outputs 1 2 && is_at outputs 2 1) split.1);
  }

-- ---- plans

pub links : (graph : State) → IsGraph graph → (p : Plan) → has_links p ≡ true → All (IsLink graph.content) (rows_of graph.content p)
links graph is (plan.rels types orientation) has =
    all_made (IsThere graph.content.rels) (IsLink graph.content) (rows_of_rel types orientation) (λ e there. link_rel graph.content e there types orientation) graph.content.rels
    (each_there graph.content.rels is.rels_rising)
links graph is (plan.join left right keys) has =
    all_made (IsLink graph.content) (IsLink graph.content) (λ row. paired row (filter (meet keys row) (rows_of graph.content right)))
    (λ row link. all_mapped (IsLink graph.content) (λ other. row ++ other) (λ other. longer_link graph.content row other link) (filter (meet keys row) (rows_of graph.content right)))
    (rows_of graph.content left) (links graph is left has)
links graph is (plan.semi left right keys keeping) has = All-filter _ (IsLink graph.content) (rows_of graph.content left) (links graph is left has)
links graph is (plan.lookup p column attribute) has =
    All-map (IsLink graph.content) (with_attribute graph.content column attribute) (rows_of graph.content p)
    (All-weaker (IsLink graph.content) (λ row. IsLink graph.content (with_attribute graph.content column attribute row)) (λ row link. longer_link graph.content row _ link) (rows_of graph.content p)
    (links graph is p has))
links graph is (plan.filter p test) has = All-filter _ (IsLink graph.content) (rows_of graph.content p) (links graph is p has)
links graph is (plan.all_different p columns) has = All-filter _ (IsLink graph.content) (rows_of graph.content p) (links graph is p has)
links graph is (plan.project p outputs) has =
    let both = and_parts (has_links p) (keeps_links outputs) has in
    All-map (IsLink graph.content) (projected outputs) (rows_of graph.content p)
    (All-weaker (IsLink graph.content) (λ row. IsLink graph.content (projected outputs row)) (λ row link. made_link graph.content outputs row link both.1) (rows_of graph.content p) (links graph is p both.0))
links graph is _ has = absurd (false≢true has)

-- the first cell of a row is a list
pub record IsListed (row : List Cell) : Type 0 where
  pub ids : List RelId
  pub first : cell_at row 0 ≡ cell.Rels ids

listed_made : (outputs : List Output) (row : List Cell) → option_map_or is_list (slice_get outputs 0) false ≡ true → IsListed (projected outputs row)
listed_made outputs row is = by (slice_get outputs 0) refl is
  where
    by : (found : Option Output) → slice_get outputs 0 ≡ found → option_map_or is_list found false ≡ true → IsListed (projected outputs row)
    by None none at = absurd (false≢true at)
    by (Some (computed e)) found at = absurd (false≢true at)
    by (Some (gathered columns)) found at = record { ids = relationships_at columns row; first = made_cell outputs row 0 (gathered columns) found }

pub lists : (graph : Content) (p : Plan) → has_lists p ≡ true → All IsListed (rows_of graph p)
lists graph (plan.semi left right keys keeping) has = All-filter _ IsListed (rows_of graph left) (lists graph left has)
lists graph (plan.lookup p column attribute) has =
    All-map IsListed (with_attribute graph column attribute) (rows_of graph p)
    (All-weaker IsListed (λ row. IsListed (with_attribute graph column attribute row))
    (λ row listed. record { ids = listed.ids; first = more_cells row _ 0 (cell.Rels listed.ids) listed.first (no_list listed.ids) }) (rows_of graph p) (lists graph p has))
lists graph (plan.filter p test) has = All-filter _ IsListed (rows_of graph p) (lists graph p has)
lists graph (plan.all_different p columns) has = All-filter _ IsListed (rows_of graph p) (lists graph p has)
lists graph (plan.project p outputs) has = all_mapped IsListed (projected outputs) (λ row. listed_made outputs row has) (rows_of graph p)
lists graph (plan.union left right) has =
    let both = and_parts (has_lists left) (has_lists right) has in
    All-append IsListed (rows_of graph left) (rows_of graph right) (lists graph left both.0) (lists graph right both.1)
lists graph _ has = absurd (false≢true has)
