-- A scan with the part that reads the graph.
use Rattle.std.proofs.Common.{◌≡◌, ℕ, ◌-◌, ◌<◌, ◌≤◌, List, Option, Some, sym, ap, subst, ◌∙◌, map, length, get_or, Bor, arith, None, drop, ◌+◌}
use Rattle.std.specs.Prelude.{Result, Ok, Err, IfOk, OnOk, flat_map, IfSome}
use Rattle.std.specs.List.{All}
use Rattle.std.proofs.lemmas.List.{get_or-map, length-map}
use Rattle.cy_values.specs.declared.rows.Cell.{Cell}
use Rattle.cy_values.specs.declared.scalars.Value.{Value}
use Rattle.cy_trees.specs.Trees.{Name}
use Rattle.cy_graph.specs.declared.nodes.Node.{Node}
use Rattle.cy_graph.specs.declared.nodes.Rel.{Rel}
use Rattle.cy_graph.specs.Graph.{State}
use Rattle.cy_planner_algebra.specs.declared.operators.Attribute.{Attribute}
use Rattle.cy_planner_algebra.specs.declared.operators.Operator.{Operator}
use Rattle.cy_planner_algebra.specs.declared.operators.Orientation.{Orientation}
use Rattle.cy_planner_algebra.specs.Meaning.{rows_of}
use Rattle.cy_planner_algebra.specs.Plans as plan
use Rattle.cy_planner_algebra.specs.Plans.{Plan}
use Rattle.cy_planner_algebra.specs.PlanModels.{plan_of}
use Rattle.cy_network_memory.specs.declared.memory.RowDelta.{RowDelta}
use Rattle.cy_network_operators.specs.Deltas.{IsDelta, counts, deltas_of}
use Rattle.cy_network_sources.specs.Changes.{Touches}
use Rattle.cy_network_sources.specs.Scans.{scan_column, scan_parts, scan_reads}
use Rattle.cy_network_sources.specs.internal.Through.{IsNodeFit, IsRelFit, IsScanOver, leaf_of, node_made, recounted, rel_made, made_by, through}
use Rattle.cy_network_sources.proofs.ScanDeltas.{node_under, rel_under}
use Rattle.cy_network_sources.proofs.ThroughCounts.{node_fits, node_scan_delta, rel_fits, rel_scan_delta}
use Rattle.cy_network_sources.proofs.ThroughSteps.{last_is, leaf_count, parts_some, some_of, one_part}

-- what follows for an outcome from what is known of it
pub if_ok_then : {T E : Type 0} (P Q : T → Type 0) (r : Result T E) → ((x : T) → P x → Q x) → IfOk r P → IfOk r Q
if_ok_then P Q (Ok x) each is = each x is
if_ok_then P Q (Err e) each is = tt

pub on_ok_then : {T E : Type 0} (P Q : Type 0) (r : Result T E) → (P → Q) → OnOk r P → OnOk r Q
on_ok_then P Q (Ok x) each is = each is
on_ok_then P Q (Err e) each is = tt

pub if_some_then : {T : Type 0} (P Q : T → Type 0) (o : Option T) → ((x : T) → P x → Q x) → IfSome o P → IfSome o Q
if_some_then P Q (Some x) each is = each x is
if_some_then P Q None each is = tt

module _ (before now : State) (touches : Touches) (ps : List Plan) (leaf p : Plan) (over : IsScanOver before now touches ps leaf p) where
  pub column : (c : ℕ) × (scan_column p ≡ Some c)
  column = some_of (scan_column p) over.scan.column

  pub nodes_fit : leaf ≡ plan.nodes → All (λ (e : ℕ × Option Node). IsNodeFit ps e.0 e.1 × IsNodeFit ps e.0 (node_under now e.0)) touches.nodes
  nodes_fit is =
      subst (λ (qs : List Plan). All (λ (e : ℕ × Option Node). IsNodeFit qs e.0 e.1 × IsNodeFit qs e.0 (node_under now e.0)) touches.nodes) (sym over.scan.parts)
      (node_fits p column.0 (over.leaf ∙ is) column.1 before now touches over.scan.change over.scan.sure)

  pub nodes_delta : leaf ≡ plan.nodes → (deltas : List RowDelta)
      → ((row : List Cell) → deltas_of row deltas ≡ flat_map (λ (e : ℕ × Option Node). recounted (node_made ps e.0 e.1) (node_made ps e.0 (node_under now e.0)) row) touches.nodes)
      → IsDelta (counts (rows_of before.content p)) (counts (rows_of now.content p)) deltas
  nodes_delta is deltas made =
      node_scan_delta p column.0 (over.leaf ∙ is) column.1 before now touches over.scan.change deltas
      (subst (λ (qs : List Plan). (row : List Cell) → deltas_of row deltas ≡ flat_map (λ (e : ℕ × Option Node). recounted (node_made qs e.0 e.1) (node_made qs e.0 (node_under now e.0)) row) touches.nodes)
      over.scan.parts made)

  pub rels_fit : (types : List Name) (orientation : Orientation) → leaf ≡ plan.rels types orientation
      → All (λ (e : ℕ × Option Rel). IsRelFit types orientation ps e.0 e.1 × IsRelFit types orientation ps e.0 (rel_under now e.0)) touches.rels
  rels_fit types orientation is =
      subst (λ (qs : List Plan). All (λ (e : ℕ × Option Rel). IsRelFit types orientation qs e.0 e.1 × IsRelFit types orientation qs e.0 (rel_under now e.0)) touches.rels) (sym over.scan.parts)
      (rel_fits types orientation p column.0 (over.leaf ∙ is) column.1 before now touches over.scan.change over.scan.sure)

  pub rels_delta : (types : List Name) (orientation : Orientation) → leaf ≡ plan.rels types orientation → (deltas : List RowDelta)
      → ((row : List Cell) → deltas_of row deltas
      ≡ flat_map (λ (e : ℕ × Option Rel). recounted (rel_made types orientation ps e.0 e.1) (rel_made types orientation ps e.0 (rel_under now e.0)) row) touches.rels)
      → IsDelta (counts (rows_of before.content p)) (counts (rows_of now.content p)) deltas
  rels_delta types orientation is deltas made =
      rel_scan_delta types orientation p column.0 (over.leaf ∙ is) column.1 before now touches over.scan.change deltas
      (subst (λ (qs : List Plan). (row : List Cell) → deltas_of row deltas
      ≡ flat_map (λ (e : ℕ × Option Rel). recounted (rel_made types orientation qs e.0 e.1) (rel_made types orientation qs e.0 (rel_under now e.0)) row) touches.rels)
      over.scan.parts made)

-- the last of the parts that are given
module _ (parts : List (Bor Operator)) (p : Plan) (is : map (λ (part : Bor Operator). plan_of part.now) parts ≡ scan_parts p) where
  same_many : length parts ≡ length (scan_parts p)
  same_many = sym (length-map parts (λ (part : Bor Operator). plan_of part.now)) ∙ ap (λ (ps : List Plan). length ps) is

  pub given_some : 1 ≤ length parts
  given_some = let some = parts_some p in let many = same_many in omega (arith, some, many)

  pub leaf_is : (x : Bor Operator) → x ≡ get_or parts (length parts - 1) x → leaf_of p ≡ plan_of x.now
  leaf_is x at =
      let some = given_some in
      let inside : length parts - 1 < length parts = omega (arith, some) in
      sym (ap (λ (part : Bor Operator). plan_of part.now) at
      ∙ sym (get_or-map (λ (part : Bor Operator). plan_of part.now) parts (length parts - 1) x (plan_of x.now) inside)
      ∙ ap (λ (ps : List Plan). get_or ps (length parts - 1) (plan_of x.now)) is
      ∙ ap (λ n. get_or (scan_parts p) (n - 1) (plan_of x.now)) same_many
      ∙ last_is p (plan_of x.now))

  pub reads_there : (touches : Touches) (x : Bor Operator) → x ≡ get_or parts (length parts - 1) x → scan_reads touches p ≡ scan_reads touches (plan_of x.now)
  reads_there touches x at = leaf_count touches p ∙ ap (scan_reads touches) (leaf_is x at)

-- parts that make the same one by one make the same
module _ (value_of other_of : Attribute → Value) (parts : List (Bor Operator)) (k : ℕ) (x : Bor Operator) (within : k < length parts) (is : x ≡ get_or parts k x) where
  abbrev plans : List Plan
  plans = map (λ (part : Bor Operator). plan_of part.now) parts

  element : plan_of x.now ≡ get_or plans k (plan_of x.now)
  element = ap (λ (part : Bor Operator). plan_of part.now) is ∙ sym (get_or-map (λ (part : Bor Operator). plan_of part.now) parts k x (plan_of x.now) within)

  inside : k < length plans
  inside = let many = length-map parts (λ (part : Bor Operator). plan_of part.now) in omega (arith, many, within)

  pub alike_more : ((rows : List (List Cell)) → made_by value_of (plan_of x.now) rows ≡ made_by other_of (plan_of x.now) rows)
      → ((rows : List (List Cell)) → through value_of (drop (k + 1) plans) rows ≡ through other_of (drop (k + 1) plans) rows)
      → (rows : List (List Cell)) → through value_of (drop k plans) rows ≡ through other_of (drop k plans) rows
  alike_more here rest rows =
      sym (one_part value_of plans k rows (plan_of x.now) inside)
      ∙ ap (λ p. made_by value_of p (through value_of (drop (k + 1) plans) rows)) (sym element)
      ∙ here (through value_of (drop (k + 1) plans) rows)
      ∙ ap (made_by other_of (plan_of x.now)) (rest rows)
      ∙ ap (λ p. made_by other_of p (through other_of (drop (k + 1) plans) rows)) element
      ∙ one_part other_of plans k rows (plan_of x.now) inside
