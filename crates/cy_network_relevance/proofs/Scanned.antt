-- A scan has the same rows where each of its entities makes the same.
use Rattle.std.proofs.Common.{◌≡◌, ℕ, true, false, List, Option, None, Some, refl, sym, ap, ◌∙◌, is_some, inl, inr}
use Rattle.std.proofs.lemmas.Bool.{false≢true}
use Rattle.cy_values.specs.declared.numbers.NodeId.{NodeId}
use Rattle.cy_values.specs.declared.numbers.RelId.{RelId}
use Rattle.cy_trees.specs.Trees.{Expression, Name}
use Rattle.cy_graph.specs.Graph.{IsGraph, State}
use Rattle.cy_planner_algebra.specs.declared.operators.Attribute.{Attribute}
use Rattle.cy_planner_algebra.specs.declared.operators.Orientation.{Orientation}
use Rattle.cy_planner_algebra.specs.Meaning.{rows_of}
use Rattle.cy_planner_algebra.specs.Plans as plan
use Rattle.cy_planner_algebra.specs.Plans.{Output, Plan}
use Rattle.cy_network_sources.specs.Scans.{if_this, kept, scan_column, scan_parts}
use Rattle.cy_network_sources.specs.internal.Through.{leaf_of, node_made, reads_graph, rel_made}
use Rattle.cy_network_sources.proofs.ScanDeltas.{node_under, rel_under}
use Rattle.cy_network_sources.proofs.Through.{if_this_is, kept_is}
use Rattle.cy_network_sources.proofs.ThroughCounts.{node_scan_rows, rel_scan_rows}
use Rattle.cy_network_sources.proofs.ThroughSteps.{leaf_reads, some_of}
use Rattle.cy_network_relevance.specs.internal.Kept.{AreKept, NodeKept, RelKept}
use Rattle.cy_network_relevance.proofs.Ranges.{same_entries}

pub none_some : {X : Type 0} → false ≡ true → X
none_some is = absurd (false≢true is)

-- ---- a part that is a scan is over one

if_found : (column : ℕ) (found o : Option ℕ) → if_this column found ≡ o → is_some o ≡ true → is_some found ≡ true
if_found column found None is some = none_some some
if_found column found (Some c) is some = ap is_some (if_this_is column found c is).0

lookup_below : (p : Plan) (column : ℕ) (attribute : Attribute) → is_some (scan_column (plan.lookup p column attribute)) ≡ true → is_some (scan_column p) ≡ true
lookup_below p column attribute scans = if_found column (scan_column p) (scan_column (plan.lookup p column attribute)) refl scans

kept_found : (found : Option ℕ) (outputs : List Output) (o : Option ℕ) → kept found outputs ≡ o → is_some o ≡ true → is_some found ≡ true
kept_found found outputs None is some = none_some some
kept_found found outputs (Some c) is some = ap is_some (kept_is found outputs c is).1.0

project_below : (p : Plan) (outputs : List Output) → is_some (scan_column (plan.project p outputs)) ≡ true → is_some (scan_column p) ≡ true
project_below p outputs scans = kept_found (scan_column p) outputs (scan_column (plan.project p outputs)) refl scans

module _ (before now : State) (graph_before : IsGraph before) (graph_now : IsGraph now) where
  same_nodes : (p : Plan) (c : ℕ) → leaf_of p ≡ plan.nodes → scan_column p ≡ Some c → ((n : ℕ) → NodeKept (node_under before n) (node_under now n) p)
      → rows_of before.content p ≡ rows_of now.content p
  same_nodes p c over column kept =
      node_scan_rows p c over column before graph_before
      ∙ same_entries (λ (k : NodeId). k.0) (λ n. record { 0 = n }) (λ n. refl) (node_made (scan_parts p)) (λ n. refl) before.content.nodes now.content.nodes graph_before.rising graph_now.rising (λ n. kept n over n)
      ∙ sym (node_scan_rows p c over column now graph_now)

  same_rels : (types : List Name) (orientation : Orientation) (p : Plan) (c : ℕ) → leaf_of p ≡ plan.rels types orientation → scan_column p ≡ Some c
      → ((n : ℕ) → RelKept (rel_under before n) (rel_under now n) p) → rows_of before.content p ≡ rows_of now.content p
  same_rels types orientation p c over column kept =
      rel_scan_rows types orientation p c over column before graph_before
      ∙ same_entries (λ (k : RelId). k.0) (λ n. record { 0 = n }) (λ n. refl) (rel_made types orientation (scan_parts p)) (λ n. refl) before.content.rels now.content.rels graph_before.rels_rising graph_now.rels_rising
      (λ n. kept n types orientation over n)
      ∙ sym (rel_scan_rows types orientation p c over column now graph_now)

  pub same_scan : (p : Plan) → is_some (scan_column p) ≡ true → ((n : ℕ) → NodeKept (node_under before n) (node_under now n) p) → ((n : ℕ) → RelKept (rel_under before n) (rel_under now n) p)
      → rows_of before.content p ≡ rows_of now.content p
  same_scan p scans nodes rels = by (leaf_of p) refl (leaf_reads p scans)
    where
      named : (c : ℕ) × (scan_column p ≡ Some c)
      named = some_of (scan_column p) scans

      by : (leaf : Plan) → leaf_of p ≡ leaf → reads_graph leaf ≡ true → rows_of before.content p ≡ rows_of now.content p
      by plan.nodes over reads = same_nodes p named.0 over named.1 nodes
      by (plan.rels types orientation) over reads = same_rels types orientation p named.0 over named.1 rels
      by _ over reads = none_some reads

-- ---- what is known of the parts of a scan is known of the scan

module _ (Rows : Plan → Type 0) (Value : Attribute → Type 0)
    (over_lookup : (p : Plan) (column : ℕ) (attribute : Attribute) → Rows p → Value attribute → Rows (plan.lookup p column attribute))
    (over_filter : (p : Plan) (test : Expression) → Rows p → Rows (plan.filter p test))
    (over_different : (p : Plan) (columns : List ℕ) → Rows p → Rows (plan.all_different p columns))
    (over_project : (p : Plan) (outputs : List Output) → Rows p → Rows (plan.project p outputs)) where
  pub kept_scan : (p : Plan) → is_some (scan_column p) ≡ true → AreKept Rows Value p → Rows p
  kept_scan plan.nodes scans kept = kept
  kept_scan (plan.rels types orientation) scans kept = kept
  kept_scan (plan.lookup p column attribute) scans (inl whole) = whole.1
  kept_scan (plan.lookup p column attribute) scans (inr kept) = over_lookup p column attribute (kept_scan p (lookup_below p column attribute scans) kept.0) kept.1
  kept_scan (plan.filter p test) scans (inl whole) = whole.1
  kept_scan (plan.filter p test) scans (inr kept) = over_filter p test (kept_scan p scans kept)
  kept_scan (plan.all_different p columns) scans kept = over_different p columns (kept_scan p scans kept)
  kept_scan (plan.project p outputs) scans kept = over_project p outputs (kept_scan p (project_below p outputs scans) kept)
  kept_scan _ scans kept = none_some scans
