-- A plan has the same rows where none of the touched entities makes others.
use Rattle.std.proofs.Common.{◌≡◌, ℕ, Bool, true, false, List, ◌∷◌, [], ◌++◌, Option, None, Some, refl, sym, ap, subst, ◌∙◌, map, filter, is_some, nat_eq, ◌⊎◌, inl, inr}
use Rattle.std.specs.List.{All}
use Rattle.std.specs.Map.{lookup}
use Rattle.std.proofs.lemmas.Bool.{false≢true, eqb-true}
use Rattle.std.proofs.lemmas.List.Elements.{recursion_from_All}
use Rattle.cy_values.specs.declared.rows.Cell.{Cell}
use Rattle.cy_values.specs.declared.rows.Cell.TheVariants as cell
use Rattle.cy_trees.specs.Trees.{Expression}
use Rattle.cy_graph.specs.declared.nodes.Node.{Node}
use Rattle.cy_graph.specs.declared.nodes.Rel.{Rel}
use Rattle.cy_graph.specs.Graph.{Content, State}
use Rattle.cy_expr.specs.Graphs.{are_different}
use Rattle.cy_planner_algebra.specs.declared.operators.Attribute.{Attribute}
use Rattle.cy_planner_algebra.specs.Expressions.{cell_at, holds, projected, relationships_at}
use Rattle.cy_planner_algebra.specs.Meaning.{attribute_of, each_once, joined, outer_joined, rows_of, semi_joined}
use Rattle.cy_planner_algebra.specs.Plans as plan
use Rattle.cy_planner_algebra.specs.Plans.{Plan, width}
use Rattle.cy_network_sources.specs.Changes.{IsChange, IsImage, Touches}
use Rattle.cy_network_sources.specs.Scans.{scan_column}
use Rattle.cy_network_sources.specs.Attributes.{node_attribute, rel_attribute}
use Rattle.cy_network_sources.proofs.LookupLemmas.{at_node, at_rel, at_rels, at_value}
use Rattle.cy_network_sources.proofs.ScanDeltas.{node_under, rel_under}
use Rattle.cy_network_sources.proofs.Through.{holds_found}
use Rattle.cy_network_relevance.specs.Relevance.{IsUntouched}
use Rattle.cy_network_relevance.specs.internal.Kept.{AreKept, IsNodeUnchanged, IsRelUnchanged, NodeKeeps, NodeKept, RelKeeps, RelKept}
use Rattle.cy_network_relevance.proofs.Rules.{node_over_different, node_over_filter, node_over_lookup, node_over_project, rel_over_different, rel_over_filter, rel_over_lookup, rel_over_project}
use Rattle.cy_network_relevance.proofs.Scanned.{kept_scan, same_scan}

-- the rows of a plan whose parts have the same
pub same_rows : (before now : Content) (p : Plan) → IsUntouched before now p → rows_of before p ≡ rows_of now p
same_rows before now plan.unit untouched = refl
same_rows before now plan.nodes untouched = untouched
same_rows before now (plan.rels types orientation) untouched = untouched
same_rows before now (plan.join left right keys) untouched =
    let lefts = same_rows before now left untouched.0 in let rights = same_rows before now right untouched.1 in λ i. joined keys (lefts i) (rights i)
same_rows before now (plan.outer left right keys test) untouched =
    let lefts = same_rows before now left untouched.0 in let rights = same_rows before now right untouched.1 in λ i. outer_joined keys test (width right) (lefts i) (rights i)
same_rows before now (plan.semi left right keys keeping) untouched =
    let lefts = same_rows before now left untouched.0 in let rights = same_rows before now right untouched.1 in λ i. semi_joined keys keeping (lefts i) (rights i)
same_rows before now (plan.distinct p) untouched = ap each_once (same_rows before now p untouched)
same_rows before now (plan.union left right) untouched =
    let lefts = same_rows before now left untouched.0 in let rights = same_rows before now right untouched.1 in λ i. lefts i ++ rights i
same_rows before now _ untouched = untouched.0

-- what an entity with one value keeps
module _ (Rows : Plan → Type 0) (Value : Attribute → Type 0) (rows : (p : Plan) → Rows p) (value : (a : Attribute) → Value a) where
  itself : (p : Plan) → AreKept Rows Value p
  itself plan.unit = tt
  itself plan.nodes = rows plan.nodes
  itself (plan.rels types orientation) = rows (plan.rels types orientation)
  itself (plan.join left right keys) = (itself left, itself right)
  itself (plan.outer left right keys test) = (itself left, itself right)
  itself (plan.semi left right keys keeping) = (itself left, itself right)
  itself (plan.lookup p column attribute) = inr (itself p, value attribute)
  itself (plan.filter p test) = inr (itself p)
  itself (plan.all_different p columns) = itself p
  itself (plan.project p outputs) = itself p
  itself (plan.distinct p) = itself p
  itself (plan.union left right) = (itself left, itself right)

-- what is known of each touched entity is known of all
module _ {V : Type 0} (P : Option V → Option V → Type 0) (same : (o : Option V) → P o o) (before now : ℕ → Option V) (touched : List (ℕ × Option V))
    (images : (n : ℕ) → IsImage (before n) (now n) (lookup (nat_eq n) touched)) (each : All (λ (e : ℕ × Option V). P e.1 (now e.0)) touched) where
  pub of_each : (n : ℕ) → P (before n) (now n)
  of_each n = by (lookup (nat_eq n) touched) refl (images n)
    where
      by : (o : Option (Option V)) → lookup (nat_eq n) touched ≡ o → IsImage (before n) (now n) o → P (before n) (now n)
      by None found image = subst (λ (o : Option V). P (before n) o) image (same (before n))
      by (Some was) found image =
          subst (λ (o : Option V). P o (now n)) image.0
          (holds_found nat_eq eqb-true (λ (e : ℕ × Option V). P e.1 (now e.0)) n was touched (recursion_from_All (λ (e : ℕ × Option V). P e.1 (now e.0)) touched each) found)

-- a part is a scan or none
scan_or_none : (b : Bool) → (b ≡ true) ⊎ (b ≡ false)
scan_or_none true = inl refl
scan_or_none false = inr refl

no_scan : {X : Type 0} (b : Bool) → b ≡ false → b ≡ true → X
no_scan b none is = absurd (false≢true (sym none ∙ is))

module _ (before now : State) (touches : Touches) (change : IsChange before now touches) where
  abbrev NodesKeep : Plan → Type 0
  NodesKeep p = (n : ℕ) → IsNodeUnchanged (node_under before n) (node_under now n) p

  abbrev NodeRows : ℕ → Plan → Type 0
  NodeRows n = NodeKept (node_under before n) (node_under now n)

  abbrev NodeValues : ℕ → Attribute → Type 0
  NodeValues n = NodeKeeps (node_under before n) (node_under now n)

  abbrev RelRows : ℕ → Plan → Type 0
  RelRows n = RelKept (rel_under before n) (rel_under now n)

  abbrev RelValues : ℕ → Attribute → Type 0
  RelValues n = RelKeeps (rel_under before n) (rel_under now n)

  abbrev RelsKeep : Plan → Type 0
  RelsKeep p = (n : ℕ) → IsRelUnchanged (rel_under before n) (rel_under now n) p

  -- a scan has the same rows
  scanned : (p : Plan) → is_some (scan_column p) ≡ true → NodesKeep p → RelsKeep p → rows_of before.content p ≡ rows_of now.content p
  scanned p scans nodes rels =
      same_scan before now change.graph_before change.graph_now p scans
      (λ n.
      let old = node_under before n in
      let new = node_under now n in
      kept_scan (NodeRows n) (NodeValues n) (node_over_lookup old new) (node_over_filter old new) (node_over_different old new) (node_over_project old new) p scans (nodes n))
      (λ n.
      let old = rel_under before n in
      let new = rel_under now n in
      kept_scan (RelRows n) (RelValues n) (rel_over_lookup old new) (rel_over_filter old new) (rel_over_different old new) (rel_over_project old new) p scans (rels n))

  -- so has a part that looks up attributes which stay, over one that has
  same_attribute : (a : Attribute) → ((n : ℕ) → node_attribute a (node_under before n) ≡ node_attribute a (node_under now n))
      → ((n : ℕ) → rel_attribute a (rel_under before n) ≡ rel_attribute a (rel_under now n)) → (c : Cell) → attribute_of before.content a c ≡ attribute_of now.content a c
  same_attribute a nodes rels (cell.Node id) = at_node before a id ∙ nodes id.0 ∙ sym (at_node now a id)
  same_attribute a nodes rels (cell.Rel id) = at_rel before a id ∙ rels id.0 ∙ sym (at_rel now a id)
  same_attribute a nodes rels (cell.Rels ids) = at_rels before.content a ids ∙ sym (at_rels now.content a ids)
  same_attribute a nodes rels (cell.Value v) = at_value before.content a v ∙ sym (at_value now.content a v)

  looked_up : (p : Plan) (column : ℕ) (a : Attribute) → rows_of before.content p ≡ rows_of now.content p
      → ((n : ℕ) → node_attribute a (node_under before n) ≡ node_attribute a (node_under now n))
      → ((n : ℕ) → rel_attribute a (rel_under before n) ≡ rel_attribute a (rel_under now n))
      → rows_of before.content (plan.lookup p column a) ≡ rows_of now.content (plan.lookup p column a)
  looked_up p column a rows nodes rels = λ i. map (λ row. row ++ cell.Value (same_attribute a nodes rels (cell_at row column) i) ∷ []) (rows i)

  over_lookup : (Rows : Plan → Type 0) (Value : Attribute → Type 0) (p : Plan) (column : ℕ) (a : Attribute) → is_some (scan_column (plan.lookup p column a)) ≡ false
      → AreKept Rows Value (plan.lookup p column a) → AreKept Rows Value p × Value a
  over_lookup Rows Value p column a none (inl whole) = no_scan (is_some (scan_column (plan.lookup p column a))) none whole.0
  over_lookup Rows Value p column a none (inr kept) = kept

  over_filter : (Rows : Plan → Type 0) (Value : Attribute → Type 0) (p : Plan) (test : Expression) → is_some (scan_column (plan.filter p test)) ≡ false
      → AreKept Rows Value (plan.filter p test) → AreKept Rows Value p
  over_filter Rows Value p test none (inl whole) = no_scan (is_some (scan_column (plan.filter p test))) none whole.0
  over_filter Rows Value p test none (inr kept) = kept

  all_untouched : (p : Plan) → NodesKeep p → RelsKeep p → IsUntouched before.content now.content p
  all_untouched plan.unit nodes rels = tt
  all_untouched plan.nodes nodes rels = scanned plan.nodes refl nodes rels
  all_untouched (plan.rels types orientation) nodes rels = scanned (plan.rels types orientation) refl nodes rels
  all_untouched (plan.join left right keys) nodes rels = (all_untouched left (λ n. (nodes n).0) (λ n. (rels n).0), all_untouched right (λ n. (nodes n).1) (λ n. (rels n).1))
  all_untouched (plan.outer left right keys test) nodes rels = (all_untouched left (λ n. (nodes n).0) (λ n. (rels n).0), all_untouched right (λ n. (nodes n).1) (λ n. (rels n).1))
  all_untouched (plan.semi left right keys keeping) nodes rels = (all_untouched left (λ n. (nodes n).0) (λ n. (rels n).0), all_untouched right (λ n. (nodes n).1) (λ n. (rels n).1))
  all_untouched (plan.lookup p column a) nodes rels =
      elim (scan_or_none (is_some (scan_column (plan.lookup p column a)))) [
        | inl is ↦ (scanned (plan.lookup p column a) is nodes rels, inl is)
        | inr none ↦
            let below = all_untouched p (λ n. (over_lookup (NodeRows n) (NodeValues n) p column a none (nodes n)).0) (λ n. (over_lookup (RelRows n) (RelValues n) p column a none (rels n)).0) in (
              looked_up p column a (same_rows before.content now.content p below) (λ n. (over_lookup (NodeRows n) (NodeValues n) p column a none (nodes n)).1) (λ n. (over_lookup (RelRows n) (RelValues n) p column a none (rels n)).1),
              inr below,
            )
      ]
  all_untouched (plan.filter p test) nodes rels =
      elim (scan_or_none (is_some (scan_column (plan.filter p test)))) [
        | inl is ↦ (scanned (plan.filter p test) is nodes rels, inl is)
        | inr none ↦
            let below = all_untouched p (λ n. over_filter (NodeRows n) (NodeValues n) p test none (nodes n)) (λ n. over_filter (RelRows n) (RelValues n) p test none (rels n)) in
            (ap (filter (holds test)) (same_rows before.content now.content p below), inr below)
      ]
  all_untouched (plan.all_different p columns) nodes rels =
      elim (scan_or_none (is_some (scan_column (plan.all_different p columns)))) [
        | inl is ↦ (scanned (plan.all_different p columns) is nodes rels, inl is)
        | inr none ↦
            let below = all_untouched p nodes rels in
            (ap (filter (λ row. are_different (relationships_at columns row))) (same_rows before.content now.content p below), inr below)
      ]
  all_untouched (plan.project p outputs) nodes rels =
      elim (scan_or_none (is_some (scan_column (plan.project p outputs)))) [
        | inl is ↦ (scanned (plan.project p outputs) is nodes rels, inl is)
        | inr none ↦
            let below = all_untouched p nodes rels in
            (ap (map (projected outputs)) (same_rows before.content now.content p below), inr below)
      ]
  all_untouched (plan.distinct p) nodes rels = all_untouched p nodes rels
  all_untouched (plan.union left right) nodes rels = (all_untouched left (λ n. (nodes n).0) (λ n. (rels n).0), all_untouched right (λ n. (nodes n).1) (λ n. (rels n).1))

  pub untouched : (p : Plan) → All (λ (e : ℕ × Option Node). IsNodeUnchanged e.1 (node_under now e.0) p) touches.nodes
      → All (λ (e : ℕ × Option Rel). IsRelUnchanged e.1 (rel_under now e.0) p) touches.rels → IsUntouched before.content now.content p
  untouched p nodes rels =
      all_untouched p
      (of_each (λ (old new : Option Node). IsNodeUnchanged old new p) (λ o. itself (NodeKept o o) (NodeKeeps o o) (λ q leaf n. refl) (λ a. refl) p) (node_under before) (node_under now) touches.nodes
      (λ n. change.nodes (record { 0 = n })) nodes)
      (of_each (λ (old new : Option Rel). IsRelUnchanged old new p) (λ o. itself (RelKept o o) (RelKeeps o o) (λ q types orientation leaf n. refl) (λ a. refl) p) (rel_under before) (rel_under now) touches.rels
      (λ n. change.rels (record { 0 = n })) rels)
