-- The rows that come with a first graph, by the index of a label.
use Rattle.std.proofs.Common.{◌≡◌, ℕ, ◌+◌, ◌-◌, ◌^◌, ◌≤◌, min, Bool, true, false, cond, ◌||◌, List, [], ◌∷◌, ◌++◌, Option, None, Some, length, map, filter, refl, sym, ap, subst, ◌∙◌, arith}
use Rattle.std.specs.Prelude.{flat_map}
use Rattle.std.specs.List.{AllByRecursion, list_any}
use Rattle.std.specs.Str.{bytes_eq}
use Rattle.std.specs.declared.cmp.Ordering.{Ordering}
use Rattle.std.specs.Ordering.{eq_by_cmp}
use Rattle.std.specs.FinMap.Entries as entries
use Rattle.std.proofs.lemmas.Map.Text.{is_eq-slice_cmp}
use Rattle.std.proofs.lemmas.List.{length-map}
use Rattle.std.proofs.lemmas.List.Folds.{flat_map-map}
use Rattle.std.proofs.lemmas.List.Sums.{count_by-le-length, length-filter}
use Rattle.cy_values.specs.declared.numbers.NodeId.{NodeId}
use Rattle.cy_values.specs.declared.numbers.RelId.{RelId}
use Rattle.cy_values.specs.declared.rows.Cell.{Cell}
use Rattle.cy_values.specs.Bag.{count_of}
use Rattle.cy_values.proofs.Booleans.{itself_equal}
use Rattle.cy_trees.specs.Trees.{Name}
use Rattle.cy_graph.specs.declared.nodes.Node.{Node}
use Rattle.cy_graph.specs.Maps.{text_order}
use Rattle.cy_graph.specs.Graph.{Content, IsGraph, State, empty_state, has_label, node_at, node_order, rel_at, rel_order}
use Rattle.cy_index.specs.Index.{SightState, labelled_nodes}
use Rattle.cy_planner_algebra.specs.Meaning.{rows_of}
use Rattle.cy_planner_algebra.specs.Plans as plan
use Rattle.cy_planner_algebra.specs.Plans.{Plan}
use Rattle.cy_network_memory.specs.declared.memory.RowDelta.{RowDelta}
use Rattle.cy_network_operators.specs.Deltas.{IsDelta, counts, deltas_of}
use Rattle.cy_network_sources.specs.Changes.{IsChange, IsImage, Touches, image_at}
use Rattle.cy_network_sources.specs.internal.Sources.{none_was}
use Rattle.cy_network_sources.proofs.Determined.{node_number}
use Rattle.cy_network_sources.proofs.Gathering.{all_come}
use Rattle.cy_network_sources.proofs.Keys.{same_by_order}
use Rattle.cy_network_sources.proofs.Owners.{none_between}
use Rattle.cy_network_sources.specs.internal.Through.{IsNeeded, IsNodeFit, IsScanOver, node_made, recounted}
use Rattle.cy_network_sources.proofs.ScanDeltas.{node_under}
use Rattle.cy_network_sources.proofs.ThroughCounts.{each_there, node_fit}
use Rattle.cy_network_sources.proofs.ThroughScans.{column, nodes_delta}

-- a node has a label where it is among the names of its labels
same_tests : (name : Name) (names : List Name) → list_any (eq_by_cmp text_order name) names ≡ list_any (bytes_eq name) names
same_tests name [] = refl
same_tests name (other ∷ names) = λ i. is_eq-slice_cmp name other i || same_tests name names i

is_named : (label : Name) (node : Node) → has_label label node ≡ list_any (bytes_eq label) (map (λ l. l.0) node.labels)
is_named label node = entries.is_some-find text_order label node.labels ∙ same_tests label (map (λ l. l.0) node.labels)

-- one more read
pub one_read : (old new : SightState) → new ≡ record old { reads = min (old.reads + 1) (2 ^ 64 - 1) } → new.reads ≤ old.reads + 1
one_read old new is = let reads : new.reads ≡ min (old.reads + 1) (2 ^ 64 - 1) = ap (λ (s : SightState). s.reads) is in omega (arith, reads)

-- what a node makes that comes
abbrev pub come : State → List Plan → List Cell → NodeId → List RowDelta
come now ps row id = recounted [] (node_made ps id.0 (node_at id now)) row

module _ (now : State) (label : Name) (ps : List Plan) (needed : IsNeeded label ps) (row : List Cell) where
  -- one without the label makes nothing
  none_comes : (id : NodeId) (node : Node) → node_at id now ≡ Some node → has_label label node ≡ false → come now ps row id ≡ []
  none_comes id node found without =
      ap (λ (o : Option Node). recounted [] (node_made ps id.0 o) row) found
      ∙ ap (λ (rows : List (List Cell)). recounted [] rows row) (needed id.0 node (sym (is_named label node) ∙ without))
      ∙ none_between row (count_of row []) (count_of row []) refl

  -- so those with it make what all do
  pub labelled_come : (es : List (NodeId × Node)) → AllByRecursion (λ e. node_at e.0 now ≡ Some e.1) es
      → flat_map (come now ps row) (map (λ e. e.0) (filter (λ e. has_label label e.1) es)) ≡ flat_map (λ e. come now ps row e.0) es
  labelled_come [] found = refl
  labelled_come (e ∷ es) found = step (labelled_come es found.1) (has_label label e.1) refl
    where
      rest : List (NodeId × Node)
      rest = filter (λ x. has_label label x.1) es

      step : flat_map (come now ps row) (map (λ x. x.0) rest) ≡ flat_map (λ x. come now ps row x.0) es → (b : Bool) → has_label label e.1 ≡ b
          → flat_map (come now ps row) (map (λ x. x.0) (cond b (e ∷ rest) rest)) ≡ come now ps row e.0 ++ flat_map (λ x. come now ps row x.0) es
      step same true is = ap (λ made. come now ps row e.0 ++ made) same
      step same false is = same ∙ ap (λ made. made ++ flat_map (λ x. come now ps row x.0) es) (sym (none_comes e.0 e.1 found.0 is))

pub found_there : (now : State) → IsGraph now → AllByRecursion (λ e. node_at e.0 now ≡ Some e.1) now.content.nodes
found_there now graph = each_there (λ (k : NodeId). k.0) (λ n. record { 0 = n }) (λ k. refl) now.content.nodes graph.rising

-- there are no more of them than nodes
pub labelled_fewer : (label : Name) (content : Content) → length (labelled_nodes label content) ≤ length content.nodes
labelled_fewer label content =
    let many = length-map (filter (λ e. has_label label e.1) content.nodes) (λ (e : NodeId × Node). e.0) in
    let kept = length-filter (λ e. has_label label e.1) content.nodes in
    let fewer = count_by-le-length (λ e. has_label label e.1) content.nodes in
    omega (arith, many, kept, fewer)

-- ---- the graph before, where all of a graph comes

one_was : {V : Type 0} (before other now : Option V) (o : Option (Option V)) → IsImage before now o → IsImage other now o → before ≡ other
one_was before other now None first second = first ∙ sym second
one_was before other now (Some was) first second = sym first.0 ∙ second.0

nothing_there : {K V : Type 0} (R : K → K → Ordering) → ((k : K) → eq_by_cmp R k k ≡ true) → (es : List (K × V)) → ((k : K) → entries.find R k es ≡ None) → es ≡ []
nothing_there R itself [] none = refl
nothing_there R itself (e ∷ es) none =
    let wrong : Some e.1 ≡ None = sym (ap (λ b. cond b (Some e.1) (entries.find R e.0 es)) (itself e.0)) ∙ none e.0 in
    cc

module _ (before now : State) (touches : Touches) (nothing : IsChange (empty_state 1 1) now touches) (change : IsChange before now touches) where
  nodes_none : before.content.nodes ≡ []
  nodes_none =
      nothing_there node_order (λ k. same_by_order k.0 k.0 ∙ itself_equal k.0) before.content.nodes
      (λ id. one_was (node_at id before) None (node_at id now) (image_at id.0 touches.nodes) (change.nodes id) (nothing.nodes id))

  rels_none : before.content.rels ≡ []
  rels_none =
      nothing_there rel_order (λ k. same_by_order k.0 k.0 ∙ itself_equal k.0) before.content.rels
      (λ id. one_was (rel_at id before) None (rel_at id now) (image_at id.0 touches.rels) (change.rels id) (nothing.rels id))

  content_none : (empty_state 1 1).content ≡ before.content
  content_none = λ i. record { nodes = sym nodes_none i; rels = sym rels_none i }

  pub all_many : length touches.nodes ≡ length now.content.nodes
  all_many =
      node_number (empty_state 1 1) now touches (whole now) nothing (all_come now change.graph_now)
      ∙ length-map now.content.nodes (λ e. (e.0.0, None))
    where
      whole : State → Touches
      whole state = record { nodes = none_was (λ (k : NodeId). k.0) state.content.nodes; rels = none_was (λ (k : RelId). k.0) state.content.rels }

-- ---- a scan of its nodes

module _ (before now : State) (touches : Touches) (ps : List Plan) (leaf p : Plan) (over : IsScanOver before now touches ps leaf p) (is : leaf ≡ plan.nodes) where
  abbrev all : Touches
  all = record { nodes = none_was (λ (k : NodeId). k.0) now.content.nodes; rels = none_was (λ (k : RelId). k.0) now.content.rels }

  over_all : IsScanOver (empty_state 1 1) now all ps leaf p
  over_all = record {
    scan = record { parts = over.scan.parts; column = over.scan.column; sure = over.scan.sure; change = all_come now over.scan.change.graph_now };
    leaf = over.leaf;
  }

  pub all_fit : (n : ℕ) → IsNodeFit ps n (node_under now n)
  all_fit n =
      let at = column before now touches ps leaf p over in
      subst (λ (qs : List Plan). IsNodeFit qs n (node_under now n)) (sym over.scan.parts)
      (node_fit p at.0 (over.leaf ∙ is) at.1 now over.scan.change.graph_now over.scan.sure n)

  pub first_delta : IsChange (empty_state 1 1) now touches → (deltas : List RowDelta)
      → ((row : List Cell) → deltas_of row deltas ≡ flat_map (λ e. come now ps row e.0) now.content.nodes)
      → IsDelta (counts (rows_of before.content p)) (counts (rows_of now.content p)) deltas
  first_delta nothing deltas made =
      subst (λ (content : Content). IsDelta (counts (rows_of content p)) (counts (rows_of now.content p)) deltas) (content_none before now touches nothing over.scan.change)
      (nodes_delta (empty_state 1 1) now all ps leaf p over_all is deltas
      (λ row. made row
      ∙ sym (flat_map-map (λ (e : ℕ × Option Node). recounted (node_made ps e.0 e.1) (node_made ps e.0 (node_under now e.0)) row) (λ (e : NodeId × Node). (e.0.0, None)) now.content.nodes)))
