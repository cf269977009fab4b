-- Attributes of the entities in cells, and what rows make that name touched entities.
use Rattle.std.proofs.Common.{◌≡◌, ℕ, ◌+◌, ◌≤◌, ◌∷◌, [], ◌++◌, List, Option, length, length-append, sym, ap, subst, ◌∙◌, arith}
use Rattle.std.specs.Prelude.{flat_map}
use Rattle.std.proofs.lemmas.List.{append_assoc}
use Rattle.cy_values.specs.declared.numbers.NodeId.{NodeId}
use Rattle.cy_values.specs.declared.numbers.RelId.{RelId}
use Rattle.cy_values.specs.declared.scalars.Value.{Value}
use Rattle.cy_values.specs.declared.rows.Cell.{Cell}
use Rattle.cy_values.specs.declared.rows.Cell.TheVariants as cell
use Rattle.cy_graph.specs.declared.nodes.Node.{Node}
use Rattle.cy_graph.specs.declared.nodes.Rel.{Rel}
use Rattle.cy_graph.specs.Graph.{State, Versions, node_at, rel_at}
use Rattle.cy_network_memory.specs.Counts.{Counts}
use Rattle.cy_planner_algebra.specs.declared.operators.Attribute.{Attribute}
use Rattle.cy_planner_algebra.specs.Expressions.{cell_at}
use Rattle.cy_planner_algebra.specs.Meaning.{attribute_of}
use Rattle.cy_network_operators.proofs.DeltaLemmas.{made_more}
use Rattle.cy_network_memory.specs.declared.memory.RowDelta.{RowDelta}
use Rattle.cy_network_operators.specs.Deltas.{deltas_of}
use Rattle.cy_network_sources.specs.declared.attributes.Attributes.{Attributes}
use Rattle.cy_network_sources.specs.Changes.{IsChange, Touches}
use Rattle.cy_network_sources.specs.internal.Attributes.{AreAttributes, reattributed, still, valued}
use Rattle.cy_network_sources.specs.Attributes.{node_attribute, rel_attribute}
use Rattle.cy_network_sources.proofs.LookupLemmas.{at_node, at_rel, valued_is}

-- the attributes of the entity in a cell
pub node_cell : (now : State) (touches : Touches) (attribute : Attribute) (id : NodeId) (c : Cell) → c ≡ cell.Node id → (values : Attributes)
    → ((before : State) → IsChange before now touches → AreAttributes (node_attribute attribute (node_at id before)) (node_attribute attribute (node_at id now)) values)
    → (before : State) → IsChange before now touches → AreAttributes (attribute_of before.content attribute c) (attribute_of now.content attribute c) values
node_cell now touches attribute id c is values are before change =
    subst (λ (a : Value). AreAttributes a (attribute_of now.content attribute c) values) (sym (ap (attribute_of before.content attribute) is ∙ at_node before attribute id))
    (subst (λ (b : Value). AreAttributes (node_attribute attribute (node_at id before)) b values) (sym (ap (attribute_of now.content attribute) is ∙ at_node now attribute id)) (are before change))

pub rel_cell : (now : State) (touches : Touches) (attribute : Attribute) (id : RelId) (c : Cell) → c ≡ cell.Rel id → (values : Attributes)
    → ((before : State) → IsChange before now touches → AreAttributes (rel_attribute attribute (rel_at id before)) (rel_attribute attribute (rel_at id now)) values)
    → (before : State) → IsChange before now touches → AreAttributes (attribute_of before.content attribute c) (attribute_of now.content attribute c) values
rel_cell now touches attribute id c is values are before change =
    subst (λ (a : Value). AreAttributes a (attribute_of now.content attribute c) values) (sym (ap (attribute_of before.content attribute) is ∙ at_rel before attribute id))
    (subst (λ (b : Value). AreAttributes (rel_attribute attribute (rel_at id before)) b values) (sym (ap (attribute_of now.content attribute) is ∙ at_rel now attribute id)) (are before change))

-- and those of the entity in one that is the same
pub same_cell : (now : State) (touches : Touches) (attribute : Attribute) (c other : Cell) → c ≡ other → (values : Attributes)
    → ((before : State) → IsChange before now touches → AreAttributes (attribute_of before.content attribute other) (attribute_of now.content attribute other) values)
    → (before : State) → IsChange before now touches → AreAttributes (attribute_of before.content attribute c) (attribute_of now.content attribute c) values
same_cell now touches attribute c other is values are before change =
    subst (λ (x : Cell). AreAttributes (attribute_of before.content attribute x) (attribute_of now.content attribute x) values) (sym is) (are before change)

-- ---- what the three passes make together

module _ (touches : Touches) (column : ℕ) (attribute : Attribute) where
  abbrev pub node_part : State → Versions → Counts → Counts → List Cell → List RowDelta
  node_part before graph was staged row = flat_map (λ (e : ℕ × Option Node). still before.content graph.now.content column attribute was staged (cell.Node (record { 0 = e.0 })) row) touches.nodes

  abbrev pub rel_part : State → Versions → Counts → Counts → List Cell → List RowDelta
  rel_part before graph was staged row = flat_map (λ (e : ℕ × Option Rel). still before.content graph.now.content column attribute was staged (cell.Rel (record { 0 = e.0 })) row) touches.rels

  -- a part that is made over the same graph and counts, where they were named otherwise
  over : (part : State → Versions → Counts → Counts → List Cell → List RowDelta) (graph other : Versions) (was staged other_was other_staged : Counts) → other ≡ graph → other_was ≡ was → other_staged ≡ staged
      → (first second : List RowDelta)
      → ((before : State) → IsChange before other.now touches → (row : List Cell) → deltas_of row second ≡ deltas_of row first ++ part before other other_was other_staged row)
      → (before : State) → IsChange before graph.now touches → (row : List Cell) → deltas_of row second ≡ deltas_of row first ++ part before graph was staged row
  over part graph other was staged other_was other_staged same_graph same_was same_staged first second made before change row =
      made before (subst (λ (g : Versions). IsChange before g.now touches) (sym same_graph) change) row
      ∙ ap (λ (g : Versions). deltas_of row first ++ part before g other_was other_staged row) same_graph
      ∙ ap (λ (w : Counts). deltas_of row first ++ part before graph w other_staged row) same_was
      ∙ ap (λ (s : Counts). deltas_of row first ++ part before graph was s row) same_staged

  pub assembled : (graph graph_nodes graph_rels : Versions) → graph_nodes ≡ graph → graph_rels ≡ graph
      → (was staged was_nodes staged_nodes was_rels staged_rels : Counts) → was_nodes ≡ was → staged_nodes ≡ staged → was_rels ≡ was → staged_rels ≡ staged
      → (deltas none changed nodes rels : List RowDelta) → none ≡ []
      → ((before : State) → IsChange before graph.now touches → changed ≡ none ++ flat_map (reattributed before.content graph.now.content column attribute) deltas)
      → ((before : State) → IsChange before graph_nodes.now touches → (row : List Cell) → deltas_of row nodes ≡ deltas_of row changed ++ node_part before graph_nodes was_nodes staged_nodes row)
      → ((before : State) → IsChange before graph_rels.now touches → (row : List Cell) → deltas_of row rels ≡ deltas_of row nodes ++ rel_part before graph_rels was_rels staged_rels row)
      → (before : State) → IsChange before graph.now touches → (row : List Cell)
      → deltas_of row rels ≡ deltas_of row (flat_map (reattributed before.content graph.now.content column attribute) deltas) ++ (node_part before graph was staged row ++ rel_part before graph was staged row)
  assembled graph graph_nodes graph_rels same_nodes same_rels was staged was_nodes staged_nodes was_rels staged_rels is_was_nodes is_staged_nodes is_was_rels is_staged_rels deltas none changed nodes rels empty makes_changed makes_nodes makes_rels before change row =
      over rel_part graph graph_rels was staged was_rels staged_rels same_rels is_was_rels is_staged_rels nodes rels makes_rels before change row
      ∙ ap (λ made. made ++ rel_part before graph was staged row) (over node_part graph graph_nodes was staged was_nodes staged_nodes same_nodes is_was_nodes is_staged_nodes changed nodes makes_nodes before change row)
      ∙ ap (λ made. deltas_of row made ++ node_part before graph was staged row ++ rel_part before graph was staged row)
      (makes_changed before change ∙ ap (λ xs. xs ++ flat_map (reattributed before.content graph.now.content column attribute) deltas) empty)
      ∙ append_assoc (deltas_of row (flat_map (reattributed before.content graph.now.content column attribute) deltas)) (node_part before graph was staged row) (rel_part before graph was staged row)

-- what one entity makes, over the same graph and memory, where they were named otherwise
pub one_entity : (touches : Touches) (attribute : Attribute) (entity : Cell) (graph other : Versions) (columns other_columns : List ℕ) (was other_was staged other_staged : Counts)
    → other ≡ graph → other_columns ≡ columns → other_was ≡ was → other_staged ≡ staged → (first second : List RowDelta)
    → ((before : State) (column : ℕ) → IsChange before other.now touches → other_columns ≡ column ∷ [] → (row : List Cell)
    → deltas_of row second ≡ deltas_of row first ++ still before.content other.now.content column attribute other_was other_staged entity row)
    → (before : State) (column : ℕ) → IsChange before graph.now touches → columns ≡ column ∷ [] → (row : List Cell)
    → deltas_of row second ≡ deltas_of row first ++ still before.content graph.now.content column attribute was staged entity row
one_entity touches attribute entity graph other columns other_columns was other_was staged other_staged same_graph same_columns same_was same_staged first second made before column change keys row =
    made before column (subst (λ (g : Versions). IsChange before g.now touches) (sym same_graph) change) (same_columns ∙ keys) row
    ∙ ap (λ (g : Versions). deltas_of row first ++ still before.content g.now.content column attribute other_was other_staged entity row) same_graph
    ∙ ap (λ (w : Counts). deltas_of row first ++ still before.content graph.now.content column attribute w other_staged entity row) same_was
    ∙ ap (λ (s : Counts). deltas_of row first ++ still before.content graph.now.content column attribute was s entity row) same_staged

-- what was made and what is left to be made stay the same together
pub walked : {X : Type 0} (f : X → List RowDelta) (x : X) (left : List X) (first second all : List RowDelta) → second ≡ first ++ f x → first ++ flat_map f (x ∷ left) ≡ all → second ++ flat_map f left ≡ all
walked f x left first second all is rest = ap (λ made. made ++ flat_map f left) is ∙ append_assoc first (f x) (flat_map f left) ∙ rest

-- what one more row that changes makes
pub changed_step : (graph other : Versions) → other ≡ graph → (touches : Touches) (column : ℕ) (attribute : Attribute) (s : RowDelta) (values : Attributes) (first so_far made yielded : List RowDelta)
    → ((before : State) → IsChange before other.now touches → AreAttributes (attribute_of before.content attribute (cell_at s.row column)) (attribute_of other.now.content attribute (cell_at s.row column)) values)
    → ((before : State) → IsChange before graph.now touches → so_far ≡ first ++ flat_map (reattributed before.content graph.now.content column attribute) yielded)
    → made ≡ so_far ++ valued values s
    → (before : State) → IsChange before graph.now touches → made ≡ first ++ flat_map (reattributed before.content graph.now.content column attribute) (yielded ++ s ∷ [])
changed_step graph other same touches column attribute s values first so_far made yielded are makes is before change =
    is
    ∙ ap (λ xs. xs ++ valued values s) (makes before change)
    ∙ append_assoc first (flat_map (reattributed before.content graph.now.content column attribute) yielded) (valued values s)
    ∙ ap (λ v. first ++ (flat_map (reattributed before.content graph.now.content column attribute) yielded ++ v))
    (valued_is before.content graph.now.content column attribute s values
    (subst (λ (g : Versions). AreAttributes (attribute_of before.content attribute (cell_at s.row column)) (attribute_of g.now.content attribute (cell_at s.row column)) values) same
    (are before (subst (λ (g : Versions). IsChange before g.now touches) (sym same) change))))
    ∙ ap (λ xs. first ++ xs) (sym (made_more (reattributed before.content graph.now.content column attribute) yielded s))

pub one_more_read : {A : Type 0} (xs : List A) (x : A) (start so_far new : ℕ) → so_far ≤ start + length xs → new ≤ so_far + 1 → new ≤ start + length (xs ++ x ∷ [])
one_more_read xs x start so_far new before one = let longer = length-append xs (x ∷ []) in omega (arith, longer, before, one)

pub one_less : {A : Type 0} (s t : List A) (x : A) (start so_far new all : ℕ) → s ≡ x ∷ t → so_far + length s ≤ start + all → new ≤ so_far + 1 → new + length t ≤ start + all
one_less s t x start so_far new all is before one = let same : length s ≡ length (x ∷ t) = ap (λ xs. length xs) is in omega (arith, same, before, one)
