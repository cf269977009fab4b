-- CREATE leaves a graph that has grown, and rows that name what is in it.
use Rattle.std.proofs.Common.{◌≡◌, ℕ, zero, suc, Bool, true, false, cond, List, [], ◌∷◌, ◌++◌, Option, Some, None, is_some, IsSome, refl, sym, ap, subst, ◌∙◌}
use Rattle.std.specs.Prelude.{◌==◌, Result, Ok, Err, IfOk, IfSome, slice_get}
use Rattle.std.specs.List.{AllByRecursion}
use Rattle.std.specs.Option.{option_and_then, option_map_or}
use Rattle.std.proofs.lemmas.Option.{none-some, same_Some}
use Rattle.std.proofs.lemmas.Result.{IfOk-at_ok}
use Rattle.cy_values.specs.declared.numbers.NodeId.{NodeId}
use Rattle.cy_values.specs.declared.rows.Cell.{Cell}
use Rattle.cy_values.specs.declared.rows.Cell.TheVariants as cell
use Rattle.cy_values.proofs.Lists.{each_append, each_then}
use Rattle.cy_trees.specs.declared.clauses.Direction.{Direction}
use Rattle.cy_trees.specs.declared.clauses.Direction.TheVariants.{Right, Left, Either}
use Rattle.cy_trees.specs.declared.expressions.Variable.{Variable}
use Rattle.cy_trees.specs.Trees.{NodePattern, RelationshipPattern, Step, Path}
use Rattle.cy_graph.specs.Graph.{State, IsGraph, node_at, number_end, with_node, with_rel}
use Rattle.cy_graph.specs.declared.nodes.Node.{Node}
use Rattle.cy_graph.specs.declared.nodes.Rel.{Rel}
use Rattle.cy_oneshot_patterns.specs.Places.{node, column_at}
use Rattle.cy_oneshot_meaning.specs.Reading.{AreInGraph, IsInGraph}
use Rattle.cy_updates_meaning.specs.declared.faults.UpdateFault.{UpdateFault}
use Rattle.cy_updates_meaning.specs.declared.faults.UpdateFault.TheVariants.{Full}
use Rattle.cy_updates_meaning.specs.Creating.{Creation, bound_to, created, ends_of, new_relationship, next_node, next_relationship, node_at_place, node_in_cell, source_of, target_of, type_of, unless_full, with_column, with_new_node, with_node_if, with_node_place, with_path, with_relationship_column, with_step}
use Rattle.cy_updates_meaning.specs.Faults.{◌>>=◌, each_in_turn}
use Rattle.cy_updates_meaning.specs.Statements.{GraphTable, create_row}
use Rattle.cy_updates_meaning.specs.Values.{label_set, map_properties}
use Rattle.cy_updates_meaning.proofs.Entries.{found_before, found_last}
use Rattle.cy_updates_meaning.proofs.Graphs.{node_number, rel_number, with_node_is, with_rel_is}
use Rattle.cy_updates_meaning.proofs.Grown.{Grown, cell_still, grown_node, grown_nothing, grown_rel, grown_then, node_still, rel_still, row_still, rows_still}
use Rattle.cy_updates_meaning.proofs.StoredValues.{AreProperties, and_then, if_ok_weaker, label_set_rises, map_made}

-- one after another, where each of the things has a property
pub each_leads : {A S : Type 0} (P : A → Type 0) (Q : S → Type 0) (f : A → S → Result S UpdateFault) → ((x : A) (s : S) → P x → Q s → IfOk (f x s) Q)
    → (xs : List A) → AllByRecursion P xs → (s : S) → Q s → IfOk (each_in_turn f xs s) Q
each_leads P Q f step [] all s here = here
each_leads P Q f step (x ∷ xs) all s here =
    and_then Q Q (λ next. each_in_turn f xs next) (λ next there. each_leads P Q f step xs all.1 next there) (f x s) (step x s all.0 here)

-- with no property
pub each_on : {A S : Type 0} (Q : S → Type 0) (f : A → S → Result S UpdateFault) → ((x : A) (s : S) → Q s → IfOk (f x s) Q) → (xs : List A) (s : S) → Q s → IfOk (each_in_turn f xs s) Q
each_on Q f step [] s here = here
each_on Q f step (x ∷ xs) s here = and_then Q Q (λ next. each_in_turn f xs next) (λ next there. each_on Q f step xs next there) (f x s) (step x s here)

at_place : (P : Cell → Type 0) (row : List Cell) (column : ℕ) (c : Cell) → AllByRecursion P row → slice_get row column ≡ Some c → P c
at_place P [] column c all is = absurd (none-some c is)
at_place P (d ∷ row) zero c all is = subst P (same_Some d c is) all.0
at_place P (d ∷ row) (suc column) c all is = at_place P row column c all.1 is

pub bound_at : (P : Cell → Type 0) (row : List Cell) (o : Option ℕ) (c : Cell) → AllByRecursion P row → option_and_then (slice_get row) o ≡ Some c → P c
bound_at P row None c all is = absurd (none-some c is)
bound_at P row (Some column) c all is = at_place P row column c all is

-- a number is left
left_over : (P : Type 0) (next : ℕ) → ((next == number_end) ≡ false → P) → IfOk (unless_full next) (λ _. P)
left_over P next step =
    elim (next == number_end) as (λ b. (next == number_end) ≡ b → IfOk {E = UpdateFault} (cond b (Err Full) (Ok tt)) (λ _. P)) [
      | true ↦ λ h. tt
      | false ↦ λ h. step h
    ] refl

column_too : (P : Cell → Type 0) (v : Option Variable) (c : Cell) (row : List Cell) → P c → AllByRecursion P row → AllByRecursion P (with_column v c row)
column_too P None c row here all = all
column_too P (Some v) c row here all = each_append P row (c ∷ []) all (here, tt)

-- ---- node places

-- A property of the cells of a row: one that a new node keeps and has, and by which a cell names nodes of the graph.
record KeepsCells (Q : State → Cell → Type 0) : Type 0 where
  grows : (graph : State) (n : Node) (c : Cell) → Q graph c → Q (with_node n graph) c
  made : (graph : State) (n : Node) → Q (with_node n graph) (cell.Node (next_node graph))
  names : (graph : State) (id : NodeId) → Q graph (cell.Node id) → IsSome (node_at id graph)

abbrev LastThere : Creation → Type 0
LastThere c = IfSome c.last (λ id. IsSome (node_at id c.graph))

-- what a node place leaves
record Placed (Q : State → Cell → Type 0) (n : NodePattern) (old new : Creation) : Type 0 where
  is : IsGraph new.graph
  row : AllByRecursion (Q new.graph) new.row
  last : LastThere new
  stands : new.last ≡ node_at_place n old
  grown : Grown old.graph new.graph
  same_rels : new.graph.next_rel ≡ old.graph.next_rel

module _ (Q : State → Cell → Type 0) (keeps : KeepsCells Q) (before : List Cell) (n : NodePattern) (old : Creation) (is : IsGraph old.graph) (row : AllByRecursion (Q old.graph) old.row) where
  named_node : (c : Cell) → Q old.graph c → IfSome (node_in_cell c) (λ id. IsSome (node_at id old.graph))
  named_node (cell.Node id) here = keeps.names old.graph id here
  named_node _ here = tt

  new_placed : bound_to n old.row ≡ None → IfOk (with_new_node before n old) (Placed Q n old)
  new_placed free =
      and_then AreProperties (Placed Q n old) (λ props. unless_full old.graph.next_node >>= λ _. Ok (record {
        graph = with_node (record { labels = label_set n.labels; props = props }) old.graph;
        row = with_column n.variable (cell.Node (next_node old.graph)) old.row;
        last = Some (next_node old.graph);
      }))
      (λ props good.
      let made : Node = record { labels = label_set n.labels; props = props } in
      let next : State = with_node made old.graph in
      let new : Creation = record { graph = next; row = with_column n.variable (cell.Node (next_node old.graph)) old.row; last = Some (next_node old.graph) } in
      and_then (λ _. Placed Q n old new) (Placed Q n old) (λ _. Ok new) (λ _ there. there) (unless_full old.graph.next_node)
      (left_over (Placed Q n old new) old.graph.next_node (λ left. record {
        is = with_node_is old.graph made is (label_set_rises n.labels, good) left;
        row = column_too (Q next) n.variable (cell.Node (next_node old.graph)) old.row (keeps.made old.graph made) (each_then (Q old.graph) (Q next) (keeps.grows old.graph made) old.row row);
        last = found_last node_number old.graph.content.nodes (next_node old.graph, made);
        stands = ap (λ o. option_map_or node_in_cell o (Some (next_node old.graph))) (sym free);
        grown = grown_node made old.graph;
        same_rels = refl;
      })))
      (map_properties old.graph before n.properties) (map_made old.graph before n.properties)

  placed_if : (o : Option Cell) → bound_to n old.row ≡ o → IfOk (with_node_if before n o old) (Placed Q n old)
  placed_if None free = new_placed free
  placed_if (Some c) bound = record {
    is = is;
    row = row;
    last = named_node c (bound_at (Q old.graph) old.row (column_at (node n)) c row bound);
    stands = ap (λ o. option_map_or node_in_cell o (Some (next_node old.graph))) (sym bound);
    grown = grown_nothing old.graph;
    same_rels = refl;
  }

  place_made : IfOk (with_node_place before n old) (Placed Q n old)
  place_made = placed_if (bound_to n old.row) refl

-- ---- relationships

record Made (r : Rel) (graph : State) (left right : Option NodeId) : Type 0 where
  props : AreProperties r.props
  remains : (graph.next_rel == number_end) ≡ false
  from : NodeId
  to : NodeId
  from_is : left ≡ Some from
  to_is : right ≡ Some to
  source : (P : NodeId → Bool) → P from ≡ true → P to ≡ true → P r.source ≡ true
  target : (P : NodeId → Bool) → P from ≡ true → P to ≡ true → P r.target ≡ true

source_either : (d : Direction) (from to : NodeId) (P : NodeId → Bool) → P from ≡ true → P to ≡ true → P (source_of d from to) ≡ true
source_either Right from to P left right = left
source_either Left from to P left right = right
source_either Either from to P left right = left

target_either : (d : Direction) (from to : NodeId) (P : NodeId → Bool) → P from ≡ true → P to ≡ true → P (target_of d from to) ≡ true
target_either Right from to P left right = right
target_either Left from to P left right = left
target_either Either from to P left right = right

both_there : (left right : Option NodeId) → IfOk (ends_of left right) (λ ends. (left ≡ Some ends.0) × (right ≡ Some ends.1))
both_there (Some from) (Some to) = (refl, refl)
both_there None right = tt
both_there (Some from) None = tt

module _ (before : List Cell) (r : RelationshipPattern) (right : Option NodeId) (old : Creation) where
  abbrev IsMade : Rel → Type 0
  IsMade made = Made made old.graph old.last right

  relationship_made : IfOk (new_relationship before r right old) IsMade
  relationship_made =
      and_then AreProperties IsMade (λ props. ends_of old.last right >>= λ ends. unless_full old.graph.next_rel >>= λ _. Ok (record {
        source = source_of r.direction ends.0 ends.1;
        target = target_of r.direction ends.0 ends.1;
        kind = type_of r.types;
        props = props;
      }))
      (λ props good.
      and_then (λ (ends : NodeId × NodeId). (old.last ≡ Some ends.0) × (right ≡ Some ends.1)) IsMade (λ ends. unless_full old.graph.next_rel >>= λ _. Ok (record {
        source = source_of r.direction ends.0 ends.1;
        target = target_of r.direction ends.0 ends.1;
        kind = type_of r.types;
        props = props;
      }))
      (λ ends are.
      let made : Rel = record { source = source_of r.direction ends.0 ends.1; target = target_of r.direction ends.0 ends.1; kind = type_of r.types; props = props } in
      and_then (λ _. IsMade made) IsMade (λ _. Ok made) (λ _ there. there) (unless_full old.graph.next_rel)
      (left_over (IsMade made) old.graph.next_rel (λ left. record {
        props = good;
        remains = left;
        from = ends.0;
        to = ends.1;
        from_is = are.0;
        to_is = are.1;
        source = source_either r.direction ends.0 ends.1;
        target = target_either r.direction ends.0 ends.1;
      })))
      (ends_of old.last right) (both_there old.last right))
      (map_properties old.graph before r.properties) (map_made old.graph before r.properties)

-- ---- cells

abbrev InGraph : State → Cell → Type 0
InGraph graph c = IsInGraph graph.content c

abbrev InGraphWith : Rel → State → Cell → Type 0
InGraphWith r graph c = IsInGraph (with_rel r graph).content c

in_graph_keeps : KeepsCells InGraph
in_graph_keeps = record {
  grows = λ graph n c here. cell_still graph.content (with_node n graph).content (λ id there. found_before node_number id graph.content.nodes ((next_node graph, n) ∷ []) there) (λ id there. there) c here;
  made = λ graph n. found_last node_number graph.content.nodes (next_node graph, n);
  names = λ graph id here. here;
}

in_graph_with_keeps : (r : Rel) → KeepsCells (InGraphWith r)
in_graph_with_keeps r = record {
  grows = λ graph n c here. cell_still (with_rel r graph).content (with_rel r (with_node n graph)).content (λ id there. found_before node_number id graph.content.nodes ((next_node graph, n) ∷ []) there) (λ id there. there) c here;
  made = λ graph n. found_last node_number graph.content.nodes (next_node graph, n);
  names = λ graph id here. here;
}

-- ---- paths

-- how far a clause has come on a row, from a graph
pub record Good (first : State) (c : Creation) : Type 0 where
  pub is : IsGraph c.graph
  pub row : AllByRecursion (InGraph c.graph) c.row
  pub last : LastThere c
  pub grown : Grown first c.graph

there_if : (o : Option NodeId) (id : NodeId) (P : NodeId → Type 0) → o ≡ Some id → IfSome o P → P id
there_if None id P is here = absurd (none-some id is)
there_if (Some other) id P is here = subst P (same_Some other id is) here

module _ (first : State) (before : List Cell) where
  pub start_good : (n : NodePattern) (c : Creation) → Good first c → IfOk (with_node_place before n c) (Good first)
  start_good n c good =
      if_ok_weaker (Placed InGraph n c) (Good first)
      (λ next p. record { is = p.is; row = p.row; last = p.last; grown = grown_then first c.graph next.graph good.grown p.grown })
      (with_node_place before n c) (place_made InGraph in_graph_keeps before n c good.is good.row)

  -- the row with the column of a relationship that is made
  named_row : (s : Step) (c : Creation) → Good first c → (made : Rel)
      → AllByRecursion (InGraphWith made c.graph) (with_column s.relationship.variable (cell.Rel (next_relationship c.graph)) c.row)
  named_row s c good made =
      column_too (InGraphWith made c.graph) s.relationship.variable (cell.Rel (next_relationship c.graph)) c.row
      (found_last rel_number c.graph.content.rels (next_relationship c.graph, made))
      (row_still c.graph.content (with_rel made c.graph).content (λ id there. there)
      (λ id there. found_before rel_number id c.graph.content.rels ((next_relationship c.graph, made) ∷ []) there) c.row good.row)

  -- the ends of the relationship of a step are there once the node after it is, and a number is left for it
  pub step_ends : (s : Step) (c : Creation) → Good first c → (made : Rel) (next : Creation)
      → new_relationship before s.relationship (node_at_place s.node (with_relationship_column s.relationship c)) (with_relationship_column s.relationship c) ≡ Ok made
      → with_node_place before s.node (with_relationship_column s.relationship c) ≡ Ok next
      → IsSome (node_at made.source next.graph) × IsSome (node_at made.target next.graph) × ((next.graph.next_rel == number_end) ≡ false)
  step_ends s c good made next rel place =
      let named : Creation = with_relationship_column s.relationship c in
      let is_made : Made made c.graph c.last (node_at_place s.node named) =
      IfOk-at_ok (λ (m : Rel). Made m c.graph c.last (node_at_place s.node named)) rel (relationship_made before s.relationship (node_at_place s.node named) named) in
      let p : Placed (InGraphWith made) s.node named next =
      IfOk-at_ok (Placed (InGraphWith made) s.node named) place (place_made (InGraphWith made) (in_graph_with_keeps made) before s.node named good.is (named_row s c good made)) in
      let from : IsSome (node_at is_made.from next.graph) =
      node_still c.graph next.graph p.grown is_made.from (there_if c.last is_made.from (λ id. IsSome (node_at id c.graph)) is_made.from_is good.last) in
      let to : IsSome (node_at is_made.to next.graph) =
      there_if next.last is_made.to (λ id. IsSome (node_at id next.graph)) (p.stands ∙ is_made.to_is) p.last in (
        is_made.source (λ id. is_some (node_at id next.graph)) from to,
        is_made.target (λ id. is_some (node_at id next.graph)) from to,
        ap (λ k. k == number_end) p.same_rels ∙ is_made.remains,
      )

  pub step_good : (s : Step) (c : Creation) → Good first c → IfOk (with_step before s c) (Good first)
  step_good s c good =
      let named : Creation = with_relationship_column s.relationship c in
      and_then (λ made. Made made c.graph c.last (node_at_place s.node named)) (Good first)
      (λ made. with_node_place before s.node named >>= λ next. Ok (record next { graph = with_rel made next.graph }))
      (λ made is_made.
      and_then (Placed (InGraphWith made) s.node named) (Good first) (λ next. Ok (record next { graph = with_rel made next.graph }))
      (λ next p.
      let from : IsSome (node_at is_made.from next.graph) =
      node_still c.graph next.graph p.grown is_made.from (there_if c.last is_made.from (λ id. IsSome (node_at id c.graph)) is_made.from_is good.last) in
      let to : IsSome (node_at is_made.to next.graph) =
      there_if next.last is_made.to (λ id. IsSome (node_at id next.graph)) (p.stands ∙ is_made.to_is) p.last in
      let left : (next.graph.next_rel == number_end) ≡ false = ap (λ k. k == number_end) p.same_rels ∙ is_made.remains in
      record {
        is = with_rel_is next.graph made p.is is_made.props left (is_made.source (λ id. is_some (node_at id next.graph)) from to)
            (is_made.target (λ id. is_some (node_at id next.graph)) from to);
        row = p.row;
        last = p.last;
        grown = grown_then first next.graph (with_rel made next.graph) (grown_then first c.graph next.graph good.grown p.grown) (grown_rel made next.graph);
      })
      (with_node_place before s.node named)
      (place_made (InGraphWith made) (in_graph_with_keeps made) before s.node named good.is (named_row s c good made)))
      (new_relationship before s.relationship (node_at_place s.node named) named) (relationship_made before s.relationship (node_at_place s.node named) named)

  pub path_good : (p : Path) (c : Creation) → Good first c → IfOk (with_path before p c) (Good first)
  path_good p c good =
      and_then (Good first) (Good first) (λ next. each_in_turn (with_step before) p.steps next)
      (λ next there. each_on (Good first) (with_step before) step_good p.steps next there) (with_node_place before p.start c) (start_good p.start c good)

  pub created_good : (paths : List Path) → IsGraph first → AllByRecursion (InGraph first) before → IfOk (created first paths before) (Good first)
  created_good paths is row =
      each_on (Good first) (with_path before) path_good paths (record { graph = first; row = before; last = None })
      (record { is = is; row = row; last = tt; grown = grown_nothing first })

-- ---- rows

-- what the clause has made of the rows so far, from a graph
pub record GoodTable (first : State) (t : GraphTable) : Type 0 where
  pub is : IsGraph t.graph
  pub rows : AreInGraph t.graph.content t.rows
  pub grown : Grown first t.graph

module _ (first : State) (paths : List Path) where
  row_good : (row : List Cell) (t : GraphTable) → AllByRecursion (InGraph first) row → GoodTable first t → IfOk (create_row paths row t) (GoodTable first)
  row_good row t here good =
      and_then (Good t.graph) (GoodTable first) (λ made. Ok (record { graph = made.graph; rows = t.rows ++ made.row ∷ [] }))
      (λ made done. record {
        is = done.is;
        rows = each_append (AllByRecursion (InGraph made.graph)) t.rows (made.row ∷ [])
            (rows_still t.graph.content made.graph.content (node_still t.graph made.graph done.grown) (rel_still t.graph made.graph done.grown) t.rows good.rows) (done.row, tt);
        grown = grown_then first t.graph made.graph good.grown done.grown;
      })
      (created t.graph paths row)
      (created_good t.graph row paths good.is (row_still first.content t.graph.content (node_still first t.graph good.grown) (rel_still first t.graph good.grown) row here))

  pub rows_good : (rows : List (List Cell)) → IsGraph first → AreInGraph first.content rows → IfOk (each_in_turn (create_row paths) rows (record { graph = first; rows = [] })) (GoodTable first)
  rows_good rows is there =
      each_leads (AllByRecursion (InGraph first)) (GoodTable first) (create_row paths) row_good rows there (record { graph = first; rows = [] })
      (record { is = is; rows = tt; grown = grown_nothing first })
