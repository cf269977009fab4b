-- CREATE as the code does it: step after step, path after path, row after row.
use Rattle.std.proofs.Common.{◌≡◌, ◌≢◌, ℕ, true, false, cond, List, [], ◌∷◌, ◌++◌, Option, Some, None, IsSome, refl, sym, ap, subst, ◌∙◌, arith, inl, inr}
use Rattle.std.specs.Prelude.{⊤, ◌==◌, ◌⊎◌, option_map, slice_get, Result, Ok, Err, IfOk}
use Rattle.std.specs.Option.{option_and_then, option_map_or}
use Rattle.std.proofs.lemmas.Bool.Decides.{nat_tests}
use Rattle.std.proofs.lemmas.Result.{IfOk-at_ok}
use Rattle.cy_values.specs.declared.numbers.NodeId.{NodeId}
use Rattle.cy_values.specs.declared.numbers.RelId.{RelId}
use Rattle.cy_values.specs.declared.scalars.Value.{Value}
use Rattle.cy_values.specs.declared.rows.Cell.{Cell}
use Rattle.cy_values.specs.declared.rows.Cell.TheVariants as cell
use Rattle.cy_trees.specs.Trees.{Name, NodePattern, RelationshipPattern, Step, Path}
use Rattle.cy_graph.specs.Graph.{State, IsGraph, node_at, number_end, with_node, with_rel}
use Rattle.cy_graph.specs.declared.faults.GraphFault.{GraphFault}
use Rattle.cy_graph.specs.declared.faults.GraphFault.TheVariants as refusal
use Rattle.cy_graph.specs.declared.nodes.Rel.{Rel}
use Rattle.cy_oneshot_meaning.specs.Reading.{AreInGraph}
use Rattle.cy_oneshot_meaning.specs.internal.Answers.{IsRowThere}
use Rattle.cy_updates.specs.declared.writes.creating.Made.{Made}
use Rattle.cy_updates_meaning.specs.declared.faults.UpdateFault.{UpdateFault}
use Rattle.cy_updates_meaning.specs.declared.faults.UpdateFault.TheVariants.{Full, NoMemory}
use Rattle.cy_updates_meaning.specs.Creating.{Creation, bound_to, created, with_relationship, new_relationship, next_node, next_relationship, node_at_place, node_in_cell, unless_full, with_column, with_new_node, with_node_if, with_node_place, with_path, with_relationship_column, with_step}
use Rattle.cy_updates_meaning.specs.Faults.{◌>>=◌, each_in_turn, of_graph}
use Rattle.cy_updates_meaning.specs.Statements.{create_row}
use Rattle.cy_updates_meaning.specs.Values.{label_set, map_properties}
use Rattle.cy_updates_meaning.specs.internal.Answers.{graph_table}
use Rattle.cy_updates.specs.internal.Creating.{IsCreation, variable_column, creation, graph_row, row_created, row_so_far}
use Rattle.cy_updates_meaning.proofs.Created.{Good, created_good, path_good, start_good, step_ends, step_good}
use Rattle.cy_updates_meaning.proofs.InTurn.{same_ok}
use Rattle.cy_updates_meaning.proofs.Grown.{grown_nothing, node_still, rel_still, rows_still}

-- ---- what stays true

pub good_of : (c : Creation) → IsGraph c.graph → IsCreation c → Good c.graph c
good_of c is so_far = record { is = is; row = so_far.row; last = so_far.last; grown = grown_nothing c.graph }

pub is_creation : (first : State) (c : Creation) → Good first c → IsCreation c
is_creation first c good = record { row = good.row; last = good.last }

module _ (before : List Cell) (c next : Creation) (is : IsGraph c.graph) (so_far : IsCreation c) where
  pub start_kept : (n : NodePattern) → with_node_place before n c ≡ Ok next → IsCreation next
  start_kept n done = is_creation c.graph next (IfOk-at_ok (Good c.graph) done (start_good c.graph before n c (good_of c is so_far)))

  pub step_kept : (s : Step) → with_step before s c ≡ Ok next → IsCreation next
  step_kept s done = is_creation c.graph next (IfOk-at_ok (Good c.graph) done (step_good c.graph before s c (good_of c is so_far)))

  pub path_kept : (p : Path) → with_path before p c ≡ Ok next → IsCreation next
  path_kept p done = is_creation c.graph next (IfOk-at_ok (Good c.graph) done (path_good c.graph before p c (good_of c is so_far)))

-- ---- rows

module _ (first last : State) (paths : List Path) (row longer : List Cell) where
  done_by : (r : Result Creation UpdateFault) → (r >>= λ made. Ok (graph_row made.graph made.row)) ≡ Ok (graph_row last longer)
      → (done : List (List Cell)) → (r >>= λ made. Ok (graph_table made.graph (done ++ made.row ∷ []))) ≡ Ok (graph_table last (done ++ longer ∷ []))
  done_by (Ok made) is done =
      ap (λ (p : State × List Cell). Ok (graph_table p.0 (done ++ p.1 ∷ []))) (same_ok (graph_row made.graph made.row) (graph_row last longer) is)
  done_by (Err why) is done = cc

  -- the row is done after others
  pub row_done : row_created first paths row ≡ Ok (graph_row last longer) → (done : List (List Cell)) → create_row paths row (graph_table first done) ≡ Ok (graph_table last (done ++ longer ∷ []))
  row_done is done = done_by (created first paths row) is done

  kept_by : (r : Result Creation UpdateFault) → IfOk r (Good first) → (r >>= λ made. Ok (graph_row made.graph made.row)) ≡ Ok (graph_row last longer)
      → (rows : List (List Cell)) → AreInGraph first.content rows → AreInGraph last.content rows
  kept_by (Ok made) good is rows there =
      let graphs : made.graph ≡ last = ap (λ (p : State × List Cell). p.0) (same_ok (graph_row made.graph made.row) (graph_row last longer) is) in
      subst (λ (g : State). AreInGraph g.content rows) graphs
      (rows_still first.content made.graph.content (node_still first made.graph good.grown) (rel_still first made.graph good.grown) rows there)
  kept_by (Err why) good is rows there = cc

  -- what the other rows name is still there
  pub rows_kept : IsGraph first → IsRowThere first.content row → row_created first paths row ≡ Ok (graph_row last longer) → (rows : List (List Cell)) → AreInGraph first.content rows → AreInGraph last.content rows
  rows_kept is here done rows there = kept_by (created first paths row) (created_good first row paths is here) done rows there

pub row_stopped : (first : State) (paths : List Path) (row : List Cell) (why : UpdateFault) → row_created first paths row ≡ Err why → (done : List (List Cell))
    → create_row paths row (graph_table first done) ≡ Err why
row_stopped first paths row why is done = by (created first paths row) is
  where
    by : (r : Result Creation UpdateFault) → (r >>= λ made. Ok (graph_row made.graph made.row)) ≡ Err why → (r >>= λ made. Ok (graph_table made.graph (done ++ made.row ∷ []))) ≡ Err why
    by (Ok made) is = cc
    by (Err other) is = ap Err (let e : other ≡ why = cc in e)

-- ---- paths

module _ (before : List Cell) (p : Path) (c : Creation) where
  pub path_at_start : (why : UpdateFault) → with_node_place before p.start c ≡ Err why → with_path before p c ≡ Err why
  path_at_start why stops = ap (λ r. r >>= λ next. each_in_turn (with_step before) p.steps next) stops

  pub path_after : (next : Creation) → with_node_place before p.start c ≡ Ok next → with_path before p c ≡ each_in_turn (with_step before) p.steps next
  path_after next done = ap (λ r. r >>= λ next. each_in_turn (with_step before) p.steps next) done

-- ---- steps

module _ (graph : State) (before : List Cell) (made after : Made) (r : RelationshipPattern) (id : RelId) (number : id.0 ≡ graph.next_rel)
    (column : row_so_far before after ≡ with_column r.variable (cell.Rel id) (row_so_far before made)) (last : after.last ≡ made.last) where
  number_is : id ≡ next_relationship graph
  number_is = λ i. record { 0 = number i }

  -- with the column of the relationship
  pub named_is : creation graph before after ≡ with_relationship_column r (creation graph before made)
  named_is = λ i. record {
    graph = graph;
    row = (column ∙ ap (λ (k : RelId). with_column r.variable (cell.Rel k) (row_so_far before made)) number_is) i;
    last = last i;
  }

-- the node at a place
pub place_is : (graph : State) (before : List Cell) (made : Made) (n : NodePattern) (next : NodeId) → next.0 ≡ graph.next_node → (o : Option NodeId)
    → o ≡ option_map_or node_in_cell (option_and_then (slice_get (before ++ made.cells.items)) (variable_column n.variable)) (Some next) → o ≡ node_at_place n (creation graph before made)
place_is graph before made n next number o is =
    is ∙ (λ i. option_map_or node_in_cell (option_and_then (slice_get (before ++ made.cells.items)) (variable_column n.variable)) (let k : NodeId = record { 0 = number i } in Some k))

module _ (before : List Cell) (s : Step) (c now : Creation) (is : now ≡ with_relationship_column s.relationship c) (right : Option NodeId) (at : right ≡ node_at_place s.node now) where
  abbrev then_place : Rel → Result Creation UpdateFault
  then_place made = with_node_place before s.node now >>= λ next. Ok (record next { graph = with_rel made next.graph })

  unfolded : with_step before s c ≡ (new_relationship before s.relationship right now >>= then_place)
  unfolded = ap (with_relationship before s) (sym is) ∙ (λ i. new_relationship before s.relationship (sym at i) now >>= then_place)

  pub step_at_rel : (why : UpdateFault) → new_relationship before s.relationship right now ≡ Err why → with_step before s c ≡ Err why
  step_at_rel why stops = unfolded ∙ ap (λ r. r >>= then_place) stops

  module _ (rel : Rel) (related : new_relationship before s.relationship right now ≡ Ok rel) where
    after_rel : with_step before s c ≡ then_place rel
    after_rel = unfolded ∙ ap (λ r. r >>= then_place) related

    pub step_at_place : (why : UpdateFault) → with_node_place before s.node now ≡ Err why → with_step before s c ≡ Err why
    step_at_place why stops = after_rel ∙ ap (λ r. r >>= λ (next : Creation). Ok (record next { graph = with_rel rel next.graph })) stops

    pub step_done : (next : Creation) → with_node_place before s.node now ≡ Ok next → with_step before s c ≡ Ok (record next { graph = with_rel rel next.graph })
    step_done next placed = after_rel ∙ ap (λ r. r >>= λ (next : Creation). Ok (record next { graph = with_rel rel next.graph })) placed

    -- the ends are there, and a number is left
    pub ends_there : IsGraph c.graph → IsCreation c → (next : Creation) → with_node_place before s.node now ≡ Ok next
        → IsSome (node_at rel.source next.graph) × IsSome (node_at rel.target next.graph) × ((next.graph.next_rel == number_end) ≡ false)
    ends_there graph so_far next placed =
        step_ends c.graph before s c (good_of c graph so_far) rel next
        (ap (λ (n : Creation). new_relationship before s.relationship (node_at_place s.node n) n) (sym is) ∙ ap (λ o. new_relationship before s.relationship o now) (sym at) ∙ related)
        (ap (with_node_place before s.node) (sym is) ∙ placed)

-- so the relationship is refused only when out of memory
pub never_full : (next : ℕ) → (next == number_end) ≡ false → next ≢ number_end
never_full next left = λ full. grind (arith, nat_tests)

pub memory_only : (refused : GraphFault) → (refused ≡ refusal.Full) ⊎ (refused ≡ refusal.NoMemory) → (refused ≡ refusal.Full → ⊥) → of_graph refused ≡ NoMemory
memory_only refused (inl full) never = absurd (never full)
memory_only refused (inr memory) never = ap of_graph memory

-- ---- node places

-- a bound place leaves all but the node before
pub bound_place : (graph : State) (before : List Cell) (made : Made) (n : NodePattern) (o : Option NodeId) → Some o ≡ option_map node_in_cell (option_and_then (slice_get (before ++ made.cells.items)) (variable_column n.variable))
    → with_node_place before n (creation graph before made) ≡ Ok (record (creation graph before made) { last = o })
bound_place graph before made n o is = by (bound_to n (row_so_far before made)) is
  where
    by : (b : Option Cell) → Some o ≡ option_map node_in_cell b → with_node_if before n b (creation graph before made) ≡ Ok (record (creation graph before made) { last = o })
    by None is = cc
    by (Some c) is = let e : o ≡ node_in_cell c = cc in λ i. Ok (record (creation graph before made) { last = sym e i })

-- a free one gets a new node
pub free_place : (graph : State) (before : List Cell) (made : Made) (n : NodePattern) → None ≡ option_map node_in_cell (option_and_then (slice_get (before ++ made.cells.items)) (variable_column n.variable))
    → with_node_place before n (creation graph before made) ≡ with_new_node before n (creation graph before made)
free_place graph before made n is = by (bound_to n (row_so_far before made)) is
  where
    by : (b : Option Cell) → None ≡ option_map node_in_cell b → with_node_if before n b (creation graph before made) ≡ with_new_node before n (creation graph before made)
    by None is = refl
    by (Some c) is = cc

-- ---- new nodes

full_is : (next : ℕ) → next ≡ number_end → unless_full next ≡ Err Full
full_is next is = let same : (next == number_end) ≡ true = grind (arith, nat_tests) in ap (λ b. cond b (Err Full) (Ok tt)) same

left_is : (next : ℕ) → next ≢ number_end → unless_full next ≡ Ok tt
left_is next other = let same : (next == number_end) ≡ false = grind (arith, nat_tests) in ap (λ b. cond b (Err Full) (Ok tt)) same

module _ (graph : State) (before : List Cell) (n : NodePattern) (made : Made) where
  abbrev with_props : List (Name × Value) → Creation
  with_props props = record {
    graph = with_node (record { labels = label_set n.labels; props = props }) graph;
    row = with_column n.variable (cell.Node (next_node graph)) (row_so_far before made);
    last = Some (next_node graph);
  }

  abbrev then_number : List (Name × Value) → Result Creation UpdateFault
  then_number props = unless_full graph.next_node >>= λ _. Ok (with_props props)

  pub node_at_map : (why : UpdateFault) → map_properties graph before n.properties ≡ Err why → with_new_node before n (creation graph before made) ≡ Err why
  node_at_map why stops = ap (λ r. r >>= then_number) stops

  module _ (props : List (Name × Value)) (mapped : map_properties graph before n.properties ≡ Ok props) where
    -- the graph refuses it where no number is left
    pub node_refused : (refused : GraphFault) → (refused ≡ refusal.Full) ⊎ (refused ≡ refusal.NoMemory) → (refused ≡ refusal.Full → graph.next_node ≡ number_end)
        → (of_graph refused ≡ NoMemory) ⊎ (with_new_node before n (creation graph before made) ≡ Err (of_graph refused))
    node_refused refused (inl full) last =
        inr (ap (λ r. r >>= then_number) mapped ∙ ap (λ r. r >>= λ _. Ok (with_props props)) (full_is graph.next_node (last full)) ∙ sym (ap (λ f. Err (of_graph f)) full))
    node_refused refused (inr memory) last = inl (ap of_graph memory)

    pub node_done : graph.next_node ≢ number_end → (next : Creation) → next ≡ with_props props → with_new_node before n (creation graph before made) ≡ Ok next
    node_done left next is = ap (λ r. r >>= then_number) mapped ∙ ap (λ r. r >>= λ _. Ok (with_props props)) (left_is graph.next_node left) ∙ sym (ap Ok is)

    -- what the code has made of it
    pub node_made : (labels : List (Name × ⊤)) → labels ≡ label_set n.labels → (id : NodeId) → id.0 ≡ graph.next_node → (after : State) → after ≡ with_node (record { labels = labels; props = props }) graph
        → (more : Made) → ((row : List Cell) → row_so_far row more ≡ with_column n.variable (cell.Node id) (row_so_far row made))
        → (last : Option NodeId) → last ≡ Some id → record { graph = after; row = row_so_far before more; last = last } ≡ with_props props
    node_made labels set id number after grown more column last stands =
        λ i. record { graph = (grown ∙ graphs) i; row = (column before ∙ rows) i; last = (stands ∙ ap Some same) i }
      where
        same : id ≡ next_node graph
        same = λ i. record { 0 = number i }

        graphs : with_node (record { labels = labels; props = props }) graph ≡ with_node (record { labels = label_set n.labels; props = props }) graph
        graphs = λ i. with_node (record { labels = set i; props = props }) graph

        rows : with_column n.variable (cell.Node id) (row_so_far before made) ≡ with_column n.variable (cell.Node (next_node graph)) (row_so_far before made)
        rows = ap (λ (k : NodeId). with_column n.variable (cell.Node k) (row_so_far before made)) same
