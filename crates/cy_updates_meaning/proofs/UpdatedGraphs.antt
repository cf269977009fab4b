-- What an updating clause, and a statement, leaves: a graph, with which the counts agree, and rows that name what is in it.
use Rattle.std.proofs.Common.{◌≡◌, ℕ, ◌+◌, ◌<◌, ◌≤◌, true, false, cond, not, refl, List, [], ◌∷◌, ◌++◌, length, sym, subst, arith}
use Rattle.std.specs.Prelude.{fold, Result, Ok, Err, IfOk}
use Rattle.std.specs.List.{AllByRecursion}
use Rattle.cy_values.specs.declared.numbers.NodeId.{NodeId}
use Rattle.cy_values.specs.declared.numbers.RelId.{RelId}
use Rattle.cy_values.specs.declared.rows.Cell.{Cell}
use Rattle.cy_values.specs.Order.{row_cmp}
use Rattle.cy_values.proofs.Lists.{each_then}
use Rattle.cy_trees.specs.Trees.{Clause, create, set, remove, delete, Query, Statement}
use Rattle.cy_scope.specs.Views.{is_update}
use Rattle.cy_graph.specs.Graph.{Content, State, IsGraph}
use Rattle.cy_graph.specs.declared.nodes.Node.{Node}
use Rattle.cy_graph.specs.declared.nodes.Rel.{Rel}
use Rattle.cy_oneshot_meaning.specs.Order.{in_order}
use Rattle.cy_oneshot_meaning.specs.Queries.{rows_after}
use Rattle.cy_oneshot_meaning.specs.Reading.{AreInGraph, IsInGraph}
use Rattle.cy_oneshot_meaning.proofs.Each.{each_in_order}
use Rattle.cy_expr.specs.declared.faults.EvalFault.{EvalFault}
use Rattle.cy_updates_meaning.specs.Counts.{AgreeWith, Counts, counts_between, plus}
use Rattle.cy_updates_meaning.specs.Faults.{◌>>=◌, each_in_turn, evaluated}
use Rattle.cy_updates_meaning.specs.Deleting.{deleted, is_going, is_node_of, without_set}
use Rattle.cy_updates_meaning.specs.Statements.{GraphTable, Outcome, Progress, after_clause, after_query, after_reading, after_updating, beginning, create_row, outcome_of, remove_row, rows_taken, set_row, statement_outcome, table_of, updated}
use Rattle.cy_updates_meaning.proofs.Created.{GoodTable, rows_good}
use Rattle.cy_updates_meaning.proofs.Deleted.{Left, delete_left}
use Rattle.cy_updates_meaning.proofs.EntryCounts.{Agrees, agrees_grown, agrees_left, agrees_same}
use Rattle.cy_updates_meaning.proofs.Graphs.{Kept, SameNumbers, node_kept, node_number, rel_kept, rel_number, same_numbers}
use Rattle.cy_updates_meaning.proofs.Grown.{Grown, rows_still}
use Rattle.cy_updates_meaning.proofs.SetGraphs.{remove_kept, set_kept}
use Rattle.cy_updates_meaning.proofs.StoredValues.{and_then, if_ok_weaker}

-- ---- counts

abbrev Counted : State → State → Type 0
Counted old new = AgreeWith old new (counts_between old.content new.content)

by_series : (old new : State) → Agrees node_number old.content.nodes new.content.nodes old.next_node new.next_node
    → Agrees rel_number old.content.rels new.content.rels old.next_rel new.next_rel → Counted old new
by_series old new nodes rels = record { node_numbers = nodes.numbers; rel_numbers = rels.numbers; nodes = nodes.entries; rels = rels.entries }

-- with another list and another next number that are the same
agrees_alike : {K V : Type 0} (num : K → ℕ) (old new other : List (K × V)) (next after later : ℕ) → Agrees num old new next after → other ≡ new → after ≡ later → Agrees num old other next later
agrees_alike num old new other next after later agrees same up = subst (λ (n : ℕ). Agrees num old other next n) up (subst (λ es. Agrees num old es next after) (sym same) agrees)

counted_grown : (old new : State) → IsGraph old → Grown old new → Counted old new
counted_grown old new is grown =
    by_series old new
    (agrees_alike node_number old.content.nodes (old.content.nodes ++ grown.nodes) new.content.nodes old.next_node (old.next_node + length grown.nodes) new.next_node
    (agrees_grown node_number old.content.nodes grown.nodes old.next_node
    (each_then (λ (e : NodeId × Node). (1 ≤ e.0.0) × (e.0.0 < old.next_node)) (λ (e : NodeId × Node). e.0.0 < old.next_node) (λ e within. within.1) old.content.nodes is.numbered) grown.nodes_new)
    grown.nodes_are grown.next_node)
    (agrees_alike rel_number old.content.rels (old.content.rels ++ grown.rels) new.content.rels old.next_rel (old.next_rel + length grown.rels) new.next_rel
    (agrees_grown rel_number old.content.rels grown.rels old.next_rel
    (each_then (λ (e : RelId × Rel). (1 ≤ e.0.0) × (e.0.0 < old.next_rel)) (λ (e : RelId × Rel). e.0.0 < old.next_rel) (λ e within. within.1) old.content.rels is.rels_numbered) grown.rels_new)
    grown.rels_are grown.next_rel)

counted_same : (old new : State) → SameNumbers old new → Counted old new
counted_same old new same =
    by_series old new
    (subst (λ (n : ℕ). Agrees node_number old.content.nodes new.content.nodes old.next_node n) (sym same.next_node) (agrees_same node_number old.content.nodes new.content.nodes old.next_node same.nodes))
    (subst (λ (n : ℕ). Agrees rel_number old.content.rels new.content.rels old.next_rel n) (sym same.next_rel) (agrees_same rel_number old.content.rels new.content.rels old.next_rel same.rels))

counted_left : (old new : State) → IsGraph old → Left old new → Counted old new
counted_left old new is left =
    subst (Counted old) (sym left.left)
    (by_series old (without_set left.detach left.set old)
    (agrees_left node_number (λ (e : NodeId × Node). not (is_node_of left.set e.0)) old.content.nodes old.next_node is.rising)
    (agrees_left rel_number (λ (e : RelId × Rel). not (is_going left.detach left.set e)) old.content.rels old.next_rel is.rels_rising))

-- ---- clauses

pub record Updated (old : State) (after : GraphTable) : Type 0 where
  pub is : IsGraph after.graph
  pub counted : Counted old after.graph
  pub rows : AreInGraph after.graph.content after.rows

module _ (graph : State) (is : IsGraph graph) (rows : List (List Cell)) (there : AreInGraph graph.content rows) where
  nothing_done : Updated graph (record { graph = graph; rows = rows })
  nothing_done = record { is = is; counted = counted_same graph graph (same_numbers graph); rows = there }

  of_kept : (after : State) → Kept graph after → Updated graph (record { graph = after; rows = rows })
  of_kept after kept = record {
    is = kept.is;
    counted = counted_same graph after kept.same;
    rows = rows_still graph.content after.content (node_kept graph after kept.same) (rel_kept graph after kept.same) rows there;
  }

  taken : (clause : Clause) → IfOk (rows_taken graph clause rows) (Updated graph)
  taken (create paths) =
      if_ok_weaker (GoodTable graph) (Updated graph)
      (λ after good. record { is = good.is; counted = counted_grown graph after.graph is good.grown; rows = good.rows })
      (each_in_turn (create_row paths) rows (record { graph = graph; rows = [] })) (rows_good graph paths rows is there)
  taken (set items) =
      and_then (Kept graph) (Updated graph) (λ after. Ok (record { graph = after; rows = rows })) of_kept (each_in_turn (set_row items) rows graph) (set_kept items rows graph is)
  taken (remove items) = of_kept (fold (remove_row items) graph rows) (remove_kept items rows graph is)
  taken (delete detach variables) =
      and_then (Left graph) (Updated graph) (λ after. Ok (record { graph = after; rows = [] }))
      (λ after left. record { is = left.is; counted = counted_left graph after is left; rows = tt })
      (deleted graph detach variables rows) (delete_left graph detach variables rows is)
  taken _ = nothing_done

pub clause_updated : (graph : State) (clause : Clause) (rows : List (List Cell)) → IsGraph graph → AreInGraph graph.content rows → IfOk (updated graph clause rows) (Updated graph)
clause_updated graph clause rows is there =
    taken graph is (in_order row_cmp rows) (each_in_order (AllByRecursion (IsInGraph graph.content)) row_cmp rows there) clause

-- ---- statements

-- how far a statement has come from a graph
pub record Come (first : State) (p : Progress) : Type 0 where
  pub is : IsGraph p.graph
  pub counted : AgreeWith first p.graph p.counts
  pub rows : AreInGraph p.graph.content p.rows

added : (a b c : State) (some others : Counts) → AgreeWith a b some → AgreeWith b c others → AgreeWith a c (plus some others)
added a b c some others first second =
    let nodes_one : a.next_node + some.made_nodes ≡ b.next_node = first.node_numbers in
    let nodes_two : b.next_node + others.made_nodes ≡ c.next_node = second.node_numbers in
    let rels_one : a.next_rel + some.made_rels ≡ b.next_rel = first.rel_numbers in
    let rels_two : b.next_rel + others.made_rels ≡ c.next_rel = second.rel_numbers in
    let there_one : length a.content.nodes + some.made_nodes ≡ length b.content.nodes + some.gone_nodes = first.nodes in
    let there_two : length b.content.nodes + others.made_nodes ≡ length c.content.nodes + others.gone_nodes = second.nodes in
    let joined_one : length a.content.rels + some.made_rels ≡ length b.content.rels + some.gone_rels = first.rels in
    let joined_two : length b.content.rels + others.made_rels ≡ length c.content.rels + others.gone_rels = second.rels in
    record {
      node_numbers = omega (arith, nodes_one, nodes_two);
      rel_numbers = omega (arith, rels_one, rels_two);
      nodes = omega (arith, there_one, there_two);
      rels = omega (arith, joined_one, joined_two);
    }

module _ (reading : (graph : Content) (clause : Clause) (rows : List (List Cell)) → is_update clause ≡ false → AreInGraph graph rows → IfOk (rows_after graph clause rows) (AreInGraph graph)) (first : State) where
  updating_next : (clause : Clause) (p : Progress) → Come first p → IfOk (after_updating clause p) (Come first)
  updating_next clause p come =
      and_then (Updated p.graph) (Come first)
      (λ after. Ok (record { graph = after.graph; rows = after.rows; counts = plus p.counts (counts_between p.graph.content after.graph.content) }))
      (λ after done. record {
        is = done.is;
        counted = added first p.graph after.graph p.counts (counts_between p.graph.content after.graph.content) come.counted done.counted;
        rows = done.rows;
      })
      (updated p.graph clause p.rows) (clause_updated p.graph clause p.rows come.is come.rows)

  reading_next : (clause : Clause) (p : Progress) → is_update clause ≡ false → Come first p → IfOk (after_reading clause p) (Come first)
  reading_next clause p reads come = read (rows_after p.graph.content clause p.rows) (reading p.graph.content clause p.rows reads come.rows)
    where
      read : (r : Result (List (List Cell)) EvalFault) → IfOk r (AreInGraph p.graph.content) → IfOk (evaluated r >>= λ rows. Ok (record p { rows = rows })) (Come first)
      read (Ok rows) here = record { is = come.is; counted = come.counted; rows = here }
      read (Err fault) here = tt

  pub clause_come : (clause : Clause) (p : Progress) → Come first p → IfOk (after_clause clause p) (Come first)
  clause_come clause p come =
      elim (is_update clause) as (λ b. is_update clause ≡ b → IfOk (cond b (after_updating clause p) (after_reading clause p)) (Come first)) [
        | true ↦ λ writes. updating_next clause p come
        | false ↦ λ reads. reading_next clause p reads come
      ] refl

  all_come : (clauses : List Clause) (p : Progress) → Come first p → IfOk (each_in_turn after_clause clauses p) (Come first)
  all_come [] p come = come
  all_come (clause ∷ clauses) p come =
      and_then (Come first) (Come first) (λ next. each_in_turn after_clause clauses next) (λ next done. all_come clauses next done) (after_clause clause p) (clause_come clause p come)

  -- ---- queries

  -- a graph, and counts that agree with it
  abbrev Agreed : Progress → Type 0
  Agreed p = IsGraph p.graph × AgreeWith first p.graph p.counts

  query_left : (query : Query) (p : Progress) → Agreed p → IfOk (after_query query p) Agreed
  query_left query p left =
      and_then (Come first) Agreed (λ (done : Progress). Ok (record done { rows = p.rows ++ table_of query done.rows })) (λ done come. (come.is, come.counted))
      (each_in_turn after_clause query.clauses (record p { rows = [] ∷ [] })) (all_come query.clauses (record p { rows = [] ∷ [] }) (record { is = left.0; counted = left.1; rows = (tt, tt) }))

  queries_left : (queries : List Query) (p : Progress) → Agreed p → IfOk (each_in_turn after_query queries p) Agreed
  queries_left [] p left = left
  queries_left (query ∷ queries) p left =
      and_then Agreed Agreed (λ next. each_in_turn after_query queries next) (λ next done. queries_left queries next done) (after_query query p) (query_left query p left)

  pub statement_left : (statement : Statement) → IsGraph first → IfOk (statement_outcome first statement) (λ outcome. IsGraph outcome.graph × AgreeWith first outcome.graph outcome.counts)
  statement_left statement is =
      and_then Agreed (λ (outcome : Outcome). IsGraph outcome.graph × AgreeWith first outcome.graph outcome.counts) (λ done. Ok (outcome_of statement done))
      (λ done left. left)
      (each_in_turn after_query statement.queries (beginning first))
      (queries_left statement.queries (beginning first) (is, record { node_numbers = omega arith; rel_numbers = omega arith; nodes = omega arith; rels = omega arith }))
