-- A statement goes on by a clause.
use Rattle.std.proofs.Common.{◌≡◌, ℕ, ◌+◌, ◌≤◌, true, false, cond, List, [], ◌∷◌, length, map, None, IsTrue, refl, sym, ap, subst, ◌∙◌, inl, inr, arith}
use Rattle.std.specs.Prelude.{◌⊎◌, Bool, Result, Ok, Err, IfOk}
use Rattle.std.specs.List.{AllByRecursion}
use Rattle.std.specs.Cmp.{IsTotalOrder}
use Rattle.std.proofs.lemmas.Bool.{false≢true}
use Rattle.std.proofs.lemmas.List.{length-append, length-map}
use Rattle.cy_values.specs.declared.numbers.NodeId.{NodeId}
use Rattle.cy_values.specs.declared.numbers.RelId.{RelId}
use Rattle.cy_values.specs.declared.rows.Cell.{Cell}
use Rattle.cy_values.specs.Bag.{IsSameBag}
use Rattle.cy_values.specs.Order.{row_cmp}
use Rattle.cy_trees.specs.Trees.{Name, Clause, «match», unwind, «return», Projection}
use Rattle.cy_scope_kinds.specs.declared.kinds.Kind.{Kind}
use Rattle.cy_scope.specs.ClauseFaults.{clause_fault, clauses_fault}
use Rattle.cy_scope.specs.ClauseScopes.{scope_after}
use Rattle.cy_scope.specs.Resolved.{resolved_clause, resolved_clauses}
use Rattle.cy_scope_kinds.specs.Rows.{row_fits}
use Rattle.cy_scope_kinds.specs.Scopes.{Scope}
use Rattle.cy_scope.specs.Views.{ends_with_return, is_return, is_update}
use Rattle.cy_scope.proofs.KindedExpressions.{first_none}
use Rattle.cy_graph.specs.declared.nodes.Node.{Node}
use Rattle.cy_graph.specs.declared.nodes.Rel.{Rel}
use Rattle.cy_graph.specs.Graph.{Content, State, IsGraph, number_end}
use Rattle.cy_expr.specs.declared.faults.EvalFault.{EvalFault}
use Rattle.cy_expr.specs.declared.faults.EvalFault.TheVariants as eval
use Rattle.cy_oneshot_patterns.specs.Outcomes.{IsSameOutcome}
use Rattle.cy_oneshot_meaning.specs.Projection.{projection_rows}
use Rattle.cy_oneshot_meaning.specs.Queries.{rows_after}
use Rattle.cy_oneshot_meaning.proofs.BagLemmas.{permuted_bag}
use Rattle.cy_oneshot_meaning.proofs.QueryLemmas.{last_later}
use Rattle.cy_oneshot_meaning.proofs.ScopePlaces.{same_length}
use Rattle.cy_oneshot_meaning.proofs.SeenRows.{each_permuted}
use Rattle.cy_updates.specs.declared.clauses.Updated.{Updated}
use Rattle.cy_updates_meaning.specs.declared.faults.UpdateFault.{UpdateFault}
use Rattle.cy_updates_meaning.specs.declared.faults.UpdateFault.TheVariants.{NoMemory}
use Rattle.cy_updates_meaning.specs.Bags.{IsSameProgress, IsSameResult}
use Rattle.cy_updates_meaning.specs.Counts.{Counts, counts_between, plus}
use Rattle.cy_updates_meaning.specs.Faults.{◌>>=◌, each_in_turn, evaluated, of_evaluation}
use Rattle.cy_updates_meaning.specs.Statements.{GraphTable, Progress, after_clause, after_reading, after_updating, updated}
use Rattle.cy_updates_meaning.specs.internal.Answers.{IsAnswer, graph_table}
use Rattle.cy_updates_meaning.specs.internal.Gone.{AreGone}
use Rattle.cy_oneshot.specs.Carrying.{Carries}
use Rattle.cy_oneshot.specs.Carried.{carried, carried_by, carried_from, updates_ahead}
use Rattle.cy_oneshot.proofs.Marked.{all_alike, none_enough}
use Rattle.cy_updates.specs.internal.Reached.{AreResolved, IsNext, LeadsTo, at_end, carried_after, progress}
use Rattle.cy_updates_meaning.proofs.EntryCounts.{few}
use Rattle.cy_updates_meaning.proofs.Graphs.{SameNumbers, node_number, rel_number}
use Rattle.cy_updates_meaning.proofs.Grown.{Grown}
use Rattle.cy_updates_meaning.proofs.InTurn.{or_wants}

-- ---- one clause

-- what updates, or returns, is no UNWIND
carried_update : (c : Clause) (needed : List Bool) (r : Result Progress UpdateFault) → is_update c ≡ true → carried_after c needed r ≡ r
carried_update (unwind e v) needed r updates = absurd (false≢true updates)
carried_update _ needed r updates = refl

pub carried_return : (c : Clause) (needed : List Bool) (r : Result Progress UpdateFault) → is_return c ≡ true → carried_after c needed r ≡ r
carried_return (unwind e v) needed r is = absurd (false≢true is)
carried_return _ needed r is = refl

module _ (clause : Clause) (updates : is_update clause ≡ true) (graph : State) (columns : List Name) (rows : List (List Cell)) (others : List Clause) where
  as_update : (counts : Counts) → after_clause clause (progress graph rows counts) ≡ after_updating clause (progress graph rows counts)
  as_update counts = ap (λ b. cond b (after_updating clause (progress graph rows counts)) (after_reading clause (progress graph rows counts))) updates

  -- what the code has of an updating clause
  pub update_next : (result : Result Updated UpdateFault) (after : State) → IsAnswer result (λ (u : Updated). graph_table after u.table.rows.items) (updated graph clause rows)
      → IsNext result graph columns rows clause others after
  update_next (Ok u) after meant =
      record {
        needed = [];
        alike = λ ahead. all_alike rows;
        enough = none_enough (updates_ahead others) others;
        within = omega arith;
        step = λ some.
            (let more : Counts = plus some (counts_between graph.content after.content) in
            let is : after_clause clause (progress graph rows some) ≡ Ok (progress after u.table.rows.items more) =
            as_update some ∙ ap (λ r. r >>= λ (t : GraphTable). Ok (progress t.graph t.rows (plus some (counts_between graph.content t.graph.content)))) meant in
            (more, subst (λ (m : Result Progress UpdateFault). IsSameResult (Ok (progress after u.table.rows.items more)) m) (sym (carried_update clause [] (after_clause clause (progress graph rows some)) updates ∙ is)) (refl, (λ row. refl), refl)));
      }
  update_next (Err why) after meant =
      or_wants why (λ stops some. as_update some ∙ ap (λ r. r >>= λ (t : GraphTable). Ok (progress t.graph t.rows (plus some (counts_between graph.content t.graph.content)))) stops) meant

module _ (clause : Clause) (reads : is_update clause ≡ false) (graph : State) (rows : List (List Cell)) where
  abbrev with_rows : Counts → Result (List (List Cell)) EvalFault → Result Progress UpdateFault
  with_rows counts r = evaluated r >>= λ made. Ok (progress graph made counts)

  as_reading : (counts : Counts) → after_clause clause (progress graph rows counts) ≡ with_rows counts (rows_after graph.content clause rows)
  as_reading counts = ap (λ b. cond b (after_updating clause (progress graph rows counts)) (after_reading clause (progress graph rows counts))) reads

  same_with : (made : List (List Cell)) (counts : Counts) (r : Result (List (List Cell)) EvalFault) → IsSameOutcome (Ok made) r → IsSameResult (Ok (progress graph made counts)) (with_rows counts r)
  same_with made counts (Ok others) same = (refl, same, refl)
  same_with made counts (Err fault) same = absurd same

  some_carried : (needed : List Bool) (counts : Counts) (r : Result (List (List Cell)) EvalFault)
      → with_rows counts (carried needed r) ≡ (with_rows counts r >>= λ (done : Progress). Ok (record done { rows = map (carried_from needed 0) done.rows }))
  some_carried needed counts (Ok made) = refl
  some_carried needed counts (Err fault) = refl

  carried_with : (c : Clause) (needed : List Bool) (counts : Counts) (r : Result (List (List Cell)) EvalFault) → with_rows counts (carried_by c needed r) ≡ carried_after c needed (with_rows counts r)
  carried_with (unwind e v) needed counts r = some_carried needed counts r
  carried_with _ needed counts r = refl

  -- what the code has of a reading clause
  pub read_done : (columns : List Name) (others : List Clause) (made : List (List Cell)) → Carries graph.content clause others columns rows made → LeadsTo graph columns rows clause others graph made
  read_done columns others made carries =
      record {
        needed = carries.needed;
        alike = carries.alike;
        enough = carries.enough;
        within = carries.within;
        step = λ some. (
          some,
          subst (λ (m : Result Progress UpdateFault). IsSameResult (Ok (progress graph made some)) m)
              (carried_with clause carries.needed some (rows_after graph.content clause rows) ∙ ap (carried_after clause carries.needed) (sym (as_reading some)))
              (same_with made some (carried_by clause carries.needed (rows_after graph.content clause rows)) carries.same),
        );
      }

  pub read_in_order : (made : List (List Cell)) → rows_after graph.content clause rows ≡ Ok made → (some : Counts) → (more : Counts) × (after_clause clause (progress graph rows some) ≡ Ok (progress graph made more))
  read_in_order made is = λ some. (some, as_reading some ∙ ap (with_rows some) is)

  pub read_stopped : (fault : EvalFault) → (rows_after graph.content clause rows ≡ Err fault) ⊎ (fault ≡ eval.NoMemory)
      → (of_evaluation fault ≡ NoMemory) ⊎ ((some : Counts) → after_clause clause (progress graph rows some) ≡ Err (of_evaluation fault))
  read_stopped fault (inl stops) = inr (λ some. as_reading some ∙ ap (with_rows some) stops)
  read_stopped fault (inr wants) = inl (ap of_evaluation wants)

-- ---- what went

pub none_gone : (graph : State) → AreGone graph graph 0 0
none_gone graph = record { nodes_gone = omega arith; rels_gone = omega arith; nodes_up = omega arith; rels_up = omega arith }

pub none_gone_same : (old new : State) → SameNumbers old new → AreGone old new 0 0
none_gone_same old new same =
    let nodes : length new.content.nodes ≡ length old.content.nodes = sym (length-map new.content.nodes (λ (e : NodeId × Node). e.0)) ∙ ap length same.nodes ∙ length-map old.content.nodes (λ (e : NodeId × Node). e.0) in
    let rels : length new.content.rels ≡ length old.content.rels = sym (length-map new.content.rels (λ (e : RelId × Rel). e.0)) ∙ ap length same.rels ∙ length-map old.content.rels (λ (e : RelId × Rel). e.0) in
    let node_up : new.next_node ≡ old.next_node = same.next_node in
    let rel_up : new.next_rel ≡ old.next_rel = same.next_rel in
    record { nodes_gone = omega (arith, nodes, node_up); rels_gone = omega (arith, rels, rel_up); nodes_up = omega (arith, node_up); rels_up = omega (arith, rel_up) }

pub none_gone_grown : (old new : State) → Grown old new → AreGone old new 0 0
none_gone_grown old new grown =
    let nodes : length new.content.nodes ≡ length old.content.nodes + length grown.nodes = ap length grown.nodes_are ∙ length-append old.content.nodes grown.nodes in
    let rels : length new.content.rels ≡ length old.content.rels + length grown.rels = ap length grown.rels_are ∙ length-append old.content.rels grown.rels in
    let node_up : old.next_node + length grown.nodes ≡ new.next_node = grown.next_node in
    let rel_up : old.next_rel + length grown.rels ≡ new.next_rel = grown.next_rel in
    record { nodes_gone = omega (arith, nodes, node_up); rels_gone = omega (arith, rels, rel_up); nodes_up = omega (arith, node_up); rels_up = omega (arith, rel_up) }

pub gone_then : (a b c : State) (nodes rels more_nodes more_rels : ℕ) → AreGone a b nodes rels → AreGone b c more_nodes more_rels → AreGone a c (nodes + more_nodes) (rels + more_rels)
gone_then a b c nodes rels more_nodes more_rels first second =
    let nodes_one : nodes + length b.content.nodes + a.next_node ≡ length a.content.nodes + b.next_node = first.nodes_gone in
    let nodes_two : more_nodes + length c.content.nodes + b.next_node ≡ length b.content.nodes + c.next_node = second.nodes_gone in
    let rels_one : rels + length b.content.rels + a.next_rel ≡ length a.content.rels + b.next_rel = first.rels_gone in
    let rels_two : more_rels + length c.content.rels + b.next_rel ≡ length b.content.rels + c.next_rel = second.rels_gone in
    let node_up : a.next_node ≤ b.next_node = first.nodes_up in
    let node_on : b.next_node ≤ c.next_node = second.nodes_up in
    let rel_up : a.next_rel ≤ b.next_rel = first.rels_up in
    let rel_on : b.next_rel ≤ c.next_rel = second.rels_up in
    record { nodes_gone = omega (arith, nodes_one, nodes_two); rels_gone = omega (arith, rels_one, rels_two); nodes_up = omega (arith, node_up, node_on); rels_up = omega (arith, rel_up, rel_on) }

-- so there are no more of them than numbers
module _ (a b c : State) (is : IsGraph a) (last : IsGraph c) (nodes rels more_nodes more_rels : ℕ) (first : AreGone a b nodes rels) (second : AreGone b c more_nodes more_rels) where
  all_gone : AreGone a c (nodes + more_nodes) (rels + more_rels)
  all_gone = gone_then a b c nodes rels more_nodes more_rels first second

  pub few_nodes_gone : nodes + more_nodes ≤ number_end
  few_nodes_gone =
      let less : length a.content.nodes + 1 ≤ a.next_node = few node_number a.next_node 1 a.content.nodes is.rising is.numbered is.node_range.0 in
      let most : c.next_node ≤ number_end = last.node_range.1 in
      let gone : nodes + more_nodes + length c.content.nodes + a.next_node ≡ length a.content.nodes + c.next_node = all_gone.nodes_gone in
      omega (arith, less, most, gone)

  pub few_rels_gone : rels + more_rels ≤ number_end
  few_rels_gone =
      let less : length a.content.rels + 1 ≤ a.next_rel = few rel_number a.next_rel 1 a.content.rels is.rels_rising is.rels_numbered is.rel_range.0 in
      let most : c.next_rel ≤ number_end = last.rel_range.1 in
      let gone : rels + more_rels + length c.content.rels + a.next_rel ≡ length a.content.rels + c.next_rel = all_gone.rels_gone in
      omega (arith, less, most, gone)

-- ---- results that are the same

pub same_then : (r s t : Result Progress UpdateFault) → IsSameResult r s → IsSameResult s t → IsSameResult r t
same_then (Ok a) (Ok b) (Ok c) p q = (p.0 ∙ q.0, (λ row. p.1 row ∙ q.1 row), p.2 ∙ q.2)
same_then (Err a) (Err b) (Err c) p q = p ∙ q
same_then (Ok a) (Err b) t p q = absurd p
same_then (Err a) (Ok b) t p q = absurd p
same_then (Ok a) (Ok b) (Err c) p q = absurd q
same_then (Err a) (Err b) (Ok c) p q = absurd q

-- a fault that is the same
pub same_fault : (why : UpdateFault) (r : Result Progress UpdateFault) → IsSameResult (Err why) r → r ≡ Err why
same_fault why (Err other) same = ap Err (sym same)
same_fault why (Ok p) same = absurd same

module _ (on_bags : (clauses : List Clause) (one other : Progress) → IsSameProgress one other → IsSameResult (each_in_turn after_clause clauses one) (each_in_turn after_clause clauses other))
    (ordered : (graph : Content) (p : Projection) (rows others : List (List Cell)) → IsSameBag rows others → projection_rows graph p rows ≡ projection_rows graph p others) where
  same_one : (clause : Clause) (one other : Progress) → IsSameProgress one other → IsSameResult (after_clause clause one) (after_clause clause other)
  same_one clause one other same = by (after_clause clause one) (after_clause clause other) (on_bags (clause ∷ []) one other same)
    where
      by : (r s : Result Progress UpdateFault) → IsSameResult (r >>= λ next. Ok next) (s >>= λ next. Ok next) → IsSameResult r s
      by (Ok a) (Ok b) p = p
      by (Err a) (Err b) p = p
      by (Ok a) (Err b) p = absurd p
      by (Err a) (Ok b) p = absurd p

  return_alike : (clause : Clause) → is_return clause ≡ true → (one other : Progress) → IsSameProgress one other → after_clause clause one ≡ after_clause clause other
  return_alike («return» p) is one other same =
      λ i. evaluated ((ordered one.graph.content p one.rows other.rows same.1 ∙ ap (λ (g : State). projection_rows g.content p other.rows) same.0) i) >>= λ rows. Ok (progress (same.0 i) rows (same.2 i))
  return_alike _ is one other same = absurd (false≢true is)

  after_both : (f : Progress → Result Progress UpdateFault) → ((one other : Progress) → IsSameProgress one other → f one ≡ f other) → (r s : Result Progress UpdateFault) → IsSameResult r s → (r >>= f) ≡ (s >>= f)
  after_both f same (Ok one) (Ok other) p = same one other p
  after_both f same (Err a) (Err b) p = ap Err p
  after_both f same (Ok one) (Err b) p = absurd p
  after_both f same (Err a) (Ok other) p = absurd p

  -- what ends with RETURN has its rows in their order
  ends_alike : (clauses : List Clause) → ends_with_return clauses ≡ true → (one other : Progress) → IsSameProgress one other → each_in_turn after_clause clauses one ≡ each_in_turn after_clause clauses other
  ends_alike [] ends one other same = absurd (false≢true ends)
  ends_alike (c ∷ []) ends one other same = ap (λ r. r >>= λ next. Ok next) (return_alike c ends one other same)
  ends_alike (c ∷ d ∷ cs) ends one other same =
      after_both (λ next. each_in_turn after_clause (d ∷ cs) next) (ends_alike (d ∷ cs) (sym (last_later c d cs) ∙ ends)) (after_clause c one) (after_clause c other) (same_one c one other same)

  -- ---- one clause more

  end_same : (returns : Bool) (r s : Result Progress UpdateFault) → IsSameResult r s → IsSameResult (at_end returns r) (at_end returns s)
  end_same true (Ok one) (Ok other) same = same
  end_same false (Ok one) (Ok other) same = (same.0, (λ row. refl), same.2)
  end_same returns (Err why) (Err other) same = same
  end_same returns (Ok one) (Err other) same = absurd same
  end_same returns (Err why) (Ok other) same = absurd same

  whole_end : (r : Result Progress UpdateFault) → at_end true r ≡ r
  whole_end (Ok done) = refl
  whole_end (Err why) = refl

  exact_end : (returns : Bool) → returns ≡ true → (r s : Result Progress UpdateFault) → at_end returns r ≡ at_end returns s → r ≡ s
  exact_end true is r s same = sym (whole_end r) ∙ same ∙ whole_end s
  exact_end false is r s same = absurd (false≢true is)

  module _ (returns : Bool) (c : Clause) (cs : List Clause) (now next : Progress) (stands : Result Progress UpdateFault) (same : IsSameResult (Ok next) stands)
      (on : at_end returns (stands >>= λ p. each_in_turn after_clause cs p) ≡ at_end returns (each_in_turn after_clause (c ∷ cs) now)) where
    same_on : (r : Result Progress UpdateFault) → IsSameResult (Ok next) r → IsSameResult (each_in_turn after_clause cs next) (r >>= λ p. each_in_turn after_clause cs p)
    same_on (Ok p) is = on_bags cs next p is
    same_on (Err why) is = absurd is

    pub more_bag : (all : Result Progress UpdateFault) → IsSameResult (at_end returns (each_in_turn after_clause (c ∷ cs) now)) all → IsSameResult (at_end returns (each_in_turn after_clause cs next)) all
    more_bag all before =
        same_then (at_end returns (each_in_turn after_clause cs next)) (at_end returns (each_in_turn after_clause (c ∷ cs) now)) all
        (subst (λ r. IsSameResult (at_end returns (each_in_turn after_clause cs next)) r) on
        (end_same returns (each_in_turn after_clause cs next) (stands >>= λ p. each_in_turn after_clause cs p) (same_on stands same))) before

    alike_on : ends_with_return cs ≡ true → (r : Result Progress UpdateFault) → IsSameResult (Ok next) r → each_in_turn after_clause cs next ≡ (r >>= λ p. each_in_turn after_clause cs p)
    alike_on ends (Ok p) is = ends_alike cs ends next p is
    alike_on ends (Err why) is = absurd is

  pub more_ordered : (returns : Bool) → returns ≡ true → (c : Clause) (cs : List Clause) (now next : Progress) (stands : Result Progress UpdateFault) → IsSameResult (Ok next) stands
      → at_end returns (stands >>= λ p. each_in_turn after_clause cs p) ≡ at_end returns (each_in_turn after_clause (c ∷ cs) now) → ends_with_return (c ∷ cs) ≡ true
      → (is_return c ≡ true → after_clause c now ≡ Ok next) → (all : Result Progress UpdateFault) → each_in_turn after_clause (c ∷ cs) now ≡ all → each_in_turn after_clause cs next ≡ all
  more_ordered returns is c [] now next stands same on ends exact all before = sym (ap (λ r. r >>= λ p. Ok p) (exact ends)) ∙ before
  more_ordered returns is c (d ∷ cs) now next stands same on ends exact all before =
      alike_on returns c (d ∷ cs) now next stands same on (sym (last_later c d cs) ∙ ends) stands same
      ∙ exact_end returns is (stands >>= λ p. each_in_turn after_clause (d ∷ cs) p) (each_in_turn after_clause (c ∷ d ∷ cs) now) on ∙ before

-- ---- scopes

-- a clause updates or reads whether its variables have columns or not
pub resolved_updates : (before after : Scope) (c : Clause) → is_update (resolved_clause before after c) ≡ is_update c
resolved_updates before after («match» optional paths test) = refl
resolved_updates before after _ = refl

-- the clause that comes first, as it was written
pub record IsWritten (columns : List Name) (rows : List (List Cell)) (c : Clause) (cs : List Clause) : Type 0 where
  pub scope : Scope
  pub written : Clause
  pub others : List Clause
  pub good : clause_fault scope written ≡ None
  pub others_good : clauses_fault (scope_after scope written) others ≡ None
  pub is : c ≡ resolved_clause scope (scope_after scope written) written
  pub others_are : cs ≡ resolved_clauses (scope_after scope written) others
  pub names : map (λ v. v.0) scope ≡ columns
  pub fit : AllByRecursion (λ row. IsTrue (row_fits scope row)) rows

pub first_written : (columns : List Name) (rows : List (List Cell)) (c : Clause) (cs clauses : List Clause) → clauses ≡ c ∷ cs → AreResolved columns rows clauses → IsWritten columns rows c cs
first_written columns rows c cs clauses are resolved = by resolved.written resolved.good (sym are ∙ resolved.are)
  where
    by : (written : List Clause) → clauses_fault resolved.scope written ≡ None → (c ∷ cs) ≡ resolved_clauses resolved.scope written → IsWritten columns rows c cs
    by [] good is = cc
    by (w ∷ ws) good is =
        let parts = first_none (clause_fault resolved.scope w) (clauses_fault (scope_after resolved.scope w) ws) good in
        let head : c ≡ resolved_clause resolved.scope (scope_after resolved.scope w) w = cc in
        let tail : cs ≡ resolved_clauses (scope_after resolved.scope w) ws = cc in
        record {
          scope = resolved.scope;
          written = w;
          others = ws;
          good = parts.0;
          others_good = parts.1;
          is = head;
          others_are = tail;
          names = resolved.names;
          fit = resolved.fit;
        }

-- so each row has a cell for each column
pub rows_wide : (columns : List Name) (rows : List (List Cell)) (clauses : List Clause) → AreResolved columns rows clauses → AllByRecursion (λ row. length row ≡ length columns) rows
rows_wide columns rows clauses resolved = by rows resolved.fit
  where
    long : length resolved.scope ≡ length columns
    long = sym (length-map resolved.scope (λ (v : Name × Kind). v.0)) ∙ ap length resolved.names

    by : (rs : List (List Cell)) → AllByRecursion (λ row. IsTrue (row_fits resolved.scope row)) rs → AllByRecursion (λ row. length row ≡ length columns) rs
    by [] fit = tt
    by (r ∷ rs) fit = (same_length resolved.scope r fit.0 ∙ long, by rs fit.1)

-- what holds of each row of what is meant holds of each row that the code has
pub each_of_same : IsTotalOrder row_cmp → (P : List Cell → Type 0) (next : Progress) (r : Result Progress UpdateFault) → IsSameResult (Ok next) r → IfOk r (λ p. AllByRecursion P p.rows) → AllByRecursion P next.rows
each_of_same total P next (Ok p) same each = each_permuted P (permuted_bag total next.rows p.rows same.1) each
each_of_same total P next (Err why) same each = absurd same

-- RETURN reads
pub return_reads : (c : Clause) → is_return c ≡ true → is_update c ≡ false
return_reads («return» p) is = refl
return_reads _ is = absurd (false≢true is)
