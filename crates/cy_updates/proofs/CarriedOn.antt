-- Clauses go on the same from rows in which the cells that they don't read are null.
use Rattle.std.proofs.Common.{◌≡◌, inl, inr, ℕ, ◌≤◌, Bool, true, false, cond, List, [], ◌∷◌, length, map, refl, sym, ap, subst, ◌∙◌, arith}
use Rattle.std.specs.Prelude.{IfOk, Result, Ok, Err}
use Rattle.std.specs.List.{AllByRecursion}
use Rattle.std.specs.Cmp.{IsTotalOrder}
use Rattle.std.proofs.lemmas.Bool.{false≢true}
use Rattle.cy_values.specs.declared.rows.Cell.{Cell}
use Rattle.cy_values.specs.Order.{row_cmp}
use Rattle.cy_trees.specs.Trees.{Clause, unwind, «with», «return»}
use Rattle.cy_scope.specs.Views.{ends_with_return, is_return, is_update}
use Rattle.cy_graph.specs.Graph.{State}
use Rattle.cy_expr.specs.declared.faults.EvalFault.{EvalFault}
use Rattle.cy_oneshot_meaning.specs.Queries.{rows_after}
use Rattle.cy_oneshot_meaning.proofs.QueryLemmas.{last_later}
use Rattle.cy_oneshot.specs.Carried.{AreAlike, IsAlike, IsClauseRead, IsEnough, carried, carried_from, first_row, is_projection, updates_ahead}
use Rattle.cy_oneshot.proofs.Carried.{AreLong, rows_whole}
use Rattle.cy_oneshot.proofs.CarriedMatch.{reading_grown, reading_less}
use Rattle.cy_oneshot.proofs.CarriedRows.{projecting_less}
use Rattle.cy_updates_meaning.specs.declared.faults.UpdateFault.{UpdateFault}
use Rattle.cy_updates_meaning.specs.Counts.{Counts, counts_between, plus}
use Rattle.cy_updates_meaning.specs.Faults.{◌>>=◌, each_in_turn, evaluated}
use Rattle.cy_updates_meaning.specs.Statements.{GraphTable, Progress, after_clause, after_reading, after_updating, updated}
use Rattle.cy_updates.specs.internal.Reached.{at_end, carried_after, progress}
use Rattle.cy_updates.proofs.CarriedUpdates.{IsOver, OverTable, Seen, over_more, seen_then, small_table, updated_less}

module _ (total : IsTotalOrder row_cmp) (needed : List Bool) (alike : Bool) (base : List Cell) where
  abbrev Over : List Cell → Type 0
  Over row = IsOver needed alike base row

  abbrev small : List Cell → List Cell
  small row = carried_from needed 0 row

  abbrev lessened : Progress → Progress
  lessened p = record p { rows = map small p.rows }

  abbrev OverAll : Progress → Type 0
  OverAll p = AllByRecursion Over p.rows

  abbrev Goes : Result Progress UpdateFault → Result Progress UpdateFault → Type 0
  Goes r s = Seen lessened OverAll r s

  -- ---- one clause

  all_long : (rows : List (List Cell)) → AllByRecursion Over rows → AreLong needed rows
  all_long [] over = tt
  all_long (row ∷ rows) over = (over.0.0, all_long rows over.1)

  updating_goes : (c : Clause) (p : Progress) → (is_update c ≡ true → alike ≡ true) → is_update c ≡ true → IsClauseRead needed c → OverAll p → Goes (after_updating c (lessened p)) (after_updating c p)
  updating_goes c p may updates read over =
      seen_then (small_table needed alike base) (OverTable needed alike base) lessened OverAll
      (λ (after : GraphTable). Ok (record { graph = after.graph; rows = after.rows; counts = plus p.counts (counts_between p.graph.content after.graph.content) }))
      (λ (after : GraphTable). Ok (record { graph = after.graph; rows = after.rows; counts = plus p.counts (counts_between p.graph.content after.graph.content) }))
      (λ after here. (refl, here)) (updated p.graph c (map small p.rows)) (updated p.graph c p.rows) (updated_less needed alike base total (may updates) c updates read p.graph p.rows over)

  read_goes : (p : Progress) (o : Result (List (List Cell)) EvalFault) → IfOk o (AllByRecursion Over) → Goes (evaluated (carried needed o) >>= λ rows. Ok (record p { rows = rows })) (evaluated o >>= λ rows. Ok (record p { rows = rows }))
  read_goes p (Ok rows) over = (refl, over)
  read_goes p (Err fault) over = refl

  reading_goes : (c : Clause) (p : Progress) → is_update c ≡ false → is_projection c ≡ false → IsClauseRead needed c → OverAll p → Goes (after_reading c (lessened p)) (after_reading c p)
  reading_goes c p reads keeps read over =
      subst (λ o. Goes (evaluated o >>= λ rows. Ok (record p { rows = rows })) (after_reading c p)) (sym (reading_less p.graph.content needed c reads keeps read p.rows (all_long p.rows over)))
      (read_goes p (rows_after p.graph.content c p.rows) (reading_grown p.graph.content Over (over_more needed alike base) c reads keeps p.rows over))

  clause_goes : (c : Clause) (p : Progress) → (is_update c ≡ true → alike ≡ true) → is_projection c ≡ false → IsClauseRead needed c → OverAll p → Goes (after_clause c (lessened p)) (after_clause c p)
  clause_goes c p may keeps read over =
      elim (is_update c) as (λ b. is_update c ≡ b → Goes (cond b (after_updating c (lessened p)) (after_reading c (lessened p))) (cond b (after_updating c p) (after_reading c p))) [
        | true ↦ λ updates. updating_goes c p may updates read over
        | false ↦ λ reads. reading_goes c p reads keeps read over
      ] refl

  projection_goes : (c : Clause) (p : Progress) → is_projection c ≡ true → IsClauseRead needed c → after_clause c (lessened p) ≡ after_clause c p
  projection_goes («with» q test) p is read = ap (λ o. evaluated o >>= λ rows. Ok (record p { rows = rows })) (projecting_less p.graph.content needed («with» q test) is read p.rows)
  projection_goes («return» q) p is read = ap (λ o. evaluated o >>= λ rows. Ok (record p { rows = rows })) (projecting_less p.graph.content needed («return» q) is read p.rows)
  projection_goes _ p is read = absurd (false≢true is)

  -- ---- the clauses that are left

  whole : needed ≡ [] → (p : Progress) → lessened p ≡ p
  whole none p = ap (λ (flags : List Bool). record p { rows = map (carried_from flags 0) p.rows }) none ∙ (λ j. record p { rows = rows_whole p.rows j })

  -- RETURN is a projection
  returns_project : (c : Clause) → is_return c ≡ true → is_projection c ≡ true
  returns_project («return» p) is = refl
  returns_project («with» p test) is = refl
  returns_project _ is = absurd (false≢true is)

  module _ (returns : Bool) where
    -- the clauses end as the statement does
    abbrev EndAlike : List Clause → Type 0
    EndAlike cs = returns ≡ true → (c : Clause) (others : List Clause) → cs ≡ c ∷ others → ends_with_return cs ≡ true

    -- nothing comes after it, and it isn't RETURN: so the statement gives no rows
    last_alike : (c : Clause) → is_projection c ≡ false → EndAlike (c ∷ []) → (p : Progress) → at_end returns (Ok (lessened p)) ≡ at_end returns (Ok p)
    last_alike c keeps ends p =
        elim returns as (λ b. returns ≡ b → at_end b (Ok (lessened p)) ≡ at_end b (Ok p)) [
          | true ↦ λ h. absurd (false≢true (sym keeps ∙ returns_project c (ends h c [] refl)))
          | false ↦ λ h. refl
        ] refl

    end_later : (c : Clause) (cs : List Clause) → EndAlike (c ∷ cs) → EndAlike cs
    end_later c cs ends = λ h d others are.
        ap ends_with_return are ∙ sym (last_later c d others) ∙ ap (λ (l : List Clause). ends_with_return (c ∷ l)) (sym are) ∙ ends h c cs refl

    goes_from : (f : Progress → Result Progress UpdateFault) → ((p : Progress) → OverAll p → at_end returns (f (lessened p)) ≡ at_end returns (f p)) → (r s : Result Progress UpdateFault) → Goes r s
        → at_end returns (r >>= f) ≡ at_end returns (s >>= f)
    goes_from f rest (Ok x) (Ok y) same = ap (λ q. at_end returns (f q)) same.0 ∙ rest y same.1
    goes_from f rest (Err fault) (Err other) same = ap (λ (why : UpdateFault). Err why) same
    goes_from f rest (Ok x) (Err other) same = absurd same
    goes_from f rest (Err fault) (Ok y) same = absurd same

    pub goes_on : (clauses : List Clause) → IsEnough alike needed clauses → EndAlike clauses → (p : Progress) → OverAll p
        → at_end returns (each_in_turn after_clause clauses (lessened p)) ≡ at_end returns (each_in_turn after_clause clauses p)
    goes_on [] enough ends p over = ap (λ q. at_end returns (Ok q)) (whole enough p)
    goes_on (c ∷ cs) (inl none) ends p over = ap (λ q. at_end returns (each_in_turn after_clause (c ∷ cs) q)) (whole none p)
    goes_on (c ∷ []) (inr enough) ends p over =
        elim (is_projection c) as (λ b. is_projection c ≡ b → at_end returns (after_clause c (lessened p) >>= λ q. Ok q) ≡ at_end returns (after_clause c p >>= λ q. Ok q)) [
          | true ↦ λ is. ap (λ r. at_end returns (r >>= λ q. Ok q)) (projection_goes c p is enough.1)
          | false ↦ λ keeps. goes_from (λ q. Ok q) (λ q here. last_alike c keeps ends q) (after_clause c (lessened p)) (after_clause c p) (clause_goes c p enough.0 keeps enough.1 over)
        ] refl
    goes_on (c ∷ d ∷ ds) (inr enough) ends p over =
        elim (is_projection c) as (λ b. is_projection c ≡ b
        → at_end returns (after_clause c (lessened p) >>= λ q. each_in_turn after_clause (d ∷ ds) q) ≡ at_end returns (after_clause c p >>= λ q. each_in_turn after_clause (d ∷ ds) q)) [
          | true ↦ λ is. ap (λ r. at_end returns (r >>= λ q. each_in_turn after_clause (d ∷ ds) q)) (projection_goes c p is enough.1)
          | false ↦ λ keeps.
              goes_from (λ q. each_in_turn after_clause (d ∷ ds) q) (λ q here. goes_on (d ∷ ds) (enough.2 keeps) (end_later c (d ∷ ds) ends) q here) (after_clause c (lessened p)) (after_clause c p)
              (clause_goes c p enough.0 keeps enough.1 over)
        ] refl

-- ---- what follows UNWIND, which carries along what is needed

-- rows that are alike, where a clause updates them, have the cells of the first one
over_first : (needed : List Bool) (alike : Bool) (width : ℕ) (base : List Cell) (rows : List (List Cell)) → length needed ≤ width → AllByRecursion (λ row. length row ≡ width) rows
    → (alike ≡ true → AllByRecursion (IsAlike needed base) rows) → AllByRecursion (IsOver needed alike base) rows
over_first needed alike width base [] within wide same = tt
over_first needed alike width base (row ∷ rows) within wide same = (
  ((let long : length row ≡ width = wide.0 in omega (arith, long, within)), λ are. (same are).0),
  over_first needed alike width base rows within wide.1 (λ are. (same are).1),
)

module _ (total : IsTotalOrder row_cmp) (returns : Bool) (width : ℕ) (clauses : List Clause) (graph : State) (rows : List (List Cell)) (needed : List Bool)
    (same : updates_ahead clauses ≡ true → AreAlike needed rows) (enough : IsEnough (updates_ahead clauses) needed clauses) (within : length needed ≤ width)
    (wide : AllByRecursion (λ row. length row ≡ width) rows)
    (ends : returns ≡ true → (c : Clause) (others : List Clause) → clauses ≡ c ∷ others → ends_with_return clauses ≡ true) where
  abbrev OverFirst : List Cell → Type 0
  OverFirst = IsOver needed (updates_ahead clauses) (first_row rows)

  from_unwound : (r : Result Progress UpdateFault) → IfOk r (λ (p : Progress). AllByRecursion OverFirst p.rows)
      → at_end returns ((r >>= λ (p : Progress). Ok (record p { rows = map (carried_from needed 0) p.rows })) >>= λ q. each_in_turn after_clause clauses q) ≡ at_end returns (r >>= λ q. each_in_turn after_clause clauses q)
  from_unwound (Ok p) over = goes_on total needed (updates_ahead clauses) (first_row rows) returns clauses enough ends p over
  from_unwound (Err why) over = refl

  read_over : (counts : Counts) (o : Result (List (List Cell)) EvalFault) → IfOk o (AllByRecursion OverFirst)
      → IfOk (evaluated o >>= λ made. Ok (progress graph made counts)) (λ (p : Progress). AllByRecursion OverFirst p.rows)
  read_over counts (Ok made) over = over
  read_over counts (Err fault) over = tt

  -- the clauses that are left make the same of what is carried along
  pub goes_on_by : (clause : Clause) (counts : Counts)
      → at_end returns (carried_after clause needed (after_clause clause (progress graph rows counts)) >>= λ q. each_in_turn after_clause clauses q)
      ≡ at_end returns (after_clause clause (progress graph rows counts) >>= λ q. each_in_turn after_clause clauses q)
  goes_on_by (unwind e v) counts =
      from_unwound (after_clause (unwind e v) (progress graph rows counts))
      (read_over counts (rows_after graph.content (unwind e v) rows)
      (reading_grown graph.content OverFirst (over_more needed (updates_ahead clauses) (first_row rows)) (unwind e v) refl refl rows
      (over_first needed (updates_ahead clauses) width (first_row rows) rows within wide same)))
  goes_on_by _ counts = refl
