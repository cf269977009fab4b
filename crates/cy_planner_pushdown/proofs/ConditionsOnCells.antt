-- Conditions on the cells in some columns: they read these alone, and have a truth for whatever stands there, by the kinds.
use Rattle.std.proofs.Common.{◌≡◌, ℕ, true, false, ◌&&◌, List, [], ◌++◌, length, refl, sym, ap, subst, ◌∙◌, arith}
use Rattle.std.specs.Prelude.{IfOk, IsOk, Option, None, Some, Result, Ok, Err, nat_lt, option_map, slice_get}
use Rattle.std.specs.Option.{option_map_or}
use Rattle.std.specs.Str.{bytes_eq}
use Rattle.std.proofs.lemmas.Bool.{and_from, and_parts, eqb-true, false≢true, lt-ltb}
use Rattle.std.proofs.lemmas.Option.{get_or_from_slice_get}
use Rattle.cy_values.specs.declared.rows.Cell.{Cell}
use Rattle.cy_values.specs.declared.rows.Cell.TheVariants as cell
use Rattle.cy_values.specs.declared.scalars.Value.TheVariants as value
use Rattle.cy_trees.specs.declared.expressions.Variable.{Variable}
use Rattle.cy_trees.specs.Trees.{Name, Expression, variable, property, has_labels, unary, binary, comparison, list, case, call, Expressions, no_more, more, Links, no_links, link, Arms, no_arms, arm, Otherwise, nothing, otherwise}
use Rattle.cy_scope_kinds.specs.declared.kinds.Kind.{Kind}
use Rattle.cy_scope_kinds.specs.declared.kinds.Kind.TheVariants as kind
use Rattle.cy_scope_kinds.specs.ExpressionFaults.{expression_fault}
use Rattle.cy_scope_kinds.specs.ExpressionKinds.{kind_of}
use Rattle.cy_scope_kinds.specs.Kinded.{HasKind}
use Rattle.cy_scope_kinds.specs.Kinds.{is_flag}
use Rattle.cy_scope_kinds.specs.ResolvedExpressions.{resolved, resolved_arms, resolved_expressions, resolved_links, resolved_otherwise, resolved_variable}
use Rattle.cy_scope_kinds.specs.Rows.{is_cell_of, row_fits}
use Rattle.cy_scope_kinds.specs.Scopes.{Scope, find_column, find_kind}
use Rattle.cy_scope_kinds.specs.Sure.{is_sure, is_sure_flag}
use Rattle.cy_scope_kinds.proofs.ScopesLemmas.{position_inside}
use Rattle.cy_graph.specs.Graph.{Content}
use Rattle.cy_expr.specs.declared.faults.EvalFault.{EvalFault}
use Rattle.cy_expr.specs.Evaluation.{cell_of}
use Rattle.cy_expr.specs.Faults.{on_one}
use Rattle.cy_expr.specs.Graphs.{lookups}
use Rattle.cy_expr.specs.Logic.{truth_of}
use Rattle.cy_expr.specs.Operators.{value_in_cell}
use Rattle.cy_expr.specs.Reading.{all_read_below, arms_read_below, else_reads_below, links_read_below, reads_below}
use Rattle.cy_expr.proofs.KindLemmas.{kind-holds}
use Rattle.cy_expr.proofs.SureLemmas.{sure-ok}
use Rattle.cy_planner_algebra.specs.Expressions.{is_true}
use Rattle.cy_planner_rows.specs.Renumbered.{new_column, renumbered, renumbered_arms, renumbered_expressions, renumbered_links, renumbered_otherwise, renumbered_variable}
use Rattle.cy_planner_rows.proofs.RenumberedLemmas.{same_cell}
use Rattle.cy_planner_rows.specs.Rows.{condition_on, keeps}
use Rattle.cy_scope.proofs.Columns.{found}
use Rattle.cy_scope.proofs.KindedExpressions.{has_kind}
use Rattle.cy_planner_pushdown.specs.internal.Conditions.{IsOnCells, IsTest, all_ask_of, arms_ask_of, asks_of, else_asks_of, is_that, links_ask_of, same_column}

-- what is bound has a column and its kind there
bound_columns : (scope : Scope) (name : Name) (k : Kind) → find_kind scope name ≡ Some k → (c : ℕ) × (find_column scope name ≡ Some c) × (slice_get scope c ≡ Some (name, k))
bound_columns scope name k is =
    let (c, place, there) = found name scope k 0 is in
    (c, place ∙ ap (λ (n : ℕ). Some n) (omega arith), there)

-- ---- the columns of variables

-- the place of a name is one of the scope's
module _ (scope : Scope) where
  place_inside : (o : Option ℕ) (name : Name) → find_column scope name ≡ o → option_map_or (λ (c : ℕ). nat_lt c (length scope)) o true ≡ true
  place_inside None name is = refl
  place_inside (Some c) name is = lt-ltb c (length scope) (let less = position_inside (λ (v : Name × Kind). bytes_eq name v.0) 0 scope c is in omega (arith, less))

  variable_reads : (v : Variable) → option_map_or (λ (c : ℕ). nat_lt c (length scope)) (find_column scope v.name) true ≡ true
  variable_reads v = place_inside (find_column scope v.name) v.name refl

  mutual
    reads_own : (e : Expression) → reads_below (length scope) (resolved scope e) ≡ true
    reads_own (variable v) = variable_reads v
    reads_own (property e key) = reads_own e
    reads_own (has_labels e labels) = reads_own e
    reads_own (unary operator e) = reads_own e
    reads_own (binary operator a b) = and_from (reads_below (length scope) (resolved scope a)) (reads_below (length scope) (resolved scope b)) (reads_own a) (reads_own b)
    reads_own (comparison e links) = and_from (reads_below (length scope) (resolved scope e)) (links_read_below (length scope) (resolved_links scope links)) (reads_own e) (links_read_own links)
    reads_own (list es) = all_read_own es
    reads_own (case arms e) =
        and_from (arms_read_below (length scope) (resolved_arms scope arms)) (else_reads_below (length scope) (resolved_otherwise scope e)) (arms_read_own arms) (else_reads_own e)
    reads_own (call f distinct es) = all_read_own es
    reads_own _ = refl

    all_read_own : (es : Expressions) → all_read_below (length scope) (resolved_expressions scope es) ≡ true
    all_read_own no_more = refl
    all_read_own (more e es) = and_from (reads_below (length scope) (resolved scope e)) (all_read_below (length scope) (resolved_expressions scope es)) (reads_own e) (all_read_own es)

    links_read_own : (links : Links) → links_read_below (length scope) (resolved_links scope links) ≡ true
    links_read_own no_links = refl
    links_read_own (link by e links) = and_from (reads_below (length scope) (resolved scope e)) (links_read_below (length scope) (resolved_links scope links)) (reads_own e) (links_read_own links)

    arms_read_own : (arms : Arms) → arms_read_below (length scope) (resolved_arms scope arms) ≡ true
    arms_read_own no_arms = refl
    arms_read_own (arm condition outcome arms) =
        and_from (reads_below (length scope) (resolved scope condition) && reads_below (length scope) (resolved scope outcome)) (arms_read_below (length scope) (resolved_arms scope arms))
        (and_from (reads_below (length scope) (resolved scope condition)) (reads_below (length scope) (resolved scope outcome)) (reads_own condition) (reads_own outcome)) (arms_read_own arms)

    else_reads_own : (e : Otherwise) → else_reads_below (length scope) (resolved_otherwise scope e) ≡ true
    else_reads_own nothing = refl
    else_reads_own (otherwise e) = reads_own e

  -- ---- and back

  module _ (columns : List ℕ) where
    abbrev turned : Expression → Expression
    turned e = renumbered columns (resolved scope e)

    same_columns : (o p : Option ℕ) → same_column o p ≡ true → (c : ℕ) × (o ≡ Some c) × (p ≡ Some c)
    same_columns (Some c) (Some d) same = (c, refl, ap (λ (n : ℕ). Some n) (sym (eqb-true c d same)))
    same_columns (Some c) None same = absurd (false≢true same)
    same_columns None p same = absurd (false≢true same)

    column_back : (place o : Option ℕ) → same_column (option_map_or (slice_get columns) place None) o ≡ true → option_map (new_column columns) place ≡ o
    column_back None o same = absurd (false≢true same)
    column_back (Some i) o same =
        let found = same_columns (slice_get columns i) o same in
        ap (λ (n : ℕ). Some n) (get_or_from_slice_get columns i found.0 i found.1) ∙ sym found.2

    variable_back : (v : Variable) → is_that scope columns v ≡ true → renumbered_variable columns (resolved_variable scope v) ≡ v
    variable_back v asks = λ i. record { name = v.name; column = column_back (find_column scope v.name) v.column asks i }

    mutual
      back : (e : Expression) → asks_of scope columns e ≡ true → turned e ≡ e
      back (variable v) asks = ap variable (variable_back v asks)
      back (property e key) asks = λ i. property (back e asks i) key
      back (has_labels e labels) asks = λ i. has_labels (back e asks i) labels
      back (unary operator e) asks = λ i. unary operator (back e asks i)
      back (binary operator a b) asks =
          let two = and_parts (asks_of scope columns a) (asks_of scope columns b) asks in
          λ i. binary operator (back a two.0 i) (back b two.1 i)
      back (comparison e links) asks =
          let two = and_parts (asks_of scope columns e) (links_ask_of scope columns links) asks in
          λ i. comparison (back e two.0 i) (links_back links two.1 i)
      back (list es) asks = λ i. list (all_back es asks i)
      back (case arms e) asks =
          let two = and_parts (arms_ask_of scope columns arms) (else_asks_of scope columns e) asks in
          λ i. case (arms_back arms two.0 i) (else_back e two.1 i)
      back (call f distinct es) asks = λ i. call f distinct (all_back es asks i)
      back _ asks = refl

      all_back : (es : Expressions) → all_ask_of scope columns es ≡ true → renumbered_expressions columns (resolved_expressions scope es) ≡ es
      all_back no_more asks = refl
      all_back (more e es) asks =
          let two = and_parts (asks_of scope columns e) (all_ask_of scope columns es) asks in
          λ i. more (back e two.0 i) (all_back es two.1 i)

      links_back : (links : Links) → links_ask_of scope columns links ≡ true → renumbered_links columns (resolved_links scope links) ≡ links
      links_back no_links asks = refl
      links_back (link by e links) asks =
          let two = and_parts (asks_of scope columns e) (links_ask_of scope columns links) asks in
          λ i. link by (back e two.0 i) (links_back links two.1 i)

      arms_back : (arms : Arms) → arms_ask_of scope columns arms ≡ true → renumbered_arms columns (resolved_arms scope arms) ≡ arms
      arms_back no_arms asks = refl
      arms_back (arm condition outcome arms) asks =
          let two = and_parts (asks_of scope columns condition && asks_of scope columns outcome) (arms_ask_of scope columns arms) asks in
          let first = and_parts (asks_of scope columns condition) (asks_of scope columns outcome) two.0 in
          λ i. arm (back condition first.0 i) (back outcome first.1 i) (arms_back arms two.1 i)

      else_back : (e : Otherwise) → else_asks_of scope columns e ≡ true → renumbered_otherwise columns (resolved_otherwise scope e) ≡ e
      else_back nothing asks = refl
      else_back (otherwise e) asks = λ i. otherwise (back e asks i)

    pub on_cells : length scope ≡ length columns → (e : Expression) → asks_of scope columns e ≡ true → IsOnCells e columns (resolved scope e)
    on_cells as_many e asks graph row =
        ap (λ (x : Expression). keeps graph x row) (sym (back e asks))
        ∙ ap (λ (o : Result Cell EvalFault). is_true (on_one truth_of (on_one value_in_cell o)))
        (same_cell (lookups graph) row columns (resolved scope e) (subst (λ (n : ℕ). reads_below n (resolved scope e) ≡ true) as_many (reads_own e)))

  -- ---- a truth for each row

  module _ (e : Expression) (good : expression_fault scope e ≡ None) (sure : is_sure_flag scope e ≡ true) where
    abbrev both : (is_sure scope e ≡ true) × (is_flag (kind_of scope e) ≡ true)
    both = and_parts (is_sure scope e) (is_flag (kind_of scope e)) sure

    cell_truth : (c : Cell) → is_cell_of kind.Flag c ≡ true → IsOk (on_one truth_of (value_in_cell c))
    cell_truth (cell.Value value.Null) is = refl
    cell_truth (cell.Value (value.Bool true)) is = refl
    cell_truth (cell.Value (value.Bool false)) is = refl
    cell_truth (cell.Value (value.Int n)) is = absurd (false≢true is)
    cell_truth (cell.Value (value.Text t)) is = absurd (false≢true is)
    cell_truth (cell.Value (value.List vs)) is = absurd (false≢true is)
    cell_truth _ is = absurd (false≢true is)

    flag_truth : (o : Result Cell EvalFault) → IsOk o → IfOk o (λ c. is_cell_of kind.Flag c ≡ true) → IsOk (on_one truth_of (on_one value_in_cell o))
    flag_truth (Ok c) is of = cell_truth c of
    flag_truth (Err fault) is of = absurd (false≢true is)

    flag_is : (l : Kind) → is_flag l ≡ true → l ≡ kind.Flag
    flag_is kind.Flag is = refl
    flag_is _ is = absurd (false≢true is)

    has_truth : (graph : Content) (row : List Cell) → row_fits scope row ≡ true → IsOk (condition_on graph (resolved scope e) row)
    has_truth graph row fits =
        let made : Result Cell EvalFault = cell_of (lookups graph) row (resolved scope e) in
        flag_truth made (sure-ok (lookups graph) scope row fits e good both.0)
        (subst (λ (l : Kind). IfOk made (λ d. is_cell_of l d ≡ true)) (flag_is (kind_of scope e) both.1) (kind-holds (lookups graph) scope row fits e))

    pub is_test : IsTest scope (resolved scope e)
    is_test = record {
      reads = reads_own e;
      kinded = subst (λ (l : Kind). HasKind scope (resolved scope e) l) (flag_is (kind_of scope e) both.1) (has_kind scope scope (bound_columns scope) e good);
      has_truth = has_truth;
    }

-- ---- as the scopes are built

module _ (front scope : Scope) (e twin made : Expression) (none : front ≡ []) (same : twin ≡ e) (is : made ≡ resolved (front ++ scope) twin) where
  whole_is : front ++ scope ≡ scope
  whole_is = ap (λ (s : Scope). s ++ scope) none

  made_is : made ≡ resolved scope e
  made_is = is ∙ (λ i. resolved (whole_is i) (same i))

  pub made_test : expression_fault (front ++ scope) e ≡ None → is_sure_flag scope e ≡ true → IsTest scope made
  made_test good sure = subst (λ (x : Expression). IsTest scope x) (sym made_is) (is_test scope e (subst (λ (s : Scope). expression_fault s e ≡ None) whole_is good) sure)

  pub made_on_cells : (columns : List ℕ) → length scope ≡ length columns → asks_of scope columns e ≡ true → IsOnCells e columns made
  made_on_cells columns as_many asks = subst (λ (x : Expression). IsOnCells e columns x) (sym made_is) (on_cells scope columns as_many e asks)
