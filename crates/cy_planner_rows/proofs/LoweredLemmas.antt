-- An expression over columns alone has the value that the expression has on the graph.
use Rattle.std.proofs.Common.{◌≡◌, ℕ, Bool, true, false, cond, ◌&&◌, ◌||◌, List, [], ◌∷◌, map, refl, sym, ap, ◌∙◌}
use Rattle.std.specs.Prelude.{Option, Some, None, Result, Ok, Err, option_map, is_some, unwrap_or, not, if◌then◌else◌}
use Rattle.std.specs.List.{list_all, list_any}
use Rattle.std.specs.Option.{option_map_or}
use Rattle.std.specs.Str.{bytes_eq}
use Rattle.std.proofs.lemmas.Bool.{true≢false}
use Rattle.cy_values.specs.declared.numbers.Entity.{Entity}
use Rattle.cy_values.specs.declared.numbers.Entity.TheVariants as entity
use Rattle.cy_values.specs.declared.scalars.Scalar.TheVariants as scalar
use Rattle.cy_values.specs.declared.scalars.Value.{Value}
use Rattle.cy_values.specs.declared.scalars.Value.TheVariants as value
use Rattle.cy_values.specs.declared.rows.Cell.{Cell}
use Rattle.cy_values.specs.declared.rows.Cell.TheVariants as cell
use Rattle.cy_values.specs.Truth.{both, is_yes, known, one_at_least}
use Rattle.cy_values.specs.Compare.{is_null}
use Rattle.cy_values.proofs.Booleans.{with_true}
use Rattle.cy_trees.specs.declared.expressions.UnaryOperator.TheVariants.{IsNotNull, IsNull, Not}
use Rattle.cy_trees.specs.declared.expressions.BinaryOperator.TheVariants.{In}
use Rattle.cy_trees.specs.Trees.{Name, Expression, null, boolean, text, variable, property, has_labels, unary, binary, comparison, list, case, call, Expressions, no_more, more, Links, no_links, link, Arms, no_arms, arm, Otherwise, nothing, otherwise}
use Rattle.cy_scope_kinds.specs.declared.functions.Function.{Function}
use Rattle.cy_scope_kinds.specs.declared.functions.Function.TheVariants as function
use Rattle.cy_scope_kinds.specs.Functions.{function_named}
use Rattle.cy_expr.specs.declared.faults.EvalFault.{EvalFault}
use Rattle.cy_expr.specs.Choice.{choice, coalesce}
use Rattle.cy_expr.specs.Evaluation.{as_cell, call_value, called, cell_of, cells_of, chain, column_value, function_value, outcome_of_else, outcomes_of, outcomes_of_arms, property_exists, values_of}
use Rattle.cy_expr.specs.Faults.{on_one, on_two}
use Rattle.cy_expr.specs.Lists.{equals_one, list_of, membership}
use Rattle.cy_expr.specs.Logic.{truth_of, value_of}
use Rattle.cy_expr.specs.Lookups.{Lookups, existence, labels_test, labels_value, property_value}
use Rattle.cy_expr.specs.Reading.{reads_graph}
use Rattle.cy_expr.specs.Operators.{binary_value, compared, unary_value, value_in_cell}
use Rattle.cy_expr.proofs.ReadingLemmas.{on_one-pointwise}
use Rattle.cy_planner_algebra.specs.declared.operators.Attribute.{Attribute}
use Rattle.cy_planner_algebra.specs.declared.operators.Attribute.TheVariants.{Property, RelType, Labels}
use Rattle.cy_planner_algebra.specs.Expressions.{no_graph}
use Rattle.cy_planner_rows.specs.internal.Lowered.{AreArmsReadable, AreLinksReadable, AreReadable, IsCallReadable, IsColumnLookedUp, IsExistsReadable, IsKept, IsOtherwiseReadable, IsOwnerLookedUp, IsReadable, all_in, attribute_outcome, looked_up, lowered, lowered_arms, lowered_call, lowered_exists, lowered_expressions, lowered_links, lowered_otherwise, missing_arms, unless_null}

-- a label in the list of a node's labels
either_known : (a b : Bool) → one_at_least (known a) (known b) ≡ known (a || b)
either_known true true = refl
either_known true false = refl
either_known false true = refl
either_known false false = refl

label_among : (l : Name) (ls : List Name) → equals_one (value.Text l) (map (λ m. scalar.Text m) ls) ≡ known (list_any (bytes_eq l) ls)
label_among l [] = refl
label_among l (m ∷ ls) = ap (one_at_least (known (bytes_eq l m))) (label_among l ls) ∙ either_known (bytes_eq l m) (list_any (bytes_eq l) ls)

known_value : (a : Bool) → value_of (known a) ≡ value.Bool a
known_value true = refl
known_value false = refl

abbrev ok_bool : Bool → Result Value EvalFault
ok_bool b = Ok (value.Bool b)

module _ (wide : List Cell) (labels : Expression) where
  -- a label in a node's labels
  one_in : (ls : List Name) (l : Name) → cell_of no_graph wide labels ≡ Ok (cell.Value (value.List (map (λ m. scalar.Text m) ls)))
      → cell_of no_graph wide (binary In (text l) labels) ≡ Ok (cell.Value (value.Bool (list_any (bytes_eq l) ls)))
  one_in ls l is =
      ap (λ r. as_cell (on_one (membership (value.Text l)) (on_one value_in_cell r))) is
      ∙ ap (λ t. Ok (cell.Value (value_of t))) (label_among l ls)
      ∙ ap (λ v. Ok (cell.Value v)) (known_value (list_any (bytes_eq l) ls))

  -- the arms after the first one
  arm_step : (b : Bool) (rest : Result Value EvalFault) (r : Result Cell EvalFault) → r ≡ Ok (cell.Value (value.Bool b))
      → on_one (λ condition. if is_yes condition then Ok (value.Bool false) else rest) (on_one truth_of (on_one value_in_cell (as_cell (on_one (unary_value Not) r)))) ≡ cond b rest (Ok (value.Bool false))
  arm_step true rest r is = ap (λ o. on_one (λ condition. if is_yes condition then Ok (value.Bool false) else rest) (on_one truth_of (on_one value_in_cell (as_cell (on_one (unary_value Not) o))))) is
  arm_step false rest r is = ap (λ o. on_one (λ condition. if is_yes condition then Ok (value.Bool false) else rest) (on_one truth_of (on_one value_in_cell (as_cell (on_one (unary_value Not) o))))) is

  chosen_step : (b c : Bool) → cond b (Ok (value.Bool c)) (Ok (value.Bool false)) ≡ ok_bool (b && c)
  chosen_step true c = refl
  chosen_step false c = refl

  none_missing : (ls : List Name) (asked : List Name) → cell_of no_graph wide labels ≡ Ok (cell.Value (value.List (map (λ m. scalar.Text m) ls)))
      → choice (outcomes_of_arms no_graph wide (missing_arms labels asked)) (Ok (value.Bool true)) ≡ ok_bool (list_all (λ l. list_any (bytes_eq l) ls) asked)
  none_missing ls [] is = refl
  none_missing ls (l ∷ asked) is =
      arm_step (list_any (bytes_eq l) ls) (choice (outcomes_of_arms no_graph wide (missing_arms labels asked)) (Ok (value.Bool true))) (cell_of no_graph wide (binary In (text l) labels)) (one_in ls l is)
      ∙ ap (λ (o : Result Value EvalFault). cond (list_any (bytes_eq l) ls) o (Ok (value.Bool false))) (none_missing ls asked is)
      ∙ chosen_step (list_any (bytes_eq l) ls) (list_all (λ k. list_any (bytes_eq k) ls) asked)

  -- the first one, where there is a list
  by_arms : (ls : List Name) (asked : List Name) → cell_of no_graph wide labels ≡ Ok (cell.Value (value.List (map (λ m. scalar.Text m) ls)))
      → cell_of no_graph wide (case (arm (unary IsNull labels) null (missing_arms labels asked)) (otherwise (boolean true)))
      ≡ as_cell (ok_bool (list_all (λ l. list_any (bytes_eq l) ls) asked))
  by_arms ls asked is =
      ap (λ r. as_cell (choice ((on_one value_in_cell (as_cell (on_one (unary_value IsNull) r)), Ok value.Null) ∷ outcomes_of_arms no_graph wide (missing_arms labels asked)) (Ok (value.Bool true)))) is
      ∙ ap as_cell (none_missing ls asked is)

  each_in : (ls : List Name) (asked : List Name) → cell_of no_graph wide labels ≡ Ok (cell.Value (value.List (map (λ m. scalar.Text m) ls)))
      → cell_of no_graph wide (all_in labels asked) ≡ Ok (cell.Value (value.Bool (list_all (λ l. list_any (bytes_eq l) ls) asked)))
  each_in ls (l ∷ []) is = one_in ls l is ∙ ap (λ b. Ok (cell.Value (value.Bool b))) (with_true (list_any (bytes_eq l) ls))
  each_in ls [] is = by_arms ls [] is
  each_in ls (l ∷ m ∷ asked) is = by_arms ls (l ∷ m ∷ asked) is

  -- in null
  null_by_arms : (asked : List Name) → cell_of no_graph wide labels ≡ Ok (cell.Value value.Null)
      → cell_of no_graph wide (case (arm (unary IsNull labels) null (missing_arms labels asked)) (otherwise (boolean true))) ≡ Ok (cell.Value value.Null)
  null_by_arms asked is =
      ap (λ r. as_cell (choice ((on_one value_in_cell (as_cell (on_one (unary_value IsNull) r)), Ok value.Null) ∷ outcomes_of_arms no_graph wide (missing_arms labels asked)) (Ok (value.Bool true)))) is

  none_in : (asked : List Name) → cell_of no_graph wide labels ≡ Ok (cell.Value value.Null) → cell_of no_graph wide (all_in labels asked) ≡ Ok (cell.Value value.Null)
  none_in (l ∷ []) is = ap (λ r. as_cell (on_one (membership (value.Text l)) (on_one value_in_cell r))) is
  none_in [] is = null_by_arms [] is
  none_in (l ∷ m ∷ asked) is = null_by_arms (l ∷ m ∷ asked) is

-- what is given where an expression isn't null
abbrev guarded : Result Cell EvalFault → Result Cell EvalFault → Result Cell EvalFault
guarded given e = as_cell (choice ((on_one value_in_cell (as_cell (on_one (unary_value IsNull) e)), Ok value.Null) ∷ []) (on_one value_in_cell given))

-- functions that don't read the graph
function_same : (graph : Lookups) (f : Function) → reads_graph (Some f) ≡ false → (c : Cell) → function_value no_graph f c ≡ function_value graph f c
function_same graph function.Type h c = absurd (true≢false h)
function_same graph function.Labels h c = absurd (true≢false h)
function_same graph f h c = refl

called_same : (graph : Lookups) (f : Function) → reads_graph (Some f) ≡ false → (cs : List Cell) → called no_graph (Some f) cs ≡ called graph (Some f) cs
called_same graph f h [] = refl
called_same graph f h (c ∷ []) = function_same graph f h c
called_same graph f h (c ∷ d ∷ cs) = refl

none_called : (graph : Lookups) (cs : List Cell) → called no_graph None cs ≡ called graph None cs
none_called graph [] = refl
none_called graph (c ∷ cs) = refl

call_same : (graph : Lookups) (f : Option Function) (r s : Result (List Cell) EvalFault) (os us : List (Result Value EvalFault)) (there others : Result Value EvalFault)
    → reads_graph f ≡ false → r ≡ s → os ≡ us → call_value no_graph f r os there ≡ call_value graph f s us others
call_same graph (Some function.Coalesce) r s os us there others h is same = ap coalesce same
call_same graph (Some function.Exists) r s os us there others h is same = absurd (true≢false h)
call_same graph None r s os us there others h is same = on_one-pointwise (called no_graph None) (called graph None) r s is (none_called graph)
call_same graph (Some f) r s os us there others h is same = on_one-pointwise (called no_graph (Some f)) (called graph (Some f)) r s is (called_same graph (f) h)

module _ (place : ℕ → Attribute → ℕ) (graph : Lookups) (row wide : List Cell) where
  column_looked_up : (column : Option ℕ) (attribute : Attribute) → IsColumnLookedUp place graph row wide column attribute
      → Ok (column_value (option_map (λ c. place c attribute) column) wide) ≡ as_cell (attribute_outcome graph attribute (column_value column row))
  column_looked_up None attribute found = absurd found
  column_looked_up (Some column) attribute found = ap Ok found.2 ∙ sym (ap as_cell found.1)

  owner_looked_up : (e : Expression) (attribute : Attribute) → IsOwnerLookedUp place graph row wide e attribute
      → cell_of no_graph wide (looked_up place e attribute) ≡ as_cell (on_one (attribute_outcome graph attribute) (cell_of graph row e))
  owner_looked_up (variable v) attribute found = column_looked_up v.column attribute found
  owner_looked_up _ attribute found = absurd found

  -- labels
  labels_same : (asked : List Name) (labels : Expression) (c : Cell) (v : Value) → labels_value graph c ≡ Ok v → cell_of no_graph wide labels ≡ Ok (cell.Value v)
      → cell_of no_graph wide (all_in labels asked) ≡ as_cell (labels_test graph asked c)
  labels_same asked labels (cell.Node n) v is at = each_in wide labels (graph.labels_of n) asked (at ∙ sym (ap as_cell is))
  labels_same asked labels (cell.Rel r) v is at = absurd (cc)
  labels_same asked labels (cell.Rels rs) v is at = absurd (cc)
  labels_same asked labels (cell.Value value.Null) v is at = none_in wide labels asked (at ∙ sym (ap as_cell is))
  labels_same asked labels (cell.Value (value.Bool b)) v is at = absurd (cc)
  labels_same asked labels (cell.Value (value.Int n)) v is at = absurd (cc)
  labels_same asked labels (cell.Value (value.Text t)) v is at = absurd (cc)
  labels_same asked labels (cell.Value (value.List es)) v is at = absurd (cc)

  -- exists
  module _ (stored : (x : Entity) (key : Name) → option_map_or is_null (graph.property_of x key) false ≡ false) where
    there_same : (found : Option Value) → option_map_or is_null found false ≡ false → not (is_null (unwrap_or found value.Null)) ≡ is_some found
    there_same None h = refl
    there_same (Some v) h = ap not h

    exists_same : (key : Name) (c : Cell) (v : Value) → property_value graph key c ≡ Ok v
        → guarded (as_cell (unary_value IsNotNull (cell.Value v))) (Ok c) ≡ as_cell (existence graph key c)
    exists_same key (cell.Node n) v is =
        ap (λ (r : Result Value EvalFault). guarded (as_cell (on_one (λ w. unary_value IsNotNull (cell.Value w)) r)) (Ok (cell.Node n))) (sym is)
        ∙ ap (λ b. Ok (cell.Value (value.Bool b))) (there_same (graph.property_of (entity.Node n) key) (stored (entity.Node n) key))
    exists_same key (cell.Rel r) v is =
        ap (λ (o : Result Value EvalFault). guarded (as_cell (on_one (λ w. unary_value IsNotNull (cell.Value w)) o)) (Ok (cell.Rel r))) (sym is)
        ∙ ap (λ b. Ok (cell.Value (value.Bool b))) (there_same (graph.property_of (entity.Rel r) key) (stored (entity.Rel r) key))
    exists_same key (cell.Rels rs) v is = absurd (cc)
    exists_same key (cell.Value value.Null) v is = refl
    exists_same key (cell.Value (value.Bool b)) v is = absurd (cc)
    exists_same key (cell.Value (value.Int n)) v is = absurd (cc)
    exists_same key (cell.Value (value.Text t)) v is = absurd (cc)
    exists_same key (cell.Value (value.List es)) v is = absurd (cc)

    column_exists : (column : Option ℕ) (key : Name) → column_value column wide ≡ column_value column row → IsColumnLookedUp place graph row wide column (Property key)
        → guarded (as_cell (unary_value IsNotNull (column_value (option_map (λ c. place c (Property key)) column) wide))) (Ok (column_value column wide))
        ≡ as_cell (existence graph key (column_value column row))
    column_exists None key kept found = absurd found
    column_exists (Some column) key kept found =
        (λ i. guarded (as_cell (unary_value IsNotNull (found.2 i))) (Ok (kept i)))
        ∙ exists_same key (column_value (Some column) row) found.0 found.1

    owner_exists : (e : Expression) (key : Name) → IsKept place graph row wide e → IsOwnerLookedUp place graph row wide e (Property key)
        → cell_of no_graph wide (unless_null e (unary IsNotNull (looked_up place e (Property key)))) ≡ as_cell (on_one (existence graph key) (cell_of graph row e))
    owner_exists (variable v) key kept found = column_exists v.column key kept found
    owner_exists _ key kept found = absurd found

    exists_call : (e asked : Expression) → IsExistsReadable place graph row wide e
        → cell_of no_graph wide (lowered_exists place e asked) ≡ as_cell (property_exists graph row (more e no_more))
    exists_call (property e key) asked readable = owner_exists e key readable.0 readable.1
    exists_call e asked readable = absurd readable

    -- labels of what a variable stands for
    column_labels : (name : Name) (column : Option ℕ) (asked : List Name) → IsColumnLookedUp place graph row wide column Labels
        → cell_of no_graph wide (all_in (variable (record { name = name; column = option_map (λ c. place c Labels) column })) asked)
        ≡ as_cell (labels_test graph asked (column_value column row))
    column_labels name None asked found = absurd found
    column_labels name (Some column) asked found =
        labels_same asked (variable (record { name = name; column = Some (place column Labels) })) (column_value (Some column) row) found.0 found.1 (ap Ok found.2)

    owner_labels : (e : Expression) (asked : List Name) → IsOwnerLookedUp place graph row wide e Labels
        → cell_of no_graph wide (all_in (looked_up place e Labels) asked) ≡ as_cell (on_one (labels_test graph asked) (cell_of graph row e))
    owner_labels (variable v) asked found = column_labels v.name v.column asked found
    owner_labels _ asked found = absurd found

    -- a function of one argument
    single : (f : Function) (r : Result Cell EvalFault) → on_one (function_value graph f) r ≡ on_one (called graph (Some f)) (on_two (λ c cs. Ok (c ∷ cs)) r (Ok []))
    single f (Ok c) = refl
    single f (Err fault) = refl

    -- another function
    other_call : (name : Name) (distinct : Bool) (es les : Expressions) (f : Option Function) → function_named name ≡ f → reads_graph f ≡ false
        → cells_of no_graph wide les ≡ cells_of graph row es → outcomes_of no_graph wide les ≡ outcomes_of graph row es
        → cell_of no_graph wide (call name distinct les) ≡ as_cell (call_value graph f (cells_of graph row es) (outcomes_of graph row es) (property_exists graph row es))
    other_call name distinct es les f is unread cells outcomes =
        ap (λ g. as_cell (call_value no_graph g (cells_of no_graph wide les) (outcomes_of no_graph wide les) (property_exists no_graph wide les))) is
        ∙ ap as_cell (call_same graph f (cells_of no_graph wide les) (cells_of graph row es) (outcomes_of no_graph wide les) (outcomes_of graph row es)
        (property_exists no_graph wide les) (property_exists graph row es) unread cells outcomes)

    -- a call, by its function
    same_call : (name : Name) (distinct : Bool) (es : Expressions) (f : Option Function) → function_named name ≡ f
        → (AreReadable place graph row wide es → cells_of no_graph wide (lowered_expressions place es) ≡ cells_of graph row es)
        → (AreReadable place graph row wide es → outcomes_of no_graph wide (lowered_expressions place es) ≡ outcomes_of graph row es)
        → IsCallReadable place graph row wide f es (AreReadable place graph row wide es)
        → cell_of no_graph wide (lowered_call place f es (call name distinct (lowered_expressions place es)))
        ≡ as_cell (call_value graph f (cells_of graph row es) (outcomes_of graph row es) (property_exists graph row es))
    same_call name distinct (more e no_more) (Some function.Labels) is cells outcomes readable = owner_looked_up e Labels readable ∙ ap as_cell (single function.Labels (cell_of graph row e))
    same_call name distinct (more e no_more) (Some function.Type) is cells outcomes readable = owner_looked_up e RelType readable ∙ ap as_cell (single function.Type (cell_of graph row e))
    same_call name distinct (more e no_more) (Some function.Exists) is cells outcomes readable = exists_call e (call name distinct (more (lowered place e) no_more)) readable
    same_call name distinct es (Some function.Labels) is cells outcomes readable = absurd readable
    same_call name distinct es (Some function.Type) is cells outcomes readable = absurd readable
    same_call name distinct es (Some function.Exists) is cells outcomes readable = absurd readable
    same_call name distinct no_more f is cells outcomes readable =
        other_call name distinct no_more (lowered_expressions place no_more) f is refl (cells readable) (outcomes readable)
    same_call name distinct (more e no_more) f is cells outcomes readable =
        other_call name distinct (more e no_more) (lowered_expressions place (more e no_more)) f is refl (cells readable) (outcomes readable)
    same_call name distinct (more e (more d es)) f is cells outcomes readable =
        other_call name distinct (more e (more d es)) (lowered_expressions place (more e (more d es))) f is refl (cells readable) (outcomes readable)

    mutual
      pub same : (e : Expression) → IsReadable place graph row wide e → cell_of no_graph wide (lowered place e) ≡ cell_of graph row e
      same (variable v) readable = ap Ok readable
      same (property e key) readable = owner_looked_up e (Property key) readable
      same (has_labels e labels) readable = owner_labels e labels readable
      same (unary operator e) readable = ap (λ r. as_cell (on_one (unary_value operator) r)) (same e readable)
      same (binary operator a b) readable =
          λ i. as_cell (on_two (binary_value operator) (on_one value_in_cell (same a readable.0 i)) (on_one value_in_cell (same b readable.1 i)))
      same (comparison e links) readable =
          λ i. as_cell (on_one (λ a. Ok (value_of a)) (on_one (λ c. same_chain c links readable.1 i) (same e readable.0 i)))
      same (list es) readable = ap (λ r. as_cell (on_one list_of r)) (same_values es readable)
      same (case arms e) readable = λ i. as_cell (choice (same_arms arms readable.0 i) (same_otherwise e readable.1 i))
      same (call name distinct es) readable = same_call name distinct es (function_named name) refl (same_cells es) (same_outcomes es) readable
      same _ readable = refl

      same_cells : (es : Expressions) → AreReadable place graph row wide es → cells_of no_graph wide (lowered_expressions place es) ≡ cells_of graph row es
      same_cells no_more readable = refl
      same_cells (more e es) readable = λ i. on_two (λ c cs. Ok (c ∷ cs)) (same e readable.0 i) (same_cells es readable.1 i)

      same_values : (es : Expressions) → AreReadable place graph row wide es → values_of no_graph wide (lowered_expressions place es) ≡ values_of graph row es
      same_values no_more readable = refl
      same_values (more e es) readable = λ i. on_two (λ v vs. Ok (v ∷ vs)) (on_one value_in_cell (same e readable.0 i)) (same_values es readable.1 i)

      same_chain : (c : Cell) (links : Links) → AreLinksReadable place graph row wide links → chain no_graph wide c (lowered_links place links) ≡ chain graph row c links
      same_chain c no_links readable = refl
      same_chain c (link comparator e links) readable =
          λ i. on_one (λ d. on_two (λ a b. Ok (both a b)) (compared comparator c d) (same_chain d links readable.1 i)) (same e readable.0 i)

      same_outcomes : (es : Expressions) → AreReadable place graph row wide es → outcomes_of no_graph wide (lowered_expressions place es) ≡ outcomes_of graph row es
      same_outcomes no_more readable = refl
      same_outcomes (more e es) readable = λ i. on_one value_in_cell (same e readable.0 i) ∷ same_outcomes es readable.1 i

      same_arms : (arms : Arms) → AreArmsReadable place graph row wide arms → outcomes_of_arms no_graph wide (lowered_arms place arms) ≡ outcomes_of_arms graph row arms
      same_arms no_arms readable = refl
      same_arms (arm condition outcome arms) readable =
          λ i. (on_one value_in_cell (same condition readable.0 i), on_one value_in_cell (same outcome readable.1 i)) ∷ same_arms arms readable.2 i

      same_otherwise : (e : Otherwise) → IsOtherwiseReadable place graph row wide e → outcome_of_else no_graph wide (lowered_otherwise place e) ≡ outcome_of_else graph row e
      same_otherwise nothing readable = refl
      same_otherwise (otherwise e) readable = ap (on_one value_in_cell) (same e readable)
