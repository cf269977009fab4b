-- What an expression reads of the graph.
use Rattle.std.proofs.Common.{◌≡◌, ◌∙◌, inl, inr, ◌⊎◌, ◌<◌, ◌≤◌, length, get_or, refl, sym, ap, subst, List, [], ◌∷◌, ◌++◌}
use Rattle.std.proofs.lemmas.Bool.{and_parts, cases_lt, false≢true, ltb-true}
use Rattle.std.proofs.lemmas.List.{get_or_append_left, get_or_past}
use Rattle.std.proofs.lemmas.List.Elements.{All-from_recursion, All-get_or, All-head, All-cons, All-nil}
use Rattle.std.specs.Prelude.{ℕ, Bool, true, false, not, ◌&&◌, nat_lt, All, Option, Some, None, Result, Ok, Err, IfOk, IsTrue}
use Rattle.std.specs.List.{AllByRecursion, list_all, list_any}
use Rattle.std.specs.Option.{option_map_or}
use Rattle.std.specs.Str.{bytes_eq}
use Rattle.cy_values.specs.declared.scalars.Value.{Value}
use Rattle.cy_values.specs.declared.scalars.Value.TheVariants as value
use Rattle.cy_values.specs.declared.truth.Truth.{Truth}
use Rattle.cy_values.specs.Truth.{both}
use Rattle.cy_values.specs.declared.rows.Cell.{Cell}
use Rattle.cy_values.specs.declared.rows.Cell.TheVariants as cell
use Rattle.cy_trees.specs.Trees.{Name, Expression, null, boolean, integer, text, variable, property, has_labels, unary, binary, comparison, list, case, call, call_star, Expressions, no_more, more, Links, no_links, link, Arms, no_arms, arm, Otherwise, nothing, otherwise}
use Rattle.cy_scope_kinds.specs.declared.functions.Function.{Function}
use Rattle.cy_scope_kinds.specs.declared.functions.Function.TheVariants as function
use Rattle.cy_scope_kinds.specs.Functions.{function_named}
use Rattle.cy_expr.specs.declared.faults.EvalFault.{EvalFault}
use Rattle.cy_expr.specs.declared.faults.EvalFault.TheVariants.{NoMemory}
use Rattle.cy_expr.specs.Faults.{on_one, on_two}
use Rattle.cy_expr.specs.internal.Empty.{empty}
use Rattle.cy_expr.specs.Lists.{list_of}
use Rattle.cy_expr.specs.Logic.{value_of}
use Rattle.cy_expr.specs.Choice.{choice}
use Rattle.cy_expr.specs.Operators.{binary_value, compared, unary_value, value_in_cell}
use Rattle.cy_expr.specs.Lookups.{Lookups, IsNumbered, property_value, existence, labels_test, labels_value, type_value}
use Rattle.cy_expr.specs.Evaluation.{as_cell, call_value, called, cell_of, cells_of, chain, column_value, function_value, outcome_of_else, outcomes_of, outcomes_of_arms, property_exists, values_of}
use Rattle.cy_expr.specs.Reading.{AgreeAt, reads_graph, reads_columns, all_read_columns, links_read_columns, arms_read_columns, else_reads_columns, reads_below, all_read_below, links_read_below, arms_read_below, else_reads_below}

-- what is answered for the same operand by what answers alike where the operand fits
on_one-alike : {A B : Type 0} (P : A → Type 0) (f g : A → Result B EvalFault) (r s : Result A EvalFault)
    → r ≡ s → IfOk r P → ((a : A) → P a → f a ≡ g a) → on_one f r ≡ on_one g s
on_one-alike P f g (Ok a) s same fits alike = alike a fits ∙ ap (on_one g) same
on_one-alike P f g (Err fault) s same fits alike = ap (on_one g) same

pub on_one-pointwise : {A B : Type 0} (f g : A → Result B EvalFault) (r s : Result A EvalFault)
    → r ≡ s → ((a : A) → f a ≡ g a) → on_one f r ≡ on_one g s
on_one-pointwise f g (Ok a) s same alike = alike a ∙ ap (on_one g) same
on_one-pointwise f g (Err fault) s same alike = ap (on_one g) same

property-alike : (one other : Lookups) (key : Name) (c : Cell) → AgreeAt one other c → property_value one key c ≡ property_value other key c
property-alike one other key (cell.Node n) agree = rw (agree.0 key) refl
property-alike one other key (cell.Rel r) agree = rw (agree.0 key) refl
property-alike one other key (cell.Rels rs) agree = refl
property-alike one other key (cell.Value v) agree = refl

existence-alike : (one other : Lookups) (key : Name) (c : Cell) → AgreeAt one other c → existence one key c ≡ existence other key c
existence-alike one other key (cell.Node n) agree = rw (agree.0 key) refl
existence-alike one other key (cell.Rel r) agree = rw (agree.0 key) refl
existence-alike one other key (cell.Rels rs) agree = refl
existence-alike one other key (cell.Value v) agree = refl

labels_test-alike : (one other : Lookups) (labels : List Name) (c : Cell) → AgreeAt one other c → labels_test one labels c ≡ labels_test other labels c
labels_test-alike one other labels (cell.Node n) agree =
    ap (λ (ls : List Name). Ok (value.Bool (list_all (λ l. list_any (bytes_eq l) ls) labels))) agree.1
labels_test-alike one other labels _ agree = refl

labels_value-alike : (one other : Lookups) (c : Cell) → AgreeAt one other c → labels_value one c ≡ labels_value other c
labels_value-alike one other (cell.Node n) agree = rw agree.1 refl
labels_value-alike one other _ agree = refl

type-alike : (one other : Lookups) (c : Cell) → AgreeAt one other c → type_value one c ≡ type_value other c
type-alike one other (cell.Rel r) agree = rw agree.1 refl
type-alike one other _ agree = refl

function-alike : (one other : Lookups) (f : Function) (c : Cell) → AgreeAt one other c → function_value one f c ≡ function_value other f c
function-alike one other function.Type c agree = type-alike one other c agree
function-alike one other function.Labels c agree = labels_value-alike one other c agree
function-alike one other f c agree = refl

called-alike : (one other : Lookups) (f : Option Function) (cs : List Cell) → All (AgreeAt one other) cs → called one f cs ≡ called other f cs
called-alike one other None [] agree = refl
called-alike one other None (c ∷ cs) agree = refl
called-alike one other (Some f) [] agree = refl
called-alike one other (Some f) (c ∷ []) agree = function-alike one other f c (All-head (AgreeAt one other) c [] agree)
called-alike one other (Some f) (c ∷ d ∷ cs) agree = refl

call-alike : (one other : Lookups) (f : Option Function) (r : Result (List Cell) EvalFault) (outcomes : List (Result Value EvalFault)) (there : Result Value EvalFault)
    → IfOk r (All (AgreeAt one other)) → call_value one f r outcomes there ≡ call_value other f r outcomes there
call-alike one other (Some function.Coalesce) r outcomes there agree = refl
call-alike one other (Some function.Exists) r outcomes there agree = refl
call-alike one other None r outcomes there agree = on_one-alike (All (AgreeAt one other)) (called one None) (called other None) r r refl agree (called-alike one other None)
call-alike one other (Some f) r outcomes there agree =
    on_one-alike (All (AgreeAt one other)) (called one (Some f)) (called other (Some f)) r r refl agree (called-alike one other (Some f))

-- a column of the row, or null
pub column-holds : (P : Cell → Type 0) (row : List Cell) (column : Option ℕ) → All P row → P (cell.Value value.Null) → P (column_value column row)
column-holds P row None all null_holds = null_holds
column-holds P row (Some i) all null_holds = there (cases_lt i (length row))
  where
    there : (i < length row) ⊎ (length row ≤ i) → P (get_or row i (cell.Value value.Null))
    there (inl inside) = All-get_or P row i (cell.Value value.Null) inside all
    there (inr past) = subst P (sym (get_or_past row i (cell.Value value.Null) past)) null_holds

-- that a graph isn't read, or that the graphs agree where the row names entities
abbrev Alike : Lookups → Lookups → List Cell → Bool → Type 0
Alike one other row unread = All (AgreeAt one other) row ⊎ (unread ≡ true)

read : (one other : Lookups) (row : List Cell) → Alike one other row false → All (AgreeAt one other) row
read one other row (inl agree) = agree
read one other row (inr unread) = absurd (false≢true unread)

in_left : (one other : Lookups) (row : List Cell) (a b : Bool) → Alike one other row (a && b) → Alike one other row a
in_left one other row a b (inl agree) = inl agree
in_left one other row true b (inr unread) = inr refl
in_left one other row false b (inr unread) = inr unread

in_right : (one other : Lookups) (row : List Cell) (a b : Bool) → Alike one other row (a && b) → Alike one other row b
in_right one other row a b (inl agree) = inl agree
in_right one other row true b (inr unread) = inr unread
in_right one other row false b (inr unread) = absurd (false≢true unread)

-- what holds of each value and of each cell of the row holds of what an expression gives
module _ (P : Cell → Type 0) (values : (v : Value) → P (cell.Value v)) (graph : Lookups) (row : List Cell) (all : All P row) where
  value-holds : (r : Result Value EvalFault) → IfOk (as_cell r) P
  value-holds (Ok v) = values v
  value-holds (Err fault) = tt

  pub cell-holds : (e : Expression) → IfOk (cell_of graph row e) P
  cell-holds null = values value.Null
  cell-holds (boolean b) = values (value.Bool b)
  cell-holds (integer n) = values (value.Int n)
  cell-holds (text t) = values (value.Text t)
  cell-holds (variable v) = column-holds P row v.column all (values value.Null)
  cell-holds (property e key) = value-holds (on_one (property_value graph key) (cell_of graph row e))
  cell-holds (has_labels e labels) = value-holds (on_one (labels_test graph labels) (cell_of graph row e))
  cell-holds (unary operator e) = value-holds (on_one (unary_value operator) (cell_of graph row e))
  cell-holds (binary operator a b) =
      value-holds (on_two (binary_value operator) (on_one value_in_cell (cell_of graph row a)) (on_one value_in_cell (cell_of graph row b)))
  cell-holds (comparison e links) =
      value-holds (on_one (λ a. Ok (value_of a)) (on_one (λ c. chain graph row c links) (cell_of graph row e)))
  cell-holds (list es) = value-holds (on_one list_of (values_of graph row es))
  cell-holds (case arms e) = value-holds (choice (outcomes_of_arms graph row arms) (outcome_of_else graph row e))
  cell-holds (call name distinct es) =
      value-holds (call_value graph (function_named name) (cells_of graph row es) (outcomes_of graph row es) (property_exists graph row es))
  cell-holds (call_star name) = tt

-- an entity that an expression gives has a number as those that the row names
pub cell-numbered : (graph : Lookups) (row : List Cell) (e : Expression) (c : Cell) → All IsNumbered row → cell_of graph row e ≡ Ok c → IsNumbered c
cell-numbered graph row e c all is = subst (λ (r : Result Cell EvalFault). IfOk r IsNumbered) is (cell-holds IsNumbered (λ v. tt) graph row all e)

module _ (one other : Lookups) (row : List Cell) (agree : All (AgreeAt one other) row) where
  -- an entity that an expression gives is one that the row names
  cell-agrees : (e : Expression) → IfOk (cell_of one row e) (AgreeAt one other)
  cell-agrees e = cell-holds (AgreeAt one other) (λ v. tt) one row agree e

  both-agree : (r : Result Cell EvalFault) (s : Result (List Cell) EvalFault) → IfOk r (AgreeAt one other) → IfOk s (All (AgreeAt one other))
      → IfOk (on_two (λ c cs. Ok (c ∷ cs)) r s) (All (AgreeAt one other))
  both-agree (Ok c) (Ok cs) fits all = All-cons (AgreeAt one other) c cs fits all
  both-agree (Ok c) (Err fault) fits all = tt
  both-agree (Err fault) s fits all = tt

  cells-agree : (es : Expressions) → IfOk (cells_of one row es) (All (AgreeAt one other))
  cells-agree no_more = All-nil (AgreeAt one other)
  cells-agree (more e es) = both-agree (cell_of one row e) (cells_of one row es) (cell-agrees e) (cells-agree es)

-- a call whose arguments are known
call-same : (one other : Lookups) (row : List Cell) (f : Option Function) (es : Expressions) (there : Result Value EvalFault)
    → Alike one other row (not (reads_graph f)) → call_value one f (cells_of one row es) (outcomes_of one row es) there ≡ call_value other f (cells_of one row es) (outcomes_of one row es) there
call-same one other row f es there (inl agree) = call-alike one other f (cells_of one row es) (outcomes_of one row es) there (cells-agree one other row agree es)
call-same one other row None es there (inr unread) = refl
call-same one other row (Some function.Type) es there (inr unread) = absurd (false≢true unread)
call-same one other row (Some function.Labels) es there (inr unread) = absurd (false≢true unread)
call-same one other row (Some f) es there (inr unread) = refl

-- a graph agrees with itself
agree-itself : (graph : Lookups) (c : Cell) → AgreeAt graph graph c
agree-itself graph (cell.Node n) = (λ key. refl, refl)
agree-itself graph (cell.Rel r) = (λ key. refl, refl)
agree-itself graph (cell.Rels rs) = tt
agree-itself graph (cell.Value v) = tt

agree-alone : (graph : Lookups) (row : List Cell) → AllByRecursion (AgreeAt graph graph) row
agree-alone graph [] = tt
agree-alone graph (c ∷ row) = (agree-itself graph c, agree-alone graph row)

-- two graphs, and two rows with the same first columns
module _ (one other : Lookups) (row beside : List Cell) (width : ℕ)
    (same : (i : ℕ) → i < width → get_or row i (cell.Value value.Null) ≡ get_or beside i (cell.Value value.Null)) where
  -- of the rows these columns alone are read, or they are one
  abbrev Within : Bool → Type 0
  Within below = (row ≡ beside) ⊎ (below ≡ true)

  abbrev BothAlike : Bool → Bool → Type 0
  BothAlike unread below = Alike one other row unread × Within below

  within-left : (a b : Bool) → Within (a && b) → Within a
  within-left a b (inl is) = inl is
  within-left a b (inr below) = inr ((and_parts a b below).0)

  within-right : (a b : Bool) → Within (a && b) → Within b
  within-right a b (inl is) = inl is
  within-right a b (inr below) = inr ((and_parts a b below).1)

  left : (a b c d : Bool) → BothAlike (a && b) (c && d) → BothAlike a c
  left a b c d h = (in_left one other row a b h.0, within-left c d h.1)

  right : (a b c d : Bool) → BothAlike (a && b) (c && d) → BothAlike b d
  right a b c d h = (in_right one other row a b h.0, within-right c d h.1)

  column-alike : (column : Option ℕ) → Within (option_map_or (λ i. nat_lt i width) column true) → column_value column row ≡ column_value column beside
  column-alike column (inl is) = ap (column_value column) is
  column-alike None (inr below) = refl
  column-alike (Some i) (inr below) = same i (ltb-true i width below)

  -- so an expression gives the same on both
  mutual
    pub cell-alike : (e : Expression) → BothAlike (reads_columns e) (reads_below width e) → cell_of one row e ≡ cell_of other beside e
    cell-alike (variable v) h = ap (λ (c : Cell). Ok c) (column-alike v.column h.1)
    cell-alike (property e key) h =
        let agree = read one other row h.0 in
        ap as_cell (on_one-alike (AgreeAt one other) (property_value one key) (property_value other key) (cell_of one row e) (cell_of other beside e)
        (cell-alike e (inl agree, h.1)) (cell-agrees one other row agree e) (property-alike one other key))
    cell-alike (has_labels e labels) h =
        let agree = read one other row h.0 in
        ap as_cell (on_one-alike (AgreeAt one other) (labels_test one labels) (labels_test other labels) (cell_of one row e) (cell_of other beside e)
        (cell-alike e (inl agree, h.1)) (cell-agrees one other row agree e) (labels_test-alike one other labels))
    cell-alike (unary operator e) h = ap (λ (r : Result Cell EvalFault). as_cell (on_one (unary_value operator) r)) (cell-alike e h)
    cell-alike (binary operator a b) h =
        ap (λ (r : Result Cell EvalFault). as_cell (on_two (binary_value operator) (on_one value_in_cell r) (on_one value_in_cell (cell_of one row b))))
        (cell-alike a (left (reads_columns a) (reads_columns b) (reads_below width a) (reads_below width b) h))
        ∙ ap (λ (r : Result Cell EvalFault). as_cell (on_two (binary_value operator) (on_one value_in_cell (cell_of other beside a)) (on_one value_in_cell r)))
        (cell-alike b (right (reads_columns a) (reads_columns b) (reads_below width a) (reads_below width b) h))
    cell-alike (comparison e links) h =
        ap (λ (r : Result Truth EvalFault). as_cell (on_one (λ a. Ok (value_of a)) r))
        (on_one-pointwise (λ c. chain one row c links) (λ c. chain other beside c links) (cell_of one row e) (cell_of other beside e)
        (cell-alike e (left (reads_columns e) (links_read_columns links) (reads_below width e) (links_read_below width links) h))
        (chain-alike links (right (reads_columns e) (links_read_columns links) (reads_below width e) (links_read_below width links) h)))
    cell-alike (list es) h = ap (λ (r : Result (List Value) EvalFault). as_cell (on_one list_of r)) (values-alike es h)
    cell-alike (case arms e) h =
        ap (λ (os : List (Result Value EvalFault × Result Value EvalFault)). as_cell (choice os (outcome_of_else one row e)))
        (arms-alike arms (left (arms_read_columns arms) (else_reads_columns e) (arms_read_below width arms) (else_reads_below width e) h))
        ∙ ap (λ (o : Result Value EvalFault). as_cell (choice (outcomes_of_arms other beside arms) o))
        (else-alike e (right (arms_read_columns arms) (else_reads_columns e) (arms_read_below width arms) (else_reads_below width e) h))
    cell-alike (call name distinct es) h =
        let arguments : BothAlike (all_read_columns es) (all_read_below width es) = (in_right one other row (not (reads_graph (function_named name))) (all_read_columns es) h.0, h.1) in
        ap as_cell (call-same one other row (function_named name) es (property_exists one row es) (in_left one other row (not (reads_graph (function_named name))) (all_read_columns es) h.0)
        ∙ ap (λ (r : Result (List Cell) EvalFault). call_value other (function_named name) r (outcomes_of one row es) (property_exists one row es)) (cells-alike es arguments)
        ∙ ap (λ (os : List (Result Value EvalFault)). call_value other (function_named name) (cells_of other beside es) os (property_exists one row es)) (outcomes-alike es arguments)
        ∙ ap (λ (o : Result Value EvalFault). call_value other (function_named name) (cells_of other beside es) (outcomes_of other beside es) o) (asked-alike es arguments))
    cell-alike _ h = refl

    cells-alike : (es : Expressions) → BothAlike (all_read_columns es) (all_read_below width es) → cells_of one row es ≡ cells_of other beside es
    cells-alike no_more h = refl
    cells-alike (more e es) h =
        ap (λ (r : Result Cell EvalFault). on_two (λ c cs. Ok (c ∷ cs)) r (cells_of one row es))
        (cell-alike e (left (reads_columns e) (all_read_columns es) (reads_below width e) (all_read_below width es) h))
        ∙ ap (λ (r : Result (List Cell) EvalFault). on_two (λ c cs. Ok (c ∷ cs)) (cell_of other beside e) r)
        (cells-alike es (right (reads_columns e) (all_read_columns es) (reads_below width e) (all_read_below width es) h))

    values-alike : (es : Expressions) → BothAlike (all_read_columns es) (all_read_below width es) → values_of one row es ≡ values_of other beside es
    values-alike no_more h = refl
    values-alike (more e es) h =
        ap (λ (r : Result Cell EvalFault). on_two (λ v vs. Ok (v ∷ vs)) (on_one value_in_cell r) (values_of one row es))
        (cell-alike e (left (reads_columns e) (all_read_columns es) (reads_below width e) (all_read_below width es) h))
        ∙ ap (λ (r : Result (List Value) EvalFault). on_two (λ v vs. Ok (v ∷ vs)) (on_one value_in_cell (cell_of other beside e)) r)
        (values-alike es (right (reads_columns e) (all_read_columns es) (reads_below width e) (all_read_below width es) h))

    chain-alike : (links : Links) → BothAlike (links_read_columns links) (links_read_below width links) → (c : Cell) → chain one row c links ≡ chain other beside c links
    chain-alike no_links h c = refl
    chain-alike (link comparator e links) h c =
        on_one-pointwise (λ d. on_two (λ a b. Ok (both a b)) (compared comparator c d) (chain one row d links))
        (λ d. on_two (λ a b. Ok (both a b)) (compared comparator c d) (chain other beside d links)) (cell_of one row e) (cell_of other beside e)
        (cell-alike e (left (reads_columns e) (links_read_columns links) (reads_below width e) (links_read_below width links) h))
        (λ d. ap (λ (r : Result Truth EvalFault). on_two (λ a b. Ok (both a b)) (compared comparator c d) r)
        (chain-alike links (right (reads_columns e) (links_read_columns links) (reads_below width e) (links_read_below width links) h) d))

    outcomes-alike : (es : Expressions) → BothAlike (all_read_columns es) (all_read_below width es) → outcomes_of one row es ≡ outcomes_of other beside es
    outcomes-alike no_more h = refl
    outcomes-alike (more e es) h =
        ap (λ (r : Result Cell EvalFault). on_one value_in_cell r ∷ outcomes_of one row es)
        (cell-alike e (left (reads_columns e) (all_read_columns es) (reads_below width e) (all_read_below width es) h))
        ∙ ap (λ (os : List (Result Value EvalFault)). on_one value_in_cell (cell_of other beside e) ∷ os)
        (outcomes-alike es (right (reads_columns e) (all_read_columns es) (reads_below width e) (all_read_below width es) h))

    arms-alike : (arms : Arms) → BothAlike (arms_read_columns arms) (arms_read_below width arms) → outcomes_of_arms one row arms ≡ outcomes_of_arms other beside arms
    arms-alike no_arms h = refl
    arms-alike (arm condition outcome arms) h =
        let tests = left (reads_columns condition && reads_columns outcome) (arms_read_columns arms) (reads_below width condition && reads_below width outcome) (arms_read_below width arms) h in
        ap (λ (r : Result Cell EvalFault). (on_one value_in_cell r, on_one value_in_cell (cell_of one row outcome)) ∷ outcomes_of_arms one row arms)
        (cell-alike condition (left (reads_columns condition) (reads_columns outcome) (reads_below width condition) (reads_below width outcome) tests))
        ∙ ap (λ (r : Result Cell EvalFault). (on_one value_in_cell (cell_of other beside condition), on_one value_in_cell r) ∷ outcomes_of_arms one row arms)
        (cell-alike outcome (right (reads_columns condition) (reads_columns outcome) (reads_below width condition) (reads_below width outcome) tests))
        ∙ ap (λ (os : List (Result Value EvalFault × Result Value EvalFault)). (on_one value_in_cell (cell_of other beside condition), on_one value_in_cell (cell_of other beside outcome)) ∷ os)
        (arms-alike arms (right (reads_columns condition && reads_columns outcome) (arms_read_columns arms) (reads_below width condition && reads_below width outcome) (arms_read_below width arms) h))

    else-alike : (e : Otherwise) → BothAlike (else_reads_columns e) (else_reads_below width e) → outcome_of_else one row e ≡ outcome_of_else other beside e
    else-alike nothing h = refl
    else-alike (otherwise e) h = ap (on_one value_in_cell) (cell-alike e h)

    asked-alike : (es : Expressions) → BothAlike (all_read_columns es) (all_read_below width es) → property_exists one row es ≡ property_exists other beside es
    asked-alike (more (property e key) no_more) h =
        let agree = read one other row h.0 in
        on_one-alike (AgreeAt one other) (existence one key) (existence other key) (cell_of one row e) (cell_of other beside e)
        (cell-alike e (inl agree, within-left (reads_below width e) true h.1)) (cell-agrees one other row agree e) (existence-alike one other key)
    asked-alike es h = refl

-- on one row
pub same-row : (one other : Lookups) (row : List Cell) (e : Expression) → All (AgreeAt one other) row ⊎ (reads_columns e ≡ true) → cell_of one row e ≡ cell_of other row e
same-row one other row e h = cell-alike one other row row 0 (λ i within. refl) e (h, inl refl)

-- on a row with more cells after it
pub longer-row : (graph : Lookups) (row others : List Cell) (e : Expression) → reads_below (length row) e ≡ true → cell_of graph row e ≡ cell_of graph (row ++ others) e
longer-row graph row others e below =
    cell-alike graph graph row (row ++ others) (length row) (λ i within. sym (get_or_append_left row others (cell.Value value.Null) i within)) e
    (inl (All-from_recursion (AgreeAt graph graph) row (agree-alone graph row)), inr below)

-- what is found without a graph
pub sure-cell : (graph : Lookups) (row : List Cell) (e : Expression) (c : Cell) → IsTrue (reads_columns e)
    → (Ok c ≡ cell_of empty row e) ⊎ (Ok c ≡ Err NoMemory) → cell_of graph row e ≡ Ok c
sure-cell graph row e c columns (inl is) = same-row graph empty row e (inr columns) ∙ sym is
sure-cell graph row e c columns (inr is) = absurd (cc)
