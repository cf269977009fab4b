-- The cell of an expression has the expression's kind.
use Rattle.std.proofs.Common.{◌≡◌, ◌∙◌, ◌+◌, suc, get_or, refl, sym, ap, subst, arith, List, [], ◌∷◌}
use Rattle.std.proofs.lemmas.Bool.{false≢true}
use Rattle.std.specs.Prelude.{ℕ, Bool, true, false, cond, ◌&&◌, Option, Some, None, option_map, unwrap_or, is_some, Result, Ok, Err, IfOk, if◌then◌else◌}
use Rattle.std.specs.List.{list_all, list_any, position_from}
use Rattle.std.specs.Str.{bytes_eq}
use Rattle.cy_values.specs.declared.numbers.NodeId.{NodeId}
use Rattle.cy_values.specs.declared.numbers.Entity.{Entity}
use Rattle.cy_values.specs.declared.scalars.Value.{Value}
use Rattle.cy_values.specs.declared.scalars.Value.TheVariants as value
use Rattle.cy_values.specs.declared.truth.Truth.{Truth}
use Rattle.cy_values.specs.declared.truth.Truth.TheVariants.{No, Unknown, Yes}
use Rattle.cy_values.specs.Truth.{both, is_yes, one_alone, one_at_least, opposite}
use Rattle.cy_values.specs.declared.rows.Cell.{Cell}
use Rattle.cy_values.specs.declared.rows.Cell.TheVariants as cell
use Rattle.cy_values.proofs.Booleans.{both_first, both_second}
use Rattle.cy_trees.specs.declared.expressions.UnaryOperator.{UnaryOperator}
use Rattle.cy_trees.specs.declared.expressions.UnaryOperator.TheVariants.{Not, Plus, Minus, IsNull, IsNotNull}
use Rattle.cy_trees.specs.declared.expressions.BinaryOperator.{BinaryOperator}
use Rattle.cy_trees.specs.declared.expressions.BinaryOperator.TheVariants.{Or, Xor, And, In, Contains, StartsWith, EndsWith, Add, Subtract, Multiply, Divide, Remainder}
use Rattle.cy_trees.specs.Trees.{Name, Expression, variable, property, has_labels, unary, binary, comparison, list, case, call, call_star, Expressions, no_more, more, Arms, no_arms, arm, Otherwise, nothing, otherwise}
use Rattle.cy_scope_kinds.specs.declared.functions.Function.{Function}
use Rattle.cy_scope_kinds.specs.declared.functions.Function.TheVariants as function
use Rattle.cy_scope_kinds.specs.declared.kinds.Kind.{Kind}
use Rattle.cy_scope_kinds.specs.declared.kinds.Kind.TheVariants as kind
use Rattle.cy_scope_kinds.specs.Functions.{function_named}
use Rattle.cy_scope_kinds.specs.Kinds.{is_flag, flag_if}
use Rattle.cy_scope_kinds.specs.Scopes.{Scope, find_column, find_kind, kind_in}
use Rattle.cy_scope_kinds.specs.Rows.{row_fits, is_cell_of}
use Rattle.cy_scope_kinds.specs.ExpressionKinds.{are_flags, binary_kind, call_kind, gives_flags, is_flag_otherwise, kind_of, unary_kind}
use Rattle.cy_scope_kinds.specs.ResolvedExpressions.{resolved, resolved_arms, resolved_expressions, resolved_links, resolved_otherwise}
use Rattle.cy_expr.specs.declared.faults.EvalFault.{EvalFault}
use Rattle.cy_expr.specs.Faults.{on_one, on_two}
use Rattle.cy_expr.specs.Logic.{conjunction, disjunction, exclusive_disjunction, negation, truth_of, value_of}
use Rattle.cy_expr.specs.Lists.{equals_one, list_of, membership}
use Rattle.cy_expr.specs.Predicates.{text_contains, text_ends, text_starts}
use Rattle.cy_expr.specs.Choice.{coalesce, choice}
use Rattle.cy_expr.specs.Operators.{binary_value, unary_value, value_in_cell}
use Rattle.cy_expr.specs.Lookups.{Lookups, property_value, existence, labels_test, on_entity, on_node}
use Rattle.cy_expr.specs.Evaluation.{as_cell, call_value, cell_of, cells_of, chain, column_value, outcome_of_else, outcomes_of, outcomes_of_arms, property_exists, values_of}

-- places counted from the next number
position-next : {A : Type 0} (test : A → Bool) (i : ℕ) (vs : List A) → position_from test (1 + i) vs ≡ option_map (λ n. 1 + n) (position_from test i vs)
position-next test i [] = refl
position-next test i (v ∷ vs) =
    elim (test v) as (λ t. cond t (Some (1 + i)) (position_from test (1 + i + 1) vs) ≡ option_map (λ n. 1 + n) (cond t (Some i) (position_from test (i + 1) vs))) [
      | true ↦ refl
      | false ↦ ap (λ (n : ℕ). position_from test n vs) (let e : 1 + i + 1 ≡ 1 + (i + 1) = omega arith in e) ∙ position-next test (i + 1) vs
    ]

-- a column of the row has the kind of the variable that is the first of its name
found : (k : Kind) (c : Cell) (row : List Cell) (others : Option Kind) (column : Option ℕ) (b : Bool)
    → is_cell_of k c ≡ true → is_cell_of (unwrap_or others kind.Value) (column_value column row) ≡ true
    → is_cell_of (unwrap_or (cond b (Some k) others) kind.Value) (column_value (cond b (Some 0) (option_map (λ n. 1 + n) column)) (c ∷ row)) ≡ true
found k c row others column true here there = here
found k c row others None false here there = there
found k c row others (Some n) false here there =
    let next : 1 + n ≡ suc n = omega arith in
    subst (λ (m : ℕ). is_cell_of (unwrap_or others kind.Value) (get_or (c ∷ row) m (cell.Value value.Null)) ≡ true) (sym next) there

pub column-kind : (scope : Scope) (row : List Cell) (name : Name) → row_fits scope row ≡ true
    → is_cell_of (kind_in scope name) (column_value (find_column scope name) row) ≡ true
column-kind [] row name fit = refl
column-kind (v ∷ scope) [] name fit = absurd (false≢true fit)
column-kind (v ∷ scope) (c ∷ row) name fit =
    subst (λ (o : Option ℕ). is_cell_of (unwrap_or (cond (bytes_eq name v.0) (Some v.1) (find_kind scope name)) kind.Value) (column_value (cond (bytes_eq name v.0) (Some 0) o) (c ∷ row)) ≡ true)
    (sym (position-next (λ (w : Name × Kind). bytes_eq name w.0) 0 scope))
    (found v.1 c row (find_kind scope name) (find_column scope name) (bytes_eq name v.0)
    (both_first (is_cell_of v.1 c) (row_fits scope row) fit) (column-kind scope row name (both_second (is_cell_of v.1 c) (row_fits scope row) fit)))

-- ---- values

-- a value, of whatever type
pub value-holds : (r : Result Value EvalFault) → IfOk (as_cell r) (λ c. is_cell_of kind.Value c ≡ true)
value-holds (Ok (value.Text t)) = refl
value-holds (Ok (value.Bool b)) = refl
value-holds (Ok (value.Int n)) = refl
value-holds (Ok (value.List es)) = refl
value-holds (Ok value.Null) = refl
value-holds (Err fault) = tt

abbrev pub is_boolean_or_null : Value → Bool
is_boolean_or_null (value.Bool b) = true
is_boolean_or_null value.Null = true
is_boolean_or_null v = false

-- a boolean or null
abbrev pub Flags : Result Value EvalFault → Type 0
Flags r = IfOk r (λ v. is_boolean_or_null v ≡ true)

flag-holds : (r : Result Value EvalFault) → Flags r → IfOk (as_cell r) (λ c. is_cell_of kind.Flag c ≡ true)
flag-holds (Ok (value.Text t)) is = is
flag-holds (Ok (value.Bool b)) is = refl
flag-holds (Ok (value.Int n)) is = is
flag-holds (Ok (value.List es)) is = is
flag-holds (Ok value.Null) is = refl
flag-holds (Err fault) is = tt

flag-chosen : (b : Bool) (r : Result Value EvalFault) → (b ≡ true → Flags r) → IfOk (as_cell r) (λ c. is_cell_of (flag_if b) c ≡ true)
flag-chosen true r is = flag-holds r (is refl)
flag-chosen false r is = value-holds r

pub truth-flags : (t : Truth) → is_boolean_or_null (value_of t) ≡ true
truth-flags Yes = refl
truth-flags No = refl
truth-flags Unknown = refl

one-flags : {A : Type 0} (f : A → Result Value EvalFault) → ((a : A) → Flags (f a)) → (r : Result A EvalFault) → Flags (on_one f r)
one-flags f are (Ok a) = are a
one-flags f are (Err fault) = tt

two-flags : {A B : Type 0} (f : A → B → Result Value EvalFault) → ((a : A) (b : B) → Flags (f a b)) → (r : Result A EvalFault) (s : Result B EvalFault) → Flags (on_two f r s)
two-flags f are (Ok a) (Ok b) = are a b
two-flags f are (Ok a) (Err fault) = tt
two-flags f are (Err fault) s = tt

entity-flags : (f : Entity → Bool) (c : Cell) → Flags (on_entity (λ e. value.Bool (f e)) c)
entity-flags f (cell.Node n) = refl
entity-flags f (cell.Rel r) = refl
entity-flags f (cell.Rels rs) = tt
entity-flags f (cell.Value value.Null) = refl
entity-flags f (cell.Value v) = tt

node-flags : (f : NodeId → Bool) (c : Cell) → Flags (on_node (λ n. value.Bool (f n)) c)
node-flags f (cell.Node n) = refl
node-flags f (cell.Value value.Null) = refl
node-flags f _ = tt

unary-holds : (operator : UnaryOperator) (r : Result Cell EvalFault) → IfOk (as_cell (on_one (unary_value operator) r)) (λ c. is_cell_of (unary_kind operator) c ≡ true)
unary-holds Plus r = value-holds (on_one (unary_value Plus) r)
unary-holds Minus r = value-holds (on_one (unary_value Minus) r)
unary-holds Not r =
    flag-holds (on_one (unary_value Not) r)
    (one-flags (unary_value Not) (λ c. one-flags negation (λ v. one-flags (λ a. Ok (value_of (opposite a))) (λ a. truth-flags (opposite a)) (truth_of v)) (value_in_cell c)) r)
unary-holds IsNull r = flag-holds (on_one (unary_value IsNull) r) (one-flags (unary_value IsNull) (λ c. refl) r)
unary-holds IsNotNull r = flag-holds (on_one (unary_value IsNotNull) r) (one-flags (unary_value IsNotNull) (λ c. refl) r)

membership-flags : (x y : Value) → Flags (membership x y)
membership-flags x (value.List es) = truth-flags (equals_one x es)
membership-flags x value.Null = refl
membership-flags x _ = tt

binary-holds : (operator : BinaryOperator) (r s : Result Value EvalFault)
    → IfOk (as_cell (on_two (binary_value operator) r s)) (λ c. is_cell_of (binary_kind operator) c ≡ true)
binary-holds Or r s =
    flag-holds (on_two (binary_value Or) r s)
    (two-flags disjunction (λ x y. two-flags (λ a b. Ok (value_of (one_at_least a b))) (λ a b. truth-flags (one_at_least a b)) (truth_of x) (truth_of y)) r s)
binary-holds Xor r s =
    flag-holds (on_two (binary_value Xor) r s)
    (two-flags exclusive_disjunction (λ x y. two-flags (λ a b. Ok (value_of (one_alone a b))) (λ a b. truth-flags (one_alone a b)) (truth_of x) (truth_of y)) r s)
binary-holds And r s =
    flag-holds (on_two (binary_value And) r s)
    (two-flags conjunction (λ x y. two-flags (λ a b. Ok (value_of (both a b))) (λ a b. truth-flags (both a b)) (truth_of x) (truth_of y)) r s)
binary-holds In r s = flag-holds (on_two (binary_value In) r s) (two-flags membership membership-flags r s)
binary-holds Contains r s = flag-holds (on_two (binary_value Contains) r s) (two-flags (binary_value Contains) (λ x y. truth-flags (text_contains x y)) r s)
binary-holds StartsWith r s = flag-holds (on_two (binary_value StartsWith) r s) (two-flags (binary_value StartsWith) (λ x y. truth-flags (text_starts x y)) r s)
binary-holds EndsWith r s = flag-holds (on_two (binary_value EndsWith) r s) (two-flags (binary_value EndsWith) (λ x y. truth-flags (text_ends x y)) r s)
binary-holds Add r s = value-holds (on_two (binary_value Add) r s)
binary-holds Subtract r s = value-holds (on_two (binary_value Subtract) r s)
binary-holds Multiply r s = value-holds (on_two (binary_value Multiply) r s)
binary-holds Divide r s = value-holds (on_two (binary_value Divide) r s)
binary-holds Remainder r s = value-holds (on_two (binary_value Remainder) r s)

-- the value in a cell that is a flag
cell-flags : (k : Kind) (r : Result Cell EvalFault) → IfOk r (λ c. is_cell_of k c ≡ true) → is_flag k ≡ true → Flags (on_one value_in_cell r)
cell-flags kind.Flag (Ok (cell.Value (value.Bool b))) has is = refl
cell-flags kind.Flag (Ok (cell.Value value.Null)) has is = refl
cell-flags kind.Flag (Ok (cell.Value v)) has is = has
cell-flags kind.Flag (Ok c) has is = tt
cell-flags kind.Flag (Err fault) has is = tt
cell-flags k r has is = absurd (false≢true is)

coalesce-flags : (r : Result Value EvalFault) (rs : List (Result Value EvalFault)) → Flags r → Flags (coalesce rs) → Flags (coalesce (r ∷ rs))
coalesce-flags (Ok (value.Bool b)) rs is are = refl
coalesce-flags (Ok value.Null) rs is are = are
coalesce-flags (Ok (value.Int n)) rs is are = absurd (false≢true is)
coalesce-flags (Ok (value.Text t)) rs is are = absurd (false≢true is)
coalesce-flags (Ok (value.List es)) rs is are = absurd (false≢true is)
coalesce-flags (Err fault) rs is are = tt

choice-flags : (t : Result Truth EvalFault) (r c : Result Value EvalFault) → Flags r → Flags c → Flags (on_one (λ x. if is_yes x then r else c) t)
choice-flags (Ok Yes) r c is are = is
choice-flags (Ok No) r c is are = are
choice-flags (Ok Unknown) r c is are = are
choice-flags (Err fault) r c is are = tt

call-holds : (graph : Lookups) (f : Option Function) (flags : Bool) (cells : Result (List Cell) EvalFault) (outcomes : List (Result Value EvalFault)) (there : Result Value EvalFault)
    → (flags ≡ true → Flags (coalesce outcomes)) → Flags there → IfOk (as_cell (call_value graph f cells outcomes there)) (λ c. is_cell_of (call_kind f flags) c ≡ true)
call-holds graph None flags cells outcomes there are asked = value-holds (call_value graph None cells outcomes there)
call-holds graph (Some function.Coalesce) flags cells outcomes there are asked = flag-chosen flags (coalesce outcomes) are
call-holds graph (Some function.Exists) flags cells outcomes there are asked = flag-holds there asked
call-holds graph (Some f) flags cells outcomes there are asked = value-holds (call_value graph (Some f) cells outcomes there)

-- ---- expressions

module _ (graph : Lookups) (scope : Scope) (row : List Cell) (fit : row_fits scope row ≡ true) where
  asked-flags : (es : Expressions) → Flags (property_exists graph row es)
  asked-flags (more (property e key) no_more) = one-flags (existence graph key) (entity-flags (λ x. is_some (graph.property_of x key))) (cell_of graph row e)
  asked-flags es = tt

  mutual
    pub kind-holds : (e : Expression) → IfOk (cell_of graph row (resolved scope e)) (λ c. is_cell_of (kind_of scope e) c ≡ true)
    kind-holds (variable v) = column-kind scope row v.name fit
    kind-holds (property e key) = value-holds (on_one (property_value graph key) (cell_of graph row (resolved scope e)))
    kind-holds (has_labels e labels) =
        flag-holds (on_one (labels_test graph labels) (cell_of graph row (resolved scope e)))
        (one-flags (labels_test graph labels) (node-flags (λ n. list_all (λ l. list_any (bytes_eq l) (graph.labels_of n)) labels)) (cell_of graph row (resolved scope e)))
    kind-holds (unary operator e) = unary-holds operator (cell_of graph row (resolved scope e))
    kind-holds (binary operator a b) =
        binary-holds operator (on_one value_in_cell (cell_of graph row (resolved scope a))) (on_one value_in_cell (cell_of graph row (resolved scope b)))
    kind-holds (comparison e links) =
        flag-holds (on_one (λ a. Ok (value_of a)) (on_one (λ c. chain graph row c (resolved_links scope links)) (cell_of graph row (resolved scope e))))
        (one-flags (λ a. Ok (value_of a)) truth-flags (on_one (λ c. chain graph row c (resolved_links scope links)) (cell_of graph row (resolved scope e))))
    kind-holds (list es) = value-holds (on_one list_of (values_of graph row (resolved_expressions scope es)))
    kind-holds (case arms e) =
        flag-chosen (gives_flags scope arms && is_flag_otherwise scope e) (choice (outcomes_of_arms graph row (resolved_arms scope arms)) (outcome_of_else graph row (resolved_otherwise scope e)))
        (λ are. arms-flags arms (outcome_of_else graph row (resolved_otherwise scope e)) (both_first (gives_flags scope arms) (is_flag_otherwise scope e) are)
        (else-flags e (both_second (gives_flags scope arms) (is_flag_otherwise scope e) are)))
    kind-holds (call name distinct es) =
        call-holds graph (function_named name) (are_flags scope es) (cells_of graph row (resolved_expressions scope es)) (outcomes_of graph row (resolved_expressions scope es))
        (property_exists graph row (resolved_expressions scope es)) (outcomes-flags es) (asked-flags (resolved_expressions scope es))
    kind-holds (call_star name) = tt
    kind-holds _ = refl

    outcomes-flags : (es : Expressions) → are_flags scope es ≡ true → Flags (coalesce (outcomes_of graph row (resolved_expressions scope es)))
    outcomes-flags no_more are = refl
    outcomes-flags (more e es) are =
        coalesce-flags (on_one value_in_cell (cell_of graph row (resolved scope e))) (outcomes_of graph row (resolved_expressions scope es))
        (cell-flags (kind_of scope e) (cell_of graph row (resolved scope e)) (kind-holds e) (both_first (is_flag (kind_of scope e)) (are_flags scope es) are))
        (outcomes-flags es (both_second (is_flag (kind_of scope e)) (are_flags scope es) are))

    arms-flags : (arms : Arms) (others : Result Value EvalFault) → gives_flags scope arms ≡ true → Flags others → Flags (choice (outcomes_of_arms graph row (resolved_arms scope arms)) others)
    arms-flags no_arms others are else_is = else_is
    arms-flags (arm condition outcome arms) others are else_is =
        choice-flags (on_one truth_of (on_one value_in_cell (cell_of graph row (resolved scope condition)))) (on_one value_in_cell (cell_of graph row (resolved scope outcome)))
        (choice (outcomes_of_arms graph row (resolved_arms scope arms)) others)
        (cell-flags (kind_of scope outcome) (cell_of graph row (resolved scope outcome)) (kind-holds outcome) (both_first (is_flag (kind_of scope outcome)) (gives_flags scope arms) are))
        (arms-flags arms others (both_second (is_flag (kind_of scope outcome)) (gives_flags scope arms) are) else_is)

    else-flags : (e : Otherwise) → is_flag_otherwise scope e ≡ true → Flags (outcome_of_else graph row (resolved_otherwise scope e))
    else-flags nothing are = refl
    else-flags (otherwise e) are = cell-flags (kind_of scope e) (cell_of graph row (resolved scope e)) (kind-holds e) are
