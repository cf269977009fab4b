-- A sure expression that is checked has a value on each row that fits its scope.
use Rattle.std.proofs.Common.{◌≡◌, ◌⊎◌, inl, inr, refl, sym, subst, List, [], ◌∷◌}
use Rattle.std.proofs.lemmas.Bool.{false≢true}
use Rattle.std.specs.Prelude.{Bool, true, false, not, ◌&&◌, ◌||◌, Option, Some, None, is_some, map, unwrap_or, Result, Ok, Err, IfOk, IsOk, if◌then◌else◌}
use Rattle.std.specs.List.{list_all, list_any}
use Rattle.std.specs.Str.{bytes_eq}
use Rattle.cy_values.specs.declared.numbers.NodeId.{NodeId}
use Rattle.cy_values.specs.declared.numbers.RelId.{RelId}
use Rattle.cy_values.specs.declared.numbers.Entity.{Entity}
use Rattle.cy_values.specs.declared.scalars.Scalar.{Scalar}
use Rattle.cy_values.specs.declared.scalars.Scalar.TheVariants as scalar
use Rattle.cy_values.specs.declared.scalars.Value.{Value}
use Rattle.cy_values.specs.declared.scalars.Value.TheVariants as value
use Rattle.cy_values.specs.declared.truth.Truth.{Truth}
use Rattle.cy_values.specs.declared.truth.Truth.TheVariants.{No, Unknown, Yes}
use Rattle.cy_values.specs.Truth.{both, is_yes, one_alone, one_at_least, opposite}
use Rattle.cy_values.specs.Compare.{less}
use Rattle.cy_values.specs.declared.rows.Cell.{Cell}
use Rattle.cy_values.specs.declared.rows.Cell.TheVariants as cell
use Rattle.cy_values.proofs.Booleans.{both_first, both_second}
use Rattle.cy_trees.specs.declared.expressions.UnaryOperator.{UnaryOperator}
use Rattle.cy_trees.specs.declared.expressions.UnaryOperator.TheVariants.{Not, Plus, Minus, IsNull, IsNotNull}
use Rattle.cy_trees.specs.declared.expressions.BinaryOperator.{BinaryOperator}
use Rattle.cy_trees.specs.declared.expressions.BinaryOperator.TheVariants.{Or, Xor, And, In, Contains, StartsWith, EndsWith}
use Rattle.cy_trees.specs.declared.expressions.Comparator.{Comparator}
use Rattle.cy_trees.specs.declared.expressions.Comparator.TheVariants.{Equal, NotEqual, Less, LessOrEqual, Greater, GreaterOrEqual}
use Rattle.cy_trees.specs.Trees.{Expression, null, boolean, integer, text, variable, property, has_labels, unary, binary, comparison, list, case, call, call_star, Expressions, no_more, more, Links, no_links, link, Arms, no_arms, arm, Otherwise, nothing, otherwise}
use Rattle.cy_scope_kinds.specs.declared.functions.Function.{Function}
use Rattle.cy_scope_kinds.specs.declared.functions.Function.TheVariants as function
use Rattle.cy_scope_kinds.specs.declared.faults.ScopeFault.{ScopeFault}
use Rattle.cy_scope_kinds.specs.declared.faults.ScopeFault.TheVariants.{WrongKind, AggregateHere, WrongArguments}
use Rattle.cy_scope_kinds.specs.declared.kinds.Kind.{Kind}
use Rattle.cy_scope_kinds.specs.declared.kinds.Kind.TheVariants as kind
use Rattle.cy_scope_kinds.specs.Functions.{function_named, fit, is_aggregate, is_one, is_property, takes}
use Rattle.cy_scope_kinds.specs.Faults.{first, unless}
use Rattle.cy_scope_kinds.specs.Kinds.{is_entity, is_flag, is_node, is_relationship, is_relationships, is_value}
use Rattle.cy_scope_kinds.specs.Scopes.{Scope, find_column, kind_in}
use Rattle.cy_scope_kinds.specs.Rows.{row_fits, is_cell_of}
use Rattle.cy_scope_kinds.specs.ExpressionKinds.{kind_of}
use Rattle.cy_scope_kinds.specs.ExpressionFaults.{are_compared, are_taken, are_values, arms_fault, call_fault, expression_fault, expressions_fault, have_values, is_value_otherwise, links_fault, otherwise_fault}
use Rattle.cy_scope_kinds.specs.Operands.{compares, takes_unary}
use Rattle.cy_scope_kinds.specs.ResolvedExpressions.{resolved, resolved_arms, resolved_expressions, resolved_links, resolved_otherwise}
use Rattle.cy_scope_kinds.specs.Sure.{are_sure, are_sure_arms, are_sure_elements, are_sure_links, gives_labels, has_size, have_size, is_known_list, is_literal, is_sure, is_sure_binary, is_sure_call, is_sure_otherwise, is_sure_unary}
use Rattle.cy_expr.specs.declared.faults.EvalFault.{EvalFault}
use Rattle.cy_expr.specs.Faults.{on_one, on_two}
use Rattle.cy_expr.specs.Logic.{negation, truth_of, value_of}
use Rattle.cy_expr.specs.Lists.{cell_size, element, elements, list_of, membership}
use Rattle.cy_expr.specs.Choice.{coalesce, choice}
use Rattle.cy_expr.specs.Comparison.{greater, greater_or_equal, less_or_equal}
use Rattle.cy_expr.specs.Operators.{binary_value, compared, unary_value, value_in_cell}
use Rattle.cy_expr.specs.Lookups.{Lookups, property_value, existence, number_of, labels_test, labels_value, on_entity, on_node, on_relationship}
use Rattle.cy_expr.specs.Evaluation.{as_cell, call_value, called, cell_of, cells_of, chain, column_value, function_value, outcome_of_else, outcomes_of, outcomes_of_arms, property_exists, values_of}
use Rattle.cy_expr.proofs.KindLemmas.{column-kind, is_boolean_or_null, kind-holds}

-- ---- what a checked expression has

no-first : (a b : Option ScopeFault) → first a b ≡ None → a ≡ None
no-first None b is = refl
no-first (Some fault) b is = is

no-later : (a b : Option ScopeFault) → first a b ≡ None → b ≡ None
no-later None b is = is
no-later (Some fault) b is = absurd (cc)

kept : (b : Bool) (fault : ScopeFault) → unless b fault ≡ None → b ≡ true
kept true fault is = refl
kept false fault is = absurd (cc)

-- ---- what has a value

-- a value of A that fits P
abbrev Gives : {A : Type 0} → (A → Type 0) → Result A EvalFault → Type 0
Gives {A} P (Ok a) = P a
Gives {A} P (Err fault) = ⊥

gives-all : {A : Type 0} (r : Result A EvalFault) (P : A → Type 0) → IsOk r → IfOk r P → Gives P r
gives-all (Ok a) P is fits = fits
gives-all (Err fault) P is fits = absurd (false≢true is)

ok : {A : Type 0} (P : A → Type 0) (r : Result A EvalFault) → Gives P r → IsOk r
ok P (Ok a) gives = refl
ok P (Err fault) gives = absurd gives

pub as_cell-ok : (r : Result Value EvalFault) → IsOk r → IsOk (as_cell r)
as_cell-ok (Ok v) is = refl
as_cell-ok (Err fault) is = is

one-ok : {A B : Type 0} (P : A → Type 0) (f : A → Result B EvalFault) → ((a : A) → P a → IsOk (f a)) → (r : Result A EvalFault) → Gives P r → IsOk (on_one f r)
one-ok P f are (Ok a) gives = are a gives
one-ok P f are (Err fault) gives = absurd gives

two-ok : {A B C : Type 0} (P : A → Type 0) (Q : B → Type 0) (f : A → B → Result C EvalFault) → ((a : A) (b : B) → P a → Q b → IsOk (f a b))
    → (r : Result A EvalFault) (s : Result B EvalFault) → Gives P r → Gives Q s → IsOk (on_two f r s)
two-ok P Q f are (Ok a) (Ok b) p q = are a b p q
two-ok P Q f are (Ok a) (Err fault) p q = absurd q
two-ok P Q f are (Err fault) s p q = absurd p

one-gives : {A B : Type 0} (P : A → Type 0) (Q : B → Type 0) (f : A → Result B EvalFault) → ((a : A) → P a → Gives Q (f a)) → (r : Result A EvalFault) → Gives P r → Gives Q (on_one f r)
one-gives P Q f are (Ok a) gives = are a gives
one-gives P Q f are (Err fault) gives = absurd gives

gives-weaker : {A : Type 0} (P Q : A → Type 0) → ((a : A) → P a → Q a) → (r : Result A EvalFault) → Gives P r → Gives Q r
gives-weaker P Q weaker (Ok a) gives = weaker a gives
gives-weaker P Q weaker (Err fault) gives = gives

-- a cell of the kind
abbrev OfKind : Kind → Cell → Type 0
OfKind k c = is_cell_of k c ≡ true

on_entity-ok : (f : Entity → Value) (k : Kind) → is_entity k ≡ true → (c : Cell) → OfKind k c → IsOk (on_entity f c)
on_entity-ok f k is (cell.Node n) has = refl
on_entity-ok f k is (cell.Rel r) has = refl
on_entity-ok f k is (cell.Value value.Null) has = refl
on_entity-ok f kind.Node is (cell.Value v) has = absurd (false≢true has)
on_entity-ok f kind.Node is (cell.Rels rs) has = absurd (false≢true has)
on_entity-ok f kind.Relationship is (cell.Value v) has = absurd (false≢true has)
on_entity-ok f kind.Relationship is (cell.Rels rs) has = absurd (false≢true has)
on_entity-ok f k is c has = absurd (false≢true is)

on_node-ok : (f : NodeId → Value) (k : Kind) → is_node k ≡ true → (c : Cell) → OfKind k c → IsOk (on_node f c)
on_node-ok f k is (cell.Node n) has = refl
on_node-ok f k is (cell.Value value.Null) has = refl
on_node-ok f kind.Node is (cell.Value v) has = absurd (false≢true has)
on_node-ok f kind.Node is c has = absurd (false≢true has)
on_node-ok f k is c has = absurd (false≢true is)

on_relationship-ok : (f : RelId → Value) (k : Kind) → is_relationship k ≡ true → (c : Cell) → OfKind k c → IsOk (on_relationship f c)
on_relationship-ok f k is (cell.Rel r) has = refl
on_relationship-ok f k is (cell.Value value.Null) has = refl
on_relationship-ok f kind.Relationship is (cell.Value v) has = absurd (false≢true has)
on_relationship-ok f kind.Relationship is c has = absurd (false≢true has)
on_relationship-ok f k is c has = absurd (false≢true is)

-- a value in a cell whose kind is that of values
abbrev Any : {A : Type 0} → A → Type 0
Any a = Unit {0}

value-gives : (k : Kind) → is_value k ≡ true → (c : Cell) → OfKind k c → Gives Any (value_in_cell c)
value-gives k is (cell.Value v) has = tt
value-gives kind.Value is c has = absurd (false≢true has)
value-gives kind.Flag is c has = absurd (false≢true has)
value-gives k is c has = absurd (false≢true is)

abbrev IsFlag : Value → Type 0
IsFlag v = is_boolean_or_null v ≡ true

flag-gives : (k : Kind) → is_flag k ≡ true → (c : Cell) → OfKind k c → Gives IsFlag (value_in_cell c)
flag-gives kind.Flag is (cell.Value (value.Bool b)) has = refl
flag-gives kind.Flag is (cell.Value value.Null) has = refl
flag-gives kind.Flag is (cell.Value v) has = has
flag-gives kind.Flag is c has = absurd (false≢true has)
flag-gives k is c has = absurd (false≢true is)

truth-gives : (v : Value) → IsFlag v → Gives Any (truth_of v)
truth-gives (value.Bool b) is = tt
truth-gives value.Null is = tt
truth-gives _ is = false≢true is

-- ---- operators

unary-ok : (operator : UnaryOperator) (k : Kind) → is_sure_unary operator (is_flag k) ≡ true → (c : Cell) → OfKind k c → IsOk (unary_value operator c)
unary-ok Not k is c has =
    one-ok IsFlag negation (λ v flag. one-ok Any (λ a. Ok (value_of (opposite a))) (λ a any. refl) (truth_of v) (truth-gives v flag)) (value_in_cell c) (flag-gives k is c has)
unary-ok Plus k is c has = absurd (false≢true is)
unary-ok Minus k is c has = absurd (false≢true is)
unary-ok IsNull k is c has = refl
unary-ok IsNotNull k is c has = refl

-- a list, or null
abbrev pub is_list_or_null : Value → Bool
is_list_or_null (value.List es) = true
is_list_or_null value.Null = true
is_list_or_null v = false

abbrev IsList : Value → Type 0
IsList v = is_list_or_null v ≡ true

membership-ok : (x y : Value) → IsList y → IsOk (membership x y)
membership-ok x (value.List es) is = refl
membership-ok x value.Null is = refl
membership-ok x _ is = is

flags-ok : (f : Truth → Truth → Truth) (x y : Value) → IsFlag x → IsFlag y → IsOk (on_two (λ a b. Ok (value_of (f a b))) (truth_of x) (truth_of y))
flags-ok f x y p q = two-ok Any Any (λ a b. Ok (value_of (f a b))) (λ a b p q. refl) (truth_of x) (truth_of y) (truth-gives x p) (truth-gives y q)

gives-any : {A : Type 0} (r : Result A EvalFault) → IsOk r → Gives Any r
gives-any (Ok a) is = tt
gives-any (Err fault) is = false≢true is

values-give : (k : Kind) → is_value k ≡ true → (r : Result Cell EvalFault) → Gives (OfKind k) r → Gives Any (on_one value_in_cell r)
values-give k is r gives = one-gives (OfKind k) Any value_in_cell (value-gives k is) r gives

flags-give : (k : Kind) → is_flag k ≡ true → (r : Result Cell EvalFault) → Gives (OfKind k) r → Gives IsFlag (on_one value_in_cell r)
flags-give k is r gives = one-gives (OfKind k) IsFlag value_in_cell (flag-gives k is) r gives

binary-ok : (operator : BinaryOperator) (j k : Kind) (known : Bool) → is_sure_binary operator (is_flag j && is_flag k) known ≡ true → is_value j ≡ true → is_value k ≡ true
    → (r s : Result Cell EvalFault) → Gives (OfKind j) r → Gives (OfKind k) s → (known ≡ true → IfOk (on_one value_in_cell s) IsList)
    → IsOk (on_two (binary_value operator) (on_one value_in_cell r) (on_one value_in_cell s))
binary-ok Or j k known is left right r s p q lists =
    two-ok IsFlag IsFlag (binary_value Or) (flags-ok one_at_least) (on_one value_in_cell r) (on_one value_in_cell s)
    (flags-give j (both_first (is_flag j) (is_flag k) is) r p) (flags-give k (both_second (is_flag j) (is_flag k) is) s q)
binary-ok Xor j k known is left right r s p q lists =
    two-ok IsFlag IsFlag (binary_value Xor) (flags-ok one_alone) (on_one value_in_cell r) (on_one value_in_cell s)
    (flags-give j (both_first (is_flag j) (is_flag k) is) r p) (flags-give k (both_second (is_flag j) (is_flag k) is) s q)
binary-ok And j k known is left right r s p q lists =
    two-ok IsFlag IsFlag (binary_value And) (flags-ok both) (on_one value_in_cell r) (on_one value_in_cell s)
    (flags-give j (both_first (is_flag j) (is_flag k) is) r p) (flags-give k (both_second (is_flag j) (is_flag k) is) s q)
binary-ok In j k known is left right r s p q lists =
    two-ok Any IsList membership (λ x y any list. membership-ok x y list) (on_one value_in_cell r) (on_one value_in_cell s)
    (values-give j left r p) (gives-all (on_one value_in_cell s) IsList (ok Any (on_one value_in_cell s) (values-give k right s q)) (lists is))
binary-ok Contains j k known is left right r s p q lists =
    two-ok Any Any (binary_value Contains) (λ x y p q. refl) (on_one value_in_cell r) (on_one value_in_cell s) (values-give j left r p) (values-give k right s q)
binary-ok StartsWith j k known is left right r s p q lists =
    two-ok Any Any (binary_value StartsWith) (λ x y p q. refl) (on_one value_in_cell r) (on_one value_in_cell s) (values-give j left r p) (values-give k right s q)
binary-ok EndsWith j k known is left right r s p q lists =
    two-ok Any Any (binary_value EndsWith) (λ x y p q. refl) (on_one value_in_cell r) (on_one value_in_cell s) (values-give j left r p) (values-give k right s q)
binary-ok _ j k known is left right r s p q lists = absurd (false≢true is)

values-compared : (f : Value → Value → Truth) (j k : Kind) → (is_value j && is_value k) ≡ true → (c d : Cell) → OfKind j c → OfKind k d
    → IsOk (on_two (λ x y. Ok (f x y)) (value_in_cell c) (value_in_cell d))
values-compared f j k is c d p q =
    two-ok Any Any (λ x y. Ok (f x y)) (λ x y p q. refl) (value_in_cell c) (value_in_cell d)
    (value-gives j (both_first (is_value j) (is_value k) is) c p) (value-gives k (both_second (is_value j) (is_value k) is) d q)

compared-ok : (by : Comparator) (j k : Kind) → compares by j k ≡ true → (c d : Cell) → OfKind j c → OfKind k d → IsOk (compared by c d)
compared-ok Equal j k is c d p q = refl
compared-ok NotEqual j k is c d p q = refl
compared-ok Less j k is c d p q = values-compared less j k is c d p q
compared-ok LessOrEqual j k is c d p q = values-compared less_or_equal j k is c d p q
compared-ok Greater j k is c d p q = values-compared greater j k is c d p q
compared-ok GreaterOrEqual j k is c d p q = values-compared greater_or_equal j k is c d p q

-- ---- lists, CASE and functions

abbrev IsElement : Value → Type 0
IsElement v = IsOk (element v)

flag-element : (v : Value) → IsFlag v → IsElement v
flag-element (value.List es) is = is
flag-element _ is = refl

pub or-either : (a b : Bool) → (a || b) ≡ true → (a ≡ true) ⊎ (b ≡ true)
or-either true b is = inl refl
or-either false b is = inr is

abbrev AreElements : List Value → Type 0
AreElements vs = IsOk (elements vs)

elements-more : (r : Result Value EvalFault) (s : Result (List Value) EvalFault) → Gives IsElement r → Gives AreElements s → Gives AreElements (on_two (λ v vs. Ok (v ∷ vs)) r s)
elements-more (Ok v) (Ok vs) p q =
    two-ok Any Any (λ e es. Ok (e ∷ es)) (λ e es p q. refl) (element v) (elements vs) (gives-any (element v) p) (gives-any (elements vs) q)
elements-more (Ok v) (Err fault) p q = absurd q
elements-more (Err fault) s p q = absurd p

list-made : (vs : List Value) → AreElements vs → IsOk (list_of vs)
list-made vs are = one-ok Any (λ es. Ok (value.List es)) (λ es any. refl) (elements vs) (gives-any (elements vs) are)

choice-ok : (t : Result Truth EvalFault) (r c : Result Value EvalFault) → IsOk t → IsOk r → IsOk c → IsOk (on_one (λ x. if is_yes x then r else c) t)
choice-ok (Ok Yes) r c is p q = p
choice-ok (Ok No) r c is p q = q
choice-ok (Ok Unknown) r c is p q = q
choice-ok (Err fault) r c is p q = is

pub coalesce-ok : (r : Result Value EvalFault) (rs : List (Result Value EvalFault)) → IsOk r → IsOk (coalesce rs) → IsOk (coalesce (r ∷ rs))
coalesce-ok (Ok value.Null) rs p q = q
coalesce-ok (Ok (value.Bool b)) rs p q = refl
coalesce-ok (Ok (value.Int n)) rs p q = refl
coalesce-ok (Ok (value.Text t)) rs p q = refl
coalesce-ok (Ok (value.List es)) rs p q = refl
coalesce-ok (Err fault) rs p q = p

-- relationships of a length, a list, or null
abbrev is_sized : Cell → Bool
is_sized (cell.Rels rs) = true
is_sized (cell.Value v) = is_list_or_null v
is_sized c = false

abbrev IsSized : Cell → Type 0
IsSized c = is_sized c ≡ true

size-ok : (c : Cell) → IsSized c → IsOk (cell_size c)
size-ok (cell.Rels rs) is = refl
size-ok (cell.Value (value.List es)) is = refl
size-ok (cell.Value value.Null) is = refl
size-ok (cell.Value (value.Text t)) is = refl
size-ok (cell.Value (value.Bool b)) is = is
size-ok (cell.Value (value.Int n)) is = is
size-ok (cell.Node n) is = is
size-ok (cell.Rel r) is = is

rels-sized : (k : Kind) → is_relationships k ≡ true → (c : Cell) → OfKind k c → IsSized c
rels-sized k is (cell.Rels rs) has = refl
rels-sized k is (cell.Value value.Null) has = refl
rels-sized kind.Relationships is (cell.Value v) has = absurd (false≢true has)
rels-sized kind.Relationships is c has = has
rels-sized k is c has = absurd (false≢true is)

list-given : (r : Result (List Value) EvalFault) → IfOk (on_one list_of r) IsList
list-given (Ok vs) = made (elements vs)
  where
    made : (r : Result (List Scalar) EvalFault) → IfOk (on_one (λ es. Ok (value.List es)) r) IsList
    made (Ok es) = refl
    made (Err fault) = tt
list-given (Err fault) = tt

labels-list : (graph : Lookups) (c : Cell) → IfOk (labels_value graph c) IsList
labels-list graph (cell.Node n) = refl
labels-list graph (cell.Value value.Null) = refl
labels-list graph _ = tt

call-list : (graph : Lookups) (f : Option Function) (cells : Result (List Cell) EvalFault) (outcomes : List (Result Value EvalFault)) (there : Result Value EvalFault)
    → gives_labels f ≡ true → IfOk (call_value graph f cells outcomes there) IsList
call-list graph (Some function.Labels) (Ok []) outcomes there is = tt
call-list graph (Some function.Labels) (Ok (c ∷ [])) outcomes there is = labels-list graph c
call-list graph (Some function.Labels) (Ok (c ∷ d ∷ cs)) outcomes there is = tt
call-list graph (Some function.Labels) (Err fault) outcomes there is = tt
call-list graph f cells outcomes there is = absurd (false≢true is)

-- what holds of a value holds of its cell
in-value : (r : Result Value EvalFault) → IfOk r IsList → IfOk (on_one value_in_cell (as_cell r)) IsList
in-value (Ok v) is = is
in-value (Err fault) is = tt

in-cell : (r : Result Value EvalFault) → IfOk r IsList → IfOk (as_cell r) IsSized
in-cell (Ok v) is = is
in-cell (Err fault) is = tt

-- the arguments of a checked call
function-parts : (f : Function) (distinct taken fits_f : Bool) → first (unless (fits_f && (not distinct || is_aggregate f)) WrongArguments) (first (unless (false || not (is_aggregate f)) AggregateHere) (unless taken WrongKind)) ≡ None
    → (fits_f ≡ true) × (taken ≡ true)
function-parts f distinct taken fits_f checked =
    let arguments = unless (fits_f && (not distinct || is_aggregate f)) WrongArguments in
    let here = unless (false || not (is_aggregate f)) AggregateHere in
    let rule = kept (fits_f && (not distinct || is_aggregate f)) WrongArguments (no-first arguments (first here (unless taken WrongKind)) checked) in
    let later = no-later arguments (first here (unless taken WrongKind)) checked in
    (both_first fits_f (not distinct || is_aggregate f) rule, kept taken WrongKind (no-later here (unless taken WrongKind) later))

-- ---- expressions

module _ (graph : Lookups) (scope : Scope) (row : List Cell) (fit_row : row_fits scope row ≡ true) where
  -- the cell of an expression
  abbrev of : Expression → Result Cell EvalFault
  of e = cell_of graph row (resolved scope e)

  known-list : (e : Expression) → is_known_list e ≡ true → IfOk (on_one value_in_cell (of e)) IsList
  known-list (list es) is = in-value (on_one list_of (values_of graph row (resolved_expressions scope es))) (list-given (values_of graph row (resolved_expressions scope es)))
  known-list (call name distinct es) is =
      let cells = cells_of graph row (resolved_expressions scope es) in
      let outcomes = outcomes_of graph row (resolved_expressions scope es) in
      let there = property_exists graph row (resolved_expressions scope es) in
      in-value (call_value graph (function_named name) cells outcomes there) (call-list graph (function_named name) cells outcomes there is)
  known-list e is = absurd (false≢true is)

  sized-cell : (e : Expression) → has_size scope e ≡ true → IfOk (of e) IsSized
  sized-cell (variable v) is = rels-sized (kind_in scope v.name) is (column_value (find_column scope v.name) row) (column-kind scope row v.name fit_row)
  sized-cell (list es) is = in-cell (on_one list_of (values_of graph row (resolved_expressions scope es))) (list-given (values_of graph row (resolved_expressions scope es)))
  sized-cell (call name distinct es) is =
      let cells = cells_of graph row (resolved_expressions scope es) in
      let outcomes = outcomes_of graph row (resolved_expressions scope es) in
      let there = property_exists graph row (resolved_expressions scope es) in
      in-cell (call_value graph (function_named name) cells outcomes there) (call-list graph (function_named name) cells outcomes there is)
  sized-cell e is = absurd (false≢true is)

  literal-element : (e : Expression) → is_literal e ≡ true → Gives IsElement (on_one value_in_cell (of e))
  literal-element null is = refl
  literal-element (boolean b) is = refl
  literal-element (integer n) is = refl
  literal-element (text t) is = refl
  literal-element e is = absurd (false≢true is)

  -- the cell of an expression that has a value
  of-kind : (e : Expression) → IsOk (of e) → Gives (OfKind (kind_of scope e)) (of e)
  of-kind e is = gives-all (of e) (OfKind (kind_of scope e)) is (kind-holds graph scope row fit_row e)

  -- a function of one argument
  abbrev kind_of_first : Expressions → Kind
  kind_of_first no_more = kind.Value
  kind_of_first (more e es) = kind_of scope e

  taken-first : (f : Function) (es : Expressions) → is_one es ≡ true → are_taken f scope es ≡ true → takes f (kind_of_first es) ≡ true
  taken-first f no_more one taken = absurd (false≢true one)
  taken-first f (more e es) one taken = both_first (takes f (kind_of scope e)) (are_taken f scope es) taken

  function-fits : (f : Function) (distinct : Bool) (es : Expressions) → call_fault false scope (Some f) distinct es ≡ None → fit f es ≡ true
  function-fits f distinct es checked = (function-parts f distinct (are_taken f scope es) (fit f es) checked).0

  function-takes : (f : Function) (distinct : Bool) (es : Expressions) → call_fault false scope (Some f) distinct es ≡ None → are_taken f scope es ≡ true
  function-takes f distinct es checked = (function-parts f distinct (are_taken f scope es) (fit f es) checked).1

  record IsOnly (es : Expressions) (cs : List Cell) : Type 0 where
    only : Cell
    alone : cs ≡ only ∷ []
    has : OfKind (kind_of_first es) only
    sized : have_size scope es ≡ true → IsSized only

  called-ok : (f : Function) (es : Expressions) → ((c : Cell) → OfKind (kind_of_first es) c → (have_size scope es ≡ true → IsSized c) → IsOk (function_value graph f c))
      → Gives (IsOnly es) (cells_of graph row (resolved_expressions scope es)) → IsOk (on_one (called graph (Some f)) (cells_of graph row (resolved_expressions scope es)))
  called-ok f es are gives =
      one-ok (IsOnly es) (called graph (Some f)) (λ cs is. subst (λ (ds : List Cell). IsOk (called graph (Some f) ds)) (sym is.alone) (are is.only is.has is.sized))
      (cells_of graph row (resolved_expressions scope es)) gives

  only-cell : (e : Expression) (r : Result Cell EvalFault) → Gives (OfKind (kind_of scope e)) r → (has_size scope e ≡ true → IfOk r IsSized)
      → Gives (IsOnly (more e no_more)) (on_two (λ c cs. Ok (c ∷ cs)) r (Ok []))
  only-cell e (Ok c) gives sized = record { only = c; alone = refl; has = gives; sized = λ is. sized (both_first (has_size scope e) true is) }
  only-cell e (Err fault) gives sized = absurd gives

  element-given : (e : Expression) → (is_literal e ≡ true) ⊎ ((is_sure scope e && is_flag (kind_of scope e)) ≡ true) → (is_sure scope e ≡ true → IsOk (of e))
      → Gives IsElement (on_one value_in_cell (of e))
  element-given e (inl literal) sure = literal-element e literal
  element-given e (inr flag) sure =
      gives-weaker IsFlag IsElement flag-element (on_one value_in_cell (of e))
      (flags-give (kind_of scope e) (both_second (is_sure scope e) (is_flag (kind_of scope e)) flag) (of e) (of-kind e (sure (both_first (is_sure scope e) (is_flag (kind_of scope e)) flag))))

  -- a call, by what its arguments give
  call-ok : (f : Option Function) (distinct : Bool) (es : Expressions) → call_fault false scope f distinct es ≡ None → is_sure_call f (have_size scope es) ≡ true
      → (is_one es ≡ true → Gives (IsOnly es) (cells_of graph row (resolved_expressions scope es)))
      → (are_taken function.Coalesce scope es ≡ true → IsOk (coalesce (outcomes_of graph row (resolved_expressions scope es))))
      → (is_property es ≡ true → IsOk (property_exists graph row (resolved_expressions scope es)))
      → IsOk (call_value graph f (cells_of graph row (resolved_expressions scope es)) (outcomes_of graph row (resolved_expressions scope es)) (property_exists graph row (resolved_expressions scope es)))
  call-ok None distinct es checked sure cells outcomes there = absurd (false≢true sure)
  call-ok (Some function.Id) distinct es checked sure cells outcomes there =
      let one = function-fits function.Id distinct es checked in
      called-ok function.Id es (λ c has sized. on_entity-ok number_of (kind_of_first es) (taken-first function.Id es one (function-takes function.Id distinct es checked)) c has) (cells one)
  call-ok (Some function.Type) distinct es checked sure cells outcomes there =
      let one = function-fits function.Type distinct es checked in
      called-ok function.Type es (λ c has sized. on_relationship-ok (λ r. value.Text (graph.type_of r)) (kind_of_first es) (taken-first function.Type es one (function-takes function.Type distinct es checked)) c has) (cells one)
  call-ok (Some function.Labels) distinct es checked sure cells outcomes there =
      let one = function-fits function.Labels distinct es checked in
      called-ok function.Labels es (λ c has sized. on_node-ok (λ n. value.List (map (λ l. scalar.Text l) (graph.labels_of n))) (kind_of_first es) (taken-first function.Labels es one (function-takes function.Labels distinct es checked)) c has) (cells one)
  call-ok (Some function.Size) distinct es checked sure cells outcomes there =
      called-ok function.Size es (λ c has sized. size-ok c (sized sure)) (cells (function-fits function.Size distinct es checked))
  call-ok (Some function.Coalesce) distinct es checked sure cells outcomes there = outcomes (function-takes function.Coalesce distinct es checked)
  call-ok (Some function.Exists) distinct es checked sure cells outcomes there = there (function-fits function.Exists distinct es checked)
  call-ok (Some f) distinct es checked sure cells outcomes there = absurd (false≢true sure)

  mutual
    pub sure-ok : (e : Expression) → expression_fault scope e ≡ None → is_sure scope e ≡ true → IsOk (of e)
    sure-ok (property e key) checked sure =
        let part = no-first (expression_fault scope e) (unless (is_entity (kind_of scope e)) WrongKind) checked in
        let rule = kept (is_entity (kind_of scope e)) WrongKind (no-later (expression_fault scope e) (unless (is_entity (kind_of scope e)) WrongKind) checked) in
        as_cell-ok (on_one (property_value graph key) (of e))
        (one-ok (OfKind (kind_of scope e)) (property_value graph key) (on_entity-ok (λ x. unwrap_or (graph.property_of x key) value.Null) (kind_of scope e) rule) (of e) (of-kind e (sure-ok e part sure)))
    sure-ok (has_labels e labels) checked sure =
        let part = no-first (expression_fault scope e) (unless (is_node (kind_of scope e)) WrongKind) checked in
        let rule = kept (is_node (kind_of scope e)) WrongKind (no-later (expression_fault scope e) (unless (is_node (kind_of scope e)) WrongKind) checked) in
        as_cell-ok (on_one (labels_test graph labels) (of e))
        (one-ok (OfKind (kind_of scope e)) (labels_test graph labels) (on_node-ok (λ n. value.Bool (list_all (λ l. list_any (bytes_eq l) (graph.labels_of n)) labels)) (kind_of scope e) rule) (of e) (of-kind e (sure-ok e part sure)))
    sure-ok (unary operator e) checked sure =
        let part = no-first (expression_fault scope e) (unless (takes_unary operator (kind_of scope e)) WrongKind) checked in
        as_cell-ok (on_one (unary_value operator) (of e))
        (one-ok (OfKind (kind_of scope e)) (unary_value operator)
        (unary-ok operator (kind_of scope e) (both_second (is_sure scope e) (is_sure_unary operator (is_flag (kind_of scope e))) sure))
        (of e) (of-kind e (sure-ok e part (both_first (is_sure scope e) (is_sure_unary operator (is_flag (kind_of scope e))) sure))))
    sure-ok (binary operator a b) checked sure =
        let values = unless (is_value (kind_of scope a) && is_value (kind_of scope b)) WrongKind in
        let later = no-later (expression_fault scope a) (first (expression_fault scope b) values) checked in
        let rule = kept (is_value (kind_of scope a) && is_value (kind_of scope b)) WrongKind (no-later (expression_fault scope b) values later) in
        let parts = both_first (is_sure scope a && is_sure scope b) (is_sure_binary operator (is_flag (kind_of scope a) && is_flag (kind_of scope b)) (is_known_list b)) sure in
        as_cell-ok (on_two (binary_value operator) (on_one value_in_cell (of a)) (on_one value_in_cell (of b)))
        (binary-ok operator (kind_of scope a) (kind_of scope b) (is_known_list b)
        (both_second (is_sure scope a && is_sure scope b) (is_sure_binary operator (is_flag (kind_of scope a) && is_flag (kind_of scope b)) (is_known_list b)) sure)
        (both_first (is_value (kind_of scope a)) (is_value (kind_of scope b)) rule) (both_second (is_value (kind_of scope a)) (is_value (kind_of scope b)) rule)
        (of a) (of b)
        (of-kind a (sure-ok a (no-first (expression_fault scope a) (first (expression_fault scope b) values) checked) (both_first (is_sure scope a) (is_sure scope b) parts)))
        (of-kind b (sure-ok b (no-first (expression_fault scope b) values later) (both_second (is_sure scope a) (is_sure scope b) parts)))
        (known-list b))
    sure-ok (comparison e links) checked sure =
        let rules = unless (are_compared scope (kind_of scope e) links) WrongKind in
        let later = no-later (expression_fault scope e) (first (links_fault scope links) rules) checked in
        let rule = kept (are_compared scope (kind_of scope e) links) WrongKind (no-later (links_fault scope links) rules later) in
        as_cell-ok (on_one (λ a. Ok (value_of a)) (on_one (λ c. chain graph row c (resolved_links scope links)) (of e)))
        (one-ok Any (λ a. Ok (value_of a)) (λ a any. refl) (on_one (λ c. chain graph row c (resolved_links scope links)) (of e))
        (gives-any (on_one (λ c. chain graph row c (resolved_links scope links)) (of e))
        (one-ok (OfKind (kind_of scope e)) (λ c. chain graph row c (resolved_links scope links))
        (λ c has. chain-ok links (no-first (links_fault scope links) rules later) (both_second (is_sure scope e) (are_sure_links scope links) sure) (kind_of scope e) c has rule)
        (of e) (of-kind e (sure-ok e (no-first (expression_fault scope e) (first (links_fault scope links) rules) checked) (both_first (is_sure scope e) (are_sure_links scope links) sure))))))
    sure-ok (list es) checked sure =
        as_cell-ok (on_one list_of (values_of graph row (resolved_expressions scope es)))
        (one-ok AreElements list_of list-made (values_of graph row (resolved_expressions scope es))
        (elements-ok es (no-first (expressions_fault scope es) (unless (are_values scope es) WrongKind) checked) sure))
    sure-ok (case arms e) checked sure =
        let rules = unless (have_values scope arms && is_value_otherwise scope e) WrongKind in
        let later = no-later (arms_fault scope arms) (first (otherwise_fault scope e) rules) checked in
        let rule = kept (have_values scope arms && is_value_otherwise scope e) WrongKind (no-later (otherwise_fault scope e) rules later) in
        as_cell-ok (choice (outcomes_of_arms graph row (resolved_arms scope arms)) (outcome_of_else graph row (resolved_otherwise scope e)))
        (arms-ok arms (outcome_of_else graph row (resolved_otherwise scope e)) (no-first (arms_fault scope arms) (first (otherwise_fault scope e) rules) checked)
        (both_first (are_sure_arms scope arms) (is_sure_otherwise scope e) sure) (both_first (have_values scope arms) (is_value_otherwise scope e) rule)
        (else-ok e (no-first (otherwise_fault scope e) rules later) (both_second (are_sure_arms scope arms) (is_sure_otherwise scope e) sure) (both_second (have_values scope arms) (is_value_otherwise scope e) rule)))
    sure-ok (call name distinct es) checked sure =
        let arguments = no-first (expressions_fault scope es) (call_fault false scope (function_named name) distinct es) checked in
        let are = both_first (are_sure scope es) (is_sure_call (function_named name) (have_size scope es)) sure in
        as_cell-ok (call_value graph (function_named name) (cells_of graph row (resolved_expressions scope es)) (outcomes_of graph row (resolved_expressions scope es)) (property_exists graph row (resolved_expressions scope es)))
        (call-ok (function_named name) distinct es
        (no-later (expressions_fault scope es) (call_fault false scope (function_named name) distinct es) checked)
        (both_second (are_sure scope es) (is_sure_call (function_named name) (have_size scope es)) sure)
        (λ one. only-ok es one arguments are) (λ taken. outcomes-ok es arguments are taken) (λ property. asked-ok es property arguments are))
    sure-ok (call_star name) checked sure = absurd (false≢true sure)
    sure-ok _ checked sure = refl

    chain-ok : (links : Links) → links_fault scope links ≡ None → are_sure_links scope links ≡ true → (k : Kind) (c : Cell) → OfKind k c → are_compared scope k links ≡ true
        → IsOk (chain graph row c (resolved_links scope links))
    chain-ok no_links checked sure k c has are = refl
    chain-ok (link by e links) checked sure k c has are =
        one-ok (OfKind (kind_of scope e)) (λ d. on_two (λ a b. Ok (both a b)) (compared by c d) (chain graph row d (resolved_links scope links)))
        (λ d has_kind. two-ok Any Any (λ a b. Ok (both a b)) (λ a b p q. refl) (compared by c d) (chain graph row d (resolved_links scope links))
        (gives-any (compared by c d) (compared-ok by k (kind_of scope e) (both_first (compares by k (kind_of scope e)) (are_compared scope (kind_of scope e) links) are) c d has has_kind))
        (gives-any (chain graph row d (resolved_links scope links))
        (chain-ok links (no-later (expression_fault scope e) (links_fault scope links) checked) (both_second (is_sure scope e) (are_sure_links scope links) sure)
        (kind_of scope e) d has_kind (both_second (compares by k (kind_of scope e)) (are_compared scope (kind_of scope e) links) are))))
        (of e) (of-kind e (sure-ok e (no-first (expression_fault scope e) (links_fault scope links) checked) (both_first (is_sure scope e) (are_sure_links scope links) sure)))

    elements-ok : (es : Expressions) → expressions_fault scope es ≡ None → are_sure_elements scope es ≡ true → Gives AreElements (values_of graph row (resolved_expressions scope es))
    elements-ok no_more checked sure = refl
    elements-ok (more e es) checked sure =
        let part = no-first (expression_fault scope e) (expressions_fault scope es) checked in
        let flag = is_sure scope e && is_flag (kind_of scope e) in
        elements-more (on_one value_in_cell (of e)) (values_of graph row (resolved_expressions scope es))
        (element-given e (or-either (is_literal e) flag (both_first (is_literal e || flag) (are_sure_elements scope es) sure)) (λ is. sure-ok e part is))
        (elements-ok es (no-later (expression_fault scope e) (expressions_fault scope es) checked) (both_second (is_literal e || flag) (are_sure_elements scope es) sure))

    arms-ok : (arms : Arms) (others : Result Value EvalFault) → arms_fault scope arms ≡ None → are_sure_arms scope arms ≡ true → have_values scope arms ≡ true → IsOk others
        → IsOk (choice (outcomes_of_arms graph row (resolved_arms scope arms)) others)
    arms-ok no_arms others checked sure values else_is = else_is
    arms-ok (arm condition outcome arms) others checked sure values else_is =
        let later = no-later (expression_fault scope condition) (first (expression_fault scope outcome) (arms_fault scope arms)) checked in
        let three = both_first (is_sure scope condition && is_flag (kind_of scope condition) && is_sure scope outcome) (are_sure_arms scope arms) sure in
        let two = both_first (is_sure scope condition && is_flag (kind_of scope condition)) (is_sure scope outcome) three in
        let these = both_first (is_value (kind_of scope condition) && is_value (kind_of scope outcome)) (have_values scope arms) values in
        choice-ok (on_one truth_of (on_one value_in_cell (of condition))) (on_one value_in_cell (of outcome)) (choice (outcomes_of_arms graph row (resolved_arms scope arms)) others)
        (one-ok IsFlag truth_of (λ v flag. ok Any (truth_of v) (truth-gives v flag)) (on_one value_in_cell (of condition))
        (flags-give (kind_of scope condition) (both_second (is_sure scope condition) (is_flag (kind_of scope condition)) two) (of condition)
        (of-kind condition (sure-ok condition (no-first (expression_fault scope condition) (first (expression_fault scope outcome) (arms_fault scope arms)) checked)
        (both_first (is_sure scope condition) (is_flag (kind_of scope condition)) two)))))
        (ok Any (on_one value_in_cell (of outcome))
        (values-give (kind_of scope outcome) (both_second (is_value (kind_of scope condition)) (is_value (kind_of scope outcome)) these) (of outcome)
        (of-kind outcome (sure-ok outcome (no-first (expression_fault scope outcome) (arms_fault scope arms) later)
        (both_second (is_sure scope condition && is_flag (kind_of scope condition)) (is_sure scope outcome) three)))))
        (arms-ok arms others (no-later (expression_fault scope outcome) (arms_fault scope arms) later)
        (both_second (is_sure scope condition && is_flag (kind_of scope condition) && is_sure scope outcome) (are_sure_arms scope arms) sure)
        (both_second (is_value (kind_of scope condition) && is_value (kind_of scope outcome)) (have_values scope arms) values) else_is)

    else-ok : (e : Otherwise) → otherwise_fault scope e ≡ None → is_sure_otherwise scope e ≡ true → is_value_otherwise scope e ≡ true → IsOk (outcome_of_else graph row (resolved_otherwise scope e))
    else-ok nothing checked sure value_is = refl
    else-ok (otherwise e) checked sure value_is =
        ok Any (on_one value_in_cell (of e)) (values-give (kind_of scope e) value_is (of e) (of-kind e (sure-ok e checked sure)))

    only-ok : (es : Expressions) → is_one es ≡ true → expressions_fault scope es ≡ None → are_sure scope es ≡ true → Gives (IsOnly es) (cells_of graph row (resolved_expressions scope es))
    only-ok (more e no_more) one checked sure =
        only-cell e (of e) (of-kind e (sure-ok e (no-first (expression_fault scope e) None checked) (both_first (is_sure scope e) true sure))) (sized-cell e)
    only-ok es one checked sure = absurd (false≢true one)

    outcomes-ok : (es : Expressions) → expressions_fault scope es ≡ None → are_sure scope es ≡ true → are_taken function.Coalesce scope es ≡ true
        → IsOk (coalesce (outcomes_of graph row (resolved_expressions scope es)))
    outcomes-ok no_more checked sure taken = refl
    outcomes-ok (more e es) checked sure taken =
        coalesce-ok (on_one value_in_cell (of e)) (outcomes_of graph row (resolved_expressions scope es))
        (ok Any (on_one value_in_cell (of e)) (values-give (kind_of scope e) (both_first (is_value (kind_of scope e)) (are_taken function.Coalesce scope es) taken) (of e)
        (of-kind e (sure-ok e (no-first (expression_fault scope e) (expressions_fault scope es) checked) (both_first (is_sure scope e) (are_sure scope es) sure)))))
        (outcomes-ok es (no-later (expression_fault scope e) (expressions_fault scope es) checked) (both_second (is_sure scope e) (are_sure scope es) sure)
        (both_second (is_value (kind_of scope e)) (are_taken function.Coalesce scope es) taken))

    asked-ok : (es : Expressions) → is_property es ≡ true → expressions_fault scope es ≡ None → are_sure scope es ≡ true → IsOk (property_exists graph row (resolved_expressions scope es))
    asked-ok (more (property e key) no_more) asked checked sure =
        let whole = no-first (expression_fault scope (property e key)) None checked in
        let part = no-first (expression_fault scope e) (unless (is_entity (kind_of scope e)) WrongKind) whole in
        let rule = kept (is_entity (kind_of scope e)) WrongKind (no-later (expression_fault scope e) (unless (is_entity (kind_of scope e)) WrongKind) whole) in
        one-ok (OfKind (kind_of scope e)) (existence graph key) (on_entity-ok (λ x. value.Bool (is_some (graph.property_of x key))) (kind_of scope e) rule)
        (of e) (of-kind e (sure-ok e part (both_first (is_sure scope e) true sure)))
    asked-ok (more (property e key) (more f es)) asked checked sure = absurd (false≢true asked)
    asked-ok es asked checked sure = absurd (false≢true asked)
