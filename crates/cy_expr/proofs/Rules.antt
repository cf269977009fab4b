-- Rules that the loops rest on.
use Rattle.std.proofs.Common.{rules, ◌∙◌, ◌≢◌, ◌⊎◌, inl, inr, Global, ◌≡◌, ℕ, zero, suc, ◌+◌, ◌≤◌, ◌<◌, length, get_or, map, drop, drop-cons, add-one, List, [], ◌∷◌, ◌++◌, refl, sym, ap, eq-eqb, arith, append_assoc}
use Rattle.std.proofs.lemmas.Bool.{eqb-true}
use Rattle.std.proofs.lemmas.List.{append-nil, drop_all}
use Rattle.std.proofs.lemmas.Slice.Eq.{starts_is}
use Rattle.std.specs.Prelude.{Bool, true, false, ◌||◌, Option, Some, None, SomeIff, FitsSigned, ℤ, pos, negsuc, neg_ℤ, unsigned_abs, Result, Ok, Err, IsErr, IsErrAnd, MatchResult, nat_eq, if◌then◌else◌}
use Rattle.std.specs.Bool.{MatchBool}
use Rattle.std.specs.Int.{w64}
use Rattle.std.specs.Str.Pattern.{HasMatch, FindsText, LacksTextAt}
use Rattle.std.specs.List.{starts_with}
use Rattle.cy_values.specs.declared.scalars.Scalar.{Scalar}
use Rattle.cy_values.specs.declared.scalars.Scalar.TheVariants as scalar
use Rattle.cy_values.specs.declared.scalars.Value.{Value}
use Rattle.cy_values.specs.declared.scalars.Value.TheVariants as value
use Rattle.cy_values.specs.declared.truth.Truth.{Truth}
use Rattle.cy_values.specs.declared.truth.Truth.TheVariants.{No, Unknown, Yes}
use Rattle.cy_values.specs.Truth.{both, one_at_least, is_yes}
use Rattle.cy_values.specs.Compare.{value_in, equality}
use Rattle.cy_scope_kinds.specs.declared.functions.Function.{Function}
use Rattle.cy_scope_kinds.specs.declared.functions.Function.TheVariants as function
use Rattle.cy_expr.specs.declared.faults.EvalFault.{EvalFault}
use Rattle.cy_expr.specs.Faults.{on_one, on_two}
use Rattle.cy_expr.specs.Lists.{element, elements, list_of, equals_one, membership}
use Rattle.cy_expr.specs.Predicates.{has_within}
use Rattle.cy_expr.specs.declared.faults.EvalFault.TheVariants.{NoMemory, WrongType, NestedList}
use Rattle.cy_expr.specs.Operators.{compared, value_in_cell}
use Rattle.cy_expr.specs.Lookups.{Lookups, existence}
use Rattle.cy_expr.specs.Choice.{choice}
use Rattle.cy_expr.specs.Logic.{truth_of, value_of}
use Rattle.cy_expr.specs.internal.Membership.{equals_also, equals_more, membership_from}
use Rattle.cy_expr.specs.declared.held.Held.{Held}
use Rattle.cy_expr.specs.internal.Arms.{chosen}
use Rattle.cy_expr.specs.internal.Lent.{GivesOrWants}
use Rattle.cy_expr.specs.Evaluation.{as_cell, call_value, called, cell_of, cells_of, chain, property_exists, values_of}
use Rattle.std.specs.declared.boxed.Box.{Box}
use Rattle.cy_trees.specs.Trees.{Name, Expression, null, property, list, call, Expressions, no_more, more}
use Rattle.cy_trees.specs.TreeModels.{expression_of, expressions_from, link_of, links_from}
use Rattle.cy_trees.specs.declared.expressions.Link.{Link}
use Rattle.cy_trees.specs.declared.expressions.Expr as coded
use Rattle.cy_trees.specs.declared.expressions.Comparator.{Comparator}
use Rattle.cy_trees.specs.declared.expressions.Expr.{Expr, the_lemmas}
use Rattle.cy_values.specs.declared.rows.Cell.{Cell}
use Rattle.cy_values.proofs.Booleans.{or_true}
use Rattle.cy_values.proofs.Truths.{both-yes}

-- a whole number's distance from zero fits where its opposite does
pub distance_fits : (n : ℤ) (r : Option ℤ) → FitsSigned w64 n → SomeIff r (FitsSigned w64 (neg_ℤ n)) (pos (unsigned_abs n)) → SomeIff r (FitsSigned w64 (pos (unsigned_abs n))) (pos (unsigned_abs n))
distance_fits (negsuc k) r fits given = given
distance_fits (pos zero) r fits given = given
distance_fits (pos (suc k)) None fits given = absurd (given (record { sfits = omega (arith, fits.sfits) }))
distance_fits (pos (suc k)) (Some x) fits given = (fits, given.1)

-- OR with nothing, and of three
pub or-no : (a : Truth) → one_at_least a No ≡ a
or-no No = refl
or-no Unknown = refl
or-no Yes = refl

pub or-or : (a b c : Truth) → one_at_least (one_at_least a b) c ≡ one_at_least a (one_at_least b c)
or-or No No No = refl
or-or No No Unknown = refl
or-or No No Yes = refl
or-or No Unknown No = refl
or-or No Unknown Unknown = refl
or-or No Unknown Yes = refl
or-or No Yes No = refl
or-or No Yes Unknown = refl
or-or No Yes Yes = refl
or-or Unknown No No = refl
or-or Unknown No Unknown = refl
or-or Unknown No Yes = refl
or-or Unknown Unknown No = refl
or-or Unknown Unknown Unknown = refl
or-or Unknown Unknown Yes = refl
or-or Unknown Yes No = refl
or-or Unknown Yes Unknown = refl
or-or Unknown Yes Yes = refl
or-or Yes No No = refl
or-or Yes No Unknown = refl
or-or Yes No Yes = refl
or-or Yes Unknown No = refl
or-or Yes Unknown Unknown = refl
or-or Yes Unknown Yes = refl
or-or Yes Yes No = refl
or-or Yes Yes Unknown = refl
or-or Yes Yes Yes = refl

pub no-or : (a : Truth) → one_at_least No a ≡ a
no-or No = refl
no-or Unknown = refl
no-or Yes = refl

-- one element more was compared
pub equals-more : (a s t : Truth) (x : Value) (es : List Scalar) (i : ℕ) (e : Scalar) → i < length es → e ≡ get_or es i e
    → t ≡ equality x (value_in e) → s ≡ one_at_least a t
    → one_at_least s (equals_one x (drop (i + 1) es)) ≡ one_at_least a (equals_one x (drop i es))
equals-more a s t x es i e inside is equal step =
    rw (add-one, drop-cons es i e, ← is, step, equal) (or-or a (equality x (value_in e)) (equals_one x (drop (suc i) es)))

-- elements that are known, before those of more values
abbrev pub behind : List Scalar → Result (List Scalar) EvalFault → Result (List Scalar) EvalFault
behind es others = on_one (λ fs. Ok (es ++ fs)) others

pub behind-nothing : (others : Result (List Scalar) EvalFault) → behind [] others ≡ others
behind-nothing (Ok fs) = refl
behind-nothing (Err fault) = refl

pub behind-one : (es : List Scalar) (e : Scalar) (v : Value) (others : Result (List Scalar) EvalFault) → element v ≡ Ok e
    → behind (es ++ e ∷ []) others ≡ behind es (on_two (λ f fs. Ok (f ∷ fs)) (element v) others)
behind-one es e v (Ok fs) is = rw (is, append_assoc) refl
behind-one es e v (Err fault) is = rw is refl

-- a value that is no element ends the list
pub stopped : (es : List Scalar) (v : Value) (left others values : List Value) (fault : EvalFault) (r : Result Value EvalFault)
    → Err fault ≡ element v → left ≡ v ∷ others → behind es (elements left) ≡ elements values
    → IsErr r × IsErrAnd r (λ e. e ≡ fault) → r ≡ list_of values
stopped es v left others values fault (Ok x) at next so_far given = absurd given.1
stopped es v left others values fault (Err e) at next so_far given = rw (← so_far, next, ← at, given.1) refl

-- no value is left
pub all_made : (es : List Scalar) (left values : List Value) → left ≡ [] → behind es (elements left) ≡ elements values → Ok (value.List es) ≡ list_of values
all_made es left values none so_far = rw (← so_far, none, append-nil) refl

-- IN with a list that is written out is IN with the list that is made
equals_more-fault : (fault : EvalFault) (x : Value) (vs : List Value) → equals_more (Err fault) x vs ≡ Err fault
equals_more-fault fault x [] = refl
equals_more-fault fault x (v ∷ vs) = equals_more-fault fault x vs

equals_also-one : (a : Truth) (x : Value) (e : Scalar) (r : Result (List Scalar) EvalFault)
    → on_one (λ es. Ok (one_at_least (one_at_least a (equality x (value_in e))) (equals_one x es))) r
    ≡ on_one (λ es. Ok (one_at_least a (equals_one x es))) (on_two (λ f fs. Ok (f ∷ fs)) (Ok e) r)
equals_also-one a x e (Ok es) = ap (λ (t : Truth). Ok t) (or-or a (equality x (value_in e)) (equals_one x es))
equals_also-one a x e (Err fault) = refl

equals_more-all : (a : Truth) (x : Value) (vs : List Value) → equals_more (Ok a) x vs ≡ on_one (λ es. Ok (one_at_least a (equals_one x es))) (elements vs)
equals_more-all a x [] = ap (λ (t : Truth). Ok t) (sym (or-no a))
equals_more-all a x (value.Text t ∷ vs) = equals_more-all (one_at_least a (equality x (value.Text t))) x vs ∙ equals_also-one a x (scalar.Text t) (elements vs)
equals_more-all a x (value.Bool b ∷ vs) = equals_more-all (one_at_least a (equality x (value.Bool b))) x vs ∙ equals_also-one a x (scalar.Bool b) (elements vs)
equals_more-all a x (value.Int n ∷ vs) = equals_more-all (one_at_least a (equality x (value.Int n))) x vs ∙ equals_also-one a x (scalar.Int n) (elements vs)
equals_more-all a x (value.Null ∷ vs) = equals_more-all (one_at_least a (equality x value.Null)) x vs ∙ equals_also-one a x scalar.Null (elements vs)
equals_more-all a x (value.List es ∷ vs) = equals_more-fault NestedList x vs

membership-made : (x : Value) (r : Result (List Scalar) EvalFault)
    → on_one (λ a. Ok (value_of a)) (on_one (λ es. Ok (one_at_least No (equals_one x es))) r) ≡ on_one (membership x) (on_one (λ es. Ok (value.List es)) r)
membership-made x (Ok es) = rw (no-or (equals_one x es)) refl
membership-made x (Err fault) = refl

pub membership-all : (x : Value) (r : Result (List Value) EvalFault) → membership_from (Ok No) x r ≡ on_one (membership x) (on_one list_of r)
membership-all x (Ok vs) = ap (λ (t : Result Truth EvalFault). on_one (λ a. Ok (value_of a)) t) (equals_more-all No x vs) ∙ membership-made x (elements vs)
membership-all x (Err fault) = refl

membership-one : (any : Result Truth EvalFault) (x v : Value) (r : Result (List Value) EvalFault)
    → membership_from (equals_also any x v) x r ≡ membership_from any x (on_two (λ w ws. Ok (w ∷ ws)) (Ok v) r)
membership-one any x v (Ok vs) = refl
membership-one any x v (Err fault) = refl

-- a text starts with another exactly where it is the other and a rest
starts : (s t : List ℕ) → (starts_with nat_eq s t ≡ true → s ≡ t ++ drop (length t) s) × ((rest : List ℕ) → s ≡ t ++ rest → starts_with nat_eq s t ≡ true)
starts s t = starts_is (λ a b. (eqb-true a b, eq-eqb a b)) s t (starts_with nat_eq s t) refl

found : (s t rest : List ℕ) (i : ℕ) → i ≤ length s → drop i s ≡ t ++ rest → has_within s t ≡ true
found [] t rest zero fits at = (starts [] t).1 rest at
found [] t rest (suc i) fits at = (starts [] t).1 rest at
found (c ∷ cs) t rest zero fits at = rw ((starts (c ∷ cs) t).1 rest at) refl
found (c ∷ cs) t rest (suc i) fits at =
    let later : has_within cs t ≡ true = found cs t rest i (omega arith) at in
    rw later (or_true (starts_with nat_eq (c ∷ cs) t))

no_start : (s t : List ℕ) (b : Bool) → starts_with nat_eq s t ≡ b → LacksTextAt t s 0 → b ≡ false
no_start s t true is lacks = absurd (lacks (drop (length t) s) ((starts s t).0 is))
no_start s t false is lacks = refl

lacking : (s t : List ℕ) → ((i : ℕ) → i ≤ length s → LacksTextAt t s i) → has_within s t ≡ false
lacking [] t lacks = no_start [] t (starts_with nat_eq [] t) refl (lacks 0 (omega arith))
lacking (c ∷ cs) t lacks =
    let here : starts_with nat_eq (c ∷ cs) t ≡ false = no_start (c ∷ cs) t (starts_with nat_eq (c ∷ cs) t) refl (lacks 0 (omega arith)) in
    rw (here, lacking cs t (λ i fits. lacks (suc i) (omega arith))) refl

-- a search finds a text exactly where it stands within the other
pub within-found : (s t : List ℕ) (b : Bool) → MatchBool b (HasMatch (FindsText t) s) (FindsText t s None) → b ≡ has_within s t
within-found s t true (i, j, finds, fits, ends) = sym (found s t (drop j s) i (omega arith) finds.1.split)
within-found s t false lacks = sym (lacking s t lacks)

-- what is known of a chain, and the truth of what is left
abbrev pub and_then : Truth → Result Truth EvalFault → Result Truth EvalFault
and_then a others = on_one (λ t. Ok (both a t)) others

pub and_then-yes : (others : Result Truth EvalFault) → and_then Yes others ≡ others
and_then-yes (Ok No) = refl
and_then-yes (Ok Unknown) = refl
and_then-yes (Ok Yes) = refl
and_then-yes (Err fault) = refl

pub both-both : (a b c : Truth) → both (both a b) c ≡ both a (both b c)
both-both No No No = refl
both-both No No Unknown = refl
both-both No No Yes = refl
both-both No Unknown No = refl
both-both No Unknown Unknown = refl
both-both No Unknown Yes = refl
both-both No Yes No = refl
both-both No Yes Unknown = refl
both-both No Yes Yes = refl
both-both Unknown No No = refl
both-both Unknown No Unknown = refl
both-both Unknown No Yes = refl
both-both Unknown Unknown No = refl
both-both Unknown Unknown Unknown = refl
both-both Unknown Unknown Yes = refl
both-both Unknown Yes No = refl
both-both Unknown Yes Unknown = refl
both-both Unknown Yes Yes = refl
both-both Yes No No = refl
both-both Yes No Unknown = refl
both-both Yes No Yes = refl
both-both Yes Unknown No = refl
both-both Yes Unknown Unknown = refl
both-both Yes Unknown Yes = refl
both-both Yes Yes No = refl
both-both Yes Yes Unknown = refl
both-both Yes Yes Yes = refl

pub and_then-one : (a s : Truth) (others : Result Truth EvalFault) → and_then a (on_two (λ x y. Ok (both x y)) (Ok s) others) ≡ and_then (both a s) others
and_then-one a s (Ok t) = ap (λ (x : Truth). Ok x) (sym (both-both a s t))
and_then-one a s (Err fault) = refl

pub ruleset chain_steps = (and_then-yes, both-yes, and_then-one)

-- a link as its comparator and its operand's tree
link_is : (by : Comparator) (e : Expr) → link_of (record { comparator = by; operand = e }) ≡ (by, expression_of e)
link_is by e = search (rules, the_lemmas)

-- one link more was compared
pub chain-more : (graph : Lookups) (row : List Cell) (a s t : Truth) (c d : Cell) (links : List Link) (i : ℕ) (l : Link)
    → i < length links → l ≡ get_or links i l → cell_of graph row (expression_of l.operand) ≡ Ok d → compared l.comparator c d ≡ Ok s → t ≡ both a s
    → and_then t (chain graph row d (links_from (map link_of (drop (i + 1) links)))) ≡ and_then a (chain graph row c (links_from (map link_of (drop i links))))
chain-more graph row a s t c d links i l inside is value truth step =
    let seen : link_of l ≡ (l.comparator, expression_of l.operand) = link_is l.comparator l.operand in
    rw (add-one, drop-cons links i l, ← is, seen, value, truth, step) (sym (and_then-one a s (chain graph row d (links_from (map link_of (drop (suc i) links))))))

-- one comparison of two cells
pub one_compared : (graph : Lookups) (row : List Cell) (first : Expression) (links : List Link) (l : Link) (c d : Cell) (t : Truth)
    → length links ≡ 1 → l ≡ get_or links 0 l → cell_of graph row first ≡ Ok c → cell_of graph row (expression_of l.operand) ≡ Ok d → compared l.comparator c d ≡ Ok t
    → on_one (λ x. chain graph row x (links_from (map link_of links))) (cell_of graph row first) ≡ Ok t
one_compared graph row first [] l c d t one is left right truth = search rules
one_compared graph row first (k ∷ []) l c d t one is left right truth =
    let seen : link_of l ≡ (l.comparator, expression_of l.operand) = link_is l.comparator l.operand in
    rw left (rw (← is, seen, right, truth) (ap (λ (x : Truth). Ok x) (both-yes t)))
one_compared graph row first (k ∷ m ∷ links) l c d t one is left right truth = search rules

-- values, and then those of others
abbrev pub behind_values : List Value → Result (List Value) EvalFault → Result (List Value) EvalFault
behind_values vs others = on_one (λ ws. Ok (vs ++ ws)) others

-- one element more was compared with a value
pub membership-more : (graph : Lookups) (row : List Cell) (any known : Result Truth EvalFault) (x v : Value) (c : Cell) (es : List Expr) (i : ℕ) (e : Expr)
    → i < length es → e ≡ get_or es i e → cell_of graph row (expression_of e) ≡ Ok c → value_in_cell c ≡ Ok v → known ≡ equals_also any x v
    → membership_from known x (values_of graph row (expressions_from (map expression_of (drop (i + 1) es)))) ≡ membership_from any x (values_of graph row (expressions_from (map expression_of (drop i es))))
membership-more graph row any known x v c es i e inside is value seen step =
    rw (add-one, drop-cons es i e, ← is, value, seen, step) (membership-one any x v (values_of graph row (expressions_from (map expression_of (drop (suc i) es)))))

-- how many cells there are
abbrev pub counted : Result (List Cell) EvalFault → Result ℕ EvalFault
counted cells = on_one (λ cs. Ok (length cs)) cells

abbrev pub count_from : ℕ → Result ℕ EvalFault → Result ℕ EvalFault
count_from n others = on_one (λ m. Ok (n + m)) others

pub values-more : (vs : List Value) (v : Value) (c : Cell) (r : Result (List Value) EvalFault) → (Ok v ≡ value_in_cell c) ⊎ (Ok v ≡ Err NoMemory)
    → behind_values (vs ++ v ∷ []) r ≡ behind_values vs (on_two (λ x xs. Ok (x ∷ xs)) (value_in_cell c) r)
values-more vs v c (Ok us) (inl is) = rw (← is, append_assoc) refl
values-more vs v c (Err fault) (inl is) = rw (← is) refl
values-more vs v c r (inr is) = search rules

-- one element more has a value
pub elements-more : (graph : Lookups) (row : List Cell) (vs : List Value) (v : Value) (c : Cell) (es : List Expr) (i : ℕ) (e : Expr)
    → i < length es → e ≡ get_or es i e → cell_of graph row (expression_of e) ≡ Ok c → (Ok v ≡ value_in_cell c) ⊎ (Ok v ≡ Err NoMemory)
    → behind_values (vs ++ v ∷ []) (values_of graph row (expressions_from (map expression_of (drop (i + 1) es)))) ≡ behind_values vs (values_of graph row (expressions_from (map expression_of (drop i es))))
elements-more graph row vs v c es i e inside is known truth =
    rw (add-one, drop-cons es i e, ← is, known) (values-more vs v c (values_of graph row (expressions_from (map expression_of (drop (suc i) es)))) truth)

pub count_from-zero : (r : Result ℕ EvalFault) → count_from 0 r ≡ r
count_from-zero (Ok n) = ap (λ (m : ℕ). Ok m) (omega arith)
count_from-zero (Err fault) = refl

pub count_from-more : (i : ℕ) (c : Cell) (r : Result (List Cell) EvalFault)
    → count_from (suc i) (counted r) ≡ count_from i (counted (on_two (λ x xs. Ok (x ∷ xs)) (Ok c) r))
count_from-more i c (Ok cs) = ap (λ (n : ℕ). Ok n) (omega arith)
count_from-more i c (Err fault) = refl

faulty : (f : List Cell → Result Value EvalFault) (r : Result (List Cell) EvalFault) (fault : EvalFault) → counted r ≡ Err fault → on_one f r ≡ Err fault
faulty f (Ok cs) fault is = search rules
faulty f (Err other) fault is = search rules

refused : (graph : Lookups) (f : Option Function) (r : Result (List Cell) EvalFault) (n : ℕ) → n ≢ 1 → counted r ≡ Ok n → on_one (called graph f) r ≡ Err WrongType
refused graph None (Ok cs) n others is = refl
refused graph None (Err fault) n others is = search rules
refused graph (Some f) (Ok []) n others is = refl
refused graph (Some f) (Ok (c ∷ [])) n others is = search rules
refused graph (Some f) (Ok (c ∷ d ∷ cs)) n others is = refl
refused graph (Some f) (Err fault) n others is = search rules

-- one cell more is there
pub cells-more : (graph : Lookups) (row : List Cell) (c : Cell) (es : List Expr) (i : ℕ) (e : Expr)
    → i < length es → e ≡ get_or es i e → cell_of graph row (expression_of e) ≡ Ok c
    → count_from (i + 1) (counted (cells_of graph row (expressions_from (map expression_of (drop (i + 1) es))))) ≡ count_from i (counted (cells_of graph row (expressions_from (map expression_of (drop i es)))))
cells-more graph row c es i e inside is known =
    rw (add-one, drop-cons es i e, ← is, known) (count_from-more i c (cells_of graph row (expressions_from (map expression_of (drop (suc i) es)))))

-- an argument has a fault
cell_fault : (graph : Lookups) (row : List Cell) (f : Option Function) (fault : EvalFault) (es : List Expr) (i : ℕ) (e : Expr)
    → i < length es → e ≡ get_or es i e → cell_of graph row (expression_of e) ≡ Err fault
    → count_from i (counted (cells_of graph row (expressions_from (map expression_of (drop i es))))) ≡ counted (cells_of graph row (expressions_from (map expression_of es)))
    → as_cell (on_one (called graph f) (cells_of graph row (expressions_from (map expression_of es)))) ≡ Err fault
cell_fault graph row f fault es i e inside is known counts =
    ap as_cell (faulty (called graph f) (cells_of graph row (expressions_from (map expression_of es))) fault (sym counts ∙ rw (drop-cons es i e, ← is, known) refl))

pub cell-faults : (graph : Lookups) (row : List Cell) (f : Option Function) (fault : EvalFault) (es : List Expr) (i : ℕ) (e : Expr)
    → i < length es → e ≡ get_or es i e → (cell_of graph row (expression_of e) ≡ Err fault) ⊎ (fault ≡ NoMemory)
    → count_from i (counted (cells_of graph row (expressions_from (map expression_of (drop i es))))) ≡ counted (cells_of graph row (expressions_from (map expression_of es)))
    → (as_cell (on_one (called graph f) (cells_of graph row (expressions_from (map expression_of es)))) ≡ Err fault) ⊎ (fault ≡ NoMemory)
cell-faults graph row f fault es i e inside is (inl known) counts = inl (cell_fault graph row f fault es i e inside is known counts)
cell-faults graph row f fault es i e inside is (inr want) counts = inr want

-- no argument is left, and there isn't one alone
pub cells-refused : (graph : Lookups) (row : List Cell) (f : Option Function) (es : List Expr) (i : ℕ) → length es ≤ i → i ≤ length es → length es ≢ 1
    → count_from i (counted (cells_of graph row (expressions_from (map expression_of (drop i es))))) ≡ counted (cells_of graph row (expressions_from (map expression_of es)))
    → as_cell (on_one (called graph f) (cells_of graph row (expressions_from (map expression_of es)))) ≡ Err WrongType
cells-refused graph row f es i ends within others counts =
    let all : i ≡ length es = omega arith in
    ap as_cell (refused graph f (cells_of graph row (expressions_from (map expression_of es))) i (λ one. others (sym all ∙ one)) (sym counts ∙ rw (drop_all i es ends) (ap (λ (n : ℕ). Ok n) (omega arith))))

-- a fault that is passed on
pub failed : {A : Type 0} (P : A → Type 0) (Q : EvalFault → Type 0) (r : Result A EvalFault) (fault : EvalFault) → IsErr r × IsErrAnd r (λ e. e ≡ fault) → Q fault → MatchResult r P Q
failed P Q (Ok x) fault given q = absurd given.1
failed P Q (Err e) fault given q = rw given.1 q

-- what CASE gives, by its arms and by its ELSE
abbrev pub or_else : Result (Option Cell) EvalFault → Result Cell EvalFault → Result Cell EvalFault
or_else (Ok None) others = others
or_else (Ok (Some c)) others = Ok c
or_else (Err fault) others = Err fault

choice-step : (t : Result Truth EvalFault) (r c o : Result Value EvalFault) (d : Result (Option Cell) EvalFault) → as_cell c ≡ or_else d (as_cell o)
    → as_cell (on_one (λ x. if is_yes x then r else c) t) ≡ or_else (on_one (λ x. if is_yes x then on_one (λ e. Ok (Some e)) (as_cell r) else d) t) (as_cell o)
choice-step (Ok Yes) (Ok v) c o d same = refl
choice-step (Ok Yes) (Err fault) c o d same = refl
choice-step (Ok No) r c o d same = same
choice-step (Ok Unknown) r c o d same = same
choice-step (Err fault) r c o d same = refl

pub choice_chosen : (arms : List (Result Value EvalFault × Result Value EvalFault)) (o : Result Value EvalFault)
    → as_cell (choice arms o) ≡ or_else (chosen arms) (as_cell o)
choice_chosen [] o = refl
choice_chosen (a ∷ arms) o = choice-step (on_one truth_of a.0) a.1 (choice arms o) o (chosen arms) (choice_chosen arms o)

-- exists asks for one property
two_asked : (graph : Lookups) (row : List Cell) (e f : Expression) (es : Expressions) → property_exists graph row (more e (more f es)) ≡ Err WrongType
two_asked graph row null f es = refl
two_asked graph row (list es) f gs = refl
two_asked graph row (call g distinct es) f gs = refl
two_asked graph row _ f es = refl

pub others_asked : (graph : Lookups) (row : List Cell) (es : List Expr) → length es ≢ 1 → property_exists graph row (expressions_from (map expression_of es)) ≡ Err WrongType
others_asked graph row [] others = refl
others_asked graph row (e ∷ []) others = search rules
others_asked graph row (e ∷ f ∷ es) others = two_asked graph row (expression_of e) (expression_of f) (expressions_from (map expression_of es))

-- one argument alone
pub alone : (es : List Expr) → length es ≡ 1 → (e : Expr) → expressions_from (map expression_of es) ≡ more (expression_of (get_or es 0 e)) no_more
alone [] one e = search rules
alone (f ∷ []) one e = refl
alone (f ∷ h ∷ es) one e = search rules

property_is : (e : Box Expr Global) (key : Name) → expression_of (coded.Property e key) ≡ property (expression_of e.value) key
property_is e key = search (rules, the_lemmas)

pub property_asked : (graph : Lookups) (row : List Cell) (e : Box Expr Global) (key : Name)
    → property_exists graph row (more (expression_of (coded.Property e key)) no_more) ≡ on_one (existence graph key) (cell_of graph row (expression_of e.value))
property_asked graph row e key = rw (property_is e key) refl

pub ruleset argument_steps = (alone, others_asked)

-- a call of another function than coalesce and exists
other_function : (graph : Lookups) (f : Function) (cells : Result (List Cell) EvalFault) (outcomes : List (Result Value EvalFault)) (there : Result Value EvalFault)
    → (f ≡ function.Coalesce → ⊥) → (f ≡ function.Exists → ⊥) → call_value graph (Some f) cells outcomes there ≡ on_one (called graph (Some f)) cells
other_function graph function.Coalesce cells outcomes there first asked = absurd (first refl)
other_function graph function.Exists cells outcomes there first asked = absurd (asked refl)
other_function graph f cells outcomes there first asked = refl

pub other_call : (graph : Lookups) (f : Option Function) (g : Function) (cells : Result (List Cell) EvalFault) (outcomes : List (Result Value EvalFault)) (there : Result Value EvalFault) (r : Result Held EvalFault)
    → f ≡ Some g → (g ≡ function.Coalesce → ⊥) → (g ≡ function.Exists → ⊥)
    → GivesOrWants r (as_cell (on_one (called graph (Some g)) cells)) → GivesOrWants r (as_cell (call_value graph f cells outcomes there))
other_call graph f g cells outcomes there r is first asked given =
    rw (is, other_function graph g cells outcomes there first asked) given
