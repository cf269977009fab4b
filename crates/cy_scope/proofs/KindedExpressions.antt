-- An expression without a fault, with the columns of its variables, has its kind.
use Rattle.std.proofs.Common.{◌≡◌, Bool, true, false, not, ◌&&◌, List, [], ◌∷◌, Option, Some, None, refl, sym, ap, ◌∙◌}
use Rattle.std.specs.Prelude.{IsTrue, is_some, unwrap_or, ◌||◌}
use Rattle.std.specs.List.{list_all}
use Rattle.std.proofs.lemmas.Option.{none-some}
use Rattle.std.proofs.lemmas.Bool.{and_parts, and_from}
use Rattle.cy_trees.specs.Trees.{Name, Expression, variable, property, has_labels, unary, binary, comparison, list, case, call, call_star, Expressions, no_more, more, Links, no_links, link, Arms, no_arms, arm, Otherwise, nothing, otherwise}
use Rattle.cy_scope_kinds.specs.declared.kinds.Kind.{Kind}
use Rattle.cy_scope_kinds.specs.declared.kinds.Kind.TheVariants.{Node, Value, Flag}
use Rattle.cy_scope_kinds.specs.declared.faults.ScopeFault.{ScopeFault}
use Rattle.cy_scope_kinds.specs.declared.faults.ScopeFault.TheVariants.{UnknownVariable, UnknownFunction, WrongKind, AggregateHere, WrongArguments}
use Rattle.cy_scope_kinds.specs.declared.functions.Function.{Function}
use Rattle.cy_scope_kinds.specs.declared.functions.Function.TheVariants as function
use Rattle.cy_scope_kinds.specs.Kinds.{is_value, is_flag, is_entity, is_node, flag_if}
use Rattle.cy_scope_kinds.specs.Functions.{function_named, is_aggregate, is_none, is_one, is_property, fit, takes}
use Rattle.cy_scope_kinds.specs.Scopes.{Scope, find_kind, is_bound, kind_in}
use Rattle.cy_scope_kinds.specs.ExpressionKinds.{kind_of, are_flags, gives_flags, is_flag_otherwise, function_kind, call_kind}
use Rattle.cy_scope_kinds.specs.ExpressionFaults.{are_compared, are_values, have_values, is_value_otherwise, are_taken, call_fault, star_fault, expression_fault, expressions_fault, links_fault, arms_fault, otherwise_fault, value_fault}
use Rattle.cy_scope_kinds.specs.Operands.{takes_unary, compares}
use Rattle.cy_scope_kinds.specs.Faults.{first, unless}
use Rattle.cy_scope_kinds.specs.ResolvedExpressions.{resolved, resolved_expressions, resolved_links, resolved_arms, resolved_otherwise}
use Rattle.cy_scope_kinds.specs.Kinded.{HasKind, HaveKinds, AreComparable, ArmsHaveKinds, LastHasKind, is_call_of}
use Rattle.cy_scope.specs.Checked.{GivesValue}
use Rattle.cy_scope.proofs.Columns.{Reads}

pub first_none : (a b : Option ScopeFault) → first a b ≡ None → (a ≡ None) × (b ≡ None)
first_none None b is = (refl, is)
first_none (Some fault) b is = absurd (none-some fault (sym is))

pub unless_none : (t : Bool) (fault : ScopeFault) → unless t fault ≡ None → t ≡ true
unless_none true fault is = refl
unless_none false fault is = absurd (none-some fault (sym is))

-- the kinds of several
abbrev pub kinds_of : Scope → Expressions → List Kind
kinds_of scope no_more = []
kinds_of scope (more e es) = kind_of scope e ∷ kinds_of scope es

abbrev conditions_of : Scope → Arms → List Kind
conditions_of scope no_arms = []
conditions_of scope (arm condition outcome arms) = kind_of scope condition ∷ conditions_of scope arms

abbrev outcomes_of : Scope → Arms → List Kind
outcomes_of scope no_arms = []
outcomes_of scope (arm condition outcome arms) = kind_of scope outcome ∷ outcomes_of scope arms

abbrev last_of : Scope → Otherwise → Kind
last_of scope nothing = Flag
last_of scope (otherwise e) = kind_of scope e

values_are : (scope : Scope) (es : Expressions) → list_all is_value (kinds_of scope es) ≡ are_values scope es
values_are scope no_more = refl
values_are scope (more e es) = ap (λ t. is_value (kind_of scope e) && t) (values_are scope es)

flags_are : (scope : Scope) (es : Expressions) → list_all is_flag (kinds_of scope es) ≡ are_flags scope es
flags_are scope no_more = refl
flags_are scope (more e es) = ap (λ t. is_flag (kind_of scope e) && t) (flags_are scope es)

taken_are : (function : Function) (scope : Scope) (es : Expressions) → list_all (takes function) (kinds_of scope es) ≡ are_taken function scope es
taken_are function scope no_more = refl
taken_are function scope (more e es) = ap (λ t. takes function (kind_of scope e) && t) (taken_are function scope es)

arms_have_values : (scope : Scope) (arms : Arms) → have_values scope arms ≡ true → IsTrue (list_all is_value (conditions_of scope arms)) × IsTrue (list_all is_value (outcomes_of scope arms))
arms_have_values scope no_arms is = (refl, refl)
arms_have_values scope (arm condition outcome arms) is =
    let (both, others) = and_parts (is_value (kind_of scope condition) && is_value (kind_of scope outcome)) (have_values scope arms) is in
    let (c, o) = and_parts (is_value (kind_of scope condition)) (is_value (kind_of scope outcome)) both in
    let (cs, os) = arms_have_values scope arms others in (
      and_from (is_value (kind_of scope condition)) (list_all is_value (conditions_of scope arms)) c cs,
      and_from (is_value (kind_of scope outcome)) (list_all is_value (outcomes_of scope arms)) o os,
    )

outcomes_are : (scope : Scope) (arms : Arms) → list_all is_flag (outcomes_of scope arms) ≡ gives_flags scope arms
outcomes_are scope no_arms = refl
outcomes_are scope (arm condition outcome arms) = ap (λ t. is_flag (kind_of scope outcome) && t) (outcomes_are scope arms)

last_is_value : (scope : Scope) (e : Otherwise) → is_value_otherwise scope e ≡ true → IsTrue (is_value (last_of scope e))
last_is_value scope nothing is = refl
last_is_value scope (otherwise e) is = is

last_is_flag : (scope : Scope) (e : Otherwise) → is_flag (last_of scope e) ≡ is_flag_otherwise scope e
last_is_flag scope nothing = refl
last_is_flag scope (otherwise e) = refl

star_is_no_part : (o : Option Function) → star_fault false o ≡ None → ⊥
star_is_no_part None good = none-some UnknownFunction (sym good)
star_is_no_part (Some function.Count) good = none-some AggregateHere (sym good)
star_is_no_part (Some _) good = none-some WrongArguments (sym good)

and_swap : (a b : Bool) → a && b ≡ b && a
and_swap true true = refl
and_swap true false = refl
and_swap false true = refl
and_swap false false = refl

pub node_is : (k : Kind) → is_node k ≡ true → k ≡ Node
node_is Node is = refl
node_is _ is = cc

bound_kind : (scope : Scope) (name : Name) (o : Option Kind) → find_kind scope name ≡ o → is_some o ≡ true → find_kind scope name ≡ Some (kind_in scope name)
bound_kind scope name None is bound = cc
bound_kind scope name (Some k) is bound = is ∙ ap (λ (p : Option Kind). Some (unwrap_or p Value)) (sym is)

-- arguments fit a function as they did
none_resolved : (after : Scope) (es : Expressions) → is_none (resolved_expressions after es) ≡ is_none es
none_resolved after no_more = refl
none_resolved after (more e es) = refl

one_resolved : (after : Scope) (es : Expressions) → is_one (resolved_expressions after es) ≡ is_one es
one_resolved after no_more = refl
one_resolved after (more e es) = none_resolved after es

property_resolved : (after : Scope) (es : Expressions) → is_property (resolved_expressions after es) ≡ is_property es
property_resolved after no_more = refl
property_resolved after (more (property e key) es) = none_resolved after es
property_resolved after (more _ es) = refl

fit_resolved : (function : Function) (after : Scope) (es : Expressions) → fit function (resolved_expressions after es) ≡ fit function es
fit_resolved function.Coalesce after es = ap not (none_resolved after es)
fit_resolved function.Exists after es = property_resolved after es
fit_resolved _ after es = one_resolved after es

-- a call without a fault after its arguments
abbrev pub IsGoodCall : Bool → Scope → Function → Bool → Expressions → Type 0
IsGoodCall whole scope function distinct es =
    IsTrue (fit function es && (not distinct || is_aggregate function)) × IsTrue (whole || not (is_aggregate function)) × IsTrue (are_taken function scope es)

pub good_call : (whole : Bool) (scope : Scope) (function : Function) (distinct : Bool) (es : Expressions) → call_fault whole scope (Some function) distinct es ≡ None
    → IsGoodCall whole scope function distinct es
good_call whole scope function distinct es good =
    let form = fit function es && (not distinct || is_aggregate function) in
    let place = whole || not (is_aggregate function) in
    let (forms, others) = first_none (unless form WrongArguments) (first (unless place AggregateHere) (unless (are_taken function scope es) WrongKind)) good in
    let (places, taken) = first_none (unless place AggregateHere) (unless (are_taken function scope es) WrongKind) others in
    (unless_none form WrongArguments forms, unless_none place AggregateHere places, unless_none (are_taken function scope es) WrongKind taken)

module _ (before after : Scope) where
  pub call_is : (whole : Bool) (function : Function) (distinct : Bool) (es : Expressions) → IsGoodCall whole before function distinct es
      → IsTrue (is_call_of function distinct (resolved_expressions after es) (kinds_of before es))
  call_is whole function distinct es (form, place, taken) =
      and_from (fit function (resolved_expressions after es) && (not distinct || is_aggregate function)) (list_all (takes function) (kinds_of before es))
      (ap (λ t. t && (not distinct || is_aggregate function)) (fit_resolved function after es) ∙ form) (taken_are function before es ∙ taken)

  pub call_kind_is : (name : Name) (function : Function) (es : Expressions) → function_named name ≡ Some function
      → call_kind (function_named name) (are_flags before es) ≡ function_kind function (list_all is_flag (kinds_of before es))
  call_kind_is name function es named =
      ap (λ (o : Option Function). call_kind o (are_flags before es)) named ∙ ap (λ t. function_kind function t) (sym (flags_are before es))

  call_kinded : (name : Name) (distinct : Bool) (es : Expressions) (o : Option Function) → function_named name ≡ o → call_fault false before o distinct es ≡ None
      → HaveKinds before (resolved_expressions after es) (kinds_of before es)
      → HasKind before (call name distinct (resolved_expressions after es)) (kind_of before (call name distinct es))
  call_kinded name distinct es None named good kinds = absurd (none-some UnknownFunction (sym good))
  call_kinded name distinct es (Some function) named good kinds =
      let fine = good_call false before function distinct es good in
      (function, kinds_of before es, named, fine.1, kinds, call_is false function distinct es fine, call_kind_is name function es named)

module _ (before after : Scope) (reads : Reads before after) where
  mutual
    pub has_kind : (e : Expression) → expression_fault before e ≡ None → HasKind before (resolved after e) (kind_of before e)
    has_kind (variable v) good =
        reads v.name (kind_in before v.name) (bound_kind before v.name (find_kind before v.name) refl (unless_none (is_bound before v.name) UnknownVariable good))
    has_kind (property e key) good =
        let (inner, kinds) = first_none (expression_fault before e) (unless (is_entity (kind_of before e)) WrongKind) good in
        (refl, kind_of before e, has_kind e inner, unless_none (is_entity (kind_of before e)) WrongKind kinds)
    has_kind (has_labels e labels) good =
        let (inner, kinds) = first_none (expression_fault before e) (unless (is_node (kind_of before e)) WrongKind) good in
        (refl, kind_of before e, has_kind e inner, unless_none (is_node (kind_of before e)) WrongKind kinds)
    has_kind (unary operator e) good =
        let (inner, kinds) = first_none (expression_fault before e) (unless (takes_unary operator (kind_of before e)) WrongKind) good in
        (refl, kind_of before e, has_kind e inner, unless_none (takes_unary operator (kind_of before e)) WrongKind kinds)
    has_kind (binary operator a b) good =
        let taken = is_value (kind_of before a) && is_value (kind_of before b) in
        let (left, others) = first_none (expression_fault before a) (first (expression_fault before b) (unless taken WrongKind)) good in
        let (right, kinds) = first_none (expression_fault before b) (unless taken WrongKind) others in
        (refl, kind_of before a, kind_of before b, has_kind a left, has_kind b right, unless_none taken WrongKind kinds)
    has_kind (comparison e links) good =
        let taken = are_compared before (kind_of before e) links in
        let (left, others) = first_none (expression_fault before e) (first (links_fault before links) (unless taken WrongKind)) good in
        let (right, kinds) = first_none (links_fault before links) (unless taken WrongKind) others in
        (refl, kind_of before e, has_kind e left, are_comparable (kind_of before e) links right (unless_none taken WrongKind kinds))
    has_kind (list es) good =
        let (inner, kinds) = first_none (expressions_fault before es) (unless (are_values before es) WrongKind) good in
        (refl, kinds_of before es, have_kinds es inner, values_are before es ∙ unless_none (are_values before es) WrongKind kinds)
    has_kind (case arms e) good =
        let taken = have_values before arms && is_value_otherwise before e in
        let (first_parts, others) = first_none (arms_fault before arms) (first (otherwise_fault before e) (unless taken WrongKind)) good in
        let (last_part, kinds) = first_none (otherwise_fault before e) (unless taken WrongKind) others in
        let (in_arms, in_last) = and_parts (have_values before arms) (is_value_otherwise before e) (unless_none taken WrongKind kinds) in
        let (conditions, outcomes) = arms_have_values before arms in_arms in (
          conditions_of before arms,
          outcomes_of before arms,
          last_of before e,
          arms_have_kinds arms first_parts,
          last_has_kind e last_part,
          conditions,
          and_from (is_value (last_of before e)) (list_all is_value (outcomes_of before arms)) (last_is_value before e in_last) outcomes,
          ap (λ t. flag_if t) (and_swap (gives_flags before arms) (is_flag_otherwise before e)
              ∙ ap (λ t. t && gives_flags before arms) (sym (last_is_flag before e)) ∙ ap (λ t. is_flag (last_of before e) && t) (sym (outcomes_are before arms))),
        )
    has_kind (call name distinct es) good =
        let (inner, called) = first_none (expressions_fault before es) (call_fault false before (function_named name) distinct es) good in
        call_kinded before after name distinct es (function_named name) refl called (have_kinds es inner)
    has_kind (call_star name) good = absurd (star_is_no_part (function_named name) good)
    has_kind _ good = refl

    pub have_kinds : (es : Expressions) → expressions_fault before es ≡ None → HaveKinds before (resolved_expressions after es) (kinds_of before es)
    have_kinds no_more good = refl
    have_kinds (more e es) good =
        let (inner, others) = first_none (expression_fault before e) (expressions_fault before es) good in
        (kind_of before e, kinds_of before es, refl, has_kind e inner, have_kinds es others)

    are_comparable : (left : Kind) (links : Links) → links_fault before links ≡ None → are_compared before left links ≡ true → AreComparable before left (resolved_links after links)
    are_comparable left no_links good taken = refl
    are_comparable left (link by e links) good taken =
        let (inner, others) = first_none (expression_fault before e) (links_fault before links) good in
        let (here, rest) = and_parts (compares by left (kind_of before e)) (are_compared before (kind_of before e) links) taken in
        (kind_of before e, has_kind e inner, here, are_comparable (kind_of before e) links others rest)

    arms_have_kinds : (arms : Arms) → arms_fault before arms ≡ None → ArmsHaveKinds before (resolved_arms after arms) (conditions_of before arms) (outcomes_of before arms)
    arms_have_kinds no_arms good = (refl, refl)
    arms_have_kinds (arm condition outcome arms) good =
        let (former, rest) = first_none (expression_fault before condition) (first (expression_fault before outcome) (arms_fault before arms)) good in
        let (latter, others) = first_none (expression_fault before outcome) (arms_fault before arms) rest in (
          kind_of before condition,
          conditions_of before arms,
          kind_of before outcome,
          outcomes_of before arms,
          refl,
          refl,
          has_kind condition former,
          has_kind outcome latter,
          arms_have_kinds arms others,
        )

    last_has_kind : (e : Otherwise) → otherwise_fault before e ≡ None → LastHasKind before (resolved_otherwise after e) (last_of before e)
    last_has_kind nothing good = refl
    last_has_kind (otherwise e) good = has_kind e good

  -- an expression that has to be a value
  pub gives_value : (e : Expression) → value_fault before e ≡ None → GivesValue before (resolved after e)
  gives_value e good =
      let (inner, kinds) = first_none (expression_fault before e) (unless (is_value (kind_of before e)) WrongKind) good in
      (kind_of before e, has_kind e inner, unless_none (is_value (kind_of before e)) WrongKind kinds)
