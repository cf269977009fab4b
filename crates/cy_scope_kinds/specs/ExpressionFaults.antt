-- The first fault of an expression in a scope: parts before the whole, in the order of the text (own).
use Rattle.std.specs.Prelude.{Bool, true, false, not, ◌&&◌, ◌||◌, Option, Some, None}
use Rattle.cy_trees.specs.Trees.{Expression, null, boolean, integer, text, variable, property, has_labels, unary, binary, comparison, list, case, call, call_star, Expressions, no_more, more, Links, no_links, link, Arms, no_arms, arm, Otherwise, nothing, otherwise}
use Rattle.cy_scope_kinds.specs.declared.kinds.Kind.{Kind}
use Rattle.cy_scope_kinds.specs.declared.faults.ScopeFault.{ScopeFault}
use Rattle.cy_scope_kinds.specs.declared.faults.ScopeFault.TheVariants.{UnknownVariable, WrongKind, AggregateHere, UnknownFunction, WrongArguments}
use Rattle.cy_scope_kinds.specs.declared.functions.Function.{Function}
use Rattle.cy_scope_kinds.specs.declared.functions.Function.TheVariants as function
use Rattle.cy_scope_kinds.specs.Kinds.{is_value}
use Rattle.cy_scope_kinds.specs.Operands.{takes_property, takes_labels, takes_unary, takes_binary, compares, takes_element, takes_condition, takes_result}
use Rattle.cy_scope_kinds.specs.Functions.{function_named, is_aggregate, has_form, takes}
use Rattle.cy_scope_kinds.specs.Scopes.{Scope, is_bound}
use Rattle.cy_scope_kinds.specs.ExpressionKinds.{kind_of}
use Rattle.cy_scope_kinds.specs.Faults.{first, unless}

-- each operand of a chain and the one before it, which has the kind
abbrev pub are_compared : Scope → Kind → Links → Bool
are_compared scope k no_links = true
are_compared scope k (link by e links) = compares by k (kind_of scope e) && are_compared scope (kind_of scope e) links

abbrev pub are_values : Scope → Expressions → Bool
are_values scope no_more = true
are_values scope (more e es) = takes_element (kind_of scope e) && are_values scope es

abbrev pub have_values : Scope → Arms → Bool
have_values scope no_arms = true
have_values scope (arm condition outcome arms) = takes_condition (kind_of scope condition) && takes_result (kind_of scope outcome) && have_values scope arms

abbrev pub is_value_otherwise : Scope → Otherwise → Bool
is_value_otherwise scope nothing = true
is_value_otherwise scope (otherwise e) = takes_result (kind_of scope e)

abbrev pub are_taken : Function → Scope → Expressions → Bool
are_taken function scope no_more = true
are_taken function scope (more e es) = takes function (kind_of scope e) && are_taken function scope es

-- an aggregate stands as a whole item alone
abbrev pub is_aggregate_allowed : Bool → Function → Bool
is_aggregate_allowed whole function = whole || not (is_aggregate function)

-- of a call after its arguments: its form, its place, and the kinds of its arguments
abbrev pub call_fault : Bool → Scope → Option Function → Bool → Expressions → Option ScopeFault
call_fault whole scope None distinct es = Some UnknownFunction
call_fault whole scope (Some function) distinct es =
    first (unless (has_form function distinct es) WrongArguments)
    (first (unless (is_aggregate_allowed whole function) AggregateHere) (unless (are_taken function scope es) WrongKind))

-- of a call with a `*`: `count` alone takes it
abbrev pub counting_fault : Bool → Function → Option ScopeFault
counting_fault whole function.Count = unless whole AggregateHere
counting_fault whole _ = Some WrongArguments

abbrev pub star_fault : Bool → Option Function → Option ScopeFault
star_fault whole None = Some UnknownFunction
star_fault whole (Some function) = counting_fault whole function

abbrev mutual
  -- of an expression that is no whole item
  pub expression_fault : Scope → Expression → Option ScopeFault
  expression_fault scope null = None
  expression_fault scope (boolean b) = None
  expression_fault scope (integer n) = None
  expression_fault scope (text t) = None
  expression_fault scope (variable v) = unless (is_bound scope v.name) UnknownVariable
  expression_fault scope (property e key) = first (expression_fault scope e) (unless (takes_property (kind_of scope e)) WrongKind)
  expression_fault scope (has_labels e labels) = first (expression_fault scope e) (unless (takes_labels (kind_of scope e)) WrongKind)
  expression_fault scope (unary operator e) = first (expression_fault scope e) (unless (takes_unary operator (kind_of scope e)) WrongKind)
  expression_fault scope (binary operator a b) =
      first (expression_fault scope a) (first (expression_fault scope b) (unless (takes_binary operator (kind_of scope a) (kind_of scope b)) WrongKind))
  expression_fault scope (comparison e links) =
      first (expression_fault scope e) (first (links_fault scope links) (unless (are_compared scope (kind_of scope e) links) WrongKind))
  expression_fault scope (list es) = first (expressions_fault scope es) (unless (are_values scope es) WrongKind)
  expression_fault scope (case arms e) =
      first (arms_fault scope arms) (first (otherwise_fault scope e) (unless (have_values scope arms && is_value_otherwise scope e) WrongKind))
  expression_fault scope (call name distinct es) = first (expressions_fault scope es) (call_fault false scope (function_named name) distinct es)
  expression_fault scope (call_star name) = star_fault false (function_named name)

  pub expressions_fault : Scope → Expressions → Option ScopeFault
  expressions_fault scope no_more = None
  expressions_fault scope (more e es) = first (expression_fault scope e) (expressions_fault scope es)

  pub links_fault : Scope → Links → Option ScopeFault
  links_fault scope no_links = None
  links_fault scope (link by e links) = first (expression_fault scope e) (links_fault scope links)

  pub arms_fault : Scope → Arms → Option ScopeFault
  arms_fault scope no_arms = None
  arms_fault scope (arm condition outcome arms) =
      first (expression_fault scope condition) (first (expression_fault scope outcome) (arms_fault scope arms))

  pub otherwise_fault : Scope → Otherwise → Option ScopeFault
  otherwise_fault scope nothing = None
  otherwise_fault scope (otherwise e) = expression_fault scope e

-- of a whole item, which may be an aggregate
abbrev pub item_fault : Scope → Expression → Option ScopeFault
item_fault scope (call name distinct es) = first (expressions_fault scope es) (call_fault true scope (function_named name) distinct es)
item_fault scope (call_star name) = star_fault true (function_named name)
item_fault scope e = expression_fault scope e

-- of an expression that has to be a value
abbrev pub value_fault : Scope → Expression → Option ScopeFault
value_fault scope e = first (expression_fault scope e) (unless (is_value (kind_of scope e)) WrongKind)
