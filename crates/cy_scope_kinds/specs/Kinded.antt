-- The kind of an expression whose variables have their columns, as the table of operators and functions has it: each variable
-- that is read is bound, and each operand is of a kind that its place takes (own).
use Rattle.std.specs.Prelude.{◌≡◌, ℕ, Bool, not, ◌&&◌, IsTrue, List, [], ◌∷◌, Some, slice_get}
use Rattle.std.specs.List.{list_all}
use Rattle.cy_trees.specs.declared.expressions.Variable.{Variable}
use Rattle.cy_trees.specs.Trees.{Expression, null, boolean, integer, text, variable, property, has_labels, unary, binary, comparison, list, case, call, call_star, Expressions, no_more, more, Links, no_links, link, Arms, no_arms, arm, Otherwise, nothing, otherwise}
use Rattle.cy_scope_kinds.specs.declared.kinds.Kind.{Kind}
use Rattle.cy_scope_kinds.specs.declared.kinds.Kind.TheVariants.{Value, Flag}
use Rattle.cy_scope_kinds.specs.declared.functions.Function.{Function}
use Rattle.cy_scope_kinds.specs.declared.functions.Function.TheVariants.{Count}
use Rattle.cy_scope_kinds.specs.Kinds.{is_flag, flag_if}
use Rattle.cy_scope_kinds.specs.Scopes.{Scope}
use Rattle.cy_scope_kinds.specs.Functions.{function_named, is_aggregate, has_form, takes}
use Rattle.cy_scope_kinds.specs.ExpressionKinds.{unary_kind, binary_kind, function_kind}
use Rattle.cy_scope_kinds.specs.Operands.{takes_property, takes_labels, takes_unary, takes_binary, compares, takes_element, takes_condition, takes_result}

-- the variable has a column, and the scope has the variable's name there, of the kind
abbrev pub IsColumn : Scope → Variable → Kind → Type 0
IsColumn scope v k = (column : ℕ) × (v.column ≡ Some column) × (slice_get scope column ≡ Some (v.name, k))

-- a call has the form of its function, which takes arguments of the kinds
abbrev pub is_call_of : Function → Bool → Expressions → List Kind → Bool
is_call_of function distinct es kinds = has_form function distinct es && list_all (takes function) kinds

abbrev mutual
  -- an expression that is no aggregate and has none in it
  pub HasKind : Scope → Expression → Kind → Type 0
  HasKind scope null k = k ≡ Flag
  HasKind scope (boolean b) k = k ≡ Flag
  HasKind scope (integer n) k = k ≡ Value
  HasKind scope (text t) k = k ≡ Value
  HasKind scope (variable v) k = IsColumn scope v k
  HasKind scope (property e key) k = (k ≡ Value) × (operand : Kind) × HasKind scope e operand × IsTrue (takes_property operand)
  HasKind scope (has_labels e labels) k = (k ≡ Flag) × (operand : Kind) × HasKind scope e operand × IsTrue (takes_labels operand)
  HasKind scope (unary operator e) k = (k ≡ unary_kind operator) × (operand : Kind) × HasKind scope e operand × IsTrue (takes_unary operator operand)
  HasKind scope (binary operator a b) k =
      (k ≡ binary_kind operator) × (left : Kind) × (right : Kind) × HasKind scope a left × HasKind scope b right × IsTrue (takes_binary operator left right)
  HasKind scope (comparison e links) k = (k ≡ Flag) × (first : Kind) × HasKind scope e first × AreComparable scope first links
  HasKind scope (list es) k = (k ≡ Value) × (kinds : List Kind) × HaveKinds scope es kinds × IsTrue (list_all takes_element kinds)
  HasKind scope (case arms e) k =
      (conditions : List Kind) × (outcomes : List Kind) × (last : Kind) × ArmsHaveKinds scope arms conditions outcomes × LastHasKind scope e last
      × IsTrue (list_all takes_condition conditions) × IsTrue (list_all takes_result (last ∷ outcomes)) × (k ≡ flag_if (list_all is_flag (last ∷ outcomes)))
  HasKind scope (call name distinct es) k =
      (function : Function) × (kinds : List Kind) × (function_named name ≡ Some function) × IsTrue (not (is_aggregate function)) × HaveKinds scope es kinds
      × IsTrue (is_call_of function distinct es kinds) × (k ≡ function_kind function (list_all is_flag kinds))
  HasKind scope (call_star name) k = ⊥

  pub HaveKinds : Scope → Expressions → List Kind → Type 0
  HaveKinds scope no_more kinds = kinds ≡ []
  HaveKinds scope (more e es) kinds = (k : Kind) × (others : List Kind) × (kinds ≡ k ∷ others) × HasKind scope e k × HaveKinds scope es others

  -- each operand of a chain can be compared with the one before it, which has the kind
  pub AreComparable : Scope → Kind → Links → Type 0
  AreComparable scope left no_links = left ≡ left
  AreComparable scope left (link by e links) = (k : Kind) × HasKind scope e k × IsTrue (compares by left k) × AreComparable scope k links

  -- the conditions and the results
  pub ArmsHaveKinds : Scope → Arms → List Kind → List Kind → Type 0
  ArmsHaveKinds scope no_arms conditions outcomes = (conditions ≡ []) × (outcomes ≡ [])
  ArmsHaveKinds scope (arm condition outcome arms) conditions outcomes =
      (k : Kind) × (others : List Kind) × (l : Kind) × (more_outcomes : List Kind) × (conditions ≡ k ∷ others) × (outcomes ≡ l ∷ more_outcomes)
      × HasKind scope condition k × HasKind scope outcome l × ArmsHaveKinds scope arms others more_outcomes

  -- without ELSE it is null, which is a flag
  pub LastHasKind : Scope → Otherwise → Kind → Type 0
  LastHasKind scope nothing k = k ≡ Flag
  LastHasKind scope (otherwise e) k = HasKind scope e k

-- of whatever kind
abbrev pub IsKinded : Scope → Expression → Type 0
IsKinded scope e = (k : Kind) × HasKind scope e k

-- an aggregate, whose arguments have none in them; `*` is counted alone
abbrev pub IsAggregate : Scope → Expression → Kind → Type 0
IsAggregate scope (call name distinct es) k =
    (function : Function) × (kinds : List Kind) × (function_named name ≡ Some function) × IsTrue (is_aggregate function) × HaveKinds scope es kinds
    × IsTrue (is_call_of function distinct es kinds) × (k ≡ function_kind function (list_all is_flag kinds))
IsAggregate scope (call_star name) k = (function_named name ≡ Some Count) × (k ≡ Value)
IsAggregate scope _ k = ⊥
