-- Expressions over columns alone: what an expression asks of the graph stands in columns of its own, which look-ups have added.
use Rattle.std.specs.Prelude.{◌≡◌, ℕ, Bool, true, false, ⊤, List, [], ◌∷◌, Option, Some, None, Result, Ok, option_map}
use Rattle.cy_values.specs.declared.numbers.Entity.{Entity}
use Rattle.cy_values.specs.declared.scalars.Value.{Value}
use Rattle.cy_values.specs.declared.rows.Cell.{Cell}
use Rattle.cy_values.specs.declared.rows.Cell.TheVariants as cell
use Rattle.cy_values.specs.Compare.{is_null}
use Rattle.cy_trees.specs.declared.expressions.Comparator.{Comparator}
use Rattle.cy_trees.specs.declared.expressions.Variable.{Variable}
use Rattle.cy_trees.specs.declared.expressions.UnaryOperator.TheVariants.{IsNull, IsNotNull, Not}
use Rattle.cy_trees.specs.declared.expressions.BinaryOperator.TheVariants.{In}
use Rattle.cy_trees.specs.Trees.{Name, Expression, null, boolean, integer, text, variable, property, has_labels, unary, binary, comparison, list, case, call, call_star, Expressions, no_more, more, Links, no_links, link, Arms, no_arms, arm, Otherwise, nothing, otherwise}
use Rattle.cy_scope_kinds.specs.declared.functions.Function.{Function}
use Rattle.cy_scope_kinds.specs.declared.functions.Function.TheVariants as function
use Rattle.cy_scope_kinds.specs.Functions.{function_named}
use Rattle.cy_expr.specs.declared.faults.EvalFault.{EvalFault}
use Rattle.cy_expr.specs.Evaluation.{column_value}
use Rattle.cy_expr.specs.Lookups.{Lookups, property_value, type_value, labels_value}
use Rattle.cy_planner_algebra.specs.declared.operators.Attribute.{Attribute}
use Rattle.cy_planner_algebra.specs.declared.operators.Attribute.TheVariants.{Property, RelType, Labels}

-- an attribute of the entity in a cell, or a fault
abbrev pub attribute_outcome : Lookups → Attribute → Cell → Result Value EvalFault
attribute_outcome graph (Property key) c = property_value graph key c
attribute_outcome graph RelType c = type_value graph c
attribute_outcome graph Labels c = labels_value graph c

-- what is given, but null where another expression is null
abbrev pub unless_null : Expression → Expression → Expression
unless_null e given = case (arm (unary IsNull e) null no_arms) (otherwise given)

-- one arm for each of the labels: false where it isn't in a list of labels
abbrev pub missing_arms : Expression → List Name → Arms
missing_arms labels [] = no_arms
missing_arms labels (l ∷ ls) = arm (unary Not (binary In (text l) labels)) (boolean false) (missing_arms labels ls)

-- each of the labels is in a list of labels; null where there is none. However many there are, it is no deeper (own).
abbrev pub all_in : Expression → List Name → Expression
all_in labels (l ∷ []) = binary In (text l) labels
all_in labels asked = case (arm (unary IsNull labels) null (missing_arms labels asked)) (otherwise (boolean true))

-- by where an attribute of the entity in a column stands
module _ (place : ℕ → Attribute → ℕ) where
  -- the column of an attribute of what a variable stands for
  abbrev pub looked_up : Expression → Attribute → Expression
  looked_up (variable v) attribute = variable (record { name = v.name; column = option_map (λ column. place column attribute) v.column })
  looked_up e attribute = null

  -- whether a property is there: what is asked of another expression stays as it is
  abbrev pub lowered_exists : Expression → Expression → Expression
  lowered_exists (property e key) asked = unless_null e (unary IsNotNull (looked_up e (Property key)))
  lowered_exists e asked = asked

  -- a call with one argument, by its function: what is asked of another function stays as it is
  abbrev pub lowered_single : Option Function → Expression → Expression → Expression
  lowered_single (Some function.Labels) e asked = looked_up e Labels
  lowered_single (Some function.Type) e asked = looked_up e RelType
  lowered_single (Some function.Exists) e asked = lowered_exists e asked
  lowered_single f e asked = asked

  abbrev pub lowered_call : Option Function → Expressions → Expression → Expression
  lowered_call f (more e no_more) asked = lowered_single f e asked
  lowered_call f es asked = asked

  abbrev mutual
    pub lowered : Expression → Expression
    lowered null = null
    lowered (boolean b) = boolean b
    lowered (integer n) = integer n
    lowered (text t) = text t
    lowered (variable v) = variable v
    lowered (property e key) = looked_up e (Property key)
    lowered (has_labels e labels) = all_in (looked_up e Labels) labels
    lowered (unary operator e) = unary operator (lowered e)
    lowered (binary operator a b) = binary operator (lowered a) (lowered b)
    lowered (comparison e links) = comparison (lowered e) (lowered_links links)
    lowered (list es) = list (lowered_expressions es)
    lowered (case arms e) = case (lowered_arms arms) (lowered_otherwise e)
    lowered (call name distinct es) = lowered_call (function_named name) es (call name distinct (lowered_expressions es))
    lowered (call_star name) = call_star name

    pub lowered_expressions : Expressions → Expressions
    lowered_expressions no_more = no_more
    lowered_expressions (more e es) = more (lowered e) (lowered_expressions es)

    pub lowered_links : Links → Links
    lowered_links no_links = no_links
    lowered_links (link comparator e links) = link comparator (lowered e) (lowered_links links)

    pub lowered_arms : Arms → Arms
    lowered_arms no_arms = no_arms
    lowered_arms (arm condition outcome arms) = arm (lowered condition) (lowered outcome) (lowered_arms arms)

    pub lowered_otherwise : Otherwise → Otherwise
    lowered_otherwise nothing = nothing
    lowered_otherwise (otherwise e) = otherwise (lowered e)

  -- a link and an arm, as pairs
  abbrev pub lowered_link : Comparator × Expression → Comparator × Expression
  lowered_link l = (l.0, lowered l.1)

  abbrev pub lowered_arm : Expression × Expression → Expression × Expression
  lowered_arm a = (lowered a.0, lowered a.1)

  -- on a graph, for a row before the look-ups and the row after them
  module _ (graph : Lookups) (row wide : List Cell) where
    -- the attribute of the entity in a column is no fault, and stands in its place
    abbrev pub IsLookedUp : ℕ → Attribute → Type 0
    IsLookedUp column attribute =
        (v : Value) × (attribute_outcome graph attribute (column_value (Some column) row) ≡ Ok v)
        × (column_value (Some (place column attribute)) wide ≡ cell.Value v)

    abbrev pub IsColumnLookedUp : Option ℕ → Attribute → Type 0
    IsColumnLookedUp None attribute = ⊥
    IsColumnLookedUp (Some column) attribute = IsLookedUp column attribute

    -- so it is of what a variable stands for
    abbrev pub IsOwnerLookedUp : Expression → Attribute → Type 0
    IsOwnerLookedUp (variable v) attribute = IsColumnLookedUp v.column attribute
    IsOwnerLookedUp e attribute = ⊥

    -- a variable stands for the same
    abbrev pub IsKept : Expression → Type 0
    IsKept (variable v) = column_value v.column wide ≡ column_value v.column row
    IsKept e = ⊥

    abbrev pub IsExistsReadable : Expression → Type 0
    IsExistsReadable (property e key) = IsKept e × IsOwnerLookedUp e (Property key)
    IsExistsReadable e = ⊥

    abbrev pub IsCallReadable : Option Function → Expressions → Type 0 → Type 0
    IsCallReadable (Some function.Labels) (more e no_more) each = IsOwnerLookedUp e Labels
    IsCallReadable (Some function.Labels) es each = ⊥
    IsCallReadable (Some function.Type) (more e no_more) each = IsOwnerLookedUp e RelType
    IsCallReadable (Some function.Type) es each = ⊥
    IsCallReadable (Some function.Exists) (more e no_more) each = IsExistsReadable e
    IsCallReadable (Some function.Exists) es each = ⊥
    IsCallReadable f es each = each

    -- all that an expression asks of the graph is looked up, and its columns are kept
    abbrev mutual
      pub IsReadable : Expression → Type 0
      IsReadable null = ⊤
      IsReadable (boolean b) = ⊤
      IsReadable (integer n) = ⊤
      IsReadable (text t) = ⊤
      IsReadable (variable v) = IsKept (variable v)
      IsReadable (property e key) = IsOwnerLookedUp e (Property key)
      IsReadable (has_labels e labels) = IsOwnerLookedUp e Labels
      IsReadable (unary operator e) = IsReadable e
      IsReadable (binary operator a b) = IsReadable a × IsReadable b
      IsReadable (comparison e links) = IsReadable e × AreLinksReadable links
      IsReadable (list es) = AreReadable es
      IsReadable (case arms e) = AreArmsReadable arms × IsOtherwiseReadable e
      IsReadable (call name distinct es) = IsCallReadable (function_named name) es (AreReadable es)
      IsReadable (call_star name) = ⊤

      pub AreReadable : Expressions → Type 0
      AreReadable no_more = ⊤
      AreReadable (more e es) = IsReadable e × AreReadable es

      pub AreLinksReadable : Links → Type 0
      AreLinksReadable no_links = ⊤
      AreLinksReadable (link comparator e links) = IsReadable e × AreLinksReadable links

      pub AreArmsReadable : Arms → Type 0
      AreArmsReadable no_arms = ⊤
      AreArmsReadable (arm condition outcome arms) = IsReadable condition × IsReadable outcome × AreArmsReadable arms

      pub IsOtherwiseReadable : Otherwise → Type 0
      IsOtherwiseReadable nothing = ⊤
      IsOtherwiseReadable (otherwise e) = IsReadable e
