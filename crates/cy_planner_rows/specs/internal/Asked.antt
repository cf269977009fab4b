-- What an expression asks of the graph: attributes of what stands in columns of the row. (own)
use Rattle.std.specs.Prelude.{ℕ, List, [], ◌∷◌, ◌++◌, Option, Some, None}
use Rattle.cy_trees.specs.Trees.{Expression, null, boolean, integer, text, variable, property, has_labels, unary, binary, comparison, list, case, call, call_star, Expressions, no_more, more, Links, no_links, link, Arms, no_arms, arm, Otherwise, nothing, otherwise}
use Rattle.cy_scope_kinds.specs.declared.functions.Function.{Function}
use Rattle.cy_scope_kinds.specs.declared.functions.Function.TheVariants as function
use Rattle.cy_scope_kinds.specs.Functions.{function_named}
use Rattle.cy_planner_algebra.specs.declared.operators.Attribute.{Attribute}
use Rattle.cy_planner_algebra.specs.declared.operators.Attribute.TheVariants.{Property, RelType, Labels}
use Rattle.cy_planner_rows.specs.declared.places.Wanted.{Wanted}
pub use Rattle.cy_planner_rows.specs.Places.{added}

abbrev pub asked_in : Option ℕ → Attribute → List Wanted
asked_in None attribute = []
asked_in (Some column) attribute = record { column = column; attribute = attribute } ∷ []

-- an attribute of what a variable stands for
abbrev pub asked_of : Expression → Attribute → List Wanted
asked_of (variable v) attribute = asked_in v.column attribute
asked_of e attribute = []

abbrev pub asked_of_first : Expressions → Attribute → List Wanted
asked_of_first no_more attribute = []
asked_of_first (more e es) attribute = asked_of e attribute

-- a call, by its function: what the others ask is what their arguments ask
abbrev pub asked_by_call : Option Function → Expressions → List Wanted → List Wanted
asked_by_call (Some function.Labels) es each = asked_of_first es Labels
asked_by_call (Some function.Type) es each = asked_of_first es RelType
asked_by_call f es each = each

abbrev mutual
  pub asked : Expression → List Wanted
  asked null = []
  asked (boolean b) = []
  asked (integer n) = []
  asked (text t) = []
  asked (variable v) = []
  asked (property e key) = asked_of e (Property key)
  asked (has_labels e labels) = asked_of e Labels
  asked (unary operator e) = asked e
  asked (binary operator a b) = asked a ++ asked b
  asked (comparison e links) = asked e ++ asked_by_links links
  asked (list es) = all_asked es
  asked (case arms e) = asked_by_arms arms ++ asked_by_else e
  asked (call name distinct es) = asked_by_call (function_named name) es (all_asked es)
  asked (call_star name) = []

  pub all_asked : Expressions → List Wanted
  all_asked no_more = []
  all_asked (more e es) = asked e ++ all_asked es

  pub asked_by_links : Links → List Wanted
  asked_by_links no_links = []
  asked_by_links (link comparator e links) = asked e ++ asked_by_links links

  pub asked_by_arms : Arms → List Wanted
  asked_by_arms no_arms = []
  asked_by_arms (arm condition outcome arms) = (asked condition ++ asked outcome) ++ asked_by_arms arms

  pub asked_by_else : Otherwise → List Wanted
  asked_by_else nothing = []
  asked_by_else (otherwise e) = asked e

-- with several look-ups more, each once
abbrev pub with_asked : List Wanted → List Wanted → List Wanted
with_asked wanted [] = wanted
with_asked wanted (w ∷ others) = with_asked (added wanted w) others

-- what is wanted of an expression alone
abbrev pub wanted_of : Expression → List Wanted
wanted_of e = with_asked [] (asked e)

-- with what an expression asks, from the left to the right
abbrev pub with_attribute : List Wanted → Expression → Attribute → List Wanted
with_attribute wanted e attribute = with_asked wanted (asked_of e attribute)

abbrev pub with_first : List Wanted → Expressions → Attribute → List Wanted
with_first wanted es attribute = with_asked wanted (asked_of_first es attribute)

abbrev pub with_call : List Wanted → Option Function → Expressions → List Wanted → List Wanted
with_call wanted (Some function.Labels) es each = with_first wanted es Labels
with_call wanted (Some function.Type) es each = with_first wanted es RelType
with_call wanted f es each = each

abbrev mutual
  pub with_tree : List Wanted → Expression → List Wanted
  with_tree wanted null = wanted
  with_tree wanted (boolean b) = wanted
  with_tree wanted (integer n) = wanted
  with_tree wanted (text t) = wanted
  with_tree wanted (variable v) = wanted
  with_tree wanted (property e key) = with_attribute wanted e (Property key)
  with_tree wanted (has_labels e labels) = with_attribute wanted e Labels
  with_tree wanted (unary operator e) = with_tree wanted e
  with_tree wanted (binary operator a b) = with_tree (with_tree wanted a) b
  with_tree wanted (comparison e links) = with_links (with_tree wanted e) links
  with_tree wanted (list es) = with_elements wanted es
  with_tree wanted (case arms e) = with_else (with_arms wanted arms) e
  with_tree wanted (call name distinct es) = with_call wanted (function_named name) es (with_elements wanted es)
  with_tree wanted (call_star name) = wanted

  pub with_elements : List Wanted → Expressions → List Wanted
  with_elements wanted no_more = wanted
  with_elements wanted (more e es) = with_elements (with_tree wanted e) es

  pub with_links : List Wanted → Links → List Wanted
  with_links wanted no_links = wanted
  with_links wanted (link by e links) = with_links (with_tree wanted e) links

  pub with_arms : List Wanted → Arms → List Wanted
  with_arms wanted no_arms = wanted
  with_arms wanted (arm condition outcome arms) = with_arms (with_tree (with_tree wanted condition) outcome) arms

  pub with_else : List Wanted → Otherwise → List Wanted
  with_else wanted nothing = wanted
  with_else wanted (otherwise e) = with_tree wanted e
