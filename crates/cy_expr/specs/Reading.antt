-- What an expression reads of the graph: of the entities that its row names the properties, the labels and the types, and
-- nothing else; and which columns of its row. (Francis et al., property graphs; columns: own)
use Rattle.std.specs.Prelude.{◌≡◌, ℕ, Bool, true, false, not, ◌&&◌, ⊤, Option, Some, nat_lt}
use Rattle.std.specs.Option.{option_map_or}
use Rattle.cy_values.specs.declared.numbers.Entity.TheVariants as entity
use Rattle.cy_values.specs.declared.rows.Cell.{Cell}
use Rattle.cy_values.specs.declared.rows.Cell.TheVariants as cell
use Rattle.cy_trees.specs.Trees.{Name, Expression, null, boolean, integer, text, variable, property, has_labels, unary, binary, comparison, list, case, call, call_star, Expressions, no_more, more, Links, no_links, link, Arms, no_arms, arm, Otherwise, nothing, otherwise}
use Rattle.cy_scope_kinds.specs.declared.functions.Function.{Function}
use Rattle.cy_scope_kinds.specs.declared.functions.Function.TheVariants as function
use Rattle.cy_scope_kinds.specs.Functions.{function_named}
use Rattle.cy_expr.specs.Lookups.{Lookups}

-- two graphs that answer alike for the entity that a cell names
abbrev pub AgreeAt : Lookups → Lookups → Cell → Type 0
AgreeAt one other (cell.Node n) =
    ((key : Name) → one.property_of (entity.Node n) key ≡ other.property_of (entity.Node n) key) × (one.labels_of n ≡ other.labels_of n)
AgreeAt one other (cell.Rel r) =
    ((key : Name) → one.property_of (entity.Rel r) key ≡ other.property_of (entity.Rel r) key) × (one.type_of r ≡ other.type_of r)
AgreeAt one other (cell.Rels rs) = ⊤
AgreeAt one other (cell.Value v) = ⊤

-- a function that reads the graph: type, labels, and exists, which asks for a property
abbrev pub reads_graph : Option Function → Bool
reads_graph (Some function.Type) = true
reads_graph (Some function.Labels) = true
reads_graph (Some function.Exists) = true
reads_graph f = false

-- whether an expression reads columns of its row alone: neither a property, nor labels, nor a type
abbrev mutual
  pub reads_columns : Expression → Bool
  reads_columns null = true
  reads_columns (boolean b) = true
  reads_columns (integer n) = true
  reads_columns (text t) = true
  reads_columns (variable v) = true
  reads_columns (property e key) = false
  reads_columns (has_labels e labels) = false
  reads_columns (unary operator e) = reads_columns e
  reads_columns (binary operator a b) = reads_columns a && reads_columns b
  reads_columns (comparison e links) = reads_columns e && links_read_columns links
  reads_columns (list es) = all_read_columns es
  reads_columns (case arms e) = arms_read_columns arms && else_reads_columns e
  reads_columns (call name distinct es) = not (reads_graph (function_named name)) && all_read_columns es
  reads_columns (call_star name) = true

  pub all_read_columns : Expressions → Bool
  all_read_columns no_more = true
  all_read_columns (more e es) = reads_columns e && all_read_columns es

  pub links_read_columns : Links → Bool
  links_read_columns no_links = true
  links_read_columns (link comparator e links) = reads_columns e && links_read_columns links

  pub arms_read_columns : Arms → Bool
  arms_read_columns no_arms = true
  arms_read_columns (arm condition outcome arms) = reads_columns condition && reads_columns outcome && arms_read_columns arms

  pub else_reads_columns : Otherwise → Bool
  else_reads_columns nothing = true
  else_reads_columns (otherwise e) = reads_columns e

-- whether an expression reads only the first this many columns of its row
abbrev mutual
  pub reads_below : ℕ → Expression → Bool
  reads_below width null = true
  reads_below width (boolean b) = true
  reads_below width (integer n) = true
  reads_below width (text t) = true
  reads_below width (variable v) = option_map_or (λ column. nat_lt column width) v.column true
  reads_below width (property e key) = reads_below width e
  reads_below width (has_labels e labels) = reads_below width e
  reads_below width (unary operator e) = reads_below width e
  reads_below width (binary operator a b) = reads_below width a && reads_below width b
  reads_below width (comparison e links) = reads_below width e && links_read_below width links
  reads_below width (list es) = all_read_below width es
  reads_below width (case arms e) = arms_read_below width arms && else_reads_below width e
  reads_below width (call name distinct es) = all_read_below width es
  reads_below width (call_star name) = true

  pub all_read_below : ℕ → Expressions → Bool
  all_read_below width no_more = true
  all_read_below width (more e es) = reads_below width e && all_read_below width es

  pub links_read_below : ℕ → Links → Bool
  links_read_below width no_links = true
  links_read_below width (link comparator e links) = reads_below width e && links_read_below width links

  pub arms_read_below : ℕ → Arms → Bool
  arms_read_below width no_arms = true
  arms_read_below width (arm condition outcome arms) = reads_below width condition && reads_below width outcome && arms_read_below width arms

  pub else_reads_below : ℕ → Otherwise → Bool
  else_reads_below width nothing = true
  else_reads_below width (otherwise e) = reads_below width e
