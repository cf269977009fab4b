-- The tree that a value of the code stands for (own).
use Rattle.std.specs.Prelude.{List, [], ◌∷◌, map, Option, Some, None, option_map}
use Rattle.std.specs.declared.vec.Vec.{Vec}
use Rattle.std.specs.declared.alloc.Global.{Global}
use Rattle.std.specs.declared.boxed.Box.{Box}
use Rattle.cy_trees.specs.declared.expressions.Comparator.{Comparator}
use Rattle.cy_trees.specs.declared.expressions.Expr.{Expr, fold-Expr}
use Rattle.cy_trees.specs.declared.expressions.Expr.TheFolds.{fold-Arm, fold-Link}
use Rattle.cy_trees.specs.declared.expressions.Expr.TheOpen.{Expr-F, Link-F, Arm-F}
use Rattle.cy_trees.specs.declared.expressions.Arm as coded_arm
use Rattle.cy_trees.specs.declared.expressions.Link as coded_link
use Rattle.cy_trees.specs.declared.clauses.MapEntry as coded_entry
use Rattle.cy_trees.specs.declared.clauses.NodePattern as coded_node
use Rattle.cy_trees.specs.declared.clauses.RelationshipPattern as coded_relationship
use Rattle.cy_trees.specs.declared.clauses.Step as coded_step
use Rattle.cy_trees.specs.declared.clauses.Path as coded_path
use Rattle.cy_trees.specs.declared.clauses.Item as coded_item
use Rattle.cy_trees.specs.declared.clauses.Key as coded_key
use Rattle.cy_trees.specs.declared.clauses.Projection as coded_projection
use Rattle.cy_trees.specs.declared.clauses.SetItem as coded_set
use Rattle.cy_trees.specs.declared.clauses.SetItem.TheVariants as set_item
use Rattle.cy_trees.specs.declared.clauses.RemoveItem as coded_remove
use Rattle.cy_trees.specs.declared.clauses.RemoveItem.TheVariants as remove_item
use Rattle.cy_trees.specs.declared.clauses.PathTest as coded_path_test
use Rattle.cy_trees.specs.declared.clauses.Where as coded_where
use Rattle.cy_trees.specs.declared.clauses.Clause as coded_clause
use Rattle.cy_trees.specs.declared.clauses.Clause.TheVariants as clause
use Rattle.cy_trees.specs.declared.clauses.Query as coded_query
use Rattle.cy_trees.specs.declared.clauses.Statement as coded_statement
use Rattle.cy_trees.specs.Trees.{Expression, null, boolean, integer, text, variable, property, has_labels, unary, binary, comparison, list, case, call, call_star, Expressions, no_more, more, Links, no_links, link, Arms, no_arms, arm, Otherwise, nothing, otherwise, MapEntry, NodePattern, RelationshipPattern, Step, Path, Item, Key, Projection, SetItem, set_property, set_labels, RemoveItem, remove_property, remove_labels, PathTest, Where, Clause, «match», unwind, «with», «return», create, set, remove, delete, Query, Statement}

abbrev pub expressions_from : List Expression → Expressions
expressions_from [] = no_more
expressions_from (e ∷ es) = more e (expressions_from es)

abbrev pub links_from : List (Comparator × Expression) → Links
links_from [] = no_links
links_from (l ∷ ls) = link l.0 l.1 (links_from ls)

abbrev pub arms_from : List (Expression × Expression) → Arms
arms_from [] = no_arms
arms_from (a ∷ more_arms) = arm a.0 a.1 (arms_from more_arms)

abbrev pub otherwise_from : Option (Box Expression Global) → Otherwise
otherwise_from None = nothing
otherwise_from (Some e) = otherwise e.value

-- one level, with each part already seen as its tree
abbrev pub expression_step : Expr-F Expression (Expression × Expression) (Comparator × Expression) → Expression
expression_step Expr-F.Null = null
expression_step (Expr-F.Boolean b) = boolean b
expression_step (Expr-F.Integer n) = integer n
expression_step (Expr-F.Text t) = text t
expression_step (Expr-F.Variable v) = variable v
expression_step (Expr-F.Property e key) = property e.value key
expression_step (Expr-F.HasLabels e labels) = has_labels e.value labels.items
expression_step (Expr-F.Unary operator e) = unary operator e.value
expression_step (Expr-F.Binary operator a b) = binary operator a.value b.value
expression_step (Expr-F.Comparison e ls) = comparison e.value (links_from ls.items)
expression_step (Expr-F.List es) = list (expressions_from es.items)
expression_step (Expr-F.Case arms e) = case (arms_from arms.items) (otherwise_from e)
expression_step (Expr-F.Call f distinct es) = call f distinct (expressions_from es.items)
expression_step (Expr-F.CallStar f) = call_star f

abbrev arm_step : Arm-F Expression (Expression × Expression) (Comparator × Expression) → Expression × Expression
arm_step a = (a.condition, a.outcome)

abbrev link_step : Link-F Expression (Expression × Expression) (Comparator × Expression) → Comparator × Expression
link_step l = (l.comparator, l.operand)

abbrev pub expression_of : Expr → Expression
expression_of = fold-Expr Expression (Expression × Expression) (Comparator × Expression) expression_step arm_step link_step

abbrev pub arm_of : coded_arm.Arm → Expression × Expression
arm_of = fold-Arm Expression (Expression × Expression) (Comparator × Expression) expression_step arm_step link_step

abbrev pub link_of : coded_link.Link → Comparator × Expression
link_of = fold-Link Expression (Expression × Expression) (Comparator × Expression) expression_step arm_step link_step

abbrev pub expressions_of : Vec Expr Global → Expressions
expressions_of es = expressions_from (map expression_of es.items)

abbrev pub links_of : Vec coded_link.Link Global → Links
links_of ls = links_from (map link_of ls.items)

abbrev pub arms_of : Vec coded_arm.Arm Global → Arms
arms_of arms = arms_from (map arm_of arms.items)

abbrev pub filter_of : Option Expr → Option Expression
filter_of = option_map expression_of

abbrev pub entry_of : coded_entry.MapEntry → MapEntry
entry_of e = record { key = e.key; value = expression_of e.value }

abbrev pub properties_of : Option (Vec coded_entry.MapEntry Global) → Option (List MapEntry)
properties_of = option_map (λ es. map entry_of es.items)

abbrev pub node_of : coded_node.NodePattern → NodePattern
node_of n = record { variable = n.variable; labels = n.labels.items; properties = properties_of n.properties }

abbrev pub relationship_of : coded_relationship.RelationshipPattern → RelationshipPattern
relationship_of r = record {
  variable = r.variable;
  direction = r.direction;
  types = r.types.items;
  length = r.length;
  properties = properties_of r.properties;
}

abbrev pub step_of : coded_step.Step → Step
step_of s = record { relationship = relationship_of s.relationship; node = node_of s.node }

abbrev pub path_of : coded_path.Path → Path
path_of p = record { start = node_of p.start; steps = map step_of p.steps.items }

abbrev pub paths_of : Vec coded_path.Path Global → List Path
paths_of ps = map path_of ps.items

abbrev pub item_of : coded_item.Item → Item
item_of i = record { expression = expression_of i.expression; column = i.column; named = i.named }

abbrev pub key_of : coded_key.Key → Key
key_of k = record { expression = expression_of k.expression; descending = k.descending }

abbrev pub projection_of : coded_projection.Projection → Projection
projection_of p = record {
  distinct = p.distinct;
  items = map item_of p.items.items;
  order = map key_of p.order.items;
  skip = p.skip;
  limit = p.limit;
}

abbrev pub set_item_of : coded_set.SetItem → SetItem
set_item_of (set_item.Property v key e) = set_property v key (expression_of e)
set_item_of (set_item.Labels v labels) = set_labels v labels.items

abbrev pub remove_item_of : coded_remove.RemoveItem → RemoveItem
remove_item_of (remove_item.Property v key) = remove_property v key
remove_item_of (remove_item.Labels v labels) = remove_labels v labels.items

abbrev pub path_test_of : coded_path_test.PathTest → PathTest
path_test_of t = record { denied = t.denied; path = path_of t.path }

abbrev pub where_of : coded_where.Where → Where
where_of w = record { test = filter_of w.test; paths = map path_test_of w.paths.items }

abbrev pub clause_of : coded_clause.Clause → Clause
clause_of (clause.Match m) = «match» m.optional (paths_of m.paths) (where_of m.filter)
clause_of (clause.Unwind u) = unwind (expression_of u.list) u.variable
clause_of (clause.With w) = «with» (projection_of w.projection) (where_of w.filter)
clause_of (clause.Return p) = «return» (projection_of p)
clause_of (clause.Create ps) = create (paths_of ps)
clause_of (clause.Set is) = set (map set_item_of is.items)
clause_of (clause.Remove is) = remove (map remove_item_of is.items)
clause_of (clause.Delete d) = delete d.detach d.variables.items

abbrev pub query_of : coded_query.Query → Query
query_of q = record { clauses = map clause_of q.clauses.items }

abbrev pub statement_of : coded_statement.Statement → Statement
statement_of s = record { queries = map query_of s.queries.items; all = s.all }
