-- The trees of the worked rows, and what a query gives, its variables being given their columns first.
use Rattle.std.proofs.Common.{ℕ, List, [], ◌∷◌, Some, None, true, false}
use Rattle.std.specs.Prelude.{pos, codes, Option, Result}
use Rattle.cy_values.specs.declared.scalars.Value.TheVariants as value
use Rattle.cy_values.specs.declared.rows.Cell.{Cell}
use Rattle.cy_values.specs.declared.rows.Cell.TheVariants as cell
use Rattle.cy_trees.specs.declared.clauses.Direction.{Direction}
use Rattle.cy_trees.specs.declared.clauses.Length.{Length}
use Rattle.cy_trees.specs.declared.expressions.Variable.{Variable}
use Rattle.cy_trees.specs.Trees.{Name, Expression, integer, variable, property, list, call, call_star, Expressions, no_more, more, NodePattern, RelationshipPattern, Path, Item, Key, Projection, PathTest, Where, Clause, «match», unwind, «return», Query, Statement}
use Rattle.cy_scope.specs.Resolved.{resolved_query}
use Rattle.cy_graph.specs.Graph.{Content}
use Rattle.cy_expr.specs.declared.faults.EvalFault.{EvalFault}
use Rattle.cy_oneshot_meaning.specs.Queries.{query_rows}
use Rattle.cy_oneshot_meaning.proofs.ExampleGraphs.{number}

-- what a query of these clauses gives
abbrev pub answer : Content → List Clause → Result (List (List Cell)) EvalFault
answer graph clauses = query_rows graph (resolved_query (record { clauses = clauses }))

-- expressions
abbrev pub named : Name → Variable
named name = record { name = name; column = None }

abbrev pub var : Name → Expression
var name = variable (named name)

abbrev pub int : ℕ → Expression
int n = integer (pos n)

abbrev pub property_of : Name → Name → Expression
property_of name key = property (var name) key

abbrev pub one : Expression → Expressions
one e = more e no_more

abbrev pub two : Expression → Expression → Expressions
two e f = more e (one f)

abbrev pub apply : Name → Expression → Expression
apply function e = call function false (one e)

abbrev pub apply_distinct : Name → Expression → Expression
apply_distinct function e = call function true (one e)

abbrev pub id_of : Name → Expression
id_of name = apply (codes "id") (var name)

abbrev pub size_of : Name → Expression
size_of name = apply (codes "size") (var name)

abbrev pub count_star : Expression
count_star = call_star (codes "count")

-- patterns
abbrev pub some_node : NodePattern
some_node = record { variable = None; labels = []; properties = None }

abbrev pub node_named : Name → NodePattern
node_named name = record { variable = Some (named name); labels = []; properties = None }

abbrev pub node_with_label : Name → Name → NodePattern
node_with_label name label = record { variable = Some (named name); labels = label ∷ []; properties = None }

abbrev pub node_with_entry : Name → List Name → Name → Expression → NodePattern
node_with_entry name labels key e = record { variable = Some (named name); labels = labels; properties = Some (record { key = key; value = e } ∷ []) }

abbrev pub link : Option Name → Direction → List Name → Option Length → RelationshipPattern
link None direction types l = record { variable = None; direction = direction; types = types; length = l; properties = None }
link (Some name) direction types l = record { variable = Some (named name); direction = direction; types = types; length = l; properties = None }

abbrev pub single : NodePattern → Path
single n = record { start = n; steps = [] }

abbrev pub path : NodePattern → RelationshipPattern → NodePattern → Path
path a r b = record { start = a; steps = record { relationship = r; node = b } ∷ [] }

abbrev pub lengths : ℕ → Option ℕ → Option Length
lengths least most = Some (record { least = least; most = most })

-- what stands after WHERE
abbrev pub no_where : Where
no_where = record { test = None; paths = [] }

abbrev pub only : Expression → Where
only e = record { test = Some e; paths = [] }

abbrev pub there : Path → PathTest
there p = record { denied = false; path = p }

abbrev pub not_there : Path → PathTest
not_there p = record { denied = true; path = p }

-- clauses
abbrev pub matching : List Path → Clause
matching paths = «match» false paths no_where

abbrev pub matching_where : List Path → Expression → Clause
matching_where paths e = «match» false paths (only e)

abbrev pub matching_when : List Path → Where → Clause
matching_when paths w = «match» false paths w

abbrev pub optional : List Path → Clause
optional paths = «match» true paths no_where

abbrev pub unwinding : Expressions → Name → Clause
unwinding es name = unwind (list es) (named name)

abbrev pub item : Expression → Name → Item
item e column = record { expression = e; column = column; named = true }

abbrev pub column : Name → Item
column name = record { expression = var name; column = name; named = false }

abbrev pub projection : List Item → Projection
projection items = record { distinct = false; items = items; order = []; skip = None; limit = None }

abbrev pub returning : List Item → Clause
returning items = «return» (projection items)

abbrev pub returning_distinct : List Item → Clause
returning_distinct items = «return» (record (projection items) { distinct = true })

abbrev pub descending : Expression → Key
descending e = record { expression = e; descending = true }

abbrev pub ascending : Expression → Key
ascending e = record { expression = e; descending = false }

-- cells
abbrev pub node_cell : ℕ → Cell
node_cell i = cell.Node (number i)

abbrev pub rel_cell : ℕ → Cell
rel_cell i = cell.Rel (record { 0 = i })

abbrev pub number_cell : ℕ → Cell
number_cell i = cell.Value (value.Int (pos i))

abbrev pub text_cell : Name → Cell
text_cell t = cell.Value (value.Text t)

abbrev pub null_cell : Cell
null_cell = cell.Value value.Null

-- names
abbrev pub a : Name
a = codes "a"

abbrev pub b : Name
b = codes "b"

abbrev pub c : Name
c = codes "c"

abbrev pub d : Name
d = codes "d"

abbrev pub e : Name
e = codes "e"

abbrev pub n : Name
n = codes "n"

abbrev pub r : Name
r = codes "r"

abbrev pub s : Name
s = codes "s"

abbrev pub x : Name
x = codes "x"

abbrev pub y : Name
y = codes "y"
