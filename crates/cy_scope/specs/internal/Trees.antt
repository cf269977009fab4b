-- What parts of the code's clauses stand for.
use Rattle.cy_trees.specs.declared.clauses.Unwind as coded_unwind
use Rattle.cy_trees.specs.declared.clauses.Match as coded_match
use Rattle.cy_trees.specs.declared.clauses.With as coded_with
use Rattle.cy_trees.specs.Trees.{Clause, unwind, «match», «with»}
use Rattle.cy_trees.specs.TreeModels.{expression_of, paths_of, where_of, projection_of}

-- the clauses that some of the code's parts stand for
abbrev pub unwind_of : coded_unwind.Unwind → Clause
unwind_of u = unwind (expression_of u.list) u.variable

abbrev pub match_of : coded_match.Match → Clause
match_of m = «match» m.optional (paths_of m.paths) (where_of m.filter)

abbrev pub with_of : coded_with.With → Clause
with_of w = «with» (projection_of w.projection) (where_of w.filter)
