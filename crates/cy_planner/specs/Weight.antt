-- The weight of a query: how much of it there is to plan. One for each clause, place of a node, place of a relationship, label, type,
-- entry of a map, item, WHERE, path of a WHERE and UNION; a place with a length m..n weighs 1 and the sum of the numbers m to n. (own)
use Rattle.std.specs.Prelude.{ℕ, zero, suc, ◌+◌, ◌-◌, List, [], length, sum_by, Option, None, Some}
use Rattle.std.specs.Option.{option_map_or}
use Rattle.cy_trees.specs.declared.clauses.Length.{Length}
use Rattle.cy_trees.specs.Trees.{Expression, MapEntry, NodePattern, RelationshipPattern, Step, Path, PathTest, Where, Clause, «match», unwind, «with», «return», create, set, remove, delete, Query, Statement}

-- the greatest weight of a query that is planned
abbrev pub greatest_weight : ℕ
greatest_weight = 512

-- the sum of this many numbers, from the first on
abbrev pub sum_from : ℕ → ℕ → ℕ
sum_from first zero = 0
sum_from first (suc count) = first + sum_from (first + 1) count

-- the sum of the numbers from the least to the most
abbrev pub sum_between : ℕ → ℕ → ℕ
sum_between least most = sum_from least ((most + 1) - least)

-- a length without an upper bound stands in no query of a view, and counts as no number (own)
abbrev pub length_weight : Option Length → ℕ
length_weight None = 1
length_weight (Some l) = 1 + option_map_or (λ most. sum_between l.least most) l.most 0

abbrev pub map_weight : Option (List MapEntry) → ℕ
map_weight None = 0
map_weight (Some entries) = length entries

abbrev pub node_weight : NodePattern → ℕ
node_weight n = 1 + length n.labels + map_weight n.properties

abbrev pub relationship_weight : RelationshipPattern → ℕ
relationship_weight r = length_weight r.length + length r.types + map_weight r.properties

abbrev pub step_weight : Step → ℕ
step_weight s = relationship_weight s.relationship + node_weight s.node

abbrev pub path_weight : Path → ℕ
path_weight p = node_weight p.start + sum_by step_weight p.steps

-- whether there is a WHERE, as a number
abbrev pub wheres : Option Expression → List PathTest → ℕ
wheres None [] = 0
wheres test tests = 1

-- a path of a WHERE weighs as in MATCH, and 1
abbrev pub path_test_weight : PathTest → ℕ
path_test_weight t = 1 + path_weight t.path

abbrev pub where_weight : Where → ℕ
where_weight w = wheres w.test w.paths + sum_by path_test_weight w.paths

-- a clause that stands in no query of a view counts as a clause alone (own)
abbrev pub clause_weight : Clause → ℕ
clause_weight («match» optional paths filter) = 1 + sum_by path_weight paths + where_weight filter
clause_weight («with» p filter) = 1 + length p.items + where_weight filter
clause_weight («return» p) = 1 + length p.items
clause_weight (unwind e v) = 1
clause_weight (create paths) = 1
clause_weight (set items) = 1
clause_weight (remove items) = 1
clause_weight (delete detach variables) = 1

abbrev pub query_weight : Query → ℕ
query_weight q = sum_by clause_weight q.clauses

-- and 1 for each UNION
abbrev pub weight : Statement → ℕ
weight s = sum_by query_weight s.queries + (length s.queries - 1)
