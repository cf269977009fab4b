-- A pattern written out: in the place of relationships that follow one another stand this many places of one relationship, with
-- unnamed nodes between them. (Francis et al., rigid patterns; openCypher 9, variable length patterns)
use Rattle.std.specs.Prelude.{ℕ, zero, suc, ◌+◌, ◌-◌, Bool, true, false, List, [], ◌∷◌, ◌++◌, length, map, filter, flat_map, zip, take, drop, unwrap_or, None, Some}
use Rattle.std.specs.List.{list_all, range_with_len}
use Rattle.std.specs.Ordering.{eq_by_cmp}
use Rattle.cy_values.specs.Order.{cell_order}
use Rattle.cy_values.specs.declared.rows.Cell.{Cell}
use Rattle.cy_values.specs.declared.rows.Cell.TheVariants as cell
use Rattle.cy_trees.specs.declared.clauses.Length.{Length}
use Rattle.cy_trees.specs.Trees.{NodePattern, RelationshipPattern, Step, Path}
use Rattle.cy_graph.specs.Graph.{Content}
use Rattle.cy_oneshot_patterns.specs.Fits.{agrees, extended, fits, relationships_of}
use Rattle.cy_oneshot_patterns.specs.Places.{Place, node, relationship, relationships, assignments, places}

-- a step of a pattern that has a length, and all that stands around it: the parts before its own part and after it, the start of
-- its part and the steps before it, the node that it leads to, and the steps after it
pub record LongStep : Type 0 where
  pub parts_before : List Path
  pub start : NodePattern
  pub steps_before : List Step
  pub relationship : RelationshipPattern
  pub range : Length
  pub end : NodePattern
  pub steps_after : List Step
  pub parts_after : List Path

-- ---- patterns

-- `-[r:T*m..n {..}]->`
abbrev pub ranged : RelationshipPattern → Length → RelationshipPattern
ranged r range = record r { length = Some range }

-- `-[:T {..}]->`
abbrev pub single : RelationshipPattern → RelationshipPattern
single r = record r { variable = None; length = None }

-- `()`
abbrev pub any_node : NodePattern
any_node = record { variable = None; labels = []; properties = None }

-- the pattern with some steps in place of the step, all in one part
abbrev pub one_part : LongStep → List Step → List Path
one_part s steps = s.parts_before ++ record { start = s.start; steps = s.steps_before ++ (steps ++ s.steps_after) } ∷ s.parts_after

-- the pattern with the step
abbrev pub pattern : LongStep → List Path
pattern s = one_part s (record { relationship = ranged s.relationship s.range; node = s.end } ∷ [])

-- this many steps of one relationship each, by way of any nodes, to a node
abbrev pub single_steps : RelationshipPattern → ℕ → NodePattern → List Step
single_steps r zero end = []
single_steps r (suc zero) end = record { relationship = single r; node = end } ∷ []
single_steps r (suc (suc count)) end = record { relationship = single r; node = any_node } ∷ single_steps r (suc count) end

-- the pattern with this many single steps in place of the step; with none its part ends before the step, and its end begins another
abbrev pub written_out : LongStep → ℕ → List Path
written_out s zero = s.parts_before ++ record { start = s.start; steps = s.steps_before } ∷ record { start = s.end; steps = s.steps_after } ∷ s.parts_after
written_out s (suc count) = one_part s (single_steps s.relationship (suc count) s.end)

-- the numbers of the range in order; where it has no end, those up to the number of all relationships, since in a longer list one
-- stands twice
abbrev pub counts_in : Content → Length → List ℕ
counts_in graph range = range_with_len range.least (unwrap_or range.most (length graph.rels) + 1 - range.least)

-- ---- assignments

-- how many places stand before the step: its left end is the last of them
abbrev pub places_before : LongStep → ℕ
places_before s = length (places (s.parts_before ++ record { start = s.start; steps = s.steps_before } ∷ []))

-- and between its ends in the pattern written out: the relationships, and one node fewer
abbrev pub places_between : ℕ → ℕ
places_between count = count + (count - 1)

-- an assignment of the pattern written out as one of the pattern itself: in place of the relationships, and of the nodes between
-- them, stands the list of the relationships in order
abbrev pub packed : LongStep → ℕ → List Cell → List Cell
packed s count cells =
    take (places_before s) cells
    ++ cell.Rels (flat_map relationships_of (take (places_between count) (drop (places_before s) cells)))
    ∷ drop (places_between count) (drop (places_before s) cells)

-- the first two cells are the same
abbrev pub starts_twice : List Cell → Bool
starts_twice (c ∷ d ∷ cells) = eq_by_cmp cell_order c d
starts_twice _ = false

-- with no relationship between them the ends of the step are one node
abbrev pub ends_meet : LongStep → ℕ → List Cell → Bool
ends_meet s zero cells = starts_twice (drop (places_before s - 1) cells)
ends_meet s (suc count) cells = true

-- ---- what fits

-- the place without its variable
abbrev pub nameless : Place → Place
nameless (node n) = node (record n { variable = None })
nameless (relationship r) = relationship (record r { variable = None })
nameless (relationships r range) = relationships (record r { variable = None }) range

-- A pattern's own table: the assignments that fit whatever the names. Ends are joined, labels and properties are there, and no
-- relationship stands twice.
abbrev pub own_table : Content → List Path → List Cell → List (List Cell)
own_table graph paths row = filter (λ cells. fits graph row (zip (map nameless (places paths)) cells)) (assignments graph (places paths))

-- the names of a pattern agree among each other and with the row
abbrev pub names_agree : List Path → List Cell → List Cell → Bool
names_agree paths row cells = list_all (agrees (extended row (zip (places paths) cells))) (zip (places paths) cells)

-- the rows that those assignments make whose names agree
abbrev pub rows_of : List Path → List Cell → List (List Cell) → List (List Cell)
rows_of paths row table = map (λ cells. extended row (zip (places paths) cells)) (filter (names_agree paths row) table)

-- the own table of the pattern written out with this many single steps, as assignments of the pattern itself
abbrev pub packed_table : Content → LongStep → List Cell → ℕ → List (List Cell)
packed_table graph s row count = map (packed s count) (filter (ends_meet s count) (own_table graph (written_out s count) row))

-- and all of these together, their counts added
abbrev pub packed_tables : Content → LongStep → List Cell → List (List Cell)
packed_tables graph s row = flat_map (packed_table graph s row) (counts_in graph s.range)

-- the rows of MATCH for the pattern written out with this many single steps; with none of them, those whose ends are one node
abbrev pub rows_written_out : Content → LongStep → List Cell → ℕ → List (List Cell)
rows_written_out graph s row count = rows_of (written_out s count) row (filter (ends_meet s count) (own_table graph (written_out s count) row))
