-- What the upkeep of a plan's rows costs, where a graph becomes another one: the sum over its operators, each by what it gets. A changed row is one that
-- counts otherwise after than before, a touched entity one that differs, and a pair is of rows that count before or after. Nothing else is counted:
-- neither the rows that stay nor the size of the graph. (own)
use Rattle.std.specs.Prelude.{ℕ, ◌+◌, List, length, sum_by}
use Rattle.cy_graph.specs.Graph.{Content}
use Rattle.cy_planner_algebra.specs.declared.operators.KeyColumns.{KeyColumns}
use Rattle.cy_planner_algebra.specs.Plans as plan
use Rattle.cy_planner_algebra.specs.Plans.{Plan}
use Rattle.cy_planner_algebra.specs.Parts.{parts}
use Rattle.cy_planner_algebra.specs.Meaning.{rows_of}
use Rattle.cy_network_operators.specs.OperatorCosts.{changed_rows, changed_pairs}
use Rattle.cy_network_sources.specs.Changes.{Touches}
use Rattle.cy_network_sources.specs.LookupCosts.{naming_rows}

-- the nodes and relationships that a change touched
abbrev pub touched_entities : Touches → ℕ
touched_entities touches = length touches.nodes + length touches.rels

module _ (before after : Content) where
  -- the changed rows of a plan
  abbrev pub changed : Plan → ℕ
  changed p = changed_rows (rows_of before p) (rows_of after p)

  -- the changed rows of both sides, and the pairs with the same key of which at least one side is changed
  abbrev pub joining : Plan → Plan → List KeyColumns → ℕ
  joining left right keys = changed left + changed right + changed_pairs keys (rows_of before left) (rows_of after left) (rows_of before right) (rows_of after right)

module _ (touches : Touches) (before after : Content) where
  -- one operator: touched entities where it reads the graph, changed rows of what it gets, the rows that it looks at since they name a touched
  -- entity, and the pairs that it joins
  abbrev pub part_cost : Plan → ℕ
  part_cost plan.unit = 0
  part_cost plan.nodes = touched_entities touches
  part_cost (plan.rels types orientation) = touched_entities touches
  part_cost (plan.join left right keys) = joining before after left right keys
  part_cost (plan.outer left right keys test) = joining before after left right keys
  part_cost (plan.semi left right keys keeping) = joining before after left right keys
  part_cost (plan.lookup p column attribute) = touched_entities touches + changed before after p + naming_rows touches column (rows_of before p) (rows_of after p)
  part_cost (plan.filter p test) = changed before after p
  part_cost (plan.all_different p columns) = changed before after p
  part_cost (plan.project p outputs) = changed before after p
  part_cost (plan.distinct p) = changed before after p
  part_cost (plan.union left right) = changed before after left + changed before after right

  -- all operators, and the changed rows that the whole plan gives
  abbrev pub cost : Plan → ℕ
  cost p = sum_by part_cost (parts p) + changed before after p
