-- How often a row of a plan's operators may count. (own)
use Rattle.std.specs.Prelude.{◌<◌, List}
use Rattle.std.specs.List.{Any}
use Rattle.cy_values.specs.declared.rows.Cell.{Cell}
use Rattle.cy_values.specs.Bag.{count_of}
use Rattle.cy_graph.specs.Graph.{Content}
use Rattle.cy_network_memory.specs.Counts.{greatest_count}
use Rattle.cy_planner_algebra.specs.Meaning.{rows_of}
use Rattle.cy_planner_algebra.specs.Parts.{parts}
use Rattle.cy_planner_algebra.specs.Plans.{Plan}

-- some operator of the plan has a row that counts more than 2^62 - 1
abbrev pub HasTooManyRows : Content → Plan → Type 0
HasTooManyRows graph p = Any (λ part. (row : List Cell) × (greatest_count < count_of row (rows_of graph part))) (parts p)
