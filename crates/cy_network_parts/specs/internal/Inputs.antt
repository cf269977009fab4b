-- What the memories of the two inputs of an operator count. (own)
use Rattle.std.specs.Prelude.{List, ◌++◌}
use Rattle.cy_values.specs.declared.rows.Cell.{Cell}
use Rattle.cy_network_memory.specs.Counts.{Counts}
use Rattle.cy_planner_algebra.specs.Plans.{Plan}
use Rattle.cy_network_parts.specs.Memories.{contents, emptied_where}
use Rattle.cy_network_parts.specs.Parts.{first_below, second_below}
use Rattle.cy_network_parts.specs.Shared.{left_held, right_held}

-- those of the left one, and then those of the right one, each of them nothing where another join holds the rows of that input
abbrev pub below_contents : (Plan → List (List Cell)) → Plan → List Counts
below_contents rows p = emptied_where (left_held p) (contents rows (first_below p)) ++ emptied_where (right_held p) (contents rows (second_below p))
