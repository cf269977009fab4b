-- Rows with their keys, and groups, as the code has them.
use Rattle.std.specs.Prelude.{List}
use Rattle.std.specs.declared.alloc.Global.{Global}
use Rattle.std.specs.declared.vec.Vec.{Vec}
use Rattle.cy_values.specs.declared.rows.Cell.{Cell}
use Rattle.cy_oneshot_meaning.specs.Groups.{Grouped}
use Rattle.cy_oneshot_meaning.specs.Order.{Keyed}
use Rattle.cy_oneshot_projections.specs.internal.Grouping.{Gathering}
use Rattle.cy_oneshot_projections.specs.declared.order.Keyed as coded_keyed
use Rattle.cy_oneshot_projections.specs.declared.groups.Grouped as coded_grouped
use Rattle.cy_oneshot_projections.specs.declared.groups.Group as coded_group

abbrev pub keyed_of : coded_keyed.Keyed → Keyed
keyed_of k = record { row = k.row; keys = k.keys }

abbrev pub grouped_of : coded_grouped.Grouped → Grouped
grouped_of g = record { key = g.key; row = g.row }

abbrev pub group_of : coded_group.Group → Gathering
group_of g = record { key = g.key; rows = g.rows.items }

-- a key with the rows under it in a map
abbrev pub gathering_of : List Cell × Vec (List Cell) Global → Gathering
gathering_of e = record { key = e.0; rows = e.1.items }
