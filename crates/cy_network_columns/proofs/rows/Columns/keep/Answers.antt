use Rattle.std.proofs.Common.{arith}
use Rattle.cy_network_columns.proofs.Keeping.{more_kept, rows_long, some_is}
use Rattle.cy_network_columns.specs.internal.Columns.{next_in}
use Rattle.cy_network_columns.proofs.rows.Columns.keep.Goals as goal

pub overflow_add-self : goal.overflow_add-self
overflow_add-self c =
    let few = rw (← c.self.view_is) at c.requires.few in
    omega (arith, few, rows_long c.self.inside.columns.items c.self.inside.count)

pub invariant_of-self : goal.invariant_of-self
invariant_of-self c =
    let next = rw (← c.self.view_is) at c.requires.next in
    let p = some_is (next_in c.self.inside.columns.items c.self.inside.count) next in
    more_kept c.self.inside.columns.items c.self.inside.count c.self.invariant p.0 p.1
