use Rattle.std.proofs.Common.{List, Option, Some, sym, ap, ◌∙◌}
use Rattle.cy_values.specs.declared.rows.Cell.{Cell}
use Rattle.cy_network_columns.specs.internal.Columns.{row_in}
use Rattle.cy_network_columns.proofs.Keeping.{row_past, row_there}
use Rattle.cy_network_columns.proofs.rows.Columns.row.Goals as goal

pub returns-then-number-self : goal.returns-then-number-self
returns-then-number-self c = rw (← c.self.view_is) (sym (row_past c.self.inside.columns.items c.self.inside.count c.self.invariant c.args.number c.if-number-self.true))

pub returns : goal.returns
returns c =
    rw (← c.self.view_is) (ap (λ (cs : List (List (Option Cell))). Some (row_in cs c.args.number)) c.deref.ensures.value
    ∙ sym (row_there c.self.inside.columns.items c.self.inside.count c.self.invariant c.args.number c.if-number-self.false))
