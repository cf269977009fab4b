use Rattle.std.proofs.Common.{◌-◌, List, Option, length, sym, ap, subst, ◌∙◌}
use Rattle.std.proofs.lemmas.List.{length-map}
use Rattle.cy_values.specs.declared.rows.Cell.{Cell}
use Rattle.cy_network_columns.specs.Hashes.{IsFilled}
use Rattle.cy_network_columns.specs.internal.Columns.{AreKept, removed, rows_below}
use Rattle.cy_network_columns.proofs.Keeping.{gone_kept, gone_rows}
use Rattle.cy_network_columns.proofs.Elements.{back}
use Rattle.cy_network_columns.proofs.rows.Columns.swap_remove.Goals as goal

pub invariant_of-self : goal.invariant_of-self
invariant_of-self c =
    let columns = c.self.inside.columns.items in
    let count = c.self.inside.count in
    let new = c.remove.new.columns in
    let cs = back c.self.inside.columns.len new columns (ap length c.remove.ensures ∙ length-map c.deref_mut.result.now (removed c.args.number count) ∙ c.deref_mut.ensures.len)
    (ap length (sym c.deref_mut.ensures.value) ∙ c.deref_mut.ensures.len) in
    subst (λ (x : List (List (Option Cell))). AreKept x (count - 1)) (sym cs)
    (gone_kept columns count c.self.invariant c.args.number c.deref_mut.result.now new (rw (← c.self.view_is) at c.requires) c.deref_mut.ensures.value c.remove.ensures)

pub returns : goal.returns
returns c =
    let columns = c.self.inside.columns.items in
    let count = c.self.inside.count in
    let new = c.remove.new.columns in
    let cs = back c.self.inside.columns.len new columns (ap length c.remove.ensures ∙ length-map c.deref_mut.result.now (removed c.args.number count) ∙ c.deref_mut.ensures.len)
    (ap length (sym c.deref_mut.ensures.value) ∙ c.deref_mut.ensures.len) in
    rw (← c.self.view_is) (subst (λ (x : List (List (Option Cell))). IsFilled c.args.number (rows_below columns count) (rows_below x (count - 1))) (sym cs)
    (gone_rows columns count c.self.invariant c.args.number c.deref_mut.result.now new (rw (← c.self.view_is) at c.requires) c.deref_mut.ensures.value c.remove.ensures))
