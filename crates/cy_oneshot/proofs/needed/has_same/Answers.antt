-- Cells that tie are the same.
use Rattle.std.proofs.Common.{rules, ◌≡◌, true, Some, sym, ap, ◌∙◌}
use Rattle.std.specs.Ordering.{eq_by_cmp}
use Rattle.cy_values.specs.Order.{cell_order}
use Rattle.cy_oneshot_meaning.proofs.BagLemmas.{same_cell}
use Rattle.cy_oneshot_patterns.proofs.SliceReads.{read_is}
use Rattle.cy_oneshot.proofs.needed.has_same.Goals as goal

pub returns-in-Some-Some : goal.returns-in-Some-Some
returns-in-Some-Some c = λ is.
    let first = c.args.first.now in
    let row = c.args.row.now in
    let cell = c.in-Some-Some.cell in
    let other = c.in-Some-Some.other in
    let tied : eq_by_cmp cell_order c.in-Some-Some.cell.now c.in-Some-Some.other.now ≡ true = search rules in
    sym (read_is row c.args.place (Some other) c.in-Some-Some.ensures'.lookup)
    ∙ ap Some (sym (same_cell cell.now other.now tied))
    ∙ read_is first c.args.place (Some cell) c.in-Some-Some.ensures.lookup
