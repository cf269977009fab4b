use Rattle.std.proofs.Common.{sym, ap, ◌∙◌}
use Rattle.std.proofs.lemmas.List.{get_or_default}
use Rattle.std.proofs.lemmas.Result.{IfOk-weaker}
use Rattle.cy_planner_algebra.specs.Expressions.{cell_at, null}
use Rattle.cy_network_sources.proofs.AttributeLemmas.{same_cell}
use Rattle.cy_network_sources.proofs.attributes.attributes_at.Goals as goal

pub returns-then-column-cells-clause-values : goal.returns-then-column-cells-clause-values
returns-then-column-cells-clause-values c =
    IfOk-weaker c.cell_attributes.result _ _
    (same_cell c.args.sight.now.graph.now c.args.change.now c.args.attribute.now (cell_at c.args.row.now c.args.column) c.index-cells-column.result
    (ap (λ row. cell_at row c.args.column) (sym c.as_slice-cells.ensures)
    ∙ get_or_default c.as_slice-cells.result.now c.args.column null c.index-cells-column.result c.if-column-cells.true ∙ sym c.index-cells-column.is))
    c.cell_attributes.ensures.values
