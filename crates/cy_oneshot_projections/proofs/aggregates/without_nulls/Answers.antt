use Rattle.std.proofs.Common.{not, rules}
use Rattle.std.proofs.lemmas.Fn.{filter_same}
use Rattle.cy_values.specs.declared.rows.Cell.{Cell}
use Rattle.cy_expr.specs.Comparison.{is_null_cell}
use Rattle.cy_oneshot_projections.proofs.aggregates.without_nulls.Goals as goal

pub returns : goal.returns
returns c = filter_same _ (λ (x : Cell). not (is_null_cell x)) _ (λ x b f' k. search rules) _ _ c.retain.ensures.filtered
