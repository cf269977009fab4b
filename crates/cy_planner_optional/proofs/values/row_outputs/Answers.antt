use Rattle.std.proofs.Common.{◌≡◌, ℕ, ◌+◌, arith}
use Rattle.std.proofs.lemmas.Grind.{common_steps}
use Rattle.std.proofs.lemmas.List.FromFn.{map-range_with_len_more}
use Rattle.cy_planner_rows.specs.Columns.{column_output}
use Rattle.cy_planner_optional.proofs.values.row_outputs.Goals as goal

pub loop-column-preserved : goal.loop-column-preserved
loop-column-preserved c =
    let n : ℕ = c.loop-column.column in
    let e = map-range_with_len_more column_output 0 n n (let z : 0 + n ≡ n = omega arith in z) in
    grind (arith, common_steps, e)
