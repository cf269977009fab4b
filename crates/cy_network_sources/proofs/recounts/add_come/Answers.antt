use Rattle.std.proofs.Common.{◌+◌, ◌++◌, List, sym, ap, subst, ◌∙◌, arith}
use Rattle.std.specs.List.{All}
use Rattle.cy_values.specs.Bag.{count_of}
use Rattle.cy_network_memory.specs.Counts.{greatest_count}
use Rattle.cy_network_memory.specs.declared.memory.RowDelta.{RowDelta}
use Rattle.cy_network_operators.specs.Deltas.{IsBounded, row_delta_between, deltas_of}
use Rattle.cy_network_sources.proofs.Recounting.{bounded_next, come_next, left_fewer, taken_within}
use Rattle.cy_network_sources.proofs.recounts.add_come.Goals as goal

pub loop-row-smaller : goal.loop-row-smaller
loop-row-smaller c = left_fewer c.in-Some.row c.loop-row.new.items c.pop.new.self.items c.take_same-after.new.rows.items c.in-Some.ensures.items c.take_same-after.ensures.left

pub loop-row-preserved : goal.loop-row-preserved
loop-row-preserved c =
    let x = c.in-Some.row in
    let popped = c.pop.new.self.items in
    let after = 1 + c.take_same-after.result in
    let less = left_fewer x c.loop-row.new.items popped c.take_same-after.new.rows.items c.in-Some.ensures.items c.take_same-after.ensures.left in
    let within = c.loop-row.invariant.new in
    record {
      recounted = λ row.
          ap (λ (made : List RowDelta). deltas_of row made ++ row_delta_between row 0 (count_of row c.take_same-after.new.rows.items)) c.in_ok-add_row_delta.ensures
          ∙ come_next row x c.loop-row.deltas.items _ popped c.loop-row.new.items c.take_same-after.new.rows.items after c.in-Some.ensures.items
          (ap (λ n. 1 + n) c.take_same-after.ensures.taken) c.take_same-after.ensures.left (c.loop-row.invariant.recounted row);
      bounded = λ all.
          subst (All IsBounded) (sym c.in_ok-add_row_delta.ensures)
          (bounded_next x c.loop-row.deltas.items 0 after (omega arith)
          (taken_within x c.loop-row.new.items popped c.take_same-after.new.rows.items c.in-Some.ensures.items c.take_same-after.result greatest_count c.take_same-after.ensures.taken within)
          (c.loop-row.invariant.bounded all));
      new = omega (arith, less, within);
    }
