use Rattle.std.proofs.Common.{◌≡◌, ℕ, ◌+◌, ◌≤◌, ◌++◌, List, length, sym, ap, subst, ◌∙◌, arith}
use Rattle.std.specs.List.{All}
use Rattle.cy_values.specs.declared.rows.Cell.{Cell}
use Rattle.cy_values.specs.Bag.{count_of}
use Rattle.cy_network_memory.specs.Counts.{greatest_count}
use Rattle.cy_network_memory.specs.declared.memory.RowDelta.{RowDelta}
use Rattle.cy_network_operators.specs.Deltas.{IsBounded, deltas_of}
use Rattle.cy_network_sources.specs.internal.Through.{recounted}
use Rattle.cy_network_sources.proofs.Recounting.{bounded_next, counted_within, fewer, gone_next, left_fewer, others, taken_within}
use Rattle.cy_network_sources.proofs.recounts.add_gone.Goals as goal

-- those that are left, and how often this one stood there
still_fewer : (x : List Cell) (rows left : List (List Cell)) (most : ℕ) → left ≡ others x rows → length rows ≤ most → length left ≤ most
still_fewer x rows left most is within =
    let few = fewer x rows in
    let same : length left ≡ length (others x rows) = ap (λ (xs : List (List Cell)). length xs) is in
    omega (arith, few, same, within)

counted_few : (x : List Cell) (rows : List (List Cell)) (taken most : ℕ) → taken ≡ count_of x rows → length rows ≤ most → taken ≤ most
counted_few x rows taken most is within = let few = counted_within x rows in omega (arith, few, is, within)

pub loop-row-smaller : goal.loop-row-smaller
loop-row-smaller c = left_fewer c.in-Some.row c.loop-row.old.items c.pop.new.self.items c.take_same-before.new.rows.items c.in-Some.ensures.items c.take_same-before.ensures.left

pub loop-row-preserved : goal.loop-row-preserved
loop-row-preserved c =
    let x = c.in-Some.row in
    let popped = c.pop.new.self.items in
    let before = 1 + c.take_same-before.result in
    let less = left_fewer x c.loop-row.old.items popped c.take_same-before.new.rows.items c.in-Some.ensures.items c.take_same-before.ensures.left in
    let within = c.loop-row.invariant.old in
    let few = c.loop-row.invariant.new in
    let all_few = c.requires.new in
    let new_within : length c.loop-row.new.items ≤ greatest_count = omega (arith, few, all_few) in
    record {
      recounted = λ row.
          ap (λ (made : List RowDelta). deltas_of row made ++ recounted c.take_same-before.new.rows.items c.take_same-after.new.rows.items row) c.in_ok-add_row_delta.ensures
          ∙ gone_next row x c.loop-row.deltas.items _ popped c.loop-row.old.items c.loop-row.new.items c.take_same-before.new.rows.items c.take_same-after.new.rows.items before c.take_same-after.result
          c.in-Some.ensures.items (ap (λ n. 1 + n) c.take_same-before.ensures.taken) c.take_same-after.ensures.taken c.take_same-before.ensures.left c.take_same-after.ensures.left
          (c.loop-row.invariant.recounted row);
      bounded = λ all.
          subst (All IsBounded) (sym c.in_ok-add_row_delta.ensures)
          (bounded_next x c.loop-row.deltas.items before c.take_same-after.result
          (taken_within x c.loop-row.old.items popped c.take_same-before.new.rows.items c.in-Some.ensures.items c.take_same-before.result greatest_count c.take_same-before.ensures.taken within)
          (counted_few x c.loop-row.new.items c.take_same-after.result greatest_count c.take_same-after.ensures.taken new_within)
          (c.loop-row.invariant.bounded all));
      old = omega (arith, less, within);
      new = still_fewer x c.loop-row.new.items c.take_same-after.new.rows.items (length c.args.new.now.items) c.take_same-after.ensures.left few;
    }
