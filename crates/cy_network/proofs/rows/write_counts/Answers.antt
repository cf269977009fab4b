use Rattle.std.proofs.Common.{◌≡◌, ◌+◌, ◌≤◌, ◌∷◌, [], ℕ, length, sym, ap, ◌∙◌, arith}
use Rattle.std.proofs.lemmas.List.{length-append}
use Rattle.indexmap.specs.IndexMap.{spare}
use Rattle.cy_network_memory.specs.Counts.{with_count}
use Rattle.cy_network_parts.specs.Counted.{counted}
use Rattle.cy_network.proofs.Written.{written_more}
use Rattle.cy_network.proofs.rows.write_counts.Goals as goal

fits : (old mid new n m : ℕ) → old ≤ mid + n → mid ≤ new + 1 → m ≡ n + 1 → old ≤ new + m
fits old mid new n m before now more = omega (arith, before, now, more)

pub loop-row-preserved : goal.loop-row-preserved
loop-row-preserved c = record {
  counts =
      (λ i other. c.write_count.ensures.counts other i)
      ∙ ap (with_count c.in-Some.row c.in-Some.count) c.loop-row.invariant.counts
      ∙ sym (written_more c.loop-row.yielded (c.in-Some.row, c.in-Some.count) (counted c.args.rows.now.entries));
  positive = c.write_count.ensures.positive;
  room = fits (spare c.args.rows.now) (spare c.loop-row.rows) (spare c.write_count.new.rows) (length c.loop-row.yielded) _ c.loop-row.invariant.room c.write_count.ensures.room (length-append c.loop-row.yielded ((c.in-Some.row, c.in-Some.count) ∷ []));
}
