use Rattle.std.proofs.Common.{◌≡◌, ◌+◌, ◌*◌, ◌≤◌, length, true}
use Rattle.cy_network_counts.specs.internal.Sums.{deltas_at}
use Rattle.cy_network_operators.specs.internal.Reading.{IsRead}
use Rattle.cy_network_counts.proofs.merges.deltas_of_rows.Given as goal

-- the row deltas of the rows so far
abbrev pub invariant-loop-row : goal.invariant-loop-row
invariant-loop-row g l =
    record {
      made : l.made.items ≡ deltas_at (g.M.Memory.was l.initial.memory) (g.M.Memory.staged l.initial.memory) l.yielded;
      read : IsRead g.M.Memory.key_columns g.M.Memory.was g.M.Memory.staged g.M.Memory.step_count l.initial.memory l.memory;
      steps : g.M.Memory.EXACT ≡ true → g.M.Memory.step_count l.memory ≤ g.M.Memory.step_count l.initial.memory + 2 * length l.yielded;
    }
