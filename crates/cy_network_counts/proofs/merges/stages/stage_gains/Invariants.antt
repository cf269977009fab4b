use Rattle.std.proofs.Common.{◌≡◌, ◌+◌, ◌≤◌, List, take, true}
use Rattle.cy_values.specs.declared.rows.Cell.{Cell}
use Rattle.cy_network_counts.specs.Merges.{AreBounded}
use Rattle.cy_network_counts.specs.internal.Sums.{gained}
use Rattle.cy_network_counts.proofs.merges.stages.stage_gains.Given as goal

-- what the row deltas so far add is staged
abbrev pub invariant-loop-change : goal.invariant-loop-change
invariant-loop-change g l =
    record {
      staged : (row : List Cell) → g.M.Memory.staged l.memory row ≡ g.M.Memory.staged l.initial.memory row + gained row (take l.change-index l.changes);
      counts : AreBounded (g.M.Memory.staged l.memory);
      was : g.M.Memory.was l.memory ≡ g.M.Memory.was l.initial.memory;
      columns : g.M.Memory.key_columns l.memory ≡ g.M.Memory.key_columns l.initial.memory;
      steps : g.M.Memory.EXACT ≡ true → g.M.Memory.step_count l.memory ≤ g.M.Memory.step_count l.initial.memory;
      grows : g.M.Memory.step_count l.initial.memory ≤ g.M.Memory.step_count l.memory;
    }
