-- What is left of a memory that is only read (own).
use Rattle.std.specs.Prelude.{◌≡◌, ℕ, ◌≤◌, List}
use Rattle.cy_network_memory.specs.Counts.{Counts}

-- the memory holds the same rows, as they were and as they are staged, under the same keys, and its count of steps didn't fall
pub record IsRead {Memory : Type 0} (key_columns : Memory → List ℕ) (was_in staged_in : Memory → Counts) (step_count : Memory → ℕ) (old new : Memory) : Type 0 where
  pub was : was_in new ≡ was_in old
  pub staged : staged_in new ≡ staged_in old
  pub columns : key_columns new ≡ key_columns old
  pub grows : step_count old ≤ step_count new
