-- What changes of a projection, by the images of what changes below it.
use Rattle.std.proofs.Common.{◌≡◌, ℕ, ◌+◌, ◌<◌, List, map}
use Rattle.std.specs.Prelude.{Result, Ok, Err, OnOk, IfOk, IfErr}
use Rattle.cy_values.specs.declared.rows.Cell.{Cell}
use Rattle.cy_network_memory.specs.declared.faults.MemoryFault.{MemoryFault}
use Rattle.cy_network_memory.specs.declared.faults.MemoryFault.TheVariants.{TooManyRows}
use Rattle.cy_network_memory.specs.Counts.{Counts}
use Rattle.cy_planner_algebra.specs.Plans.{Output}
use Rattle.cy_planner_algebra.specs.Expressions.{projected}
use Rattle.cy_network_memory.specs.declared.memory.RowDelta.{RowDelta}
use Rattle.cy_network_operators.specs.Deltas.{IsDelta, counts}
use Rattle.cy_network_counts.specs.Merges.{IsImageChange}
use Rattle.cy_network_counts.specs.internal.Sums.{lost, gained}
use Rattle.cy_network_counts.proofs.ChangedRows.{AreSums, project_delta, project_staged, project_too_many}

module _ (was : Counts) (images : List RowDelta) where
  pub image_staged : {T : Type 0} (staged : Counts) (result : Result T MemoryFault) → OnOk result (AreSums was staged images)
      → OnOk result ((outputs : List Output) (before after : List (List Cell)) → IsImageChange outputs was images before after → staged ≡ counts (map (projected outputs) after))
  image_staged staged (Ok x) sums = λ outputs before after change. project_staged outputs was change.deltas images change.are staged (Ok x) sums before after change.change
  image_staged staged (Err fault) sums = tt

  pub image_delta : {T : Type 0} (staged : Counts) (result : Result T MemoryFault) (items : T → List RowDelta) → IfOk result (λ made. IsDelta was staged (items made)) → OnOk result (AreSums was staged images)
      → IfOk result (λ made. (outputs : List Output) (before after : List (List Cell)) → IsImageChange outputs was images before after → IsDelta (counts (map (projected outputs) before)) (counts (map (projected outputs) after)) (items made))
  image_delta staged (Ok made) items delta sums = λ outputs before after change.
      project_delta outputs was change.deltas images change.are staged (Ok made) items delta sums before after change.change
  image_delta staged (Err fault) items delta sums = tt

  pub image_too_many : (T : Type 0) (most : ℕ) (result : Result T MemoryFault) → IfErr result (λ fault. fault ≡ TooManyRows → (row : List Cell) × (most + lost row images < was row + gained row images))
      → IfErr result (λ fault. fault ≡ TooManyRows → (outputs : List Output) (before after : List (List Cell)) → IsImageChange outputs was images before after → (row : List Cell) × (most < counts (map (projected outputs) after) row))
  image_too_many T most (Ok x) many = tt
  image_too_many T most (Err fault) many = λ is outputs before after change.
      project_too_many outputs was change.deltas images change.are {T = T} most (Err fault) many is before after change.change
