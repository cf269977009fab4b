-- What changes of a projection and of a union, by the sums of what changes below them.
use Rattle.std.proofs.Common.{◌≡◌, ℕ, ◌+◌, ◌<◌, ◌≤◌, List, [], ◌∷◌, ◌++◌, map, sym, ap, subst, arith}
use Rattle.std.specs.Prelude.{Result, Ok, Err, OnOk, IfOk, IfErr}
use Rattle.std.specs.List.{All}
use Rattle.std.proofs.lemmas.List.Elements.{All-nil, All-cons, All-head, All-tail}
use Rattle.cy_values.specs.declared.rows.Cell.{Cell}
use Rattle.cy_values.specs.Bag.{count_of}
use Rattle.cy_network_memory.specs.declared.faults.MemoryFault.{MemoryFault}
use Rattle.cy_network_memory.specs.declared.faults.MemoryFault.TheVariants.{TooManyRows}
use Rattle.cy_network_memory.specs.Counts.{Counts}
use Rattle.cy_planner_algebra.specs.Plans.{Output}
use Rattle.cy_planner_algebra.specs.Expressions.{projected}
use Rattle.cy_network_memory.specs.declared.memory.RowDelta.{RowDelta}
use Rattle.cy_network_operators.specs.Deltas.{IsBounded, IsDelta, counts}
use Rattle.cy_network_operators.proofs.DeltaLemmas.{delta_alike}
use Rattle.cy_network_counts.specs.Merges.{IsProjectChange, IsUnionChange, Sides, image}
use Rattle.cy_network_counts.specs.internal.Sums.{lost, gained}
use Rattle.cy_network_counts.proofs.Totals.{taken_of_images, sum_of_images, taken_of_both, sum_of_both}

-- the counts after some changes are staged
abbrev pub AreSums : Counts → Counts → List RowDelta → Type 0
AreSums was staged changes = (row : List Cell) → staged row + lost row changes ≡ was row + gained row changes

staged_is : (staged was lost gained before after : ℕ) → staged + lost ≡ was + gained → was ≡ before → after + lost ≡ before + gained → staged ≡ after
staged_is staged was lost gained before after sums held even = omega arith

greater : (most was lost gained before after : ℕ) → most + lost < was + gained → was ≡ before → after + lost ≡ before + gained → most < after
greater most was lost gained before after many held even = omega arith

pub images_bounded : (f : List Cell → List Cell) (deltas : List RowDelta) → All IsBounded deltas → All IsBounded (map (image f) deltas)
images_bounded f [] each = All-nil IsBounded
images_bounded f (s ∷ deltas) each = All-cons IsBounded (image f s) (map (image f) deltas) (All-head IsBounded s deltas each) (images_bounded f deltas (All-tail IsBounded s deltas each))

module _ (outputs : List Output) (was : Counts) (deltas images : List RowDelta) (are : images ≡ map (image (projected outputs)) deltas) where
  module _ (before after : List (List Cell)) (change : IsProjectChange outputs was deltas before after) where
    held_of : (row : List Cell) → was row ≡ count_of row (map (projected outputs) before)
    held_of row = ap (λ (w : Counts). w row) change.held

    even_of : (row : List Cell) → count_of row (map (projected outputs) after) + lost row images ≡ count_of row (map (projected outputs) before) + gained row images
    even_of row =
        subst (λ (xs : List RowDelta). count_of row (map (projected outputs) after) + lost row xs ≡ count_of row (map (projected outputs) before) + gained row xs) (sym are)
        (sum_of_images (projected outputs) before after deltas change.delta row)

    -- what the row deltas take from a row is there
    pub project_held : (row : List Cell) → lost row images ≤ was row
    project_held row =
        subst (λ (xs : List RowDelta). lost row xs ≤ was row) (sym are)
        (subst (λ (w : Counts). lost row (map (image (projected outputs)) deltas) ≤ w row) (sym change.held) (taken_of_images (projected outputs) before after deltas change.delta row))

    projection_is : (staged : Counts) → AreSums was staged images → (row : List Cell) → staged row ≡ count_of row (map (projected outputs) after)
    projection_is staged sums row =
        staged_is (staged row) (was row) (lost row images) (gained row images) (count_of row (map (projected outputs) before)) (count_of row (map (projected outputs) after)) (sums row) (held_of row) (even_of row)

  pub project_staged : {T : Type 0} (staged : Counts) (result : Result T MemoryFault) → OnOk result (AreSums was staged images)
      → OnOk result ((before after : List (List Cell)) → IsProjectChange outputs was deltas before after → staged ≡ counts (map (projected outputs) after))
  project_staged staged (Ok x) sums = λ before after change k row. projection_is before after change staged sums row k
  project_staged staged (Err fault) sums = tt

  pub project_delta : {T : Type 0} (staged : Counts) (result : Result T MemoryFault) (items : T → List RowDelta) → IfOk result (λ made. IsDelta was staged (items made)) → OnOk result (AreSums was staged images)
      → IfOk result (λ made. (before after : List (List Cell)) → IsProjectChange outputs was deltas before after → IsDelta (counts (map (projected outputs) before)) (counts (map (projected outputs) after)) (items made))
  project_delta staged (Ok made) items delta sums = λ before after change.
      delta_alike was staged (counts (map (projected outputs) before)) (counts (map (projected outputs) after)) (items made) (held_of before after change) (projection_is before after change staged sums) delta
  project_delta staged (Err fault) items delta sums = tt

  pub project_too_many : {T : Type 0} (most : ℕ) (result : Result T MemoryFault) → IfErr result (λ fault. fault ≡ TooManyRows → (row : List Cell) × (most + lost row images < was row + gained row images))
      → IfErr result (λ fault. fault ≡ TooManyRows → (before after : List (List Cell)) → IsProjectChange outputs was deltas before after → (row : List Cell) × (most < counts (map (projected outputs) after) row))
  project_too_many most (Ok x) many = tt
  project_too_many most (Err fault) many = λ is before after change.
      let found = many is in
      let row : List Cell = found.0 in (
        row,
        greater most (was row) (lost row images) (gained row images) (count_of row (map (projected outputs) before)) (count_of row (map (projected outputs) after)) found.1 (held_of before after change row) (even_of before after change row),
      )

module _ (columns : List ℕ) (was : Counts) (left right changes : List RowDelta) (are : changes ≡ left ++ right) where
  module _ (before after : Sides) (change : IsUnionChange columns was left right before after) where
    held_of_both : (row : List Cell) → was row ≡ count_of row (before.left ++ before.right)
    held_of_both row = ap (λ (w : Counts). w row) change.held

    even_of_both : (row : List Cell) → count_of row (after.left ++ after.right) + lost row changes ≡ count_of row (before.left ++ before.right) + gained row changes
    even_of_both row =
        subst (λ (xs : List RowDelta). count_of row (after.left ++ after.right) + lost row xs ≡ count_of row (before.left ++ before.right) + gained row xs) (sym are)
        (sum_of_both before.left after.left before.right after.right left right change.delta_left change.delta_right row)

    pub union_held : (row : List Cell) → lost row changes ≤ was row
    union_held row =
        subst (λ (xs : List RowDelta). lost row xs ≤ was row) (sym are)
        (subst (λ (w : Counts). lost row (left ++ right) ≤ w row) (sym change.held)
        (taken_of_both before.left after.left before.right after.right left right change.delta_left change.delta_right row))

    union_is : (staged : Counts) → AreSums was staged changes → (row : List Cell) → staged row ≡ count_of row (after.left ++ after.right)
    union_is staged sums row =
        staged_is (staged row) (was row) (lost row changes) (gained row changes) (count_of row (before.left ++ before.right)) (count_of row (after.left ++ after.right)) (sums row) (held_of_both row) (even_of_both row)

  pub union_staged : {T : Type 0} (staged : Counts) (result : Result T MemoryFault) → OnOk result (AreSums was staged changes)
      → OnOk result ((before after : Sides) → IsUnionChange columns was left right before after → staged ≡ counts (after.left ++ after.right))
  union_staged staged (Ok x) sums = λ before after change k row. union_is before after change staged sums row k
  union_staged staged (Err fault) sums = tt

  pub union_delta : {T : Type 0} (staged : Counts) (result : Result T MemoryFault) (items : T → List RowDelta) → IfOk result (λ made. IsDelta was staged (items made)) → OnOk result (AreSums was staged changes)
      → IfOk result (λ made. (before after : Sides) → IsUnionChange columns was left right before after → IsDelta (counts (before.left ++ before.right)) (counts (after.left ++ after.right)) (items made))
  union_delta staged (Ok made) items delta sums = λ before after change.
      delta_alike was staged (counts (before.left ++ before.right)) (counts (after.left ++ after.right)) (items made) (held_of_both before after change) (union_is before after change staged sums) delta
  union_delta staged (Err fault) items delta sums = tt

  pub union_too_many : {T : Type 0} (most : ℕ) (result : Result T MemoryFault) → IfErr result (λ fault. fault ≡ TooManyRows → (row : List Cell) × (most + lost row changes < was row + gained row changes))
      → IfErr result (λ fault. fault ≡ TooManyRows → (before after : Sides) → IsUnionChange columns was left right before after → (row : List Cell) × (most < counts (after.left ++ after.right) row))
  union_too_many most (Ok x) many = tt
  union_too_many most (Err fault) many = λ is before after change.
      let found = many is in
      let row : List Cell = found.0 in (
        row,
        greater most (was row) (lost row changes) (gained row changes) (count_of row (before.left ++ before.right)) (count_of row (after.left ++ after.right)) found.1 (held_of_both before after change row) (even_of_both before after change row),
      )
