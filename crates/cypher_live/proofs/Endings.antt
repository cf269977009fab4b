-- How a run ended, by the status of the program.
use Rattle.std.specs.Prelude.{◌≡◌, ◌⊎◌, Option, None, Some, IfSome}
use Rattle.std.proofs.Common.{inl, inr, refl}
use Rattle.cy_shell.specs.Faults.{status_of}
use Rattle.cy_shell.specs.declared.serving.RunFault.{RunFault}
use Rattle.cy_shell.specs.declared.serving.RunFault.TheVariants.{Read, Write, Memory}

module _ {X : Type 0} (P Q : X → Type 0) (W : Type 0) where
  -- of what is known one of two things holds
  first : (known : Option X) → IfSome known P → IfSome known (λ x. P x ⊎ (W × Q x))
  first None holds = holds
  first (Some x) holds = inl holds

  second : (known : Option X) → W → IfSome known Q → IfSome known (λ x. P x ⊎ (W × Q x))
  second None so holds = holds
  second (Some x) so holds = inr (so, holds)

  -- a run that didn't end out of memory ended at a source or at a sink
  pub at_stream : (known : Option X) (fault : RunFault) → (status_of fault ≡ 4 → ⊥) → (fault ≡ Read → IfSome known P) → (fault ≡ Write → W) → (fault ≡ Write → IfSome known Q)
      → IfSome known (λ x. P x ⊎ (W × Q x))
  at_stream known Read other read failed write = first known (read refl)
  at_stream known Write other read failed write = second known (failed refl) (write refl)
  at_stream known Memory other read failed write = absurd (other refl)
