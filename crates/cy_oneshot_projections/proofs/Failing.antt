-- A fault of a part is the fault of the whole.
use Rattle.std.proofs.Common.{◌≡◌, ◌⊎◌, inl, inr, ap, ◌∙◌}
use Rattle.std.specs.Prelude.{Result, Err}
use Rattle.cy_expr.specs.declared.faults.EvalFault.{EvalFault}
use Rattle.cy_expr.specs.declared.faults.EvalFault.TheVariants.{NoMemory}
use Rattle.cy_expr.specs.Faults.{on_one}

pub fault_of_part : {A B : Type 0} (f : A → Result B EvalFault) (part : Result A EvalFault) (whole : Result B EvalFault) (fault : EvalFault)
    → whole ≡ on_one f part → (part ≡ Err fault) ⊎ (fault ≡ NoMemory) → (whole ≡ Err fault) ⊎ (fault ≡ NoMemory)
fault_of_part f part whole fault is (inl wrong) = inl (is ∙ ap (on_one f) wrong)
fault_of_part f part whole fault is (inr none) = inr none
