-- Being out of memory is no refusal for too many rows.
use Rattle.std.proofs.Common.{◌≡◌, ◌∙◌, arith, ap, sym}
use Rattle.std.specs.Prelude.{Result, Ok, Err, IfErr}
use Rattle.std.specs.Result.{IsErrAnd}
use Rattle.cy_network_memory.specs.Faults.{code_of}
use Rattle.cy_network_memory.specs.declared.faults.MemoryFault.{MemoryFault}
use Rattle.cy_network_memory.specs.declared.faults.MemoryFault.TheVariants.{NoMemory, TooManyRows}

pub other_fault : {Q : Type 0} (fault : MemoryFault) → fault ≡ NoMemory → fault ≡ TooManyRows → Q
other_fault fault none many = absurd (let m = ap code_of none in let n = ap code_of many in omega (arith, m, n))

pub if_memory : {T : Type 0} (Q : Type 0) (r : Result T MemoryFault) → IsErrAnd r (λ fault. fault ≡ NoMemory) → IfErr r (λ fault. fault ≡ TooManyRows → Q)
if_memory Q (Ok x) is = tt
if_memory Q (Err e) is = other_fault e is

-- a refusal that is passed on
pub if_err_same : {T : Type 0} (r : Result T MemoryFault) (fault : MemoryFault) (Q : Type 0) → IsErrAnd r (λ e. e ≡ fault) → (fault ≡ TooManyRows → Q) → IfErr r (λ e. e ≡ TooManyRows → Q)
if_err_same (Ok x) fault Q is each = tt
if_err_same (Err e) fault Q is each = λ many. each (sym is ∙ many)
