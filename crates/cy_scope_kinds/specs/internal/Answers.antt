-- What a check answers.
use Rattle.std.specs.Prelude.{◌≡◌, ◌⊎◌, Option, Some, None, Result, MatchResult}
use Rattle.cy_scope_kinds.specs.declared.faults.ScopeFault.{ScopeFault}
use Rattle.cy_scope_kinds.specs.declared.faults.ScopeFault.TheVariants.{NoMemory}
use Rattle.cy_scope_kinds.specs.Scopes.{Scope}

-- the fault that there is
abbrev pub Fault : Option ScopeFault → Result (Unit {0}) ScopeFault → Type 0
Fault fault result = MatchResult result (λ _. fault ≡ None) (λ f. fault ≡ Some f)

-- the fault, or out of memory; without one, the scope is as it has to be
abbrev pub GoesOn : Option ScopeFault → Scope → Scope → Result (Unit {0}) ScopeFault → Type 0
GoesOn fault after scope result = MatchResult result (λ _. (fault ≡ None) × (scope ≡ after)) (λ f. (f ≡ NoMemory) ⊎ (fault ≡ Some f))

-- the fault that there is, or out of memory
abbrev pub MayFault : Option ScopeFault → Result (Unit {0}) ScopeFault → Type 0
MayFault fault result = MatchResult result (λ _. fault ≡ None) (λ f. (f ≡ NoMemory) ⊎ (fault ≡ Some f))
