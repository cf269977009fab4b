-- The numbers of the faults (own).
use Rattle.std.specs.Prelude.{ℕ, Bool, true, false, List, [], ◌∷◌, Option, Some, None}
use Rattle.cy_scope_kinds.specs.declared.faults.ScopeFault.{ScopeFault}
use Rattle.cy_scope_kinds.specs.declared.faults.ScopeFault.TheVariants as scope
use Rattle.cy_scope_kinds.specs.declared.faults.ViewFault.{ViewFault}
use Rattle.cy_scope_kinds.specs.declared.faults.ViewFault.TheVariants.{NotAReading, MayFail, Unbounded, AggregateInView, OrderInView, NoMemory}

abbrev pub view_code : ViewFault → ℕ
view_code NotAReading = 62
view_code MayFail = 63
view_code Unbounded = 64
view_code AggregateInView = 65
view_code OrderInView = 66
view_code NoMemory = 90

abbrev pub scope_code : ScopeFault → ℕ
scope_code scope.UnknownVariable = 30
scope_code scope.AlreadyBound = 31
scope_code scope.WrongKind = 32
scope_code scope.MissingAlias = 33
scope_code scope.DuplicateColumn = 34
scope_code scope.AggregateHere = 35
scope_code scope.UnknownFunction = 36
scope_code scope.WrongArguments = 37
scope_code scope.RepeatedRelationship = 38
scope_code scope.BadCreate = 39
scope_code scope.NoMemory = 90

-- a fault where a rule is broken
abbrev pub unless : Bool → ScopeFault → Option ScopeFault
unless true fault = None
unless false fault = Some fault

-- the fault of an earlier place, else that of a later one
abbrev pub first : Option ScopeFault → Option ScopeFault → Option ScopeFault
first None later = later
first (Some fault) later = Some fault

-- the first fault among the places of a list, each with its own
abbrev pub first_fault : {A : Type 0} → (A → Option ScopeFault) → List A → Option ScopeFault
first_fault fault [] = None
first_fault fault (x ∷ xs) = first (fault x) (first_fault fault xs)
