-- Statements on tables that are one bag. (Francis et al., tables)
use Rattle.std.specs.Prelude.{◌≡◌, Result, Ok, Err}
use Rattle.cy_values.specs.Bag.{IsSameBag}
use Rattle.cy_updates_meaning.specs.declared.faults.UpdateFault.{UpdateFault}
use Rattle.cy_updates_meaning.specs.Statements.{Progress}

-- one graph, tables that are one bag, and the same counts
abbrev pub IsSameProgress : Progress → Progress → Type 0
IsSameProgress one other = (one.graph ≡ other.graph) × IsSameBag one.rows other.rows × (one.counts ≡ other.counts)

-- such progress, or one fault
abbrev pub IsSameResult : Result Progress UpdateFault → Result Progress UpdateFault → Type 0
IsSameResult (Ok one) (Ok other) = IsSameProgress one other
IsSameResult (Err fault) (Err other) = fault ≡ other
IsSameResult _ _ = ⊥
