-- What an operator is fed, told by its form and by its memories one by one.
use Rattle.std.proofs.Common.{◌≡◌, List, Option, subst}
use Rattle.cy_graph.specs.Graph.{State}
use Rattle.cy_network_memory.specs.declared.memory.Memory.{Ghosts}
use Rattle.cy_network_memory.specs.declared.memory.RowDelta.{RowDelta}
use Rattle.cy_planner_algebra.specs.Plans.{Plan}
use Rattle.cy_network_operators.specs.declared.sides.SideDeltas.{SideDeltas}
use Rattle.cy_network_sources.specs.Changes.{Touches}
use Rattle.cy_network_changes.specs.internal.OperatorsKeptUp.{FedPairs, FedRows}

module _ {M C : Type 0} (memory : Ghosts M C) (p q : Plan) (own these : List M) (deltas : SideDeltas) (old : Option State) (now : State) (touches : Touches) where
  pub fed_as : p ≡ q → own ≡ these → FedPairs memory own p deltas old now touches → FedPairs memory these q deltas old now touches
  fed_as same is fed = subst (λ r. FedPairs memory these r deltas old now touches) same (subst (λ xs. FedPairs memory xs p deltas old now touches) is fed)

pub fed_rows_as : {M C : Type 0} (memory : Ghosts M C) (p q : Plan) (own these : List M) (deltas : List RowDelta) (old : Option State) (now : State) (touches : Touches) → p ≡ q → own ≡ these
    → FedRows memory own p deltas old now touches → FedRows memory these q deltas old now touches
fed_rows_as memory p q own these deltas old now touches same is fed =
    subst (λ r. FedRows memory these r deltas old now touches) same (subst (λ xs. FedRows memory xs p deltas old now touches) is fed)
