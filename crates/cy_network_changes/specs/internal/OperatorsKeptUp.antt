-- An operator of a plan over a change: what is asked, and what is promised of its memories and of what changes of its rows. (own)
use Rattle.std.specs.Prelude.{◌≡◌, ◌+◌, ◌≤◌, true, List, Option, Some, IfErr, IfOk, Result, map, sum_by}
use Rattle.std.specs.declared.alloc.Global.{Global}
use Rattle.std.specs.declared.vec.Vec.{Vec}
use Rattle.cy_graph.specs.Graph.{State}
use Rattle.cy_index.specs.Index.{SightState}
use Rattle.cy_network_memory.specs.declared.faults.MemoryFault.{MemoryFault}
use Rattle.cy_network_memory.specs.declared.faults.MemoryFault.TheVariants.{TooManyRows}
use Rattle.cy_network_memory.specs.Counts.{Counts}
use Rattle.cy_network_memory.specs.declared.memory.Memory.{Ghosts}
use Rattle.cy_network_memory.specs.declared.memory.RowDelta.{RowDelta}
use Rattle.cy_planner_algebra.specs.Plans.{Plan}
use Rattle.cy_network_operators.specs.declared.sides.SideDeltas.{SideDeltas}
use Rattle.cy_network_operators.specs.Deltas.{rows_at}
use Rattle.cy_network_operators.specs.internal.Reading.{IsRead}
use Rattle.cy_network_sources.specs.Changes.{Touches}
use Rattle.cy_network_sources.specs.Work.{own_reads, own_steps}
use Rattle.cy_network_parts.specs.Taken.{NoneFalls}
use Rattle.cy_network_parts.specs.internal.Upkeep.{HasTooMany, IsFed, IsFedByTwo, IsOwnDone, content_of}
use Rattle.cy_network_changes.specs.declared.operators.pairs.HeldDeltas.{HeldDeltas}
use Rattle.cy_network_changes.specs.internal.Passages.{IsFedHeld, IsFedImages, IsOwnDoneThrough}

-- a change from one graph, or from nothing, to another, on which this holds
abbrev pub OnSome : (Option State → State → Touches → Type 0) → Type 0
OnSome Fed = (old : Option State) × ((now : State) × ((touches : Touches) × Fed old now touches))

-- What follows takes what memories say of themselves as one value.

-- what an operator with two operators below it is fed, by its own memories
abbrev pub FedPairs : {M C : Type 0} → Ghosts M C → List M → Plan → SideDeltas → Option State → State → Touches → Type 0
FedPairs memory own p deltas old now touches = IsFedByTwo old now touches p (map memory.key_columns own) (map memory.was own) (map memory.staged own) deltas.left.items deltas.right.items

-- what an operator with one operator below it is fed
abbrev pub FedRows : {M C : Type 0} → Ghosts M C → List M → Plan → List RowDelta → Option State → State → Touches → Type 0
FedRows memory own p deltas old now touches = IsFed old now touches p (map memory.key_columns own) (map memory.was own) (map memory.staged own) deltas

-- what a join is fed of whose inputs another memory holds the rows of one
abbrev pub FedHeld : {M C : Type 0} → Ghosts M C → M → List M → Plan → HeldDeltas → Option State → State → Touches → Type 0
FedHeld memory held own p deltas old now touches =
    IsFedHeld deltas.side old now touches p (memory.key_columns held) (memory.was held) (memory.staged held) (map memory.key_columns own) (map memory.was own) (map memory.staged own) deltas.deltas.left.items deltas.deltas.right.items

-- what a projection is fed
abbrev pub FedImages : {M C : Type 0} → Ghosts M C → List M → Plan → List RowDelta → Option State → State → Touches → Type 0
FedImages memory own p images old now touches = IsFedImages old now touches p (map memory.key_columns own) (map memory.was own) (map memory.staged own) images

-- An operator is kept up on each change on which it is fed so: what changes of its rows is right, and its memories are staged for the second graph. Where it
-- can't be, for too many rows, one of its rows counts too often. Its memories stand as they were, and their exact steps are no more than the operator may cost.
pub record IsKeptUp {M C : Type 0} (memory : Ghosts M C) (p : Plan) (Fed : Option State → State → Touches → Type 0) (Done : Option State → State → List Counts → List RowDelta → Type 0)
    (own own_now : List M) (result : Result (Vec RowDelta Global) MemoryFault) : Type 0 where
  pub done : IfOk result (λ made. (old : Option State) (now : State) (touches : Touches) → Fed old now touches → Done old now (map memory.staged own_now) made.items)
  pub too_many : IfErr result (λ fault. fault ≡ TooManyRows → (old : Option State) (now : State) (touches : Touches) → Fed old now touches → HasTooMany now p)
  pub was : map memory.was own_now ≡ map memory.was own
  pub columns : map memory.key_columns own_now ≡ map memory.key_columns own
  pub grows : NoneFalls (map memory.step_count own) (map memory.step_count own_now)
  pub steps : IfOk result (λ _. memory.EXACT ≡ true → (old : Option State) (now : State) (touches : Touches) → Fed old now touches
      → sum_by memory.step_count own_now ≤ sum_by memory.step_count own + own_steps (rows_at (content_of old)) (rows_at (Some now.content)) touches p)

-- an operator with two operators below it is kept up on each change on which it is fed what changes of their rows
abbrev pub ArePairsKeptUp : {M C : Type 0} → Ghosts M C → Plan → SideDeltas → List M → List M → Result (Vec RowDelta Global) MemoryFault → Type 0
ArePairsKeptUp memory p deltas own own_now result = IsKeptUp memory p (FedPairs memory own p deltas) (λ old now. IsOwnDone old now p) own own_now result

-- and what comes of it through other operators is right
abbrev pub ArePairsKeptUpThrough : {M C : Type 0} → Ghosts M C → (List RowDelta → List RowDelta) → Plan → SideDeltas → List M → List M → Result (Vec RowDelta Global) MemoryFault → Type 0
ArePairsKeptUpThrough memory through p deltas own own_now result = IsKeptUp memory p (FedPairs memory own p deltas) (λ old now. IsOwnDoneThrough through old now p) own own_now result

-- an operator with one operator below it is kept up on each change on which it is fed what changes of its rows
abbrev pub AreRowsKeptUp : {M C : Type 0} → Ghosts M C → Plan → List RowDelta → List M → List M → Result (Vec RowDelta Global) MemoryFault → Type 0
AreRowsKeptUp memory p deltas own own_now result = IsKeptUp memory p (FedRows memory own p deltas) (λ old now. IsOwnDone old now p) own own_now result

-- a projection is kept up on each change on which it is fed these images
abbrev pub AreImagesKeptUp : {M C : Type 0} → Ghosts M C → Plan → List RowDelta → List M → List M → Result (Vec RowDelta Global) MemoryFault → Type 0
AreImagesKeptUp memory p images own own_now result = IsKeptUp memory p (FedImages memory own p images) (λ old now. IsOwnDone old now p) own own_now result

-- A join is kept up where another memory holds the rows of one of its inputs, and that one is only read: what comes of it through other operators is right, and the exact steps of both
-- are no more than the join may cost.
pub record IsHeldKeptUp {M C : Type 0} (memory : Ghosts M C) (through : List RowDelta → List RowDelta) (p : Plan) (deltas : HeldDeltas) (held held_now : M) (own own_now : List M)
    (result : Result (Vec RowDelta Global) MemoryFault) : Type 0 where
  pub kept : IsKeptUp memory p (FedHeld memory held own p deltas) (λ old now. IsOwnDoneThrough through old now p) own own_now result
  pub read : IsRead memory.key_columns memory.was memory.staged memory.step_count held held_now
  pub steps : IfOk result (λ _. memory.EXACT ≡ true → (old : Option State) (now : State) (touches : Touches) → FedHeld memory held own p deltas old now touches
      → memory.step_count held_now + sum_by memory.step_count own_now ≤ memory.step_count held + sum_by memory.step_count own + own_steps (rows_at (content_of old)) (rows_at (Some now.content)) touches p)

-- An operator that may read the graph is kept up over the open change, from each graph from which it is fed what changes of the rows below it.
pub record IsKeptUpReading {M C : Type 0} (memory : Ghosts M C) (p : Plan) (touches : Touches) (deltas : List RowDelta) (own own_now : List M) (sight sight_now : SightState)
    (result : Result (Vec RowDelta Global) MemoryFault) : Type 0 where
  pub done : IfOk result (λ made. (old : Option State) → FedRows memory own p deltas old sight.graph.now touches → IsOwnDone old sight.graph.now p (map memory.staged own_now) made.items)
  pub too_many : IfErr result (λ fault. fault ≡ TooManyRows → (old : Option State) → FedRows memory own p deltas old sight.graph.now touches → HasTooMany sight.graph.now p)
  pub was : map memory.was own_now ≡ map memory.was own
  pub columns : map memory.key_columns own_now ≡ map memory.key_columns own
  pub grows : NoneFalls (map memory.step_count own) (map memory.step_count own_now)
  pub graph : sight_now.graph ≡ sight.graph
  pub steps : IfOk result (λ _. memory.EXACT ≡ true → (old : Option State) → FedRows memory own p deltas old sight.graph.now touches
      → sum_by memory.step_count own_now ≤ sum_by memory.step_count own + own_steps (rows_at (content_of old)) (rows_at (Some sight.graph.now.content)) touches p)
  pub reads : IfOk result (λ _. (old : Option State) → FedRows memory own p deltas old sight.graph.now touches
      → sight_now.reads ≤ sight.reads + own_reads (rows_at (content_of old)) (rows_at (Some sight.graph.now.content)) touches p)
