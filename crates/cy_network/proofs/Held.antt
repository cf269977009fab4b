-- What the memories of a plan hold, and the counts of its rows, once a change went through it.
use Rattle.std.proofs.Common.{◌≡◌, ℕ, ◌+◌, ◌-◌, ◌*◌, ◌≤◌, List, Option, Some, map, min, sym, subst, ◌∙◌, arith}
use Rattle.cy_graph.specs.Graph.{Content, State}
use Rattle.cy_network_memory.specs.Counts.{Counts}
use Rattle.cy_planner_algebra.specs.Plans.{Plan}
use Rattle.cy_planner_algebra.specs.Meaning.{rows_of}
use Rattle.cy_network_memory.specs.declared.memory.RowDelta.{RowDelta}
use Rattle.cy_network_operators.specs.Deltas.{IsDelta}
use Rattle.cy_network_operators.proofs.Staging.{after_delta}
use Rattle.cy_network_sources.specs.Changes.{IsChange, Touches}
use Rattle.cy_network_sources.specs.Costs.{cost}
use Rattle.cy_network_parts.specs.Counted.{written}
use Rattle.cy_network_parts.specs.Memories.{AreHeld, keys}
use Rattle.cy_network_parts.specs.internal.Upkeep.{IsDone, IsUpkeep}
use Rattle.cy_network_sources.specs.Work.{all_reads, all_steps, asked_reads}
use Rattle.cy_network.proofs.Excess.{written_deltas}

-- what was staged for a graph is held there
pub held_now : (old : Option State) (now : State) (p : Plan) (columns : List (List ℕ)) (staged : List Counts) (deltas : List RowDelta) → columns ≡ keys p → IsDone old now p staged deltas
    → AreHeld (Some now.content) p columns staged staged
held_now old now p columns staged deltas keyed done = record { keyed = keyed; held = done.holds; settled = done.holds; within = done.within }

-- the counts after a delta, written over those before it
pub written_delta : (deltas : List RowDelta) (before after : Counts) → IsDelta before after deltas → written (map (λ s. (s.row, s.after)) deltas) before ≡ after
written_delta deltas before after delta = written_deltas deltas before ∙ (λ i row. after_delta before after deltas delta row i)

at_most : (rose read work bound greatest : ℕ) → rose + read ≤ work → work ≤ bound → min (rose + read) greatest ≤ bound
at_most rose read work bound greatest few within = omega (arith, few, within)

rose_by : (taken taken_now read read_now steps reads : ℕ) → taken_now ≤ taken + steps → read_now ≤ read + reads → (taken_now - taken) + (read_now - read) ≤ steps + reads
rose_by taken taken_now read read_now steps reads most few = omega (arith, most, few)

told_as : (greatest from taken from_now taken_now start read start_now read_now : ℕ) → from ≡ taken → from_now ≡ taken_now → start ≡ read → start_now ≡ read_now
    → min ((from_now - from) + (start_now - start)) greatest ≡ min ((taken_now - taken) + (read_now - read)) greatest
told_as greatest from taken from_now taken_now start read start_now read_now same same_now began began_now = omega (arith, same, same_now, began, began_now)

-- the steps of the memories and the reads of the graph are at most sixteen times the cost
pub within_cost : (before now : State) (p : Plan) (taken taken_now read read_now greatest : ℕ)
    → ((touches : Touches) (a b : Content) (q : Plan) → all_steps (rows_of a) (rows_of b) touches q + (asked_reads touches q + all_reads (rows_of a) (rows_of b) touches q) ≤ 16 * cost touches a b q)
    → (upkeep : IsUpkeep before now p taken taken_now read read_now)
    → min ((taken_now - taken) + (read_now - read)) greatest ≤ 16 * cost upkeep.touches before.content now.content p
within_cost before now p taken taken_now read read_now greatest bounds upkeep =
    let steps = all_steps (rows_of before.content) (rows_of now.content) upkeep.touches p in
    let reads = asked_reads upkeep.touches p + all_reads (rows_of before.content) (rows_of now.content) upkeep.touches p in
    at_most (taken_now - taken) (read_now - read) (steps + reads) (16 * cost upkeep.touches before.content now.content p) greatest
    (rose_by taken taken_now read read_now steps reads upkeep.steps upkeep.reads) (bounds upkeep.touches before.content now.content p)

-- and so is the number of steps that is told
pub told_within_cost : (before now : State) (p : Plan) (taken taken_now read read_now greatest told from from_now start start_now : ℕ)
    → ((touches : Touches) (a b : Content) (q : Plan) → all_steps (rows_of a) (rows_of b) touches q + (asked_reads touches q + all_reads (rows_of a) (rows_of b) touches q) ≤ 16 * cost touches a b q)
    → told ≡ min ((from_now - from) + (start_now - start)) greatest → from ≡ taken → from_now ≡ taken_now → start ≡ read → start_now ≡ read_now
    → IsUpkeep before now p taken taken_now read read_now
    → (touches : Touches) × (IsChange before now touches × told ≤ 16 * cost touches before.content now.content p)
told_within_cost before now p taken taken_now read read_now greatest told from from_now start start_now bounds is same same_now began began_now upkeep =
    let most = within_cost before now p taken taken_now read read_now greatest bounds upkeep in
    (upkeep.touches, (upkeep.change, subst (λ n. n ≤ 16 * cost upkeep.touches before.content now.content p) (sym (is ∙ told_as greatest from taken from_now taken_now start read start_now read_now same same_now began began_now)) most))
