-- How a change of a graph goes through an operator of a plan, and through the operators of a plan, down to one and up again.
use Rattle.std.specs.Prelude.{◌≡◌, ℕ, ◌<◌, List, Option, Some, None, ◌+◌, ◌≤◌, Bool, false, ◌++◌, is_none, length}
use Rattle.std.specs.Option.{option_map}
use Rattle.std.specs.List.{All}
use Rattle.cy_values.specs.declared.rows.Cell.{Cell}
use Rattle.cy_values.specs.Bag.{count_of}
use Rattle.cy_bags.specs.declared.changes.Change.{Change}
use Rattle.cy_bags.specs.Difference.{IsDifference}
use Rattle.cy_graph.specs.Graph.{Content, State, empty_state}
use Rattle.cy_planner_algebra.specs.Plans.{Plan}
use Rattle.cy_planner_algebra.specs.Meaning.{rows_of}
use Rattle.cy_planner_algebra.specs.Sure.{IsSure}
use Rattle.cy_planner_algebra.specs.WellFormed.{IsWellFormed}
use Rattle.cy_network_memory.specs.Counts.{Counts, greatest_count}
use Rattle.cy_network_memory.specs.declared.memory.RowDelta.{RowDelta}
use Rattle.cy_network_operators.specs.Deltas.{IsBounded, IsDelta, counts, rows_at}
use Rattle.cy_network_sources.specs.Changes.{IsChange, Touches}
use Rattle.cy_network_sources.specs.Work.{all_reads, all_steps, asked_reads}
use Rattle.cy_network_parts.specs.Memories.{AreWithin, own_contents, own_keys, AreHeld, contents, is_scan, keys}
use Rattle.cy_network_parts.specs.Parts.{first_below, second_below, chain}
use Rattle.cy_network_parts.specs.internal.Parts.{own_of_all}
use Rattle.cy_network_parts.specs.Counted.{written}

-- ---- one operator: what is asked of it and its memories, and what it gives

-- the graph from which a change leads, or one without anything where there is none yet
abbrev pub state_of : Option State → State
state_of None = empty_state 1 1
state_of (Some s) = s

-- its content, if there is one
abbrev pub content_of : Option State → Option Content
content_of old = option_map (λ s. s.content) old

-- an operator of a plan over a change from one graph, or from nothing, to another
pub record IsStep (old : Option State) (now : State) (touches : Touches) (p : Plan) : Type 0 where
  pub change : IsChange (state_of old) now touches
  pub well_formed : IsWellFormed p
  pub sure : IsSure p

-- what changes of the rows of an operator
pub record IsDeltaOf (old : Option State) (now : State) (p : Plan) (deltas : List RowDelta) : Type 0 where
  pub delta : IsDelta (counts (rows_at (content_of old) p)) (counts (rows_at (Some now.content) p)) deltas
  pub bounded : All IsBounded deltas

-- the memories of an operator alone, before the change: they hold what they mean on the first graph, and nothing is staged
pub record IsOwnBegun (old : Option State) (p : Plan) (columns : List (List ℕ)) (was staged : List Counts) : Type 0 where
  pub keyed : columns ≡ own_keys p
  pub held : was ≡ own_contents (rows_at (content_of old)) p
  pub settled : staged ≡ own_contents (rows_at (content_of old)) p
  pub within : AreWithin (content_of old) p

-- an operator over the change, its own memories before it, and what changes of the one operator below it
pub record IsFed (old : Option State) (now : State) (touches : Touches) (p : Plan) (columns : List (List ℕ)) (was staged : List Counts) (deltas : List RowDelta) : Type 0 where
  pub step : IsStep old now touches p
  pub own : IsOwnBegun old p columns was staged
  pub below : IsDeltaOf old now (first_below p) deltas

-- an operator over two others over the change, its own memories before it, and what changes of these two
pub record IsFedByTwo (old : Option State) (now : State) (touches : Touches) (p : Plan) (columns : List (List ℕ)) (was staged : List Counts) (left_deltas right_deltas : List RowDelta) : Type 0 where
  pub step : IsStep old now touches p
  pub own : IsOwnBegun old p columns was staged
  pub left : IsDeltaOf old now (first_below p) left_deltas
  pub right : IsDeltaOf old now (second_below p) right_deltas

-- what it gives: what changes of the rows of the operator, and its own memories staged for the second graph
pub record IsOwnDone (old : Option State) (now : State) (p : Plan) (staged : List Counts) (deltas : List RowDelta) : Type 0 where
  pub change : IsDeltaOf old now p deltas
  pub holds : staged ≡ own_contents (rows_at (Some now.content)) p

-- a row of the operator counts more than 2^62 - 1
abbrev pub HasTooMany : State → Plan → Type 0
HasTooMany now p = (row : List Cell) × (greatest_count < count_of row (rows_of now.content p))

-- ---- the operators of a plan

-- an operator of a plan over a change, and its memories and those of the operators below it hold what these mean on the first graph
pub record IsBegun (from_nothing : Bool) (old : Option State) (now : State) (touches : Touches) (p : Plan) (columns : List (List ℕ)) (was staged : List Counts) : Type 0 where
  pub first : from_nothing ≡ is_none old
  pub step : IsStep old now touches p
  pub held : AreHeld (content_of old) p columns was staged

-- what it gives: what changes of the rows of the operator, and all these memories staged for the second graph
pub record IsDone (old : Option State) (now : State) (p : Plan) (staged : List Counts) (deltas : List RowDelta) : Type 0 where
  pub change : IsDeltaOf old now p deltas
  pub holds : staged ≡ contents (rows_at (Some now.content)) p
  pub within : AreWithin (Some now.content) p

-- A change that went through an operator in the chain of a plan and not yet through the operators above that one: their memories hold what they mean on the
-- first graph, and those of the operator and of the operators below it, this many, are staged for the second.
pub record IsPartway (old : Option State) (now : State) (touches : Touches) (p : Plan) (above : List Plan) (q : Plan) (place : ℕ) (columns : List (List ℕ)) (was staged : List Counts) (deltas : List RowDelta) : Type 0 where
  pub step : IsStep old now touches p
  pub linked : chain p ≡ above ++ chain q
  pub unscanned : All (λ r. is_scan r ≡ false) above
  pub placed : place ≡ length (keys q)
  pub keyed : columns ≡ keys p
  pub held : was ≡ contents (rows_at (content_of old)) p
  pub within : AreWithin (content_of old) p
  pub change : IsDeltaOf old now q deltas
  pub halfway : staged ≡ contents (rows_at (Some now.content)) q ++ own_of_all (own_contents (rows_at (content_of old))) above
  pub within_now : AreWithin (Some now.content) q

-- what is staged for a plan, where the graph changes: its memories, the counts of those of its rows that change, and what changes
pub record IsStaged (before after : Content) (p : Plan) (columns : List (List ℕ)) (staged : List Counts) (next : List (List Cell × ℕ)) (change : Change) : Type 0 where
  pub held : AreHeld (Some after) p columns staged staged
  pub leaves : written next (counts (rows_of before p)) ≡ counts (rows_of after p)
  pub difference : IsDifference (rows_of before p) (rows_of after p) change

-- The steps of the memories and the reads of the graph, as they were and as they are once a plan's rows were kept up over a change, are within what
-- its operators may do, and what is read to tell whether the change concerns it.
pub record IsUpkeep (before now : State) (p : Plan) (taken taken_now read read_now : ℕ) : Type 0 where
  pub touches : Touches
  pub change : IsChange before now touches
  pub steps : taken_now ≤ taken + all_steps (rows_of before.content) (rows_of now.content) touches p
  pub reads : read_now ≤ read + (asked_reads touches p + all_reads (rows_of before.content) (rows_of now.content) touches p)
