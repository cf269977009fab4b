-- Verdicts (own). The verdict on a statement, on a query that is to be a view's, or on a command is what is done with it, or the
-- first reason against it. Each order of reasons stands here, and nowhere else.
use Rattle.std.specs.Prelude.{ℕ, Bool, true, false, ◌+◌, ◌==◌, ◌&&◌, not, List, length, Option, Some, None, Result, Ok, Err, if◌then◌else◌, nat_le, nat_lt}
use Rattle.std.specs.Ordering.{eq_by_cmp}
use Rattle.std.specs.Cmp.Lexicographic.{pointwise}
use Rattle.std.specs.Result.{result_map_both}
use Rattle.std.specs.Str.{bytes_eq}
use Rattle.cy_trees.specs.Trees.{Statement}
use Rattle.cy_scope.specs.ClauseFaults.{statement_fault}
use Rattle.cy_scope.specs.Resolved.{resolved_statement}
use Rattle.cy_scope.specs.Views.{view_fault}
use Rattle.cy_values.specs.Order.{value_order}
use Rattle.cy_values.specs.declared.numbers.NodeId.{NodeId}
use Rattle.cy_values.specs.declared.numbers.RelId.{RelId}
use Rattle.cy_values.specs.declared.scalars.Value.{Value}
use Rattle.cy_planner.specs.Weight.{greatest_weight, weight}
use Rattle.cy_graph.specs.Graph.{Content, State}
use Rattle.cy_graph.specs.declared.nodes.Node.{Node}
use Rattle.cy_graph.specs.declared.nodes.Rel.{Rel}
use Rattle.cy_index.specs.Index.{has_pair}
use Rattle.cy_index.specs.declared.keys.Pair.{Pair}
use Rattle.cy_engine_lines.specs.declared.faults.Fault.{Fault}
use Rattle.cy_engine_lines.specs.declared.faults.Fault.TheVariants as fault
use Rattle.cy_updates_meaning.specs.Faults.{◌>>=◌}
use Rattle.cy_updates_meaning.specs.Statements.{Outcome, statement_outcome}
use Rattle.cy_engine_lines.specs.Faults.{of_update}
use Rattle.cy_feeds.specs.Feeds.{new_history}
use Rattle.cy_engine_lines.specs.State.{EngineState, view_at, last_tick}
use Rattle.cy_engine_views.specs.RegisteredViews.{View, view_limit}

-- nothing is against it, or this is
abbrev pub passes : {F : Type 0} → (F → Fault) → Option F → Result (Unit {0}) Fault
passes why None = Ok tt
passes why (Some fault) = Err (why fault)

-- what a layer below gives, its fault as one of the engine
abbrev pub or_fault : {A F : Type 0} → (F → Fault) → Result A F → Result A Fault
or_fault why result = result_map_both (λ x. x) why result

-- it is there, or this is against it
abbrev pub there : {A : Type 0} → Fault → Option A → Result A Fault
there why None = Err why
there why (Some x) = Ok x

-- it holds, or this is against it
abbrev pub needs : Bool → Fault → Result (Unit {0}) Fault
needs true why = Ok tt
needs false why = Err why

-- ---- the tick

abbrev pub same_label : List ℕ × Unit {0} → List ℕ × Unit {0} → Bool
same_label k l = bytes_eq k.0 l.0

abbrev pub same_entry : List ℕ × Value → List ℕ × Value → Bool
same_entry p q = bytes_eq p.0 q.0 && eq_by_cmp value_order p.1 q.1

abbrev pub same_value : Node → Node → Bool
same_value m n = pointwise same_label m.labels n.labels && pointwise same_entry m.props n.props

abbrev pub same_node : NodeId × Node → NodeId × Node → Bool
same_node m n = (m.0.0 == n.0.0) && same_value m.1 n.1

abbrev pub same_ends : Rel → Rel → Bool
same_ends m n = (m.source.0 == n.source.0) && (m.target.0 == n.target.0)

abbrev pub same_link : Rel → Rel → Bool
same_link m n = same_ends m n && (bytes_eq m.kind n.kind && pointwise same_entry m.props n.props)

abbrev pub same_relationship : RelId × Rel → RelId × Rel → Bool
same_relationship m n = (m.0.0 == n.0.0) && same_link m.1 n.1

-- whether two graphs hold the same
abbrev pub same_content : Content → Content → Bool
same_content c d = pointwise same_node c.nodes d.nodes && pointwise same_relationship c.rels d.rels

-- the tick rises, unless it is the last one
abbrev pub next_tick : ℕ → Result ℕ Fault
next_tick tick = if tick == last_tick then Err fault.Full else Ok (tick + 1)

-- the tick after a line that leads from one content to another: it rises where they differ
abbrev pub tick_after : Content → Content → ℕ → Result ℕ Fault
tick_after before after tick = if same_content before after then Ok tick else next_tick tick

-- ---- statements

-- the statement with the columns of its variables, or its fault of scope
abbrev pub scope_verdict : Statement → Result Statement Fault
scope_verdict tree = passes fault.Scope (statement_fault tree) >>= λ _. Ok (resolved_statement tree)

-- what a statement leaves and says, and the tick after it
pub record Executed : Type 0 where
  pub outcome : Outcome
  pub tick : ℕ

-- what executing a checked statement on a graph at a tick gives, or its fault; then the last tick
abbrev pub execution_verdict : Statement → State → ℕ → Result Executed Fault
execution_verdict resolved graph tick =
    or_fault of_update (statement_outcome graph resolved) >>= λ outcome.
    tick_after graph.content outcome.graph.content tick >>= λ after.
    Ok (record { outcome = outcome; tick = after })

abbrev pub statement_verdict : Statement → EngineState → Result Executed Fault
statement_verdict tree state = scope_verdict tree >>= λ resolved. execution_verdict resolved state.graph state.tick

-- ---- views

-- the query of a view, with the columns of its variables; or its fault of scope, then that of a view's query
abbrev pub query_verdict : Statement → Result Statement Fault
query_verdict tree =
    scope_verdict tree >>= λ resolved.
    passes fault.View (view_fault resolved) >>= λ _.
    Ok resolved

-- the tick of a view of this name that is made next; or a view of the name is there, or too many views are, or the tick is the last
abbrev pub making_verdict : List ℕ → EngineState → Result ℕ Fault
making_verdict name state =
    passes (λ _. fault.ViewNameTaken) (view_at name state) >>= λ _.
    needs (nat_lt (length state.views) view_limit) fault.TooManyViews >>= λ _.
    next_tick state.tick

-- the view of this name and query that is made next; or after these reasons the query weighs too much to be planned
abbrev pub view_verdict : Statement → List ℕ → EngineState → Result View Fault
view_verdict tree name state =
    query_verdict tree >>= λ query.
    making_verdict name state >>= λ made.
    needs (nat_le (weight query) greatest_weight) fault.PlanTooLarge >>= λ _.
    Ok (record { name = name; query = query; made = made; feed = new_history state.history made })

-- ---- commands

-- the view of a name: the one whose rows are asked for, or that is to go
abbrev pub rows_verdict : List ℕ → EngineState → Result View Fault
rows_verdict name state = there fault.NoSuchView (view_at name state)

-- the view that changed since a tick which has been
abbrev pub since_verdict : List ℕ → ℕ → EngineState → Result View Fault
since_verdict name tick state =
    rows_verdict name state >>= λ view.
    needs (nat_le tick state.tick) fault.FutureTick >>= λ _.
    Ok view

-- the label and the key that get an index, unless there is one for them
abbrev pub index_verdict : List ℕ → List ℕ → EngineState → Result Pair Fault
index_verdict label key state =
    needs (not (has_pair label key state.indexes)) fault.IndexThere >>= λ _.
    Ok (record { label = label; key = key })
