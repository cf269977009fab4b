-- Worked rows of the definitions, computed.
use Rattle.std.proofs.Common.{◌≡◌, ℕ, pos, Bool, true, false, List, [], ◌∷◌, ◌++◌, Some, None, Ok, Err, refl}
use Rattle.std.specs.Prelude.{codes}
use Rattle.std.specs.Str.{chars}
use Rattle.std.specs.Char.{encode_utf8}
use Rattle.cy_lexer.specs.declared.faults.LexFault.TheVariants as lex
use Rattle.cy_lexer.specs.declared.symbols.Symbol.TheVariants as sign
use Rattle.cy_lexer.specs.declared.tokens.TokenKind.TheVariants as kind
use Rattle.cy_lexer.specs.declared.tokens.Token.{Token}
use Rattle.cy_parser_grammar.specs.Words.{denotes, slice_in}
use Rattle.cy_scope_kinds.specs.declared.faults.ScopeFault.TheVariants as scope
use Rattle.cy_scope_kinds.specs.declared.faults.ViewFault.TheVariants as view_fault
use Rattle.cy_scope.specs.Resolved.{resolved_statement}
use Rattle.cy_trees.specs.Trees.{integer, Statement}
use Rattle.cy_values.specs.declared.numbers.NodeId.{NodeId}
use Rattle.cy_values.specs.declared.scalars.Value.{Value}
use Rattle.cy_values.specs.declared.scalars.Value.TheVariants as value
use Rattle.cy_values.specs.declared.rows.Cell.{Cell}
use Rattle.cy_values.specs.declared.rows.Cell.TheVariants as cell
use Rattle.cy_values.specs.Bag.{count_of}
use Rattle.cy_graph.specs.Graph.{State, empty_state, number_end}
use Rattle.cy_graph.specs.declared.nodes.Node.{Node}
use Rattle.cy_updates_meaning.specs.declared.faults.UpdateFault.TheVariants as update
use Rattle.cy_updates_meaning.specs.Statements.{Outcome}
use Rattle.cy_bags.specs.declared.changes.Entry.{Entry}
use Rattle.cy_engine_lines.specs.declared.faults.Fault.TheVariants as fault
use Rattle.cy_engine_lines.specs.declared.replies.Reply.TheVariants as reply
use Rattle.cy_engine_lines.specs.Faults.{code_of, offset_of}
use Rattle.cy_feeds.specs.Feeds.{new_history}
use Rattle.cy_engine_lines.specs.Requests.{request, StatementOf, ViewOf, RowsOf, IndexOf, Refused, without_end}
use Rattle.cy_engine_lines.specs.KeptStep.{kept_state_of, unkept}
use Rattle.cy_engine_lines.specs.Model.{new_machine}
use Rattle.cy_engine_lines.specs.State.{EngineState, last_tick, view_at}
use Rattle.cy_engine_lines.specs.Fields.{machine_of}
use Rattle.cy_planner_algebra.specs.Plans as plan
use Rattle.cy_engine_views.specs.declared.views.Views.{Views}
use Rattle.cy_engine_views.specs.Upkeep.{Upkeep, held_in, upkeep_in, views_in}
use Rattle.cy_engine_views.specs.RegisteredViews.{Entries, View, entry_at, rows_of}
use Rattle.cy_engine.specs.Headline.{entries_of}
use Rattle.cy_engine_lines.specs.EngineStep.{Answer}
use Rattle.cy_engine.specs.Runs.{Event, accepted, seen_answer}
use Rattle.cy_engine_lines.specs.Verdicts.{execution_verdict, statement_verdict, query_verdict, rows_verdict, since_verdict, index_verdict, view_verdict}
use Rattle.cy_engine.proofs.WorkedLines.{mark, letter, create_tree, create_tokens, view_line, view_tokens, query_tokens, query_tree, rows_line, rows_tokens, set_tree, bare_tree}

-- ---- what a line asks for

-- `:view v MATCH (n:A) RETURN n.k`
view_is_asked : request view_line view_tokens ≡ ViewOf (codes "v") query_tokens
unfolding denotes slice_in chars encode_utf8
view_is_asked = refl

-- `:rows v`
rows_are_asked : request rows_line rows_tokens ≡ RowsOf (codes "v")
unfolding denotes slice_in chars encode_utf8
rows_are_asked = refl

-- `:index A k`, and the same without its key
abbrev index_line : List ℕ
index_line = codes ":index A k"

abbrev index_tokens : List Token → List Token
index_tokens key = mark sign.Colon 0 ∷ record { kind = kind.Name; start = 1; end = 6 } ∷ letter 7 ∷ key

index_is_asked : request index_line (index_tokens (letter 9 ∷ [])) ≡ IndexOf (codes "A") (codes "k")
unfolding denotes slice_in chars encode_utf8
index_is_asked = refl

index_without_key : request index_line (index_tokens []) ≡ Refused fault.BadArgument
unfolding denotes slice_in chars encode_utf8
index_without_key = refl

-- a line without a colon at its front is a statement, whatever it is
statement_is_asked : (line : List ℕ) → request line create_tokens ≡ StatementOf create_tokens
statement_is_asked line = refl

-- `:` alone
no_command : (line : List ℕ) → request line (mark sign.Colon 0 ∷ []) ≡ Refused fault.UnknownCommand
no_command line = refl

-- `:rows v;`
end_is_dropped : without_end (letter 6 ∷ mark sign.Semicolon 7 ∷ []) ≡ letter 6 ∷ []
end_is_dropped = refl

-- ---- what queries and statements mean

-- `MATCH (n:A) RETURN n.k`, with its columns
abbrev keys : Statement
keys = resolved_statement query_tree

-- `MATCH (n:A) SET n.k = ..`, with its columns
abbrev set_to : ℕ → Statement
set_to n = resolved_statement (set_tree (codes "n") (integer (pos n)))

abbrev int : ℕ → Value
int n = value.Int (pos n)

-- the row of an integer
abbrev row : ℕ → List Cell
row n = cell.Value (int n) ∷ []

-- a node with the label A, and one with a property besides
abbrev bare : Node
bare = record { labels = (codes "A", tt) ∷ []; props = [] }

abbrev with_k : ℕ → Node
with_k n = record { labels = (codes "A", tt) ∷ []; props = (codes "k", int n) ∷ [] }

abbrev other : Node
other = record { labels = (codes "B", tt) ∷ []; props = (codes "k", int 7) ∷ [] }

abbrev graph_of : List (NodeId × Node) → ℕ → State
graph_of nodes next = record { content = record { nodes = nodes; rels = [] }; next_node = next; next_rel = 1 }

-- two nodes with the label A and one without it
abbrev three : State
three = graph_of ((record { 0 = 1 }, with_k 7) ∷ (record { 0 = 2 }, other) ∷ (record { 0 = 4 }, with_k 7) ∷ []) 5

-- the rows of the query: that of 7 counts twice, and a node without the property has null
seven_counts_twice : count_of (row 7) (rows_of keys three.content) ≡ 2
seven_counts_twice = refl

null_where_none : rows_of keys (graph_of ((record { 0 = 1 }, bare) ∷ []) 2).content ≡ (cell.Value value.Null ∷ []) ∷ []
null_where_none = refl

-- the query twice, with UNION or UNION ALL between
abbrev twice : Bool → Statement
twice all = record { queries = keys.queries ++ keys.queries; all = all }

each_once_by_union : rows_of (twice false) three.content ≡ row 7 ∷ []
each_once_by_union = refl

all_by_union_all : rows_of (twice true) three.content ≡ row 7 ∷ row 7 ∷ row 7 ∷ row 7 ∷ []
all_by_union_all = refl

-- what a statement without RETURN leaves that made this many nodes
abbrev left : State → ℕ → Outcome
left graph made = record { graph = graph; counts = record { made_nodes = made; gone_nodes = 0; made_rels = 0; gone_rels = 0 }; columns = []; rows = [] }

-- ---- verdicts

-- `CREATE (:A {k: 7})` makes the first node of a graph, and one too many
one_is_made : execution_verdict (resolved_statement create_tree) (empty_state 1 1) 0 ≡ Ok (record { outcome = left (graph_of ((record { 0 = 1 }, with_k 7) ∷ []) 2) 1; tick = 1 })
one_is_made = refl

no_number_is_left : execution_verdict (resolved_statement create_tree) (empty_state number_end 1) 0 ≡ Err (fault.Update update.Full)
no_number_is_left = refl

-- SET on a graph with two nodes of the label: the tick rises where a value is another, and stays where none is
abbrev three_with : ℕ → State
three_with n = graph_of ((record { 0 = 1 }, with_k n) ∷ (record { 0 = 2 }, other) ∷ (record { 0 = 4 }, with_k n) ∷ []) 5

set_raises_the_tick : execution_verdict (set_to 8) three 3 ≡ Ok (record { outcome = left (three_with 8) 0; tick = 4 })
set_raises_the_tick = refl

same_value_keeps_the_tick : execution_verdict (set_to 7) three 3 ≡ Ok (record { outcome = left three 0; tick = 3 })
same_value_keeps_the_tick = refl

-- after the last tick nothing can change, and what changes nothing is executed
last_tick_refuses : execution_verdict (set_to 8) three last_tick ≡ Err fault.Full
last_tick_refuses = refl

last_tick_stays : execution_verdict (set_to 7) three last_tick ≡ Ok (record { outcome = left three 0; tick = last_tick })
last_tick_stays = refl

abbrev view : View
view = record { name = codes "v"; query = keys; made = 2; feed = new_history 64 2 }

abbrev with_view : EngineState
with_view = record { graph = three; indexes = (record { label = codes "A"; key = codes "k" }) ∷ []; views = view ∷ []; tick = 2; history = 64 }

-- `MATCH (n:A) SET m.k = 9`
unknown_variable : (state : EngineState) → statement_verdict (set_tree (codes "m") (integer (pos 9))) state ≡ Err (fault.Scope scope.UnknownVariable)
unknown_variable state = refl

-- `:view v CREATE (:A)`
update_as_view : query_verdict bare_tree ≡ Err (fault.View view_fault.NotAReading)
update_as_view = refl

-- a second view of the name, and one of another name
name_is_taken : view_verdict query_tree (codes "v") with_view ≡ Err fault.ViewNameTaken
name_is_taken = refl

another_is_made : view_verdict query_tree (codes "w") with_view ≡ Ok (record { name = codes "w"; query = keys; made = 3; feed = new_history 64 3 })
another_is_made = refl

-- what changed since a tick: there is no such view, then no such tick
since_no_view : since_verdict (codes "w") 9 with_view ≡ Err fault.NoSuchView
since_no_view = refl

since_no_tick : since_verdict (codes "v") 3 with_view ≡ Err fault.FutureTick
since_no_tick = refl

since_then : since_verdict (codes "v") 2 with_view ≡ Ok view
since_then = refl

no_such_view : rows_verdict (codes "w") with_view ≡ Err fault.NoSuchView
no_such_view = refl

-- an index that is there, and one of another key
index_is_there : index_verdict (codes "A") (codes "k") with_view ≡ Err fault.IndexThere
index_is_there = refl

another_index : index_verdict (codes "A") (codes "j") with_view ≡ Ok (record { label = codes "A"; key = codes "j" })
another_index = refl

-- ---- states

-- a new engine
new_engine : (views : Views) → held_in views ≡ [] → machine_of (record { graph = record { now = empty_state 1 1; was = None }; chosen = [] }) views 0 64 [] ≡ new_machine 64
new_engine views none = λ i. record { graph = empty_state 1 1; indexes = []; views = none i; tick = 0; history = 64; entries = [] }

-- one with nodes, an index and a view, which is kept up by a plan with a number of steps
abbrev kept_with : List ℕ → ℕ → Upkeep
kept_with name steps = record { name = name; plan = plan.unit; steps = steps }

engine_with_view : (views : Views) → views_in views ≡ view ∷ [] → upkeep_in views ≡ kept_with (codes "v") 3 ∷ []
    → kept_state_of (machine_of (record { graph = record { now = three; was = None }; chosen = with_view.indexes }) views 2 64 []) ≡ record { engine = with_view; upkeep = kept_with (codes "v") 3 ∷ [] }
engine_with_view views is kept = λ i. record { engine = record { graph = three; indexes = with_view.indexes; views = is i; tick = 2; history = 64 }; upkeep = kept i }

-- the upkeep of one of two views goes
one_is_unkept : unkept (codes "v") (kept_with (codes "v") 3 ∷ kept_with (codes "w") 5 ∷ []) ≡ kept_with (codes "w") 5 ∷ []
one_is_unkept = refl

-- the steps are free, the name of the view is not
abbrev steps_of : List ℕ → ℕ → Answer
steps_of name steps = Ok (reply.Steps ((name, steps) ∷ []))

steps_are_free : seen_answer (steps_of (codes "v") 3) ≡ seen_answer (steps_of (codes "v") 0)
steps_are_free = refl

name_is_seen : (name : List ℕ) → seen_answer (steps_of name 3) ≡ steps_of name 0
name_is_seen name = refl

view_is_found : view_at (codes "v") with_view ≡ Some view
view_is_found = refl

-- names are compared as they are written
no_view_of_a_capital : view_at (codes "V") with_view ≡ None
no_view_of_a_capital = refl

-- the second of two entries
second_entry : (first second : Entry) → entry_at (codes "w") ((codes "v", first) ∷ (codes "w", second) ∷ []) ≡ Some second
second_entry first second = refl

-- ---- faults

codes_of_faults : code_of (fault.Scope scope.UnknownVariable) ≡ 30
codes_of_faults = refl

code_of_a_character : code_of (fault.Lex (lex.BadCharacter 7)) ≡ 10
code_of_a_character = refl

place_of_a_character : offset_of (fault.Lex (lex.BadCharacter 7)) ≡ Some 7
place_of_a_character = refl

no_place : offset_of fault.Full ≡ None
no_place = refl

-- ---- runs

abbrev event : List ℕ → Entries → Event
event line entries = record { line = line; answer = Ok reply.Nothing; entries = entries }

abbrev refused : List ℕ → Event
refused line = record { line = line; answer = Err fault.Full; entries = [] }

-- a line that was refused is left out
accepted_lines : accepted (event (codes "") [] ∷ refused (codes "CREATE (:A)") ∷ event (codes "//") [] ∷ []) ≡ event (codes "") [] ∷ event (codes "//") [] ∷ []
accepted_lines = refl

-- the entries of one of two views
entries_of_one : (first second third : Entry)
    → entries_of (codes "v") (event (codes "a") ((codes "v", first) ∷ (codes "w", second) ∷ []) ∷ event (codes "b") ((codes "w", second) ∷ []) ∷ event (codes "c") ((codes "v", third) ∷ []) ∷ []) ≡ first ∷ third ∷ []
entries_of_one first second third = refl
