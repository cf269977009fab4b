-- The headline: what holds of the views, their entries and the graph after any list of lines (own).
use Rattle.std.specs.Prelude.{◌≡◌, ℕ, ◌+◌, ◌-◌, List, [], ◌∷◌, ◌++◌, Contains, Option, Some, None, Ok}
use Rattle.cy_lexer.specs.declared.tokens.Token.{Token}
use Rattle.cy_parser_grammar.specs.SpellsClauses.{SpellsStatement}
use Rattle.cy_trees.specs.Trees.{Statement}
use Rattle.cy_scope.specs.Resolved.{resolved_statement}
use Rattle.cy_values.specs.declared.rows.Cell.{Cell}
use Rattle.cy_values.specs.Bag.{IsSameBag, count_of, weight_of}
use Rattle.cy_graph.specs.Graph.{State, empty_state}
use Rattle.cy_oneshot_meaning.specs.Queries.{statement_columns, statement_rows}
use Rattle.cy_updates_meaning.specs.Statements.{Outcome, statement_outcome}
use Rattle.cy_bags.specs.declared.changes.Entry.{Entry}
use Rattle.cy_feeds.specs.Feeds.{History, new_history, pushed}
use Rattle.cy_engine_lines.specs.declared.replies.Reply.TheVariants as reply
use Rattle.cy_engine_lines.specs.Model.{Machine, new_machine, state_of}
use Rattle.cy_engine_lines.specs.Requests.{Asks, StatementOf, ViewOf}
use Rattle.cy_engine.specs.Runs.{Event, OnlySo, Run, Runs, accepted}
use Rattle.cy_engine_lines.specs.State.{EngineState, empty_engine, view_at}
use Rattle.cy_engine_views.specs.RegisteredViews.{AreEntries, Entries, IsEntry, View, entry_at, rows_of}
use Rattle.cy_engine_lines.specs.EngineStep.{Answer, AreRows, EngineStep, changed_by}
use Rattle.cy_engine_lines.specs.Verdicts.{tick_after}

-- ---- the graph and the tick

-- a graph at a tick
pub record Moment : Type 0 where
  pub graph : State
  pub tick : ℕ

-- where lines begin that a new engine is sent
abbrev pub beginning : Moment
beginning = record { graph = empty_state 1 1; tick = 0 }

-- where a state stands
abbrev pub moment_of : EngineState → Moment
moment_of state = record { graph = state.graph; tick = state.tick }

-- a line is a statement that was executed: it leads to the graph that its meaning leaves, and its answer says what its meaning says;
-- the tick rises where the content of the graph differs
pub record IsStatement (line : List ℕ) (answer : Answer) (before after : Moment) : Type 0 where
  pub tokens : List Token
  pub tree : Statement
  pub outcome : Outcome
  pub asked : Asks line (StatementOf tokens)
  pub spelt : SpellsStatement line tree tokens
  pub means : statement_outcome before.graph (resolved_statement tree) ≡ Ok outcome
  pub answered : answer ≡ Ok (reply.Statement (changed_by outcome.counts) outcome.columns outcome.rows)
  pub graph : after.graph ≡ outcome.graph
  pub tick : tick_after before.graph.content after.graph.content before.tick ≡ Ok after.tick

-- every other line leaves the graph as it was; the tick rises with each view that is made
abbrev pub Leads : List ℕ → Answer → Moment → Moment → Type 0
Leads line (Ok (reply.Statement changed columns rows)) before after = IsStatement line (Ok (reply.Statement changed columns rows)) before after
Leads line (Ok (reply.Made columns tick name)) before after = after ≡ record before { tick = before.tick + 1 }
Leads line answer before after = after ≡ before

-- the graph and the tick that lines lead to: the statements among them that were executed, one after another, and the views that were made
abbrev pub Builds : Moment → List Event → Moment → Type 0
Builds before [] after = after ≡ before
Builds before (e ∷ events) after = (mid : Moment) × Leads e.line e.answer before mid × Builds mid events after

-- ---- the entries of a view

-- what a line adds to the feed of a view: nothing where its rows are the same bag, else the exact difference, with the tick after the line
abbrev pub IsItsEntry : Statement → Moment → Moment → Option Entry → Type 0
IsItsEntry query before after None = IsSameBag (rows_of query before.graph.content) (rows_of query after.graph.content)
IsItsEntry query before after (Some entry) = IsEntry query before.graph.content after.graph.content after.tick entry

-- each line from one graph and tick to others adds that to the feed of a view, and nothing else
abbrev pub AreItsEntries : View → Moment → List Event → Moment → Type 0
AreItsEntries view before [] after = after ≡ before
AreItsEntries view before (e ∷ events) after =
    (mid : Moment) × Leads e.line e.answer before mid × IsItsEntry view.query before mid (entry_at view.name e.entries) × AreItsEntries view mid events after

abbrev pub with_entry : Option Entry → List Entry → List Entry
with_entry None entries = entries
with_entry (Some entry) entries = entry ∷ entries

-- the entries that lines made for the view of a name
abbrev pub entries_of : List ℕ → List Event → List Entry
entries_of name [] = []
entries_of name (e ∷ events) = with_entry (entry_at name e.entries) (entries_of name events)

-- a feed with one entry after another
abbrev pub with_entries : List Entry → History → History
with_entries [] feed = feed
with_entries (e ∷ entries) feed = with_entries entries (pushed e feed)

-- how often each row counts, after it is changed by one entry after another: less what it removes, and with what it adds
abbrev pub followed : (List Cell → ℕ) → List Entry → List Cell → ℕ
followed counts [] = counts
followed counts (e ∷ entries) = followed (λ row. (counts row - weight_of row e.change.removed) + weight_of row e.change.added) entries

-- how often each row counts in what a query means on a graph
abbrev pub counts_in : Statement → State → List Cell → ℕ
counts_in query graph row = count_of row (rows_of query graph.content)

-- ---- one view

-- a line asks for a view of this name and query: the statement that its tokens spell, with the columns of its variables
pub record AsksForView (line name : List ℕ) (query : Statement) : Type 0 where
  pub tokens : List Token
  pub tree : Statement
  pub asked : Asks line (ViewOf name tokens)
  pub spelt : SpellsStatement line tree tokens
  pub is : query ≡ resolved_statement tree

-- One of the lines asked for the view, and made it. Its query has rows on the graph, and no fault; these are the rows that are shown
-- of it; and they are the rows that it had when it was made, changed by its entries, which are the exact differences that the lines
-- since then made. Its feed has the last of these entries.
pub record IsMaintained (start : Moment) (history : ℕ) (events : List Event) (now : EngineState) (view : View) : Type 0 where
  pub before : List Event
  pub making : Event
  pub after : List Event
  pub graph : State
  pub are : events ≡ before ++ making ∷ after
  pub asks : AsksForView making.line view.name view.query
  pub answered : making.answer ≡ Ok (reply.Made (statement_columns view.query) view.made view.name)
  pub made_on : Builds start (before ++ making ∷ []) (record { graph = graph; tick = view.made })
  pub means : statement_rows now.graph.content view.query ≡ Ok (rows_of view.query now.graph.content)
  pub shown : (rows : List (List Cell × ℕ)) → AreRows now view rows → (row : List Cell) → weight_of row rows ≡ counts_in view.query now.graph row
  pub entries : AreItsEntries view (record { graph = graph; tick = view.made }) after (moment_of now)
  pub feed : view.feed ≡ with_entries (entries_of view.name after) (new_history history view.made)
  pub replayed : (row : List Cell) → counts_in view.query now.graph row ≡ followed (counts_in view.query graph) (entries_of view.name after) row

-- ---- the headline

-- Of lines that a new engine was sent: the graph is the one that the statements among them that were executed make of the empty one, and the
-- tick has risen with each of them that changed its content and with each view that was made; each view is found by its name, and is
-- maintained; and without the refused lines all other answers, entries and the state are the same.
pub record Headline (history : ℕ) (events : List Event) (now : EngineState) : Type 0 where
  pub graph : Builds beginning events (moment_of now)
  pub views : (view : View) → Contains now.views view → (view_at view.name now ≡ Some view) × IsMaintained beginning history events now view
  pub no_trace : OnlySo (empty_engine history) (accepted events) now

-- lines may be answered so; and where a new engine answers them, the headline holds
pub record AnswersWithHeadline (old new : Machine) (lines : List (List ℕ)) (answers : List Answer) : Type 0 where
  pub run : Runs old new lines answers
  pub headline : (history : ℕ) → old ≡ new_machine history → Headline history run.events (state_of new)

-- it holds of every run from an empty engine
abbrev pub HeadlineHolds : Type 0
HeadlineHolds = (history : ℕ) (events : List Event) (now : EngineState) → Run (empty_engine history) events now → Headline history events now

-- Whatever a line is, its entries are the exact differences that it makes in the rows of views, one for each view whose rows are
-- another bag, and none else.
abbrev pub EntriesAreExact : Type 0
EntriesAreExact =
    (old new : EngineState) (line : List ℕ) (answer : Answer) (entries : Entries)
    → EngineStep old line answer entries new → AreEntries old.views old.graph.content new.graph.content new.tick entries
