-- The engine as a machine: the steps that a line allows (own). What is promised of the plans of views and of the numbers of their steps stands in
-- `KeptStep`.
use Rattle.std.specs.Prelude.{◌≡◌, ◌≢◌, ℕ, ◌≤◌, ◌⊎◌, List, [], ◌∷◌, ◌++◌, length, map, Result, Ok, Err}
use Rattle.std.specs.List.{AllByRecursion}
use Rattle.cy_lexer.specs.declared.faults.LexFault.{LexFault}
use Rattle.cy_lexer.specs.declared.tokens.Token.{Token}
use Rattle.cy_lexer.specs.Line.{longest_line}
use Rattle.cy_lexer.specs.Tokens.{tokens_of}
use Rattle.cy_parser.specs.declared.faults.ParseFault.{ParseFault}
use Rattle.cy_parser.specs.declared.faults.ParseFault.TheVariants as parse
use Rattle.cy_parser.specs.Faults.{PointsAtPlace}
use Rattle.cy_parser_grammar.specs.SpellsClauses.{SpellsStatement}
use Rattle.cy_trees.specs.Trees.{Statement}
use Rattle.cy_values.specs.declared.rows.Cell.{Cell}
use Rattle.cy_values.specs.Bag.{count_of}
use Rattle.cy_graph.specs.Graph.{Content}
use Rattle.cy_index.specs.declared.keys.Pair.{Pair}
use Rattle.cy_oneshot_meaning.specs.Queries.{statement_columns}
use Rattle.cy_updates_meaning.specs.Counts.{Counts}
use Rattle.cy_feeds.specs.declared.feeds.Answer as feeds
use Rattle.cy_feeds.specs.declared.feeds.Answer.TheVariants.{Entries as Since, Lagged}
use Rattle.cy_feeds.specs.Feeds.{answer_since}
use Rattle.cy_feeds.specs.Following.{last_count}
use Rattle.cy_engine_views.specs.RegisteredViews.{AreEntries, AreRowsOf, Entries, View, fed, listed, rows_of, without}
use Rattle.cy_engine_lines.specs.declared.faults.Fault.{Fault}
use Rattle.cy_engine_lines.specs.declared.faults.Fault.TheVariants as fault
use Rattle.cy_engine_lines.specs.declared.replies.Changed.{Changed}
use Rattle.cy_engine_lines.specs.declared.replies.Reply.{Reply}
use Rattle.cy_engine_lines.specs.declared.replies.Reply.TheVariants as reply
use Rattle.cy_engine_lines.specs.Requests.{Asks, Request, Nothing, StatementOf, ViewOf, RowsOf, SinceOf, ListOfViews, ListOfSteps, DropOf, IndexOf, Refused, request}
use Rattle.cy_engine_lines.specs.State.{EngineState}
use Rattle.cy_engine_lines.specs.Verdicts.{Executed, statement_verdict, view_verdict, rows_verdict, since_verdict, index_verdict}

-- ---- what is answered

abbrev pub Answer : Type 0
Answer = Result Reply Fault

-- the rows, each once, in canonical order, with their counts, that a view's query means on the graph
abbrev pub AreRows : EngineState → View → List (List Cell × ℕ) → Type 0
AreRows state view rows = AreRowsOf view.query state.graph.content rows

-- ---- what a line may lead to, from the state old: an answer, entries and the state new

-- the line is refused, makes no entry and leaves all as it was
pub record IsRefused (why : Fault) (old : EngineState) (answer : Answer) (entries : Entries) (new : EngineState) : Type 0 where
  pub answered : answer ≡ Err why
  pub no_entries : entries ≡ []
  pub state : new ≡ old

-- the line is answered, makes no entry and leaves all as it was
pub record IsReplied (reply : Reply) (old : EngineState) (answer : Answer) (entries : Entries) (new : EngineState) : Type 0 where
  pub answered : answer ≡ Ok reply
  pub no_entries : entries ≡ []
  pub state : new ≡ old

-- no row of these views counts more than 2^62 - 1
abbrev pub AreBounded : Content → List View → Type 0
AreBounded graph views = AllByRecursion (λ (v : View). (row : List Cell) → count_of row (rows_of v.query graph) ≤ last_count) views

-- how many nodes and relationships were made and removed, as a reply has it
abbrev pub changed_by : Counts → Changed
changed_by counts = record { nodes_made = counts.made_nodes; nodes_gone = counts.gone_nodes; rels_made = counts.made_rels; rels_gone = counts.gone_rels }

pub record IsExecuted (executed : Executed) (old : EngineState) (answer : Answer) (entries : Entries) (new : EngineState) : Type 0 where
  pub answered : answer ≡ Ok (reply.Statement (changed_by executed.outcome.counts) executed.outcome.columns executed.outcome.rows)
  pub entries_are : AreEntries old.views old.graph.content executed.outcome.graph.content executed.tick entries
  -- no row of a view counts more than 2^62 - 1 after it: else it is refused
  pub bounded : AreBounded new.graph.content new.views
  pub state : new ≡ record old { graph = executed.outcome.graph; views = map (fed entries) old.views; tick = executed.tick }

pub record IsMade (view : View) (old : EngineState) (answer : Answer) (entries : Entries) (new : EngineState) : Type 0 where
  pub answered : answer ≡ Ok (reply.Made (statement_columns view.query) view.made view.name)
  pub no_entries : entries ≡ []
  -- no row of a view counts more than 2^62 - 1: else it is refused
  pub bounded : AreBounded new.graph.content new.views
  pub state : new ≡ record old { views = old.views ++ view ∷ []; tick = view.made }

-- the view of the name is gone, and nothing else differs
pub record IsDropped (view : View) (old : EngineState) (answer : Answer) (entries : Entries) (new : EngineState) : Type 0 where
  pub answered : answer ≡ Ok (reply.Dropped view.name)
  pub no_entries : entries ≡ []
  pub state : new ≡ record old { views = without view.name old.views }

-- the label and the key have an index, and nothing else differs
pub record IsIndexed (pair : Pair) (old : EngineState) (answer : Answer) (entries : Entries) (new : EngineState) : Type 0 where
  pub answered : answer ≡ Ok (reply.Index pair.label pair.key)
  pub no_entries : entries ≡ []
  pub state : new ≡ record old { indexes = old.indexes ++ pair ∷ [] }

-- a statement is executed, or refused
abbrev pub Executes : Result Executed Fault → EngineState → Answer → Entries → EngineState → Type 0
Executes (Ok executed) = IsExecuted executed
Executes (Err why) = IsRefused why

-- a view is made, or refused
abbrev pub Makes : Result View Fault → EngineState → Answer → Entries → EngineState → Type 0
Makes (Ok view) = IsMade view
Makes (Err why) = IsRefused why

-- an index is made, or refused
abbrev pub Indexes : Result Pair Fault → EngineState → Answer → Entries → EngineState → Type 0
Indexes (Ok pair) = IsIndexed pair
Indexes (Err why) = IsRefused why

-- a view goes, or there is no such view
abbrev pub Drops : Result View Fault → EngineState → Answer → Entries → EngineState → Type 0
Drops (Ok view) = IsDropped view
Drops (Err why) = IsRefused why

-- the rows of a view are shown, or there is no such view
abbrev pub Shows : List ℕ → Result View Fault → EngineState → Answer → Entries → EngineState → Type 0
Shows name (Ok view) old answer entries new =
    (rows : List (List Cell × ℕ)) × AreRows old view rows × IsReplied (reply.Rows rows old.tick name) old answer entries new
Shows name (Err why) old answer entries new = IsRefused why old answer entries new

-- what a feed says of a tick is answered: the entries above it; or, where some of these may be gone, the rows
abbrev pub ShowsAnswer : List ℕ → View → feeds.Answer → EngineState → Answer → Entries → EngineState → Type 0
ShowsAnswer name view (Since changes) old = IsReplied (reply.Entries changes old.tick name) old
ShowsAnswer name view Lagged old = Shows name (Ok view) old

-- what changed in a view since a tick, or there is no such view or tick
abbrev pub AnswersSince : List ℕ → ℕ → Result View Fault → EngineState → Answer → Entries → EngineState → Type 0
AnswersSince name tick (Ok view) old = ShowsAnswer name view (answer_since tick view.feed) old
AnswersSince name tick (Err why) old = IsRefused why old

-- a number of steps is listed for each view, by its name
pub record IsListOfSteps (old : EngineState) (answer : Answer) (entries : Entries) (new : EngineState) : Type 0 where
  pub steps : List (List ℕ × ℕ)
  pub named : map (λ s. s.0) steps ≡ map (λ v. v.name) old.views
  pub replied : IsReplied (reply.Steps steps) old answer entries new

-- the parser may refuse tokens with this fault: they spell no statement, and it points at one of them or at the line's end. No
-- tokens at all are unexpected there; and out of memory is none of its faults
pub record IsUnspelt (line : List ℕ) (tokens : List Token) (why : ParseFault) : Type 0 where
  pub unspelt : (tree : Statement) → SpellsStatement line tree tokens → ⊥
  pub place : PointsAtPlace tokens (length line) why
  pub none : tokens ≡ [] → why ≡ parse.Unexpected (length line)
  pub reason : why ≢ parse.NoMemory

-- the tokens spell a tree, with which it goes on, or the parser refuses them
abbrev pub Reads : List ℕ → List Token → (Statement → EngineState → Answer → Entries → EngineState → Type 0) → EngineState → Answer → Entries → EngineState → Type 0
Reads line tokens goes_on old answer entries new =
    ((tree : Statement) × SpellsStatement line tree tokens × goes_on tree old answer entries new)
    ⊎ ((why : ParseFault) × IsUnspelt line tokens why × IsRefused (fault.Parse why) old answer entries new)

-- what a request leads to
abbrev pub Answers : List ℕ → Request → EngineState → Answer → Entries → EngineState → Type 0
Answers line Nothing old = IsReplied reply.Nothing old
Answers line (StatementOf tokens) old = Reads line tokens (λ tree. Executes (statement_verdict tree old)) old
Answers line (ViewOf name tokens) old = Reads line tokens (λ tree. Makes (view_verdict tree name old)) old
Answers line (RowsOf name) old = Shows name (rows_verdict name old) old
Answers line (SinceOf name tick) old = AnswersSince name tick (since_verdict name tick old) old
Answers line ListOfViews old = IsReplied (reply.Views (map listed old.views)) old
Answers line ListOfSteps old = IsListOfSteps old
Answers line (DropOf name) old = Drops (rows_verdict name old) old
Answers line (IndexOf label key) old = Indexes (index_verdict label key old) old
Answers line (Refused why) old = IsRefused why old

-- a line that isn't made of tokens is refused; any other is answered as it asks
abbrev pub Lexed : List ℕ → Result (List Token) LexFault → EngineState → Answer → Entries → EngineState → Type 0
Lexed line (Err why) = IsRefused (fault.Lex why)
Lexed line (Ok tokens) = Answers line (request line tokens)

-- the tokens spell a statement that nothing in it is against
pub record WouldExecute (line : List ℕ) (tokens : List Token) (old : EngineState) : Type 0 where
  pub tree : Statement
  pub executed : Executed
  pub spelt : SpellsStatement line tree tokens
  pub verdict : statement_verdict tree old ≡ Ok executed

-- they spell the query of a view that nothing in it is against
pub record WouldMake (line name : List ℕ) (tokens : List Token) (old : EngineState) : Type 0 where
  pub tree : Statement
  pub view : View
  pub spelt : SpellsStatement line tree tokens
  pub verdict : view_verdict tree name old ≡ Ok view

-- what is asked for may need too many rows: such a statement, or such a view
abbrev pub MayNeedRows : List ℕ → Request → EngineState → Type 0
MayNeedRows line (StatementOf tokens) old = WouldExecute line tokens old
MayNeedRows line (ViewOf name tokens) old = WouldMake line name tokens old
MayNeedRows line asked old = ⊥

-- What is lacking may refuse a line that else is answered: memory, where the line isn't too long and isn't one without tokens, since tokens take
-- memory; and numbers for the rows that keep views up.
abbrev pub Lacks : List ℕ → EngineState → Fault → Type 0
Lacks line old why =
    ((why ≡ fault.NoMemory) × (length line ≤ longest_line) × (tokens_of line ≢ Ok []))
    ⊎ ((why ≡ fault.TooManyRows) × ((asked : Request) × Asks line asked × MayNeedRows line asked old))

-- From old, the machine may answer the line so, make these entries and go on to new.
abbrev pub EngineStep : EngineState → List ℕ → Answer → Entries → EngineState → Type 0
EngineStep old line answer entries new =
    ((why : Fault) × Lacks line old why × IsRefused why old answer entries new)
    ⊎ Lexed line (tokens_of line) old answer entries new
