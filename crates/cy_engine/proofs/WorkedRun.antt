-- A run of worked lines from a new engine, computed: what each is answered, the entries that it makes, and the state after it.
use Rattle.std.proofs.Common.{◌≡◌, ◌<◌, ◌≤◌, ℕ, ◌+◌, pos, List, [], ◌∷◌, Result, Ok, Err, refl, sym, subst, inl, inr, arith}
use Rattle.std.specs.Prelude.{codes}
use Rattle.std.specs.Ordering.{eq_by_cmp}
use Rattle.std.specs.Str.{chars}
use Rattle.std.specs.Char.{encode_utf8}
use Rattle.std.specs.Cmp.{IsTotalOrder}
use Rattle.std.specs.declared.cmp.Ordering.TheVariants.{Equal}
use Rattle.std.proofs.lemmas.List.Sums.{count_by-le-length}
use Rattle.cy_lexer.specs.declared.faults.LexFault.{LexFault}
use Rattle.cy_lexer.specs.declared.keywords.Keyword.TheVariants as word
use Rattle.cy_lexer.specs.declared.tokens.Token.{Token}
use Rattle.cy_lexer.specs.Tokens.{tokens_of}
use Rattle.cy_parser_grammar.specs.Words.{denotes, slice_in}
use Rattle.cy_scope_kinds.specs.declared.faults.ScopeFault.TheVariants as scope
use Rattle.cy_scope.specs.Resolved.{resolved_statement}
use Rattle.cy_trees.specs.Trees.{integer, null, Statement}
use Rattle.cy_values.specs.declared.scalars.Value.{Value}
use Rattle.cy_values.specs.declared.scalars.Value.TheVariants as value
use Rattle.cy_values.specs.declared.rows.Cell.{Cell}
use Rattle.cy_values.specs.declared.rows.Cell.TheVariants as cell
use Rattle.cy_values.specs.Bag.{count_of, IsCanonical}
use Rattle.cy_values.specs.Order.{row_cmp}
use Rattle.cy_graph.specs.declared.nodes.Node.{Node}
use Rattle.cy_engine_lines.specs.declared.faults.Fault.TheVariants as fault
use Rattle.cy_engine_lines.specs.declared.replies.Reply.TheVariants as reply
use Rattle.cy_bags.specs.Difference.{IsDifference}
use Rattle.cy_bags.specs.declared.changes.Entry.{Entry}
use Rattle.cy_engine_lines.specs.Requests.{request}
use Rattle.cy_engine.specs.Runs.{Event, Run}
use Rattle.cy_engine_lines.specs.State.{EngineState, empty_engine}
use Rattle.cy_feeds.specs.Following.{last_count}
use Rattle.cy_engine_views.specs.RegisteredViews.{Entries, View}
use Rattle.cy_engine_lines.specs.EngineStep.{Answer, Answers, Lexed, EngineStep}
use Rattle.cy_bags.specs.internal.Counting.{counted_rows}
use Rattle.cy_bags.specs.internal.Surplus.{surplus_of}
use Rattle.cy_bags.proofs.Counting.{bag_of_counted}
use Rattle.cy_bags.proofs.Surpluses.{is_surplus}
use Rattle.cy_engine.proofs.WorkedLines.{digit, keyword, create_line, create_lexed, create_tree, create_tokens, create_spelt, view_line, view_lexed, view_tokens, query_tree, query_spelt, rows_line, rows_lexed, rows_tokens, set_line, set_lexed, set_tokens, set_tree, set_spelt, unknown_line, unknown_lexed, unknown_spelt, null_line, null_lexed, null_spelt_whole, delete_line, delete_lexed, delete_tokens, delete_tree, delete_spelt, bare_line, bare_lexed, bare_tokens, bare_tree, bare_spelt}

-- ---- the states

abbrev pub node : Value → Node
node v = record { labels = (codes "A", tt) ∷ []; props = (codes "k", v) ∷ [] }

abbrev pub bare : Node
bare = record { labels = (codes "A", tt) ∷ []; props = [] }

-- `MATCH (n:A) RETURN n.k`, with its columns
abbrev pub keys : Statement
keys = resolved_statement query_tree

-- with the entries that went into its feed
abbrev pub view : List Entry → View
view entries = record { name = codes "v"; query = keys; made = 2; feed = record { limit = 64; base = 2; entries = entries } }

-- an engine with one node, of this number, or with none
abbrev pub one : ℕ → Node → ℕ → List View → EngineState
one id n tick views = record { graph = record { content = record { nodes = (record { 0 = id }, n) ∷ []; rels = [] }; next_node = id + 1; next_rel = 1 }; indexes = []; views = views; tick = tick; history = 64 }

abbrev pub none : ℕ → List View → EngineState
none tick views = record { graph = record { content = record { nodes = []; rels = [] }; next_node = 2; next_rel = 1 }; indexes = []; views = views; tick = tick; history = 64 }

abbrev pub int : ℕ → Value
int n = value.Int (pos n)

-- no row counts too often
one_bounded : (v : Value) (r : List Cell) → count_of r ((cell.Value v ∷ []) ∷ []) ≤ last_count
one_bounded v r = omega (arith, count_by-le-length (eq_by_cmp row_cmp r) ((cell.Value v ∷ []) ∷ []))

-- what a statement is answered that made and removed this many nodes
abbrev pub statement : ℕ → ℕ → Answer
statement made gone = Ok (reply.Statement (record { nodes_made = made; nodes_gone = gone; rels_made = 0; rels_gone = 0 }) [] [])

abbrev pub row : Value → List Cell
row v = cell.Value v ∷ []

-- the rows of a value, with its count
abbrev pub counted : Value → List (List Cell × ℕ)
counted v = (row v, 1) ∷ []

abbrev change_at : ℕ → List (List Cell × ℕ) → List (List Cell × ℕ) → Entry
change_at tick removed added = record { tick = tick; change = record { removed = removed; added = added } }

abbrev pub entry : ℕ → List (List Cell × ℕ) → List (List Cell × ℕ) → Entries
entry tick removed added = (codes "v", change_at tick removed added) ∷ []

-- the entries in its feed after each of the lines that make one
abbrev pub fed_set : List Entry
fed_set = change_at 3 (counted (int 7)) (counted (int 8)) ∷ []

abbrev pub fed_null : List Entry
fed_null = change_at 3 (counted (int 7)) (counted (int 8)) ∷ change_at 4 (counted (int 8)) (counted value.Null) ∷ []

abbrev pub fed_deleted : List Entry
fed_deleted = change_at 3 (counted (int 7)) (counted (int 8)) ∷ change_at 4 (counted (int 8)) (counted value.Null) ∷ change_at 5 (counted value.Null) [] ∷ []

abbrev pub fed_created : List Entry
fed_created =
    change_at 3 (counted (int 7)) (counted (int 8)) ∷ change_at 4 (counted (int 8)) (counted value.Null) ∷ change_at 5 (counted value.Null) [] ∷ change_at 6 [] (counted value.Null) ∷ []

-- ---- steps

-- a line of these tokens is answered as it asks
lexed : (old new : EngineState) (line : List ℕ) (tokens : List Token) (answer : Answer) (entries : Entries) → tokens_of line ≡ Ok tokens
    → Answers line (request line tokens) old answer entries new → EngineStep old line answer entries new
lexed old new line tokens answer entries are answers = inr (subst (λ (r : Result (List Token) LexFault). Lexed line r old answer entries new) (sym are) answers)

-- `CREATE (:A {k: 7})`
pub created : EngineStep (empty_engine 64) create_line (statement 1 0) [] (one 1 (node (int 7)) 1 [])
created = lexed (empty_engine 64) (one 1 (node (int 7)) 1 []) create_line create_tokens (statement 1 0) [] create_lexed
    (inl (create_tree, create_spelt, record { answered = refl; entries_are = refl; bounded = tt; state = refl }))

-- `:view v MATCH (n:A) RETURN n.k`
pub made : EngineStep (one 1 (node (int 7)) 1 []) view_line (Ok (reply.Made (codes "n.k" ∷ []) 2 (codes "v"))) [] (one 1 (node (int 7)) 2 (view [] ∷ []))
unfolding denotes slice_in chars encode_utf8
made = lexed (one 1 (node (int 7)) 1 []) (one 1 (node (int 7)) 2 (view [] ∷ [])) view_line view_tokens (Ok (reply.Made (codes "n.k" ∷ []) 2 (codes "v"))) [] view_lexed
    (inl (query_tree, query_spelt, record { answered = refl; no_entries = refl; bounded = (one_bounded (int 7), tt); state = refl }))

-- `MATCH (n:A) SET m.k = 9`
pub unknown : (tick : ℕ) (views : List View) → EngineStep (one 1 (node (int 8)) tick views) unknown_line (Err (fault.Scope scope.UnknownVariable)) [] (one 1 (node (int 8)) tick views)
unknown tick views = lexed (one 1 (node (int 8)) tick views) (one 1 (node (int 8)) tick views) unknown_line (set_tokens (digit 9 22 ∷ [])) (Err (fault.Scope scope.UnknownVariable)) [] unknown_lexed
    (inl (set_tree (codes "m") (integer (pos 9)), unknown_spelt, record { answered = refl; no_entries = refl; state = refl }))

counts_once : 0 < 1
counts_once = omega arith

abbrev answered : List ℕ → Answer → Entries → Event
answered line answer entries = record { line = line; answer = answer; entries = entries }

abbrev pub worked_lines : List Event
worked_lines =
    answered create_line (statement 1 0) []
    ∷ answered view_line (Ok (reply.Made (codes "n.k" ∷ []) 2 (codes "v"))) []
    ∷ answered rows_line (Ok (reply.Rows (counted (int 7)) 2 (codes "v"))) []
    ∷ answered set_line (statement 0 0) (entry 3 (counted (int 7)) (counted (int 8)))
    ∷ answered set_line (statement 0 0) []
    ∷ answered unknown_line (Err (fault.Scope scope.UnknownVariable)) []
    ∷ answered null_line (statement 0 0) (entry 4 (counted (int 8)) (counted value.Null))
    ∷ answered delete_line (statement 0 1) (entry 5 (counted value.Null) [])
    ∷ answered bare_line (statement 1 0) (entry 6 [] (counted value.Null))
    ∷ []

module _ (total : IsTotalOrder row_cmp) (same : (x y : List Cell) → row_cmp x y ≡ Equal → x ≡ y) where
  -- the surplus of counted rows is the difference of the bags
  difference : (before after : List (List Cell)) → IsCanonical (counted_rows before) → IsCanonical (counted_rows after)
      → IsDifference before after (record { removed = surplus_of (counted_rows before) (counted_rows after); added = surplus_of (counted_rows after) (counted_rows before) })
  difference before after old new =
      let gone = is_surplus total same (counted_rows before) (counted_rows after) old in
      let come = is_surplus total same (counted_rows after) (counted_rows before) new in record {
        removed = record { counts = λ row. omega (arith, gone.counts row, bag_of_counted total same before row, bag_of_counted total same after row); canonical = gone.canonical };
        added = record { counts = λ row. omega (arith, come.counts row, bag_of_counted total same before row, bag_of_counted total same after row); canonical = come.canonical };
      }

  -- `:rows v`
  pub shown : EngineStep (one 1 (node (int 7)) 2 (view [] ∷ [])) rows_line (Ok (reply.Rows (counted (int 7)) 2 (codes "v"))) [] (one 1 (node (int 7)) 2 (view [] ∷ []))
  unfolding denotes slice_in chars encode_utf8
  shown = lexed (one 1 (node (int 7)) 2 (view [] ∷ [])) (one 1 (node (int 7)) 2 (view [] ∷ [])) rows_line rows_tokens (Ok (reply.Rows (counted (int 7)) 2 (codes "v"))) [] rows_lexed
      (counted (int 7), record { bag = bag_of_counted total same (row (int 7) ∷ []); canonical = counts_once }, record { answered = refl; no_entries = refl; state = refl })

  -- `MATCH (n:A) SET n.k = 8`
  pub set_once : EngineStep (one 1 (node (int 7)) 2 (view [] ∷ [])) set_line (statement 0 0) (entry 3 (counted (int 7)) (counted (int 8))) (one 1 (node (int 8)) 3 (view fed_set ∷ []))
  set_once = lexed (one 1 (node (int 7)) 2 (view [] ∷ [])) (one 1 (node (int 8)) 3 (view fed_set ∷ [])) set_line (set_tokens (digit 8 22 ∷ [])) (statement 0 0) (entry 3 (counted (int 7)) (counted (int 8))) set_lexed
      (inl (
        set_tree (codes "n") (integer (pos 8)),
        set_spelt,
        record {
          answered = refl;
          entries_are = inr (
            _,
            [],
            refl,
            record {
              differs = λ (are : (r : List Cell) → count_of r (row (int 7) ∷ []) ≡ count_of r (row (int 8) ∷ [])). let wrong : 1 ≡ 0 = are (row (int 7)) in absurd (omega (arith, wrong));
              tick_is = refl;
              difference = difference (row (int 7) ∷ []) (row (int 8) ∷ []) counts_once counts_once;
            },
            refl,
          );
          bounded = (one_bounded (int 8), tt);
          state = refl;
        },
      ))

  -- the same again
  pub set_again : EngineStep (one 1 (node (int 8)) 3 (view fed_set ∷ [])) set_line (statement 0 0) [] (one 1 (node (int 8)) 3 (view fed_set ∷ []))
  set_again = lexed (one 1 (node (int 8)) 3 (view fed_set ∷ [])) (one 1 (node (int 8)) 3 (view fed_set ∷ [])) set_line (set_tokens (digit 8 22 ∷ [])) (statement 0 0) [] set_lexed
      (inl (set_tree (codes "n") (integer (pos 8)), set_spelt, record { answered = refl; entries_are = inl ((λ r. refl), refl); bounded = (one_bounded (int 8), tt); state = refl }))

  -- `MATCH (n:A) SET n.k = null`
  pub set_null : EngineStep (one 1 (node (int 8)) 3 (view fed_set ∷ [])) null_line (statement 0 0) (entry 4 (counted (int 8)) (counted value.Null)) (one 1 bare 4 (view fed_null ∷ []))
  set_null = lexed (one 1 (node (int 8)) 3 (view fed_set ∷ [])) (one 1 bare 4 (view fed_null ∷ [])) null_line (set_tokens (keyword word.Null 22 26 ∷ [])) (statement 0 0) (entry 4 (counted (int 8)) (counted value.Null)) null_lexed
      (inl (
        set_tree (codes "n") null,
        null_spelt_whole,
        record {
          answered = refl;
          entries_are = inr (
            _,
            [],
            refl,
            record {
              differs = λ (are : (r : List Cell) → count_of r (row (int 8) ∷ []) ≡ count_of r (row value.Null ∷ [])). let wrong : 1 ≡ 0 = are (row (int 8)) in absurd (omega (arith, wrong));
              tick_is = refl;
              difference = difference (row (int 8) ∷ []) (row value.Null ∷ []) counts_once counts_once;
            },
            refl,
          );
          bounded = (one_bounded value.Null, tt);
          state = refl;
        },
      ))

  -- `MATCH (n:A) DETACH DELETE n`
  pub deleted : EngineStep (one 1 bare 4 (view fed_null ∷ [])) delete_line (statement 0 1) (entry 5 (counted value.Null) []) (none 5 (view fed_deleted ∷ []))
  deleted = lexed (one 1 bare 4 (view fed_null ∷ [])) (none 5 (view fed_deleted ∷ [])) delete_line delete_tokens (statement 0 1) (entry 5 (counted value.Null) []) delete_lexed
      (inl (
        delete_tree,
        delete_spelt,
        record {
          answered = refl;
          entries_are = inr (
            _,
            [],
            refl,
            record {
              differs = λ (are : (r : List Cell) → count_of r (row value.Null ∷ []) ≡ count_of r []). let wrong : 1 ≡ 0 = are (row value.Null) in absurd (omega (arith, wrong));
              tick_is = refl;
              difference = difference (row value.Null ∷ []) [] counts_once tt;
            },
            refl,
          );
          bounded = (λ r. omega arith, tt);
          state = refl;
        },
      ))

  -- `CREATE (:A)`: the node has the next number
  pub created_again : EngineStep (none 5 (view fed_deleted ∷ [])) bare_line (statement 1 0) (entry 6 [] (counted value.Null)) (one 2 bare 6 (view fed_created ∷ []))
  created_again = lexed (none 5 (view fed_deleted ∷ [])) (one 2 bare 6 (view fed_created ∷ [])) bare_line bare_tokens (statement 1 0) (entry 6 [] (counted value.Null)) bare_lexed
      (inl (
        bare_tree,
        bare_spelt,
        record {
          answered = refl;
          entries_are = inr (
            _,
            [],
            refl,
            record {
              differs = λ (are : (r : List Cell) → count_of r [] ≡ count_of r (row value.Null ∷ [])). let wrong : 0 ≡ 1 = are (row value.Null) in absurd (omega (arith, wrong));
              tick_is = refl;
              difference = difference [] (row value.Null ∷ []) tt counts_once;
            },
            refl,
          );
          bounded = (one_bounded value.Null, tt);
          state = refl;
        },
      ))

  -- the lines one after another
  worked_run : Run (empty_engine 64) worked_lines (one 2 bare 6 (view fed_created ∷ []))
  worked_run =
      (_, created, (_, made, (_, shown, (_, set_once, (_, set_again, (_, unknown 3 (view fed_set ∷ []), (_, set_null, (_, deleted, (_, created_again, refl)))))))))
