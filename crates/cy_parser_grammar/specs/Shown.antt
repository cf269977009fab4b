-- The tokens of the text that show writes (own).
use Rattle.std.specs.Prelude.{◌≡◌, ℕ, true, List, ◌++◌, map, Ok}
use Rattle.cy_lexer.specs.declared.tokens.Token.{Token}
use Rattle.cy_lexer.specs.Spans.{slice_of}
use Rattle.cy_lexer.specs.Tokens.{tokens_of}
use Rattle.cy_trees.specs.Trees.{Item, Projection, Clause, «with», «return», Query, Statement}

-- the tokens stand one after another among those of the line
abbrev pub AreNeighbours : List ℕ → List Token → Type 0
AreNeighbours line ts = (before : List Token) × (after : List Token) × (tokens_of line ≡ Ok (before ++ (ts ++ after)))

-- the tokens of a line have the kinds and the texts of the tokens of another line, one for each, in order
abbrev pub AreAlike : List ℕ → List Token → List ℕ → List Token → Type 0
AreAlike line ts other us = (map (λ t. t.kind) ts ≡ map (λ u. u.kind) us) × (map (slice_of line) ts ≡ map (slice_of other) us)

-- the statement, with each column after AS
abbrev pub named_item : Item → Item
named_item i = record i { named = true }

abbrev pub named_projection : Projection → Projection
named_projection p = record p { items = map named_item p.items }

abbrev pub named_clause : Clause → Clause
named_clause («with» p filter) = «with» (named_projection p) filter
named_clause («return» p) = «return» (named_projection p)
named_clause c = c

abbrev pub named_query : Query → Query
named_query q = record { clauses = map named_clause q.clauses }

abbrev pub with_columns : Statement → Statement
with_columns s = record { queries = map named_query s.queries; all = s.all }
