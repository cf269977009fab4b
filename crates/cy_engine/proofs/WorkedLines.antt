-- Worked lines: the tokens of each, and the tree that they spell, computed.
use Rattle.std.proofs.Common.{◌≡◌, ℕ, ◌+◌, ◌<◌, true, false, pos, List, [], ◌∷◌, Some, None, Ok, refl, arith}
use Rattle.std.specs.Prelude.{codes}
use Rattle.std.specs.Str.{chars}
use Rattle.std.specs.Char.{encode_utf8}
use Rattle.unicode_ident.proofs.Computing.{unicode_ident}
use Rattle.cy_lexer.specs.declared.keywords.Keyword.{Keyword}
use Rattle.cy_lexer.specs.declared.keywords.Keyword.TheVariants as word
use Rattle.cy_lexer.specs.declared.symbols.Symbol.{Symbol}
use Rattle.cy_lexer.specs.declared.symbols.Symbol.TheVariants as sign
use Rattle.cy_lexer.specs.declared.tokens.TokenKind.TheVariants as kind
use Rattle.cy_lexer.specs.declared.tokens.Token.{Token}
use Rattle.cy_lexer.specs.Keywords.{keyword_of}
use Rattle.cy_lexer.specs.Symbols.{symbol}
use Rattle.cy_lexer.specs.Tokens.{piece, tokens_from, tokens_of}
use Rattle.cy_trees.specs.declared.expressions.Variable.{Variable}
use Rattle.cy_trees.specs.Trees.{Name, Expression, null, integer, variable, property, MapEntry, NodePattern, Path, Item, Projection, set_property, Where, Clause, «match», «return», create, set, delete, Statement}
use Rattle.cy_parser_grammar.specs.Words.{denotes, slice_in}
use Rattle.cy_lexer.specs.Numbers.{greatest_number}
use Rattle.cy_parser_grammar.specs.Spells as spell
use Rattle.cy_parser_grammar.specs.SpellsClauses.{SpellsStatement, SpellsClause, SpellsQuery, SpellsExpression, SpellsNode, most_levels, reading, updating, ended}
use Rattle.cy_parser_grammar.specs.SpellsClauses as spelt
use Rattle.cy_parser_grammar.proofs.ShownExpressions.{as_whole}

-- ---- tokens and trees

abbrev pub keyword : Keyword → ℕ → ℕ → Token
keyword k from to = record { kind = kind.Keyword k; start = from; end = to }

-- a symbol of one character
abbrev pub mark : Symbol → ℕ → Token
mark s at = record { kind = kind.Symbol s; start = at; end = at + 1 }

-- a name of one letter
abbrev pub letter : ℕ → Token
letter at = record { kind = kind.Name; start = at; end = at + 1 }

-- a number of one digit
abbrev pub digit : ℕ → ℕ → Token
digit n at = record { kind = kind.Number n; start = at; end = at + 1 }

abbrev pub unbound : Name → Variable
unbound n = record { name = n; column = None }

-- a path of a node alone
abbrev pub alone : NodePattern → List Path
alone n = record { start = n; steps = [] } ∷ []

-- `(n:label)`
abbrev pub named_node : Name → Name → NodePattern
named_node n label = record { variable = Some (unbound n); labels = label ∷ []; properties = None }

-- no WHERE
abbrev no_where : Where
no_where = record { test = None; paths = [] }

-- `MATCH (n:label)`
abbrev pub matching : Name → Name → Clause
matching n label = «match» false (alone (named_node n label)) no_where

-- a statement of one query
abbrev one_query : List Clause → Statement
one_query clauses = record { queries = (record { clauses = clauses }) ∷ []; all = false }

as_statement : (line : List ℕ) (clauses : List Clause) (tokens : List Token) → SpellsQuery line reading clauses tokens [] → SpellsStatement line (one_query clauses) tokens
as_statement line clauses tokens is = spelt.one_query (record { clauses = clauses }) tokens [] is spelt.nothing_more

-- ---- what one rule after another spells

module _ (line : List ℕ) where
  number_spelt : (n at : ℕ) (rest : List Token) → n < greatest_number → SpellsExpression line (integer (pos n)) (digit n at ∷ rest) rest
  number_spelt n at rest small = record {
    spells = as_whole line most_levels (integer (pos n)) (digit n at ∷ rest) rest
        (spell.is_postfix most_levels (integer (pos n)) (digit n at ∷ rest) rest (spell.number 256 n (digit n at) rest refl small));
    shallow = omega arith;
  }

  null_spelt : (from to : ℕ) (rest : List Token) → SpellsExpression line null (keyword word.Null from to ∷ rest) rest
  null_spelt from to rest = record {
    spells = as_whole line most_levels null (keyword word.Null from to ∷ rest) rest
        (spell.is_postfix most_levels null (keyword word.Null from to ∷ rest) rest (spell.null_ 256 (keyword word.Null from to) rest refl));
    shallow = omega arith;
  }

  -- `n.k`, where the dot stands at a place
  property_spelt : (n dot k : ℕ) (rest : List Token) →
      SpellsExpression line (property (variable (unbound (denotes line (letter n)))) (denotes line (letter k))) (letter n ∷ mark sign.Dot dot ∷ letter k ∷ rest) rest
  property_spelt n dot k rest =
      let owner = variable (unbound (denotes line (letter n))) in
      let key = denotes line (letter k) in
      let ts = letter n ∷ mark sign.Dot dot ∷ letter k ∷ rest in record {
        spells = as_whole line most_levels (property owner key) ts rest
            (spell.is_postfix most_levels (property owner key) ts rest
            (spell.is_owner most_levels (property owner key) ts rest
            (spell.with_key most_levels owner (mark sign.Dot dot) (letter k) ts rest
            (spell.is_head most_levels owner ts (mark sign.Dot dot ∷ letter k ∷ rest)
            (spell.name 256 (letter n) (mark sign.Dot dot ∷ letter k ∷ rest) refl))
            refl refl)));
        shallow = omega arith;
      }

-- `MATCH (n:A)`, whose first letter stands at a place
abbrev pub match_tokens : ℕ → List Token → List Token
match_tokens at rest =
    keyword word.Match at (at + 5) ∷ mark sign.LeftParenthesis (at + 6) ∷ letter (at + 7) ∷ mark sign.Colon (at + 8) ∷ letter (at + 9)
    ∷ mark sign.RightParenthesis (at + 10) ∷ rest

match_spelt : (line : List ℕ) (at : ℕ) (rest : List Token) → SpellsClause line (matching (denotes line (letter (at + 7))) (denotes line (letter (at + 9)))) (match_tokens at rest) rest
match_spelt line at rest =
    let label = letter (at + 9) ∷ mark sign.RightParenthesis (at + 10) ∷ rest in
    let labels = mark sign.Colon (at + 8) ∷ label in
    let names = letter (at + 7) ∷ labels in
    let node = mark sign.LeftParenthesis (at + 6) ∷ names in
    let n = denotes line (letter (at + 7)) in
    let l = denotes line (letter (at + 9)) in
    let closed = mark sign.RightParenthesis (at + 10) ∷ rest in
    spelt.match_ (alone (named_node n l)) no_where (keyword word.Match at (at + 5)) node rest rest refl
    (spelt.last _ node rest
    (spelt.path (named_node n l) [] node rest rest
    (spelt.node (Some (unbound n)) (l ∷ []) None (mark sign.LeftParenthesis (at + 6)) (mark sign.RightParenthesis (at + 10)) names labels closed rest refl
    (spelt.a_variable (unbound n) names labels (spelt.variable (letter (at + 7)) labels refl))
    (spelt.labels (l ∷ []) (mark sign.Colon (at + 8)) label closed refl (spell.last_label (letter (at + 9)) closed refl))
    (spelt.no_map closed) refl)
    (spelt.no_steps rest)))
    (spelt.no_where rest)

-- ---- `CREATE (:A {k: 7})`

abbrev pub create_line : List ℕ
create_line = codes "CREATE (:A {k: 7})"

abbrev entry_tokens : List Token
entry_tokens = letter 12 ∷ mark sign.Colon 13 ∷ digit 7 15 ∷ mark sign.RightBrace 16 ∷ mark sign.RightParenthesis 17 ∷ []

abbrev map_tokens : List Token
map_tokens = mark sign.LeftBrace 11 ∷ entry_tokens

abbrev created_tokens : List Token
created_tokens = mark sign.Colon 8 ∷ letter 9 ∷ map_tokens

abbrev pub create_tokens : List Token
create_tokens = keyword word.Create 0 6 ∷ mark sign.LeftParenthesis 7 ∷ created_tokens

pub create_lexed : tokens_of create_line ≡ Ok create_tokens
unfolding tokens_of tokens_from piece symbol keyword_of chars encode_utf8 unicode_ident
create_lexed = refl

abbrev seven : MapEntry
seven = record { key = codes "k"; value = integer (pos 7) }

abbrev created_node : NodePattern
created_node = record { variable = None; labels = codes "A" ∷ []; properties = Some (seven ∷ []) }

abbrev pub create_tree : Statement
create_tree = one_query (create (alone created_node) ∷ [])

created_spelt : SpellsNode create_line created_node (mark sign.LeftParenthesis 7 ∷ created_tokens) []
unfolding denotes chars encode_utf8
created_spelt =
    let closed = mark sign.RightParenthesis 17 ∷ [] in
    spelt.node None (codes "A" ∷ []) (Some (seven ∷ [])) (mark sign.LeftParenthesis 7) (mark sign.RightParenthesis 17) created_tokens created_tokens map_tokens [] refl
    (spelt.no_variable created_tokens)
    (spelt.labels (codes "A" ∷ []) (mark sign.Colon 8) (letter 9 ∷ map_tokens) map_tokens refl (spell.last_label (letter 9) map_tokens refl))
    (spelt.map_of (seven ∷ []) (mark sign.LeftBrace 11) (mark sign.RightBrace 16) entry_tokens closed refl
    (spelt.last seven entry_tokens (mark sign.RightBrace 16 ∷ closed)
    (spelt.entry (integer (pos 7)) (letter 12) (mark sign.Colon 13) (digit 7 15 ∷ mark sign.RightBrace 16 ∷ closed) (mark sign.RightBrace 16 ∷ closed) refl refl
    (number_spelt create_line 7 15 (mark sign.RightBrace 16 ∷ closed) (omega arith))))
    refl)
    refl

pub create_spelt : SpellsStatement create_line create_tree create_tokens
create_spelt =
    let node = mark sign.LeftParenthesis 7 ∷ created_tokens in
    as_statement create_line (create (alone created_node) ∷ []) create_tokens (spelt.next_clause reading (create (alone created_node)) [] create_tokens [] [] refl
    (spelt.create_ (alone created_node) (keyword word.Create 0 6) node [] refl
    (spelt.last _ node [] (spelt.path created_node [] node [] [] created_spelt (spelt.no_steps []))))
    (spelt.no_more_clauses updating [] refl))

-- ---- `:view v MATCH (n:A) RETURN n.k`

abbrev pub view_line : List ℕ
view_line = codes ":view v MATCH (n:A) RETURN n.k"

abbrev item_tokens : List Token
item_tokens = letter 27 ∷ mark sign.Dot 28 ∷ letter 29 ∷ []

abbrev return_tokens : List Token
return_tokens = keyword word.Return 20 26 ∷ item_tokens

abbrev pub query_tokens : List Token
query_tokens = match_tokens 8 return_tokens

abbrev pub view_tokens : List Token
view_tokens = mark sign.Colon 0 ∷ record { kind = kind.Name; start = 1; end = 5 } ∷ letter 6 ∷ query_tokens

pub view_lexed : tokens_of view_line ≡ Ok view_tokens
unfolding tokens_of tokens_from piece symbol keyword_of chars encode_utf8 unicode_ident
view_lexed = refl

abbrev pub key : Expression
key = property (variable (unbound (codes "n"))) (codes "k")

abbrev item : Item
item = record { expression = key; column = codes "n.k"; named = false }

abbrev returned : Projection
returned = record { distinct = false; items = item ∷ []; order = []; skip = None; limit = None }

abbrev pub query_tree : Statement
query_tree = one_query (matching (codes "n") (codes "A") ∷ «return» returned ∷ [])

returned_spelt : SpellsQuery view_line reading («return» returned ∷ []) return_tokens []
unfolding denotes slice_in chars encode_utf8
returned_spelt =
    spelt.next_clause reading («return» returned) [] return_tokens [] [] refl
    (spelt.return_ returned (keyword word.Return 20 26) item_tokens [] refl
    (spelt.projection false (item ∷ []) [] None None item_tokens item_tokens [] [] [] [] (spelt.not_distinct item_tokens)
    (spelt.last item item_tokens [] (spelt.item key item_tokens [] (property_spelt view_line 27 28 29 [])))
    (spelt.no_order []) (spelt.no_count []) (spelt.no_count [])))
    (spelt.no_more_clauses ended [] refl)

pub query_spelt : SpellsStatement view_line query_tree query_tokens
unfolding denotes chars encode_utf8
query_spelt =
    as_statement view_line (matching (codes "n") (codes "A") ∷ «return» returned ∷ []) query_tokens
    (spelt.next_clause reading (matching (codes "n") (codes "A")) («return» returned ∷ []) query_tokens return_tokens [] refl (match_spelt view_line 8 return_tokens) returned_spelt)

-- ---- `:rows v`

abbrev pub rows_line : List ℕ
rows_line = codes ":rows v"

abbrev pub rows_tokens : List Token
rows_tokens = mark sign.Colon 0 ∷ record { kind = kind.Name; start = 1; end = 5 } ∷ letter 6 ∷ []

pub rows_lexed : tokens_of rows_line ≡ Ok rows_tokens
unfolding tokens_of tokens_from piece symbol keyword_of chars encode_utf8 unicode_ident
rows_lexed = refl

-- ---- `MATCH (n:A) SET n.k = 8`, `MATCH (n:A) SET m.k = 9` and `MATCH (n:A) SET n.k = null`

abbrev pub set_line : List ℕ
set_line = codes "MATCH (n:A) SET n.k = 8"

abbrev pub unknown_line : List ℕ
unknown_line = codes "MATCH (n:A) SET m.k = 9"

abbrev pub null_line : List ℕ
null_line = codes "MATCH (n:A) SET n.k = null"

-- `n.k = ` with the value's tokens
abbrev set_item_tokens : List Token → List Token
set_item_tokens value = letter 16 ∷ mark sign.Dot 17 ∷ letter 18 ∷ mark sign.Equal 20 ∷ value

abbrev pub set_tokens : List Token → List Token
set_tokens value = match_tokens 0 (keyword word.Set 12 15 ∷ set_item_tokens value)

pub set_lexed : tokens_of set_line ≡ Ok (set_tokens (digit 8 22 ∷ []))
unfolding tokens_of tokens_from piece symbol keyword_of chars encode_utf8 unicode_ident
set_lexed = refl

pub unknown_lexed : tokens_of unknown_line ≡ Ok (set_tokens (digit 9 22 ∷ []))
unfolding tokens_of tokens_from piece symbol keyword_of chars encode_utf8 unicode_ident
unknown_lexed = refl

pub null_lexed : tokens_of null_line ≡ Ok (set_tokens (keyword word.Null 22 26 ∷ []))
unfolding tokens_of tokens_from piece symbol keyword_of chars encode_utf8 unicode_ident
null_lexed = refl

-- `MATCH (n:A) SET v.k = value`
abbrev pub set_tree : Name → Expression → Statement
set_tree v value = one_query (matching (codes "n") (codes "A") ∷ set (set_property (unbound v) (codes "k") value ∷ []) ∷ [])

-- the clause SET, by what its letters and its value spell
set_clause_spelt : (line : List ℕ) (value : Expression) (tokens : List Token) → SpellsExpression line value tokens []
    → SpellsQuery line reading (set (set_property (unbound (denotes line (letter 16))) (denotes line (letter 18)) value ∷ []) ∷ []) (keyword word.Set 12 15 ∷ set_item_tokens tokens) []
set_clause_spelt line value tokens is =
    let item = set_property (unbound (denotes line (letter 16))) (denotes line (letter 18)) value in
    let ts = set_item_tokens tokens in
    spelt.next_clause reading (set (item ∷ [])) [] (keyword word.Set 12 15 ∷ ts) [] [] refl
    (spelt.set_ (item ∷ []) (keyword word.Set 12 15) ts [] refl
    (spelt.last item ts []
    (spelt.set_property_to (unbound (denotes line (letter 16))) value (mark sign.Dot 17) (letter 18) (mark sign.Equal 20) ts tokens []
    (spelt.variable (letter 16) (mark sign.Dot 17 ∷ letter 18 ∷ mark sign.Equal 20 ∷ tokens) refl) refl refl refl is)))
    (spelt.no_more_clauses updating [] refl)

pub set_spelt : SpellsStatement set_line (set_tree (codes "n") (integer (pos 8))) (set_tokens (digit 8 22 ∷ []))
unfolding denotes chars encode_utf8
set_spelt =
    let ts = keyword word.Set 12 15 ∷ set_item_tokens (digit 8 22 ∷ []) in
    as_statement set_line (matching (codes "n") (codes "A") ∷ set (set_property (unbound (codes "n")) (codes "k") (integer (pos 8)) ∷ []) ∷ []) (match_tokens 0 ts)
    (spelt.next_clause reading (matching (codes "n") (codes "A")) (set (set_property (unbound (codes "n")) (codes "k") (integer (pos 8)) ∷ []) ∷ []) (match_tokens 0 ts) ts [] refl
    (match_spelt set_line 0 ts) (set_clause_spelt set_line (integer (pos 8)) (digit 8 22 ∷ []) (number_spelt set_line 8 22 [] (omega arith))))

pub unknown_spelt : SpellsStatement unknown_line (set_tree (codes "m") (integer (pos 9))) (set_tokens (digit 9 22 ∷ []))
unfolding denotes chars encode_utf8
unknown_spelt =
    let ts = keyword word.Set 12 15 ∷ set_item_tokens (digit 9 22 ∷ []) in
    as_statement unknown_line (matching (codes "n") (codes "A") ∷ set (set_property (unbound (codes "m")) (codes "k") (integer (pos 9)) ∷ []) ∷ []) (match_tokens 0 ts)
    (spelt.next_clause reading (matching (codes "n") (codes "A")) (set (set_property (unbound (codes "m")) (codes "k") (integer (pos 9)) ∷ []) ∷ []) (match_tokens 0 ts) ts [] refl
    (match_spelt unknown_line 0 ts) (set_clause_spelt unknown_line (integer (pos 9)) (digit 9 22 ∷ []) (number_spelt unknown_line 9 22 [] (omega arith))))

pub null_spelt_whole : SpellsStatement null_line (set_tree (codes "n") null) (set_tokens (keyword word.Null 22 26 ∷ []))
unfolding denotes chars encode_utf8
null_spelt_whole =
    let ts = keyword word.Set 12 15 ∷ set_item_tokens (keyword word.Null 22 26 ∷ []) in
    as_statement null_line (matching (codes "n") (codes "A") ∷ set (set_property (unbound (codes "n")) (codes "k") null ∷ []) ∷ []) (match_tokens 0 ts)
    (spelt.next_clause reading (matching (codes "n") (codes "A")) (set (set_property (unbound (codes "n")) (codes "k") null ∷ []) ∷ []) (match_tokens 0 ts) ts [] refl
    (match_spelt null_line 0 ts) (set_clause_spelt null_line null (keyword word.Null 22 26 ∷ []) (null_spelt null_line 22 26 [])))

-- ---- `MATCH (n:A) DETACH DELETE n`

abbrev pub delete_line : List ℕ
delete_line = codes "MATCH (n:A) DETACH DELETE n"

abbrev detach_tokens : List Token
detach_tokens = keyword word.Detach 12 18 ∷ keyword word.Delete 19 25 ∷ letter 26 ∷ []

abbrev pub delete_tokens : List Token
delete_tokens = match_tokens 0 detach_tokens

pub delete_lexed : tokens_of delete_line ≡ Ok delete_tokens
unfolding tokens_of tokens_from piece symbol keyword_of chars encode_utf8 unicode_ident
delete_lexed = refl

abbrev pub delete_tree : Statement
delete_tree = one_query (matching (codes "n") (codes "A") ∷ delete true (unbound (codes "n") ∷ []) ∷ [])

detach_spelt : SpellsQuery delete_line reading (delete true (unbound (denotes delete_line (letter 26)) ∷ []) ∷ []) detach_tokens []
detach_spelt =
    let v = unbound (denotes delete_line (letter 26)) in
    spelt.next_clause reading (delete true (v ∷ [])) [] detach_tokens [] [] refl
    (spelt.detach_delete (v ∷ []) (keyword word.Detach 12 18) (keyword word.Delete 19 25) (letter 26 ∷ []) [] refl refl
    (spelt.last v (letter 26 ∷ []) [] (spelt.variable (letter 26) [] refl)))
    (spelt.no_more_clauses ended [] refl)

pub delete_spelt : SpellsStatement delete_line delete_tree delete_tokens
unfolding denotes chars encode_utf8
delete_spelt =
    as_statement delete_line (matching (codes "n") (codes "A") ∷ delete true (unbound (codes "n") ∷ []) ∷ []) delete_tokens
    (spelt.next_clause reading (matching (codes "n") (codes "A")) (delete true (unbound (codes "n") ∷ []) ∷ []) delete_tokens detach_tokens [] refl (match_spelt delete_line 0 detach_tokens) detach_spelt)

-- ---- `CREATE (:A)`

abbrev pub bare_line : List ℕ
bare_line = codes "CREATE (:A)"

abbrev bare_node_tokens : List Token
bare_node_tokens = mark sign.Colon 8 ∷ letter 9 ∷ mark sign.RightParenthesis 10 ∷ []

abbrev pub bare_tokens : List Token
bare_tokens = keyword word.Create 0 6 ∷ mark sign.LeftParenthesis 7 ∷ bare_node_tokens

pub bare_lexed : tokens_of bare_line ≡ Ok bare_tokens
unfolding tokens_of tokens_from piece symbol keyword_of chars encode_utf8 unicode_ident
bare_lexed = refl

abbrev bare_node : NodePattern
bare_node = record { variable = None; labels = codes "A" ∷ []; properties = None }

abbrev pub bare_tree : Statement
bare_tree = one_query (create (alone bare_node) ∷ [])

bare_node_spelt : SpellsNode bare_line bare_node (mark sign.LeftParenthesis 7 ∷ bare_node_tokens) []
unfolding denotes chars encode_utf8
bare_node_spelt =
    let closed = mark sign.RightParenthesis 10 ∷ [] in
    spelt.node None (codes "A" ∷ []) None (mark sign.LeftParenthesis 7) (mark sign.RightParenthesis 10) bare_node_tokens bare_node_tokens closed [] refl
    (spelt.no_variable bare_node_tokens)
    (spelt.labels (codes "A" ∷ []) (mark sign.Colon 8) (letter 9 ∷ closed) closed refl (spell.last_label (letter 9) closed refl))
    (spelt.no_map closed)
    refl

pub bare_spelt : SpellsStatement bare_line bare_tree bare_tokens
bare_spelt =
    let node = mark sign.LeftParenthesis 7 ∷ bare_node_tokens in
    as_statement bare_line (create (alone bare_node) ∷ []) bare_tokens (spelt.next_clause reading (create (alone bare_node)) [] bare_tokens [] [] refl
    (spelt.create_ (alone bare_node) (keyword word.Create 0 6) node [] refl
    (spelt.last _ node [] (spelt.path bare_node [] node [] [] bare_node_spelt (spelt.no_steps []))))
    (spelt.no_more_clauses updating [] refl))
