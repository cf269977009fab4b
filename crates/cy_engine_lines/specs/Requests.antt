-- What a line asks for, by its tokens (own).
use Rattle.std.specs.Prelude.{◌≡◌, ℕ, nat_lt, Bool, true, false, ◌&&◌, List, [], ◌∷◌, Option, None, Some, Ok, codes, if◌then◌else◌}
use Rattle.cy_lexer.specs.declared.tokens.TokenKind.{TokenKind}
use Rattle.cy_lexer.specs.declared.tokens.TokenKind.TheVariants as kind
use Rattle.cy_lexer.specs.declared.tokens.Token.{Token}
use Rattle.cy_lexer.specs.declared.symbols.Symbol.TheVariants as sign
use Rattle.cy_lexer.specs.Keywords.{same_word}
use Rattle.cy_lexer.specs.Tokens.{tokens_of}
use Rattle.cy_parser_grammar.specs.Words.{is_word, denotes, slice_in}
use Rattle.cy_lexer.specs.Numbers.{greatest_number}
use Rattle.cy_engine_lines.specs.declared.faults.Fault.{Fault}
use Rattle.cy_engine_lines.specs.declared.faults.Fault.TheVariants.{UnknownCommand, BadArgument}

pub data Request : Type 0 where
  -- the line has no token
  Nothing : Request
  -- a statement, of these tokens
  StatementOf : (statement : List Token) → Request
  -- `:view NAME query`, of the query's tokens
  ViewOf : (name : List ℕ) → (query : List Token) → Request
  -- `:rows NAME`
  RowsOf : (name : List ℕ) → Request
  -- `:since NAME TICK`
  SinceOf : (name : List ℕ) → (tick : ℕ) → Request
  -- `:views`
  ListOfViews : Request
  -- `:drop NAME`
  DropOf : (name : List ℕ) → Request
  -- `:steps`
  ListOfSteps : Request
  -- `:index LABEL KEY`
  IndexOf : (label : List ℕ) → (key : List ℕ) → Request
  -- a command that is refused
  Refused : Fault → Request

abbrev pub is_colon : TokenKind → Bool
is_colon (kind.Symbol sign.Colon) = true
is_colon _ = false

abbrev pub is_semicolon : TokenKind → Bool
is_semicolon (kind.Symbol sign.Semicolon) = true
is_semicolon _ = false

-- a name without quotes
abbrev pub is_unquoted : TokenKind → Bool
is_unquoted kind.Name = true
is_unquoted _ = false

-- the tokens without one `;` at their end
abbrev pub without_end : List Token → List Token
without_end [] = []
without_end (t ∷ []) = if is_semicolon t.kind then [] else t ∷ []
without_end (t ∷ u ∷ ts) = t ∷ without_end (u ∷ ts)

-- a name may be a keyword or quoted; what stands after it is the parser's
abbrev pub view_request : List ℕ → List Token → Request
view_request line [] = Refused BadArgument
view_request line (name ∷ query) = if is_word name.kind then ViewOf (denotes line name) query else Refused BadArgument

-- one name and no more
abbrev pub rows_request : List ℕ → List Token → Request
rows_request line (name ∷ []) = if is_word name.kind then RowsOf (denotes line name) else Refused BadArgument
rows_request line _ = Refused BadArgument

-- the tick that a token denotes: a number that an integer of 64 bits holds
abbrev pub tick_in : TokenKind → Option ℕ
tick_in (kind.Number n) = if nat_lt n greatest_number then Some n else None
tick_in _ = None

abbrev pub since_from : List ℕ → Option ℕ → Request
since_from name (Some tick) = SinceOf name tick
since_from name None = Refused BadArgument

-- a name, a tick and no more
abbrev pub since_request : List ℕ → List Token → Request
since_request line (name ∷ tick ∷ []) = if is_word name.kind then since_from (denotes line name) (tick_in tick.kind) else Refused BadArgument
since_request line _ = Refused BadArgument

-- nothing more
abbrev pub views_request : List Token → Request
views_request [] = ListOfViews
views_request (t ∷ ts) = Refused BadArgument

-- nothing more
abbrev pub steps_request : List Token → Request
steps_request [] = ListOfSteps
steps_request (t ∷ ts) = Refused BadArgument

-- one name and no more
abbrev pub drop_request : List ℕ → List Token → Request
drop_request line (name ∷ []) = if is_word name.kind then DropOf (denotes line name) else Refused BadArgument
drop_request line _ = Refused BadArgument

-- two names and no more
abbrev pub index_request : List ℕ → List Token → Request
index_request line (label ∷ key ∷ []) =
    if is_word label.kind && is_word key.kind then IndexOf (denotes line label) (denotes line key) else Refused BadArgument
index_request line _ = Refused BadArgument

-- whether the token is this word, whatever the case of its ASCII letters
abbrev pub is_command : List ℕ → List ℕ → Token → Bool
is_command spelling line word = if is_unquoted word.kind then same_word spelling (slice_in line word) else false

-- what stands after the colon: the word of the command, and its arguments
abbrev pub command_request : List ℕ → List Token → Request
command_request line [] = Refused UnknownCommand
command_request line (word ∷ arguments) =
    if is_command (codes "VIEW") line word then view_request line arguments
    else if is_command (codes "ROWS") line word then rows_request line (without_end arguments)
    else if is_command (codes "SINCE") line word then since_request line (without_end arguments)
    else if is_command (codes "VIEWS") line word then views_request (without_end arguments)
    else if is_command (codes "DROP") line word then drop_request line (without_end arguments)
    else if is_command (codes "STEPS") line word then steps_request (without_end arguments)
    else if is_command (codes "INDEX") line word then index_request line (without_end arguments)
    else Refused UnknownCommand

-- a colon begins a command, any other token a statement
abbrev pub request : List ℕ → List Token → Request
request line [] = Nothing
request line (t ∷ ts) = if is_colon t.kind then command_request line ts else StatementOf (t ∷ ts)

-- a line asks for this
pub record Asks (line : List ℕ) (asked : Request) : Type 0 where
  pub tokens : List Token
  pub lexed : tokens_of line ≡ Ok tokens
  pub is : request line tokens ≡ asked
