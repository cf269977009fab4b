-- What reads trees off the tokens that are left: it answers a tree and what is left after it, or nothing.
use Rattle.std.specs.Prelude.{ℕ, Bool, false, if◌then◌else◌, nat_le, List, [], ◌∷◌, Option, Some, None}
use denote.Enum.Bare.{sameb}
use Rattle.cy_lexer.specs.contracts.keywords.Keyword as keyword_type
use Rattle.cy_lexer.specs.contracts.symbols.Symbol as symbol_type
use Rattle.cy_lexer.specs.declared.keywords.Keyword.{Keyword}
use Rattle.cy_lexer.specs.declared.symbols.Symbol.{Symbol}
use Rattle.cy_lexer.specs.declared.tokens.TokenKind.{TokenKind}
use Rattle.cy_lexer.specs.declared.tokens.TokenKind.TheVariants as kind
use Rattle.cy_lexer.specs.declared.tokens.Token.{Token}
use Rattle.cy_trees.specs.Trees.{Name, Expression}
use Rattle.cy_trees.specs.Depth.{depth, greatest_depth}
use Rattle.cy_parser_grammar.specs.Words.{is_name, is_word, denotes}

abbrev pub Outcome : Type 0 → Type 0
Outcome A = Option (A × List Token)

abbrev pub Reader : Type 0 → Type 0
Reader A = List Token → Outcome A

unfoldable pub and_then : {A B : Type 0} → Outcome A → (A → Reader B) → Outcome B
and_then (Some p) f = f p.0 p.1
and_then None f = None

infixl 10 ◌>>=◌
abbrev pub ◌>>=◌ : {A B : Type 0} → Reader A → (A → Reader B) → Reader B
p >>= f = λ ts. and_then (p ts) f

infixl 10 ◌>>◌
abbrev pub ◌>>◌ : {A B : Type 0} → Reader A → Reader B → Reader B
p >> q = p >>= (λ _. q)

abbrev pub pure : {A : Type 0} → A → Reader A
pure a = λ ts. Some (a, ts)

infixr 11 ◌<$>◌
abbrev pub ◌<$>◌ : {A B : Type 0} → (A → B) → Reader A → Reader B
f <$> p = p >>= (λ x. pure (f x))

abbrev pub refuse : {A : Type 0} → Reader A
refuse = λ ts. None

-- the first reader's answer, or the second one's where the first answers nothing
unfoldable pub or_else : {A : Type 0} → Outcome A → Outcome A → Outcome A
or_else (Some p) other = Some p
or_else None other = other

infixl 9 ◌<|>◌
abbrev pub ◌<|>◌ : {A : Type 0} → Reader A → Reader A → Reader A
p <|> q = λ ts. or_else (p ts) (q ts)

-- ---- single tokens

abbrev pub kind_ahead : List Token → Option TokenKind
kind_ahead [] = None
kind_ahead (t ∷ ts) = Some t.kind

abbrev pub peek : Reader (Option TokenKind)
peek = λ ts. Some (kind_ahead ts, ts)

abbrev pub past : List Token → List Token
past [] = []
past (t ∷ ts) = ts

abbrev pub skip : Reader (Unit {0})
skip = λ ts. Some (tt, past ts)

abbrev pub is_keyword : Keyword → Option TokenKind → Bool
is_keyword k (Some (kind.Keyword found)) = sameb keyword_type.the_type found k
is_keyword k _ = false

abbrev pub is_symbol : Symbol → Option TokenKind → Bool
is_symbol s (Some (kind.Symbol found)) = sameb symbol_type.the_type found s
is_symbol s _ = false

unfoldable pub sees_keyword : Keyword → List Token → Bool
sees_keyword k ts = is_keyword k (kind_ahead ts)

unfoldable pub sees_symbol : Symbol → List Token → Bool
sees_symbol s ts = is_symbol s (kind_ahead ts)

-- takes the keyword or the symbol, if it comes next
abbrev pub eat_keyword : Keyword → Reader Bool
eat_keyword k = λ ts. Some (sees_keyword k ts, if sees_keyword k ts then past ts else ts)

abbrev pub eat_symbol : Symbol → Reader Bool
eat_symbol s = λ ts. Some (sees_symbol s ts, if sees_symbol s ts then past ts else ts)

unfoldable pub expect_keyword : Keyword → Reader (Unit {0})
expect_keyword k = λ ts. if sees_keyword k ts then Some (tt, past ts) else None

unfoldable pub expect_symbol : Symbol → Reader (Unit {0})
expect_symbol s = λ ts. if sees_symbol s ts then Some (tt, past ts) else None

-- what the next token's kind stands for, if anything; the token is taken then
abbrev pub taking : {A : Type 0} → List Token → Option A → Outcome (Option A)
taking ts (Some a) = Some (Some a, past ts)
taking ts None = Some (None, ts)

abbrev pub at_kind : {A : Type 0} → (TokenKind → Option A) → Option TokenKind → Option A
at_kind f None = None
at_kind f (Some k) = f k

unfoldable pub eat_by : {A : Type 0} → (TokenKind → Option A) → Reader (Option A)
eat_by f = λ ts. taking ts (at_kind f (kind_ahead ts))

-- what the next token denotes, if its kind passes the test
unfoldable pub denoting : (TokenKind → Bool) → List ℕ → Reader Name
denoting test line [] = None
denoting test line (t ∷ ts) = if test t.kind then Some (denotes line t, ts) else None

abbrev pub name : List ℕ → Reader Name
name = denoting is_name

abbrev pub word : List ℕ → Reader Name
word = denoting is_word

-- an expression that isn't too deep
unfoldable pub checked : Expression → Reader Expression
checked e = λ ts. if nat_le (depth e) greatest_depth then Some (e, ts) else None
