-- Words: tokens that are written in one way each (own: this profile's choice, not in any standard). 39 is the
-- single quote, 92 the backslash and 96 the backtick.
use Rattle.std.specs.Prelude.{ℕ, ◌||◌, ◌==◌, if◌then◌else◌, List, [], ◌∷◌, codes}
use Rattle.cy_lexer.specs.declared.keywords.Keyword.{Keyword}
use Rattle.cy_lexer.specs.declared.symbols.Symbol.{Symbol}
use Rattle.cy_lexer.specs.declared.symbols.Symbol.TheVariants as sign

-- a keyword, a name by its characters, a text by its characters, a number, or a symbol
pub data Word : Type 0 where
  keyword : Keyword → Word
  name : List ℕ → Word
  text : List ℕ → Word
  number : ℕ → Word
  symbol : Symbol → Word

-- characters as they stand in backticks: each backtick doubled
abbrev pub doubled : List ℕ → List ℕ
doubled [] = []
doubled (c ∷ cs) = if c == 96 then 96 ∷ 96 ∷ doubled cs else c ∷ doubled cs

-- characters as they stand in single quotes: a backslash before each backslash and each single quote
abbrev pub escaped : List ℕ → List ℕ
escaped [] = []
escaped (c ∷ cs) = if (c == 92) || (c == 39) then 92 ∷ c ∷ escaped cs else c ∷ escaped cs

-- how a symbol is written
abbrev pub signs : Symbol → List ℕ
signs sign.DotDot = codes ".."
signs sign.NotEqual = codes "<>"
signs sign.LessOrEqual = codes "<="
signs sign.GreaterOrEqual = codes ">="
signs sign.LeftParenthesis = codes "("
signs sign.RightParenthesis = codes ")"
signs sign.LeftBracket = codes "["
signs sign.RightBracket = codes "]"
signs sign.LeftBrace = codes "{"
signs sign.RightBrace = codes "}"
signs sign.Comma = codes ","
signs sign.Colon = codes ":"
signs sign.Semicolon = codes ";"
signs sign.Dot = codes "."
signs sign.Bar = codes "|"
signs sign.Plus = codes "+"
signs sign.Minus = codes "-"
signs sign.Star = codes "*"
signs sign.Slash = codes "/"
signs sign.Percent = codes "%"
signs sign.Equal = codes "="
signs sign.Less = codes "<"
signs sign.Greater = codes ">"
