-- Tokens of worked lines, by what they are and where they stand.
use Rattle.std.proofs.Common.{ℕ, suc}
use Rattle.cy_lexer.specs.declared.tokens.Token.{Token}
use Rattle.cy_lexer.specs.declared.tokens.TokenKind.{TokenKind}
use Rattle.cy_lexer.specs.declared.tokens.TokenKind.TheVariants as kind
use Rattle.cy_lexer.specs.declared.keywords.Keyword.{Keyword}
use Rattle.cy_lexer.specs.declared.symbols.Symbol.{Symbol}

abbrev pub token : TokenKind → ℕ → ℕ → Token
token k start end = record { kind = k; start = start; end = end }

abbrev pub keyword : Keyword → ℕ → ℕ → Token
keyword w start end = token (kind.Keyword w) start end

-- a symbol, a name and a number of one character
abbrev pub symbol : Symbol → ℕ → Token
symbol s at = token (kind.Symbol s) at (suc at)

abbrev pub name : ℕ → Token
name at = token kind.Name at (suc at)

abbrev pub digit : ℕ → ℕ → Token
digit n at = token (kind.Number n) at (suc at)
