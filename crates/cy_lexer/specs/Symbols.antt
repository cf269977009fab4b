-- The symbols (openCypher 9, grammar), those of this profile.
use Rattle.std.specs.Prelude.{ℕ, ◌&&◌, ◌==◌, if◌then◌else◌, Option, Some, None, option_map, List, [], ◌∷◌}
use Rattle.cy_lexer.specs.declared.symbols.Symbol.{Symbol}
use Rattle.cy_lexer.specs.declared.symbols.Symbol.TheVariants as sign

-- the symbol that two characters make: `..`, `<>`, `<=`, `>=`
abbrev pub pair_symbol : ℕ → ℕ → Option Symbol
pair_symbol a b =
    if (a == 46) && (b == 46) then Some sign.DotDot
    else if (a == 60) && (b == 62) then Some sign.NotEqual
    else if (a == 60) && (b == 61) then Some sign.LessOrEqual
    else if (a == 62) && (b == 61) then Some sign.GreaterOrEqual
    else None

-- the symbol that one character makes, in the order `(` `)` `[` `]` `{` `}` `,` `:` `;` `.` `|` `+` `-` `*` `/` `%` `=` `<` `>`
abbrev pub single_symbol : ℕ → Option Symbol
single_symbol a =
    if a == 40 then Some sign.LeftParenthesis
    else if a == 41 then Some sign.RightParenthesis
    else if a == 91 then Some sign.LeftBracket
    else if a == 93 then Some sign.RightBracket
    else if a == 123 then Some sign.LeftBrace
    else if a == 125 then Some sign.RightBrace
    else if a == 44 then Some sign.Comma
    else if a == 58 then Some sign.Colon
    else if a == 59 then Some sign.Semicolon
    else if a == 46 then Some sign.Dot
    else if a == 124 then Some sign.Bar
    else if a == 43 then Some sign.Plus
    else if a == 45 then Some sign.Minus
    else if a == 42 then Some sign.Star
    else if a == 47 then Some sign.Slash
    else if a == 37 then Some sign.Percent
    else if a == 61 then Some sign.Equal
    else if a == 60 then Some sign.Less
    else if a == 62 then Some sign.Greater
    else None

abbrev pub longest : Option Symbol → Option Symbol → Option (Symbol × ℕ)
longest (Some pair) single = Some (pair, 1)
longest None single = option_map (λ s. (s, 0)) single

-- The symbol at the front, the longest first, and how many characters of cs it takes.
unfoldable pub symbol : ℕ → List ℕ → Option (Symbol × ℕ)
symbol c [] = option_map (λ s. (s, 0)) (single_symbol c)
symbol c (d ∷ cs) = longest (pair_symbol c d) (single_symbol c)
