-- The numbers and the offsets of the faults (own).
use Rattle.std.specs.Prelude.{◌≡◌, ℕ, ◌⊎◌, List, Option, Some, None, Contains}
use Rattle.std.specs.Option.{ForSome}
use Rattle.cy_lexer.specs.declared.tokens.Token.{Token}
use Rattle.cy_parser.specs.declared.faults.ParseFault.{ParseFault}
use Rattle.cy_parser.specs.declared.faults.ParseFault.TheVariants.{NumberTooLarge, Unexpected, TooDeep, ClauseOrder, BadRange, NoMemory}

abbrev pub code_of : ParseFault → ℕ
code_of (NumberTooLarge at) = 16
code_of (Unexpected at) = 20
code_of (TooDeep at) = 21
code_of (ClauseOrder at) = 22
code_of (BadRange at) = 24
code_of NoMemory = 90

abbrev pub at_of : ParseFault → Option ℕ
at_of (NumberTooLarge at) = Some at
at_of (Unexpected at) = Some at
at_of (TooDeep at) = Some at
at_of (ClauseOrder at) = Some at
at_of (BadRange at) = Some at
at_of NoMemory = None

-- the offset is where a token begins, or the length of the line
abbrev pub IsPlace : List Token → ℕ → ℕ → Type 0
IsPlace tokens end at = (at ≡ end) ⊎ ((t : Token) × Contains tokens t × (at ≡ t.start))

abbrev pub PointsAtPlace : List Token → ℕ → ParseFault → Type 0
PointsAtPlace tokens end fault = ForSome (at_of fault) (λ at. IsPlace tokens end at)
