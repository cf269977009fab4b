-- The numbers and the offsets of the faults (own: this profile's choice, which stands in no standard).
use Rattle.std.specs.Prelude.{ℕ, Option, Some, None}
use Rattle.cy_lexer.specs.declared.faults.LexFault.{LexFault}
use Rattle.cy_lexer.specs.declared.faults.LexFault.TheVariants.{BadCharacter, UnclosedText, BadEscape, UnclosedComment, UnclosedName, BadNumber, NumberTooLarge, LineTooLong, NotUtf8, NoMemory}
use Rattle.cy_lexer.specs.Line.{longest_line}

abbrev pub code_of : LexFault → ℕ
code_of (BadCharacter at) = 10
code_of (UnclosedText at) = 11
code_of (BadEscape at) = 12
code_of (UnclosedComment at) = 13
code_of (UnclosedName at) = 14
code_of (BadNumber at) = 15
code_of (NumberTooLarge at) = 16
code_of LineTooLong = 17
code_of (NotUtf8 at) = 18
code_of NoMemory = 90

-- the byte offset: the longest line's length for a line that is too long, and none when out of memory
abbrev pub at_of : LexFault → Option ℕ
at_of (BadCharacter at) = Some at
at_of (UnclosedText at) = Some at
at_of (BadEscape at) = Some at
at_of (UnclosedComment at) = Some at
at_of (UnclosedName at) = Some at
at_of (BadNumber at) = Some at
at_of (NumberTooLarge at) = Some at
at_of LineTooLong = Some longest_line
at_of (NotUtf8 at) = Some at
at_of NoMemory = None
