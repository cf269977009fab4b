use Rattle.std.proofs.Common.{◌≡◌, ℕ, length}
use Rattle.std.specs.List.{take_while}
use Rattle.std.specs.Str.{chars}
use Rattle.cy_lexer.specs.declared.characters.Run.TheVariants.{Digits}
use Rattle.cy_lexer.specs.Characters.{goes_on}
use Rattle.cy_lexer.specs.Numbers.{number_of}
use Rattle.cy_lexer.specs.internal.Reading.{IsHeld}
use denote.Text.{Utf8}
use denote.Shadow.{shadow}
use Rattle.cy_lexer.proofs.numbers.number_at.Given as goal

-- the digits so far write a number, after which the digits of the rest write that of all digits
abbrev pub invariant-loop-first : goal.invariant-loop-first
invariant-loop-first l =
    shadow (Utf8 l.rest) × ((high : ℕ) × IsHeld l.number high × (number_of high (take_while (goes_on Digits) (chars l.rest)) ≡ number_of 0 (take_while (goes_on Digits) (chars l.text))))

abbrev pub decreases-loop-first : goal.decreases-loop-first
decreases-loop-first l = length l.rest
