use Rattle.std.proofs.Common.{◌≡◌, ◌++◌, length}
use Rattle.std.specs.Str.{chars, encode_utf8_all}
use Rattle.std.specs.String.{string_bytes}
use Rattle.cy_lexer.specs.Quoted.{unquoted}
use denote.Text.{Utf8}
use denote.Shadow.{shadow}
use Rattle.cy_lexer.proofs.quoted.between_quotes.Given as goal

-- the characters so far and those that the rest stands for are those of the text
abbrev pub invariant-loop-first : goal.invariant-loop-first
invariant-loop-first l =
    shadow (Utf8 l.rest) × (string_bytes l.string ++ encode_utf8_all (unquoted l.quote 0 (chars l.rest)) ≡ string_bytes l.initial.string ++ encode_utf8_all (unquoted l.quote 0 (chars l.initial.rest)))

abbrev pub decreases-loop-first : goal.decreases-loop-first
decreases-loop-first l = length l.rest
