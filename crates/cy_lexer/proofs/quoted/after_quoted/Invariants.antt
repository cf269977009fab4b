use Rattle.std.proofs.Common.{◌≡◌, ◌≤◌, length, drop}
use Rattle.std.specs.Str.{chars}
use Rattle.cy_lexer.specs.internal.Reading.{map_ok, offset}
use Rattle.cy_lexer.specs.Quoted.{quoted_len}
use denote.Text.{Utf8}
use denote.Shadow.{shadow}
use Rattle.cy_lexer.proofs.quoted.after_quoted.Given as goal

-- what follows the closing quote in the rest is what follows it in the text, or both have one fault
abbrev pub invariant-loop-first : goal.invariant-loop-first
invariant-loop-first l =
    shadow (Utf8 l.rest) × (map_ok (λ n. drop n (chars l.rest)) (quoted_len (offset l.total) l.unclosed l.quote 0 (chars l.rest)) ≡ map_ok (λ n. drop n (chars l.text)) (quoted_len (offset l.total) l.unclosed l.quote 0 (chars l.text))) × (length l.rest ≤ length l.text)

abbrev pub decreases-loop-first : goal.decreases-loop-first
decreases-loop-first l = length l.rest
