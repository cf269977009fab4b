use Rattle.std.proofs.Common.{◌≡◌, ◌≤◌, length, drop}
use Rattle.std.specs.Str.{chars}
use Rattle.std.specs.List.{prefix_len}
use Rattle.cy_lexer.specs.Characters.{goes_on}
use denote.Text.{Utf8}
use denote.Shadow.{shadow}
use Rattle.cy_lexer.proofs.characters.after_characters.Given as goal

-- what the run leaves of the rest is what it leaves of the text
abbrev pub invariant-loop-first : goal.invariant-loop-first
invariant-loop-first l =
    shadow (Utf8 l.rest) × (drop (prefix_len (goes_on l.run) (chars l.rest)) (chars l.rest) ≡ drop (prefix_len (goes_on l.run) (chars l.text)) (chars l.text)) × (length l.rest ≤ length l.text)

abbrev pub decreases-loop-first : goal.decreases-loop-first
decreases-loop-first l = length l.rest
