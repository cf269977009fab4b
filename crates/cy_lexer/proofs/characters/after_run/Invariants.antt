use Rattle.std.proofs.Common.{◌≡◌, ◌-◌, ◌≤◌, length, drop}
use Rattle.std.specs.Str.{chars, IsCharBoundary}
use Rattle.std.specs.List.{prefix_len}
use Rattle.cy_lexer.specs.Characters.{goes_on}
use Rattle.cy_lexer.proofs.characters.after_run.Given as goal

-- what the run leaves from here on is what it leaves of the text
abbrev pub invariant-loop-at : goal.invariant-loop-at
invariant-loop-at l =
    (l.at ≤ length l.text) × IsCharBoundary l.text l.at × (drop (prefix_len (goes_on l.run) (chars (drop l.at l.text))) (chars (drop l.at l.text)) ≡ drop (prefix_len (goes_on l.run) (chars l.text)) (chars l.text))

abbrev pub decreases-loop-at : goal.decreases-loop-at
decreases-loop-at l = length l.bytes - l.at
