use Rattle.std.proofs.Common.{◌≡◌, ◌≤◌, length, drop}
use Rattle.std.specs.Option.{option_map}
use Rattle.std.specs.Str.{chars}
use Rattle.cy_lexer.specs.Tokens.{block_len}
use denote.Text.{Utf8}
use denote.Shadow.{shadow}
use Rattle.cy_lexer.proofs.pieces.after_block.Given as goal

-- what follows the end of the comment in the rest is what follows it in the text
abbrev pub invariant-loop-first : goal.invariant-loop-first
invariant-loop-first l =
    shadow (Utf8 l.rest) × (option_map (λ n. drop n (chars l.rest)) (block_len (chars l.rest)) ≡ option_map (λ n. drop n (chars l.text)) (block_len (chars l.text))) × (length l.rest ≤ length l.text)

abbrev pub decreases-loop-first : goal.decreases-loop-first
decreases-loop-first l = length l.rest
