use Rattle.std.proofs.Common.{length}
use Rattle.cy_lexer.proofs.TokensLemmas.{IsRead}
use denote.Text.{Utf8}
use denote.Shadow.{shadow}
use Rattle.cy_lexer.proofs.reading.lex.Given as goal

-- the tokens so far and those of the rest, which ends the line, are those of the line, and their spans rise
abbrev pub invariant-loop-first : goal.invariant-loop-first
invariant-loop-first l = shadow (Utf8 l.rest) × IsRead l.line l.rest l.tokens.items

abbrev pub decreases-loop-first : goal.decreases-loop-first
decreases-loop-first l = length l.rest
