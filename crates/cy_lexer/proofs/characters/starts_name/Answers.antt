use Rattle.std.proofs.Common.{sym, ◌∙◌}
use Rattle.cy_lexer.proofs.CharactersLemmas.{starts_name-ascii}
use Rattle.cy_lexer.proofs.characters.starts_name.Goals as goal

pub returns-then-is_ascii_alphabetic : goal.returns-then-is_ascii_alphabetic
returns-then-is_ascii_alphabetic c =
    c.if-is_ascii_alphabetic.true ∙ rw c.if-is_ascii_alphabetic.true at (starts_name-ascii c.args.c c.is_ascii_alphabetic.result (sym c.is_ascii.ensures ∙ c.if-is_ascii.true) c.is_ascii_alphabetic.ensures.value)

pub returns-else-is_ascii_alphabetic : goal.returns-else-is_ascii_alphabetic
returns-else-is_ascii_alphabetic c =
    rw c.if-is_ascii_alphabetic.false at (starts_name-ascii c.args.c c.is_ascii_alphabetic.result (sym c.is_ascii.ensures ∙ c.if-is_ascii.true) c.is_ascii_alphabetic.ensures.value)
