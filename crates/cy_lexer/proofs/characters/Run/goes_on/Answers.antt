use Rattle.std.proofs.Common.{sym, ◌∙◌}
use Rattle.cy_lexer.proofs.CharactersLemmas.{goes_on-ascii}
use Rattle.cy_lexer.proofs.characters.Run.goes_on.Goals as goal

pub returns-then-is_ascii_alphanumeric : goal.returns-then-is_ascii_alphanumeric
returns-then-is_ascii_alphanumeric c =
    c.if-is_ascii_alphanumeric.true ∙ rw c.if-is_ascii_alphanumeric.true at (goes_on-ascii c.args.self c.args.c c.is_ascii_alphanumeric.result c.in-Name.is (sym c.is_ascii.ensures ∙ c.if-is_ascii.true) c.is_ascii_alphanumeric.ensures.value)

pub returns-else-is_ascii_alphanumeric : goal.returns-else-is_ascii_alphanumeric
returns-else-is_ascii_alphanumeric c =
    rw c.if-is_ascii_alphanumeric.false at (goes_on-ascii c.args.self c.args.c c.is_ascii_alphanumeric.result c.in-Name.is (sym c.is_ascii.ensures ∙ c.if-is_ascii.true) c.is_ascii_alphanumeric.ensures.value)
