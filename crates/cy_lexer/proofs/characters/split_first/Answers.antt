use Rattle.std.proofs.lemmas.Str.{chars_past_char}
use Rattle.cy_lexer.proofs.characters.split_first.Goals as goal

pub returns-clause-cases : goal.returns-clause-cases
returns-clause-cases c =
    let step = c.in_ok-first.ensures.steps.0 in
    chars_past_char c.args.text.now c.as_str.result.now c.in_ok-first.first c.utf8.text (cc (step, c.chars-characters.ensures.rest, c.as_str.ensures))
