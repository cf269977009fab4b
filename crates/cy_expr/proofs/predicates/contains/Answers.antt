use Rattle.std.proofs.Common.{ap, ◌∙◌}
use Rattle.cy_values.specs.Truth.{known}
use Rattle.cy_expr.proofs.Rules.{within-found}
use Rattle.cy_expr.proofs.predicates.contains.Goals as goal

pub returns-in-Text-Text : goal.returns-in-Text-Text
returns-in-Text-Text c =
    let found = within-found c.in-Text-Text.text.now c.in-Text-Text.part.now c.contains.result c.contains.ensures.cases in
    rw (c.in-Text-Text.is-0, c.in-Text-Text.is-1) (c.known.ensures ∙ ap known found)
