use Rattle.std.proofs.Common.{sym, ap, ◌∙◌}
use Rattle.cy_engine_lines.specs.Requests.{without_end}
use Rattle.cy_engine_lines.proofs.FromTokens.{end_taken, end_left, semicolon_is, semicolon_not}
use Rattle.std.proofs.lemmas.Bool.{false≢true}
use Rattle.cy_engine_lines.proofs.requests.without_end.Goals as goal

pub returns-then-is_symbol : goal.returns-then-is_symbol
returns-then-is_symbol c =
    let last = c.in-Some.last.now in
    sym (ap without_end c.in-Some.ensures.cases.0 ∙ end_taken c.in-Some.before.now last (semicolon_is last.kind (c.is_symbol.ensures.0 c.if-is_symbol.true)))

pub returns-else-is_symbol : goal.returns-else-is_symbol
returns-else-is_symbol c =
    let last = c.in-Some.last.now in
    let other = semicolon_not last.kind (λ is. false≢true (sym c.if-is_symbol.false ∙ c.is_symbol.ensures.1 is)) in
    c.in-Some.ensures.cases.0 ∙ sym (end_left c.in-Some.before.now last other) ∙ ap without_end (sym c.in-Some.ensures.cases.0)
