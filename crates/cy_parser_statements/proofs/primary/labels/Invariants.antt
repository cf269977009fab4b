use Rattle.std.proofs.Common.{◌≡◌, ◌-◌}
use Rattle.cy_parser_grammar.specs.internal.Expressions.{labels, labels_from}
use Rattle.cy_parser_statements.proofs.primary.labels.Given as goal

abbrev pub invariant-loop-turn : goal.invariant-loop-turn
invariant-loop-turn l = labels l.line l.fn.tokens ≡ labels_from l.line (l._turn-end - l._turn) l.found.items l.tokens
