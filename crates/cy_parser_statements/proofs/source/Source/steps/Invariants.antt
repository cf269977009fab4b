use Rattle.std.proofs.Common.{◌≡◌, ◌-◌, map}
use Rattle.cy_trees.specs.TreeModels.{step_of}
use Rattle.cy_parser_grammar.specs.internal.Clauses.{steps, steps_from}
use Rattle.cy_parser_statements.proofs.source.Source.steps.Given as goal

abbrev pub invariant-loop-turn : goal.invariant-loop-turn
invariant-loop-turn l = steps l.self.line.now l.fn.tokens ≡ steps_from l.self.line.now (l._turn-end - l._turn) (map step_of l.found.items) l.tokens
