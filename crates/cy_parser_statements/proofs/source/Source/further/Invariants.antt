use Rattle.std.proofs.Common.{◌≡◌, ◌-◌, map, length}
use Rattle.cy_trees.specs.TreeModels.{query_of}
use Rattle.cy_parser_grammar.specs.internal.Clauses.{queries_from}
use Rattle.cy_parser_statements.proofs.source.Source.further.Given as goal

abbrev pub invariant-loop-turn : goal.invariant-loop-turn
invariant-loop-turn l = queries_from l.self.line.now (length l.fn.tokens) l.all (map query_of l.fn.first.items) l.fn.tokens
    ≡ queries_from l.self.line.now (l._turn-end - l._turn) l.all (map query_of l.found.items) l.tokens
