use Rattle.std.proofs.Common.{◌≡◌, map, drop}
use Rattle.cy_trees.specs.TreeModels.{clause_of}
use Rattle.cy_parser_grammar.specs.SpellsClauses.{reads_alone}
use Rattle.cy_parser_statements.proofs.statements.reads_alone.Given as goal

abbrev pub invariant-loop-clause : goal.invariant-loop-clause
invariant-loop-clause l = reads_alone (map clause_of (drop l.clause-index l.clauses)) ≡ reads_alone (map clause_of l.clauses)
