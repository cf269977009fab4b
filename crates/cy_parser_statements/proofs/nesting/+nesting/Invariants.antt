use Rattle.cy_parser_statements.proofs.nesting.+nesting.Given as goal

abbrev pub decreases-nesting : goal.decreases-nesting
decreases-nesting l = l.levels
