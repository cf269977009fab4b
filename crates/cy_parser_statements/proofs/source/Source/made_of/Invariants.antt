use Rattle.std.proofs.Common.{◌≡◌, map, reverse, vec_len, option_map}
use Rattle.cy_trees.specs.TreeModels.{path_test_of}
use Rattle.cy_parser_grammar.specs.internal.Clauses.{where_from, no_where}
use Rattle.cy_parser_statements.specs.internal.Parts.{condition_of, part_of}
use Rattle.cy_parser_statements.proofs.source.Source.made_of.Given as goal

-- what is made of the parts that are left is what all make
abbrev pub invariant-loop-part : goal.invariant-loop-part
invariant-loop-part l = where_from no_where (map part_of (reverse l.fn.parts.items)) l.tokens
    ≡ where_from (record { test = option_map condition_of l.test; paths = map path_test_of l.paths.items }) (map part_of (reverse l.parts.items)) l.tokens

abbrev pub decreases-loop-part : goal.decreases-loop-part
decreases-loop-part l = vec_len l.parts
