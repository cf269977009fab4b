use Rattle.std.proofs.Common.{◌≡◌, map, drop}
use Rattle.cy_parser_grammar.specs.SpellsClauses.{is_path_among}
use Rattle.cy_parser_statements.specs.internal.Parts.{part_of}
use Rattle.cy_parser_statements.proofs.conditions.is_path_among.Given as goal

abbrev pub invariant-loop-part : goal.invariant-loop-part
invariant-loop-part l = is_path_among (map part_of (drop l.part-index l.parts)) ≡ is_path_among (map part_of l.parts)
