-- What the parts of a WHERE stand for.
use Rattle.cy_trees.specs.Trees.{Expression}
use Rattle.cy_trees.specs.TreeModels.{path_test_of}
use Rattle.cy_parser_grammar.specs.SpellsClauses as spells
use Rattle.cy_parser_statements.specs.declared.conditions.Condition.{Condition}
use Rattle.cy_parser_statements.specs.declared.conditions.Part.{Part}
use Rattle.cy_parser_statements.specs.declared.conditions.Part.TheVariants as part
use Rattle.cy_parser_statements.specs.internal.Operands.{operand_of}

abbrev pub condition_of : Condition → Expression
condition_of c = operand_of c.operand

abbrev pub part_of : Part → spells.Part
part_of (part.Condition c) = spells.condition (condition_of c)
part_of (part.Path t) = spells.path_test (path_test_of t)
