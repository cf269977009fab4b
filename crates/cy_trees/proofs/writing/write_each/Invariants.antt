-- What is written and what is left to write make what all parts give.
use Rattle.std.proofs.Common.{◌≡◌, ◌++◌, string_bytes, drop, map}
use Rattle.cy_trees.specs.Show.{pieces_text, each_after}
use Rattle.cy_trees.specs.internal.Separators.{separator_pieces}
use Rattle.cy_trees.proofs.writing.write_each.Given as goal

abbrev pub invariant-loop-part : goal.invariant-loop-part
invariant-loop-part g l =
    string_bytes l.text ++ pieces_text (each_after (separator_pieces l.separator) (map g.T.Show.pieces (drop l.part-index l.parts))) ≡ string_bytes l.fn.text ++ pieces_text (each_after (separator_pieces l.separator) (map g.T.Show.pieces l.parts))
