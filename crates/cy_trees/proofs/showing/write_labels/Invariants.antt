-- What is written and what is left to write make what all labels give.
use Rattle.std.proofs.Common.{◌≡◌, ◌++◌, string_bytes, drop}
use Rattle.cy_trees.specs.Show.{pieces_text, label_pieces}
use Rattle.cy_trees.proofs.showing.write_labels.Given as goal

abbrev pub invariant-loop-label : goal.invariant-loop-label
invariant-loop-label l =
    string_bytes l.text ++ pieces_text (label_pieces (drop l.label-index l.labels)) ≡ string_bytes l.fn.text ++ pieces_text (label_pieces l.labels)
