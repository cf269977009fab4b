-- What is written and what is left to write make what all of them give.
use Rattle.std.proofs.Common.{◌≡◌, ◌++◌, string_bytes, drop, map}
use Rattle.cy_trees.specs.Show.{pieces_text, further_pieces, elements_pieces, links_pieces, arms_pieces}
use Rattle.cy_trees.specs.TreeModels.{expression_of, expressions_from, links_from, link_of, arms_from, arm_of}
use Rattle.cy_trees.proofs.showing.+showing.Given as goal

abbrev pub invariant-write_arms-loop-arm : goal.invariant-write_arms-loop-arm
invariant-write_arms-loop-arm l =
    string_bytes l.text ++ pieces_text (arms_pieces (arms_from (map arm_of (drop l.arm-index l.arms)))) ≡ string_bytes l.fn.text ++ pieces_text (arms_pieces (arms_from (map arm_of l.arms)))

abbrev pub invariant-write_elements-loop-element : goal.invariant-write_elements-loop-element
invariant-write_elements-loop-element l =
    string_bytes l.text ++ pieces_text (further_pieces (expressions_from (map expression_of (drop l.element-index l.others)))) ≡ string_bytes l.fn.text ++ pieces_text (elements_pieces (expressions_from (map expression_of l.elements)))

abbrev pub invariant-write_links-loop-link : goal.invariant-write_links-loop-link
invariant-write_links-loop-link l =
    string_bytes l.text ++ pieces_text (links_pieces (links_from (map link_of (drop l.link-index l.links)))) ≡ string_bytes l.fn.text ++ pieces_text (links_pieces (links_from (map link_of l.links)))
