-- What is left decides.
use Rattle.std.proofs.Common.{◌≡◌, drop, map}
use Rattle.cy_trees.specs.TreeModels.{expression_of, expressions_from, link_of, links_from}
use Rattle.cy_oneshot_outcomes.specs.internal.Certain as spec
use Rattle.cy_oneshot_outcomes.proofs.certain.+certainty.Given as goal

abbrev pub invariant-are_certain_links-loop-link : goal.invariant-are_certain_links-loop-link
invariant-are_certain_links-loop-link l =
    spec.are_certain_links l.shapes l.before (links_from (map link_of (drop l.link-index l.links))) ≡ spec.are_certain_links l.shapes l.fn.value (links_from (map link_of l.links))

abbrev pub invariant-are_certain-loop-expression : goal.invariant-are_certain-loop-expression
invariant-are_certain-loop-expression l =
    spec.are_certain l.shapes (expressions_from (map expression_of (drop l.expression-index l.expressions))) ≡ spec.are_certain l.shapes (expressions_from (map expression_of l.expressions))
