-- What is left of both settles the answer.
use Rattle.std.proofs.Common.{◌≡◌, drop, map}
use Rattle.cy_trees.specs.TreeModels.{link_of, links_from}
use Rattle.cy_network_parts.specs.SameConditions as spec
use Rattle.cy_network_parts.proofs.same_conditions.same_links.Given as goal

abbrev pub invariant-loop-link : goal.invariant-loop-link
invariant-loop-link l = spec.same_links (links_from (map link_of (drop l.link-index l.links))) (links_from (map link_of l.rest.rest.now)) ≡ spec.same_links (links_from (map link_of l.links)) (links_from (map link_of l.others))
