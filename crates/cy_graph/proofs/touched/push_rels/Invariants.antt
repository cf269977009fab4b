use Rattle.std.proofs.Common.{◌≡◌, ◌++◌, map, take}
use Rattle.std.specs.Option.{option_copied}
use Rattle.cy_graph.specs.Touched.{before_image}
use Rattle.cy_graph.specs.internal.BeforeImages.{rel_image}
use Rattle.cy_graph.proofs.touched.push_rels.Given as goal

-- what was found so far is added
abbrev pub invariant-loop-number : goal.invariant-loop-number
invariant-loop-number l =
    map before_image l.touched.items ≡ map before_image l.initial.touched.items ++ map rel_image (map (λ f. (f.0, option_copied f.1)) (take l.number-index l.found))
