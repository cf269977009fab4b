-- What is wanted so far, with what is left to ask.
use Rattle.std.proofs.Common.{◌≡◌, drop, map}
use Rattle.std.specs.Prelude.{flat_map}
use Rattle.cy_trees.specs.TreeModels.{expression_of}
use Rattle.cy_planner_rows.specs.internal.Asked.{asked, with_asked}
use Rattle.cy_planner_rows.proofs.projections.add_asked_by_items.Given as goal

abbrev pub invariant-loop-item : goal.invariant-loop-item
invariant-loop-item l =
    with_asked l.wanted (flat_map asked (map (λ i. expression_of i.expression) (drop l.item-index l.items)))
    ≡ with_asked l.initial.wanted (flat_map asked (map (λ i. expression_of i.expression) l.items))
