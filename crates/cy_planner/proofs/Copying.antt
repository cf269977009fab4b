-- What was copied so far, over what is left.
use Rattle.std.proofs.Common.{◌≡◌, List, [], ◌∷◌, ◌++◌, sym, ap, ◌∙◌}
use Rattle.cy_planner_algebra.specs.Plans.{Plan}
use Rattle.cy_planner_pushdown.specs.declared.above.Above.{Above}
use Rattle.cy_planner_pushdown.specs.declared.above.Above.TheVariants as above
use Rattle.cy_planner_pushdown.specs.internal.Above.{placed, placed_over}
use Rattle.cy_planner_pushdown.proofs.Placing.{lowest_off}

-- one part more
pub copied_over : (whole part below : Plan) (all parts : List Above) (a : Above) → all ≡ parts ++ a ∷ [] → placed_over parts part ≡ whole → part ≡ placed a below → placed_over all below ≡ whole
copied_over whole part below all parts a last so_far is = lowest_off all parts a below last ∙ ap (placed_over parts) (sym is) ∙ so_far
