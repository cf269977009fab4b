-- What stands above an operator whose columns are narrowed: layers, and right inputs with how they go together with it. (own)
use Rattle.std.specs.Prelude.{List, [], ◌∷◌}
use Rattle.cy_planner_algebra.specs.Plans.{Plan}
use Rattle.cy_planner_algebra.specs.WellFormed.{IsWellFormed}
use Rattle.cy_planner_rewriting.specs.Rewritten.{IsRewritten}
use Rattle.cy_planner_rewriting.specs.declared.narrowing.Above.{Above}
use Rattle.cy_planner_rewriting.specs.declared.narrowing.Above.TheVariants as above
use Rattle.cy_planner_rewriting.specs.internal.Narrows.{restored}
use Rattle.cy_planner_rewriting.specs.internal.Opened.{over_layer, together}

abbrev pub over_one : Above → Plan → Plan
over_one (above.Layer l) p = over_layer l p
over_one (above.Joint j right) p = together j p (restored right)

-- several over a plan, the uppermost first
abbrev pub over_all : List Above → Plan → Plan
over_all [] p = p
over_all (a ∷ others) p = over_one a (over_all others p)

-- An operator that can be meant, of a plan: with what stands above it, it can stand in the plan's place.
pub record StandsBelow (whole : Plan) (rest : List Above) (part : Plan) : Type 0 where
  pub good : IsWellFormed part
  pub placed : IsRewritten whole (over_all rest part)
