use Rattle.std.proofs.Common.{◌≡◌, sym, ap, ◌∙◌, arith}
use Rattle.std.specs.Option.{option_map_or}
use Rattle.cy_planner_algebra.specs.PlanModels.{plan_of}
use Rattle.cy_network_relevance.specs.Lists.{least_named}
use Rattle.cy_network_relevance.proofs.Elsewhere.{least_else}
use Rattle.cy_network_relevance.proofs.at_least.+at_least.Goals as goal

pub least_below-returns-in-None : goal.least_below-returns-in-None
least_below-returns-in-None t c =
    let none : least_named (plan_of c.args.part.now) c.args.column ≡ 0 =
    c.loop-part.invariant.2 ∙ least_else c.loop-part.part.now c.loop-part.column c.in_default.not-Rels c.in_default.not-Join c.in_default.not-Outer c.in_default.not-Lookup c.in_default.not-Distinct c.in_default.not-Project c.in_default.not-Union
    ∙ ap (λ q. option_map_or (λ p. least_named p c.loop-part.column) q 0) (sym c.in-None.ensures.plan) in
    omega (arith, none)
