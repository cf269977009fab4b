use Rattle.std.proofs.Common.{◌≡◌, List, [], ◌∷◌, length, map, get_or, ap, sym, ◌∙◌, arith}
use Rattle.cy_planner_algebra.specs.declared.operators.Output.{Output}
use Rattle.cy_planner_algebra.specs.PlanModels.{output_of}
use Rattle.cy_network_sources.proofs.needs.is_first.Goals as goal

one_only : (outputs : List Output) (x : Output) → length outputs ≡ 1 → x ≡ get_or outputs 0 x → map output_of outputs ≡ output_of x ∷ []
one_only [] x one is = absurd (omega (arith, one))
one_only (o ∷ []) x one is = ap (λ p. output_of p ∷ []) (sym is)
one_only (o ∷ p ∷ os) x one is = absurd (omega (arith, one))

pub returns-then-outputs-eq1 : goal.returns-then-outputs-eq1
returns-then-outputs-eq1 c = λ yes.
    let one : length c.args.outputs.now ≡ 1 = omega arith in
    (output_of c.index-outputs-0.result, (one_only c.args.outputs.now c.index-outputs-0.result one c.index-outputs-0.is, sym c.is_column.ensures ∙ yes))
