use Rattle.std.proofs.Common.{◌≡◌, List, [], ◌∷◌, map, ap, sym, subst, ◌∙◌}
use Rattle.std.specs.List.{All}
use Rattle.std.proofs.lemmas.List.Elements.{All-head}
use Rattle.cy_values.specs.declared.rows.Cell.{Cell}
use Rattle.cy_trees.specs.Trees.{Expression}
use Rattle.cy_trees.specs.TreeModels.{expression_of}
use Rattle.cy_expr.specs.Lookups.{IsNumbered}
use Rattle.cy_planner_algebra.specs.declared.operators.Operator.TheFolds.{fold-roll-Operator}
use Rattle.cy_planner_algebra.specs.declared.operators.Operator.TheVariants.{rolls-Filter, rolls-Project}
use Rattle.cy_planner_algebra.specs.Plans as plan
use Rattle.cy_planner_algebra.specs.Plans.{Output, Plan}
use Rattle.cy_planner_algebra.specs.Sure.{HasCells, HasTruth}
use Rattle.cy_planner_algebra.specs.PlanModels.{output_of, plan_of, plan_step}
use Rattle.cy_network_sources.specs.internal.Through.{IsFit, attribute_in}
use Rattle.cy_network_sources.proofs.Elsewhere.{made_else}
use Rattle.cy_network_sources.proofs.entities.row_by.Goals as goal

module _ (part p : Plan) (row : List Cell) (fit : IsFit part (row ∷ [])) where
  filter_fit : (test : Expression) → part ≡ plan.filter p test → HasTruth test row × All IsNumbered row
  filter_fit test is =
      let own = subst (λ q. IsFit q (row ∷ [])) is fit in
      (All-head (HasTruth test) row [] own.0, All-head (All IsNumbered) row [] own.1)

  project_fit : (outputs : List Output) → part ≡ plan.project p outputs → HasCells outputs row × All IsNumbered row
  project_fit outputs is =
      let own = subst (λ q. IsFit q (row ∷ [])) is fit in
      (All-head (HasCells outputs) row [] own.0, All-head (All IsNumbered) row [] own.1)

pub holds-requires-clause-sure : goal.holds-requires-clause-sure
holds-requires-clause-sure c =
    let is : plan_of c.args.part.now ≡ plan.filter (plan_of c.in-Filter.field-0.value) (expression_of c.in-Filter.test) =
    ap plan_of (c.in-Filter.is ∙ sym (rolls-Filter c.in-Filter.field-0 c.in-Filter.test)) ∙ fold-roll-Operator Plan plan_step _ in
    (filter_fit (plan_of c.args.part.now) (plan_of c.in-Filter.field-0.value) c.args.row c.requires (expression_of c.in-Filter.test) is).0

pub holds-requires-clause-numbered : goal.holds-requires-clause-numbered
holds-requires-clause-numbered c =
    let is : plan_of c.args.part.now ≡ plan.filter (plan_of c.in-Filter.field-0.value) (expression_of c.in-Filter.test) =
    ap plan_of (c.in-Filter.is ∙ sym (rolls-Filter c.in-Filter.field-0 c.in-Filter.test)) ∙ fold-roll-Operator Plan plan_step _ in
    (filter_fit (plan_of c.args.part.now) (plan_of c.in-Filter.field-0.value) c.args.row c.requires (expression_of c.in-Filter.test) is).1

pub projected-requires-clause-sure : goal.projected-requires-clause-sure
projected-requires-clause-sure c =
    let is : plan_of c.args.part.now ≡ plan.project (plan_of c.in-Project.field-0.value) (map output_of c.in-Project.outputs.items) =
    ap plan_of (c.in-Project.is ∙ sym (rolls-Project c.in-Project.field-0 c.in-Project.outputs)) ∙ fold-roll-Operator Plan plan_step _ in
    (project_fit (plan_of c.args.part.now) (plan_of c.in-Project.field-0.value) c.args.row c.requires (map output_of c.deref-in-Project.result.now)
    (is ∙ ap (λ outputs. plan.project (plan_of c.in-Project.field-0.value) (map output_of outputs)) (sym c.deref-in-Project.ensures.value))).0

pub projected-requires-clause-numbered : goal.projected-requires-clause-numbered
projected-requires-clause-numbered c =
    let is : plan_of c.args.part.now ≡ plan.project (plan_of c.in-Project.field-0.value) (map output_of c.in-Project.outputs.items) =
    ap plan_of (c.in-Project.is ∙ sym (rolls-Project c.in-Project.field-0 c.in-Project.outputs)) ∙ fold-roll-Operator Plan plan_step _ in
    (project_fit (plan_of c.args.part.now) (plan_of c.in-Project.field-0.value) c.args.row c.requires (map output_of c.in-Project.outputs.items) is).1

pub returns-in_default : goal.returns-in_default
returns-in_default c = sym (made_else c.args.part.now (attribute_in c.args.entity) (c.args.row ∷ []) c.in_default.not-Lookup c.in_default.not-Filter c.in_default.not-AllDifferent c.in_default.not-Project)
