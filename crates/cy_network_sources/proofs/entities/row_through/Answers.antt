use Rattle.std.proofs.Common.{◌≡◌, ℕ, ◌+◌, ◌-◌, ◌<◌, ◌≤◌, List, [], ◌∷◌, sym, ap, subst, ◌∙◌, map, length, drop, get_or, Bor, arith}
use Rattle.std.specs.Option.{option_to_list}
use Rattle.std.proofs.lemmas.List.{get_or-map, length-map}
use Rattle.cy_values.specs.declared.scalars.Value.{Value}
use Rattle.cy_values.specs.declared.rows.Cell.{Cell}
use Rattle.cy_planner_algebra.specs.declared.operators.Attribute.{Attribute}
use Rattle.cy_planner_algebra.specs.declared.operators.Operator.{Operator}
use Rattle.cy_planner_algebra.specs.Plans.{Plan}
use Rattle.cy_planner_algebra.specs.PlanModels.{plan_of}
use Rattle.cy_network_sources.specs.internal.Through.{AreFit, IsFit, attribute_in, made_by, through}
use Rattle.cy_network_sources.proofs.ThroughSteps.{fit_at, none_after, one_part}
use Rattle.cy_network_sources.proofs.entities.row_through.Goals as goal

module _ (value_of : Attribute → Value) (parts : List (Bor Operator)) (rows : List (List Cell)) (left : ℕ) (some : 0 < left) (within : left ≤ length parts) (row : List Cell)
    (x : Bor Operator) (is : x ≡ get_or parts (left - 1) x) where
  abbrev plans : List Plan
  plans = map (λ part. plan_of part.now) parts

  here : left - 1 < length plans
  here = let same = length-map parts (λ (part : Bor Operator). plan_of part.now) in omega (arith, some, within, same)

  next : left - 1 + 1 ≡ left
  next = omega (arith, some)

  element : plan_of x.now ≡ get_or plans (left - 1) (plan_of x.now)
  element =
      let inside : left - 1 < length parts = omega (arith, some, within) in
      ap (λ (part : Bor Operator). plan_of part.now) is ∙ sym (get_or-map (λ (part : Bor Operator). plan_of part.now) parts (left - 1) x (plan_of x.now) inside)

  module _ (so_far : row ∷ [] ≡ through value_of (drop left plans) rows) where
    fits : AreFit value_of plans rows → IsFit (plan_of x.now) (row ∷ [])
    fits fit =
        subst (λ q. IsFit q (row ∷ [])) (sym element)
        (subst (IsFit (get_or plans (left - 1) (plan_of x.now))) (ap (λ n. through value_of (drop n plans) rows) next ∙ sym so_far) (fit_at value_of plans (left - 1) rows (plan_of x.now) here fit))

    makes : made_by value_of (plan_of x.now) (row ∷ []) ≡ through value_of (drop (left - 1) plans) rows
    makes =
        ap (λ q. made_by value_of q (row ∷ [])) element
        ∙ ap (made_by value_of (get_or plans (left - 1) (plan_of x.now))) (so_far ∙ ap (λ n. through value_of (drop n plans) rows) (sym next))
        ∙ one_part value_of plans (left - 1) rows (plan_of x.now) here

pub row_by-requires : goal.row_by-requires
row_by-requires c =
    fits (attribute_in c.args.entity) c.args.parts.now (c.args.row ∷ []) c.loop-left.left c.loop-left-test.true c.loop-left.invariant.within c.loop-left.row c.index-parts-left.result c.index-parts-left.is
    c.loop-left.invariant.so_far c.requires

pub loop-left-preserved : goal.loop-left-preserved
loop-left-preserved c =
    let within = c.loop-left.invariant.within in
    record {
      within = omega (arith, within);
      so_far = ap option_to_list (sym c.in-Some.is) ∙ c.in_ok-made.ensures
          ∙ makes (attribute_in c.args.entity) c.args.parts.now (c.args.row ∷ []) c.loop-left.left c.loop-left-test.true within c.loop-left.row c.index-parts-left.result c.index-parts-left.is
          c.loop-left.invariant.so_far;
    }

pub returns-in-None : goal.returns-in-None
returns-in-None c =
    sym (none_after (attribute_in c.args.entity) (map (λ part. plan_of part.now) c.args.parts.now) (c.loop-left.left - 1) (c.args.row ∷ [])
    (sym (makes (attribute_in c.args.entity) c.args.parts.now (c.args.row ∷ []) c.loop-left.left c.loop-left-test.true c.loop-left.invariant.within c.loop-left.row c.index-parts-left.result c.index-parts-left.is
    c.loop-left.invariant.so_far)
    ∙ sym c.in_ok-made.ensures ∙ ap option_to_list c.in-None.is))
