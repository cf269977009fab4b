-- Layers over plans.
use Rattle.std.proofs.Common.{◌≡◌, Global, List, [], ◌∷◌, ◌++◌, Vec, map, refl, sym, ap, subst, ◌∙◌, inl, inr}
use Rattle.cy_trees.specs.TreeModels.{expression_of}
use Rattle.cy_planner_algebra.specs.declared.operators.Output.{Output}
use Rattle.cy_planner_algebra.specs.Plans as plan
use Rattle.cy_planner_algebra.specs.Plans.{Plan}
use Rattle.cy_planner_algebra.specs.PlanModels.{output_of}
use Rattle.cy_planner_algebra.specs.WellFormed.{IsWellFormed}
use Rattle.cy_planner_rewriting.specs.declared.layers.Layer.{Layer}
use Rattle.cy_planner_rewriting.specs.declared.layers.Layer.TheVariants as layer
use Rattle.cy_planner_rewriting.specs.internal.Columns.{IsMerged}
use Rattle.cy_planner_rewriting.specs.internal.Opened.{over_layer}
use Rattle.cy_planner_rewriting.specs.internal.Layers.{AreInPlace, layered}
use Rattle.cy_planner_rewriting.specs.Rewritten.{IsRewritten}
use Rattle.cy_planner_rewriting.proofs.Congruent.{equal_plans, over_different, over_distinct, over_filter, over_lookup, over_project, rewritten_again, same_plan}
use Rattle.cy_planner_rewriting.proofs.Rules.{project_of_picked, project_twice}

-- several layers over others
pub layers_over : (ls ms : List Layer) (p : Plan) → layered (ls ++ ms) p ≡ layered ls (layered ms p)
layers_over [] ms p = refl
layers_over (l ∷ ls) ms p = ap (over_layer l) (layers_over ls ms p)

pub over_any : (l : Layer) (p q : Plan) → IsRewritten p q → IsRewritten (over_layer l p) (over_layer l q)
over_any (layer.Lookup column attribute) p q is = over_lookup p q is column attribute
over_any (layer.Filter test) p q is = over_filter p q is (expression_of test)
over_any (layer.AllDifferent columns) p q is = over_different p q is columns.items
over_any (layer.Project outputs) p q is = over_project p q is (map output_of outputs.items)
over_any layer.Distinct p q is = over_distinct p q is

pub over_all : (ls : List Layer) (p q : Plan) → IsRewritten p q → IsRewritten (layered ls p) (layered ls q)
over_all [] p q is = is
over_all (l ∷ ls) p q is = over_any l (layered ls p) (layered ls q) (over_all ls p q is)

well_below_one : (l : Layer) (p : Plan) → IsWellFormed (over_layer l p) → IsWellFormed p
well_below_one layer.Distinct p well = well
well_below_one _ p well = well.0

pub well_below : (ls : List Layer) (p : Plan) → IsWellFormed (layered ls p) → IsWellFormed p
well_below [] p well = well
well_below (l ∷ ls) p well = well_below ls p (well_below_one l (layered ls p) well)

-- the lowest layers in another form
pub lowest_in_place : (ls ms others : List Layer) (p q : Plan) → (IsWellFormed (layered ms p) → IsRewritten (layered ms p) (layered others q)) → AreInPlace (ls ++ ms) (ls ++ others) p q
lowest_in_place ls ms others p q is well =
    rewritten_again (layered (ls ++ ms) p) (layered ls (layered ms p)) (layered (ls ++ others) q)
    (equal_plans (layered (ls ++ ms) p) (layered ls (layered ms p)) (layers_over ls ms p))
    (rewritten_again (layered ls (layered ms p)) (layered ls (layered others q)) (layered (ls ++ others) q)
    (over_all ls (layered ms p) (layered others q) (is (well_below ls (layered ms p) (subst IsWellFormed (layers_over ls ms p) well))))
    (equal_plans (layered ls (layered others q)) (layered (ls ++ others) q) (sym (layers_over ls others q))))

-- the same layers
pub same_layers : (ls others : List Layer) (p : Plan) → others ≡ ls → AreInPlace ls others p p
same_layers ls others p is well = subst (λ (ms : List Layer). IsRewritten (layered ls p) (layered ms p)) (sym is) (same_plan (layered ls p))

-- the lowest of the layers is put on the plan
layer_off : (all ls : List Layer) (l : Layer) (q : Plan) → all ≡ ls ++ l ∷ [] → layered all q ≡ layered ls (over_layer l q)
layer_off all ls l q is = ap (λ (ms : List Layer). layered ms q) is ∙ layers_over ls (l ∷ []) q

pub well_layer : (orig q : Plan) (all ls : List Layer) (l : Layer) → all ≡ ls ++ l ∷ [] → IsWellFormed orig → IsRewritten orig (layered all q) → IsWellFormed (over_layer l q)
well_layer orig q all ls l is well before = well_below ls (over_layer l q) (subst IsWellFormed (layer_off all ls l q is) (before.well_formed well))

pub next_layer : (orig q r : Plan) (all ls : List Layer) (l : Layer) → all ≡ ls ++ l ∷ [] → IsRewritten orig (layered all q) → IsRewritten (over_layer l q) r → IsRewritten orig (layered ls r)
next_layer orig q r all ls l is before put =
    rewritten_again orig (layered ls (over_layer l q)) (layered ls r)
    (subst (λ (p : Plan). IsRewritten orig p) (layer_off all ls l q is) before)
    (over_all ls (over_layer l q) r put)

-- a plan under layers is put in place of another
pub part_replaced : (orig p q : Plan) (ls : List Layer) → IsRewritten p q → IsRewritten orig (layered ls p) → IsRewritten orig (layered ls q)
part_replaced orig p q ls is before = rewritten_again orig (layered ls p) (layered ls q) before (over_all ls p q is)

-- what stands in place of layers, where others stand in place of that
pub in_place_again : (ls ms others : List Layer) (p : Plan) → AreInPlace ls ms p p → AreInPlace ms others p p → AreInPlace ls others p p
in_place_again ls ms others p first second well =
    let here = first well in
    rewritten_again (layered ls p) (layered ms p) (layered others p) here (second (here.well_formed well))

-- one projection at the end in place of two
pub both_in_place : (ls others : List Layer) (outer inner outputs : Vec Output Global) (p : Plan) → IsMerged (map output_of outer.items) (map output_of inner.items) (map output_of outputs.items)
    → AreInPlace (ls ++ layer.Project outputs ∷ []) others p p → AreInPlace (ls ++ layer.Project outer ∷ layer.Project inner ∷ []) others p p
both_in_place ls others outer inner outputs p merged place =
    in_place_again (ls ++ layer.Project outer ∷ layer.Project inner ∷ []) (ls ++ layer.Project outputs ∷ []) others p
    (lowest_in_place ls (layer.Project outer ∷ layer.Project inner ∷ []) (layer.Project outputs ∷ []) p p (λ well. one_for_both p (map output_of outer.items) (map output_of inner.items) (map output_of outputs.items) well merged))
    place
  where
    one_for_both : (q : Plan) (over under made : List plan.Output) → IsWellFormed (plan.project (plan.project q under) over) → IsMerged over under made
        → IsRewritten (plan.project (plan.project q under) over) (plan.project q made)
    one_for_both q over under made well (inl (columns, are, is)) =
        subst (λ (os : List plan.Output). IsRewritten (plan.project (plan.project q under) over) (plan.project q os)) (sym is) (project_twice q over under columns are well)
    one_for_both q over under made well (inr (columns, are, picks)) = project_of_picked q over under columns made are picks

-- a layer put below others
pub placed_below : (ls others : List Layer) (l : Layer) (p : Plan) → IsWellFormed (layered ls (over_layer l p)) → AreInPlace (ls ++ l ∷ []) others p p → IsRewritten (layered ls (over_layer l p)) (layered others p)
placed_below ls others l p well place =
    let whole = layers_over ls (l ∷ []) p in
    subst (λ (q : Plan). IsRewritten q (layered others p)) whole (place (subst IsWellFormed (sym whole) well))
