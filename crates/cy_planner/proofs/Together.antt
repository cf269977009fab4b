-- Plans in place of others, together and below layers.
use Rattle.std.proofs.Common.{◌≡◌, List, [], ◌∷◌, ◌++◌, map, sym, ap, subst, ◌∙◌}
use Rattle.cy_trees.specs.TreeModels.{expression_of}
use Rattle.cy_planner_algebra.specs.Plans.{Plan}
use Rattle.cy_planner_algebra.specs.PlanModels.{output_of}
use Rattle.cy_planner_algebra.specs.WellFormed.{IsWellFormed}
use Rattle.cy_planner_rewriting.specs.internal.Layers.{IsBase, layered}
use Rattle.cy_planner_rewriting.specs.Rewritten.{IsRewritten}
use Rattle.cy_planner_rewriting.specs.declared.layers.Layer.{Layer}
use Rattle.cy_planner_rewriting.specs.declared.layers.Layer.TheVariants as layer
use Rattle.cy_planner_rewriting.proofs.Layering.{layers_over, well_below}
use Rattle.cy_planner.specs.internal.Standing.{StandsFor}
use Rattle.cy_planner_rewriting.specs.declared.layers.Joint.{Joint}
use Rattle.cy_planner_rewriting.specs.declared.layers.Joint.TheVariants as joint
use Rattle.cy_planner_rewriting.specs.internal.Opened.{over_layer, together}
use Rattle.cy_planner.proofs.Congruent.{on_graphs, over_different, over_distinct, over_filter, over_join, over_lookup, over_outer, over_project, over_semi, over_union, stands_again}

over_any : (l : Layer) (p q : Plan) → StandsFor p q → StandsFor (over_layer l p) (over_layer l q)
over_any (layer.Lookup column attribute) p q is = over_lookup p q is column attribute
over_any (layer.Filter test) p q is = over_filter p q is (expression_of test)
over_any (layer.AllDifferent columns) p q is = over_different p q is columns.items
over_any (layer.Project outputs) p q is = over_project p q is (map output_of outputs.items)
over_any layer.Distinct p q is = over_distinct p q is

pub over_all : (ls : List Layer) (p q : Plan) → StandsFor p q → StandsFor (layered ls p) (layered ls q)
over_all [] p q is = is
over_all (l ∷ ls) p q is = over_any l (layered ls p) (layered ls q) (over_all ls p q is)

pub over_both : (j : Joint) (p q other_p other_q : Plan) → StandsFor p other_p → StandsFor q other_q → StandsFor (together j p q) (together j other_p other_q)
over_both (joint.Join keys) p q other_p other_q here there = over_join p q other_p other_q here there keys.items
over_both (joint.Outer keys test) p q other_p other_q here there = over_outer p q other_p other_q here there keys.items (expression_of test)
over_both (joint.Semi keys keeping) p q other_p other_q here there = over_semi p q other_p other_q here there keys.items keeping
over_both joint.Union p q other_p other_q here there = over_union p q other_p other_q here there

-- a layer more is taken off the plan
pub layer_off : (whole p q : Plan) (ls others : List Layer) (l : Layer) → p ≡ over_layer l q → others ≡ ls ++ l ∷ [] → IsRewritten whole (layered ls p) → IsRewritten whole (layered others q)
layer_off whole p q ls others l is more before =
    subst (λ (r : Plan). IsRewritten whole r) (ap (layered ls) is ∙ sym (layers_over ls (l ∷ []) q) ∙ ap (λ (ms : List Layer). layered ms q) (sym more)) before

-- the base below the layers of a plan
pub well_base : (whole base : Plan) (ls : List Layer) → IsWellFormed whole → IsRewritten whole (layered ls base) → IsWellFormed base
well_base whole base ls well is = well_below ls base (is.well_formed well)

-- another one in its place
pub base_replaced : (whole base other : Plan) (ls : List Layer) → IsRewritten whole (layered ls base) → StandsFor base other → StandsFor whole (layered ls other)
base_replaced whole base other ls is put = stands_again whole (layered ls base) (layered ls other) (on_graphs whole (layered ls base) is) (over_all ls base other put)

-- two plans together in its place, and another one in the place of these
pub both_replaced : (whole base left right other_left other_right put : Plan) (j : Joint) (ls : List Layer) → IsRewritten whole (layered ls base) → base ≡ together j left right
    → StandsFor left other_left → StandsFor right other_right → StandsFor (together j other_left other_right) put
    → StandsFor whole (layered ls put)
both_replaced whole base left right other_left other_right put j ls is opened here there last =
    base_replaced whole base put ls is
    (subst (λ (p : Plan). StandsFor p put) (sym opened)
    (stands_again (together j left right) (together j other_left other_right) put (over_both j left right other_left other_right here there) last))

-- what layers stand on is no layer
pub no_layer : (p : Plan) (l : Layer) (q : Plan) → IsBase p → p ≡ over_layer l q → ⊥
no_layer p l q base is = none l (subst IsBase is base)
  where
    none : (m : Layer) → IsBase (over_layer m q) → ⊥
    none (layer.Lookup column attribute) lies = lies
    none (layer.Filter test) lies = lies
    none (layer.AllDifferent columns) lies = lies
    none (layer.Project outputs) lies = lies
    none layer.Distinct lies = lies
