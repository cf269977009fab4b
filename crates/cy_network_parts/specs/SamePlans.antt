-- Plans that are the same, for what patterns make of one relationship and the nodes at its ends. (own)
use Rattle.std.specs.Prelude.{ℕ, zero, suc, ◌==◌, Bool, true, false, ◌&&◌, List, [], ◌∷◌, nat_eq}
use Rattle.std.specs.Str.{bytes_eq}
use Rattle.cy_trees.specs.Trees.{Name, variable}
use Rattle.cy_planner_algebra.specs.declared.operators.Attribute.{Attribute}
use Rattle.cy_planner_algebra.specs.declared.operators.Attribute.TheVariants as attribute
use Rattle.cy_planner_algebra.specs.declared.operators.KeyColumns.{KeyColumns}
use Rattle.cy_planner_algebra.specs.declared.operators.Orientation.{Orientation}
use Rattle.cy_planner_algebra.specs.declared.operators.Orientation.TheVariants as orientation
use Rattle.cy_planner_algebra.specs.Plans as plan
use Rattle.cy_planner_algebra.specs.Plans.{Output, Plan, computed}
use Rattle.cy_network_parts.specs.SameConditions.{same_condition, same_variable}

-- how many operators deep two plans are compared at most, and how deep the conditions in them
unfoldable pub most_deep : ℕ
most_deep = 12

-- two projections make the same column, which is one of those below
abbrev pub same_output : Output → Output → Bool
same_output (computed (variable v)) (computed (variable w)) = same_variable v w
same_output _ _ = false

-- they make the same columns
abbrev pub same_outputs : List Output → List Output → Bool
same_outputs [] [] = true
same_outputs (o ∷ os) (p ∷ ps) = same_output o p && same_outputs os ps
same_outputs _ _ = false

abbrev pub same_names : List Name → List Name → Bool
same_names [] [] = true
same_names (a ∷ names) (b ∷ others) = bytes_eq a b && same_names names others
same_names _ _ = false

abbrev pub same_orientation : Orientation → Orientation → Bool
same_orientation orientation.Directed orientation.Directed = true
same_orientation orientation.Directed orientation.Either = false
same_orientation orientation.Either orientation.Directed = false
same_orientation orientation.Either orientation.Either = true

-- two look-ups add the same of an entity
abbrev pub same_attribute : Attribute → Attribute → Bool
same_attribute (attribute.Property key) (attribute.Property other) = bytes_eq key other
same_attribute attribute.RelType attribute.RelType = true
same_attribute attribute.Labels attribute.Labels = true
same_attribute _ _ = false

-- two joins compare the same columns
abbrev pub same_keys : List KeyColumns → List KeyColumns → Bool
same_keys [] [] = true
same_keys (k ∷ ks) (l ∷ ls) = (k.left == l.left && k.right == l.right) && same_keys ks ls
same_keys _ _ = false

-- two plans are the same, this deep at most
abbrev pub same_plan : ℕ → Plan → Plan → Bool
same_plan zero p q = false
same_plan (suc deep) plan.nodes plan.nodes = true
same_plan (suc deep) (plan.rels types way) (plan.rels others other) = same_names types others && same_orientation way other
same_plan (suc deep) (plan.project p outputs) (plan.project q others) = same_plan deep p q && same_outputs outputs others
same_plan (suc deep) (plan.lookup p column attribute) (plan.lookup q other wanted) = same_plan deep p q && column == other && same_attribute attribute wanted
same_plan (suc deep) (plan.filter p test) (plan.filter q other) = same_plan deep p q && same_condition most_deep test other
same_plan (suc deep) (plan.join left right keys) (plan.join first second others) = same_plan deep left first && same_plan deep right second && same_keys keys others
same_plan (suc deep) _ _ = false

abbrev pub same_columns : List ℕ → List ℕ → Bool
same_columns [] [] = true
same_columns (c ∷ cs) (d ∷ ds) = nat_eq c d && same_columns cs ds
same_columns _ _ = false
