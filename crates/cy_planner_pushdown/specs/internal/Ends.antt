-- Columns in which the ends of relationships stand. (own)
use Rattle.std.specs.Prelude.{◌≡◌, ℕ, List, [], ◌∷◌, Some}
use Rattle.cy_scope_kinds.specs.declared.kinds.Kind.TheVariants as kind
use Rattle.cy_planner_algebra.specs.Plans as plan
use Rattle.cy_planner_algebra.specs.Plans.{Plan}
use Rattle.cy_planner_pushdown.specs.internal.Pushed.{IsTakenOver, kind_of_rels}

-- in each row of a plan an end of a relationship stands in the column
abbrev pub IsEnd : Plan → ℕ → Type 0
IsEnd plan.unit column = ⊥
IsEnd plan.nodes column = ⊥
IsEnd (plan.rels types orientation) column = kind_of_rels column ≡ Some kind.Node
IsEnd (plan.join left right keys) column = IsEnd left column
IsEnd (plan.outer left right keys test) column = ⊥
IsEnd (plan.semi left right keys keeping) column = IsEnd left column
IsEnd (plan.lookup p other attribute) column = IsEnd p column
IsEnd (plan.filter p test) column = IsEnd p column
IsEnd (plan.all_different p columns) column = IsEnd p column
IsEnd (plan.project p outputs) column = (other : ℕ) × IsTakenOver outputs column other × IsEnd p other
IsEnd (plan.distinct p) column = ⊥
IsEnd (plan.union left right) column = ⊥

-- that is the only one of these columns
abbrev pub IsEndAlone : Plan → List ℕ → ℕ → Type 0
IsEndAlone p columns column = (columns ≡ column ∷ []) × IsEnd p column
