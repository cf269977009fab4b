-- Where what stands in the columns of a plan comes from, and plans with a condition on it. (own)
use Rattle.std.specs.Prelude.{◌≡◌, ℕ, zero, suc, Bool, ◌==◌, ◌-◌, List, [], ◌∷◌, ◌++◌, Option, Some, None, IsTrue, length, map, filter, if◌then◌else◌, nat_lt, slice_get, ⊤}
use Rattle.std.specs.List.{All, Contains, IsDistinct}
use Rattle.std.specs.Option.{option_and_then, option_map_or}
use Rattle.cy_values.specs.declared.rows.Cell.{Cell}
use Rattle.cy_trees.specs.Trees.{Name, Expression, variable}
use Rattle.cy_scope_kinds.specs.declared.kinds.Kind.{Kind}
use Rattle.cy_scope_kinds.specs.declared.kinds.Kind.TheVariants as kind
use Rattle.cy_scope_kinds.specs.Scopes.{Scope}
use Rattle.cy_graph.specs.Graph.{Content, State, IsGraph}
use Rattle.cy_planner_algebra.specs.declared.operators.KeyColumns.{KeyColumns}
use Rattle.cy_planner_algebra.specs.Plans as plan
use Rattle.cy_planner_algebra.specs.Plans.{Plan, Output, computed, gathered, width}
use Rattle.cy_planner_algebra.specs.Expressions.{cell_at}
use Rattle.cy_planner_algebra.specs.Keys.{meet}
use Rattle.cy_planner_algebra.specs.Meaning.{rows_of}
use Rattle.cy_planner_algebra.specs.Parts.{parts}
use Rattle.cy_planner_algebra.specs.Sure.{IsSureOn}
use Rattle.cy_planner_algebra.specs.Within.{IsWithin}
use Rattle.cy_planner_rows.specs.Columns.{taken_column}
use Rattle.cy_planner_pushdown.specs.internal.Conditions.{IsTest, keeps_cells}

-- the column that a projection takes over
abbrev pub column_taken_over : Option Output → Option ℕ
column_taken_over = option_and_then taken_column

-- the kind of what an expression makes; a variable is taken over
abbrev pub kind_computed : Expression → Option Kind
kind_computed (variable v) = None
kind_computed e = Some kind.Value

-- the kind of what a projection makes in a column
abbrev pub kind_made : Option Output → Option Kind
kind_made (Some (computed e)) = kind_computed e
kind_made (Some (gathered columns)) = Some kind.Relationships
kind_made None = None

-- the relationship itself, its two ends and its type
abbrev pub kind_of_rels : ℕ → Option Kind
kind_of_rels zero = Some kind.Relationship
kind_of_rels (suc zero) = Some kind.Node
kind_of_rels (suc (suc zero)) = Some kind.Node
kind_of_rels (suc (suc (suc zero))) = Some kind.Value
kind_of_rels (suc (suc (suc (suc n)))) = None

abbrev pub kind_of_nodes : ℕ → Option Kind
kind_of_nodes zero = Some kind.Node
kind_of_nodes (suc n) = None

-- the same kind of entity in two columns
abbrev pub common_kind : Option Kind → Option Kind → Option Kind
common_kind (Some kind.Node) (Some kind.Node) = Some kind.Node
common_kind (Some kind.Relationship) (Some kind.Relationship) = Some kind.Relationship
common_kind k l = None

-- the kind of what stands in a column, as far as the plan's operators show it
abbrev pub kind_at : Plan → ℕ → Option Kind
kind_at plan.unit column = None
kind_at plan.nodes column = kind_of_nodes column
kind_at (plan.rels types orientation) column = kind_of_rels column
kind_at (plan.join left right keys) column = if nat_lt column (width left) then kind_at left column else kind_at right (column - width left)
kind_at (plan.outer left right keys test) column = if nat_lt column (width left) then kind_at left column else kind_at right (column - width left)
kind_at (plan.semi left right keys keeping) column = kind_at left column
kind_at (plan.lookup p c attribute) column = if nat_lt column (width p) then kind_at p column else if column == width p then Some kind.Value else None
kind_at (plan.filter p test) column = kind_at p column
kind_at (plan.all_different p columns) column = kind_at p column
kind_at (plan.project p outputs) column = option_map_or (kind_at p) (column_taken_over (slice_get outputs column)) (kind_made (slice_get outputs column))
kind_at (plan.distinct p) column = kind_at p column
kind_at (plan.union left right) column = common_kind (kind_at left column) (kind_at right column)

abbrev pub kind_in_scope : Name × Kind → Option Kind
kind_in_scope v = Some v.1

-- no column stands twice
abbrev pub AreDistinct : List ℕ → Type 0
AreDistinct columns = IsDistinct (λ c d. c == d) columns

-- the variables of a scope stand in columns of a plan
abbrev pub StandIn : Plan → List ℕ → Scope → Type 0
StandIn p columns scope = (map (kind_at p) columns ≡ map kind_in_scope scope) × AreDistinct columns

-- a condition on the cells in some columns, which has a truth whatever stands there, by the kinds
abbrev pub CanBePushed : Plan → List ℕ → Expression → Type 0
CanBePushed p columns test = (scope : Scope) × StandIn p columns scope × IsTest scope test

-- each column has another one, in the same order
abbrev pub Each : (ℕ → ℕ → Type 0) → List ℕ → List ℕ → Type 0
Each R [] [] = ⊤
Each R [] (d ∷ others) = ⊥
Each R (c ∷ columns) [] = ⊥
Each R (c ∷ columns) (d ∷ others) = R c d × Each R columns others

abbrev pub AreMoved : (ℕ → ℕ → Type 0) → List ℕ → List ℕ → Type 0
AreMoved R columns others = Each R columns others × AreDistinct others

-- A column of the left input that has the same key as one of the right input, and shows the kind.
pub record IsLeftKey (left : Plan) (keys : List KeyColumns) (column : ℕ) (k : Option Kind) (other : ℕ) : Type 0 where
  pub key : KeyColumns
  pub among : Contains keys key
  pub here : key.right ≡ column
  pub there : key.left ≡ other
  pub kinds : kind_at left other ≡ k

-- A column of the right input that has the same key as one of the left input, and shows the kind.
pub record IsRightKey (right : Plan) (keys : List KeyColumns) (column : ℕ) (k : Option Kind) (other : ℕ) : Type 0 where
  pub key : KeyColumns
  pub among : Contains keys key
  pub here : key.left ≡ column
  pub there : key.right ≡ other
  pub kinds : kind_at right other ≡ k

-- What stands in a column of a join stands in a column of the left input too.
pub record IsOnLeft (left right : Plan) (keys : List KeyColumns) (column other : ℕ) : Type 0 where
  pub kinds : kind_at left other ≡ kind_at (plan.join left right keys) column
  pub cells : (l r : List Cell) → length l ≡ width left → IsTrue (meet keys l r) → cell_at l other ≡ cell_at (l ++ r) column

-- What stands in a column of a join stands in a column of the right input too.
pub record IsOnRight (left right : Plan) (keys : List KeyColumns) (column other : ℕ) : Type 0 where
  pub kinds : kind_at right other ≡ kind_at (plan.join left right keys) column
  pub cells : (l r : List Cell) → length l ≡ width left → IsTrue (meet keys l r) → cell_at r other ≡ cell_at (l ++ r) column

-- a column that a projection takes over from another one
abbrev pub IsTakenOver : List Output → ℕ → ℕ → Type 0
IsTakenOver outputs column other = column_taken_over (slice_get outputs column) ≡ Some other

-- Of the rows of a plan, in their order, those that pass. A column shows the kind that it showed.
pub record IsSifted (below : Plan) (passes : Content → List Cell → Bool) (p : Plan) : Type 0 where
  pub as_wide : width p ≡ width below
  pub kinds : (column : ℕ) → kind_at p column ≡ kind_at below column
  pub rows : (graph : State) → IsGraph graph → rows_of graph.content p ≡ filter (passes graph.content) (rows_of graph.content below)
  pub sure : (graph : State) → IsGraph graph → IsSureOn graph.content below → IsSureOn graph.content p
  pub bounded : (graph : State) (tables : List (List (List Cell))) → IsGraph graph → All (IsWithin graph.content tables) (parts below) → All (IsWithin graph.content tables) (parts p)

-- those for which a condition is true of the cells in some columns
abbrev pub IsPushed : Plan → List ℕ → Expression → Plan → Type 0
IsPushed below columns test p = IsSifted below (λ graph. keeps_cells graph test columns) p
