-- Conditions on the cells in some columns of a row. (own)
use Rattle.std.specs.Prelude.{◌≡◌, ℕ, ◌==◌, Bool, true, false, ◌&&◌, not, List, length, map, Option, Some, None, IsOk, IsTrue, slice_get}
use Rattle.std.specs.List.{list_any}
use Rattle.std.specs.Option.{option_map_or}
use Rattle.cy_values.specs.declared.rows.Cell.{Cell}
use Rattle.cy_trees.specs.declared.expressions.Variable.{Variable}
use Rattle.cy_trees.specs.Trees.{Name, Expression, null, boolean, integer, text, variable, property, has_labels, unary, binary, comparison, list, case, call, call_star, Expressions, no_more, more, Links, no_links, link, Arms, no_arms, arm, Otherwise, nothing, otherwise}
use Rattle.cy_scope_kinds.specs.declared.kinds.Kind.TheVariants as kind
use Rattle.cy_scope_kinds.specs.Kinded.{HasKind}
use Rattle.cy_scope_kinds.specs.Rows.{row_fits}
use Rattle.cy_scope_kinds.specs.Scopes.{Scope, find_column, is_bound}
use Rattle.cy_graph.specs.Graph.{Content}
use Rattle.cy_expr.specs.Reading.{reads_below}
use Rattle.cy_planner_algebra.specs.Expressions.{cell_at}
use Rattle.cy_planner_rows.specs.Rows.{condition_on, keeps}

-- a column is one of several
abbrev pub is_among : List ℕ → ℕ → Bool
is_among columns column = list_any (λ c. c == column) columns

-- neither the name nor the column is there
abbrev pub is_new : Scope → List ℕ → Name → ℕ → Bool
is_new scope columns name column = not (is_bound scope name) && not (is_among columns column)

-- the column of a name, where the variables of a scope stand in these columns
abbrev pub column_in : Scope → List ℕ → Name → Option ℕ
column_in scope columns name = option_map_or (slice_get columns) (find_column scope name) None

abbrev pub same_column : Option ℕ → Option ℕ → Bool
same_column (Some c) (Some d) = c == d
same_column c d = false

-- the variable is one of a scope and has its column
abbrev pub is_that : Scope → List ℕ → Variable → Bool
is_that scope columns v = same_column (column_in scope columns v.name) v.column

-- each variable is one of a scope and has its column
module _ (scope : Scope) (columns : List ℕ) where
  abbrev mutual
    pub asks_of : Expression → Bool
    asks_of null = true
    asks_of (boolean b) = true
    asks_of (integer n) = true
    asks_of (text t) = true
    asks_of (variable v) = is_that scope columns v
    asks_of (property e key) = asks_of e
    asks_of (has_labels e labels) = asks_of e
    asks_of (unary operator e) = asks_of e
    asks_of (binary operator a b) = asks_of a && asks_of b
    asks_of (comparison e links) = asks_of e && links_ask_of links
    asks_of (list es) = all_ask_of es
    asks_of (case arms e) = arms_ask_of arms && else_asks_of e
    asks_of (call name distinct es) = all_ask_of es
    asks_of (call_star name) = true

    pub all_ask_of : Expressions → Bool
    all_ask_of no_more = true
    all_ask_of (more e es) = asks_of e && all_ask_of es

    pub links_ask_of : Links → Bool
    links_ask_of no_links = true
    links_ask_of (link by e links) = asks_of e && links_ask_of links

    pub arms_ask_of : Arms → Bool
    arms_ask_of no_arms = true
    arms_ask_of (arm condition outcome arms) = asks_of condition && asks_of outcome && arms_ask_of arms

    pub else_asks_of : Otherwise → Bool
    else_asks_of nothing = true
    else_asks_of (otherwise e) = asks_of e

-- A condition on rows with a cell for each variable of a scope, which has a truth for whatever stands there, by the kinds.
pub record IsTest (scope : Scope) (test : Expression) : Type 0 where
  pub reads : IsTrue (reads_below (length scope) test)
  pub kinded : HasKind scope test kind.Flag
  pub has_truth : (graph : Content) (row : List Cell) → IsTrue (row_fits scope row) → IsOk (condition_on graph test row)

-- the cells in some columns of a row
abbrev pub cells_at : List ℕ → List Cell → List Cell
cells_at columns row = map (cell_at row) columns

-- a condition is true of them
abbrev pub keeps_cells : Content → Expression → List ℕ → List Cell → Bool
keeps_cells graph test columns row = keeps graph test (cells_at columns row)

-- on each row a condition is true where another one is true of the cells in some columns
abbrev pub IsOnCells : Expression → List ℕ → Expression → Type 0
IsOnCells test columns cells_test = (graph : Content) (row : List Cell) → keeps graph test row ≡ keeps_cells graph cells_test columns row
