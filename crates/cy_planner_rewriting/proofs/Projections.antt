-- Projections that take over columns, and projections of them.
use Rattle.std.proofs.Common.{◌≡◌, ℕ, zero, suc, ◌+◌, ◌<◌, true, List, [], ◌∷◌, ◌++◌, length, map, drop, get_or, take, refl, sym, ap, subst, ◌∙◌, arith}
use Rattle.std.specs.Prelude.{Option, Some, None, IsOk, nat_lt, slice_get, slice_index_or}
use Rattle.std.specs.List.{All, AllByRecursion}
use Rattle.std.specs.Option.{option_map_or}
use Rattle.std.proofs.lemmas.Bool.{and_parts, eqb-true}
use Rattle.std.proofs.lemmas.Bool.Decides.{nat_tests}
use Rattle.std.proofs.lemmas.List.{drop_all, drop_more, length-map}
use Rattle.std.proofs.lemmas.Option.{same_Some}
use Rattle.std.proofs.Math.Seq.{take-suc}
use Rattle.std.proofs.lemmas.List.Elements.{All-cons, All-head, All-nil, All-tail}
use Rattle.cy_values.specs.declared.rows.Cell.{Cell}
use Rattle.cy_values.specs.declared.rows.Cell.TheVariants as cell
use Rattle.cy_trees.specs.declared.expressions.Variable.{Variable}
use Rattle.cy_trees.specs.Trees.{null, boolean, integer, text, variable, property, has_labels, unary, binary, comparison, list, case, call, call_star}
use Rattle.cy_expr.specs.Evaluation.{column_value}
use Rattle.cy_planner_algebra.specs.Plans.{Output, computed, gathered}
use Rattle.cy_planner_algebra.specs.Expressions as expressions
use Rattle.cy_planner_algebra.specs.Expressions.{cell_at, cell_or_null, no_graph, output_cell, projected, relationships_at, relationships_in}
use Rattle.cy_planner_algebra.specs.Sure.{HasCell, HasCells}
use Rattle.cy_planner_algebra.specs.WellFormed.{IsColumn, IsOutputOver}
use Rattle.cy_planner_rows.specs.Renumbered.{new_column}
use Rattle.cy_planner_rows.proofs.RenumberedLemmas.{reads_inside, same_cell, same_reading}
use Rattle.cy_planner_rows.specs.Columns.{taken_column}
use Rattle.cy_planner_rewriting.specs.internal.Columns.{AreColumns, ArePicked, are_columns_from, is_column, renumbered_output}

-- the variable that an output is
pub output_known : (o : Output) (c : ℕ) → taken_column o ≡ Some c → (v : Variable) × (o ≡ computed (variable v)) × (v.column ≡ Some c)
output_known (computed (variable v)) c is = (v, refl, is)
output_known (computed null) c is = cc
output_known (computed (boolean b)) c is = cc
output_known (computed (integer n)) c is = cc
output_known (computed (text t)) c is = cc
output_known (computed (property e key)) c is = cc
output_known (computed (has_labels e labels)) c is = cc
output_known (computed (unary operator e)) c is = cc
output_known (computed (binary operator a b)) c is = cc
output_known (computed (comparison e links)) c is = cc
output_known (computed (list es)) c is = cc
output_known (computed (case arms e)) c is = cc
output_known (computed (call name distinct es)) c is = cc
output_known (computed (call_star name)) c is = cc
output_known (gathered columns) c is = cc

-- the cell of an output that is a column
pub column_cell : (row : List Cell) (o : Output) (c : ℕ) → taken_column o ≡ Some c → output_cell row o ≡ cell_at row c
column_cell row o c is =
    let known = output_known o c is in
    ap (output_cell row) known.1 ∙ ap (λ (d : Option ℕ). column_value d row) known.2

-- and of outputs that are columns
pub columns_cells : (row : List Cell) (outputs : List Output) (columns : List ℕ) → AreColumns outputs columns → projected outputs row ≡ map (cell_at row) columns
columns_cells row [] [] is = refl
columns_cells row [] (c ∷ columns) is = cc
columns_cells row (o ∷ outputs) [] is = cc
columns_cells row (o ∷ outputs) (c ∷ columns) is =
    let first : taken_column o ≡ Some c = cc in
    let rest : AreColumns outputs columns = cc in
    λ i. column_cell row o c first i ∷ columns_cells row outputs columns rest i

-- ---- all columns in their order

known_column : (column : ℕ) (o : Option ℕ) → is_column column o ≡ true → o ≡ Some column
known_column column (Some other) is = ap Some (sym (eqb-true column other is))
known_column column None is = cc

from_column : (row : List Cell) (first : ℕ) (outputs : List Output) → are_columns_from first outputs ≡ true → first + length outputs ≡ length row → projected outputs row ≡ drop first row
from_column row first [] is long = sym (drop_all first row (omega (arith, long)))
from_column row first (o ∷ outputs) is long =
    let both = and_parts (is_column first (taken_column o)) (are_columns_from (first + 1) outputs) is in
    (λ i. column_cell row o first (known_column first (taken_column o) both.0) i ∷ from_column row (first + 1) outputs both.1 (omega (arith, long)) i)
    ∙ sym (drop_more row first expressions.null (omega (arith, long)))

pub first_cells : (row : List Cell) (outputs : List Output) → are_columns_from 0 outputs ≡ true → length outputs ≡ length row → projected outputs row ≡ row
first_cells row outputs is long = from_column row 0 outputs is (omega (arith, long))

-- ---- a projection of a projection

pub cell_moved : (row : List Cell) (columns : List ℕ) (i d : ℕ) → i < length columns → cell_at row (slice_index_or columns i d) ≡ cell_at (map (cell_at row) columns) i
cell_moved row [] i d less = absurd (omega (arith, less))
cell_moved row (c ∷ columns) zero d less = refl
cell_moved row (c ∷ columns) (suc i) d less = cell_moved row columns i d (omega (arith, less))

pub relationships_moved : (row : List Cell) (columns members : List ℕ) → All (IsColumn (length columns)) members → relationships_at (map (new_column columns) members) row ≡ relationships_at members (map (cell_at row) columns)
relationships_moved row columns [] each = refl
relationships_moved row columns (m ∷ members) each =
    λ i. relationships_in (cell_moved row columns m m (All-head (IsColumn (length columns)) m members each) i) ++ relationships_moved row columns members (All-tail (IsColumn (length columns)) m members each) i

renumbered_cell : (row : List Cell) (columns : List ℕ) (o : Output) → IsOutputOver (length columns) o → output_cell row (renumbered_output columns o) ≡ output_cell (map (cell_at row) columns) o
renumbered_cell row columns (computed e) over = ap cell_or_null (same_cell no_graph row columns e over.1)
renumbered_cell row columns (gathered members) over = ap cell.Rels (relationships_moved row columns members over)

pub renumbered_cells : (row : List Cell) (columns : List ℕ) (outputs : List Output) → All (IsOutputOver (length columns)) outputs → projected (map (renumbered_output columns) outputs) row ≡ projected outputs (map (cell_at row) columns)
renumbered_cells row columns [] each = refl
renumbered_cells row columns (o ∷ outputs) each =
    λ i. renumbered_cell row columns o (All-head (IsOutputOver (length columns)) o outputs each) i
    ∷ renumbered_cells row columns outputs (All-tail (IsOutputOver (length columns)) o outputs each) i

renumbered_sure : (row : List Cell) (columns : List ℕ) (o : Output) → IsOutputOver (length columns) o → HasCell (map (cell_at row) columns) o → HasCell row (renumbered_output columns o)
renumbered_sure row columns (computed e) over sure = subst IsOk (sym (same_cell no_graph row columns e over.1)) sure
renumbered_sure row columns (gathered members) over sure = sure

pub all_sure : (row : List Cell) (columns : List ℕ) (outputs : List Output) → All (IsOutputOver (length columns)) outputs → HasCells outputs (map (cell_at row) columns) → HasCells (map (renumbered_output columns) outputs) row
all_sure row columns [] each sure = All-nil (HasCell row)
all_sure row columns (o ∷ outputs) each sure =
    All-cons (HasCell row) (renumbered_output columns o) (map (renumbered_output columns) outputs)
    (renumbered_sure row columns o (All-head (IsOutputOver (length columns)) o outputs each) (All-head (HasCell (map (cell_at row) columns)) o outputs sure))
    (all_sure row columns outputs (All-tail (IsOutputOver (length columns)) o outputs each) (All-tail (HasCell (map (cell_at row) columns)) o outputs sure))

-- the columns that a projection takes over lie in the rows
pub column_inside : (n c : ℕ) (o : Output) → taken_column o ≡ Some c → IsOutputOver n o → c < n
column_inside n c o is over =
    let known = output_known o c is in
    let inside : nat_lt c n ≡ true = ap (λ (d : Option ℕ). option_map_or (λ column. nat_lt column n) d true) (sym known.2) ∙ (subst (IsOutputOver n) known.1 over).1 in
    grind (arith, nat_tests, inside)

pub columns_inside : (n : ℕ) (outputs : List Output) (columns : List ℕ) → AreColumns outputs columns → All (IsOutputOver n) outputs → AllByRecursion (λ c. c < n) columns
columns_inside n outputs [] is each = tt
columns_inside n [] (c ∷ columns) is each = cc
columns_inside n (o ∷ outputs) (c ∷ columns) is each =
    let first : taken_column o ≡ Some c = cc in
    let rest : AreColumns outputs columns = cc in
    (column_inside n c o first (All-head (IsOutputOver n) o outputs each), columns_inside n outputs columns rest (All-tail (IsOutputOver n) o outputs each))

pub member_inside : (n : ℕ) (columns : List ℕ) (i d : ℕ) → AllByRecursion (λ c. c < n) columns → i < length columns → slice_index_or columns i d < n
member_inside n [] i d each less = absurd (omega (arith, less))
member_inside n (c ∷ columns) zero d each less = each.0
member_inside n (c ∷ columns) (suc i) d each less = member_inside n columns i d each.1 (omega (arith, less))

pub members_inside : (n : ℕ) (columns members : List ℕ) → AllByRecursion (λ c. c < n) columns → All (IsColumn (length columns)) members → All (IsColumn n) (map (new_column columns) members)
members_inside n columns [] inside each = All-nil (IsColumn n)
members_inside n columns (m ∷ members) inside each =
    All-cons (IsColumn n) (new_column columns m) (map (new_column columns) members)
    (member_inside n columns m m inside (All-head (IsColumn (length columns)) m members each))
    (members_inside n columns members inside (All-tail (IsColumn (length columns)) m members each))

renumbered_over : (n : ℕ) (columns : List ℕ) (o : Output) → AllByRecursion (λ c. c < n) columns → IsOutputOver (length columns) o → IsOutputOver n (renumbered_output columns o)
renumbered_over n columns (computed e) inside over = (same_reading columns e ∙ over.0, reads_inside n columns inside e over.1)
renumbered_over n columns (gathered members) inside over = members_inside n columns members inside over

pub all_over : (n : ℕ) (columns : List ℕ) (outputs : List Output) → AllByRecursion (λ c. c < n) columns → All (IsOutputOver (length columns)) outputs → All (IsOutputOver n) (map (renumbered_output columns) outputs)
all_over n columns [] inside each = All-nil (IsOutputOver n)
all_over n columns (o ∷ outputs) inside each =
    All-cons (IsOutputOver n) (renumbered_output columns o) (map (renumbered_output columns) outputs)
    (renumbered_over n columns o inside (All-head (IsOutputOver (length columns)) o outputs each))
    (all_over n columns outputs inside (All-tail (IsOutputOver (length columns)) o outputs each))

pub as_many : (outputs : List Output) (columns : List ℕ) → AreColumns outputs columns → length columns ≡ length outputs
as_many outputs columns is = sym (length-map columns Some) ∙ ap length (sym is) ∙ length-map outputs taken_column

-- ---- columns of what a projection makes

-- the first one, and the others
first_picked : (outputs : List Output) (c : ℕ) (columns : List ℕ) (o : Output) (made : List Output) → ArePicked outputs (c ∷ columns) (o ∷ made) → slice_get outputs c ≡ Some o
first_picked outputs c columns o made picks = cc

others_picked : (outputs : List Output) (c : ℕ) (columns : List ℕ) (o : Output) (made : List Output) → ArePicked outputs (c ∷ columns) (o ∷ made) → ArePicked outputs columns made
others_picked outputs c columns o made picks = cc

picked_cell : (row : List Cell) (outputs : List Output) (c : ℕ) (o : Output) → slice_get outputs c ≡ Some o → output_cell row o ≡ cell_at (projected outputs row) c
picked_cell row [] c o at = cc
picked_cell row (p ∷ outputs) zero o at = ap (output_cell row) (sym (same_Some p o at))
picked_cell row (p ∷ outputs) (suc c) o at = picked_cell row outputs c o at

pub picked_cells : (row : List Cell) (outputs : List Output) (columns : List ℕ) (made : List Output) → ArePicked outputs columns made → projected made row ≡ map (cell_at (projected outputs row)) columns
picked_cells row outputs [] [] picks = refl
picked_cells row outputs [] (o ∷ made) picks = cc
picked_cells row outputs (c ∷ columns) [] picks = cc
picked_cells row outputs (c ∷ columns) (o ∷ made) picks =
    λ i. picked_cell row outputs c o (first_picked outputs c columns o made picks) i ∷ picked_cells row outputs columns made (others_picked outputs c columns o made picks) i

one_picked : (P : Output → Type 0) (outputs : List Output) (c : ℕ) (o : Output) → slice_get outputs c ≡ Some o → All P outputs → P o
one_picked P [] c o at each = cc
one_picked P (p ∷ outputs) zero o at each = subst P (same_Some p o at) (All-head P p outputs each)
one_picked P (p ∷ outputs) (suc c) o at each = one_picked P outputs c o at (All-tail P p outputs each)

pub all_picked : (P : Output → Type 0) (outputs : List Output) (columns : List ℕ) (made : List Output) → ArePicked outputs columns made → All P outputs → All P made
all_picked P outputs [] [] picks each = All-nil P
all_picked P outputs [] (o ∷ made) picks each = cc
all_picked P outputs (c ∷ columns) [] picks each = All-nil P
all_picked P outputs (c ∷ columns) (o ∷ made) picks each =
    All-cons P o made (one_picked P outputs c o (first_picked outputs c columns o made picks) each) (all_picked P outputs columns made (others_picked outputs c columns o made picks) each)

pub as_many_picked : (outputs : List Output) (columns : List ℕ) (made : List Output) → ArePicked outputs columns made → length made ≡ length columns
as_many_picked outputs columns made picks = sym (length-map made Some) ∙ ap length (sym picks) ∙ length-map columns (slice_get outputs)

-- one column more
picked_longer : (outputs : List Output) (columns : List ℕ) (made : List Output) (c : ℕ) (o : Output) → ArePicked outputs columns made → slice_get outputs c ≡ Some o → ArePicked outputs (columns ++ c ∷ []) (made ++ o ∷ [])
picked_longer outputs [] [] c o picks at = λ i. at i ∷ []
picked_longer outputs [] (p ∷ made) c o picks at = cc
picked_longer outputs (d ∷ columns) [] c o picks at = cc
picked_longer outputs (d ∷ columns) (p ∷ made) c o picks at =
    λ i. first_picked outputs d columns p made picks i ∷ picked_longer outputs columns made c o (others_picked outputs d columns p made picks) at i

pub picked_next : (outputs : List Output) (columns : List ℕ) (i : ℕ) (made : List Output) (o : Output) → i < length columns → ArePicked outputs (take i columns) made → slice_get outputs (get_or columns i 0) ≡ Some o
    → ArePicked outputs (take (i + 1) columns) (made ++ o ∷ [])
picked_next outputs columns i made o less picks at =
    subst (λ cs. ArePicked outputs cs (made ++ o ∷ []))
    (sym (ap (λ n. take n columns) (let e : i + 1 ≡ suc i = omega arith in e) ∙ take-suc columns i 0 less))
    (picked_longer outputs (take i columns) made (get_or columns i 0) o picks at)
