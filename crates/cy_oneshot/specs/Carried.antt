-- What UNWIND carries along: a cell that the next clauses don't read is null. (own)
use Rattle.std.specs.Prelude.{◌≡◌, ◌⊎◌, ◌||◌, ◌+◌, ◌-◌, ◌≤◌, ℕ, Bool, true, false, List, [], ◌∷◌, length, map, slice_get, slice_index_or, if◌then◌else◌, Option, None, IfSome, Result, Ok}
use Rattle.std.specs.List.{AllByRecursion}
use Rattle.cy_values.specs.declared.scalars.Value.TheVariants as value
use Rattle.cy_values.specs.declared.rows.Cell.{Cell}
use Rattle.cy_values.specs.declared.rows.Cell.TheVariants as cell
use Rattle.cy_trees.specs.declared.expressions.Variable.{Variable}
use Rattle.cy_trees.specs.Trees.{Expression, Item, Key, MapEntry, Projection, Where, SetItem, set_property, set_labels, RemoveItem, remove_property, remove_labels, Clause, «match», unwind, «with», «return», create, set, remove, delete}
use Rattle.cy_scope.specs.Views.{is_update}
use Rattle.cy_expr.specs.declared.faults.EvalFault.{EvalFault}
use Rattle.cy_expr.specs.Faults.{on_one}
use Rattle.cy_oneshot_patterns.specs.Places.{Place, column_at, entries_at, places}
use Rattle.cy_oneshot_outcomes.specs.Columns.{column_list, columns_read}
use Rattle.cy_oneshot_meaning.specs.Projection.{item_of_key}

-- whether the cell in a column is needed; past the end of what is known each is
abbrev pub is_needed : List Bool → ℕ → Bool
is_needed needed place = slice_index_or needed place true

-- all of these columns are needed
abbrev pub AreNeeded : List Bool → List ℕ → Type 0
AreNeeded needed columns = AllByRecursion (λ column. is_needed needed column ≡ true) columns

-- a row's cells from a column on, with null for each that isn't needed
abbrev pub carried_from : List Bool → ℕ → List Cell → List Cell
carried_from needed place [] = []
carried_from needed place (c ∷ row) = (if is_needed needed place then c else cell.Value value.Null) ∷ carried_from needed (place + 1) row

-- the rows of an outcome with null for each cell that isn't needed
abbrev pub carried : List Bool → Result (List (List Cell)) EvalFault → Result (List (List Cell)) EvalFault
carried needed outcome = on_one (λ rows. Ok (map (carried_from needed 0) rows)) outcome

-- so of each row, if the clause is UNWIND
abbrev pub carried_by : Clause → List Bool → Result (List (List Cell)) EvalFault → Result (List (List Cell)) EvalFault
carried_by (unwind e v) needed outcome = carried needed outcome
carried_by clause needed outcome = outcome

-- all columns that items read are needed
abbrev pub AreRead : List Bool → List Item → Type 0
AreRead needed items = AllByRecursion (λ i. AreNeeded needed (columns_read i.expression)) items

-- what is seen of an item's column or, after these, of a column of the row before, which is needed then
abbrev pub IsSeen : List Bool → ℕ → ℕ → Type 0
IsSeen needed count column = count ≤ column → is_needed needed (column - count) ≡ true

-- so of each of some columns
abbrev pub AreSeen : List Bool → ℕ → List ℕ → Type 0
AreSeen needed count columns = AllByRecursion (IsSeen needed count) columns

-- a key that repeats an item is that item's column; any other one sees the columns of the items and, after them, those of the row before
abbrev pub IsKeyRead : List Bool → ℕ → Option ℕ × Key → Type 0
IsKeyRead needed count key = key.0 ≡ None → AreSeen needed count (columns_read key.1.expression)

-- so of each of some keys
abbrev pub AreKeysRead : List Bool → ℕ → List (Option ℕ × Key) → Type 0
AreKeysRead needed count keys = AllByRecursion (IsKeyRead needed count) keys

-- the keys of a projection, each with the item that it repeats
abbrev pub keys_of : Projection → List (Option ℕ × Key)
keys_of p = map (λ k. (item_of_key p.items k, k)) p.order

-- all that WITH or RETURN reads of the row before it is needed
abbrev pub IsProjectionRead : List Bool → Projection → Type 0
IsProjectionRead needed p = AreRead needed p.items × AreKeysRead needed (length p.items) (keys_of p)

-- all columns that the expressions of entries read are needed
abbrev pub AreEntriesRead : List Bool → List MapEntry → Type 0
AreEntriesRead needed entries = AllByRecursion (λ e. AreNeeded needed (columns_read e.value)) entries

-- the column of a place's variable is needed, if it has one, and so are those that its map reads
abbrev pub IsPlaceRead : List Bool → Place → Type 0
IsPlaceRead needed p = IfSome (column_at p) (λ column. is_needed needed column ≡ true) × AreEntriesRead needed (entries_at p)

-- so of each of some places
abbrev pub ArePlacesRead : List Bool → List Place → Type 0
ArePlacesRead needed ps = AllByRecursion (IsPlaceRead needed) ps

-- all columns that a condition reads are needed
abbrev pub IsTestRead : List Bool → Option Expression → Type 0
IsTestRead needed test = IfSome test (λ e. AreNeeded needed (columns_read e))

-- so are those that a WHERE reads: its condition, and its paths
abbrev pub IsWhereRead : List Bool → Where → Type 0
IsWhereRead needed w = IsTestRead needed w.test × ArePlacesRead needed (places (map (λ t. t.path) w.paths))

-- the column of a variable is needed, if it has one
abbrev pub IsVariableRead : List Bool → Variable → Type 0
IsVariableRead needed v = AreNeeded needed (column_list v.column)

-- all that an item of SET reads of the row before it is needed
abbrev pub IsSetRead : List Bool → SetItem → Type 0
IsSetRead needed (set_property v key e) = IsVariableRead needed v × AreNeeded needed (columns_read e)
IsSetRead needed (set_labels v labels) = IsVariableRead needed v

-- and all that an item of REMOVE reads
abbrev pub IsRemoveRead : List Bool → RemoveItem → Type 0
IsRemoveRead needed (remove_property v key) = IsVariableRead needed v
IsRemoveRead needed (remove_labels v labels) = IsVariableRead needed v

-- all that a clause reads of the row before it is needed
abbrev pub IsClauseRead : List Bool → Clause → Type 0
IsClauseRead needed («match» optional paths w) = ArePlacesRead needed (places paths) × IsWhereRead needed w
IsClauseRead needed (unwind e v) = AreNeeded needed (columns_read e)
IsClauseRead needed («with» p w) = IsProjectionRead needed p
IsClauseRead needed («return» p) = IsProjectionRead needed p
IsClauseRead needed (create paths) = ArePlacesRead needed (places paths)
IsClauseRead needed (set items) = AllByRecursion (IsSetRead needed) items
IsClauseRead needed (remove items) = AllByRecursion (IsRemoveRead needed) items
IsClauseRead needed (delete detach variables) = AllByRecursion (IsVariableRead needed) variables

-- whether a clause is WITH or RETURN
abbrev pub is_projection : Clause → Bool
is_projection («with» p w) = true
is_projection («return» p) = true
is_projection clause = false

-- nothing after it sees the row before it: it is WITH or RETURN, or updates at the end
abbrev pub is_last : Clause → List Clause → Bool
is_last clause [] = is_projection clause || is_update clause
is_last clause (other ∷ others) = is_projection clause

-- whether a clause updates before a WITH or RETURN comes
abbrev pub updates_ahead : List Clause → Bool
updates_ahead [] = false
updates_ahead (c ∷ cs) = if is_projection c then false else (is_update c || updates_ahead cs)

-- the first of some rows; the empty row where there is none
abbrev pub first_row : List (List Cell) → List Cell
first_row [] = []
first_row (row ∷ rows) = row

-- in what isn't needed a row has the cells of another one
abbrev pub IsAlike : List Bool → List Cell → List Cell → Type 0
IsAlike needed base row = (column : ℕ) → is_needed needed column ≡ false → slice_get row column ≡ slice_get base column

-- in what isn't needed all rows have the same cells
abbrev pub AreAlike : List Bool → List (List Cell) → Type 0
AreAlike needed rows = AllByRecursion (IsAlike needed (first_row rows)) rows

-- What is needed is enough for the next clauses: all is, or what they read up to such a clause is. Before a clause that updates only rows
-- that are alike in what isn't needed may lose it, since it takes them in their order.
abbrev pub IsEnough : Bool → List Bool → List Clause → Type 0
IsEnough alike needed [] = needed ≡ []
IsEnough alike needed (c ∷ cs) = (needed ≡ []) ⊎ ((is_update c ≡ true → alike ≡ true) × IsClauseRead needed c × (is_last c cs ≡ false → IsEnough alike needed cs))
