-- Projections that gather a relationship and those of a trail after it into one list. They leave out columns, but where they keep enough of the
-- others, different rows give different ones on each graph: a relationship and one of its ends tell the other end. So do those that leave out only
-- columns of a join's right row in which the same stands as in its left row, and those that keep the key of the rows below them: columns whose cells
-- tell a row. (own)
use Rattle.std.specs.Prelude.{◌≡◌, ℕ, ◌+◌, ◌-◌, ◌<◌, ◌==◌, Bool, false, true, not, ◌&&◌, ◌||◌, List, [], ◌∷◌, Option, if◌then◌else◌, nat_le, nat_lt, slice_get}
use Rattle.std.specs.List.{list_all, list_any, range_with_len}
use Rattle.std.specs.Option.{option_and_then, option_map_or}
use Rattle.cy_values.specs.declared.rows.Cell.{Cell}
use Rattle.cy_values.specs.Bag.{count_of}
use Rattle.cy_graph.specs.Graph.{IsGraph, State}
use Rattle.cy_planner_algebra.specs.declared.operators.KeyColumns.{KeyColumns}
use Rattle.cy_planner_algebra.specs.declared.operators.Orientation.{Orientation}
use Rattle.cy_planner_algebra.specs.declared.operators.Orientation.TheVariants.{Directed, Either}
use Rattle.cy_planner_algebra.specs.Expressions.{projected}
use Rattle.cy_planner_algebra.specs.Meaning.{rows_of}
use Rattle.cy_planner_algebra.specs.Plans as plan
use Rattle.cy_planner_algebra.specs.Plans.{Output, Plan, computed, gathered, width}
use Rattle.cy_network_relevance.specs.Lists.{column_alone}

-- ---- what a projection makes

-- a column stands alone in one that a projection makes
abbrev pub is_alone : ℕ → Output → Bool
is_alone column o = option_map_or (λ other. other == column) (column_alone o) false

-- it stands alone in one of those that it makes
abbrev pub is_kept : List Output → ℕ → Bool
is_kept outputs column = list_any (is_alone column) outputs

-- it stands alone in the one at this place
abbrev pub is_at : List Output → ℕ → ℕ → Bool
is_at outputs place column = option_map_or (is_alone column) (slice_get outputs place) false

-- the column that stands alone in the one at this place
abbrev pub column_at : List Output → ℕ → Option ℕ
column_at outputs place = option_and_then column_alone (slice_get outputs place)

-- columns are these two
abbrev pub are_two : ℕ → ℕ → List ℕ → Bool
are_two first second [] = false
are_two first second (a ∷ []) = false
are_two first second (a ∷ b ∷ []) = a == first && b == second
are_two first second (a ∷ b ∷ c ∷ more) = false

-- what stands in two columns is gathered, in one order or the other
abbrev pub gathers_both : ℕ → ℕ → Output → Bool
gathers_both first second (computed e) = false
gathers_both first second (gathered columns) = are_two first second columns || are_two second first columns

abbrev pub is_list : Output → Bool
is_list (computed e) = false
is_list (gathered columns) = true

-- a relationship and its ends stay in the first three columns, the ends in one order or the other
abbrev pub keeps_links : List Output → Bool
keeps_links outputs = is_at outputs 0 0 && ((is_at outputs 1 1 && is_at outputs 2 2) || (is_at outputs 1 2 && is_at outputs 2 1))

-- ---- what is below it

-- the first three columns hold a relationship and its two ends
abbrev pub has_links : Plan → Bool
has_links plan.unit = false
has_links plan.nodes = false
has_links (plan.rels types orientation) = true
has_links (plan.join left right keys) = has_links left
has_links (plan.outer left right keys test) = false
has_links (plan.semi left right keys keeping) = has_links left
has_links (plan.lookup p column attribute) = has_links p
has_links (plan.filter p test) = has_links p
has_links (plan.all_different p columns) = has_links p
has_links (plan.project p outputs) = has_links p && keeps_links outputs
has_links (plan.distinct p) = false
has_links (plan.union left right) = false

-- the first column holds a list
abbrev pub has_lists : Plan → Bool
has_lists plan.unit = false
has_lists plan.nodes = false
has_lists (plan.rels types orientation) = false
has_lists (plan.join left right keys) = false
has_lists (plan.outer left right keys test) = false
has_lists (plan.semi left right keys keeping) = has_lists left
has_lists (plan.lookup p column attribute) = has_lists p
has_lists (plan.filter p test) = has_lists p
has_lists (plan.all_different p columns) = has_lists p
has_lists (plan.project p outputs) = option_map_or is_list (slice_get outputs 0) false
has_lists (plan.distinct p) = false
has_lists (plan.union left right) = has_lists left && has_lists right

-- ---- both together

-- a column of the right input of a join is one of its key
abbrev pub is_key : List KeyColumns → ℕ → Bool
is_key keys column = list_any (λ (k : KeyColumns). k.right == column) keys

-- what stands in a column of a relationship, this wide, with a trail after it, can be told: the relationship and the list are gathered, the second end
-- comes from the first one, and what stands in the trail's key is known from the relationship
abbrev pub is_told : ℕ → List KeyColumns → List Output → ℕ → Bool
is_told wide keys outputs column =
    column == 0 || (column == 2 || (column == wide || (is_kept outputs column || (nat_le wide column && is_key keys (column - wide)))))

-- a join of relationships and trails, of whose rows each can be told
abbrev pub tells_trails : Plan → Plan → List KeyColumns → List Output → Bool
tells_trails left right keys outputs =
    has_links left && (has_lists right && (list_any (gathers_both 0 (width left)) outputs
    && list_all (is_told (width left) keys outputs) (range_with_len 0 (width left + width right))))

-- what stands in a column of a join, whose left rows are so wide, is kept, or it stands in the right row's key and so in the left row too
abbrev pub is_paired : ℕ → List KeyColumns → List Output → ℕ → Bool
is_paired wide keys outputs column = is_kept outputs column || (nat_le wide column && is_key keys (column - wide))

-- a join of whose rows each can be told: only columns of the right row's key are left out, or it is one of relationships and trails
abbrev pub tells_joined : Plan → Plan → List KeyColumns → List Output → Bool
tells_joined left right keys outputs = list_all (is_paired (width left) keys outputs) (range_with_len 0 (width left + width right)) || tells_trails left right keys outputs

-- a projection tells apart the rows of a join below it
abbrev pub tells_joins : Plan → List Output → Bool
tells_joins plan.unit outputs = false
tells_joins plan.nodes outputs = false
tells_joins (plan.rels types orientation) outputs = false
tells_joins (plan.join left right keys) outputs = tells_joined left right keys outputs
tells_joins (plan.outer left right keys test) outputs = false
tells_joins (plan.semi left right keys keeping) outputs = tells_joins left outputs
tells_joins (plan.lookup p column attribute) outputs = false
tells_joins (plan.filter p test) outputs = tells_joins p outputs
tells_joins (plan.all_different p columns) outputs = tells_joins p outputs
tells_joins (plan.project p others) outputs = false
tells_joins (plan.distinct p) outputs = false
tells_joins (plan.union left right) outputs = false

-- ---- the key of a plan's rows

-- a column of a relationship's row tells it, if need be together with others: the relationship, and in either direction the first end too
abbrev pub tells_rel : Orientation → ℕ → Bool
tells_rel Directed column = column == 0
tells_rel Either column = nat_lt column 2

-- a column of a plan's rows is one of their key: of pairs that of the left row, and of that of the right one what the join's key doesn't tell
abbrev pub is_key_column : Plan → ℕ → Bool
is_key_column plan.unit column = false
is_key_column plan.nodes column = column == 0
is_key_column (plan.rels types orientation) column = tells_rel orientation column
is_key_column (plan.join left right keys) column =
    if nat_lt column (width left) then is_key_column left column else not (is_key keys (column - width left)) && is_key_column right (column - width left)
is_key_column (plan.outer left right keys test) column = false
is_key_column (plan.semi left right keys keeping) column = is_key_column left column
is_key_column (plan.lookup p c attribute) column = is_key_column p column
is_key_column (plan.filter p test) column = is_key_column p column
is_key_column (plan.all_different p columns) column = is_key_column p column
is_key_column (plan.project p outputs) column = option_map_or (is_key_column p) (column_at outputs column) false
is_key_column (plan.distinct p) column = false
is_key_column (plan.union left right) column = false

-- a projection keeps a column of a plan's rows, if it is one of their key
abbrev pub is_kept_key : Plan → List Output → ℕ → Bool
is_kept_key p outputs column = not (is_key_column p column) || is_kept outputs column

-- it keeps the whole key
abbrev pub keeps_key : Plan → List Output → Bool
keeps_key p outputs = list_all (is_kept_key p outputs) (range_with_len 0 (width p))

-- the greatest width of rows whose key is followed through a projection, so that a plan is gone through in few steps
abbrev pub greatest_followed : ℕ
greatest_followed = 32

-- a projection of rows that aren't wider keeps their key
abbrev pub follows_key : Plan → List Output → Bool
follows_key p outputs = nat_le (width p) greatest_followed && keeps_key p outputs

-- these columns tell the rows of a plan: nothing in it leaves out a key, or makes rows of another kind
abbrev pub has_key : Plan → Bool
has_key plan.unit = true
has_key plan.nodes = true
has_key (plan.rels types orientation) = true
has_key (plan.join left right keys) = has_key left && has_key right
has_key (plan.outer left right keys test) = false
has_key (plan.semi left right keys keeping) = has_key left
has_key (plan.lookup p column attribute) = has_key p
has_key (plan.filter p test) = has_key p
has_key (plan.all_different p columns) = has_key p
has_key (plan.project p outputs) = follows_key p outputs && has_key p
has_key (plan.distinct p) = false
has_key (plan.union left right) = false

-- ---- all of it together

-- a projection tells apart the rows below it
abbrev pub tells_apart : Plan → List Output → Bool
tells_apart p outputs = tells_joins p outputs || (follows_key p outputs && has_key p)

-- of different rows of a plan on one graph it makes different ones
abbrev pub TellsRowsApartOn : State → Plan → List Output → Type 0
TellsRowsApartOn graph p outputs =
    (row other : List Cell) → 0 < count_of row (rows_of graph.content p) → 0 < count_of other (rows_of graph.content p) → projected outputs row ≡ projected outputs other → row ≡ other

abbrev pub TellsRowsApart : Plan → List Output → Type 0
TellsRowsApart p outputs = (graph : State) → IsGraph graph → TellsRowsApartOn graph p outputs
