-- The memories of a plan: an operator has those of the operator at its left below it, then those of the one at its right, and then its own.
use Rattle.std.specs.Prelude.{◌≡◌, ℕ, ◌||◌, Bool, List, [], ◌∷◌, ◌++◌, Option, if◌then◌else◌, is_some, map, length}
use Rattle.std.specs.List.{All, list_all}
use Rattle.cy_values.specs.declared.rows.Cell.{Cell}
use Rattle.cy_graph.specs.Graph.{Content}
use Rattle.cy_network_memory.specs.Counts.{Counts, no_rows}
use Rattle.cy_planner_algebra.specs.Plans as plan
use Rattle.cy_planner_algebra.specs.Plans.{Output, Plan, width}
use Rattle.cy_planner_algebra.specs.Parts.{parts}
use Rattle.cy_network_relevance.specs.Lists.{are_apart}
use Rattle.cy_network_relevance.specs.Trails.{tells_apart}
use Rattle.cy_network_operators.specs.Deltas.{counts, rows_at}
use Rattle.cy_network_counts.specs.Merges.{AreBounded, all_columns}
use Rattle.cy_network_sources.specs.Scans.{kept_at, scan_column}
use Rattle.cy_network_counts.specs.Outer.{numbers_of_partners}
use Rattle.cy_network_counts.specs.Semi.{numbers_of_keys}
use Rattle.cy_network_parts.specs.Shared.{left_held, right_held}

-- an operator is a scan: what changes of its rows comes from the touched entities alone
abbrev pub is_scan : Plan → Bool
is_scan p = is_some (scan_column p)

-- each of the first columns, this many, stands alone among those that a projection makes
abbrev pub keeps_all : ℕ → List Output → Bool
keeps_all number outputs = list_all (λ column. is_some (kept_at column outputs)) (all_columns number)

-- a projection makes different rows of different ones, since it keeps all columns of the rows below it, or tells trails apart
abbrev pub tells_rows : Plan → List Output → Bool
tells_rows p outputs = keeps_all (width p) outputs || tells_apart p outputs

-- it does, or is a scan
abbrev pub is_row_by_row : Plan → List Output → Bool
is_row_by_row p outputs = is_scan (plan.project p outputs) || tells_rows p outputs

-- some things, but none where this is so
abbrev pub none_where : {X : Type 0} → Bool → List X → List X
none_where so xs = if so then [] else xs

-- the key columns of the memories that an operator has itself: a join keeps the rows of both sides by their keys, an outer join these and the number of
-- partners of each row of its left side, a semi join the rows of its left side by their keys and the number of different rows of its right side
-- with each key, a look-up the rows below it by its column, and what adds counts keeps its own rows. A scan
-- keeps nothing, nor does a projection that is gone through row by row, or a union of operators that are apart.
abbrev pub own_keys : Plan → List (List ℕ)
own_keys plan.unit = []
own_keys plan.nodes = []
own_keys (plan.rels types orientation) = []
own_keys (plan.join left right keys) = map (λ k. k.left) keys ∷ map (λ k. k.right) keys ∷ []
own_keys (plan.outer left right keys test) = map (λ k. k.left) keys ∷ map (λ k. k.right) keys ∷ all_columns (width left) ∷ []
own_keys (plan.semi left right keys keeping) = map (λ k. k.left) keys ∷ all_columns (length keys) ∷ []
own_keys (plan.lookup p column attribute) = none_where (is_scan (plan.lookup p column attribute)) ((column ∷ []) ∷ [])
own_keys (plan.filter p test) = []
own_keys (plan.all_different p columns) = []
own_keys (plan.project p outputs) = none_where (is_row_by_row p outputs) (all_columns (length outputs) ∷ [])
own_keys (plan.distinct p) = []
own_keys (plan.union left right) = none_where (are_apart left right) (all_columns (width left) ∷ [])

-- the key columns of all memories of a plan
abbrev pub keys : Plan → List (List ℕ)
keys plan.unit = []
keys plan.nodes = []
keys (plan.rels types orientation) = []
keys (plan.join left right ks) = (keys left ++ keys right) ++ own_keys (plan.join left right ks)
keys (plan.outer left right ks test) = (keys left ++ keys right) ++ own_keys (plan.outer left right ks test)
keys (plan.semi left right ks keeping) = (keys left ++ keys right) ++ own_keys (plan.semi left right ks keeping)
keys (plan.lookup p column attribute) = keys p ++ own_keys (plan.lookup p column attribute)
keys (plan.filter p test) = keys p
keys (plan.all_different p columns) = keys p
keys (plan.project p outputs) = keys p ++ own_keys (plan.project p outputs)
keys (plan.distinct p) = keys p
keys (plan.union left right) = (keys left ++ keys right) ++ own_keys (plan.union left right)

-- what the memories of an operator count, where the rows of each operator are given; that of a side of a join nothing, where another one holds its rows
abbrev pub own_contents : (Plan → List (List Cell)) → Plan → List Counts
own_contents rows plan.unit = []
own_contents rows plan.nodes = []
own_contents rows (plan.rels types orientation) = []
own_contents rows (plan.join left right ks) =
    (if left_held (plan.join left right ks) then no_rows else counts (rows left)) ∷ (if right_held (plan.join left right ks) then no_rows else counts (rows right)) ∷ []
own_contents rows (plan.outer left right ks test) = counts (rows left) ∷ counts (rows right) ∷ numbers_of_partners ks test (rows left) (rows right) ∷ []
own_contents rows (plan.semi left right ks keeping) = counts (rows left) ∷ numbers_of_keys ks (rows right) ∷ []
own_contents rows (plan.lookup p column attribute) = none_where (is_scan (plan.lookup p column attribute)) (counts (rows p) ∷ [])
own_contents rows (plan.filter p test) = []
own_contents rows (plan.all_different p columns) = []
own_contents rows (plan.project p outputs) = none_where (is_row_by_row p outputs) (counts (rows (plan.project p outputs)) ∷ [])
own_contents rows (plan.distinct p) = []
own_contents rows (plan.union left right) = none_where (are_apart left right) (counts (rows (plan.union left right)) ∷ [])

-- nothing, for each of these, where this is so
abbrev pub emptied_where : Bool → List Counts → List Counts
emptied_where so counted = if so then map (λ _. no_rows) counted else counted

-- What all memories of a plan count. Where another join holds the rows of an input, the memories of that input count nothing: it isn't gone through.
abbrev pub contents : (Plan → List (List Cell)) → Plan → List Counts
contents rows plan.unit = []
contents rows plan.nodes = []
contents rows (plan.rels types orientation) = []
contents rows (plan.join left right ks) =
    (emptied_where (left_held (plan.join left right ks)) (contents rows left) ++ emptied_where (right_held (plan.join left right ks)) (contents rows right)) ++ own_contents rows (plan.join left right ks)
contents rows (plan.outer left right ks test) = (contents rows left ++ contents rows right) ++ own_contents rows (plan.outer left right ks test)
contents rows (plan.semi left right ks keeping) = (contents rows left ++ contents rows right) ++ own_contents rows (plan.semi left right ks keeping)
contents rows (plan.lookup p column attribute) = contents rows p ++ own_contents rows (plan.lookup p column attribute)
contents rows (plan.filter p test) = contents rows p
contents rows (plan.all_different p columns) = contents rows p
contents rows (plan.project p outputs) = contents rows p ++ own_contents rows (plan.project p outputs)
contents rows (plan.distinct p) = contents rows p
contents rows (plan.union left right) = (contents rows left ++ contents rows right) ++ own_contents rows (plan.union left right)

-- no row of any operator counts more than 2^62 - 1
abbrev pub AreWithin : Option Content → Plan → Type 0
AreWithin graph p = All (λ part. AreBounded (counts (rows_at graph part))) (parts p)

-- The memories of a plan hold what it means on a graph, or nothing where there is none yet, and nothing is staged.
pub record AreHeld (graph : Option Content) (p : Plan) (columns : List (List ℕ)) (was staged : List Counts) : Type 0 where
  pub keyed : columns ≡ keys p
  pub held : was ≡ contents (rows_at graph) p
  pub settled : staged ≡ contents (rows_at graph) p
  pub within : AreWithin graph p
