-- The last memory of a plan holds its rows, where they stand there.
use Rattle.std.proofs.Common.{◌≡◌, ◌-◌, Bool, true, false, List, [], ◌∷◌, ◌++◌, Option, Some, length, map, min, not, refl, sym, ap, ◌∙◌, arith}
use Rattle.std.specs.Prelude.{option_map, slice_get, unwrap_or}
use Rattle.std.proofs.lemmas.List.{length-append, length-map}
use Rattle.std.proofs.lemmas.Option.{slice_get-map, unwrap_or-slice_get}
use Rattle.std.proofs.Math.Seq.{get_or-append_seam}
use Rattle.std.proofs.lemmas.Bool.{true≢false}
use Rattle.cy_graph.specs.Graph.{Content}
use Rattle.cy_values.specs.declared.rows.Cell.{Cell}
use Rattle.cy_values.specs.Bag.{count_of}
use Rattle.cy_network_relevance.specs.Lists.{are_apart}
use Rattle.cy_network_memory.specs.Counts.{Counts, no_rows}
use Rattle.cy_network_operators.specs.Deltas.{counts, rows_at}
use Rattle.cy_network_parts.specs.KeptRows.{keeps_rows}
use Rattle.cy_network_parts.specs.Memories.{contents, is_row_by_row, none_where}
use Rattle.cy_planner_algebra.specs.Meaning.{rows_of}
use Rattle.cy_planner_algebra.specs.Plans as plan
use Rattle.cy_planner_algebra.specs.Plans.{Plan}
use Rattle.cy_planner_algebra.proofs.Counts.{count_once}
use Rattle.cy_network.specs.Places.{Place, in_memory, in_table, last_of, once_each, once_in_memory, place_of, place_where, rows_by}

last_pushed : (xs : List Counts) (x : Counts) → last_of (xs ++ x ∷ []) ≡ x
last_pushed xs x =
    ap (λ n. unwrap_or (slice_get (xs ++ x ∷ []) n) no_rows) (let n = length-append xs (x ∷ []) in let place : length (xs ++ x ∷ []) - 1 ≡ length xs = omega (arith, n) in place)
    ∙ unwrap_or-slice_get (xs ++ x ∷ []) (length xs) no_rows ∙ get_or-append_seam xs x [] no_rows

-- the last of those that are kept, if they are
last_kept_where : (so : Bool) (xs : List Counts) (x : Counts) → not so ≡ true → last_of (xs ++ none_where so (x ∷ [])) ≡ x
last_kept_where true xs x kept = absurd (true≢false (sym kept))
last_kept_where false xs x kept = last_pushed xs x

-- a part that keeps its rows has them in its last memory
last_kept : (rows : Plan → List (List Cell)) (p : Plan) → keeps_rows p ≡ true → last_of (contents rows p) ≡ counts (rows p)
last_kept rows (plan.project p outputs) kept = last_kept_where (is_row_by_row p outputs) (contents rows p) (counts (rows (plan.project p outputs))) kept
last_kept rows (plan.union left right) kept = last_kept_where (are_apart left right) (contents rows left ++ contents rows right) (counts (rows (plan.union left right))) kept
last_kept rows _ kept = absurd (true≢false (sym kept))

-- The rows of a plan stand at its place, where the memories hold what its parts mean and the table, if they stand there, holds them.
pub rows_kept : (graph : Content) (p : Plan) (table : Counts) → (place_of p ≡ in_table → table ≡ counts (rows_of graph p))
    → rows_by (place_of p) table (contents (rows_at (Some graph)) p) ≡ counts (rows_of graph p)
rows_kept graph (plan.project p outputs) table held = by (keeps_rows (plan.project p outputs)) refl held
  where
    by : (b : Bool) → keeps_rows (plan.project p outputs) ≡ b → (place_where b in_memory ≡ in_table → table ≡ counts (rows_of graph (plan.project p outputs)))
        → rows_by (place_where b in_memory) table (contents (rows_at (Some graph)) (plan.project p outputs)) ≡ counts (rows_of graph (plan.project p outputs))
    by true is there = last_kept (rows_at (Some graph)) (plan.project p outputs) is
    by false is there = there refl
rows_kept graph (plan.distinct p) table held = by (keeps_rows p) refl held
  where
    by : (b : Bool) → keeps_rows p ≡ b → (place_where b once_in_memory ≡ in_table → table ≡ counts (rows_of graph (plan.distinct p)))
        → rows_by (place_where b once_in_memory) table (contents (rows_at (Some graph)) p) ≡ counts (rows_of graph (plan.distinct p))
    by true is there = ap once_each (last_kept (rows_at (Some graph)) p is) ∙ (λ i row. each row i)
      where
        each : (row : List Cell) → min (count_of row (rows_of graph p)) 1 ≡ count_of row (rows_of graph (plan.distinct p))
        each row = let n = count_once row (rows_of graph p) in omega (arith, n)
    by false is there = there refl
rows_kept graph (plan.union left right) table held = by (keeps_rows (plan.union left right)) refl held
  where
    by : (b : Bool) → keeps_rows (plan.union left right) ≡ b → (place_where b in_memory ≡ in_table → table ≡ counts (rows_of graph (plan.union left right)))
        → rows_by (place_where b in_memory) table (contents (rows_at (Some graph)) (plan.union left right)) ≡ counts (rows_of graph (plan.union left right))
    by true is there = last_kept (rows_at (Some graph)) (plan.union left right) is
    by false is there = there refl
rows_kept graph _ table held = held refl

-- the memory that is found last counts so
pub last_found : {M : Type 0} (was : M → Counts) (memories : List M) (found : Option M) → found ≡ slice_get memories (length memories - 1) → last_of (map was memories) ≡ unwrap_or (option_map was found) no_rows
last_found {M = M} was memories found is =
    ap (λ n. unwrap_or (slice_get (map was memories) (n - 1)) no_rows) (length-map memories was)
    ∙ ap (λ o. unwrap_or o no_rows) (slice_get-map was memories (length memories - 1))
    ∙ sym (ap (λ (o : Option M). unwrap_or (option_map was o) no_rows) is)

-- where the rows stand in a memory, the table doesn't matter
pub same_by : (place : Place) (table other : Counts) (memories : List Counts) → (place ≡ in_table → table ≡ other) → rows_by place table memories ≡ rows_by place other memories
same_by in_table table other memories same = same refl
same_by in_memory table other memories same = refl
same_by once_in_memory table other memories same = refl
