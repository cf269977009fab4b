-- The rows of a plan with look-ups on top, and of its first columns.
use Rattle.std.proofs.Common.{◌≡◌, ℕ, zero, suc, ◌+◌, ◌≤◌, ◌<◌, ◌==◌, Bool, true, false, cond, List, [], ◌∷◌, ◌++◌, length, map, take, drop, refl, sym, ap, subst, ◌∙◌, arith, inl, inr}
use Rattle.std.specs.List.{All, AllByRecursion, range_with_len}
use Rattle.std.proofs.lemmas.Bool.{cases_lt, eqb-true, lt-ltb}
use Rattle.std.proofs.lemmas.List.FromFn.{length-map-range_with_len}
use Rattle.std.proofs.lemmas.List.{append-nil, append_assoc, length-append, length-take-le, take-append-drop}
use Rattle.std.proofs.lemmas.List.Elements.{All-cons, All-head, All-nil}
use Rattle.std.proofs.Math.ListN.{get_or-append}
use Rattle.std.proofs.Math.Seq.{take-length}
use Rattle.cy_values.specs.declared.rows.Cell.{Cell}
use Rattle.cy_values.specs.declared.rows.Cell.TheVariants as cell
use Rattle.cy_values.specs.Bag.{count_of}
use Rattle.cy_values.proofs.Lists.{each_then}
use Rattle.cy_graph.specs.Graph.{Content}
use Rattle.cy_trees.specs.Trees.{Expression}
use Rattle.cy_planner_algebra.specs.declared.operators.Attribute.{Attribute}
use Rattle.cy_planner_algebra.specs.Plans as plan
pub use Rattle.cy_planner_algebra.proofs.Widths.{width_bounded}
use Rattle.cy_planner_algebra.specs.Plans.{Plan, width}
use Rattle.cy_planner_algebra.specs.Expressions.{cell_at, holds, null, projected}
use Rattle.cy_planner_algebra.specs.Meaning.{attribute_of, rows_of, with_attribute}
use Rattle.cy_planner_algebra.specs.Parts.{parts}
use Rattle.cy_planner_algebra.specs.Sure.{HasCell, HasCells, IsSureOn}
use Rattle.cy_planner_algebra.specs.WellFormed.{IsOutputOver, IsWellFormed, greatest_width}
use Rattle.cy_planner_algebra.specs.Within.{CountsWithin, IsWithin}
use Rattle.cy_planner_algebra.proofs.Counts.{count_cons, count_passing, identity, same}
use Rattle.cy_planner_algebra.proofs.PartCounts.{lookup_counts}
use Rattle.cy_planner_algebra.proofs.Widths.{wide_rows}
use Rattle.cy_planner_rows.specs.declared.places.Wanted.{Wanted}
use Rattle.cy_planner_rows.specs.Columns.{column_output}
use Rattle.cy_planner_rows.specs.internal.Lookups.{first_columns, narrowed, over, value_on, with_values}
use Rattle.cy_planner_rows.proofs.Lists.{each_mapped, each_of_all, first_elements, map_alike, map_same, map_twice}

abbrev pub IsInside : ℕ → Wanted → Type 0
IsInside n w = w.column < n

abbrev pub IsLong : ℕ → List Cell → Type 0
IsLong n row = length row ≡ n

pub width_over : (p : Plan) (wanted : List Wanted) → width (over p wanted) ≡ width p + length wanted
width_over p [] = omega arith
width_over p (w ∷ wanted) = let more = width_over (plan.lookup p w.column w.attribute) wanted in omega (arith, more)

-- ---- the values of look-ups

value_kept : (graph : Content) (row others : List Cell) (w : Wanted) → IsInside (length row) w → value_on graph (row ++ others) w ≡ value_on graph row w
value_kept graph row others w less = ap (λ c. cell.Value (attribute_of graph w.attribute c)) (get_or-append row others null w.column less)

next_values : (graph : Content) (w : Wanted) (wanted : List Wanted) (n : ℕ) → AllByRecursion (IsInside n) wanted → (row : List Cell) → IsLong n row
    → with_values graph wanted (with_attribute graph w.column w.attribute row) ≡ with_values graph (w ∷ wanted) row
next_values graph w wanted n inside row long =
    let v : Cell = value_on graph row w in
    append_assoc row (v ∷ []) (map (value_on graph (row ++ v ∷ [])) wanted)
    ∙ ap (λ l. row ++ v ∷ l)
    (map_alike (IsInside n) (value_on graph (row ++ v ∷ [])) (value_on graph row)
    (λ o less. value_kept graph row (v ∷ []) o (subst (λ m. o.column < m) (sym long) less)) wanted inside)

rows_over_wide : (graph : Content) (p : Plan) (wanted : List Wanted) (n : ℕ) → AllByRecursion (IsLong n) (rows_of graph p) → AllByRecursion (IsInside n) wanted
    → rows_of graph (over p wanted) ≡ map (with_values graph wanted) (rows_of graph p)
rows_over_wide graph p [] n long inside = sym (map_same (IsLong n) (with_values graph []) (λ row is. append-nil row) (rows_of graph p) long)
rows_over_wide graph p (w ∷ wanted) n long inside =
    rows_over_wide graph (plan.lookup p w.column w.attribute) wanted (n + 1)
    (each_mapped (IsLong n) (IsLong (n + 1)) (with_attribute graph w.column w.attribute) (λ row is. length-append row _ ∙ ap (λ m. m + 1) is) (rows_of graph p) long)
    (each_then (IsInside n) (IsInside (n + 1)) (λ o less. omega (arith, less)) wanted inside.1)
    ∙ map_twice (IsLong n) (with_attribute graph w.column w.attribute) (with_values graph wanted) (with_values graph (w ∷ wanted)) (next_values graph w wanted n inside.1) (rows_of graph p) long

pub long_rows : (graph : Content) (p : Plan) → IsWellFormed p → AllByRecursion (IsLong (width p)) (rows_of graph p)
long_rows graph p good = each_of_all (IsLong (width p)) (rows_of graph p) (wide_rows graph p good)

pub rows_over : (graph : Content) (p : Plan) (wanted : List Wanted) → IsWellFormed p → AllByRecursion (IsInside (width p)) wanted
    → rows_of graph (over p wanted) ≡ map (with_values graph wanted) (rows_of graph p)
rows_over graph p wanted good inside = rows_over_wide graph p wanted (width p) (long_rows graph p good) inside

-- ---- look-ups have no fault, and count no row more often

pub sure_over : (graph : Content) (p : Plan) (wanted : List Wanted) → IsSureOn graph p → IsSureOn graph (over p wanted)
sure_over graph p [] sure = sure
sure_over graph p (w ∷ wanted) sure = sure_over graph (plan.lookup p w.column w.attribute) wanted sure

pub smaller_within : (tables : List (List (List Cell))) (m n : ℕ) → m ≤ n → CountsWithin tables n → CountsWithin tables m
smaller_within tables m n less within =
    elim within as (λ w. CountsWithin tables m) [
      | inl few ↦ inl (omega (arith, less, few))
      | inr some ↦ inr (some.0, some.1, (some.2.0, (let most = some.2.1 in omega (arith, less, most))))
    ]

not_that_long : (n : ℕ) (x : List Cell) (rows : List (List Cell)) → AllByRecursion (IsLong n) rows → (length x ≡ n → ⊥) → count_of x rows ≡ 0
not_that_long n x [] long other = refl
not_that_long n x (row ∷ rows) long other =
    count_cons x row rows ∙ step (same x row) refl (not_that_long n x rows long.1 other)
  where
    step : {k : ℕ} (b : Bool) → same x row ≡ b → k ≡ 0 → cond b 1 0 + k ≡ 0
    step true is rest = absurd (other (ap length (identity x row is) ∙ long.0))
    step false is rest = omega (arith, rest)

pub cond_less : (b : Bool) (n : ℕ) → cond b n 0 ≤ n
cond_less true n = omega arith
cond_less false n = omega arith

lookup_within : (graph : Content) (tables : List (List (List Cell))) (p : Plan) (column : ℕ) (a : Attribute) → IsWellFormed p → IsWithin graph tables p → IsWithin graph tables (plan.lookup p column a)
lookup_within graph tables p column a good within x =
    elim (cases_lt (length x) (width p)) as (λ w. CountsWithin tables (count_of x (rows_of graph (plan.lookup p column a)))) [
      | inr long ↦
          let front : List Cell = take (width p) x in
          let back : List Cell = drop (width p) x in
          let counted = lookup_counts graph p column a front back good (length-take-le (width p) x long) in
          smaller_within tables (count_of x (rows_of graph (plan.lookup p column a))) (count_of front (rows_of graph p))
          (subst (λ m. m ≤ count_of front (rows_of graph p)) (sym (ap (λ l. count_of l (rows_of graph (plan.lookup p column a))) (sym (take-append-drop (width p) x)) ∙ counted))
          (cond_less _ (count_of front (rows_of graph p))))
          (within front)
      | inl short ↦
          inl (let none = not_that_long (width p + 1) x (rows_of graph (plan.lookup p column a))
          (each_mapped (IsLong (width p)) (IsLong (width p + 1)) (with_attribute graph column a) (λ row is. length-append row _ ∙ ap (λ m. m + 1) is) (rows_of graph p) (long_rows graph p good))
          (λ e. omega (arith, e, short)) in omega (arith, none))
    ]

pub parts_over : (graph : Content) (tables : List (List (List Cell))) (p : Plan) (wanted : List Wanted) → IsWellFormed p → AllByRecursion (IsInside (width p)) wanted → width p + length wanted ≤ greatest_width
    → All (IsWithin graph tables) (parts p) → IsWithin graph tables p → All (IsWithin graph tables) (parts (over p wanted))
parts_over graph tables p [] good inside room each own = each
parts_over graph tables p (w ∷ wanted) good inside room each own =
    let next : Plan = plan.lookup p w.column w.attribute in
    let more : IsWithin graph tables next = lookup_within graph tables p w.column w.attribute good own in
    parts_over graph tables next wanted (good, inside.0, omega (arith, room)) (each_then (IsInside (width p)) (IsInside (width p + 1)) (λ o less. omega (arith, less)) wanted inside.1) (omega (arith, room))
    (All-cons (IsWithin graph tables) next (parts p) more each) more

-- the plan itself with look-ups on top
pub within_over : (graph : Content) (tables : List (List (List Cell))) (p : Plan) (wanted : List Wanted) → IsWellFormed p → AllByRecursion (IsInside (width p)) wanted → width p + length wanted ≤ greatest_width
    → IsWithin graph tables p → IsWithin graph tables (over p wanted)
within_over graph tables p [] good inside room own = own
within_over graph tables p (w ∷ wanted) good inside room own =
    within_over graph tables (plan.lookup p w.column w.attribute) wanted (good, inside.0, omega (arith, room))
    (each_then (IsInside (width p)) (IsInside (width p + 1)) (λ o less. omega (arith, less)) wanted inside.1) (omega (arith, room))
    (lookup_within graph tables p w.column w.attribute good own)

-- the first part of a plan is the plan itself
pub own_part : (P : Plan → Type 0) (p : Plan) → All P (parts p) → P p
own_part P plan.unit each = All-head P plan.unit [] each
own_part P plan.nodes each = All-head P plan.nodes [] each
own_part P (plan.rels types orientation) each = All-head P (plan.rels types orientation) [] each
own_part P (plan.join left right keys) each = All-head P (plan.join left right keys) (parts left ++ parts right) each
own_part P (plan.outer left right keys test) each = All-head P (plan.outer left right keys test) (parts left ++ parts right) each
own_part P (plan.semi left right keys keeping) each = All-head P (plan.semi left right keys keeping) (parts left ++ parts right) each
own_part P (plan.lookup p column a) each = All-head P (plan.lookup p column a) (parts p) each
own_part P (plan.filter p test) each = All-head P (plan.filter p test) (parts p) each
own_part P (plan.all_different p columns) each = All-head P (plan.all_different p columns) (parts p) each
own_part P (plan.project p outputs) each = All-head P (plan.project p outputs) (parts p) each
own_part P (plan.distinct p) each = All-head P (plan.distinct p) (parts p) each
own_part P (plan.union left right) each = All-head P (plan.union left right) (parts left ++ parts right) each

pub filter_within : (graph : Content) (tables : List (List (List Cell))) (p : Plan) (test : Expression) → IsWithin graph tables p → IsWithin graph tables (plan.filter p test)
filter_within graph tables p test within row =
    smaller_within tables (count_of row (rows_of graph (plan.filter p test))) (count_of row (rows_of graph p))
    (subst (λ m. m ≤ count_of row (rows_of graph p)) (sym (count_passing (holds test) row (rows_of graph p))) (cond_less (holds test row) (count_of row (rows_of graph p)))) (within row)

-- ---- the first columns

-- columns of a row
pub columns_read : (row : List Cell) (columns : List ℕ) → projected (map column_output columns) row ≡ map (cell_at row) columns
columns_read row [] = refl
columns_read row (i ∷ columns) = ap (λ l. cell_at row i ∷ l) (columns_read row columns)

first_cells : (n : ℕ) (row : List Cell) → n ≤ length row → projected (first_columns n) row ≡ take n row
first_cells n row within = columns_read row (range_with_len 0 n) ∙ first_elements row null n within

pub width_narrowed : (n : ℕ) (p : Plan) → width (narrowed n p) ≡ n
width_narrowed n p =
    elim (width p == n) as (λ b. (width p == n) ≡ b → width (cond b p (plan.project p (first_columns n))) ≡ n) [
      | true ↦ λ is. eqb-true (width p) n is
      | false ↦ λ is. length-map-range_with_len column_output 0 n
    ] refl

pub rows_narrowed : (graph : Content) (n : ℕ) (p : Plan) → IsWellFormed p → n ≤ width p → rows_of graph (narrowed n p) ≡ map (take n) (rows_of graph p)
rows_narrowed graph n p good within =
    elim (width p == n) as (λ b. (width p == n) ≡ b → rows_of graph (cond b p (plan.project p (first_columns n))) ≡ map (take n) (rows_of graph p)) [
      | true ↦ λ is. sym (map_same (IsLong (width p)) (take n) (λ row long. ap (λ m. take m row) (sym (long ∙ eqb-true (width p) n is)) ∙ take-length row) (rows_of graph p) (long_rows graph p good))
      | false ↦ λ is. map_alike (IsLong (width p)) (projected (first_columns n)) (take n) (λ row long. first_cells n row (omega (arith, long, within))) (rows_of graph p) (long_rows graph p good)
    ] refl

pub columns_have_cells : (row : List Cell) (columns : List ℕ) → All (HasCell row) (map column_output columns)
columns_have_cells row [] = All-nil (HasCell row)
columns_have_cells row (i ∷ columns) = All-cons (HasCell row) (column_output i) (map column_output columns) refl (columns_have_cells row columns)

pub any_rows : (P : List Cell → Type 0) → ((row : List Cell) → P row) → (rows : List (List Cell)) → All P rows
any_rows P each [] = All-nil P
any_rows P each (row ∷ rows) = All-cons P row rows (each row) (any_rows P each rows)

pub sure_narrowed : (graph : Content) (n : ℕ) (p : Plan) → IsSureOn graph p → IsSureOn graph (narrowed n p)
sure_narrowed graph n p sure =
    elim (width p == n) as (λ b. IsSureOn graph (cond b p (plan.project p (first_columns n)))) [
      | true ↦ sure
      | false ↦ (sure, any_rows (HasCells (first_columns n)) (λ row. columns_have_cells row (range_with_len 0 n)) (rows_of graph p))
    ]

-- each part of a projection but itself is one of the parts below it
pub parts_narrowed : (graph : Content) (tables : List (List (List Cell))) (n : ℕ) (p : Plan) → All (IsWithin graph tables) (parts p) → IsWithin graph tables (narrowed n p)
    → All (IsWithin graph tables) (parts (narrowed n p))
parts_narrowed graph tables n p each own =
    elim (width p == n) as (λ b. IsWithin graph tables (cond b p (plan.project p (first_columns n))) → All (IsWithin graph tables) (parts (cond b p (plan.project p (first_columns n))))) [
      | true ↦ λ here. each
      | false ↦ λ here. All-cons (IsWithin graph tables) (plan.project p (first_columns n)) (parts p) here each
    ] own

-- ---- plans that can be meant

pub well_over : (p : Plan) (wanted : List Wanted) → IsWellFormed p → AllByRecursion (IsInside (width p)) wanted → width p + length wanted ≤ greatest_width → IsWellFormed (over p wanted)
well_over p [] good inside room = good
well_over p (w ∷ wanted) good inside room =
    well_over (plan.lookup p w.column w.attribute) wanted (good, inside.0, omega (arith, room))
    (each_then (IsInside (width p)) (IsInside (width p + 1)) (λ o less. omega (arith, less)) wanted inside.1) (omega (arith, room))

pub columns_over : (n : ℕ) (columns : List ℕ) → AllByRecursion (λ i. i < n) columns → All (IsOutputOver n) (map column_output columns)
columns_over n [] each = All-nil (IsOutputOver n)
columns_over n (i ∷ columns) each = All-cons (IsOutputOver n) (column_output i) (map column_output columns) (refl, lt-ltb i n each.0) (columns_over n columns each.1)

numbers_from : (m j most : ℕ) → j + m ≤ most → AllByRecursion (λ i. i < most) (range_with_len j m)
numbers_from zero j most room = tt
numbers_from (suc m) j most room = (omega (arith, room), numbers_from m (j + 1) most (omega (arith, room)))

pub numbers_below : (n most : ℕ) → n ≤ most → AllByRecursion (λ i. i < most) (range_with_len 0 n)
numbers_below n most room = numbers_from n 0 most (omega (arith, room))

pub first_over : (n most : ℕ) → n ≤ most → All (IsOutputOver most) (first_columns n)
first_over n most room = columns_over most (range_with_len 0 n) (numbers_below n most room)
