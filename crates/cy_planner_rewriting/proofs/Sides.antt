-- Look-ups on the sides of a join: the cells that they give for a pair of rows.
use Rattle.std.proofs.Common.{◌≡◌, ℕ, zero, suc, ◌+◌, ◌-◌, ◌<◌, ◌≤◌, true, false, cond, List, [], ◌∷◌, ◌++◌, length, map, refl, sym, ap, ◌∙◌, arith}
use Rattle.std.specs.Prelude.{IfSome, None, Option, Some}
use Rattle.std.specs.List.{AllByRecursion, range_with_len}
use Rattle.std.proofs.Math.Seq.{get_or-append_seam}
use Rattle.std.proofs.lemmas.Bool.Decides.{nat_tests}
use Rattle.std.proofs.lemmas.List.{append_assoc, get_or-append-add, get_or_append_left, get_or-replicate, length-append, length-map, map-append, replicate-append-replicate}
use Rattle.cy_values.specs.declared.rows.Cell.{Cell}
use Rattle.cy_values.specs.declared.rows.Cell.TheVariants as cell
use Rattle.cy_values.specs.declared.scalars.Value.TheVariants as value
use Rattle.cy_graph.specs.Graph.{Content}
use Rattle.cy_planner_algebra.specs.declared.operators.Attribute.{Attribute}
use Rattle.cy_planner_algebra.specs.declared.operators.Attribute.TheVariants.{Property, RelType, Labels}
use Rattle.cy_planner_algebra.specs.Expressions as expressions
use Rattle.cy_planner_algebra.specs.Expressions.{cell_at, projected}
use Rattle.cy_planner_algebra.specs.Meaning.{attribute_of, nulls}
use Rattle.cy_planner_rows.specs.declared.places.Wanted.{Wanted}
use Rattle.cy_planner_rows.specs.Columns.{column_output}
use Rattle.cy_planner_rows.specs.internal.Lookups.{value_on, with_values}
use Rattle.cy_planner_rows.proofs.OverRows.{IsInside, columns_read}
use Rattle.cy_planner_rewriting.specs.internal.Lowered.{both_columns, is_left, joined_columns, lefts, lookup_at, places, rights}

-- ---- how many, and in which columns

pub as_many_sides : (width : ℕ) (ws : List Wanted) → length (lefts width ws) + length (rights width ws) ≡ length ws
as_many_sides width [] = refl
as_many_sides width (w ∷ ws) =
    elim (is_left width w) as (λ b. length (cond b (w ∷ lefts width ws) (lefts width ws)) + length (cond b (rights width ws) (lookup_at w.attribute (w.column - width) ∷ rights width ws)) ≡ length (w ∷ ws)) [
      | true ↦ (let rest = as_many_sides width ws in omega (arith, rest))
      | false ↦ (let rest = as_many_sides width ws in omega (arith, rest))
    ]

pub lefts_inside : (width : ℕ) (ws : List Wanted) → AllByRecursion (IsInside width) (lefts width ws)
lefts_inside width [] = tt
lefts_inside width (w ∷ ws) =
    elim (is_left width w) as (λ b. is_left width w ≡ b → AllByRecursion (IsInside width) (cond b (w ∷ lefts width ws) (lefts width ws))) [
      | true ↦ λ is. ((let less : w.column < width = grind (arith, nat_tests, is) in less), lefts_inside width ws)
      | false ↦ λ is. lefts_inside width ws
    ] refl

pub rights_inside : (width others : ℕ) (ws : List Wanted) → AllByRecursion (IsInside (width + others)) ws → AllByRecursion (IsInside others) (rights width ws)
rights_inside width others [] inside = tt
rights_inside width others (w ∷ ws) inside =
    elim (is_left width w) as (λ b. is_left width w ≡ b → AllByRecursion (IsInside others) (cond b (rights width ws) (lookup_at w.attribute (w.column - width) ∷ rights width ws))) [
      | true ↦ λ is. rights_inside width others ws inside.1
      | false ↦ λ is. ((let most : width ≤ w.column = grind (arith, nat_tests, is) in let less = inside.0 in omega (arith, most, less)), rights_inside width others ws inside.1)
    ] refl

each_append : (P : ℕ → Type 0) (xs ys : List ℕ) → AllByRecursion P xs → AllByRecursion P ys → AllByRecursion P (xs ++ ys)
each_append P [] ys each others = others
each_append P (x ∷ xs) ys each others = (each.0, each_append P xs ys each.1 others)

range_inside : (first count most : ℕ) → first + count ≤ most → AllByRecursion (λ c. c < most) (range_with_len first count)
range_inside first zero most room = tt
range_inside first (suc count) most room = (omega (arith, room), range_inside (first + 1) count most (omega (arith, room)))

pub both_inside : (left right count most : ℕ) → left + count + right ≤ most → AllByRecursion (λ c. c < most) (both_columns left right count)
both_inside left right count most room =
    each_append (λ c. c < most) (range_with_len 0 left) (range_with_len (left + count) right) (range_inside 0 left most (omega (arith, room))) (range_inside (left + count) right most room)

places_inside : (width left right most : ℕ) (ws : List Wanted) → left + length (lefts width ws) ≤ most → right + length (rights width ws) ≤ most → AllByRecursion (λ c. c < most) (places width left right ws)
places_inside width left right most [] few many = tt
places_inside width left right most (w ∷ ws) few many =
    elim (is_left width w) as (λ b. left + length (cond b (w ∷ lefts width ws) (lefts width ws)) ≤ most → right + length (cond b (rights width ws) (lookup_at w.attribute (w.column - width) ∷ rights width ws)) ≤ most
    → AllByRecursion (λ c. c < most) (cond b (left ∷ places width (left + 1) right ws) (right ∷ places width left (right + 1) ws))) [
      | true ↦ λ here there. (omega (arith, here), places_inside width (left + 1) right most ws (omega (arith, here)) there)
      | false ↦ λ here there. (omega (arith, there), places_inside width left (right + 1) most ws here (omega (arith, there)))
    ] few many

pub joined_inside : (left right : ℕ) (ws : List Wanted) → AllByRecursion (λ c. c < (left + length (lefts left ws)) + (right + length (rights left ws))) (joined_columns left right ws)
joined_inside left right ws =
    let most : ℕ = (left + length (lefts left ws)) + (right + length (rights left ws)) in
    each_append (λ c. c < most) (both_columns left right (length (lefts left ws))) (places left left (left + length (lefts left ws) + right) ws)
    (both_inside left right (length (lefts left ws)) most (omega arith))
    (places_inside left left (left + length (lefts left ws) + right) most ws (omega arith) (omega arith))

length_range : (first count : ℕ) → length (range_with_len first count) ≡ count
length_range first zero = refl
length_range first (suc count) = let rest = length_range (first + 1) count in omega (arith, rest)

range_next : (first count : ℕ) → range_with_len first (suc count) ≡ range_with_len first count ++ (first + count) ∷ []
range_next first zero = λ i. (let e : first ≡ first + 0 = omega arith in e) i ∷ []
range_next first (suc count) =
    ap (λ l. first ∷ l) (range_next (first + 1) count ∙ (λ i. range_with_len (first + 1) count ++ (let e : (first + 1) + count ≡ first + suc count = omega arith in e) i ∷ []))

pub range_more : (first count : ℕ) → range_with_len first (count + 1) ≡ range_with_len first count ++ (first + count) ∷ []
range_more first count = ap (range_with_len first) (let e : count + 1 ≡ suc count = omega arith in e) ∙ range_next first count

length_places : (width left right : ℕ) (ws : List Wanted) → length (places width left right ws) ≡ length ws
length_places width left right [] = refl
length_places width left right (w ∷ ws) =
    elim (is_left width w) as (λ b. length (cond b (left ∷ places width (left + 1) right ws) (right ∷ places width left (right + 1) ws)) ≡ length (w ∷ ws)) [
      | true ↦ ap suc (length_places width (left + 1) right ws)
      | false ↦ ap suc (length_places width left (right + 1) ws)
    ]

pub length_both : (left right count : ℕ) → length (both_columns left right count) ≡ left + right
length_both left right count =
    let whole = length-append (range_with_len 0 left) (range_with_len (left + count) right) in
    let one = length_range 0 left in
    let two = length_range (left + count) right in
    omega (arith, whole, one, two)

pub length_joined : (left right : ℕ) (ws : List Wanted) → length (joined_columns left right ws) ≡ left + right + length ws
length_joined left right ws =
    let count : ℕ = length (lefts left ws) in
    let whole = length-append (both_columns left right count) (places left left (left + count + right) ws) in
    let both = length_both left right count in
    let after = length_places left left (left + count + right) ws in
    omega (arith, whole, both, after)

-- ---- the cells of a pair

-- neighbouring columns
segment : (before middle after : List Cell) (first count : ℕ) → first ≡ length before → count ≡ length middle → map (cell_at (before ++ (middle ++ after))) (range_with_len first count) ≡ middle
segment before [] after first zero at long = refl
segment before [] after first (suc count) at long = absurd (omega (arith, long))
segment before (c ∷ middle) after first zero at long = absurd (omega (arith, long))
segment before (c ∷ middle) after first (suc count) at long =
    let row : before ++ (c ∷ (middle ++ after)) ≡ (before ++ c ∷ []) ++ (middle ++ after) = sym (append_assoc before (c ∷ []) (middle ++ after)) in
    let longer : length (before ++ c ∷ []) ≡ length before + 1 = length-append before (c ∷ []) in
    λ i. (ap (λ (n : ℕ). cell_at (before ++ (c ∷ (middle ++ after))) n) at ∙ get_or-append_seam before c (middle ++ after) expressions.null) i
    ∷ (ap (λ (l : List Cell). map (cell_at l) (range_with_len (first + 1) count)) row ∙ segment (before ++ c ∷ []) middle after (first + 1) count (omega (arith, at, longer)) (omega (arith, long))) i

module _ (graph : Content) (l r : List Cell) (left right : ℕ) (long_left : length l ≡ left) (long_right : length r ≡ right) where
  -- what is looked up in a column of the pair is looked up in that row
  left_value : (w : Wanted) → w.column < left → value_on graph (l ++ r) w ≡ value_on graph l w
  left_value w less = ap (λ c. cell.Value (attribute_of graph w.attribute c)) (get_or_append_left l r expressions.null w.column (omega (arith, less, long_left)))

  right_value : (w : Wanted) → left ≤ w.column → value_on graph (l ++ r) w ≡ value_on graph r (lookup_at w.attribute (w.column - left))
  right_value w most =
      let at : w.column ≡ length l + (w.column - left) = omega (arith, most, long_left) in
      ap (λ c. cell.Value (attribute_of graph w.attribute c)) (ap (λ (n : ℕ). cell_at (l ++ r) n) at ∙ get_or-append-add l r (w.column - left) expressions.null)

  module _ (X Y : List Cell) where
    abbrev row : List Cell
    row = (l ++ X) ++ (r ++ Y)

    -- a cell after the left row, and one after the right row
    at_left : (A rest : List Cell) (c : Cell) → X ≡ A ++ c ∷ rest → (place : ℕ) → place ≡ left + length A → cell_at row place ≡ c
    at_left A rest c is place at =
        let inside : place < length (l ++ X) = (let one = length-append l X in let two = ap length is ∙ length-append A (c ∷ rest) in omega (arith, one, two, at, long_left)) in
        let from : place ≡ length l + length A = omega (arith, at, long_left) in
        get_or_append_left (l ++ X) (r ++ Y) expressions.null place inside
        ∙ ap (λ (n : ℕ). cell_at (l ++ X) n) from ∙ get_or-append-add l X (length A) expressions.null
        ∙ ap (λ (k : List Cell). cell_at k (length A)) is ∙ get_or-append_seam A c rest expressions.null

    at_right : (B rest : List Cell) (c : Cell) → Y ≡ B ++ c ∷ rest → (place : ℕ) → place ≡ (left + length X) + (right + length B) → cell_at row place ≡ c
    at_right B rest c is place at =
        let whole = length-append l X in
        let from : place ≡ length (l ++ X) + (length r + length B) = omega (arith, at, long_left, long_right, whole) in
        ap (λ (n : ℕ). cell_at row n) from ∙ get_or-append-add (l ++ X) (r ++ Y) (length r + length B) expressions.null
        ∙ get_or-append-add r Y (length B) expressions.null
        ∙ ap (λ (k : List Cell). cell_at k (length B)) is ∙ get_or-append_seam B c rest expressions.null

    placed : (ws : List Wanted) (A B : List Cell) (here there : ℕ) → X ≡ A ++ map (value_on graph l) (lefts left ws) → Y ≡ B ++ map (value_on graph r) (rights left ws) → here ≡ left + length A → there ≡ (left + length X) + (right + length B)
        → map (cell_at row) (places left here there ws) ≡ map (value_on graph (l ++ r)) ws
    placed [] A B here there is_left_row is_right_row at_here at_there = refl
    placed (w ∷ ws) A B here there is_left_row is_right_row at_here at_there =
        elim (is_left left w) as (λ b. is_left left w ≡ b → X ≡ A ++ map (value_on graph l) (cond b (w ∷ lefts left ws) (lefts left ws))
        → Y ≡ B ++ map (value_on graph r) (cond b (rights left ws) (lookup_at w.attribute (w.column - left) ∷ rights left ws))
        → map (cell_at row) (cond b (here ∷ places left (here + 1) there ws) (there ∷ places left here (there + 1) ws)) ≡ map (value_on graph (l ++ r)) (w ∷ ws)) [
          | true ↦ λ is one two.
              let v : Cell = value_on graph l w in
              let longer = length-append A (v ∷ []) in
              let less : w.column < left = grind (arith, nat_tests, is) in
              λ i. (at_left A (map (value_on graph l) (lefts left ws)) v one here at_here ∙ sym (left_value w less)) i
              ∷ placed ws (A ++ v ∷ []) B (here + 1) there (one ∙ sym (append_assoc A (v ∷ []) (map (value_on graph l) (lefts left ws)))) two (omega (arith, at_here, longer)) at_there i
          | false ↦ λ is one two.
              let v : Cell = value_on graph r (lookup_at w.attribute (w.column - left)) in
              let longer = length-append B (v ∷ []) in
              let most : left ≤ w.column = grind (arith, nat_tests, is) in
              λ i. (at_right B (map (value_on graph r) (rights left ws)) v two there at_there ∙ sym (right_value w most)) i
              ∷ placed ws A (B ++ v ∷ []) here (there + 1) one (two ∙ sym (append_assoc B (v ∷ []) (map (value_on graph r) (rights left ws)))) at_here (omega (arith, at_there, longer)) i
        ] refl is_left_row is_right_row

    -- the columns of both rows
    pub both_cells : (count : ℕ) → length X ≡ count → map (cell_at row) (both_columns left right count) ≡ l ++ r
    both_cells count long =
        let whole = length-append l X in
        map-append (cell_at row) (range_with_len 0 left) (range_with_len (left + count) right)
        ∙ (λ i. (ap (λ (k : List Cell). map (cell_at k) (range_with_len 0 left)) (append_assoc l X (r ++ Y)) ∙ segment [] l (X ++ (r ++ Y)) 0 left refl (sym long_left)) i
        ++ segment (l ++ X) r Y (left + count) right (omega (arith, long, whole, long_left)) (sym long_right) i)

  -- a pair with what is looked up on each of its rows, and what is looked up on the pair
  pub pair_cells : (ws : List Wanted) → projected (map column_output (joined_columns left right ws)) (with_values graph (lefts left ws) l ++ with_values graph (rights left ws) r) ≡ with_values graph ws (l ++ r)
  pair_cells ws =
      let X : List Cell = map (value_on graph l) (lefts left ws) in
      let Y : List Cell = map (value_on graph r) (rights left ws) in
      let count : ℕ = length (lefts left ws) in
      let long : length X ≡ count = length-map (lefts left ws) (value_on graph l) in
      let end : ℕ = left + count + right in
      columns_read (row X Y) (joined_columns left right ws)
      ∙ map-append (cell_at (row X Y)) (both_columns left right count) (places left left end ws)
      ∙ (λ i. both_cells X Y count long i ++ placed X Y ws [] [] left end refl refl (omega arith) (omega (arith, long)) i)

-- ---- look-ups on nulls

null_there : (graph : Content) (a : Attribute) → attribute_of graph a expressions.null ≡ value.Null
null_there graph (Property key) = refl
null_there graph RelType = refl
null_there graph Labels = refl

values_on_nulls : (graph : Content) (count : ℕ) (ws : List Wanted) → AllByRecursion (IsInside count) ws → map (value_on graph (nulls count)) ws ≡ nulls (length ws)
values_on_nulls graph count [] inside = refl
values_on_nulls graph count (w ∷ ws) inside =
    λ i. (ap (λ c. cell.Value (attribute_of graph w.attribute c)) (get_or-replicate count w.column expressions.null expressions.null inside.0) ∙ ap cell.Value (null_there graph w.attribute)) i ∷ values_on_nulls graph count ws inside.1 i

pub with_nulls : (graph : Content) (count : ℕ) (ws : List Wanted) → AllByRecursion (IsInside count) ws → with_values graph ws (nulls count) ≡ nulls (count + length ws)
with_nulls graph count ws inside = ap (λ l. nulls count ++ l) (values_on_nulls graph count ws inside) ∙ replicate-append-replicate count (length ws) expressions.null

pub if_some_map : {A : Type 0} (o : Option A) (P Q : A → Type 0) → ((x : A) → P x → Q x) → IfSome o P → IfSome o Q
if_some_map None P Q step is = is
if_some_map (Some x) P Q step is = step x is
