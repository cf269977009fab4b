-- How many relationships a cell of a plan's rows names lies within the bounds that the plan shows.
use Rattle.std.proofs.Common.{◌≡◌, ℕ, ◌+◌, ◌-◌, ◌==◌, ◌<◌, ◌≤◌, min, Bool, true, false, cond, List, [], ◌∷◌, ◌++◌, Option, None, Some, map, filter, length, refl, sym, ap, subst, ◌∙◌, arith}
use Rattle.std.specs.Prelude.{flat_map, fold, nat_lt, option_and_then, option_map, slice_get, sum_by}
use Rattle.std.specs.List.{All}
use Rattle.std.specs.Option.{option_map_or}
use Rattle.std.proofs.lemmas.Bool.Decides.{nat_tests}
use Rattle.std.proofs.lemmas.List.{get_or-append_right, get_or_append_left}
use Rattle.std.proofs.lemmas.List.Concat.{length-flat_map}
use Rattle.std.proofs.lemmas.List.Elements.{All-append, All-cons, All-filter, All-map, All-nil, All-weaker}
use Rattle.std.proofs.lemmas.List.Folds.{fold_along}
use Rattle.std.proofs.lemmas.Option.{get_or_from_slice_get, slice_get-map}
use Rattle.std.proofs.lemmas.Bool.{ltb-false, ltb-true}
use Rattle.cy_values.specs.declared.numbers.RelId.{RelId}
use Rattle.cy_values.specs.declared.rows.Cell.{Cell}
use Rattle.cy_graph.specs.Graph.{Content}
use Rattle.cy_graph.specs.declared.nodes.Rel.{Rel}
use Rattle.cy_trees.specs.Trees.{Name, null, boolean, integer, text, variable, property, has_labels, unary, binary, comparison, list, case, call, call_star}
use Rattle.cy_expr.specs.Evaluation.{column_value}
use Rattle.cy_expr.specs.Graphs.{has_type}
use Rattle.cy_planner_algebra.specs.declared.operators.Orientation.{Orientation}
use Rattle.cy_planner_algebra.specs.declared.operators.Orientation.TheVariants.{Directed, Either}
use Rattle.cy_planner_algebra.specs.Plans as plan
use Rattle.cy_planner_algebra.specs.Plans.{Output, Plan, computed, gathered, width}
use Rattle.cy_planner_algebra.specs.Expressions as expressions
use Rattle.cy_planner_algebra.specs.Expressions.{cell_at, output_cell, projected, relationships_in}
use Rattle.cy_planner_algebra.specs.Keys.{meet}
use Rattle.cy_planner_algebra.specs.Meaning.{backwards, forwards, is_loop, is_partner, or_nulls, paired, rows_of, rows_of_rel, ways}
use Rattle.cy_planner_algebra.specs.WellFormed.{IsWellFormed}
use Rattle.cy_planner_algebra.proofs.Widths.{all_made, all_made_of_any, all_mapped, all_once, wide_rows}
use Rattle.cy_network_relevance.specs.Lists.{IsAtMost, greater, least_made, least_named, most_made, most_named, named, together}

-- a number lies within two bounds
pub record IsBetween (least : ℕ) (most : Option ℕ) (n : ℕ) : Type 0 where
  pub above : least ≤ n
  pub below : IsAtMost most n

any_number : (n : ℕ) → IsBetween 0 None n
any_number n = record { above = omega arith; below = tt }

-- and so does how many relationships the cell in a column names, in each of some rows
abbrev pub AreBetween : ℕ → Option ℕ → ℕ → List (List Cell) → Type 0
AreBetween least most column rows = All (λ row. IsBetween least most (named column row)) rows

any_rows : (column : ℕ) (rows : List (List Cell)) → AreBetween 0 None column rows
any_rows column rows = λ k d less. any_number _

-- the one bounds or the others
one_of : (b : Bool) (least other_least : ℕ) (most other_most : Option ℕ) (column : ℕ) (rows : List (List Cell)) → (b ≡ true → AreBetween least most column rows)
    → (b ≡ false → AreBetween other_least other_most column rows) → AreBetween (cond b least other_least) (cond b most other_most) column rows
one_of true least other_least most other_most column rows first second = first refl
one_of false least other_least most other_most column rows first second = second refl

-- ---- relationships

exactly : (n m : ℕ) → n ≡ m → IsBetween m (Some m) n
exactly n m is = record { above = omega (arith, is); below = omega (arith, is) }

-- the first cell of a row names one relationship
abbrev NamesOne : List Cell → Type 0
NamesOne row = IsBetween 1 (Some 1) (named 0 row)

one_way : (orientation : Orientation) (r : RelId × Rel) → All NamesOne (ways orientation r)
one_way Directed r = All-cons NamesOne (forwards r) [] (exactly (named 0 (forwards r)) 1 refl) (All-nil NamesOne)
one_way Either r =
    elim (is_loop r.1) as (λ b. All NamesOne (cond b (forwards r ∷ []) (forwards r ∷ backwards r ∷ []))) [
      | true ↦ All-cons NamesOne (forwards r) [] (exactly (named 0 (forwards r)) 1 refl) (All-nil NamesOne)
      | false ↦ All-cons NamesOne (forwards r) (backwards r ∷ []) (exactly (named 0 (forwards r)) 1 refl)
          (All-cons NamesOne (backwards r) [] (exactly (named 0 (backwards r)) 1 refl) (All-nil NamesOne))
    ]

one_rel : (types : List Name) (orientation : Orientation) (r : RelId × Rel) → All NamesOne (rows_of_rel types orientation r)
one_rel types orientation r =
    elim (has_type types r.1) as (λ b. All NamesOne (cond b (ways orientation r) [])) [ true ↦ one_way orientation r | false ↦ All-nil NamesOne ]

first_column : (column : ℕ) → (column == 0) ≡ true → column ≡ 0
first_column column is = grind (arith, nat_tests)

rels_between : (graph : Content) (types : List Name) (orientation : Orientation) (column : ℕ)
    → AreBetween (cond (column == 0) 1 0) (cond (column == 0) (Some 1) None) column (rows_of graph (plan.rels types orientation))
rels_between graph types orientation column =
    let rows : List (List Cell) = rows_of graph (plan.rels types orientation) in
    one_of (column == 0) 1 0 (Some 1) None column rows
    (λ is. subst (λ c. AreBetween 1 (Some 1) c rows) (sym (first_column column is)) (all_made_of_any NamesOne (rows_of_rel types orientation) (one_rel types orientation) graph.rels))
    (λ is. any_rows column rows)

-- ---- rows with others after them

left_cell : (row more : List Cell) (column : ℕ) → column < length row → named column (row ++ more) ≡ named column row
left_cell row more column less = ap (λ c. length (relationships_in c)) (get_or_append_left row more expressions.null column less)

right_cell : (row more : List Cell) (n column : ℕ) → length row ≡ n → n ≤ column → named column (row ++ more) ≡ named (column - n) more
right_cell row more n column long least = ap (λ c. length (relationships_in c)) (get_or-append_right row more n column expressions.null long least)

pub both : {A : Type 0} (P Q : A → Type 0) (xs : List A) → All P xs → All Q xs → All (λ x. P x × Q x) xs
both P Q xs first second = λ k d less. (first k d less, second k d less)

module _ (least : ℕ) (most : Option ℕ) (column n : ℕ) where
  abbrev Between : List Cell → Type 0
  Between row = IsBetween least most (named column row)

  paired_left : (row : List Cell) (rights : List (List Cell)) → length row ≡ n → column < n → Between row → AreBetween least most column (paired row rights)
  paired_left row rights long less is =
      all_mapped Between (λ right. row ++ right) (λ right. subst (IsBetween least most) (sym (left_cell row right column (subst (λ k. column < k) (sym long) less))) is) rights

  paired_right : (row : List Cell) (rights : List (List Cell)) → length row ≡ n → n ≤ column → AreBetween least most (column - n) rights → AreBetween least most column (paired row rights)
  paired_right row rights long more each =
      All-map Between (λ right. row ++ right) rights
      (All-weaker (λ right. IsBetween least most (named (column - n) right)) (λ right. Between (row ++ right))
      (λ right is. subst (IsBetween least most) (sym (right_cell row right n column long more)) is) rights each)

  -- each of some rows with others after it
  made_left : (others : List Cell → List (List Cell)) (lefts : List (List Cell)) → All (λ row. length row ≡ n) lefts → AreBetween least most column lefts → column < n
      → AreBetween least most column (flat_map (λ row. paired row (others row)) lefts)
  made_left others lefts wide each less =
      all_made (λ row. (length row ≡ n) × Between row) Between (λ row. paired row (others row)) (λ row is. paired_left row (others row) is.0 less is.1) lefts
      (both (λ row. length row ≡ n) Between lefts wide each)

  made_right : (others : List Cell → List (List Cell)) (lefts : List (List Cell)) → All (λ row. length row ≡ n) lefts
      → ((row : List Cell) → AreBetween least most (column - n) (others row)) → n ≤ column → AreBetween least most column (flat_map (λ row. paired row (others row)) lefts)
  made_right others lefts wide each more =
      all_made (λ row. length row ≡ n) Between (λ row. paired row (others row)) (λ row is. paired_right row (others row) is more (each row)) lefts wide

  looked_up : (more : List Cell → List Cell) (rows : List (List Cell)) → All (λ row. length row ≡ n) rows → AreBetween least most column rows → column < n
      → AreBetween least most column (map (λ row. row ++ more row) rows)
  looked_up more rows wide each less =
      All-map Between (λ row. row ++ more row) rows
      (All-weaker (λ row. (length row ≡ n) × Between row) (λ row. Between (row ++ more row))
      (λ row is. subst (IsBetween least most) (sym (left_cell row (more row) column (subst (λ k. column < k) (sym is.0) less))) is.1) rows
      (both (λ row. length row ≡ n) Between rows wide each))

-- ---- projections

together_within : (a b : Option ℕ) (m n : ℕ) → IsAtMost a m → IsAtMost b n → IsAtMost (together a b) (m + n)
together_within None b m n first second = tt
together_within (Some a) None m n first second = tt
together_within (Some a) (Some b) m n first second =
    elim (nat_lt (a + b) 65536) as (λ so. IsAtMost (cond so (Some (a + b)) None) (m + n)) [ true ↦ omega (arith, first, second) | false ↦ tt ]

module _ (least : ℕ → ℕ) (most : ℕ → Option ℕ) (row : List Cell) (below : (column : ℕ) → IsBetween (least column) (most column) (named column row)) where
  gathered_between : (columns : List ℕ) → IsBetween (sum_by least columns) (fold (λ so_far column. together so_far (most column)) (Some 0) columns) (sum_by (λ column. named column row) columns)
  gathered_between columns = record {
    above =
        fold_along (λ (so_far : ℕ) column. so_far + least column) (λ (so_far : ℕ) column. so_far + named column row) (λ m n. m ≤ n)
        (λ m n column less. let more = (below column).above in omega (arith, less, more)) 0 0 columns (omega arith);
    below =
        fold_along (λ (so_far : Option ℕ) column. together so_far (most column)) (λ (so_far : ℕ) column. so_far + named column row) IsAtMost
        (λ o n column less. together_within o (most column) n (named column row) less (below column).below) (Some 0) 0 columns (omega arith);
  }

  alone_between : (found : Option ℕ) → IsBetween (option_map_or least found 0) (option_and_then most found) (length (relationships_in (column_value found row)))
  alone_between None = any_number _
  alone_between (Some column) = below column

  output_between : (o : Output) → IsBetween (least_made least o) (most_made most o) (length (relationships_in (output_cell row o)))
  output_between (gathered columns) =
      subst (IsBetween (least_made least (gathered columns)) (most_made most (gathered columns))) (sym (length-flat_map (λ column. relationships_in (cell_at row column)) columns)) (gathered_between columns)
  output_between (computed (variable v)) = alone_between v.column
  output_between (computed null) = any_number _
  output_between (computed (boolean b)) = any_number _
  output_between (computed (integer n)) = any_number _
  output_between (computed (text t)) = any_number _
  output_between (computed (property e key)) = any_number _
  output_between (computed (has_labels e labels)) = any_number _
  output_between (computed (unary operator e)) = any_number _
  output_between (computed (binary operator a b)) = any_number _
  output_between (computed (comparison e links)) = any_number _
  output_between (computed (list es)) = any_number _
  output_between (computed (case arms e)) = any_number _
  output_between (computed (call name distinct es)) = any_number _
  output_between (computed (call_star name)) = any_number _

  made_between : (outputs : List Output) (column : ℕ)
      → IsBetween (option_map_or (least_made least) (slice_get outputs column) 0) (option_and_then (most_made most) (slice_get outputs column)) (named column (projected outputs row))
  made_between outputs column = by (slice_get outputs column) refl
    where
      by : (found : Option Output) → slice_get outputs column ≡ found → IsBetween (option_map_or (least_made least) found 0) (option_and_then (most_made most) found) (named column (projected outputs row))
      by None none = any_number _
      by (Some o) found =
          subst (IsBetween (least_made least o) (most_made most o))
          (sym (ap (λ c. length (relationships_in c))
          (get_or_from_slice_get (map (output_cell row) outputs) column (output_cell row o) expressions.null (slice_get-map (output_cell row) outputs column ∙ ap (option_map (output_cell row)) found))))
          (output_between o)

-- ---- unions

greater_left : (a b : Option ℕ) (n : ℕ) → IsAtMost a n → IsAtMost (greater a b) n
greater_left None b n is = tt
greater_left (Some a) None n is = tt
greater_left (Some a) (Some b) n is = omega (arith, is)

greater_right : (a b : Option ℕ) (n : ℕ) → IsAtMost b n → IsAtMost (greater a b) n
greater_right None b n is = tt
greater_right (Some a) None n is = tt
greater_right (Some a) (Some b) n is = omega (arith, is)

module _ (least other_least : ℕ) (most other_most : Option ℕ) (n : ℕ) where
  of_left : IsBetween least most n → IsBetween (min least other_least) (greater most other_most) n
  of_left is = let more = is.above in record { above = omega (arith, more); below = greater_left most other_most n is.below }

  of_right : IsBetween other_least other_most n → IsBetween (min least other_least) (greater most other_most) n
  of_right is = let more = is.above in record { above = omega (arith, more); below = greater_right most other_most n is.below }

-- ---- all parts

pub bounds : (graph : Content) (p : Plan) → IsWellFormed p → (column : ℕ) → AreBetween (least_named p column) (most_named p column) column (rows_of graph p)
bounds graph plan.unit good column = any_rows column (rows_of graph plan.unit)
bounds graph plan.nodes good column = any_rows column (rows_of graph plan.nodes)
bounds graph (plan.rels types orientation) good column = rels_between graph types orientation column
bounds graph (plan.join left right keys) good column =
    let others : List Cell → List (List Cell) = λ row. filter (meet keys row) (rows_of graph right) in
    one_of (nat_lt column (width left)) (least_named left column) (least_named right (column - width left)) (most_named left column) (most_named right (column - width left)) column (rows_of graph (plan.join left right keys))
    (λ is. made_left (least_named left column) (most_named left column) column (width left) others (rows_of graph left) (wide_rows graph left good.0) (bounds graph left good.0 column) (ltb-true column (width left) is))
    (λ is. made_right (least_named right (column - width left)) (most_named right (column - width left)) column (width left) others (rows_of graph left) (wide_rows graph left good.0)
    (λ row. All-filter (meet keys row) (λ right_row. IsBetween (least_named right (column - width left)) (most_named right (column - width left)) (named (column - width left) right_row)) (rows_of graph right) (bounds graph right good.1 (column - width left)))
    (ltb-false column (width left) is))
bounds graph (plan.outer left right keys test) good column =
    let others : List Cell → List (List Cell) = λ row. or_nulls (width right) (filter (is_partner keys test row) (rows_of graph right)) in
    one_of (nat_lt column (width left)) (least_named left column) 0 (most_named left column) None column (rows_of graph (plan.outer left right keys test))
    (λ is. made_left (least_named left column) (most_named left column) column (width left) others (rows_of graph left) (wide_rows graph left good.0) (bounds graph left good.0 column) (ltb-true column (width left) is))
    (λ is. any_rows column (rows_of graph (plan.outer left right keys test)))
bounds graph (plan.semi left right keys keeping) good column = All-filter _ (λ row. IsBetween (least_named left column) (most_named left column) (named column row)) (rows_of graph left) (bounds graph left good.0 column)
bounds graph (plan.lookup p c attribute) good column =
    one_of (nat_lt column (width p)) (least_named p column) 0 (most_named p column) None column (rows_of graph (plan.lookup p c attribute))
    (λ is. looked_up (least_named p column) (most_named p column) column (width p) _ (rows_of graph p) (wide_rows graph p good.0) (bounds graph p good.0 column) (ltb-true column (width p) is))
    (λ is. any_rows column (rows_of graph (plan.lookup p c attribute)))
bounds graph (plan.filter p test) good column = All-filter _ (λ row. IsBetween (least_named p column) (most_named p column) (named column row)) (rows_of graph p) (bounds graph p good.0 column)
bounds graph (plan.all_different p columns) good column = All-filter _ (λ row. IsBetween (least_named p column) (most_named p column) (named column row)) (rows_of graph p) (bounds graph p good.0 column)
bounds graph (plan.project p outputs) good column =
    let each : (row_column : ℕ) → AreBetween (least_named p row_column) (most_named p row_column) row_column (rows_of graph p) = λ row_column. bounds graph p good.0 row_column in
    All-map (λ row. IsBetween (least_named (plan.project p outputs) column) (most_named (plan.project p outputs) column) (named column row)) (projected outputs) (rows_of graph p)
    (All-weaker (λ row. (c : ℕ) → IsBetween (least_named p c) (most_named p c) (named c row)) (λ row. IsBetween (least_named (plan.project p outputs) column) (most_named (plan.project p outputs) column) (named column (projected outputs row)))
    (λ row is. made_between (least_named p) (most_named p) row is outputs column) (rows_of graph p) (λ k d less c. each c k d less))
bounds graph (plan.distinct p) good column = all_once (λ row. IsBetween (least_named p column) (most_named p column) (named column row)) (rows_of graph p) (bounds graph p good column)
bounds graph (plan.union left right) good column =
    let here : List Cell → Type 0 = λ row. IsBetween (min (least_named left column) (least_named right column)) (greater (most_named left column) (most_named right column)) (named column row) in
    All-append here (rows_of graph left) (rows_of graph right)
    (All-weaker (λ row. IsBetween (least_named left column) (most_named left column) (named column row)) here
    (λ row. of_left (least_named left column) (least_named right column) (most_named left column) (most_named right column) (named column row)) (rows_of graph left) (bounds graph left good.0 column))
    (All-weaker (λ row. IsBetween (least_named right column) (most_named right column) (named column row)) here
    (λ row. of_right (least_named left column) (least_named right column) (most_named left column) (most_named right column) (named column row)) (rows_of graph right) (bounds graph right good.1 column))
