-- A join of plans that columns stand for.
use Rattle.std.proofs.Common.{◌≡◌, ℕ, ◌+◌, ◌<◌, ◌≤◌, ◌==◌, Bool, true, false, cond, List, [], ◌∷◌, ◌++◌, length, map, filter, refl, sym, ap, subst, ◌∙◌, arith}
use Rattle.std.specs.Cmp.{IsTotalOrder}
use Rattle.std.specs.List.{All, AllByRecursion}
use Rattle.std.proofs.lemmas.Bool.{eqb-true}
use Rattle.std.proofs.lemmas.List.{get_or-append-add, get_or_append_left, length-append, length-map, map-append}
use Rattle.std.proofs.lemmas.List.Elements.{All-append, All-cons, All-head, All-nil, All-tail}
use Rattle.cy_values.specs.declared.rows.Cell.{Cell}
use Rattle.cy_values.specs.Order.{row_cmp}
use Rattle.cy_graph.specs.Graph.{Content}
use Rattle.cy_planner_algebra.specs.declared.operators.KeyColumns.{KeyColumns}
use Rattle.cy_planner_algebra.specs.Plans as plan
use Rattle.cy_planner_algebra.specs.Plans.{Plan, width}
use Rattle.cy_planner_algebra.specs.Expressions as expressions
use Rattle.cy_planner_algebra.specs.Expressions.{cell_at, projected}
use Rattle.cy_planner_algebra.specs.Keys.{is_same_key, left_key, meet, right_key}
use Rattle.cy_planner_algebra.specs.Meaning.{joined, paired, rows_of}
use Rattle.cy_planner_algebra.specs.Parts.{parts}
use Rattle.cy_planner_algebra.specs.Sure.{HasCells}
use Rattle.cy_planner_algebra.specs.WellFormed.{IsKeyBetween, IsWellFormed, greatest_width}
use Rattle.cy_planner_algebra.specs.Within.{IsWithin}
use Rattle.cy_planner_rows.specs.Columns.{column_output}
use Rattle.cy_planner_rows.proofs.Lists.{all_of_each}
use Rattle.cy_planner_rows.proofs.OverRows.{IsLong, any_rows, columns_have_cells, columns_over, columns_read, long_rows}
use Rattle.cy_planner_rewriting.specs.Rewritten.{IsRewritten}
use Rattle.cy_planner_rewriting.proofs.Congruent.{all_split, same_within}
use Rattle.cy_planner_rewriting.proofs.Joining.{below_projection, keys_longer}
use Rattle.cy_planner_rewriting.proofs.Projections.{cell_moved, member_inside}
use Rattle.cy_planner_rewriting.proofs.Redirecting.{met_keys}
use Rattle.cy_planner_rewriting.specs.internal.Narrows.{taken}
use Rattle.cy_planner_rewriting.specs.internal.KeyPairs.{paired_column, paired_columns, renumbered_key}
use Rattle.cy_planner_rewriting.proofs.NarrowColumns.{taken_inside, width_taken}

-- ---- keys of columns

module _ (cl cr : List ℕ) where
  -- the key of a left and of a right row
  left_same : (l : List Cell) (keys : List KeyColumns) → All (IsKeyBetween (length cl) (length cr)) keys → left_key keys (map (cell_at l) cl) ≡ left_key (map (renumbered_key cl cr) keys) l
  left_same l [] each = refl
  left_same l (k ∷ keys) each =
      λ i. sym (cell_moved l cl k.left k.left (All-head (IsKeyBetween (length cl) (length cr)) k keys each).0) i ∷ left_same l keys (All-tail (IsKeyBetween (length cl) (length cr)) k keys each) i

  right_same : (r : List Cell) (keys : List KeyColumns) → All (IsKeyBetween (length cl) (length cr)) keys → right_key keys (map (cell_at r) cr) ≡ right_key (map (renumbered_key cl cr) keys) r
  right_same r [] each = refl
  right_same r (k ∷ keys) each =
      λ i. sym (cell_moved r cr k.right k.right (All-head (IsKeyBetween (length cl) (length cr)) k keys each).1) i ∷ right_same r keys (All-tail (IsKeyBetween (length cl) (length cr)) k keys each) i

  pub keys_inside : (m n : ℕ) → AllByRecursion (λ c. c < m) cl → AllByRecursion (λ c. c < n) cr → (keys : List KeyColumns) → All (IsKeyBetween (length cl) (length cr)) keys
      → All (IsKeyBetween m n) (map (renumbered_key cl cr) keys)
  keys_inside m n left right [] each = All-nil (IsKeyBetween m n)
  keys_inside m n left right (k ∷ keys) each =
      let here = All-head (IsKeyBetween (length cl) (length cr)) k keys each in
      All-cons (IsKeyBetween m n) (renumbered_key cl cr k) (map (renumbered_key cl cr) keys) (member_inside m cl k.left k.left left here.0, member_inside n cr k.right k.right right here.1)
      (keys_inside m n left right keys (All-tail (IsKeyBetween (length cl) (length cr)) k keys each))

-- ---- a column of a pair

paired_cell : (l r : List Cell) (n : ℕ) (c : ℕ) → length l ≡ n → (keys : List KeyColumns) → All (λ k. cell_at l k.left ≡ cell_at r k.right) keys → All (λ k. k.left < n) (keys)
    → cell_at (l ++ r) (paired_column keys n c) ≡ cell_at r c
paired_cell l r n c long [] met inside = ap (λ (m : ℕ). cell_at (l ++ r) (m + c)) (sym long) ∙ get_or-append-add l r c expressions.null
paired_cell l r n c long (k ∷ keys) met inside =
    let less = All-head (λ j. j.left < n) k keys inside in
    elim (k.right == c) as (λ b. (k.right == c) ≡ b → cell_at (l ++ r) (cond b k.left (paired_column keys n c)) ≡ cell_at r c) [
      | true ↦ λ is. get_or_append_left l r expressions.null k.left (omega (arith, long, less)) ∙ All-head (λ j. cell_at l j.left ≡ cell_at r j.right) k keys met ∙ ap (cell_at r) (eqb-true k.right c is)
      | false ↦ λ is. paired_cell l r n c long keys (All-tail (λ j. cell_at l j.left ≡ cell_at r j.right) k keys met) (All-tail (λ j. j.left < n) k keys inside)
    ] refl

paired_inside : (m n c : ℕ) → c < n → (keys : List KeyColumns) → All (IsKeyBetween m n) keys → paired_column keys m c < m + n
paired_inside m n c less [] each = omega (arith, less)
paired_inside m n c less (k ∷ keys) each =
    elim (k.right == c) as (λ b. cond b k.left (paired_column keys m c) < m + n) [
      | true ↦ (let here = (All-head (IsKeyBetween m n) k keys each).0 in omega (arith, here))
      | false ↦ paired_inside m n c less keys (All-tail (IsKeyBetween m n) k keys each)
    ]

all_paired : (m n : ℕ) (keys : List KeyColumns) → All (IsKeyBetween m n) keys → (cl cr : List ℕ) → AllByRecursion (λ c. c < m) cl → AllByRecursion (λ c. c < n) cr
    → AllByRecursion (λ c. c < m + n) (paired_columns keys m cl cr)
all_paired m n keys between [] [] left right = tt
all_paired m n keys between [] (c ∷ cr) left right = (paired_inside m n c right.0 keys between, all_paired m n keys between [] cr left right.1)
all_paired m n keys between (c ∷ cl) cr left right = ((let less = left.0 in omega (arith, less)), all_paired m n keys between cl cr left.1 right)

lefts_inside : (m n : ℕ) (keys : List KeyColumns) → All (IsKeyBetween m n) keys → All (λ k. k.left < m) keys
lefts_inside m n [] each = All-nil (λ k. k.left < m)
lefts_inside m n (k ∷ keys) each = All-cons (λ j. j.left < m) k keys (All-head (IsKeyBetween m n) k keys each).0 (lefts_inside m n keys (All-tail (IsKeyBetween m n) k keys each))

-- ---- the pairs

module _ (p q : Plan) (cl cr : List ℕ) (keys : List KeyColumns) (well : IsWellFormed (plan.join (taken cl p) (taken cr q) keys)) (room : width p + width q ≤ greatest_width) where
  abbrev low_keys : List KeyColumns
  low_keys = map (renumbered_key cl cr) keys

  abbrev columns : List ℕ
  columns = paired_columns low_keys (width p) cl cr

  abbrev before : Plan
  before = plan.join (taken cl p) (taken cr q) keys

  abbrev low : Plan
  low = plan.join p q low_keys

  abbrev after : Plan
  after = taken columns low

  abbrev on_left : List Cell → List Cell
  on_left l = projected (map column_output cl) l

  abbrev on_right : List Cell → List Cell
  on_right r = projected (map column_output cr) r

  abbrev back : List Cell → List Cell
  back row = projected (map column_output columns) row

  left_inside : AllByRecursion (λ c. c < width p) cl
  left_inside = taken_inside cl p well.0

  right_inside : AllByRecursion (λ c. c < width q) cr
  right_inside = taken_inside cr q well.1

  between : All (IsKeyBetween (length cl) (length cr)) keys
  between =
      subst (λ (n : ℕ). All (IsKeyBetween n (length cr)) keys) (width_taken cl p)
      (subst (λ (n : ℕ). All (IsKeyBetween (width (taken cl p)) n) keys) (width_taken cr q) well.2)

  low_between : All (IsKeyBetween (width p) (width q)) low_keys
  low_between = keys_inside cl cr (width p) (width q) left_inside right_inside keys between

  meets_same : (l r : List Cell) → meet keys (on_left l) (on_right r) ≡ meet low_keys l r
  meets_same l r =
      λ i. is_same_key ((ap (left_key keys) (columns_read l cl) ∙ left_same cl cr l keys between) i) ((ap (right_key keys) (columns_read r cr) ∙ right_same cl cr r keys between) i)

  right_cells : (l r : List Cell) → length l ≡ width p → All (λ k. cell_at l k.left ≡ cell_at r k.right) low_keys → (cs : List ℕ)
      → map (cell_at (l ++ r)) (map (paired_column low_keys (width p)) cs) ≡ map (cell_at r) cs
  right_cells l r long met [] = refl
  right_cells l r long met (c ∷ cs) =
      λ i. paired_cell l r (width p) c long low_keys met (lefts_inside (width p) (width q) low_keys low_between) i ∷ right_cells l r long met cs i

  pair_cells : (l r : List Cell) → length l ≡ width p → meet low_keys l r ≡ true → back (l ++ r) ≡ on_left l ++ on_right r
  pair_cells l r long is =
      columns_read (l ++ r) columns
      ∙ map-append (cell_at (l ++ r)) cl (map (paired_column low_keys (width p)) cr)
      ∙ (λ i. keys_longer l r cl (subst (λ (n : ℕ). All (λ c. c < n) cl) (sym long) (all_of_each (λ c. c < width p) cl left_inside)) i ++ right_cells l r long (met_keys low_keys l r is) cr i)
      ∙ (λ i. sym (columns_read l cl) i ++ sym (columns_read r cr) i)

  pair_step : (l r : List Cell) (some others : List (List Cell)) (b c : Bool) → length l ≡ width p → meet low_keys l r ≡ b → c ≡ b → map back (paired l some) ≡ paired (on_left l) others
      → map back (paired l (cond b (r ∷ some) some)) ≡ paired (on_left l) (cond c (on_right r ∷ others) others)
  pair_step l r some others true true long is same rest = λ i. pair_cells l r long is i ∷ rest i
  pair_step l r some others false false long is same rest = rest
  pair_step l r some others true false long is same rest = cc
  pair_step l r some others false true long is same rest = cc

  each_pair : (l : List Cell) (rs : List (List Cell)) → length l ≡ width p → map back (paired l (filter (meet low_keys l) rs)) ≡ paired (on_left l) (filter (meet keys (on_left l)) (map on_right rs))
  each_pair l [] long = refl
  each_pair l (r ∷ rs) long =
      pair_step l r (filter (meet low_keys l) rs) (filter (meet keys (on_left l)) (map on_right rs)) (meet low_keys l r) (meet keys (on_left l) (on_right r)) long refl (meets_same l r) (each_pair l rs long)

  all_pairs : (ls rs : List (List Cell)) → AllByRecursion (IsLong (width p)) ls → map back (joined low_keys ls rs) ≡ joined keys (map on_left ls) (map on_right rs)
  all_pairs [] rs long = refl
  all_pairs (l ∷ ls) rs long = map-append back (paired l (filter (meet low_keys l) rs)) (joined low_keys ls rs) ∙ (λ i. each_pair l rs long.0 i ++ all_pairs ls rs long.1 i)

  pair_rows : (graph : Content) → rows_of graph after ≡ rows_of graph before
  pair_rows graph = all_pairs (rows_of graph p) (rows_of graph q) (long_rows graph p well.0.0)

  pair_wide : width after ≡ width before
  pair_wide =
      length-map columns column_output
      ∙ length-append cl (map (paired_column low_keys (width p)) cr)
      ∙ (λ i. sym (width_taken cl p) i + (length-map cr (paired_column low_keys (width p)) ∙ sym (width_taken cr q)) i)

  pub narrowed_join : IsTotalOrder row_cmp → IsRewritten before after
  narrowed_join total = record {
    as_wide = pair_wide;
    well_formed = λ good. (
      (good.0.0, good.1.0, low_between, room),
      columns_over (width p + width q) columns (all_paired (width p) (width q) low_keys low_between cl cr left_inside right_inside),
      subst (λ (n : ℕ). n ≤ greatest_width) (sym pair_wide) good.3,
    );
    rows = pair_rows;
    sure = λ graph sure. ((sure.0.0, sure.1.0), any_rows (HasCells (map column_output columns)) (λ row. columns_have_cells row columns) (rows_of graph low));
    bounded = λ graph tables each.
        let W : Plan → Type 0 = IsWithin graph tables in
        let both = all_split W (taken cl p ∷ parts p) (taken cr q ∷ parts q) (All-tail W before ((taken cl p ∷ parts p) ++ taken cr q ∷ parts q) each) in
        let top : W after = same_within graph tables before after (pair_rows graph) (All-head W before ((taken cl p ∷ parts p) ++ taken cr q ∷ parts q) each) in
        All-cons W after (low ∷ parts p ++ parts q) top
        (All-cons W low (parts p ++ parts q) (below_projection total graph tables low (map column_output columns) top)
        (All-append W (parts p) (parts q) (All-tail W (taken cl p) (parts p) both.0) (All-tail W (taken cr q) (parts q) both.1)));
  }
