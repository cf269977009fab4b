-- The rows with an attribute, and how they change.
use Rattle.std.proofs.Common.{◌≡◌, ◌≢◌, ℕ, ◌+◌, ◌==◌, Bool, true, false, cond, ◌&&◌, List, [], ◌∷◌, ◌++◌, Option, None, Some, MatchOption, refl, sym, ap, ◌∙◌, map, arith}
use Rattle.std.specs.Prelude.{flat_map}
use Rattle.std.proofs.lemmas.Bool.{true≢false}
use Rattle.std.proofs.lemmas.Bool.Decides.{nat_tests}
use Rattle.std.proofs.lemmas.List.{append-nil}
use Rattle.std.proofs.lemmas.List.Elements.{filter-append}
use Rattle.cy_values.specs.declared.numbers.NodeId.{NodeId}
use Rattle.cy_values.specs.declared.numbers.RelId.{RelId}
use Rattle.cy_values.specs.declared.scalars.Value.{Value}
use Rattle.cy_values.specs.declared.scalars.Value.TheVariants as value
use Rattle.cy_values.specs.declared.rows.Cell.{Cell}
use Rattle.cy_values.specs.declared.rows.Cell.TheVariants as cell
use Rattle.cy_values.specs.Bag.{count_of}
use Rattle.cy_graph.specs.Graph.{Content, State, node_at, rel_at}
use Rattle.cy_network_memory.specs.declared.memory.RowDelta.{RowDelta}
use Rattle.cy_values.specs.Same.{is_row}
use Rattle.cy_values.proofs.SameRows.{same_row}
use Rattle.cy_network_memory.specs.Counts.{Counts, key_cells}
use Rattle.cy_network_memory.specs.Records.{IsAnswer, is_counted}
use Rattle.cy_planner_algebra.specs.declared.operators.Attribute.{Attribute}
use Rattle.cy_planner_algebra.specs.declared.operators.Attribute.TheVariants.{Property, RelType, Labels}
use Rattle.cy_planner_algebra.specs.Expressions.{cell_at, null}
use Rattle.cy_planner_algebra.specs.Meaning.{attribute_of, with_attribute}
use Rattle.cy_planner_algebra.proofs.Counts.{count_cons}
use Rattle.cy_network_operators.specs.Deltas.{deltas_of, row_delta_between}
use Rattle.cy_network_operators.proofs.PairLemmas.{answered, passed}
use Rattle.cy_network_operators.proofs.Same.{is_row_if}
use Rattle.cy_network_operators.proofs.DeltaLemmas.{deltas_between, deltas_made}
use Rattle.cy_network_sources.specs.declared.attributes.Attributes.{Attributes}
use Rattle.cy_network_sources.specs.internal.Attributes.{AreAttributes, front, reattributed, row_delta_at, still_deltas, valued, valued_record}
use Rattle.cy_network_sources.specs.Attributes.{node_attribute, rel_attribute}

-- ---- a row with one cell more

front_of : (row : List Cell) (c : Cell) → front (row ++ c ∷ []) ≡ row
front_of [] c = refl
front_of (x ∷ []) c = refl
front_of (x ∷ y ∷ row) c = ap (λ rest. x ∷ rest) (front_of (y ∷ row) c)

abbrev ending : List Cell → Cell
ending [] = null
ending (c ∷ []) = c
ending (c ∷ d ∷ cells) = ending (d ∷ cells)

ending_of : (row : List Cell) (c : Cell) → ending (row ++ c ∷ []) ≡ c
ending_of [] c = refl
ending_of (x ∷ []) c = refl
ending_of (x ∷ y ∷ row) c = ending_of (y ∷ row) c

-- a row that is another one with a cell after it begins with that one
longer_front : (row other : List Cell) (c : Cell) → is_row row (other ++ c ∷ []) ≡ true → front row ≡ other
longer_front row other c is = ap front (same_row row (other ++ c ∷ []) is) ∙ front_of other c

longer_other : (row other : List Cell) (c : Cell) (b : Bool) → is_row row (other ++ c ∷ []) ≡ b → is_row (front row) other ≡ false → b ≡ false
longer_other row other c false is apart = refl
longer_other row other c true is apart = absurd (true≢false (sym (is_row_if (front row) other (longer_front row other c is)) ∙ apart))

between_other : (row other : List Cell) (c : Cell) (m n : ℕ) → is_row (front row) other ≡ false → deltas_of row (row_delta_between (other ++ c ∷ []) m n) ≡ []
between_other row other c m n apart =
    deltas_between row (other ++ c ∷ []) m n
    ∙ ap (λ b. cond b (row_delta_between (other ++ c ∷ []) m n) []) (longer_other row other c (is_row row (other ++ c ∷ [])) refl apart)

two_others : (row other : List Cell) (c d : Cell) (m n k l : ℕ) → is_row (front row) other ≡ false
    → deltas_of row (row_delta_between (other ++ c ∷ []) m n ++ row_delta_between (other ++ d ∷ []) k l) ≡ []
two_others row other c d m n k l apart =
    filter-append (λ s. is_row row s.row) (row_delta_between (other ++ c ∷ []) m n) (row_delta_between (other ++ d ∷ []) k l)
    ∙ ap (λ made. made ++ deltas_of row (row_delta_between (other ++ d ∷ []) k l)) (between_other row other c m n apart)
    ∙ between_other row other d k l apart

-- ---- the row deltas of rows that didn't change

nothing_if : (b : Bool) → cond {A = List RowDelta} b [] [] ≡ []
nothing_if true = refl
nothing_if false = refl

abbrev valued_by : Option Value → Value → RowDelta → List RowDelta
valued_by was now s = valued (record { value = now; was = was }) s

valued_other : (row : List Cell) (was : Option Value) (now : Value) (s : RowDelta) → is_row (front row) s.row ≡ false → deltas_of row (valued_by was now s) ≡ []
valued_other row None now s apart = between_other row s.row (cell.Value now) s.before s.after apart
valued_other row (Some was) now s apart = two_others row s.row (cell.Value was) (cell.Value now) s.before 0 0 s.after apart

valued_none : (was : Option Value) (now : Value) (row : List Cell) → valued_by was now (record { row = row; before = 0; after = 0 }) ≡ []
valued_none None now row = refl
valued_none (Some was) now row = refl

uncounted : (was staged : Counts) (row : List Cell) → is_counted was staged row ≡ false → (was row ≡ 0) × (staged row ≡ 0)
uncounted was staged row is =
    let none : was row + staged row ≡ 0 = grind (arith, nat_tests) in
    (omega (arith, none), omega (arith, none))

abbrev record_of : Counts → Counts → List Cell → RowDelta
record_of was staged row = record { row = row; before = was row; after = staged row }

-- those of the records of a key
pub still_made : (columns : List ℕ) (was staged : Counts) (key : List Cell) (values : Attributes) (records : List RowDelta) → IsAnswer columns was staged key records → (row : List Cell)
    → deltas_of row (flat_map (valued_record values) records) ≡ still_deltas columns was staged key values row
still_made columns was staged key values records answer row =
    deltas_made row (λ r. is_row first r.row) (valued_record values) none records
    ∙ ap (flat_map (λ r. deltas_of row (valued_record values r))) (answered columns was staged key records answer first)
    ∙ cases (is_row key (key_cells columns first)) (is_counted was staged first) refl
  where
    first : List Cell
    first = front row

    same : Bool
    same = was first == staged first

    made : List RowDelta
    made = valued values (row_delta_at was staged first)

    none : (r : RowDelta) → is_row first r.row ≡ false → deltas_of row (valued_record values r) ≡ []
    none r apart =
        passed (r.before == r.after) row (valued values (record { row = r.row; before = r.before; after = r.after }))
        ∙ ap (λ found. cond (r.before == r.after) found []) (valued_other row values.was values.value (record { row = r.row; before = r.before; after = r.after }) apart)
        ∙ nothing_if (r.before == r.after)

    cases : (k c : Bool) → is_counted was staged first ≡ c → flat_map (λ r. deltas_of row (valued_record values r)) (cond (k && c) (record_of was staged first ∷ []) []) ≡ cond (k && same) (deltas_of row made) []
    cases false c is = refl
    cases true true is = append-nil (deltas_of row (valued_record values (record_of was staged first))) ∙ passed same row made
    cases true false is =
        let gone = uncounted was staged first is in
        let nothing : made ≡ [] =
        ap (λ n. valued values (record { row = first; before = n; after = staged first })) gone.0
        ∙ ap (λ n. valued values (record { row = first; before = 0; after = n })) gone.1
        ∙ valued_none values.was values.value first in
        sym (ap (λ found. cond same (deltas_of row found) []) nothing ∙ nothing_if same)

-- ---- attributes in a graph

pub at_node : (state : State) (attribute : Attribute) (id : NodeId) → attribute_of state.content attribute (cell.Node id) ≡ node_attribute attribute (node_at id state)
at_node state (Property key) id = refl
at_node state RelType id = refl
at_node state Labels id = refl

pub at_rel : (state : State) (attribute : Attribute) (id : RelId) → attribute_of state.content attribute (cell.Rel id) ≡ rel_attribute attribute (rel_at id state)
at_rel state (Property key) id = refl
at_rel state RelType id = refl
at_rel state Labels id = refl

-- of a cell that names no entity
pub at_rels : (graph : Content) (attribute : Attribute) (ids : List RelId) → attribute_of graph attribute (cell.Rels ids) ≡ value.Null
at_rels graph (Property key) ids = refl
at_rels graph RelType ids = refl
at_rels graph Labels ids = refl

pub at_value : (graph : Content) (attribute : Attribute) (v : Value) → attribute_of graph attribute (cell.Value v) ≡ value.Null
at_value graph (Property key) (value.List xs) = refl
at_value graph RelType (value.List xs) = refl
at_value graph RelType (value.Text t) = refl
at_value graph RelType (value.Bool b) = refl
at_value graph RelType (value.Int n) = refl
at_value graph RelType value.Null = refl
at_value graph Labels (value.List xs) = refl
at_value graph Labels (value.Text t) = refl
at_value graph Labels (value.Bool b) = refl
at_value graph Labels (value.Int n) = refl
at_value graph Labels value.Null = refl
at_value graph (Property key) _ = refl

-- the values that differ make rows that differ
rows_apart : (row : List Cell) (a b : Value) (t : Bool) → is_row (row ++ cell.Value a ∷ []) (row ++ cell.Value b ∷ []) ≡ t → a ≢ b → t ≡ false
rows_apart row a b false is apart = refl
rows_apart row a b true is apart =
    let cells : cell.Value a ≡ cell.Value b =
    sym (ending_of row (cell.Value a)) ∙ ap ending (same_row (row ++ cell.Value a ∷ []) (row ++ cell.Value b ∷ []) is) ∙ ending_of row (cell.Value b) in
    let values : a ≡ b = cc in
    absurd (apart values)

pub rows_same : (row : List Cell) (a b : Value) → a ≡ b → is_row (row ++ cell.Value a ∷ []) (row ++ cell.Value b ∷ []) ≡ true
rows_same row a b same = is_row_if (row ++ cell.Value a ∷ []) (row ++ cell.Value b ∷ []) (ap (λ v. row ++ cell.Value v ∷ []) same)

module _ (old new : Content) (column : ℕ) (attribute : Attribute) where
  abbrev was_value : List Cell → Value
  was_value row = attribute_of old attribute (cell_at row column)

  abbrev now_value : List Cell → Value
  now_value row = attribute_of new attribute (cell_at row column)

  by_values : (s : RowDelta) (was : Option Value) (now : Value) → now ≡ now_value s.row → MatchOption was (was_value s.row ≡ now_value s.row) (λ w. (w ≡ was_value s.row) × (was_value s.row ≢ now_value s.row))
      → valued_by was now s ≡ reattributed old new column attribute s
  by_values s None now is same =
      ap (λ v. row_delta_between (s.row ++ cell.Value v ∷ []) s.before s.after) is
      ∙ sym (ap (λ b. cond b (row_delta_between (s.row ++ cell.Value (now_value s.row) ∷ []) s.before s.after)
      (row_delta_between (s.row ++ cell.Value (was_value s.row) ∷ []) s.before 0 ++ row_delta_between (s.row ++ cell.Value (now_value s.row) ∷ []) 0 s.after))
      (rows_same s.row (was_value s.row) (now_value s.row) same))
  by_values s (Some was) now is differs =
      ap (λ v. row_delta_between (s.row ++ cell.Value was ∷ []) s.before 0 ++ row_delta_between (s.row ++ cell.Value v ∷ []) 0 s.after) is
      ∙ ap (λ v. row_delta_between (s.row ++ cell.Value v ∷ []) s.before 0 ++ row_delta_between (s.row ++ cell.Value (now_value s.row) ∷ []) 0 s.after) differs.0
      ∙ sym (ap (λ b. cond b (row_delta_between (s.row ++ cell.Value (now_value s.row) ∷ []) s.before s.after)
      (row_delta_between (s.row ++ cell.Value (was_value s.row) ∷ []) s.before 0 ++ row_delta_between (s.row ++ cell.Value (now_value s.row) ∷ []) 0 s.after))
      (rows_apart s.row (was_value s.row) (now_value s.row) (is_row (s.row ++ cell.Value (was_value s.row) ∷ []) (s.row ++ cell.Value (now_value s.row) ∷ [])) refl differs.1))

  -- what a row makes with the values of its entity is what it makes by the graphs
  pub valued_is : (s : RowDelta) (values : Attributes) → AreAttributes (was_value s.row) (now_value s.row) values → valued values s ≡ reattributed old new column attribute s
  valued_is s values are = by_values s values.was values.value are.0 are.1

  pub reattributed_other : (row : List Cell) (s : RowDelta) → is_row (front row) s.row ≡ false → deltas_of row (reattributed old new column attribute s) ≡ []
  reattributed_other row s apart = by (is_row (with_attribute old column attribute s.row) (with_attribute new column attribute s.row))
    where
      by : (b : Bool) → deltas_of row (cond b (row_delta_between (with_attribute new column attribute s.row) s.before s.after)
          (row_delta_between (with_attribute old column attribute s.row) s.before 0 ++ row_delta_between (with_attribute new column attribute s.row) 0 s.after)) ≡ []
      by true = between_other row s.row (cell.Value (now_value s.row)) s.before s.after apart
      by false = two_others row s.row (cell.Value (was_value s.row)) (cell.Value (now_value s.row)) s.before 0 0 s.after apart

  -- ---- how often rows with the attribute count

  pub count_with : (graph : Content) (row : List Cell) (rows : List (List Cell))
      → count_of row (map (with_attribute graph column attribute) rows) ≡ cond (is_row row (with_attribute graph column attribute (front row))) (count_of (front row) rows) 0
  count_with graph row [] = sym (zero_if (is_row row (with_attribute graph column attribute (front row))))
    where
      zero_if : (b : Bool) → cond {A = ℕ} b 0 0 ≡ 0
      zero_if true = refl
      zero_if false = refl
  count_with graph row (x ∷ xs) =
      count_cons row (with_attribute graph column attribute x) (map (with_attribute graph column attribute) xs)
      ∙ ap (λ n. cond (is_row row (with_attribute graph column attribute x)) 1 0 + n) (count_with graph row xs)
      ∙ step (is_row (front row) x) refl
      ∙ ap (λ n. cond whole n 0) (sym (count_cons (front row) x xs))
    where
      whole : Bool
      whole = is_row row (with_attribute graph column attribute (front row))

      rest : ℕ
      rest = count_of (front row) xs

      both : (t : Bool) → cond t 1 0 + cond t rest 0 ≡ cond t (1 + rest) 0
      both true = refl
      both false = refl

      more : (t : Bool) → 0 + cond t rest 0 ≡ cond t (0 + rest) 0
      more true = refl
      more false = refl

      step : (b : Bool) → is_row (front row) x ≡ b → cond (is_row row (with_attribute graph column attribute x)) 1 0 + cond whole rest 0 ≡ cond whole (cond b 1 0 + rest) 0
      step true is =
          ap (λ r. cond (is_row row (with_attribute graph column attribute r)) 1 0 + cond whole rest 0) (sym (same_row (front row) x is)) ∙ both whole
      step false is =
          ap (λ b. cond b 1 0 + cond whole rest 0)
          (longer_other row x (cell.Value (attribute_of graph attribute (cell_at x column))) (is_row row (with_attribute graph column attribute x)) refl is)
          ∙ more whole

  -- the row deltas that a row has, by the row that it begins with
  pub reattributed_row_delta : (was staged : Counts) (row : List Cell) → deltas_of row (reattributed old new column attribute (row_delta_at was staged (front row)))
      ≡ row_delta_between row (cond (is_row row (with_attribute old column attribute (front row))) (was (front row)) 0) (cond (is_row row (with_attribute new column attribute (front row))) (staged (front row)) 0)
  reattributed_row_delta was staged row = by (is_row before after) refl
    where
      before : List Cell
      before = with_attribute old column attribute (front row)

      after : List Cell
      after = with_attribute new column attribute (front row)

      m : ℕ
      m = was (front row)

      n : ℕ
      n = staged (front row)

      one : (a : Bool) → is_row row after ≡ a → cond a (row_delta_between after m n) [] ≡ row_delta_between row (cond a m 0) (cond a n 0)
      one true is = ap (λ r. row_delta_between r m n) (sym (same_row row after is))
      one false is = refl

      two : (a b : Bool) → is_row row before ≡ a → is_row row after ≡ b → is_row before after ≡ false
          → cond a (row_delta_between before m 0) [] ++ cond b (row_delta_between after 0 n) [] ≡ row_delta_between row (cond a m 0) (cond b n 0)
      two true true is other apart =
          absurd (true≢false (sym (is_row_if before after (sym (same_row row before is) ∙ same_row row after other)) ∙ apart))
      two true false is other apart = append-nil (row_delta_between before m 0) ∙ ap (λ r. row_delta_between r m 0) (sym (same_row row before is))
      two false true is other apart = ap (λ r. row_delta_between r 0 n) (sym (same_row row after other))
      two false false is other apart = refl

      by : (b : Bool) → is_row before after ≡ b → deltas_of row (cond b (row_delta_between after m n) (row_delta_between before m 0 ++ row_delta_between after 0 n))
          ≡ row_delta_between row (cond (is_row row before) m 0) (cond (is_row row after) n 0)
      by true is =
          deltas_between row after m n
          ∙ one (is_row row after) refl
          ∙ ap (λ r. row_delta_between row (cond (is_row row r) m 0) (cond (is_row row after) n 0)) (sym (same_row before after is))
      by false is =
          filter-append (λ s. is_row row s.row) (row_delta_between before m 0) (row_delta_between after 0 n)
          ∙ ap (λ made. made ++ deltas_of row (row_delta_between after 0 n)) (deltas_between row before m 0)
          ∙ ap (λ made. cond (is_row row before) (row_delta_between before m 0) [] ++ made) (deltas_between row after 0 n)
          ∙ two (is_row row before) (is_row row after) refl refl is
