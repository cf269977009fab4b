-- The rows of a semi join, by the numbers of the keys.
use Rattle.std.proofs.Common.{◌≡◌, ℕ, ◌+◌, ◌<◌, ◌≤◌, Bool, true, false, cond, List, [], ◌∷◌, Option, Some, None, refl, sym, ap, subst, ◌∙◌, length, map, arith}
use Rattle.std.specs.Prelude.{count_by, nat_lt, ◌||◌}
use Rattle.std.specs.List.{list_any}
use Rattle.std.proofs.lemmas.List.Elements.{All-map, All-weaker}
use Rattle.std.proofs.lemmas.List.Sums.{sum_by-cons}
use Rattle.cy_values.specs.declared.rows.Cell.{Cell}
use Rattle.cy_values.specs.Bag.{count_of}
use Rattle.cy_graph.specs.Graph.{Content}
use Rattle.cy_values.specs.Same.{is_row}
use Rattle.cy_values.proofs.Booleans.{or_true}
use Rattle.cy_values.proofs.SameRows.{same_row}
use Rattle.cy_network_memory.specs.Counts.{Counts}
use Rattle.cy_planner_algebra.specs.declared.operators.Keeping.{Keeping}
use Rattle.cy_planner_algebra.specs.declared.operators.KeyColumns.{KeyColumns}
use Rattle.cy_planner_algebra.specs.Keys.{key_of, meet}
use Rattle.cy_planner_algebra.specs.Meaning.{each_once, has_partner, is_among, semi_joined, stays}
use Rattle.cy_planner_algebra.specs.Plans as plan
use Rattle.cy_planner_algebra.specs.Plans.{Plan, width}
use Rattle.cy_planner_algebra.specs.WellFormed.{IsKeyBetween, IsWellFormed}
use Rattle.cy_planner_algebra.proofs.Counts.{count_passing}
use Rattle.cy_network_operators.specs.Deltas.{HaveColumns, IsDelta, counts, rows_at}
use Rattle.cy_network_memory.specs.declared.memory.RowDelta.{RowDelta}
use Rattle.cy_network_operators.proofs.PlanLemmas.{parts_wide}
use Rattle.cy_network_operators.proofs.DeltaLemmas.{delta_alike}
use Rattle.cy_network_counts.specs.Semi.{numbers_of_keys}
use Rattle.cy_network_counts.specs.internal.SemiKeys.{kept_counts}
use Rattle.cy_network_counts.proofs.Naturals.{positive}

-- a row that passes and is among others is one of them that passes
passing_among : (p : List Cell → Bool) (x : List Cell) (xs : List (List Cell)) → p x ≡ true → is_among x xs ≡ true → list_any p xs ≡ true
passing_among p x [] passes among = among
passing_among p x (y ∷ xs) passes among = by (passing_among p x xs passes) (is_row x y) refl among
  where
    by : (is_among x xs ≡ true → list_any p xs ≡ true) → (b : Bool) → is_row x y ≡ b → (b || is_among x xs) ≡ true → (p y || list_any p xs) ≡ true
    by rest true same h = ap (λ b. b || list_any p xs) (ap p (sym (same_row x y same)) ∙ passes)
    by rest false other h = ap (λ b. p y || b) (rest h) ∙ or_true (p y)

-- some of the different rows pass where some row does
some_once : (p : List Cell → Bool) (xs : List (List Cell)) → nat_lt 0 (count_by p (each_once xs)) ≡ list_any p xs
some_once p [] = refl
some_once p (x ∷ xs) = by (some_once p xs) (is_among x xs) refl
  where
    there : (b : Bool) → p x ≡ b → is_among x xs ≡ true → list_any p xs ≡ (b || list_any p xs)
    there true passes among = passing_among p x xs passes among
    there false passes among = refl

    counted : nat_lt 0 (count_by p (each_once xs)) ≡ list_any p xs → (b : Bool) → nat_lt 0 (cond b 1 0 + count_by p (each_once xs)) ≡ (b || list_any p xs)
    counted rest true = positive (1 + count_by p (each_once xs)) (omega arith)
    counted rest false = ap (λ n. nat_lt 0 n) (let e : 0 + count_by p (each_once xs) ≡ count_by p (each_once xs) = omega arith in e) ∙ rest

    by : nat_lt 0 (count_by p (each_once xs)) ≡ list_any p xs → (b : Bool) → is_among x xs ≡ b → nat_lt 0 (count_by p (cond b (each_once xs) (x ∷ each_once xs))) ≡ (p x || list_any p xs)
    by rest true among = rest ∙ there (p x) refl among
    by rest false among = ap (λ n. nat_lt 0 n) (sum_by-cons (λ y. cond (p y) 1 0) x (each_once xs)) ∙ counted rest (p x)

module _ (keys : List KeyColumns) (keeping : Keeping) where
  abbrev left_columns : List ℕ
  left_columns = map (λ (k : KeyColumns). k.left) keys

  -- what the numbers of the keys keep is the semi join
  pub semi_counts : (lefts rights : List (List Cell)) (left numbers : Counts) → left ≡ counts lefts → numbers ≡ numbers_of_keys keys rights → (row : List Cell)
      → kept_counts left_columns keeping numbers left row ≡ counts (semi_joined keys keeping lefts rights) row
  semi_counts lefts rights left numbers is_left is_numbers row =
      ap (λ (f : Counts). kept_counts left_columns keeping f left row) is_numbers
      ∙ ap (λ (f : Counts). kept_counts left_columns keeping (numbers_of_keys keys rights) f row) is_left
      ∙ ap (λ b. cond (stays keeping b) (count_of row lefts) 0) (some_once (meet keys row) rights)
      ∙ sym (count_passing (λ l. stays keeping (has_partner keys rights l)) row lefts)

  pub semi_joined_delta : (left left_now numbers numbers_now : Counts) (joined : List RowDelta) → IsDelta (kept_counts left_columns keeping numbers left) (kept_counts left_columns keeping numbers_now left_now) joined
      → (lefts lefts_now rights rights_now : List (List Cell)) → left ≡ counts lefts → left_now ≡ counts lefts_now → numbers ≡ numbers_of_keys keys rights → numbers_now ≡ numbers_of_keys keys rights_now
      → IsDelta (counts (semi_joined keys keeping lefts rights)) (counts (semi_joined keys keeping lefts_now rights_now)) joined
  semi_joined_delta left left_now numbers numbers_now joined delta lefts lefts_now rights rights_now a b c d =
      delta_alike (kept_counts left_columns keeping numbers left) (kept_counts left_columns keeping numbers_now left_now) (counts (semi_joined keys keeping lefts rights)) (counts (semi_joined keys keeping lefts_now rights_now)) joined
      (semi_counts lefts rights left numbers a c) (semi_counts lefts_now rights_now left_now numbers_now b d) delta

-- no row counts more often than in the left part
pub kept_bounded : (columns : List ℕ) (keeping : Keeping) (numbers left : Counts) (most : ℕ) → ((row : List Cell) → left row ≤ most) → (row : List Cell) → kept_counts columns keeping numbers left row ≤ most
kept_bounded columns keeping numbers left most within row = by (stays keeping (nat_lt 0 (numbers (key_of columns row))))
  where
    by : (b : Bool) → cond b (left row) 0 ≤ most
    by true = within row
    by false = omega arith

-- ---- plans

pub semi_at : (graph : Option Content) (left right : Plan) (keys : List KeyColumns) (keeping : Keeping) → rows_at graph (plan.semi left right keys keeping) ≡ semi_joined keys keeping (rows_at graph left) (rows_at graph right)
semi_at None left right keys keeping = refl
semi_at (Some graph) left right keys keeping = refl

pub left_within : (graph other : Option Content) (left right : Plan) (keys : List KeyColumns) (keeping : Keeping) → IsWellFormed (plan.semi left right keys keeping)
    → HaveColumns (map (λ (k : KeyColumns). k.left) keys) (counts (rows_at graph left)) (counts (rows_at other left))
left_within graph other left right keys keeping good row some =
    All-map (λ column. column < length row) (λ (k : KeyColumns). k.left) keys
    (All-weaker (IsKeyBetween (width left) (width right)) (λ (k : KeyColumns). k.left < length row)
    (λ k is. subst (λ n. k.left < n) (sym (parts_wide graph other left good.0 row some)) is.0) keys good.2)
