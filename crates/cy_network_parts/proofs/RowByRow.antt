-- A projection that keeps all columns of the rows below it makes different rows of different ones.
use Rattle.std.proofs.Common.{◌≡◌, ℕ, ◌+◌, ◌<◌, ◌||◌, Bool, true, false, Option, Some, None, List, [], ◌∷◌, length, get_or, refl, sym, ap, subst, ◌∙◌, arith, true≢false, map}
use Rattle.std.specs.Prelude.{IfSome, is_some}
use Rattle.std.proofs.lemmas.List.{ext_get_or, length-map}
use Rattle.std.proofs.lemmas.List.Folds.{list_all_at}
use Rattle.std.proofs.lemmas.List.FromFn.{get_or-range_with_len, length-range_with_len}
use Rattle.cy_values.specs.declared.rows.Cell.{Cell}
use Rattle.cy_network_relevance.specs.Trails as trails
use Rattle.cy_network_relevance.specs.Trails.{tells_apart}
use Rattle.cy_network_counts.specs.Merges.{IsOneToOne, IsOneToOneOn, all_columns}
use Rattle.cy_planner_algebra.specs.Expressions.{cell_at, null, projected}
use Rattle.cy_planner_algebra.specs.Plans as plan
use Rattle.cy_planner_algebra.specs.Plans.{Output, Plan, width}
use Rattle.cy_network_memory.specs.declared.memory.RowDelta.{RowDelta}
use Rattle.cy_network_operators.specs.Deltas.{AreWide, IsBounded, IsDelta, counts, rows_at}
use Rattle.std.specs.List.{All}
use Rattle.cy_graph.specs.Graph.{IsGraph, State}
use Rattle.cy_network_operators.proofs.PlanLemmas.{parts_wide, project_at}
use Rattle.cy_network_sources.specs.Changes.{Touches}
use Rattle.cy_network_sources.specs.Scans.{kept_at}
use Rattle.cy_network_sources.proofs.Through.{kept_cell}
use Rattle.cy_network_parts.proofs.Steps.{old_graph}
use Rattle.cy_network_parts.specs.Memories.{is_row_by_row, is_scan, keeps_all, own_contents, own_keys, tells_rows, none_where}
use Rattle.cy_network_parts.specs.Parts.{first_below}
use Rattle.cy_network_parts.specs.internal.Upkeep.{IsDeltaOf, IsStep, content_of}

-- each column is kept
each_kept : (number : ℕ) (outputs : List Output) → keeps_all number outputs ≡ true → (k : ℕ) → k < number → is_some (kept_at k outputs) ≡ true
each_kept number outputs all k less = by (is_some (kept_at k outputs)) refl
  where
    at : get_or (all_columns number) k 0 ≡ k
    at = get_or-range_with_len 0 number k 0 less ∙ (let e : 0 + k ≡ k = omega arith in e)

    by : (b : Bool) → is_some (kept_at k outputs) ≡ b → is_some (kept_at k outputs) ≡ true
    by true is = is
    by false is =
        let lost : keeps_all number outputs ≡ false =
        list_all_at (λ column. is_some (kept_at column outputs)) (all_columns number) k 0 (let n = length-range_with_len 0 number in omega (arith, n, less)) (ap (λ c. is_some (kept_at c outputs)) at ∙ is) in
        absurd (true≢false (sym all ∙ lost))

-- what stands in a column that is kept stands among what is made
same_cell : (outputs : List Output) (row other : List Cell) (k : ℕ) → is_some (kept_at k outputs) ≡ true → projected outputs row ≡ projected outputs other → cell_at row k ≡ cell_at other k
same_cell outputs row other k kept same = by (kept_at k outputs) refl
  where
    by : (found : Option ℕ) → kept_at k outputs ≡ found → cell_at row k ≡ cell_at other k
    by None none = absurd (true≢false (sym kept ∙ ap is_some none))
    by (Some place) is = sym (kept_cell outputs k place row is) ∙ ap (λ cells. cell_at cells place) same ∙ kept_cell outputs k place other is

pub one_to_one : (number : ℕ) (outputs : List Output) → keeps_all number outputs ≡ true → IsOneToOne number outputs
one_to_one number outputs all row other row_wide other_wide same =
    ext_get_or null row other (row_wide ∙ sym other_wide) (λ k less. same_cell outputs row other k (each_kept number outputs all k (subst (λ n. k < n) row_wide less)) same)

-- how a change goes through it
pub rearranged : (old : Option State) (now : State) (touches : Touches) (p : Plan) (outputs : List Output) (deltas made : List RowDelta) → keeps_all (width p) outputs ≡ true
    → ((number : ℕ) (before after : List (List Cell)) → IsOneToOne number outputs → AreWide number (counts before) (counts after) → IsDelta (counts before) (counts after) deltas
    → IsDelta (counts (map (projected outputs) before)) (counts (map (projected outputs) after)) made)
    → (All IsBounded deltas → All IsBounded made) → IsStep old now touches (plan.project p outputs) → IsDeltaOf old now p deltas → IsDeltaOf old now (plan.project p outputs) made
rearranged old now touches p outputs deltas made all leads bounds step part = record {
  delta =
      subst (λ rows. IsDelta (counts rows) (counts (rows_at (Some now.content) (plan.project p outputs))) made) (sym (project_at (content_of old) p outputs))
      (leads (width p) (rows_at (content_of old) p) (rows_at (Some now.content) p) (one_to_one (width p) outputs all) (parts_wide (content_of old) (Some now.content) p step.well_formed.0) part.delta);
  bounded = bounds part.bounded;
}

-- ---- trails that are told apart

-- on the graph of a change, if there is one
told_at : (old : Option State) → IfSome old IsGraph → (p : Plan) (outputs : List Output) → trails.TellsRowsApart p outputs → IsOneToOneOn (rows_at (content_of old) p) outputs
told_at None is p outputs one = λ row other here there same. absurd (omega (arith, here))
told_at (Some s) is p outputs one = one s is

pub gathered : (old : Option State) (now : State) (touches : Touches) (p : Plan) (outputs : List Output) (deltas made : List RowDelta) → trails.TellsRowsApart p outputs
    → ((before after : List (List Cell)) → IsOneToOneOn before outputs → IsOneToOneOn after outputs → IsDelta (counts before) (counts after) deltas
    → IsDelta (counts (map (projected outputs) before)) (counts (map (projected outputs) after)) made)
    → (All IsBounded deltas → All IsBounded made) → IsStep old now touches (plan.project p outputs) → IsDeltaOf old now p deltas → IsDeltaOf old now (plan.project p outputs) made
gathered old now touches p outputs deltas made one leads bounds step part = record {
  delta =
      subst (λ rows. IsDelta (counts rows) (counts (rows_at (Some now.content) (plan.project p outputs))) made) (sym (project_at (content_of old) p outputs))
      (leads (rows_at (content_of old) p) (rows_at (Some now.content) p) (told_at old (old_graph old now touches step.change) p outputs one) (one now step.change.graph_now) part.delta);
  bounded = bounds part.bounded;
}

-- one that doesn't tell trails apart keeps all columns
pub other_told : (p : Plan) (outputs : List Output) → tells_rows p outputs ≡ true → tells_apart p outputs ≡ false → keeps_all (width p) outputs ≡ true
other_told p outputs tells other = by (keeps_all (width p) outputs) (tells_apart p outputs) tells other
  where
    by : (a b : Bool) → (a || b) ≡ true → b ≡ false → a ≡ true
    by true b either other = refl
    by false b either other = absurd (true≢false (sym either ∙ other))

-- ---- whether it is gone through row by row

-- what the code finds is whether it tells the rows apart
module _ (p below : Plan) (outputs : List Output) (is : p ≡ plan.project below outputs) (unscanned : is_scan p ≡ false) (found : Bool) (told : found ≡ tells_rows below outputs) where
  pub row_by_row_is : is_row_by_row below outputs ≡ found
  row_by_row_is = ap (λ q. is_scan q || tells_rows below outputs) (sym is) ∙ ap (λ so. so || tells_rows below outputs) unscanned ∙ sym told

  pub keys_are : own_keys p ≡ none_where found (all_columns (length outputs) ∷ [])
  keys_are = ap own_keys is ∙ ap (λ so. none_where so (all_columns (length outputs) ∷ [])) row_by_row_is

  pub contents_are : (rows : Plan → List (List Cell)) → own_contents rows p ≡ none_where found (counts (rows p) ∷ [])
  contents_are rows =
      ap (own_contents rows) is ∙ ap (λ so. none_where so (counts (rows (plan.project below outputs)) ∷ [])) row_by_row_is
      ∙ ap (λ q. none_where found (counts (rows q) ∷ [])) (sym is)

pub none_unless : {A : Type 0} (so : Bool) (x : A) → length (none_where so (x ∷ [])) ≡ 0 → so ≡ true
none_unless true x none = refl
none_unless false x none = absurd (omega (arith, none))

pub some_unless : {A : Type 0} (so : Bool) (x : A) → 0 < length (none_where so (x ∷ [])) → so ≡ false
some_unless true x some = absurd (omega (arith, some))
some_unless false x some = refl

-- a projection without memory that is no scan tells the rows apart, and one with a memory isn't gone through row by row
module _ {M : Type 0} (key_columns : M → List ℕ) (own : List M) (p : Plan) (outputs : List Output) (is : p ≡ plan.project (first_below p) outputs) (keyed : map key_columns own ≡ own_keys p) where
  long : length own ≡ length (none_where (is_row_by_row (first_below p) outputs) (all_columns (length outputs) ∷ []))
  long = sym (length-map own key_columns) ∙ ap length keyed ∙ ap (λ q. length (own_keys q)) is

  pub with_memory : 0 < length own → is_row_by_row (first_below p) outputs ≡ false
  with_memory some = some_unless (is_row_by_row (first_below p) outputs) (all_columns (length outputs)) (subst (λ n. 0 < n) long some)

  module _ (unscanned : is_scan p ≡ false) (none : length own ≡ 0) where
    pub without_memory : tells_rows (first_below p) outputs ≡ true
    without_memory =
        sym (row_by_row_is p (first_below p) outputs is unscanned (tells_rows (first_below p) outputs) refl)
        ∙ none_unless (is_row_by_row (first_below p) outputs) (all_columns (length outputs)) (sym long ∙ none)

    pub without_contents : (rows : Plan → List (List Cell)) → own_contents rows p ≡ []
    without_contents rows =
        contents_are p (first_below p) outputs is unscanned (tells_rows (first_below p) outputs) refl rows
        ∙ ap (λ so. none_where so (counts (rows p) ∷ [])) without_memory
