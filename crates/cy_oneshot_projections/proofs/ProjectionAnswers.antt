-- What the functions that project rows answer, from what their parts answer.
use Rattle.std.proofs.Common.{◌≡◌, inl, inr, zero, suc, ◌+◌, ◌<◌, true, false, cond, Bool, List, [], ◌∷◌, ◌++◌, append_assoc, get_or, length, map, take, drop, refl, sym, ap, subst, ◌∙◌, arith}
use Rattle.std.specs.Prelude.{ℕ, Result, Ok, Err}
use Rattle.std.specs.Cmp.{IsTotalOrder}
use Rattle.std.proofs.lemmas.List.{map_more, map_push}
use Rattle.cy_values.specs.declared.rows.Cell.{Cell}
use Rattle.cy_values.specs.Order.{row_cmp}
use Rattle.cy_trees.specs.Trees.{Projection}
use Rattle.cy_scope_kinds.specs.Aggregates.{has_aggregates}
use Rattle.cy_graph.specs.Graph.{Content}
use Rattle.cy_expr.specs.declared.faults.EvalFault.{EvalFault}
use Rattle.cy_expr.specs.Faults.{on_one}
use Rattle.cy_oneshot_projections.specs.declared.order.Keyed as coded_keyed
use Rattle.cy_oneshot_meaning.specs.Groups.{aggregated}
use Rattle.cy_oneshot_meaning.specs.Order.{each_once, in_order, keyed_order}
use Rattle.cy_oneshot_patterns.specs.Outcomes.{gathered}
use Rattle.cy_oneshot_meaning.specs.Projection.{Projected, cut, item_rows, limited, project, projected, skipped, with_columns_alone}
use Rattle.cy_oneshot_meaning.specs.internal.Answers.{IsAnswer, on_value}
use Rattle.cy_oneshot_meaning.specs.internal.Seen.{projected_of, seen_by}
use Rattle.cy_oneshot_projections.specs.internal.Keys.{keyed_of}
use Rattle.cy_oneshot_meaning.specs.internal.Permuted.{Alike, IsAlikeAnswer}
use Rattle.cy_oneshot_meaning.proofs.Joined.{alike_itself}
use Rattle.cy_oneshot_projections.proofs.Projections.{distinct_seen, groups_seen, rows_seen}
use Rattle.cy_oneshot_meaning.proofs.SeenRows.{expressions, projects_are}

-- one more of what is made of things one after another
pub made_more : {X Y Z : Type 0} (f : X → Z) (g : Y → Z) (so_far next : List X) (x : X) (ys : List Y) (i : ℕ) (y : Y) → i < length ys → y ≡ get_or ys i y
    → next ≡ so_far ++ x ∷ [] → f x ≡ g y → map f so_far ≡ map g (take i ys) → map f next ≡ map g (take (i + 1) ys)
made_more f g so_far next x ys i y less is step same before =
    ap (map f) step
    ∙ map_push f so_far x
    ∙ (λ j. before j ++ (same ∙ ap g is) j ∷ [])
    ∙ sym (map_more g ys i y less)

-- rows that were put in order and cut
pub cut_is : (p : Projection) (descending : List Bool) (keyed sorted : List coded_keyed.Keyed) (made : List (List Cell)) → descending ≡ map (λ k. k.descending) p.order
    → map (λ k. k.row) sorted ≡ map (λ k. k.row) (in_order (keyed_order descending) (map keyed_of keyed))
    → made ≡ limited p.limit (skipped p.skip (map (λ k. k.row) sorted)) → cut p (map keyed_of keyed) ≡ made
cut_is p descending keyed sorted made are order is =
    ap (λ (flags : List Bool). limited p.limit (skipped p.skip (map (λ k. k.row) (in_order (keyed_order flags) (map keyed_of keyed))))) (sym are)
    ∙ ap (λ (rows : List (List Cell)). limited p.limit (skipped p.skip rows)) (sym order)
    ∙ sym is

-- one row more, or one less to leave out
pub skips_on : (rows next whole : List (List Cell)) (n m : ℕ) (x : List Cell) (xs left : List (List Cell)) → left ≡ x ∷ xs → (0 < n → (next ≡ rows) × (m + 1 ≡ n))
    → (n ≡ 0 → (next ≡ rows ++ x ∷ []) × (m ≡ 0)) → rows ++ drop n left ≡ whole → next ++ drop m xs ≡ whole
skips_on rows next whole zero m x xs left are out added before =
    let step = added refl in
    (λ i. step.0 i ++ drop (step.1 i) xs) ∙ append_assoc rows (x ∷ []) xs ∙ ap (λ (l : List (List Cell)). rows ++ l) (sym are) ∙ before
skips_on rows next whole (suc k) m x xs left are out added before =
    let step = out (omega arith) in
    let fewer : m ≡ k = let e = step.1 in omega (arith, e) in
    (λ i. step.0 i ++ drop (fewer i) xs) ∙ ap (λ (l : List (List Cell)). rows ++ drop (suc k) l) (sym are) ∙ before

-- ---- items

module _ (graph : Content) (p : Projection) where
  abbrev items_if : List (List Cell) → Bool → Result (List Projected) EvalFault
  items_if rows aggregates = cond aggregates (on_one (λ made. Ok (map with_columns_alone made)) (aggregated graph p.items rows)) (gathered (map (project graph p.items) rows))

  groups_fail : (rows : List (List Cell)) (fault : EvalFault) → has_aggregates p ≡ true → aggregated graph p.items rows ≡ Err fault → item_rows graph p rows ≡ Err fault
  groups_fail rows fault aggregates wrong = ap (items_if rows) aggregates ∙ ap (λ (o : Result (List (List Cell)) EvalFault). on_one (λ made. Ok (map with_columns_alone made)) o) wrong

  rows_fail : (rows : List (List Cell)) (fault : EvalFault) → has_aggregates p ≡ false → gathered (map (seen_by graph (expressions p.items)) rows) ≡ Err fault → item_rows graph p rows ≡ Err fault
  rows_fail rows fault aggregates wrong = ap (items_if rows) aggregates ∙ projects_are graph p.items rows ∙ ap (on_value (map (projected_of (length p.items)))) wrong

module _ (graph : Content) (p : Projection) {A : Type 0} (view : A → List (List Cell)) where
  groups_answer_at : (rows : List (List Cell)) (r : Result A EvalFault) → has_aggregates p ≡ true → IsAlikeAnswer r view (aggregated graph p.items rows)
      → IsAlikeAnswer r (λ x. map (projected_of (length p.items)) (view x)) (item_rows graph p rows)
  groups_answer_at rows (Ok x) aggregates alike = groups_seen graph p rows (view x) aggregates alike
  groups_answer_at rows (Err fault) aggregates (inl wrong) = inl (groups_fail graph p rows fault aggregates wrong)
  groups_answer_at rows (Err fault) aggregates (inr none) = inr none

  -- the rows of groups
  pub groups_answer : (width : ℕ) (rows : List (List Cell)) (r : Result A EvalFault) → length p.items ≡ width → has_aggregates p ≡ true → IsAlikeAnswer r view (aggregated graph p.items rows)
      → IsAlikeAnswer r (λ x. map (projected_of width) (view x)) (item_rows graph p rows)
  groups_answer width rows r long aggregates alike =
      subst (λ n. IsAlikeAnswer r (λ x. map (projected_of n) (view x)) (item_rows graph p rows)) long (groups_answer_at rows r aggregates alike)

  rows_answer_at : (rows : List (List Cell)) (r : Result A EvalFault) → has_aggregates p ≡ false → IsAnswer r view (gathered (map (seen_by graph (expressions p.items)) rows))
      → IsAlikeAnswer r (λ x. map (projected_of (length p.items)) (view x)) (item_rows graph p rows)
  rows_answer_at rows (Ok x) aggregates is =
      subst (λ (o : Result (List Projected) EvalFault). Alike (Ok (map (projected_of (length p.items)) (view x))) o) (sym (rows_seen graph p rows (view x) aggregates is))
      (alike_itself (Ok (map (projected_of (length p.items)) (view x))))
  rows_answer_at rows (Err fault) aggregates (inl wrong) = inl (rows_fail graph p rows fault aggregates wrong)
  rows_answer_at rows (Err fault) aggregates (inr none) = inr none

  -- the items on each row
  pub rows_answer : (width : ℕ) (rows : List (List Cell)) (r : Result A EvalFault) → length p.items ≡ width → has_aggregates p ≡ false
      → IsAnswer r view (gathered (map (seen_by graph (expressions p.items)) rows)) → IsAlikeAnswer r (λ x. map (projected_of width) (view x)) (item_rows graph p rows)
  rows_answer width rows r long aggregates is =
      subst (λ n. IsAlikeAnswer r (λ x. map (projected_of n) (view x)) (item_rows graph p rows)) long (rows_answer_at rows r aggregates is)

-- DISTINCT, or not
pub distinct_answer : IsTotalOrder row_cmp → (graph : Content) (p : Projection) (width : ℕ) (rows seen made : List (List Cell)) → length p.items ≡ width → p.distinct ≡ true
    → Alike (Ok (map (projected_of width) seen)) (item_rows graph p rows) → made ≡ in_order row_cmp (each_once row_cmp (map (take width) seen))
    → Alike (Ok (map (projected_of width) made)) (projected graph p rows)
distinct_answer total graph p width rows seen made long distinct alike is =
    subst (λ (l : List (List Cell)). Alike (Ok (map (projected_of width) l)) (projected graph p rows)) (sym is)
    (subst (λ n. Alike (Ok (map (projected_of n) (in_order row_cmp (each_once row_cmp (map (take n) seen))))) (projected graph p rows)) long
    (distinct_seen total graph p rows seen distinct (subst (λ n. Alike (Ok (map (projected_of n) seen)) (item_rows graph p rows)) (sym long) alike)))
