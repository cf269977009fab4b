-- An outer join, and one whose right part was asked what its predicate asks of the right rows alone.
use Rattle.std.proofs.Common.{◌≡◌, ◌+◌, true, ◌&&◌, List, [], ◌∷◌, ◌++◌, drop, filter, length, refl, sym, ap, subst, ◌∙◌}
use Rattle.std.specs.Prelude.{Option, flat_map}
use Rattle.std.specs.List.{All, AllByRecursion}
use Rattle.std.proofs.lemmas.List.Elements.{All-append, All-cons, All-filter, All-head, All-tail}
use Rattle.std.proofs.Math.Seq.{drop-append_seam}
use Rattle.cy_values.specs.declared.rows.Cell.{Cell}
use Rattle.cy_values.proofs.Lists.{each_then}
use Rattle.cy_values.proofs.Booleans.{and_past}
use Rattle.cy_trees.specs.Trees.{Expression}
use Rattle.cy_graph.specs.Graph.{Content, State, IsGraph}
use Rattle.cy_expr.specs.Reading.{reads_columns}
use Rattle.cy_planner_algebra.specs.declared.operators.KeyColumns.{KeyColumns}
use Rattle.cy_planner_algebra.specs.Plans as plan
use Rattle.cy_planner_algebra.specs.Plans.{Plan, width}
use Rattle.cy_planner_algebra.specs.Expressions.{holds}
use Rattle.cy_planner_algebra.specs.Keys.{meet}
use Rattle.cy_planner_algebra.specs.Meaning.{is_partner, joined, or_nulls, paired, rows_of}
use Rattle.cy_planner_algebra.specs.Parts.{parts}
use Rattle.cy_planner_algebra.specs.Sure.{HasTruth, IsSureOn}
use Rattle.cy_planner_algebra.specs.WellFormed.{IsWellFormed}
use Rattle.cy_planner_algebra.specs.Within.{IsWithin}
use Rattle.cy_planner_rows.proofs.Lists.{all_of_each, each_of_all}
use Rattle.cy_planner_rows.proofs.OverRows.{IsLong, long_rows}
use Rattle.cy_planner_pushdown.proofs.Commuting.{right_sifted}
use Rattle.cy_planner_pushdown.proofs.Conjunctions.{sifted_both}
use Rattle.cy_planner_rewriting.proofs.Congruent.{all_split, same_within}
use Rattle.cy_planner.specs.internal.Standing.{StandsFor}
use Rattle.cy_planner_rows.specs.Conditions.{or_true}
use Rattle.cy_planner.specs.internal.SplitPredicates.{IsSplit}

flat_alike : {A B : Type 0} (P : A → Type 0) (f g : A → List B) → ((x : A) → P x → f x ≡ g x) → (xs : List A) → AllByRecursion P xs → flat_map f xs ≡ flat_map g xs
flat_alike P f g alike [] each = refl
flat_alike P f g alike (x ∷ xs) each = λ i. alike x each.0 i ++ flat_alike P f g alike xs each.1 i

module _ (left right made : Plan) (keys : List KeyColumns) (test : Expression) (rest : Option Expression)
    (well : IsWellFormed left) (reads : reads_columns test ≡ true) (is : IsSplit (width left) right test made rest) where
  abbrev before : Plan
  before = plan.outer left right keys test

  abbrev after : Plan
  after = plan.outer left made keys (or_true rest)

  partners : (graph : Content) (l : List Cell) → length l ≡ width left → (rows : List (List Cell)) → filter (is_partner keys (or_true rest) l) (filter (is.keeps graph) rows) ≡ filter (is_partner keys test l) rows
  partners graph l long rows =
      sifted_both (is.keeps graph) (is_partner keys (or_true rest) l) (is_partner keys test l)
      (λ r. ap (λ b. meet keys l r && b) (is.same reads graph l r long) ∙ and_past (meet keys l r) (is.keeps graph r) (holds (or_true rest) (l ++ r))) rows

  module _ (graph : State) (good : IsGraph graph) where
    abbrev lefts : List (List Cell)
    lefts = rows_of graph.content left

    abbrev rights : List (List Cell)
    rights = rows_of graph.content right

    found : (l : List Cell) → IsLong (width left) l
        → paired l (or_nulls (width made) (filter (is_partner keys (or_true rest) l) (rows_of graph.content made))) ≡ paired l (or_nulls (width right) (filter (is_partner keys test l) rights))
    found l long =
        let same : filter (is_partner keys (or_true rest) l) (rows_of graph.content made) ≡ filter (is_partner keys test l) rights =
        ap (filter (is_partner keys (or_true rest) l)) (is.rows graph good) ∙ partners graph.content l long rights in
        λ i. paired l (or_nulls (is.as_wide i) (same i))

    law_rows : rows_of graph.content after ≡ rows_of graph.content before
    law_rows =
        flat_alike (IsLong (width left)) (λ l. paired l (or_nulls (width made) (filter (is_partner keys (or_true rest) l) (rows_of graph.content made))))
        (λ l. paired l (or_nulls (width right) (filter (is_partner keys test l) rights))) found lefts (long_rows graph.content left well)

    kept_pairs : joined keys lefts (rows_of graph.content made) ≡ filter (λ row. is.keeps graph.content (drop (width left) row)) (joined keys lefts rights)
    kept_pairs =
        ap (joined keys lefts) (is.rows graph good)
        ∙ right_sifted (λ row. is.keeps graph.content (drop (width left) row)) (IsLong (width left)) (is.keeps graph.content) (meet keys)
        (λ l r long met. ap (is.keeps graph.content) (sym (ap (λ n. drop n (l ++ r)) (sym long) ∙ drop-append_seam l r))) rights lefts (long_rows graph.content left well)

    law_truths : All (HasTruth test) (joined keys lefts rights) → All (HasTruth (or_true rest)) (joined keys lefts (rows_of graph.content made))
    law_truths each =
        subst (λ rows. All (HasTruth (or_true rest)) rows) (sym kept_pairs)
        (All-filter (λ row. is.keeps graph.content (drop (width left) row)) (HasTruth (or_true rest)) (joined keys lefts rights)
        (all_of_each (HasTruth (or_true rest)) (joined keys lefts rights)
        (each_then (HasTruth test) (HasTruth (or_true rest)) is.truth (joined keys lefts rights) (each_of_all (HasTruth test) (joined keys lefts rights) each))))

    law_sure : IsSureOn graph.content before → IsSureOn graph.content after
    law_sure sure = (sure.0, is.sure graph good sure.1, law_truths sure.2)

    law_bounded : (tables : List (List (List Cell))) → All (IsWithin graph.content tables) (parts before) → All (IsWithin graph.content tables) (parts after)
    law_bounded tables each =
        let both = all_split (IsWithin graph.content tables) (parts left) (parts right) (All-tail (IsWithin graph.content tables) before (parts left ++ parts right) each) in
        All-cons (IsWithin graph.content tables) after (parts left ++ parts made)
        (same_within graph.content tables before after law_rows (All-head (IsWithin graph.content tables) before (parts left ++ parts right) each))
        (All-append (IsWithin graph.content tables) (parts left) (parts made) both.0 (is.bounded graph tables good both.1))

  pub outer_law : IsWellFormed after → StandsFor before after
  outer_law good = record {
    as_wide = ap (λ n. width left + n) is.as_wide;
    well_formed = λ before_good. good;
    rows = law_rows;
    sure = law_sure;
    bounded = λ graph tables held each. law_bounded graph held tables each;
  }
