-- What the parts with one part below them are asked, and what they give.
use Rattle.std.proofs.Common.{◌≡◌, ℕ, ◌≤◌, Bool, true, false, cond, refl, arith, inl, inr, List, [], ◌∷◌, ◌++◌, Option, Some, None, IfSome, filter, map, sym, ap, subst, ◌∙◌}
use Rattle.std.specs.Prelude.{flat_map}
use Rattle.std.specs.List.{All}
use Rattle.std.proofs.lemmas.List.Elements.{All-nil, All-tail}
use Rattle.cy_values.specs.declared.rows.Cell.{Cell}
use Rattle.cy_values.specs.Bag.{count_of}
use Rattle.cy_trees.specs.Trees.{Expression}
use Rattle.cy_graph.specs.Graph.{Content, IsGraph, State}
use Rattle.cy_expr.specs.Graphs.{are_different}
use Rattle.cy_expr.specs.Lookups.{IsNumbered}
use Rattle.cy_network_memory.specs.Counts.{Counts, greatest_count}
use Rattle.cy_network_counts.specs.Merges.{AreBounded, IsProjectChange, image}
use Rattle.cy_network_counts.proofs.PlanLemmas.{of_counted}
use Rattle.cy_planner_algebra.specs.declared.operators.Attribute.{Attribute}
use Rattle.cy_planner_algebra.specs.Plans as plan
use Rattle.cy_planner_algebra.specs.Plans.{Output, Plan}
use Rattle.cy_planner_algebra.specs.Parts.{parts}
use Rattle.cy_planner_algebra.specs.Expressions.{holds, projected, relationships_at}
use Rattle.cy_planner_algebra.specs.Meaning.{each_once, with_attribute}
use Rattle.cy_planner_algebra.specs.Sure.{HasCells, HasTruth, IsSure}
use Rattle.cy_network_memory.specs.declared.memory.RowDelta.{RowDelta}
use Rattle.cy_network_operators.specs.Deltas.{IsBounded, IsDelta, counts, counts_after, rows_at}
use Rattle.cy_network_operators.proofs.PlanLemmas.{different_at, filter_at, lookup_at, once_at, project_at, one_of_two as either}
use Rattle.cy_network_sources.specs.Changes.{Touches}
use Rattle.cy_network_parts.specs.Memories.{is_row_by_row, is_scan, none_where}
use Rattle.cy_network_parts.specs.internal.Upkeep.{IsDeltaOf, IsFed, IsOwnBegun, IsOwnDone, IsStep, content_of, state_of}
use Rattle.cy_network_operators.specs.Passing.{left_of, row_delta_if}
use Rattle.cy_planner_algebra.proofs.Counts.{count_passing}
use Rattle.cy_network_parts.specs.Parts.{first_below}
use Rattle.cy_network_changes.specs.internal.Passages.{AreTaken, keeps, kept}
use Rattle.cy_network_changes.proofs.PassageLemmas.{IsOver}
use Rattle.cy_network_changes.proofs.Shifted.{after_is, held_delta, numbered_at, of_deltas}
use Rattle.cy_network_parts.proofs.Slices.{same_at}
use Rattle.cy_network_parts.proofs.Steps.{old_content, old_graph, own_within}

-- ---- filters

sure_filter : (old : Option State) → IfSome old IsGraph → (p : Plan) (test : Expression) → IsSure (plan.filter p test) → All (HasTruth test) (rows_at (content_of old) p)
sure_filter None is p test sure = All-nil (HasTruth test)
sure_filter (Some s) is p test sure = (sure s is).1

pub filter_sure : (old : Option State) (now : State) (touches : Touches) (p : Plan) (test : Expression) (deltas : List RowDelta) → IsStep old now touches (plan.filter p test) → IsDeltaOf old now p deltas
    → All (λ s. HasTruth test s.row) deltas
filter_sure old now touches p test deltas step part =
    of_deltas (HasTruth test) (rows_at (content_of old) p) (rows_at (Some now.content) p) deltas part.delta
    (sure_filter old (old_graph old now touches step.change) p test step.sure) (sure_filter (Some now) step.change.graph_now p test step.sure)

pub filter_done : (old : Option State) (now : State) (p : Plan) (test : Expression) (deltas made : List RowDelta) (columns : List (List ℕ)) (was staged : List Counts)
    → ((before after : List (List Cell)) → IsDelta (counts before) (counts after) deltas → IsDelta (counts (filter (holds test) before)) (counts (filter (holds test) after)) made)
    → (All IsBounded deltas → All IsBounded made) → IsOwnBegun old (plan.filter p test) columns was staged → IsDeltaOf old now p deltas → IsOwnDone old now (plan.filter p test) staged made
filter_done old now p test deltas made columns was staged leads bounds begun part = record {
  change = record {
    delta =
        subst (λ rows. IsDelta (counts rows) (counts (rows_at (Some now.content) (plan.filter p test))) made) (sym (filter_at (content_of old) p test))
        (leads (rows_at (content_of old) p) (rows_at (Some now.content) p) part.delta);
    bounded = bounds part.bounded;
  };
  holds = begun.settled;
}

pub distinct_done : (old : Option State) (now : State) (p : Plan) (deltas made : List RowDelta) (columns : List (List ℕ)) (was staged : List Counts)
    → ((before after : List (List Cell)) → IsDelta (counts before) (counts after) deltas → IsDelta (counts (each_once before)) (counts (each_once after)) made)
    → All IsBounded made → IsOwnBegun old (plan.distinct p) columns was staged → IsDeltaOf old now p deltas → IsOwnDone old now (plan.distinct p) staged made
distinct_done old now p deltas made columns was staged leads bounds begun part = record {
  change = record {
    delta =
        subst (λ rows. IsDelta (counts rows) (counts (rows_at (Some now.content) (plan.distinct p))) made) (sym (once_at (content_of old) p))
        (leads (rows_at (content_of old) p) (rows_at (Some now.content) p) part.delta);
    bounded = bounds;
  };
  holds = begun.settled;
}

pub different_done : (old : Option State) (now : State) (p : Plan) (cells : List ℕ) (deltas made : List RowDelta) (columns : List (List ℕ)) (was staged : List Counts)
    → ((before after : List (List Cell)) → IsDelta (counts before) (counts after) deltas
    → IsDelta (counts (filter (λ row. are_different (relationships_at cells row)) before)) (counts (filter (λ row. are_different (relationships_at cells row)) after)) made)
    → (All IsBounded deltas → All IsBounded made) → IsOwnBegun old (plan.all_different p cells) columns was staged → IsDeltaOf old now p deltas
    → IsOwnDone old now (plan.all_different p cells) staged made
different_done old now p cells deltas made columns was staged leads bounds begun part = record {
  change = record {
    delta =
        subst (λ rows. IsDelta (counts rows) (counts (rows_at (Some now.content) (plan.all_different p cells))) made) (sym (different_at (content_of old) p cells))
        (leads (rows_at (content_of old) p) (rows_at (Some now.content) p) part.delta);
    bounded = bounds part.bounded;
  };
  holds = begun.settled;
}

-- ---- projections

sure_project : (old : Option State) → IfSome old IsGraph → (p : Plan) (outputs : List Output) → IsSure (plan.project p outputs) → All (HasCells outputs) (rows_at (content_of old) p)
sure_project None is p outputs sure = All-nil (HasCells outputs)
sure_project (Some s) is p outputs sure = (sure s is).1

pub project_sure : (old : Option State) (now : State) (touches : Touches) (p : Plan) (outputs : List Output) (deltas : List RowDelta) → IsStep old now touches (plan.project p outputs) → IsDeltaOf old now p deltas
    → All (λ s. HasCells outputs s.row) deltas
project_sure old now touches p outputs deltas step part =
    of_deltas (HasCells outputs) (rows_at (content_of old) p) (rows_at (Some now.content) p) deltas part.delta
    (sure_project old (old_graph old now touches step.change) p outputs step.sure) (sure_project (Some now) step.change.graph_now p outputs step.sure)

-- a row in whose columns no relationship stands twice counts as often among those that are kept
count_kept : (graph : Option Content) (q : Plan) (columns : List ℕ) (row : List Cell) → keeps columns row ≡ true → count_of row (rows_at graph (plan.all_different q columns)) ≡ count_of row (rows_at graph q)
count_kept graph q columns row keep =
    ap (count_of row) (different_at graph q columns) ∙ count_passing (keeps columns) row (rows_at graph q) ∙ ap (λ b. cond b (count_of row (rows_at graph q)) 0) keep

-- the rows below a projection have the cells that it makes
pub images_taken : (old : Option State) (now : State) (touches : Touches) (p : Plan) (outputs : List Output) → IsStep old now touches (plan.project p outputs)
    → AreTaken old now p (λ row. HasCells outputs row × All IsNumbered row)
images_taken old now touches p outputs step row some =
    let first = old_graph old now touches step.change in
    let before = rows_at (content_of old) p in
    let after = rows_at (Some now.content) p in
    either (count_of row before) (count_of row after) some (HasCells outputs row × All IsNumbered row)
    (λ here. (
      of_counted (HasCells outputs) before (sure_project old first p outputs step.sure) row here,
      of_counted (λ r. All IsNumbered r) before (numbered_at old first p) row here,
    ))
    (λ there. (
      of_counted (HasCells outputs) after (sure_project (Some now) step.change.graph_now p outputs step.sure) row there,
      of_counted (λ r. All IsNumbered r) after (numbered_at (Some now) step.change.graph_now p) row there,
    ))

-- and with a test in between
over_taken_at : (old : Option State) (now : State) (touches : Touches) (q : Plan) (columns : List ℕ) (outputs : List Output) → IsStep old now touches (plan.project (plan.all_different q columns) outputs)
    → AreTaken old now q (λ row. keeps columns row ≡ true → HasCells outputs row × All IsNumbered row)
over_taken_at old now touches q columns outputs step row some keep =
    let r : Plan = plan.all_different q columns in
    let first = count_kept (content_of old) q columns row keep in
    let second = count_kept (Some now.content) q columns row keep in
    images_taken old now touches r outputs step row (omega (arith, some, first, second))

pub over_taken : (old : Option State) (now : State) (touches : Touches) (q : Plan) (columns : List ℕ) (above : Plan) (outputs : List Output) → above ≡ plan.project (first_below above) outputs → IsOver above columns q
    → IsStep old now touches above → AreTaken old now q (λ row. keeps columns row ≡ true → HasCells outputs row × All IsNumbered row)
over_taken old now touches q columns above outputs is over step = elim over [
  | inl right ↦ λ row some keep. images_taken old now touches q outputs (subst (IsStep old now touches) (is ∙ ap (λ p. plan.project p outputs) right.0) step) row some
  | inr test ↦ over_taken_at old now touches q columns outputs (subst (IsStep old now touches) (is ∙ ap (λ p. plan.project p outputs) test) step)
]

-- what is left of row deltas are the images of those that are kept
pub left_images : (columns : List ℕ) (outputs : List Output) (deltas : List RowDelta)
    → flat_map (left_of (λ row. cond (keeps columns row) (Some (projected outputs row)) None)) deltas ≡ map (image (projected outputs)) (kept columns deltas)
left_images columns outputs [] = refl
left_images columns outputs (s ∷ deltas) = by (keeps columns s.row) (left_images columns outputs deltas)
  where
    rest : List RowDelta
    rest = flat_map (left_of (λ row. cond (keeps columns row) (Some (projected outputs row)) None)) deltas

    by : (b : Bool) → rest ≡ map (image (projected outputs)) (kept columns deltas)
        → row_delta_if (cond b (Some (projected outputs s.row)) None) s.before s.after ++ rest ≡ map (image (projected outputs)) (cond b (s ∷ kept columns deltas) (kept columns deltas))
    by true more = ap (λ xs. image (projected outputs) s ∷ xs) more
    by false more = more

module _ {old : Option State} {now : State} {touches : Touches} {p : Plan} {outputs : List Output} {deltas : List RowDelta} {key : List ℕ} {was staged : Counts}
    (fed : IsFed old now touches (plan.project p outputs) (key ∷ []) (was ∷ []) (staged ∷ []) deltas) (kept : is_row_by_row p outputs ≡ false) where
  project_held : was ≡ counts (rows_at (content_of old) (plan.project p outputs))
  project_held = same_at was (was ∷ []) (counts (rows_at (content_of old) (plan.project p outputs)) ∷ []) 0
      (fed.own.held ∙ ap (λ so. none_where so (counts (rows_at (content_of old) (plan.project p outputs)) ∷ [])) kept)

  pub project_settled : staged ≡ was
  project_settled = same_at staged (staged ∷ []) (counts (rows_at (content_of old) (plan.project p outputs)) ∷ []) 0
      (fed.own.settled ∙ ap (λ so. none_where so (counts (rows_at (content_of old) (plan.project p outputs)) ∷ [])) kept) ∙ sym project_held

  pub project_within : AreBounded was
  project_within = subst AreBounded (sym project_held) (own_within (content_of old) (plan.project p outputs) fed.own.within)

  pub project_change : IsProjectChange outputs was deltas (rows_at (content_of old) p) (rows_at (Some now.content) p)
  project_change = record { delta = fed.below.delta; held = project_held ∙ ap counts (project_at (content_of old) p outputs) }

  pub project_done : (made : List RowDelta) (staged_now : Counts)
      → IsDelta (counts (map (projected outputs) (rows_at (content_of old) p))) (counts (map (projected outputs) (rows_at (Some now.content) p))) made
      → staged_now ≡ counts (map (projected outputs) (rows_at (Some now.content) p)) → All IsBounded made → IsOwnDone old now (plan.project p outputs) (staged_now ∷ []) made
  project_done made staged_now leads holds_now bounds = record {
    change = record {
      delta = subst (λ rows. IsDelta (counts rows) (counts (rows_at (Some now.content) (plan.project p outputs))) made) (sym (project_at (content_of old) p outputs)) leads;
      bounded = bounds;
    };
    holds = ap (λ n. n ∷ []) holds_now ∙ sym (ap (λ so. none_where so (counts (rows_at (Some now.content) (plan.project p outputs)) ∷ [])) kept);
  }

-- ---- look-ups

module _ {old : Option State} {now : State} {touches : Touches} {p : Plan} {column : ℕ} {attribute : Attribute} {deltas : List RowDelta} {key : List ℕ} {was staged : Counts}
    (fed : IsFed old now touches (plan.lookup p column attribute) (key ∷ []) (was ∷ []) (staged ∷ []) deltas) (kept : is_scan (plan.lookup p column attribute) ≡ false) where
  pub lookup_keyed : key ≡ column ∷ []
  lookup_keyed = same_at key (key ∷ []) ((column ∷ []) ∷ []) 0 (fed.own.keyed ∙ ap (λ so. none_where so ((column ∷ []) ∷ [])) kept)

  pub lookup_held : was ≡ counts (rows_at (content_of old) p)
  lookup_held = same_at was (was ∷ []) (counts (rows_at (content_of old) p) ∷ []) 0 (fed.own.held ∙ ap (λ so. none_where so (counts (rows_at (content_of old) p) ∷ [])) kept)

  pub lookup_settled : staged ≡ was
  lookup_settled = same_at staged (staged ∷ []) (counts (rows_at (content_of old) p) ∷ []) 0 (fed.own.settled ∙ ap (λ so. none_where so (counts (rows_at (content_of old) p) ∷ [])) kept) ∙ sym lookup_held

  pub lookup_leads : IsDelta was (counts_after deltas was) deltas
  lookup_leads = held_delta was (rows_at (content_of old) p) (rows_at (Some now.content) p) deltas lookup_held fed.below.delta

  pub lookup_counted : (row : List Cell) → was row ≡ count_of row (rows_at (content_of old) p)
  lookup_counted row = ap (λ f. f row) lookup_held

  pub lookup_within : (row : List Cell) → was row ≤ greatest_count
  lookup_within =
      subst AreBounded (sym lookup_held)
      (own_within (content_of old) p (All-tail (λ part. AreBounded (counts (rows_at (content_of old) part))) (plan.lookup p column attribute) (parts p) fed.own.within))

  pub lookup_done : (made : List RowDelta) (staged_now : Counts)
      → IsDelta (counts (map (with_attribute (state_of old).content column attribute) (rows_at (content_of old) p))) (counts (map (with_attribute now.content column attribute) (rows_at (Some now.content) p))) made
      → staged_now ≡ counts_after deltas was → All IsBounded made → IsOwnDone old now (plan.lookup p column attribute) (staged_now ∷ []) made
  lookup_done made staged_now leads holds_now bounds = record {
    change = record {
      delta =
          subst (λ rows. IsDelta (counts rows) (counts (rows_at (Some now.content) (plan.lookup p column attribute))) made)
          (ap (λ content. map (with_attribute content column attribute) (rows_at (content_of old) p)) (sym (old_content old)) ∙ sym (lookup_at (content_of old) p column attribute)) leads;
      bounded = bounds;
    };
    holds = ap (λ n. n ∷ []) (holds_now ∙ after_is was (rows_at (content_of old) p) (rows_at (Some now.content) p) deltas lookup_held fed.below.delta)
        ∙ sym (ap (λ so. none_where so (counts (rows_at (Some now.content) p) ∷ [])) kept);
  }
