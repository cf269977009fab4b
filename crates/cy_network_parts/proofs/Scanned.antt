-- Scans: they keep no memories, their rows are few, and what changes of them comes from the touched entities alone.
use Rattle.std.proofs.Common.{◌≡◌, ◌≢◌, ℕ, ◌<◌, ◌≤◌, ◌||◌, Bool, true, false, List, [], ◌∷◌, ◌++◌, Option, Some, None, IsSome, ◌⊎◌, inl, inr, filter, length, map, refl, sym, ap, subst, ◌∙◌, arith, true≢false}
use Rattle.std.specs.Prelude.{is_some}
use Rattle.std.specs.List.{All}
use Rattle.std.proofs.lemmas.List.Elements.{All-cons, All-nil}
use Rattle.cy_values.specs.declared.rows.Cell.{Cell}
use Rattle.cy_graph.specs.Graph.{Content, IsGraph, State}
use Rattle.cy_expr.specs.Graphs.{are_different}
use Rattle.cy_network_memory.specs.Counts.{Counts}
use Rattle.cy_network_counts.specs.Merges.{AreBounded, all_columns}
use Rattle.cy_planner_algebra.specs.Plans as plan
use Rattle.cy_planner_algebra.specs.Plans.{Output, Plan}
use Rattle.cy_planner_algebra.specs.Parts.{parts}
use Rattle.cy_planner_algebra.specs.Expressions.{holds, projected, relationships_at}
use Rattle.cy_planner_algebra.specs.Meaning.{rows_of, with_attribute}
use Rattle.cy_network_memory.specs.declared.memory.RowDelta.{RowDelta}
use Rattle.cy_network_memory.proofs.BucketMaps.{false_true}
use Rattle.cy_network_operators.specs.Deltas.{IsBounded, IsDelta, content_at, counts, rows_at}
use Rattle.cy_network_operators.proofs.PlanLemmas.{different_at, filter_at, lookup_at, nodes_at, project_at, rels_at}
use Rattle.cy_network_sources.specs.Changes.{Touches}
use Rattle.cy_network_sources.specs.Scans.{IsScan, column_over, if_this, kept, scan_column, scan_parts, scan_reads}
use Rattle.cy_network_parts.proofs.ScanFacts.{scan_few}
use Rattle.cy_network_parts.specs.Memories.{AreWithin, contents, is_scan, keys, own_contents, own_keys, tells_rows, none_where}
use Rattle.cy_network_parts.specs.Parts.{below_count, chain, first_below}
use Rattle.cy_network_parts.specs.internal.Upkeep.{IsBegun, IsDone, IsDeltaOf, IsStep, content_of, state_of}
use Rattle.cy_network_sources.specs.Work.{all_reads}
use Rattle.cy_network_parts.proofs.Steps.{done_leaf, old_content}

-- ---- what is a scan

this_some : (column : ℕ) (found : Option ℕ) → is_some (if_this column found) ≡ true → is_some found ≡ true
this_some column None is = is
this_some column (Some other) is = refl

kept_some : (below : Option ℕ) (outputs : List Output) → is_some (kept below outputs) ≡ true → is_some below ≡ true
kept_some None outputs is = is
kept_some (Some column) outputs is = refl

-- the one part below a scan is a scan
pub scan_below : (p : Plan) → below_count p ≡ 1 → is_scan p ≡ true → is_scan (first_below p) ≡ true
scan_below (plan.lookup p column attribute) one is = this_some column (scan_column p) is
scan_below (plan.filter p test) one is = is
scan_below (plan.all_different p columns) one is = is
scan_below (plan.project p outputs) one is = kept_some (scan_column p) outputs is
scan_below (plan.distinct p) one is = false_true is
scan_below _ one is = absurd (omega (arith, one))

-- so nothing above what is no scan is one
pub no_scan_above : (p : Plan) → below_count p ≡ 1 → is_scan (first_below p) ≡ false → is_scan p ≡ false
no_scan_above p one other = by (is_scan p) refl
  where
    by : (b : Bool) → is_scan p ≡ b → is_scan p ≡ false
    by false is = is
    by true is = absurd (true≢false (sym (scan_below p one is) ∙ other))

-- in which column a part's rows name their entity comes from that of the part below it
pub column_above : (p : Plan) → below_count p ≡ 1 → scan_column p ≡ column_over p (scan_column (first_below p))
column_above (plan.lookup p column attribute) one = refl
column_above (plan.filter p test) one = refl
column_above (plan.all_different p columns) one = refl
column_above (plan.project p outputs) one = refl
column_above (plan.distinct p) one = refl
column_above _ one = absurd (omega (arith, one))

-- and of a part that hasn't one part below it, of itself
pub column_alone : (p : Plan) (below : Option ℕ) → below_count p ≢ 1 → scan_column p ≡ column_over p below
column_alone (plan.lookup p column attribute) below other = absurd (other refl)
column_alone (plan.filter p test) below other = absurd (other refl)
column_alone (plan.all_different p columns) below other = absurd (other refl)
column_alone (plan.project p outputs) below other = absurd (other refl)
column_alone (plan.distinct p) below other = absurd (other refl)
column_alone _ below other = refl

-- the parts of a scan are its chain
pub chain_scan : (p : Plan) → is_scan p ≡ true → chain p ≡ scan_parts p
chain_scan plan.nodes is = refl
chain_scan (plan.rels types orientation) is = refl
chain_scan (plan.lookup p column attribute) is = ap (λ ps. plan.lookup p column attribute ∷ ps) (chain_scan p (scan_below (plan.lookup p column attribute) refl is))
chain_scan (plan.filter p test) is = ap (λ ps. plan.filter p test ∷ ps) (chain_scan p is)
chain_scan (plan.all_different p columns) is = ap (λ ps. plan.all_different p columns ∷ ps) (chain_scan p is)
chain_scan (plan.project p outputs) is = ap (λ ps. plan.project p outputs ∷ ps) (chain_scan p (scan_below (plan.project p outputs) refl is))
chain_scan _ is = false_true is

pub some_scan : (found : Option ℕ) → is_some found ≡ true → IsSome found
some_scan found is = is

-- a part that is no scan, and has no part below it, is the one of the empty row
pub lowest_is : (p : Plan) → (is_scan p ≡ true) ⊎ (below_count p ≢ 1) → below_count p < 2 → (is_scan p ≡ true) ⊎ (p ≡ plan.unit)
lowest_is plan.unit whole few = inr refl
lowest_is plan.nodes whole few = inl refl
lowest_is (plan.rels types orientation) whole few = inl refl
lowest_is (plan.lookup p column attribute) (inl is) few = inl is
lowest_is (plan.lookup p column attribute) (inr other) few = absurd (other refl)
lowest_is (plan.filter p test) (inl is) few = inl is
lowest_is (plan.filter p test) (inr other) few = absurd (other refl)
lowest_is (plan.all_different p columns) (inl is) few = inl is
lowest_is (plan.all_different p columns) (inr other) few = absurd (other refl)
lowest_is (plan.project p outputs) (inl is) few = inl is
lowest_is (plan.project p outputs) (inr other) few = absurd (other refl)
lowest_is (plan.distinct p) (inl is) few = false_true is
lowest_is (plan.distinct p) (inr other) few = absurd (other refl)
lowest_is _ whole few = absurd (omega (arith, few))

-- nor is one with two parts below it
pub pair_unscanned : (p : Plan) → below_count p ≡ 2 → is_scan p ≡ false
pair_unscanned (plan.join left right ks) pair = refl
pair_unscanned (plan.outer left right ks test) pair = refl
pair_unscanned (plan.semi left right ks keeping) pair = refl
pair_unscanned (plan.union left right) pair = refl
pair_unscanned _ pair = absurd (omega (arith, pair))

-- ---- what a scan keeps

-- a scan has no memories of its own
pub scan_own_keys : (p : Plan) → is_scan p ≡ true → own_keys p ≡ []
scan_own_keys (plan.join left right ks) is = false_true is
scan_own_keys (plan.outer left right ks test) is = false_true is
scan_own_keys (plan.semi left right ks keeping) is = false_true is
scan_own_keys (plan.lookup p column attribute) is = ap (λ so. none_where so ((column ∷ []) ∷ [])) is
scan_own_keys (plan.project p outputs) is = ap (λ so. none_where (so || tells_rows p outputs) (all_columns (length outputs) ∷ [])) is
scan_own_keys (plan.union left right) is = false_true is
scan_own_keys _ is = refl

pub scan_own_contents : (rows : Plan → List (List Cell)) (p : Plan) → is_scan p ≡ true → own_contents rows p ≡ []
scan_own_contents rows (plan.join left right ks) is = false_true is
scan_own_contents rows (plan.outer left right ks test) is = false_true is
scan_own_contents rows (plan.semi left right ks keeping) is = false_true is
scan_own_contents rows (plan.lookup p column attribute) is = ap (λ so. none_where so (counts (rows p) ∷ [])) is
scan_own_contents rows (plan.project p outputs) is = ap (λ so. none_where (so || tells_rows p outputs) (counts (rows (plan.project p outputs)) ∷ [])) is
scan_own_contents rows (plan.union left right) is = false_true is
scan_own_contents rows _ is = refl

-- nor have the parts below it
pub scan_keys : (p : Plan) → is_scan p ≡ true → keys p ≡ []
scan_keys plan.unit is = refl
scan_keys plan.nodes is = refl
scan_keys (plan.rels types orientation) is = refl
scan_keys (plan.lookup p column attribute) is =
    ap (λ ks. ks ++ own_keys (plan.lookup p column attribute)) (scan_keys p (scan_below (plan.lookup p column attribute) refl is)) ∙ scan_own_keys (plan.lookup p column attribute) is
scan_keys (plan.filter p test) is = scan_keys p is
scan_keys (plan.all_different p columns) is = scan_keys p is
scan_keys (plan.project p outputs) is =
    ap (λ ks. ks ++ own_keys (plan.project p outputs)) (scan_keys p (scan_below (plan.project p outputs) refl is)) ∙ scan_own_keys (plan.project p outputs) is
scan_keys _ is = false_true is

pub scan_contents : (rows : Plan → List (List Cell)) (p : Plan) → is_scan p ≡ true → contents rows p ≡ []
scan_contents rows plan.unit is = refl
scan_contents rows plan.nodes is = refl
scan_contents rows (plan.rels types orientation) is = refl
scan_contents rows (plan.lookup p column attribute) is =
    ap (λ cs. cs ++ own_contents rows (plan.lookup p column attribute)) (scan_contents rows p (scan_below (plan.lookup p column attribute) refl is))
    ∙ scan_own_contents rows (plan.lookup p column attribute) is
scan_contents rows (plan.filter p test) is = scan_contents rows p is
scan_contents rows (plan.all_different p columns) is = scan_contents rows p is
scan_contents rows (plan.project p outputs) is =
    ap (λ cs. cs ++ own_contents rows (plan.project p outputs)) (scan_contents rows p (scan_below (plan.project p outputs) refl is))
    ∙ scan_own_contents rows (plan.project p outputs) is
scan_contents rows _ is = false_true is

-- ---- its rows

-- where there is no graph yet they are those of a graph without anything
scan_at : (graph : Option Content) (p : Plan) → is_scan p ≡ true → rows_at graph p ≡ rows_of (content_at graph) p
scan_at graph plan.nodes is = nodes_at graph
scan_at graph (plan.rels types orientation) is = rels_at graph types orientation
scan_at graph (plan.lookup p column attribute) is =
    lookup_at graph p column attribute ∙ ap (map (with_attribute (content_at graph) column attribute)) (scan_at graph p (scan_below (plan.lookup p column attribute) refl is))
scan_at graph (plan.filter p test) is = filter_at graph p test ∙ ap (filter (holds test)) (scan_at graph p is)
scan_at graph (plan.all_different p columns) is = different_at graph p columns ∙ ap (filter (λ row. are_different (relationships_at columns row))) (scan_at graph p is)
scan_at graph (plan.project p outputs) is = project_at graph p outputs ∙ ap (map (projected outputs)) (scan_at graph p (scan_below (plan.project p outputs) refl is))
scan_at graph _ is = false_true is

-- a part and those below it
within_more : (graph : Option Content) (p below : Plan) → parts p ≡ p ∷ parts below → AreBounded (counts (rows_at graph p)) → AreWithin graph below → AreWithin graph p
within_more graph p below are here within =
    let W : Plan → Type 0 = λ part. AreBounded (counts (rows_at graph part)) in subst (All W) (sym are) (All-cons W p (parts below) here within)

within_alone : (graph : Option Content) (p : Plan) → parts p ≡ p ∷ [] → AreBounded (counts (rows_at graph p)) → AreWithin graph p
within_alone graph p are here =
    let W : Plan → Type 0 = λ part. AreBounded (counts (rows_at graph part)) in subst (All W) (sym are) (All-cons W p [] here (All-nil W))

-- none counts too often, nor any of the parts below it
module _ (now : State) (graph : IsGraph now) where
  few : (p : Plan) → is_scan p ≡ true → AreBounded (counts (rows_at (Some now.content) p))
  few p is row = scan_few now p graph (some_scan (scan_column p) is) row

  pub scan_within : (p : Plan) → is_scan p ≡ true → AreWithin (Some now.content) p
  scan_within plan.nodes is = within_alone (Some now.content) plan.nodes refl (few plan.nodes is)
  scan_within (plan.rels types orientation) is = within_alone (Some now.content) (plan.rels types orientation) refl (few (plan.rels types orientation) is)
  scan_within (plan.lookup p column attribute) is =
      within_more (Some now.content) (plan.lookup p column attribute) p refl (few (plan.lookup p column attribute) is) (scan_within p (scan_below (plan.lookup p column attribute) refl is))
  scan_within (plan.filter p test) is = within_more (Some now.content) (plan.filter p test) p refl (few (plan.filter p test) is) (scan_within p is)
  scan_within (plan.all_different p columns) is = within_more (Some now.content) (plan.all_different p columns) p refl (few (plan.all_different p columns) is) (scan_within p is)
  scan_within (plan.project p outputs) is = within_more (Some now.content) (plan.project p outputs) p refl (few (plan.project p outputs) is) (scan_within p (scan_below (plan.project p outputs) refl is))
  scan_within _ is = false_true is

-- it reads each touched entity of its kind once
pub reads_within : (rows rows_now : Plan → List (List Cell)) (touches : Touches) (p : Plan) → is_scan p ≡ true → scan_reads touches p ≤ all_reads rows rows_now touches p
reads_within rows rows_now touches plan.nodes is = omega arith
reads_within rows rows_now touches (plan.rels types orientation) is = omega arith
reads_within rows rows_now touches (plan.lookup p column attribute) is =
    let rest = reads_within rows rows_now touches p (scan_below (plan.lookup p column attribute) refl is) in omega (arith, rest)
reads_within rows rows_now touches (plan.filter p test) is = let rest = reads_within rows rows_now touches p is in omega (arith, rest)
reads_within rows rows_now touches (plan.all_different p columns) is = let rest = reads_within rows rows_now touches p is in omega (arith, rest)
reads_within rows rows_now touches (plan.project p outputs) is =
    let rest = reads_within rows rows_now touches p (scan_below (plan.project p outputs) refl is) in omega (arith, rest)
reads_within rows rows_now touches _ is = false_true is

-- ---- a change of the graph

pub is_scan_of : (old : Option State) (now : State) (touches : Touches) (ps : List Plan) (p : Plan) → ps ≡ chain p → is_scan p ≡ true → IsStep old now touches p → IsScan (state_of old) now touches ps p
is_scan_of old now touches ps p are is step = record { parts = are ∙ chain_scan p is; column = some_scan (scan_column p) is; sure = step.sure; change = step.change }

pub scan_delta : (old : Option State) (now : State) (p : Plan) (deltas : List RowDelta) → is_scan p ≡ true
    → IsDelta (counts (rows_of (state_of old).content p)) (counts (rows_of now.content p)) deltas → All IsBounded deltas → IsDeltaOf old now p deltas
scan_delta old now p deltas is delta bounded = record {
  delta =
      subst (λ rows. IsDelta (counts rows) (counts (rows_of now.content p)) deltas)
      (sym (scan_at (content_of old) p is ∙ ap (λ (content : Content). rows_of content p) (old_content old))) delta;
  bounded = bounded;
}

-- a part without memories is done once its rows are
pub scan_done : (from_nothing : Bool) (old : Option State) (now : State) (touches : Touches) (p : Plan) (columns : List (List ℕ)) (was staged : List Counts) (made : List RowDelta) → is_scan p ≡ true
    → IsBegun from_nothing old now touches p columns was staged → IsDeltaOf old now p made → IsDone old now p staged made
scan_done from_nothing old now touches p columns was staged made is begun change = record {
  change = change;
  holds = begun.held.settled ∙ scan_contents (rows_at (content_of old)) p is ∙ sym (scan_contents (rows_at (Some now.content)) p is);
  within = scan_within now begun.step.change.graph_now p is;
}

-- and so is one of the empty row
pub lowest_done : (from_nothing : Bool) (old : Option State) (now : State) (touches : Touches) (p : Plan) (columns : List (List ℕ)) (was staged : List Counts) (made : List RowDelta)
    → (is_scan p ≡ true) ⊎ (p ≡ plan.unit) → IsBegun from_nothing old now touches p columns was staged → IsDeltaOf old now p made → IsDone old now p staged made
lowest_done from_nothing old now touches p columns was staged made (inl is) begun change = scan_done from_nothing old now touches p columns was staged made is begun change
lowest_done from_nothing old now touches p columns was staged made (inr is) begun change = done_leaf from_nothing old now touches p columns was staged made (ap below_count is) begun change
