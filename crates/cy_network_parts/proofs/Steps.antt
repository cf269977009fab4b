-- What is asked of a part of a plan, and what it gives, put together from what is so of the parts below it.
use Rattle.std.proofs.Common.{◌≡◌, ℕ, ◌+◌, ◌<◌, ◌≤◌, Bool, false, List, [], ◌++◌, Option, Some, None, IfSome, is_none, length, map, refl, sym, ap, subst, ◌∙◌, arith}
use Rattle.std.specs.List.{All, Any}
use Rattle.std.proofs.lemmas.List.{map-append}
use Rattle.std.proofs.lemmas.List.Elements.{All-append, All-cons, All-head, All-nil, All-tail}
use Rattle.cy_values.specs.declared.rows.Cell.{Cell}
use Rattle.cy_values.specs.Bag.{count_of}
use Rattle.cy_graph.specs.Graph.{Content, IsGraph, State}
use Rattle.cy_network_memory.specs.Counts.{Counts, greatest_count}
use Rattle.cy_network_counts.specs.Merges.{AreBounded}
use Rattle.cy_planner_algebra.specs.Plans as plan
use Rattle.cy_planner_algebra.specs.Plans.{Plan}
use Rattle.cy_planner_algebra.specs.Parts.{parts}
use Rattle.cy_planner_algebra.specs.Meaning.{rows_of}
use Rattle.cy_network_memory.specs.declared.memory.RowDelta.{RowDelta}
use Rattle.cy_network_operators.specs.Deltas.{content_at, counts, rows_at}
use Rattle.cy_network_operators.proofs.DeltaLemmas.{after_bounded}
use Rattle.cy_network_sources.specs.Changes.{IsChange, Touches}
use Rattle.cy_network_parts.specs.internal.Inputs.{below_contents}
use Rattle.cy_network_parts.specs.Memories.{AreWithin, contents, emptied_where, keys, own_contents, own_keys}
use Rattle.cy_network_parts.specs.Limits.{HasTooManyRows}
use Rattle.cy_network_parts.specs.Parts.{below_count, first_below, second_below}
use Rattle.cy_network_parts.specs.Shared.{left_held, right_held}
use Rattle.cy_network_parts.specs.internal.Upkeep.{HasTooMany, IsDeltaOf, IsOwnBegun, IsOwnDone, IsStep, content_of, state_of, IsBegun, IsDone}
use Rattle.cy_network_parts.proofs.HeldInputs.{sides_are}
use Rattle.cy_network_parts.proofs.PlanParts.{over_one, over_two, own_long}
use Rattle.cy_network_parts.proofs.Slices.{all_left, all_right, any_first, any_later, any_left, any_right, same_mapped}

-- the graph that a change leads from, if there is one
pub old_graph : (old : Option State) (now : State) (touches : Touches) → IsChange (state_of old) now touches → IfSome old IsGraph
old_graph None now touches change = tt
old_graph (Some s) now touches change = change.graph_before

pub old_content : (old : Option State) → content_at (content_of old) ≡ (state_of old).content
old_content None = refl
old_content (Some s) = refl

-- the rows of a part count no more than all of the plan's
abbrev Within : Option Content → Plan → Type 0
Within graph part = AreBounded (counts (rows_at graph part))

pub own_within : (graph : Option Content) (p : Plan) → AreWithin graph p → AreBounded (counts (rows_at graph p))
own_within graph plan.unit within = All-head (Within graph) plan.unit [] within
own_within graph plan.nodes within = All-head (Within graph) plan.nodes [] within
own_within graph (plan.rels types orientation) within = All-head (Within graph) (plan.rels types orientation) [] within
own_within graph (plan.join left right ks) within = All-head (Within graph) (plan.join left right ks) (parts left ++ parts right) within
own_within graph (plan.outer left right ks test) within = All-head (Within graph) (plan.outer left right ks test) (parts left ++ parts right) within
own_within graph (plan.semi left right ks keeping) within = All-head (Within graph) (plan.semi left right ks keeping) (parts left ++ parts right) within
own_within graph (plan.lookup p column attribute) within = All-head (Within graph) (plan.lookup p column attribute) (parts p) within
own_within graph (plan.filter p test) within = All-head (Within graph) (plan.filter p test) (parts p) within
own_within graph (plan.all_different p columns) within = All-head (Within graph) (plan.all_different p columns) (parts p) within
own_within graph (plan.project p outputs) within = All-head (Within graph) (plan.project p outputs) (parts p) within
own_within graph (plan.distinct p) within = All-head (Within graph) (plan.distinct p) (parts p) within
own_within graph (plan.union left right) within = All-head (Within graph) (plan.union left right) (parts left ++ parts right) within

-- a row of the part itself that counts too often
abbrev Overfull : Content → Plan → Type 0
Overfull graph part = (row : List Cell) × (greatest_count < count_of row (rows_of graph part))

pub own_too_many : (now : State) (p : Plan) → HasTooMany now p → HasTooManyRows now.content p
own_too_many now plan.unit found = any_first (Overfull now.content) plan.unit [] found
own_too_many now plan.nodes found = any_first (Overfull now.content) plan.nodes [] found
own_too_many now (plan.rels types orientation) found = any_first (Overfull now.content) (plan.rels types orientation) [] found
own_too_many now (plan.join left right ks) found = any_first (Overfull now.content) (plan.join left right ks) (parts left ++ parts right) found
own_too_many now (plan.outer left right ks test) found = any_first (Overfull now.content) (plan.outer left right ks test) (parts left ++ parts right) found
own_too_many now (plan.semi left right ks keeping) found = any_first (Overfull now.content) (plan.semi left right ks keeping) (parts left ++ parts right) found
own_too_many now (plan.lookup p column attribute) found = any_first (Overfull now.content) (plan.lookup p column attribute) (parts p) found
own_too_many now (plan.filter p test) found = any_first (Overfull now.content) (plan.filter p test) (parts p) found
own_too_many now (plan.all_different p columns) found = any_first (Overfull now.content) (plan.all_different p columns) (parts p) found
own_too_many now (plan.project p outputs) found = any_first (Overfull now.content) (plan.project p outputs) (parts p) found
own_too_many now (plan.distinct p) found = any_first (Overfull now.content) (plan.distinct p) (parts p) found
own_too_many now (plan.union left right) found = any_first (Overfull now.content) (plan.union left right) (parts left ++ parts right) found

pub too_many_one : (graph : Content) (p : Plan) → below_count p ≡ 1 → HasTooManyRows graph (first_below p) → HasTooManyRows graph p
too_many_one graph p single found =
    let facts = over_one p single in subst (Any (Overfull graph)) (sym facts.of_parts) (any_later (Overfull graph) p (parts (first_below p)) found)

pub too_many_first : (graph : Content) (p : Plan) → below_count p ≡ 2 → HasTooManyRows graph (first_below p) → HasTooManyRows graph p
too_many_first graph p pair found =
    let facts = over_two p pair in
    subst (Any (Overfull graph)) (sym facts.of_parts)
    (any_later (Overfull graph) p (parts (first_below p) ++ parts (second_below p)) (any_left (Overfull graph) (parts (first_below p)) (parts (second_below p)) found))

pub too_many_second : (graph : Content) (p : Plan) → below_count p ≡ 2 → HasTooManyRows graph (second_below p) → HasTooManyRows graph p
too_many_second graph p pair found =
    let facts = over_two p pair in
    subst (Any (Overfull graph)) (sym facts.of_parts)
    (any_later (Overfull graph) p (parts (first_below p) ++ parts (second_below p)) (any_right (Overfull graph) (parts (first_below p)) (parts (second_below p)) found))

-- the rows of a part count no more after the change, where no row delta does
pub now_within : (old : Option State) (now : State) (p : Plan) (made : List RowDelta) → AreWithin (content_of old) p → IsDeltaOf old now p made → AreBounded (counts (rows_at (Some now.content) p))
now_within old now p made within change =
    after_bounded (counts (rows_at (content_of old) p)) (counts (rows_at (Some now.content) p)) made change.delta change.bounded (own_within (content_of old) p within)

-- ---- a part without parts below it

pub done_leaf : (from_nothing : Bool) (old : Option State) (now : State) (touches : Touches) (p : Plan) (columns : List (List ℕ)) (was staged : List Counts) (made : List RowDelta)
    → below_count p ≡ 0 → IsBegun from_nothing old now touches p columns was staged → IsDeltaOf old now p made → IsDone old now p staged made
done_leaf from_nothing old now touches p columns was staged made leaf begun change = by p leaf begun.held.settled begun.held.within change
  where
    by : (p : Plan) → below_count p ≡ 0 → staged ≡ contents (rows_at (content_of old)) p → AreWithin (content_of old) p → IsDeltaOf old now p made → IsDone old now p staged made
    by plan.unit leaf settled within change =
        record { change = change; holds = settled; within = All-cons (Within (Some now.content)) plan.unit [] (now_within old now plan.unit made within change) (All-nil (Within (Some now.content))) }
    by plan.nodes leaf settled within change =
        record { change = change; holds = settled; within = All-cons (Within (Some now.content)) plan.nodes [] (now_within old now plan.nodes made within change) (All-nil (Within (Some now.content))) }
    by (plan.rels types orientation) leaf settled within change =
        record { change = change; holds = settled; within = All-cons (Within (Some now.content)) (plan.rels types orientation) [] (now_within old now (plan.rels types orientation) made within change) (All-nil (Within (Some now.content))) }
    by (plan.join left right ks) leaf settled within change = absurd (omega (arith, leaf))
    by (plan.outer left right ks test) leaf settled within change = absurd (omega (arith, leaf))
    by (plan.semi left right ks keeping) leaf settled within change = absurd (omega (arith, leaf))
    by (plan.lookup p column attribute) leaf settled within change = absurd (omega (arith, leaf))
    by (plan.filter p test) leaf settled within change = absurd (omega (arith, leaf))
    by (plan.all_different p columns) leaf settled within change = absurd (omega (arith, leaf))
    by (plan.project p outputs) leaf settled within change = absurd (omega (arith, leaf))
    by (plan.distinct p) leaf settled within change = absurd (omega (arith, leaf))
    by (plan.union left right) leaf settled within change = absurd (omega (arith, leaf))

-- ---- a part with two parts below it

module _ {M : Type 0} (key_columns : M → List ℕ) (was staged : M → Counts) (from_nothing : Bool) (old : Option State) (now : State) (touches : Touches) (p : Plan) where
  abbrev pub IsBegunBy : Plan → List M → Type 0
  IsBegunBy q memories = IsBegun from_nothing old now touches q (map key_columns memories) (map was memories) (map staged memories)

  abbrev pub IsOwnBegunBy : List M → Type 0
  IsOwnBegunBy own = IsOwnBegun old p (map key_columns own) (map was own) (map staged own)

  -- its memories are those of the parts below it, and its own
  pub begun_below : (memories below own : List M) → memories ≡ below ++ own → below_count p ≡ 2 → length own ≡ length (own_keys p) → IsBegunBy p memories
      → (map key_columns below ≡ keys (first_below p) ++ keys (second_below p)) × ((map was below ≡ below_contents (rows_at (content_of old)) p)
      × ((map staged below ≡ below_contents (rows_at (content_of old)) p) × IsOwnBegunBy own))
  begun_below memories below own is pair long begun =
      let facts = over_two p pair in
      let rows = rows_at (content_of old) in
      let own_counted = long ∙ sym (own_long rows p) in
      let ks = same_mapped key_columns below own (keys (first_below p) ++ keys (second_below p)) (own_keys p) (ap (map key_columns) (sym is) ∙ begun.held.keyed ∙ facts.of_keys) long in
      let ws = same_mapped was below own (below_contents rows p) (own_contents rows p) (ap (map was) (sym is) ∙ begun.held.held ∙ facts.of_contents rows) own_counted in
      let ss = same_mapped staged below own (below_contents rows p) (own_contents rows p) (ap (map staged) (sym is) ∙ begun.held.settled ∙ facts.of_contents rows) own_counted in
      (ks.0, (ws.0, (ss.0, record { keyed = ks.1; held = ws.1; settled = ss.1; within = begun.held.within })))

  -- a part right below whose rows no other one holds is begun
  module _ (lefts rights : List M) (pair : below_count p ≡ 2) (right_long : length rights ≡ length (keys (second_below p))) (first : from_nothing ≡ is_none old) (step : IsStep old now touches p)
      (within : AreWithin (content_of old) p) (keyed : map key_columns (lefts ++ rights) ≡ keys (first_below p) ++ keys (second_below p))
      (held : map was (lefts ++ rights) ≡ below_contents (rows_at (content_of old)) p) (settled : map staged (lefts ++ rights) ≡ below_contents (rows_at (content_of old)) p) where
    below_within : All (Within (content_of old)) (parts (first_below p) ++ parts (second_below p))
    below_within = All-tail (Within (content_of old)) p (parts (first_below p) ++ parts (second_below p)) (subst (All (Within (content_of old))) (over_two p pair).of_parts within)

    pub begun_first : left_held p ≡ false → IsBegunBy (first_below p) lefts
    begun_first unheld =
        let facts = over_two p pair in
        let rows = rows_at (content_of old) in
        let whole = ap (λ so. emptied_where so (contents rows (first_below p))) unheld in
        record {
          first = first;
          step = record { change = step.change; well_formed = facts.well_formed_first step.well_formed; sure = facts.sure_first step.sure };
          held = record {
            keyed = (same_mapped key_columns lefts rights (keys (first_below p)) (keys (second_below p)) keyed right_long).0;
            held = (sides_are rows p was lefts rights held right_long).0 ∙ whole;
            settled = (sides_are rows p staged lefts rights settled right_long).0 ∙ whole;
            within = all_left (Within (content_of old)) (parts (first_below p)) (parts (second_below p)) below_within;
          };
        }

    pub begun_second : right_held p ≡ false → IsBegunBy (second_below p) rights
    begun_second unheld =
        let facts = over_two p pair in
        let rows = rows_at (content_of old) in
        let whole = ap (λ so. emptied_where so (contents rows (second_below p))) unheld in
        record {
          first = first;
          step = record { change = step.change; well_formed = facts.well_formed_second step.well_formed; sure = facts.sure_second step.sure };
          held = record {
            keyed = (same_mapped key_columns lefts rights (keys (first_below p)) (keys (second_below p)) keyed right_long).1;
            held = (sides_are rows p was lefts rights held right_long).1 ∙ whole;
            settled = (sides_are rows p staged lefts rights settled right_long).1 ∙ whole;
            within = all_right (Within (content_of old)) (parts (first_below p)) (parts (second_below p)) below_within;
          };
        }

  pub done_two : (memories below own : List M) (made : List RowDelta) → memories ≡ below ++ own → below_count p ≡ 2 → AreWithin (content_of old) p
      → map staged below ≡ below_contents (rows_at (Some now.content)) p → AreWithin (Some now.content) (first_below p) → AreWithin (Some now.content) (second_below p)
      → IsOwnDone old now p (map staged own) made → IsDone old now p (map staged memories) made
  done_two memories below own made is pair within below_done left_within right_within own_done =
      let facts = over_two p pair in
      let rows = rows_at (Some now.content) in
      record {
        change = own_done.change;
        holds =
            ap (map staged) is ∙ map-append staged below own ∙ ap (λ xs. xs ++ map staged own) below_done ∙ ap (λ xs. below_contents rows p ++ xs) own_done.holds
            ∙ sym (facts.of_contents rows);
        within =
            subst (All (Within (Some now.content))) (sym facts.of_parts)
            (All-cons (Within (Some now.content)) p (parts (first_below p) ++ parts (second_below p)) (now_within old now p made within own_done.change)
            (All-append (Within (Some now.content)) (parts (first_below p)) (parts (second_below p)) left_within right_within));
      }
