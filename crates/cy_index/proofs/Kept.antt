-- What is kept for the indexes stands for the graph after a change as well.
use Rattle.std.proofs.Common.{◌≡◌, ℕ, ◌+◌, ◌-◌, ◌<◌, cond, List, [], ◌++◌, length, drop, Option, IsSome, is_some, Result, Ok, Err, OnOk, OnErr, refl, sym, ap, subst, ◌∙◌, arith, length-append, true≢false, nat_eq}
use Rattle.std.specs.Option.{ForSome}
use Rattle.std.proofs.lemmas.List.{drop_at, drop-drop}
use Rattle.cy_graph.specs.declared.faults.GraphFault.{GraphFault}
use Rattle.cy_values.specs.declared.numbers.NodeId.{NodeId}
use Rattle.cy_graph.specs.declared.nodes.Node.{Node}
use Rattle.cy_graph.specs.Graph.{State, Versions, node_at}
use Rattle.cy_index.specs.declared.keys.Key.{Key}
use Rattle.cy_index.specs.declared.keys.Pair.{Pair}
use Rattle.cy_index.specs.internal.Indexed.{IsIndexed, Matches, Turns}
use Rattle.cy_index.specs.internal.Postings.{Version, Goes, Replaces, latest}
use Rattle.cy_index.specs.internal.Under.{same_key}
use Rattle.cy_index.proofs.Matching.{matches_changed}
use Rattle.cy_index.proofs.Versions.{gone_back}

-- later versions leave the oldest one
oldest : {X : Type 0} (later old new : List X) → new ≡ later ++ old → 0 < length old → drop (length new - 1) new ≡ drop (length old - 1) old
oldest later old new is some =
    ap (λ l. drop (length l - 1) l) is
    ∙ ap (λ k. drop k (later ++ old)) {x = length (later ++ old) - 1} {y = length later + (length old - 1)} (omega (arith, length-append later old, some))
    ∙ sym (drop-drop (length old - 1) (length later) (later ++ old))
    ∙ ap (drop (length old - 1)) (drop_at later old (length later) refl)

-- a graph that is changed, with what is kept
pub indexed_changed : (chosen : List Pair) (graph after : Versions) (state : State) (kept new : List (Version Key)) → IsIndexed chosen graph kept → IsSome graph.was → Goes kept new
    → after ≡ record graph { now = state } → Matches chosen state (latest new) → IsIndexed chosen after new
indexed_changed chosen graph after state kept new indexed going goes is matches =
    subst (λ (v : Versions). IsIndexed chosen v new) (sym is) (record {
      some = omega (arith, indexed.some, ap length goes.1, length-append goes.0 kept);
      now = matches;
      was = subst (λ vs. ForSome graph.was (λ before. Matches chosen before (latest vs))) (sym (oldest goes.0 kept new goes.1 indexed.some)) indexed.was;
      closed = λ none. absurd (true≢false (sym going ∙ ap is_some none));
    })

-- a graph that was to be changed, with what is kept: with a refusal it is taken back
pub settled : {T : Type 0} (done : Result T GraphFault) (chosen : List Pair) (graph after : Versions) (state : State) (kept mid new : List (Version Key)) (mark : ℕ) → IsIndexed chosen graph kept → IsSome graph.was → Goes kept mid → mark + 1 ≡ length kept
    → Matches chosen state (latest mid) → OnOk done (after ≡ record graph { now = state }) → OnErr done (after ≡ graph) → OnOk done (new ≡ mid) → OnErr done (new ≡ drop (length mid - (mark + 1)) mid) → IsIndexed chosen after new
settled (Ok x) chosen graph after state kept mid new mark indexed going goes marked matches is same stays back =
    subst (IsIndexed chosen after) (sym stays) (indexed_changed chosen graph after state kept mid indexed going goes is matches)
settled (Err e) chosen graph after state kept mid new mark indexed going goes marked matches is same stays back =
    subst (IsIndexed chosen after) (sym (back ∙ gone_back kept mid goes.0 mark goes.1 marked)) (subst (λ (v : Versions). IsIndexed chosen v kept) (sym same) indexed)

-- a graph whose nodes stay, with what is kept
pub nodes_stay : {T : Type 0} (done : Result T GraphFault) (chosen : List Pair) (graph after : Versions) (state : State) (kept : List (Version Key)) → IsIndexed chosen graph kept → IsSome graph.was
    → Matches chosen state (latest kept) → OnOk done (after ≡ record graph { now = state }) → OnErr done (after ≡ graph) → IsIndexed chosen after kept
nodes_stay (Ok x) chosen graph after state kept indexed going matches is same = indexed_changed chosen graph after state kept kept indexed going ([], refl) is matches
nodes_stay (Err e) chosen graph after state kept indexed going matches is same = subst (λ (v : Versions). IsIndexed chosen v kept) (sym same) indexed

-- a graph of which one node changes, with what is kept
pub node_settled : {T : Type 0} (done : Result T GraphFault) (chosen : List Pair) (graph after : Versions) (state : State) (kept mid new : List (Version Key)) (mark : ℕ) (id : NodeId) (node : Option Node) (leaving coming : List Key) → IsIndexed chosen graph kept → IsSome graph.was → Goes kept mid → mark + 1 ≡ length kept
    → Replaces same_key leaving coming id.0 (latest kept) (latest mid) → ((m : ℕ) → node_at (record { 0 = m }) state ≡ cond (nat_eq m id.0) node (node_at (record { 0 = m }) graph.now)) → Turns chosen (node_at id graph.now) node leaving coming
    → OnOk done (after ≡ record graph { now = state }) → OnErr done (after ≡ graph) → OnOk done (new ≡ mid) → OnErr done (new ≡ drop (length mid - (mark + 1)) mid) → IsIndexed chosen after new
node_settled done chosen graph after state kept mid new mark id node leaving coming indexed going goes marked replaces at turns =
    settled done chosen graph after state kept mid new mark indexed going goes marked (matches_changed chosen graph.now state id node (latest kept) (latest mid) leaving coming indexed.now replaces at turns)

-- and where it stays under its keys
pub node_stays : {T : Type 0} (done : Result T GraphFault) (chosen : List Pair) (graph after : Versions) (state : State) (kept : List (Version Key)) (id : NodeId) (node : Option Node) → IsIndexed chosen graph kept → IsSome graph.was
    → ((m : ℕ) → node_at (record { 0 = m }) state ≡ cond (nat_eq m id.0) node (node_at (record { 0 = m }) graph.now)) → Turns chosen (node_at id graph.now) node [] [] → OnOk done (after ≡ record graph { now = state }) → OnErr done (after ≡ graph) → IsIndexed chosen after kept
node_stays done chosen graph after state kept id node indexed going at turns =
    nodes_stay done chosen graph after state kept indexed going (matches_changed chosen graph.now state id node (latest kept) (latest kept) [] [] indexed.now (λ key m. refl) at turns)
