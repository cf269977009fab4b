-- A mask has all that a plan reads where each entity whose bits are apart from it leaves the plan's parts as they are.
use Rattle.std.proofs.Common.{ℕ, List, [], ◌∷◌, Option}
use Rattle.std.specs.List.{AllByRecursion}
use Rattle.std.proofs.lemmas.List.Elements.{All-from_recursion}
use Rattle.cy_graph.specs.declared.nodes.Node.{Node}
use Rattle.cy_graph.specs.declared.nodes.Rel.{Rel}
use Rattle.cy_graph.specs.Graph.{State, node_at, rel_at}
use Rattle.cy_planner_algebra.specs.Plans.{Plan}
use Rattle.cy_network_relevance.specs.internal.Kept.{IsNodeUnchanged, IsRelUnchanged}
use Rattle.cy_network_relevance.proofs.Untouched.{untouched}
use Rattle.cy_network_relevance.specs.declared.masks.Mask.{Mask}
use Rattle.cy_network_relevance.specs.declared.masks.bits.Bits.{Bits}
use Rattle.cy_network_relevance.specs.NameBits.{AreBitsApart, joined_bits, no_bits, node_bits, rel_bits}
use Rattle.cy_network_relevance.specs.Masks.{Covers, with_nodes, with_rels}
use Rattle.cy_network_relevance.specs.internal.Left.{LeavesUnread}
use Rattle.cy_network_relevance.proofs.BitsApart.{apart_left, apart_right}

module _ (o : Bits) (now : State) where
  -- what is apart from the bits of touched entities is apart from those before them
  first_nodes : (es : List (ℕ × Option Node)) (bits : Bits) → AreBitsApart o (with_nodes now bits es) → AreBitsApart o bits
  first_nodes [] bits apart = apart
  first_nodes (e ∷ es) bits apart =
      let old = node_bits e.1 in
      let new = node_bits (node_at (record { 0 = e.0 }) now) in
      apart_left o bits old (apart_left o (joined_bits bits old) new (first_nodes es (joined_bits (joined_bits bits old) new) apart))

  first_rels : (es : List (ℕ × Option Rel)) (bits : Bits) → AreBitsApart o (with_rels now bits es) → AreBitsApart o bits
  first_rels [] bits apart = apart
  first_rels (e ∷ es) bits apart =
      let old = rel_bits e.1 in
      let new = rel_bits (rel_at (record { 0 = e.0 }) now) in
      apart_left o bits old (apart_left o (joined_bits bits old) new (first_rels es (joined_bits (joined_bits bits old) new) apart))

module _ (mask : Mask) (p : Plan) (left : LeavesUnread mask p) (now : State) where
  each_node : (es : List (ℕ × Option Node)) (bits : Bits) → AreBitsApart mask.nodes (with_nodes now bits es)
      → AllByRecursion (λ (e : ℕ × Option Node). IsNodeUnchanged e.1 (node_at (record { 0 = e.0 }) now) p) es
  each_node [] bits apart = tt
  each_node (e ∷ es) bits apart =
      let old = node_bits e.1 in
      let new = node_bits (node_at (record { 0 = e.0 }) now) in
      let here = first_nodes mask.nodes now es (joined_bits (joined_bits bits old) new) apart in (
        left.nodes e.1 (node_at (record { 0 = e.0 }) now) (apart_right mask.nodes bits old (apart_left mask.nodes (joined_bits bits old) new here), apart_right mask.nodes (joined_bits bits old) new here),
        each_node es (joined_bits (joined_bits bits old) new) apart,
      )

  each_rel : (es : List (ℕ × Option Rel)) (bits : Bits) → AreBitsApart mask.rels (with_rels now bits es)
      → AllByRecursion (λ (e : ℕ × Option Rel). IsRelUnchanged e.1 (rel_at (record { 0 = e.0 }) now) p) es
  each_rel [] bits apart = tt
  each_rel (e ∷ es) bits apart =
      let old = rel_bits e.1 in
      let new = rel_bits (rel_at (record { 0 = e.0 }) now) in
      let here = first_rels mask.rels now es (joined_bits (joined_bits bits old) new) apart in (
        left.rels e.1 (rel_at (record { 0 = e.0 }) now) (apart_right mask.rels bits old (apart_left mask.rels (joined_bits bits old) new here), apart_right mask.rels (joined_bits bits old) new here),
        each_rel es (joined_bits (joined_bits bits old) new) apart,
      )

pub covers : (mask : Mask) (p : Plan) → LeavesUnread mask p → Covers mask p
covers mask p left before now touches change apart =
    let N = (λ (e : ℕ × Option Node). IsNodeUnchanged e.1 (node_at (record { 0 = e.0 }) now) p) in
    let R = (λ (e : ℕ × Option Rel). IsRelUnchanged e.1 (rel_at (record { 0 = e.0 }) now) p) in
    untouched before now touches change p (All-from_recursion N touches.nodes (each_node mask p left now touches.nodes no_bits apart.nodes))
    (All-from_recursion R touches.rels (each_rel mask p left now touches.rels no_bits apart.rels))
