-- The touched entities, one after another.
use Rattle.std.proofs.Common.{◌≡◌, ℕ, List, ◌∷◌, Option, sym, ap, ◌∙◌}
use Rattle.cy_graph.specs.declared.nodes.Node.{Node}
use Rattle.cy_graph.specs.declared.nodes.Rel.{Rel}
use Rattle.cy_graph.specs.Graph.{State, node_at, rel_at}
use Rattle.cy_network_relevance.specs.declared.masks.bits.Bits.{Bits}
use Rattle.cy_network_relevance.specs.NameBits.{joined_bits, node_bits, rel_bits}
use Rattle.cy_network_relevance.specs.Masks.{with_nodes, with_rels}

-- the bits of those that are left, and of the next one
pub next_node : (now : State) (left rest : List (ℕ × Option Node)) (number : ℕ) (was : Option Node) (found : Option Node) (bits : Bits) → left ≡ (number, was) ∷ rest
    → found ≡ node_at (record { 0 = number }) now
    → with_nodes now (joined_bits (joined_bits bits (node_bits was)) (node_bits found)) rest ≡ with_nodes now bits left
next_node now left rest number was found bits is same =
    ap (λ o. with_nodes now (joined_bits (joined_bits bits (node_bits was)) (node_bits o)) rest) same
    ∙ ap (with_nodes now bits) (sym is)

pub next_rel : (now : State) (left rest : List (ℕ × Option Rel)) (number : ℕ) (was : Option Rel) (found : Option Rel) (bits : Bits) → left ≡ (number, was) ∷ rest
    → found ≡ rel_at (record { 0 = number }) now
    → with_rels now (joined_bits (joined_bits bits (rel_bits was)) (rel_bits found)) rest ≡ with_rels now bits left
next_rel now left rest number was found bits is same =
    ap (λ o. with_rels now (joined_bits (joined_bits bits (rel_bits was)) (rel_bits o)) rest) same
    ∙ ap (with_rels now bits) (sym is)
