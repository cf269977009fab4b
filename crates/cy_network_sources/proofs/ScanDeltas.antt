-- The entities of a graph by their numbers, and the rows of its nodes.
use Rattle.std.proofs.Common.{◌≡◌, ℕ, List, [], ◌∷◌, Option, Some, refl, ap, subst, map}
use Rattle.std.specs.Prelude.{flat_map}
use Rattle.std.specs.List.{All}
use Rattle.std.proofs.lemmas.List.Elements.{All-head, All-tail}
use Rattle.cy_values.specs.declared.numbers.NodeId.{NodeId}
use Rattle.cy_values.specs.declared.rows.Cell.TheVariants as cell
use Rattle.cy_graph.specs.declared.nodes.Node.{Node}
use Rattle.cy_graph.specs.declared.nodes.Rel.{Rel}
use Rattle.cy_graph.specs.Graph.{State, node_at, rel_at}
use Rattle.cy_network_sources.specs.internal.Rows.{node_rows}

-- the node, or the relationship, under a number
abbrev pub node_under : State → ℕ → Option Node
node_under state n = node_at (record { 0 = n }) state

abbrev pub rel_under : State → ℕ → Option Rel
rel_under state n = rel_at (record { 0 = n }) state

pub node_rows_of : (es : List (NodeId × Node)) → map (λ n. cell.Node n.0 ∷ []) es ≡ flat_map (λ e. node_rows e.0.0 (Some e.1)) es
node_rows_of [] = refl
node_rows_of (e ∷ es) = ap (λ rest. (cell.Node e.0 ∷ []) ∷ rest) (node_rows_of es)

-- what is known of all that are left is known of the next, and of those after it
pub first_of_all : {A : Type 0} (P : A → Type 0) (left rest : List A) (x : A) → left ≡ x ∷ rest → All P left → P x × All P rest
first_of_all P left rest x is all = let opened : All P (x ∷ rest) = subst (All P) is all in (All-head P x rest opened, All-tail P x rest opened)
