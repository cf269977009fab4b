-- What is known of a network that stands for a graph, or is prepared, and of a plan made by hand.
use Rattle.std.proofs.Common.{◌≡◌, IsSome, is_some, ap, subst, sym, ◌∙◌}
use Rattle.cy_graph.specs.Graph.{Content}
use Rattle.cy_planner_algebra.specs.Plans as plan
use Rattle.cy_planner_algebra.specs.Plans.{Plan}
use Rattle.cy_planner_algebra.specs.Sure.{IsSure}
use Rattle.cy_network.specs.Networks.{HasRows, IsPrepared, NetworkState, StandsFor}

-- a network that stands for a graph has rows
pub rows_standing : (graph : Content) (n : NetworkState) → StandsFor graph n → (g : Content) × HasRows g n
rows_standing graph n stands = (graph, record { rows = stands.rows; positive = stands.positive })

-- some change is pending in a prepared one
pub change_pending : (before after : Content) (n : NetworkState) → IsPrepared before after n → IsSome n.pending
change_pending before after n prepared = ap is_some prepared.pending

-- it is prepared from some graph to some graph
pub graphs_prepared : (before after : Content) (n : NetworkState) → IsPrepared before after n → (b : Content) × ((a : Content) × IsPrepared b a n)
graphs_prepared before after n prepared = (before, (after, prepared))

-- all nodes twice ask nothing, so nothing of them has a fault
pub nodes_twice_sure : (p left right : Plan) → p ≡ plan.union left right → left ≡ plan.nodes → right ≡ plan.nodes → IsSure p
nodes_twice_sure p left right is lefts rights =
    subst IsSure (sym (is ∙ ap (λ q. plan.union q right) lefts ∙ ap (plan.union plan.nodes) rights)) (λ graph good. (tt, tt))
