use Rattle.std.proofs.Common.{◌≡◌, ℕ, ◌+◌, ◌-◌, ◌^◌, ◌≤◌, List, ◌++◌, Option, map, sym, ap, subst, ◌∙◌}
use Rattle.std.specs.Prelude.{flat_map}
use Rattle.std.specs.Option.{option_copied}
use Rattle.cy_values.specs.declared.rows.Cell.{Cell}
use Rattle.cy_graph.specs.declared.nodes.Node.{Node}
use Rattle.cy_graph.specs.Graph.{Versions, node_at}
use Rattle.cy_index.specs.Index.{SightState}
use Rattle.cy_planner_algebra.specs.Plans.{Plan}
use Rattle.cy_planner_algebra.specs.PlanModels.{plan_of}
use Rattle.cy_network_operators.specs.Deltas.{deltas_of}
use Rattle.cy_network_sources.specs.internal.Through.{IsNodeFit, node_made, recounted}
use Rattle.cy_network_sources.proofs.AttributeLemmas.{one_less, walked}
use Rattle.cy_network_sources.proofs.ScanDeltas.{first_of_all, node_under}
use Rattle.cy_network_sources.proofs.FirstScans.{one_read}
use Rattle.cy_network_sources.proofs.scanning.scan_nodes.Goals as goal

abbrev IsFitAt : Versions → List Plan → ℕ × Option Node → Type 0
IsFitAt graph ps e = IsNodeFit ps e.0 e.1 × IsNodeFit ps e.0 (node_under graph.now e.0)

pub add_node-requires-clause-old : goal.add_node-requires-clause-old
add_node-requires-clause-old c =
    let ps = map (λ part. plan_of part.now) c.args.parts.now in
    c.with_label-old.ensures.fit ps c.in-Some.number
    (first_of_all (IsFitAt c.args.sight.now.graph ps) c.loop-number.number-iterator c.next.new.self (c.in-Some.number, option_copied c.in-Some.was) c.in-Some.ensures.steps c.loop-number.invariant.fit).0.0

pub add_node-requires-clause-new : goal.add_node-requires-clause-new
add_node-requires-clause-new c =
    let ps = map (λ part. plan_of part.now) c.args.parts.now in
    c.with_label-new.ensures.fit ps c.in-Some.number
    (subst (IsNodeFit ps c.in-Some.number)
    (sym (c.node.ensures.node ∙ ap (λ (g : Versions). node_at (record { 0 = c.in-Some.number }) g.now) c.loop-number.invariant.graph))
    (first_of_all (IsFitAt c.args.sight.now.graph ps) c.loop-number.number-iterator c.next.new.self (c.in-Some.number, option_copied c.in-Some.was) c.in-Some.ensures.steps c.loop-number.invariant.fit).0.1)

pub loop-number-preserved : goal.loop-number-preserved
loop-number-preserved c =
    let ps = map (λ part. plan_of part.now) c.args.parts.now in
    let so_far = c.loop-number.invariant in
    let steps = c.in-Some.ensures.steps in
    let now = c.node.ensures.node ∙ ap (λ (g : Versions). node_at (record { 0 = c.in-Some.number }) g.now) so_far.graph in
    record {
      made = λ row.
          walked (λ (e : ℕ × Option Node). recounted (node_made ps e.0 e.1) (node_made ps e.0 (node_at (record { 0 = e.0 }) c.args.sight.now.graph.now)) row)
          (c.in-Some.number, option_copied c.in-Some.was) c.next.new.self
          (deltas_of row c.loop-number.deltas.items) (deltas_of row c.add_node.new.deltas.items) _
          (c.in_ok-add_node.ensures.made row
          ∙ ap (λ (rows : List (List Cell)). deltas_of row c.loop-number.deltas.items ++ recounted rows (node_made ps c.in-Some.number (option_copied c.with_label-new.result)) row)
          (c.with_label-old.ensures.made ps c.in-Some.number c.needed_label-label.ensures)
          ∙ ap (λ (rows : List (List Cell)). deltas_of row c.loop-number.deltas.items ++ recounted (node_made ps c.in-Some.number (option_copied c.in-Some.was)) rows row)
          (c.with_label-new.ensures.made ps c.in-Some.number c.needed_label-label.ensures ∙ ap (node_made ps c.in-Some.number) now))
          (ap (λ left. deltas_of row c.loop-number.deltas.items
          ++ flat_map (λ (e : ℕ × Option Node). recounted (node_made ps e.0 e.1) (node_made ps e.0 (node_at (record { 0 = e.0 }) c.args.sight.now.graph.now)) row) left) (sym steps)
          ∙ so_far.made row);
      fit = (first_of_all (IsFitAt c.args.sight.now.graph ps) c.loop-number.number-iterator c.next.new.self (c.in-Some.number, option_copied c.in-Some.was) steps so_far.fit).1;
      bounded = c.in_ok-add_node.ensures.bounded so_far.bounded;
      graph = ap (λ (s : SightState). s.graph) c.node.ensures.read ∙ so_far.graph;
      reads = one_less c.loop-number.number-iterator c.next.new.self (c.in-Some.number, option_copied c.in-Some.was) c.args.sight.now.reads c.loop-number.sight.reads c.node.new.self.reads _ steps so_far.reads
          (one_read c.loop-number.sight c.node.new.self c.node.ensures.read);
    }
