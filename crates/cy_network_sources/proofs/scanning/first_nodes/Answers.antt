use Rattle.std.proofs.Common.{◌≡◌, ℕ, ◌+◌, ◌≤◌, length, map, ap, ◌∙◌, arith}
use Rattle.std.specs.Prelude.{flat_map}
use Rattle.cy_index.specs.Index.{labelled_nodes}
use Rattle.cy_planner_algebra.specs.PlanModels.{plan_of}
use Rattle.cy_network_sources.proofs.FirstScans.{come, found_there, labelled_come, labelled_fewer}
use Rattle.cy_network_sources.proofs.ThroughScans.{if_ok_then}
use Rattle.cy_network_sources.proofs.scanning.first_nodes.Goals as goal

pub returns-clause-made : goal.returns-clause-made
returns-clause-made c =
    let ps = map (λ part. plan_of part.now) c.args.parts.now in
    let now = c.args.sight.now.graph.now in
    if_ok_then _ _ c.come_nodes.result
    (λ deltas made row.
    made row
    ∙ ap (flat_map (come now ps row)) (c.in_ok-ids.ensures ∙ ap (λ name. labelled_nodes name now.content) c.as_str.ensures)
    ∙ labelled_come now c.args.label.now ps c.requires.needed row now.content.nodes (found_there now c.requires.graph))
    c.come_nodes.ensures.made

pub returns-clause-reads : goal.returns-clause-reads
returns-clause-reads c =
    let now = c.args.sight.now.graph.now in
    let many = ap length (c.in_ok-ids.ensures ∙ ap (λ name. labelled_nodes name now.content) c.as_str.ensures) in
    let fewer = labelled_fewer c.args.label.now now.content in
    let reads = c.come_nodes.ensures.reads in
    omega (arith, many, fewer, reads)
