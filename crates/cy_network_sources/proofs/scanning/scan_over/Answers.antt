use Rattle.std.proofs.Common.{◌≡◌, ℕ, List, Option, IfSome, Bor, map, ap, sym, subst, ◌∙◌, arith}
use Rattle.cy_network_sources.specs.Scans.{scan_reads}
use Rattle.cy_network_sources.specs.internal.Through.{IsNeeded}
use Rattle.cy_planner_algebra.specs.declared.operators.Operator.TheFolds.{fold-roll-Operator}
use Rattle.cy_planner_algebra.specs.declared.operators.Operator.TheOpen.{Operator-F}
use Rattle.cy_planner_algebra.specs.declared.operators.Operator.TheVariants.{rolls-Nodes, rolls-Rels}
use Rattle.cy_planner_algebra.specs.Plans as plan
use Rattle.cy_planner_algebra.specs.Plans.{Plan}
use Rattle.cy_planner_algebra.specs.PlanModels.{plan_of, plan_step}
use Rattle.cy_network_sources.proofs.ThroughScans.{if_ok_then, nodes_delta, nodes_fit, rels_delta, rels_fit}
use Rattle.cy_network_sources.proofs.FirstScans.{all_fit, all_many, first_delta}
use Rattle.cy_network_sources.proofs.Elsewhere.{reads_else}
use Rattle.cy_network_sources.proofs.scanning.scan_over.Goals as goal

pub scan_nodes-requires : goal.scan_nodes-requires
scan_nodes-requires c =
    let is : plan_of c.args.leaf.now ≡ plan.nodes = ap plan_of (c.in-Nodes.is ∙ sym rolls-Nodes) ∙ fold-roll-Operator Plan plan_step Operator-F.Nodes in
    let ps = map (λ part. plan_of part.now) c.args.parts.now in
    record { fit = nodes_fit c.requires.scan.0 c.args.sight.now.graph.now c.args.change.now ps (plan_of c.args.leaf.now) c.requires.scan.1.0 c.requires.scan.1.1 is }

pub returns-after-from_nothing-clause-delta : goal.returns-after-from_nothing-clause-delta
returns-after-from_nothing-clause-delta c =
    let is : plan_of c.args.leaf.now ≡ plan.nodes = ap plan_of (c.in-Nodes.is ∙ sym rolls-Nodes) ∙ fold-roll-Operator Plan plan_step Operator-F.Nodes in
    let ps = map (λ part. plan_of part.now) c.args.parts.now in
    if_ok_then _ _ c.scan_nodes.result
    (λ deltas made before p over. nodes_delta before c.args.sight.now.graph.now c.args.change.now ps (plan_of c.args.leaf.now) p over is deltas.items made)
    c.scan_nodes.ensures.made

pub first_nodes-requires : goal.first_nodes-requires
first_nodes-requires c =
    let is : plan_of c.args.leaf.now ≡ plan.nodes = ap plan_of (c.in-Nodes.is ∙ sym rolls-Nodes) ∙ fold-roll-Operator Plan plan_step Operator-F.Nodes in
    let ps = map (λ part. plan_of part.now) c.args.parts.now in
    let over = c.requires.scan.1.1 in
    record {
      graph = over.scan.change.graph_now;
      needed = subst (λ (o : Option (Bor (List ℕ))). IfSome o (λ l. IsNeeded l.now ps)) c.in-Some.is c.needed_label.ensures;
      fit = all_fit c.requires.scan.0 c.args.sight.now.graph.now c.args.change.now ps (plan_of c.args.leaf.now) c.requires.scan.1.0 over is;
    }

pub returns-in-Some-clause-delta : goal.returns-in-Some-clause-delta
returns-in-Some-clause-delta c =
    let is : plan_of c.args.leaf.now ≡ plan.nodes = ap plan_of (c.in-Nodes.is ∙ sym rolls-Nodes) ∙ fold-roll-Operator Plan plan_step Operator-F.Nodes in
    let ps = map (λ part. plan_of part.now) c.args.parts.now in
    if_ok_then _ _ c.first_nodes.result
    (λ deltas made before p over. first_delta before c.args.sight.now.graph.now c.args.change.now ps (plan_of c.args.leaf.now) p over is (c.requires.nothing c.if-from_nothing.true) deltas.items made)
    c.first_nodes.ensures.made

pub returns-in-Some-clause-reads : goal.returns-in-Some-clause-reads
returns-in-Some-clause-reads c =
    let is : plan_of c.args.leaf.now ≡ plan.nodes = ap plan_of (c.in-Nodes.is ∙ sym rolls-Nodes) ∙ fold-roll-Operator Plan plan_step Operator-F.Nodes in
    let over = c.requires.scan.1.1 in
    let reads = c.first_nodes.ensures.reads in
    let many = all_many c.requires.scan.0 c.args.sight.now.graph.now c.args.change.now (c.requires.nothing c.if-from_nothing.true) over.scan.change in
    let same = ap (scan_reads c.args.change.now) is in
    omega (arith, reads, many, same)

pub scan_rels-requires : goal.scan_rels-requires
scan_rels-requires c =
    let is : plan_of c.args.leaf.now ≡ plan.rels c.deref.result.now c.in-Rels.orientation =
    ap plan_of (c.in-Rels.is ∙ sym (rolls-Rels c.in-Rels.types c.in-Rels.orientation)) ∙ fold-roll-Operator Plan plan_step _
    ∙ ap (λ types. plan.rels types c.in-Rels.orientation) (sym c.deref.ensures.value) in
    let ps = map (λ part. plan_of part.now) c.args.parts.now in
    record { fit = rels_fit c.requires.scan.0 c.args.sight.now.graph.now c.args.change.now ps (plan_of c.args.leaf.now) c.requires.scan.1.0 c.requires.scan.1.1 c.deref.result.now c.in-Rels.orientation is }

pub returns-in-Rels-clause-delta : goal.returns-in-Rels-clause-delta
returns-in-Rels-clause-delta c =
    let is : plan_of c.args.leaf.now ≡ plan.rels c.deref.result.now c.in-Rels.orientation =
    ap plan_of (c.in-Rels.is ∙ sym (rolls-Rels c.in-Rels.types c.in-Rels.orientation)) ∙ fold-roll-Operator Plan plan_step _
    ∙ ap (λ types. plan.rels types c.in-Rels.orientation) (sym c.deref.ensures.value) in
    let ps = map (λ part. plan_of part.now) c.args.parts.now in
    if_ok_then _ _ c.scan_rels.result
    (λ deltas made before p over. rels_delta before c.args.sight.now.graph.now c.args.change.now ps (plan_of c.args.leaf.now) p over c.deref.result.now c.in-Rels.orientation is deltas.items made)
    c.scan_rels.ensures.made

pub unreachable-requires : goal.unreachable-requires
unreachable-requires c = cc (reads_else c.args.leaf.now c.in_default.not-Nodes c.in_default.not-Rels, c.requires.leaf)
