use Rattle.std.proofs.Common.{◌≡◌, ℕ, ◌+◌, ◌-◌, ◌^◌, ◌≤◌, List, ◌++◌, Option, map, sym, ap, subst, ◌∙◌}
use Rattle.std.specs.Prelude.{flat_map}
use Rattle.std.specs.Option.{option_copied}
use Rattle.cy_graph.specs.declared.nodes.Rel.{Rel}
use Rattle.cy_graph.specs.Graph.{Versions, rel_at}
use Rattle.cy_index.specs.Index.{SightState}
use Rattle.cy_planner_algebra.specs.Plans.{Plan}
use Rattle.cy_planner_algebra.specs.PlanModels.{plan_of}
use Rattle.cy_network_operators.specs.Deltas.{deltas_of}
use Rattle.cy_trees.specs.Trees.{Name}
use Rattle.cy_planner_algebra.specs.declared.operators.Orientation.{Orientation}
use Rattle.cy_network_sources.specs.internal.Through.{IsRelFit, recounted, rel_made}
use Rattle.cy_network_sources.proofs.AttributeLemmas.{one_less, walked}
use Rattle.cy_network_sources.proofs.ScanDeltas.{first_of_all, rel_under}
use Rattle.cy_network_sources.proofs.FirstScans.{one_read}
use Rattle.cy_network_sources.proofs.scanning.scan_rels.Goals as goal

abbrev IsFitAt : List Name → Orientation → Versions → List Plan → ℕ × Option Rel → Type 0
IsFitAt types orientation graph ps e = IsRelFit types orientation ps e.0 e.1 × IsRelFit types orientation ps e.0 (rel_under graph.now e.0)

pub add_rel-requires-clause-old : goal.add_rel-requires-clause-old
add_rel-requires-clause-old c =
    let ps = map (λ part. plan_of part.now) c.args.scan.now.parts.now in
    (first_of_all (IsFitAt c.args.scan.now.types.now c.args.scan.now.orientation c.args.sight.now.graph ps) c.loop-number.number-iterator c.next.new.self (c.in-Some.number, option_copied c.in-Some.was) c.in-Some.ensures.steps c.loop-number.invariant.fit).0.0

pub add_rel-requires-clause-new : goal.add_rel-requires-clause-new
add_rel-requires-clause-new c =
    let ps = map (λ part. plan_of part.now) c.args.scan.now.parts.now in
    subst (IsRelFit c.args.scan.now.types.now c.args.scan.now.orientation ps c.in-Some.number)
    (sym (c.rel-new.ensures.rel ∙ ap (λ (g : Versions). rel_at (record { 0 = c.in-Some.number }) g.now) c.loop-number.invariant.graph))
    (first_of_all (IsFitAt c.args.scan.now.types.now c.args.scan.now.orientation c.args.sight.now.graph ps) c.loop-number.number-iterator c.next.new.self (c.in-Some.number, option_copied c.in-Some.was) c.in-Some.ensures.steps c.loop-number.invariant.fit).0.1

pub loop-number-preserved : goal.loop-number-preserved
loop-number-preserved c =
    let ps = map (λ part. plan_of part.now) c.args.scan.now.parts.now in
    let so_far = c.loop-number.invariant in
    let steps = c.in-Some.ensures.steps in
    let now = c.rel-new.ensures.rel ∙ ap (λ (g : Versions). rel_at (record { 0 = c.in-Some.number }) g.now) so_far.graph in
    record {
      made = λ row.
          walked (λ (e : ℕ × Option Rel). recounted (rel_made c.args.scan.now.types.now c.args.scan.now.orientation ps e.0 e.1) (rel_made c.args.scan.now.types.now c.args.scan.now.orientation ps e.0 (rel_at (record { 0 = e.0 }) c.args.sight.now.graph.now)) row)
          (c.in-Some.number, option_copied c.in-Some.was) c.next.new.self
          (deltas_of row c.loop-number.deltas.items) (deltas_of row c.add_rel.new.deltas.items) _
          (c.in_ok-add_rel.ensures.made row
          ∙ ap (λ (o : Option Rel). deltas_of row c.loop-number.deltas.items ++ recounted (rel_made c.args.scan.now.types.now c.args.scan.now.orientation ps c.in-Some.number (option_copied c.in-Some.was)) (rel_made c.args.scan.now.types.now c.args.scan.now.orientation ps c.in-Some.number o) row) now)
          (ap (λ left. deltas_of row c.loop-number.deltas.items
          ++ flat_map (λ (e : ℕ × Option Rel). recounted (rel_made c.args.scan.now.types.now c.args.scan.now.orientation ps e.0 e.1) (rel_made c.args.scan.now.types.now c.args.scan.now.orientation ps e.0 (rel_at (record { 0 = e.0 }) c.args.sight.now.graph.now)) row) left) (sym steps)
          ∙ so_far.made row);
      fit = (first_of_all (IsFitAt c.args.scan.now.types.now c.args.scan.now.orientation c.args.sight.now.graph ps) c.loop-number.number-iterator c.next.new.self (c.in-Some.number, option_copied c.in-Some.was) steps so_far.fit).1;
      bounded = c.in_ok-add_rel.ensures.bounded so_far.bounded;
      graph = ap (λ (s : SightState). s.graph) c.rel-new.ensures.read ∙ so_far.graph;
      reads = one_less c.loop-number.number-iterator c.next.new.self (c.in-Some.number, option_copied c.in-Some.was) c.args.sight.now.reads c.loop-number.sight.reads c.rel-new.new.self.reads _ steps so_far.reads
          (one_read c.loop-number.sight c.rel-new.new.self c.rel-new.ensures.read);
    }
