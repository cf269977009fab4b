use Rattle.std.proofs.Common.{◌≡◌, ℕ, Option, length, refl, sym, ap, subst, ◌∙◌, arith}
use Rattle.std.specs.List.{All}
use Rattle.std.specs.Option.{option_copied}
use Rattle.std.proofs.lemmas.List.Elements.{All-cons, All-nil}
use Rattle.cy_graph.specs.declared.nodes.Node.{Node}
use Rattle.cy_graph.specs.Graph.{Versions, node_at}
use Rattle.cy_index.specs.Index.{SightState}
use Rattle.cy_planner_algebra.specs.Plans.{Plan}
use Rattle.cy_planner_algebra.specs.PlanModels.{plan_of}
use Rattle.cy_network_sources.proofs.AttributeLemmas.{one_less}
use Rattle.cy_network_relevance.specs.internal.Kept.{IsNodeUnchanged}
use Rattle.cy_network_relevance.proofs.Rules.{one_read}
use Rattle.cy_network_relevance.proofs.plans.changes_by_nodes.Goals as goal

abbrev Unchanged : Versions → Plan → ℕ × Option Node → Type 0
Unchanged graph p e = IsNodeUnchanged e.1 (node_at (record { 0 = e.0 }) graph.now) p

pub loop-number-init : goal.loop-number-init
loop-number-init c =
    let P = Unchanged c.args.sight.now.graph (plan_of c.args.part.now) in
    let all = c.into_iter-number-iterator.ensures.into_iter_gives ∙ c.nodes-number-items.ensures in
    let many : length c.into_iter-number-iterator.result ≡ length c.args.change.now.nodes = ap length all in
    record { unchanged = λ more. subst (All P) all more; graph = refl; reads = omega (arith, many) }

pub loop-number-preserved : goal.loop-number-preserved
loop-number-preserved c =
    let p = plan_of c.args.part.now in
    let P = Unchanged c.args.sight.now.graph p in
    let so_far = c.loop-number.invariant in
    let steps = c.in-Some.ensures.steps in
    let here : ℕ × Option Node = (c.in-Some.number, option_copied c.in-Some.was) in
    let now = c.node-now.ensures.node ∙ ap (λ (g : Versions). node_at (record { 0 = c.in-Some.number }) g.now) so_far.graph in
    let kept : P here = subst (λ (o : Option Node). IsNodeUnchanged (option_copied c.in-Some.was) o p) now (c.is_unchanged.ensures c.if-not-is_unchanged.false) in
    record {
      unchanged = λ more.
          so_far.unchanged
          (subst (All P) (sym steps) (All-cons P here c.next.new.self kept more));
      graph = ap (λ (s : SightState). s.graph) c.node-now.ensures.read ∙ so_far.graph;
      reads = one_less c.loop-number.number-iterator c.next.new.self (c.in-Some.number, option_copied c.in-Some.was) c.args.sight.now.reads c.loop-number.sight.reads c.node-now.new.self.reads _ steps so_far.reads
          (one_read c.loop-number.sight c.node-now.new.self c.node-now.ensures.read);
    }

pub returns-clause-unchanged : goal.returns-clause-unchanged
returns-clause-unchanged c = λ no.
    let P = Unchanged c.args.sight.now.graph (plan_of c.args.part.now) in
    c.loop-number.invariant.unchanged (subst (All P) (sym c.in-None.ensures.steps.0) (All-nil P))
