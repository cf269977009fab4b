use Rattle.std.proofs.Common.{◌≡◌, ℕ, Option, length, refl, sym, ap, subst, ◌∙◌, arith}
use Rattle.std.specs.List.{All}
use Rattle.std.specs.Option.{option_copied}
use Rattle.std.proofs.lemmas.List.Elements.{All-cons, All-nil}
use Rattle.cy_graph.specs.declared.nodes.Rel.{Rel}
use Rattle.cy_graph.specs.Graph.{Versions, rel_at}
use Rattle.cy_index.specs.Index.{SightState}
use Rattle.cy_planner_algebra.specs.Plans.{Plan}
use Rattle.cy_planner_algebra.specs.PlanModels.{plan_of}
use Rattle.cy_network_sources.proofs.AttributeLemmas.{one_less}
use Rattle.cy_network_relevance.specs.internal.Kept.{IsRelUnchanged}
use Rattle.cy_network_relevance.proofs.Rules.{one_read}
use Rattle.cy_network_relevance.proofs.plans.changes_by_rels.Goals as goal

abbrev Unchanged : Versions → Plan → ℕ × Option Rel → Type 0
Unchanged graph p e = IsRelUnchanged e.1 (rel_at (record { 0 = e.0 }) graph.now) p

pub loop-number-init : goal.loop-number-init
loop-number-init c =
    let P = Unchanged c.args.sight.now.graph (plan_of c.args.part.now) in
    let all = c.into_iter-number-iterator.ensures.into_iter_gives ∙ c.rels-number-items.ensures in
    let many : length c.into_iter-number-iterator.result ≡ length c.args.change.now.rels = ap length all in
    record { unchanged = λ more. subst (All P) all more; graph = refl; reads = omega (arith, many) }

pub loop-number-preserved : goal.loop-number-preserved
loop-number-preserved c =
    let p = plan_of c.args.part.now in
    let P = Unchanged c.args.sight.now.graph p in
    let so_far = c.loop-number.invariant in
    let steps = c.in-Some.ensures.steps in
    let here : ℕ × Option Rel = (c.in-Some.number, option_copied c.in-Some.was) in
    let now = c.rel-now.ensures.rel ∙ ap (λ (g : Versions). rel_at (record { 0 = c.in-Some.number }) g.now) so_far.graph in
    let kept : P here = subst (λ (o : Option Rel). IsRelUnchanged (option_copied c.in-Some.was) o p) now (c.is_unchanged.ensures c.if-not-is_unchanged.false) in
    record {
      unchanged = λ more.
          so_far.unchanged
          (subst (All P) (sym steps) (All-cons P here c.next.new.self kept more));
      graph = ap (λ (s : SightState). s.graph) c.rel-now.ensures.read ∙ so_far.graph;
      reads = one_less c.loop-number.number-iterator c.next.new.self (c.in-Some.number, option_copied c.in-Some.was) c.args.sight.now.reads c.loop-number.sight.reads c.rel-now.new.self.reads _ steps so_far.reads
          (one_read c.loop-number.sight c.rel-now.new.self c.rel-now.ensures.read);
    }

pub returns-clause-unchanged : goal.returns-clause-unchanged
returns-clause-unchanged c = λ no.
    let P = Unchanged c.args.sight.now.graph (plan_of c.args.part.now) in
    c.loop-number.invariant.unchanged (subst (All P) (sym c.in-None.ensures.steps.0) (All-nil P))
