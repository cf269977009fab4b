use Rattle.std.proofs.Common.{◌≡◌, [], List, reverse, rules, sym, ap, ◌∙◌}
use Rattle.cy_graph.specs.declared.adjacency.Step.{Step}
use Rattle.cy_graph.specs.internal.Adjacency.{ids_at, undone}
use Rattle.cy_graph.proofs.Undoing.{one_undone}
use Rattle.cy_graph.proofs.adjacency.Adjacency.rollback.Goals as goal

-- the latest step is undone
pub loop-step-preserved : goal.loop-step-preserved
loop-step-preserved c =
    let before = c.loop-step.self.lists in
    let after = c.undo.new.lists in
    one_undone c.loop-step.self.steps.items c.pop.new.self.items c.in-Some.step (λ m. ids_at m before) (λ m. ids_at m after) _ c.in-Some.ensures.items c.undo.ensures c.loop-step.invariant

-- nothing is left to be undone
pub returns-clause-ids : goal.returns-clause-ids
returns-clause-ids c m =
    let none : c.loop-step.self.steps.items ≡ [] = search rules in
    sym (ap (λ (steps : List Step). undone (reverse steps) (λ n. ids_at n c.loop-step.self.lists) m) none) ∙ c.loop-step.invariant m
