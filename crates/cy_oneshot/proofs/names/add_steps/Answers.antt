use Rattle.std.proofs.Common.{◌+◌, List, map, drop, sym, ap, ◌∙◌}
use Rattle.cy_trees.specs.declared.clauses.Step.{Step}
use Rattle.cy_trees.specs.Trees.{Name}
use Rattle.cy_trees.specs.TreeModels.{step_of}
use Rattle.cy_oneshot.specs.internal.Names.{with_name, with_steps_names}
use Rattle.cy_oneshot_patterns.proofs.SliceReads.{next_of}
use Rattle.cy_oneshot.proofs.names.add_steps.Goals as goal

pub loop-step-preserved : goal.loop-step-preserved
loop-step-preserved c =
    let all = c.args.steps.now in
    let i = c.loop-step.step-index in
    ap (λ (l : List Name). with_steps_names l (map step_of (drop (i + 1) all)))
    (c.in_ok-add_name-2.ensures ∙ ap (λ (l : List Name). with_name l c.step-item.result.node.variable) c.in_ok-add_name.ensures)
    ∙ ap (λ (l : List Step). with_steps_names c.loop-step.columns.items (map step_of l)) (sym (next_of all i c.step-item.result c.loop-step-test.true c.step-item.is))
    ∙ c.loop-step.invariant
