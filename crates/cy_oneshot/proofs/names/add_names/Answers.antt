use Rattle.std.proofs.Common.{◌+◌, List, map, drop, sym, ap, ◌∙◌}
use Rattle.cy_trees.specs.declared.clauses.Path.{Path}
use Rattle.cy_trees.specs.Trees.{Name}
use Rattle.cy_trees.specs.TreeModels.{path_of, step_of}
use Rattle.cy_oneshot_patterns.specs.Places.{places}
use Rattle.cy_oneshot_meaning.specs.Queries.{with_new_names}
use Rattle.cy_oneshot.specs.internal.Names.{with_steps_names}
use Rattle.cy_oneshot.proofs.NewNames.{path_names}
use Rattle.cy_oneshot_patterns.proofs.SliceReads.{next_of}
use Rattle.cy_oneshot.proofs.names.add_names.Goals as goal

pub loop-path-preserved : goal.loop-path-preserved
loop-path-preserved c =
    let all = c.args.paths.now in
    let i = c.loop-path.path-index in
    let path = c.path-item.result in
    let rest = map path_of (drop (i + 1) all) in
    ap (λ (l : List Name). with_new_names l (places rest))
    ((rw c.deref.ensures.value at c.in_ok-add_steps.ensures) ∙ ap (λ (l : List Name). with_steps_names l (map step_of path.steps.items)) c.in_ok-add_name.ensures)
    ∙ sym (path_names c.loop-path.columns.items (path_of path) rest)
    ∙ ap (λ (l : List Path). with_new_names c.loop-path.columns.items (places (map path_of l))) (sym (next_of all i path c.loop-path-test.true c.path-item.is))
    ∙ c.loop-path.invariant
