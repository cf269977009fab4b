use Rattle.std.proofs.Common.{◌≡◌, ◌+◌, List, ap, drop, ◌∙◌}
use Rattle.std.specs.Prelude.{⊤}
use Rattle.cy_trees.specs.Trees.{Name}
use Rattle.cy_graph.specs.Maps.{with_value}
use Rattle.cy_oneshot_patterns.proofs.SliceReads.{next_of}
use Rattle.cy_updates_meaning.proofs.InTurn.{next_folds}
use Rattle.cy_updates.proofs.writes.maps.few_labels.Goals as goal

pub loop-label-preserved : goal.loop-label-preserved
loop-label-preserved c =
    let l = c.loop-label in
    let labels = c.args.labels.now in
    let label = c.label-item.result in
    let set = l.set in
    let added : c.insert.new.self ≡ with_value label tt set = c.in_ok-insert.ensures.ok ∙ ap (λ (k : Name). with_value k tt set) c.in_ok-name.ensures in
    next_folds (λ (so_far : List (Name × ⊤)) (k : Name). with_value k tt so_far) (drop l.label-index labels) set _ l.invariant (drop (l.label-index + 1) labels) label
    (next_of labels l.label-index label c.loop-label-test.true c.label-item.is) c.insert.new.self added
