use Rattle.std.proofs.Common.{ap, ◌∙◌}
use Rattle.std.specs.List.{list_any}
use Rattle.std.proofs.lemmas.List.{take_all}
use Rattle.cy_index.specs.internal.Under.{is_key_of_label}
use Rattle.cy_index.proofs.Labels.{labels_all}
use Rattle.cy_index.proofs.keys.node_keys.Goals as goal

-- each label was taken
pub returns : goal.returns
returns c = λ k.
    let l = c.loop-label in
    let chosen = c.args.chosen.now in
    let props = c.args.props.now in
    l.invariant k
    ∙ ap (list_any (λ e. is_key_of_label chosen e.0 props k)) (take_all l.label-index c.entries-label-items.result.now c.loop-label-test.false ∙ c.entries-label-items.ensures.all)
    ∙ labels_all chosen props c.args.labels.now k
