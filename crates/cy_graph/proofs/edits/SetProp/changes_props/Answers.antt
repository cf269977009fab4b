use Rattle.std.proofs.Common.{sym, ap, ◌∙◌}
use Rattle.cy_graph.specs.Maps.{value_at}
use Rattle.cy_graph.proofs.Same.{same_options, same_values, not_other}
use Rattle.cy_graph.proofs.Unchanged.{prop_same}
use Rattle.cy_graph.proofs.edits.SetProp.changes_props.Goals as goal

-- what is there is what is to be set
pub returns : goal.returns
returns c passes =
    let same = same_options _ (λ r. r.now) (λ x y. same_values x.now y.now) c.get.result c.as_ref.result (not_other c.ne.result _ c.ne.ensures passes) in
    prop_same c.args.self.now.key c.args.self.now.value c.args.props.now c.entries-rising.ensures.rising
    (ap (λ k. value_at k c.args.props.now) (sym c.as_str.ensures) ∙ sym c.get.ensures ∙ same ∙ c.as_ref.ensures.value)
