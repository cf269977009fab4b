use Rattle.std.proofs.Common.{Some, ap, sym, ◌∙◌}
use Rattle.std.specs.Option.{option_copied}
use Rattle.cy_graph.specs.Maps.{value_at}
use Rattle.cy_graph.proofs.Same.{same_values}
use Rattle.cy_network_sources.proofs.alike.have_same_property.Goals as goal

pub returns-in-Some-Some : goal.returns-in-Some-Some
returns-in-Some-Some c = λ yes.
    let found = c.in-Some-Some in
    ap (λ name. value_at name c.args.old.now) (sym c.as_str.ensures) ∙ sym c.get.ensures ∙ ap option_copied found.is-0
    ∙ ap Some (same_values found.old.now found.new.now (sym c.eq.ensures ∙ yes))
    ∙ sym (ap option_copied found.is-1) ∙ c.get-2.ensures ∙ ap (λ name. value_at name c.args.new.now) c.as_str-2.ensures
