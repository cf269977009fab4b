use Rattle.std.proofs.Common.{sym, subst, ap, refl, ◌∙◌}
use Rattle.std.proofs.lemmas.Bool.{true≢false}
use Rattle.cy_values.specs.declared.scalars.Value.{Value}
use Rattle.cy_values.specs.contracts.scalars.ValuePartialEq.TheImpl as value_eq
use Rattle.cy_graph.proofs.Same.{same_values, value_itself}
use Rattle.cy_network_sources.specs.internal.Attributes.{AreAttributes}
use Rattle.cy_network_sources.proofs.attributes.Attributes.changed.Goals as goal

pub returns-then-eq : goal.returns-then-eq
returns-then-eq c = subst (λ (w : Value). AreAttributes w c.args.value c.same.result) (sym (same_values c.args.was c.args.value (sym c.eq.ensures ∙ c.if-eq.true))) c.same.ensures

pub returns-else-eq : goal.returns-else-eq
returns-else-eq c = (refl, (refl, λ same. true≢false (sym (value_itself c.args.was) ∙ ap ((value_eq.eq-value).it c.args.was) same ∙ sym c.eq.ensures ∙ c.if-eq.false)))
