use Rattle.std.proofs.Common.{sym, ◌∙◌}
use Rattle.cy_network_parts.proofs.Same.{sooner_over}
use Rattle.cy_network_parts.proofs.same_plans.same_columns.Goals as goal

pub returns-in_default : goal.returns-in_default
returns-in_default c = sym (sooner_over c.args.side c.args.keys.now c.loop-key.rest.rest.now c.loop-key.key-index c.loop-key-test.true c.in_default.ensures.steps.0) ∙ c.loop-key.invariant
