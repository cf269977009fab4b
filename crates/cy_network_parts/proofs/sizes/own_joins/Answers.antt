use Rattle.cy_network_parts.proofs.Elsewhere.{joins_else}
use Rattle.cy_network_parts.proofs.sizes.own_joins.Goals as goal

pub returns-in_default : goal.returns-in_default
returns-in_default c = joins_else c.args.part.now c.in_default.not-Join
