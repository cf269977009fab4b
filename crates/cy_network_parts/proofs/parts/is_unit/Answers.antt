use Rattle.std.proofs.Common.{sym}
use Rattle.cy_network_parts.proofs.Elsewhere.{unit_else}
use Rattle.cy_network_parts.proofs.parts.is_unit.Goals as goal

pub returns-in_default : goal.returns-in_default
returns-in_default c = sym (unit_else c.args.part.now c.in_default.not-Unit)
