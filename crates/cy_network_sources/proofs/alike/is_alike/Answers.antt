use Rattle.cy_network_sources.specs.internal.Through.{attribute_in}
use Rattle.cy_network_sources.proofs.Elsewhere.{alike_else}
use Rattle.cy_network_sources.proofs.alike.is_alike.Goals as goal

pub returns-in_default : goal.returns-in_default
returns-in_default c = λ yes rows. alike_else c.args.part.now (attribute_in c.args.old) (attribute_in c.args.new) rows c.in_default.not-Lookup
