use Rattle.std.proofs.Common.{sym}
use Rattle.cy_network_sources.proofs.Elsewhere.{column_else}
use Rattle.cy_network_sources.proofs.scan_columns.column_over.Goals as goal

pub returns-in_default : goal.returns-in_default
returns-in_default c = sym (column_else c.args.part.now c.args.below c.in_default.not-Nodes c.in_default.not-Rels c.in_default.not-Lookup c.in_default.not-Filter c.in_default.not-AllDifferent c.in_default.not-Project)
