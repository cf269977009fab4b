use Rattle.std.proofs.Common.{subst}
use Rattle.cy_network_parts.specs.Counted.{ArePositive}
use Rattle.cy_network.specs.declared.kept.Rows.{Rows}
use Rattle.cy_network.specs.Places.{entries_in}
use Rattle.cy_network.proofs.kept.Rows.write.Goals as goal

pub write_counts-requires-clause-positive : goal.write_counts-requires-clause-positive
write_counts-requires-clause-positive c = subst (λ (rows : Rows). ArePositive (entries_in rows)) c.in-Table.is c.requires.positive
