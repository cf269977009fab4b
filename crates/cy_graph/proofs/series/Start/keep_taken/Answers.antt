use Rattle.std.proofs.Common.{refl}
use Rattle.cy_graph.proofs.Steps.{kept_first}
use Rattle.cy_graph.proofs.series.Start.keep_taken.Goals as goal

pub returns-then-is_first_change : goal.returns-then-is_first_change
returns-then-is_first_change g c = kept_first c.args.slot c.args.number c.args.value c.args.self.now _ refl (c.is_first_change.ensures.0 c.if-is_first_change.true) c.add.ensures
