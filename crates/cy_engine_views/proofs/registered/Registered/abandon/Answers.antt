use Rattle.std.proofs.Common.{false, None, refl}
use Rattle.cy_engine_views.specs.declared.registered.Registered.{Registered}
use Rattle.cy_engine_views.proofs.Readying.{abandoned_rests}
use Rattle.cy_engine_views.proofs.registered.Registered.abandon.Goals as goal

pub returns-clause-rests : goal.returns-clause-rests
returns-clause-rests c =
    let next : Registered = record c.args.self.now { rows = c.abandon.new.self; prepared = false; change = None } in
    abandoned_rests c.args.self.now next c.if-not-self.false c.abandon.ensures.stands refl refl refl
