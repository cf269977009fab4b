use Rattle.cy_engine_lines.proofs.Effects.{effects, exact}
use Rattle.cy_engine.proofs.Following.{headline_holds}
use Rattle.cy_engine.proofs.laws.headline.Goals as goal

pub returns-clause-holds : goal.returns-clause-holds
returns-clause-holds c = headline_holds c.view_queries.ensures.statement c.no_trace.ensures.runs

pub returns-clause-entries : goal.returns-clause-entries
returns-clause-entries c = λ old new line answer entries step. exact old answer entries new (effects old answer entries new line step)
