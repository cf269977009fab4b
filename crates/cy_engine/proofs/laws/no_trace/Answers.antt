use Rattle.cy_engine.proofs.KeptRuns.{kept_accepted}
use Rattle.cy_engine.proofs.Traces.{traces}
use Rattle.cy_engine.proofs.laws.no_trace.Goals as goal

pub returns-clause-runs : goal.returns-clause-runs
returns-clause-runs c = traces c.determined.ensures

pub returns-clause-upkeep : goal.returns-clause-upkeep
returns-clause-upkeep c = kept_accepted
