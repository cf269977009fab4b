use Rattle.std.proofs.Common.{sym, ap, ◌∙◌}
use Rattle.cy_oneshot_meaning.specs.Groups.{last_or_null}
use Rattle.cy_oneshot_projections.proofs.AggregateAnswers.{last_of}
use Rattle.cy_oneshot_projections.proofs.aggregates.last.Goals as goal

pub returns-in-Some : goal.returns-in-Some
returns-in-Some c = sym (ap last_or_null c.in-Some.ensures.items ∙ last_of c.pop.new.self.items c.in-Some.value)
