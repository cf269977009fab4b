use Rattle.cy_engine.proofs.TakenOver.{entries_can_be_taken}
use Rattle.cy_engine.proofs.laws.entries_can_be_taken.Goals as goal

pub returns : goal.returns
returns c = entries_can_be_taken c.feeds_tell.ensures.new c.feeds_tell.ensures.pushed c.feeds_tell.ensures.quiet c.followers_go_on.ensures.go_on
