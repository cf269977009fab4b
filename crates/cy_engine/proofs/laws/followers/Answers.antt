use Rattle.cy_engine.proofs.Polls.{followers_agree}
use Rattle.cy_engine.proofs.laws.followers.Goals as goal

pub returns : goal.returns
returns c = followers_agree c.feeds_tell.ensures.new c.feeds_tell.ensures.pushed c.feeds_tell.ensures.quiet c.followers_go_on.ensures.go_on
