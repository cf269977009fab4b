use Rattle.cy_feeds.proofs.Telling.{new_feeds_tell, pushed_feeds_tell, quiet_feeds_tell}
use Rattle.cy_feeds.proofs.laws.feeds_tell.Goals as goal

pub returns-clause-new : goal.returns-clause-new
returns-clause-new c = new_feeds_tell

pub returns-clause-pushed : goal.returns-clause-pushed
returns-clause-pushed c = pushed_feeds_tell

pub returns-clause-quiet : goal.returns-clause-quiet
returns-clause-quiet c = quiet_feeds_tell
