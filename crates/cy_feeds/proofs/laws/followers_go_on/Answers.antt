use Rattle.cy_feeds.proofs.GoingOn.{copies_change, followers_go_on}
use Rattle.cy_feeds.proofs.laws.followers_go_on.Goals as goal

pub returns-clause-go_on : goal.returns-clause-go_on
returns-clause-go_on c = followers_go_on

pub returns-clause-change : goal.returns-clause-change
returns-clause-change c = copies_change
