use Rattle.cy_shell.proofs.PrintedHeadline.{headline_is_printed}
use Rattle.cy_shell.proofs.laws.headline_is_printed.Goals as goal

pub returns : goal.returns
returns c = headline_is_printed c.headline.ensures.holds
