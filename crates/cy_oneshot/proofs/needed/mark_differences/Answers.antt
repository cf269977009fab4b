use Rattle.cy_oneshot.proofs.Marked.{still_nothing}
use Rattle.cy_oneshot.proofs.needed.mark_differences.Goals as goal

pub returns-in_default-clause-still : goal.returns-in_default-clause-still
returns-in_default-clause-still c = still_nothing c.args.needed.now.items
