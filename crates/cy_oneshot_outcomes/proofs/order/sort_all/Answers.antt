use Rattle.cy_oneshot_meaning.proofs.OrderedLists.{sorted_is}
use Rattle.cy_oneshot_outcomes.proofs.order.sort_all.Goals as goal

pub returns : goal.returns
returns g c =
    sorted_is g.T.Ord.cmp g.met.T.Ord.total c.requires c.args.things.now.items c.sort_unstable.new.self.items c.sort_unstable.ensures.permutation c.sort_unstable.ensures.sorted
