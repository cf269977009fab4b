use Rattle.std.proofs.Common.{◌∙◌}
use Rattle.std.proofs.lemmas.List.Filters.{dedup_is}
use Rattle.cy_oneshot_meaning.proofs.OrderedLists.{deduped_is}
use Rattle.cy_oneshot_outcomes.proofs.order.sort_once.Goals as goal

pub returns : goal.returns
returns g c =
    dedup_is g.T.PartialEq.eq c.sort_unstable.new.self.items c.dedup.new.self.items c.dedup.ensures.filtered
    ∙ deduped_is g.T.Ord.cmp g.met.T.Ord.total c.requires c.args.things.now.items c.sort_unstable.new.self.items g.T.PartialEq.eq g.met.T.Ord.matches_eq
    c.sort_unstable.ensures.permutation c.sort_unstable.ensures.sorted
