use Rattle.std.proofs.Common.{rules, arith, ap, ◌∙◌}
use Rattle.std.proofs.lemmas.Fn.{always_returns_same}
use Rattle.cy_feeds.specs.declared.feeds.Answer.TheVariants.{Entries}
use Rattle.cy_feeds.specs.Feeds.{History}
use Rattle.cy_feeds.proofs.Asked.{answered_from, is_until, parted}
use Rattle.cy_feeds.proofs.feeds.Feed.since.Goals as goal

pub returns : goal.returns
returns c =
    let kept = c.self.inside in
    let feed : History = record { limit = kept.history; base = kept.base; entries = kept.entries.items } in
    let point = c.partition_point-start.ensures.partitioned (is_until c.args.tick) (always_returns_same _ _ _ (λ a r f called. search rules)) (parted kept.base c.args.tick kept.entries.items c.self.invariant.2) in
    rw (← c.self.view_is) (ap Entries c.new.ensures ∙ answered_from feed c.args.tick c.partition_point-start.result c.loop-at.at c.loop-at.entries.items c.if-tick-self.false
    (omega (arith, c.partition_point-start.ensures.bound, kept.entries.ok.0)) (omega (arith, c.len-at-end.ensures, kept.entries.ok.0, c.loop-at-test.false)) (rw (← c.self.view_is) at c.loop-at.invariant) point)
