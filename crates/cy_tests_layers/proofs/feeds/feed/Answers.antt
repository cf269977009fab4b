use Rattle.std.proofs.Common.{◌<◌, ◌+◌, ℕ, sym, subst, arith}
use Rattle.cy_bags.specs.declared.changes.Entry.{Entry}
use Rattle.cy_feeds.specs.Feeds.{Kept, latest}
use Rattle.cy_feeds.proofs.Pushes.{latest_pushed}
use Rattle.cy_tests_layers.proofs.feeds.feed.Goals as goal

abbrev latest_of : Kept → ℕ
latest_of feed = latest feed.history.base feed.history.entries

pub loop-tick-init : goal.loop-tick-init
loop-tick-init c = subst (λ (f : Kept). latest_of f < 2) (sym c.new-feed.ensures) (omega arith)

pub push-requires-clause-rising : goal.push-requires-clause-rising
push-requires-clause-rising c =
    subst (λ (f : Kept). latest_of f < c.loop-tick.tick) (sym c.reserve.ensures.same) c.loop-tick.invariant

pub loop-tick-preserved : goal.loop-tick-preserved
loop-tick-preserved c =
    let entry : Entry = record { tick = c.loop-tick.tick; change = record { removed = c.new-removed.result; added = c.new-added.result } } in
    subst (λ (f : Kept). latest_of f < c.loop-tick.tick + 1) (sym c.push.ensures) (omega (arith, latest_pushed entry c.reserve.new.self.history))
