use Rattle.std.proofs.Common.{◌<◌}
use Rattle.cy_feeds.specs.Feeds.{latest}
use Rattle.cy_tests_layers.proofs.feeds.feed.Given as goal

-- no entry is there of this tick or of one above it
abbrev pub invariant-loop-tick : goal.invariant-loop-tick
invariant-loop-tick l = latest l.feed.history.base l.feed.history.entries < l.tick
