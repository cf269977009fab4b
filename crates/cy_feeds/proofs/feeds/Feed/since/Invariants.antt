use Rattle.std.proofs.Common.{◌≡◌, ◌++◌, drop}
use Rattle.cy_feeds.proofs.feeds.Feed.since.Given as goal

-- the entries so far, and those that are left, are all from the start on
abbrev pub invariant-loop-at : goal.invariant-loop-at
invariant-loop-at l = l.entries.items ++ drop l.at l.self.history.entries ≡ drop l.start l.self.history.entries
