-- The columns so far are ranked.
use Rattle.std.proofs.Common.{◌≡◌, length, take}
use Rattle.cy_planner_rewriting.specs.internal.Ranks.{AreRanked, AreRanks}
use Rattle.cy_planner_rewriting.proofs.narrowing.ranks.ranked.Given as goal

abbrev pub invariant-loop-column : goal.invariant-loop-column
invariant-loop-column l =
    record {
      ranks : AreRanks l.ranks.items l.kept.items;
      all : length l.ranks.items ≡ l.width;
      ranked : AreRanked l.width (take l.column-index l.columns) l.kept.items l.places.items;
    }
