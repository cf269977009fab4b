-- The items before have their places.
use Rattle.std.proofs.Common.{take}
use Rattle.std.specs.List.{All}
use Rattle.cy_scope.proofs.TreeWordsLemmas.{IsPlaced}
use Rattle.cy_scope.proofs.repeats.places_of.Given as goal

abbrev pub invariant-loop-place : goal.invariant-loop-place
invariant-loop-place l = All (IsPlaced l.places.entries) (take l.place l.items)
