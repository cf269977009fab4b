-- None of the clauses so far updates or projects.
use Rattle.std.proofs.Common.{◌≡◌, drop, map}
use Rattle.cy_trees.specs.TreeModels.{clause_of}
use Rattle.cy_oneshot.specs.Carried.{updates_ahead}
use Rattle.cy_oneshot.proofs.needed.updates_ahead.Given as goal

abbrev pub invariant-loop-clause : goal.invariant-loop-clause
invariant-loop-clause l = updates_ahead (map clause_of l.clauses) ≡ updates_ahead (map clause_of (drop l.clause-index l.clauses))
