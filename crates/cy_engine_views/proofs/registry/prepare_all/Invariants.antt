use Rattle.std.proofs.Common.{◌≡◌}
use Rattle.cy_network_sources.specs.Changes.{before_change}
use Rattle.cy_engine_views.proofs.Going.{FirstDone}
use Rattle.cy_engine_views.proofs.Steps.{IsPreparedFrom}
use Rattle.cy_engine_views.proofs.registry.prepare_all.Given as goal

-- the views so far are ready, and the others as they were
abbrev pub invariant-loop-at : goal.invariant-loop-at
invariant-loop-at l =
    record {
      done : FirstDone (IsPreparedFrom (before_change l.initial.sight.graph) l.initial.sight.graph.now) l.at l.initial.registry.entries l.registry.entries;
      graph : l.sight.graph ≡ l.initial.sight.graph;
    }
