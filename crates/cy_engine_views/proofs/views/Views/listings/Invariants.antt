use Rattle.std.proofs.Common.{◌≡◌, ◌++◌, map}
use Rattle.cy_engine_views.specs.HeldViews.{view_of}
use Rattle.cy_engine_views.specs.Upkeep.{held}
use Rattle.cy_engine_views.specs.RegisteredViews.{listed}
use Rattle.cy_engine_views.proofs.views.Views.listings.Given as goal

-- the views so far and those that are left are all
abbrev pub invariant-loop-name : goal.invariant-loop-name
invariant-loop-name l = l.listings.items ++ map listed (map view_of (map held l.name-iterator)) ≡ map listed (map view_of (map held l.self.registered.entries))
