use Rattle.std.proofs.Common.{◌≡◌, ◌++◌, map}
use Rattle.cy_engine_views.specs.Upkeep.{Upkeep, held, upkeep_of}
use Rattle.cy_engine_views.proofs.views.Views.steps.Given as goal

-- the views so far and those that are left are all
abbrev pub invariant-loop-name : goal.invariant-loop-name
invariant-loop-name l =
    l.steps.items ++ map (λ (u : Upkeep). (u.name, u.steps)) (map upkeep_of (map held l.name-iterator)) ≡ map (λ (u : Upkeep). (u.name, u.steps)) (map upkeep_of (map held l.self.registered.entries))
