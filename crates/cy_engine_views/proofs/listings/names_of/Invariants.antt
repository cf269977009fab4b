use Rattle.std.proofs.Common.{◌≡◌, map, take}
use Rattle.cy_engine_views.proofs.listings.names_of.Given as goal

-- the names so far
abbrev pub invariant-loop-item : goal.invariant-loop-item
invariant-loop-item l = l.names.items ≡ map (λ i. i.column) (take l.item-index l.items)
