use Rattle.std.proofs.Common.{◌≡◌, drop}
use Rattle.cy_oneshot_meaning.specs.Order.{keys_order}
use Rattle.cy_oneshot_projections.proofs.order.compare_keys.Given as goal

-- the keys that are left decide
abbrev pub invariant-loop-place : goal.invariant-loop-place
invariant-loop-place l =
    keys_order (drop l.place l.descending) (drop l.place l.left) (drop l.place l.right) ≡ keys_order l.descending l.left l.right
