use Rattle.std.proofs.Common.{refl, rules}
use Rattle.cy_network_columns.proofs.rows.widen.Goals as goal

pub loop-place-init : goal.loop-place-init
loop-place-init c = record { many = search rules; long = c.requires; cells = λ place number. refl }
