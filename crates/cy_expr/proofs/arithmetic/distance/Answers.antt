use Rattle.std.proofs.lemmas.Int.{to_z-of_z}
use Rattle.std.specs.Prelude.{pos, unsigned_abs}
use Rattle.std.specs.Int.{w64}
use Rattle.cy_expr.proofs.Rules.{distance_fits}
use Rattle.cy_expr.proofs.arithmetic.distance.Goals as goal

-- an integer whose opposite is too great is the least one
pub returns : goal.returns
returns c =
    let n = c.args.number in
    c.integer.ensures (pos (unsigned_abs n)) (distance_fits n c.checked_abs.result c.ranges.number (rw (to_z-of_z w64 n c.ranges.number) at c.checked_abs.ensures))
