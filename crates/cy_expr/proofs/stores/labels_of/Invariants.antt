use Rattle.std.proofs.Common.{◌≡◌, map, take}
use Rattle.cy_values.specs.declared.scalars.Scalar.TheVariants as scalar
use Rattle.cy_expr.proofs.stores.labels_of.Given as goal

-- the labels so far
abbrev pub invariant-loop-entry : goal.invariant-loop-entry
invariant-loop-entry l = l.labels.items ≡ map (λ e. scalar.Text e.0) (take l.entry-index l.entries)
