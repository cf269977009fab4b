-- the names so far
use Rattle.std.proofs.Common.{◌≡◌, map, take}
use Rattle.cy_values.specs.declared.scalars.Scalar.TheVariants as scalar
use Rattle.cy_network_sources.proofs.attributes.label_names.Given as goal

abbrev pub invariant-loop-entry : goal.invariant-loop-entry
invariant-loop-entry l = l.names.items ≡ map (λ l. scalar.Text l) (map (λ l. l.0) (take l.entry-index l.entries))
