use Rattle.std.proofs.Common.{◌≡◌, [], ◌∷◌, ◌++◌, map, take}
use Rattle.cy_values.specs.declared.rows.Cell.TheVariants as cell
use Rattle.cy_values.specs.Compare.{value_in}
use Rattle.cy_oneshot.specs.Carried.{carried_from}
use Rattle.cy_oneshot.proofs.unwinding.copies_with_each.Given as goal

-- the rows so far are those of the elements so far
abbrev pub invariant-loop-element : goal.invariant-loop-element
invariant-loop-element l = l.rows.items ≡ map (carried_from l.needed 0) (map (λ v. l.row ++ cell.Value v ∷ []) (map value_in (take l.element-index l.elements)))
