use Rattle.std.proofs.Common.{◌≡◌, drop, not}
use Rattle.std.specs.List.{list_all}
use Rattle.cy_updates.proofs.writes.maps.has_null.Given as goal
use Rattle.cy_values.specs.Compare.{value_in, is_null}

-- the elements so far aren't null
abbrev pub invariant-loop-element : goal.invariant-loop-element
invariant-loop-element l = list_all (λ e. not (is_null (value_in e))) (drop l.element-index l.elements) ≡ list_all (λ e. not (is_null (value_in e))) l.elements
