use Rattle.std.proofs.Common.{◌≡◌, drop}
use Rattle.std.specs.Prelude.{fold}
use Rattle.cy_graph.specs.Maps.{with_value}
use Rattle.cy_updates_meaning.specs.Values.{label_set}
use Rattle.cy_updates.proofs.writes.maps.few_labels.Given as goal

-- the set so far, with the labels that are left, is the set of all
abbrev pub invariant-loop-label : goal.invariant-loop-label
invariant-loop-label l = fold (λ set label. with_value label tt set) l.set (drop l.label-index l.labels) ≡ label_set l.labels
