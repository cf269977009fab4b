use Rattle.std.proofs.Common.{◌≡◌, drop}
use Rattle.std.specs.List.{list_all, list_any}
use Rattle.std.specs.Str.{bytes_eq}
use Rattle.cy_expr.proofs.lookups.has_each.Given as goal

-- the labels that are left decide
abbrev pub invariant-loop-label : goal.invariant-loop-label
invariant-loop-label g l =
    list_all (λ x. list_any (bytes_eq x) ((g.G.Lookups.lookups l.graph).labels_of l.node)) (drop l.label-index l.labels)
    ≡ list_all (λ x. list_any (bytes_eq x) ((g.G.Lookups.lookups l.graph).labels_of l.node)) l.labels
