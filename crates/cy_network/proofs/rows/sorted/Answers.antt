use Rattle.std.proofs.Common.{◌<◌, ◌≤◌, ℕ, List, ap, sym, subst}
use Rattle.std.specs.Ordering.{nat_cmp, ordering_then}
use Rattle.std.proofs.lemmas.List.Sorted.{All-permutation, sum_by-IsPermutation}
use Rattle.cy_values.specs.declared.rows.Cell.{Cell}
use Rattle.cy_network.proofs.Canonical.{canonical}
use Rattle.cy_network.proofs.rows.sorted.Goals as goal

pub returns-clause-canonical : goal.returns-clause-canonical
returns-clause-canonical c =
    canonical c.row_order_laws.ensures.total _ (λ p q. ap (λ o. ordering_then o (nat_cmp p.1 q.1)) (c.row_order_laws.ensures.ordered p.0 q.0)) c.sort.new.self.items
    c.in_ok-sort.ensures.sorted
    (λ row. subst (λ n. n ≤ 1) (sym (sum_by-IsPermutation _ _ _ c.sort.ensures.permutation)) (c.requires.once row))
    (All-permutation (λ (p : List Cell × ℕ). 0 < p.1) _ _ c.sort.ensures.permutation c.requires.positive)
