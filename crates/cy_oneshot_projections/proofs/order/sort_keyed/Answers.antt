use Rattle.std.proofs.Common.{rules}
use Rattle.std.specs.Ordering.{is_lt}
use Rattle.std.proofs.lemmas.Fn.{always_returns_same}
use Rattle.std.proofs.lemmas.List.Sorted.{ranks_by}
use Rattle.cy_oneshot_projections.specs.declared.order.Keyed.{Keyed}
use Rattle.cy_oneshot_meaning.specs.Order.{keyed_order}
use Rattle.cy_oneshot_projections.specs.internal.Keys.{keyed_of}
use Rattle.cy_oneshot_meaning.proofs.KeyOrders.{keyed_total}
use Rattle.cy_oneshot_projections.proofs.SortedKeys.{keyed_sorted}
use Rattle.cy_oneshot_projections.proofs.order.sort_keyed.Goals as goal

pub returns : goal.returns
returns c =
    let total = c.row_order_laws.ensures.total in
    let flags = c.args.descending.now in
    keyed_sorted total flags c.args.keyed.now.items c.sort_unstable_by.new.self.items c.sort_unstable_by.ensures.permutation
    (c.sort_unstable_by.ensures.sorted (λ (x y : Keyed). is_lt (keyed_order flags (keyed_of x) (keyed_of y))) (ranks_by (keyed_total total flags) keyed_of)
    (always_returns_same _ _ _ (λ a r f called. search rules)))
