use Rattle.std.proofs.Common.{rules, sym}
use Rattle.std.proofs.lemmas.Fn.{always_returns_same}
use Rattle.cy_values.specs.Order.{row_cmp}
use Rattle.cy_bags.proofs.Surpluses.{weight_at, searched}
use Rattle.cy_bags.proofs.changes.count_among.Goals as goal

pub returns-in-Ok : goal.returns-in-Ok
returns-in-Ok c =
    let laws = c.row_order_laws.ensures in
    let by_row = c.in-Ok.ensures.position (λ p. row_cmp p.0 c.args.row.now) (always_returns_same _ _ _ (λ a r f called. search rules)) in
    sym (weight_at laws.total (λ x y. (laws.identity x y).0) c.args.row.now c.args.pairs.now c.requires c.in-Ok.at c.index-pairs-at.result c.in-Ok.ensures.bound (by_row c.index-pairs-at.result))

pub returns-in-Err : goal.returns-in-Err
returns-in-Err c =
    let laws = c.row_order_laws.ensures in
    let by_row = c.in-Err.ensures.position (λ p. row_cmp p.0 c.args.row.now) (always_returns_same _ _ _ (λ a r f called. search rules)) in
    sym (searched laws.total (λ x y. (laws.identity x y).0) c.args.row.now c.args.pairs.now c.requires c.in-Err.field-0 c.in-Err.ensures.bound by_row)
