use Rattle.std.proofs.Common.{◌≡◌, sym, subst}
use Rattle.std.proofs.lemmas.Result.{IfOk-weaker}
use Rattle.cy_bags.specs.Difference.{IsCountedSurplus}
use Rattle.cy_bags.specs.internal.Surplus.{surplus_of}
use Rattle.cy_bags.proofs.Surpluses.{is_surplus}
use Rattle.cy_bags.proofs.changes.surplus.Goals as goal

pub returns : goal.returns
returns c =
    let laws = c.row_order_laws.ensures in
    IfOk-weaker c.surplus_rows.result
    (λ surplus. surplus.items ≡ surplus_of c.args.more.now c.args.less.now)
    (λ surplus. IsCountedSurplus c.args.more.now c.args.less.now surplus.items)
    (λ surplus is. subst (IsCountedSurplus c.args.more.now c.args.less.now) (sym is) (is_surplus laws.total (λ x y. (laws.identity x y).0) c.args.more.now c.args.less.now c.requires.more))
    c.surplus_rows.ensures
