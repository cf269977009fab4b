use Rattle.std.proofs.Common.{◌≡◌, ap, subst, sym, ◌∙◌, reverse}
use Rattle.std.proofs.lemmas.List.{reverse-reverse}
use Rattle.std.proofs.lemmas.List.Sorted.{sum_by-IsPermutation}
use Rattle.std.proofs.lemmas.Result.{IfOk-weaker}
use Rattle.cy_values.specs.Bag.{IsBagOf, IsCanonical, count_of, weight_of}
use Rattle.cy_bags.specs.internal.Counting.{counted_rows}
use Rattle.cy_bags.proofs.Counting.{bag_of_counted, canonical_of_counted}
use Rattle.cy_bags.proofs.bags.counted_in_order.Goals as goal
use Rattle.cy_bags.proofs.bags.counted_in_order.Goals.{After-counted}

-- what is counted is what was sorted
in_order : (c : After-counted) → reverse c.reverse.new.self.items ≡ c.sort.new.self.items
in_order c = ap reverse c.reverse.ensures.items ∙ reverse-reverse c.sort.new.self.items

pub returns-clause-bag : goal.returns-clause-bag
returns-clause-bag c =
    IfOk-weaker c.counted.result
    (λ pairs. pairs.items ≡ counted_rows (reverse c.reverse.new.self.items))
    (λ pairs. IsBagOf c.args.rows.items pairs.items)
    (λ pairs counts row.
    ap (weight_of row) counts
    ∙ bag_of_counted c.row_order_laws.ensures.total (λ x y. (c.row_order_laws.ensures.identity x y).0) (reverse c.reverse.new.self.items) row
    ∙ ap (count_of row) (in_order c)
    ∙ sum_by-IsPermutation _ _ _ c.sort.ensures.permutation)
    c.counted.ensures

pub returns-clause-canonical : goal.returns-clause-canonical
returns-clause-canonical c =
    IfOk-weaker c.counted.result
    (λ pairs. pairs.items ≡ counted_rows (reverse c.reverse.new.self.items))
    (λ pairs. IsCanonical pairs.items)
    (λ pairs counts.
    subst IsCanonical (sym (counts ∙ ap counted_rows (in_order c)))
    (canonical_of_counted c.row_order_laws.ensures.total (λ x y. (c.row_order_laws.ensures.identity x y).0) _ c.row_order_laws.ensures.ordered c.sort.new.self.items c.in_ok-sort.ensures.sorted))
    c.counted.ensures
