use Rattle.std.proofs.Common.{◌≡◌, ℕ, ◌<◌, ◌≤◌, Bool, false, List, length, drop, sym, ◌∙◌}
use Rattle.std.specs.declared.cmp.Ordering.TheVariants.{Less, Equal, Greater}
use Rattle.std.proofs.lemmas.List.{drop_all, drop_more}
use Rattle.cy_values.specs.declared.rows.Cell.{Cell}
use Rattle.cy_oneshot_meaning.specs.Order.{keys_order}
use Rattle.cy_oneshot_projections.proofs.order.compare_keys.Goals as goal

-- where no key is left, in both or in one
module _ (flags : List Bool) (ks ls : List Cell) (i : ℕ) (more : i < length flags) where
  both_end : length ks ≤ i → length ls ≤ i → keys_order (drop i flags) (drop i ks) (drop i ls) ≡ Equal
  both_end left right = λ j. keys_order (drop_more flags i false more j) (drop_all i ks left j) (drop_all i ls right j)

  left_ends : (l : Cell) → length ks ≤ i → i < length ls → keys_order (drop i flags) (drop i ks) (drop i ls) ≡ Less
  left_ends l left right = λ j. keys_order (drop_more flags i false more j) (drop_all i ks left j) (drop_more ls i l right j)

  right_ends : (k : Cell) → i < length ks → length ls ≤ i → keys_order (drop i flags) (drop i ks) (drop i ls) ≡ Greater
  right_ends k left right = λ j. keys_order (drop_more flags i false more j) (drop_more ks i k left j) (drop_all i ls right j)

pub returns-in-None-None : goal.returns-in-None-None
returns-in-None-None c =
    sym (both_end c.args.descending.now c.args.left.now c.args.right.now c.loop-place.place c.loop-place-test.true c.in-None-None.ensures.lookup.3 c.in-None-None.ensures'.lookup.3) ∙ c.loop-place.invariant

pub returns-in-None-Some : goal.returns-in-None-Some
returns-in-None-Some c =
    sym (left_ends c.args.descending.now c.args.left.now c.args.right.now c.loop-place.place c.loop-place-test.true c.in-None-Some.field-0-1.now c.in-None-Some.ensures.lookup.3 c.in-None-Some.ensures'.lookup.3.0)
    ∙ c.loop-place.invariant

pub returns-in-Some-None : goal.returns-in-Some-None
returns-in-Some-None c =
    sym (right_ends c.args.descending.now c.args.left.now c.args.right.now c.loop-place.place c.loop-place-test.true c.in-Some-None.field-0-0.now c.in-Some-None.ensures.lookup.3.0 c.in-Some-None.ensures'.lookup.3)
    ∙ c.loop-place.invariant
