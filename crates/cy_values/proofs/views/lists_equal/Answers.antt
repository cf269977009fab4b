use Rattle.std.proofs.Common.{length, eq-eqb, sym, ◌∙◌}
use Rattle.std.specs.Iterator.Adapters.{zip_first, zip_second}
use Rattle.std.specs.Slice.Iter.{iter_rest}
use Rattle.std.proofs.lemmas.Slice.Zip.{either_empty_from_Zip}
use Rattle.cy_values.proofs.Truths.{equal_so_far}
use Rattle.cy_values.proofs.views.lists_equal.Goals as goal

-- nothing is left, and the lists are equally long
pub returns : goal.returns
returns c =
    let left = c.loop-x.x-iterator in
    let ended = either_empty_from_Zip left c.next.new.self c.next.result c.in-None.is c.next.ensures.steps in
    let long = eq-eqb (length c.args.left.now) (length c.args.right.now) c.if-left-right.false in
    rw long (sym (equal_so_far c.loop-x.all (iter_rest (zip_first left)) (iter_rest (zip_second left)) ended) ∙ c.loop-x.invariant)
