use Rattle.std.proofs.Common.{length, ◌∙◌}
use Rattle.std.specs.Iterator.Adapters.{zip_first, zip_second}
use Rattle.std.specs.Slice.Iter.{iter_rest}
use Rattle.std.proofs.lemmas.Slice.Zip.{either_empty_from_Zip}
use Rattle.cy_values.proofs.Truths.{less_ended}
use Rattle.cy_values.proofs.views.list_less.Goals as goal

-- nothing is left of one list
pub returns : goal.returns
returns c =
    let left = c.loop-x.x-iterator in
    let ended = either_empty_from_Zip left c.next.new.self c.next.result c.in-None.is c.next.ensures.steps in
    let long = less_ended (length c.args.left.now) (length c.args.right.now) (iter_rest (zip_first left)) (iter_rest (zip_second left)) ended c.loop-x.invariant.1 in
    c.known.ensures ∙ long ∙ c.loop-x.invariant.0
