use Rattle.std.proofs.Common.{◌≡◌, rules, [], ◌∷◌, ◌++◌, arith}
use Rattle.std.proofs.lemmas.Grind.{common_steps}
use Rattle.cy_planner_rewriting.specs.declared.narrowing.Above.{Above}
use Rattle.cy_planner_rewriting.specs.internal.NarrowAbove.{over_all}
use Rattle.cy_planner_rewriting.specs.internal.Narrows.{restored}
use Rattle.cy_planner_rewriting.proofs.NarrowPutting.{next_over, well_lowest}
use Rattle.cy_planner_rewriting.proofs.narrowing.put_over.Goals as goal

pub put-requires : goal.put-requires
put-requires c =
    let a : Above = c.in-Some.next in
    let last : c.loop-next.above.items ≡ c.pop.new.self.items ++ a ∷ [] = first_of (search rules, grind (arith, common_steps)) in
    well_lowest (over_all c.args.above.items (restored c.args.base)) (restored c.loop-next.narrow) c.loop-next.above.items c.pop.new.self.items a last c.loop-next.invariant c.requires

pub loop-next-preserved : goal.loop-next-preserved
loop-next-preserved c =
    let a : Above = c.in-Some.next in
    let last : c.loop-next.above.items ≡ c.pop.new.self.items ++ a ∷ [] = first_of (search rules, grind (arith, common_steps)) in
    next_over (over_all c.args.above.items (restored c.args.base)) (restored c.loop-next.narrow) c.loop-next.above.items c.pop.new.self.items a last c.loop-next.invariant (restored c.in_ok-narrow.narrow) c.in_ok-narrow.ensures
