use Rattle.std.proofs.Common.{arith}
use Rattle.std.proofs.lemmas.Bool.Decides.{nat_tests}
use Rattle.std.proofs.lemmas.List.Filters.{dedup_is}
use Rattle.cy_updates.proofs.DeletedSets.{nodes_once}
use Rattle.cy_updates.proofs.writes.deleting.each_once.Goals as goal

pub returns : goal.returns
returns c =
    nodes_once _ (λ x y h. grind (arith, nat_tests)) c.args.nodes.items c.sort_unstable.new.self.items c.dedup.new.self.items c.sort_unstable.ensures.permutation
    (dedup_is _ _ _ c.dedup.ensures.filtered)
