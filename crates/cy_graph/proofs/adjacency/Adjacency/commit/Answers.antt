use Rattle.std.proofs.Common.{inl, refl, sym, subst}
use Rattle.cy_graph.specs.internal.Adjacency.{ids_at, IsCompacted}
use Rattle.cy_graph.proofs.Joined.{compacted_on}
use Rattle.cy_graph.proofs.adjacency.Adjacency.commit.Goals as goal

pub loop-step-init : goal.loop-step-init
loop-step-init c m = inl refl

-- one list more is compacted
pub loop-step-preserved-in-Removed : goal.loop-step-preserved-in-Removed
loop-step-preserved-in-Removed c m =
    let values = c.args.rels.now.now.entries in
    let kept = subst (IsCompacted values (ids_at m c.loop-step.self.lists)) (sym (c.drop_if_empty.ensures m)) (c.compact_in.ensures m) in
    compacted_on values (ids_at m c.args.self.now.lists) (ids_at m c.loop-step.self.lists) (ids_at m c.drop_if_empty.new.lists) (c.loop-step.invariant m) kept
