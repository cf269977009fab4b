use Rattle.std.proofs.Common.{arith}
use Rattle.cy_parser_statements.proofs.DepthLemmas.{arms_added}
use Rattle.cy_parser_statements.proofs.building.Gathered+Arm.push_arm.Goals as goal

pub returns-clause-measured : goal.returns-clause-measured
returns-clause-measured c =
    let items = rw (c.into_tree.ensures, c.into_tree-2.ensures) at c.in_ok-push.ensures.items in
    let added = arms_added c.args.self.now.items.items c.args.condition.tree c.args.outcome.tree c.push.new.self.items items in
    record { deepest_is = omega (arith, added); shallow = omega arith }
