use Rattle.std.proofs.Common.{arith}
use Rattle.cy_parser_statements.proofs.DepthLemmas.{deepest_added}
use Rattle.cy_parser_statements.proofs.building.Gathered+Expr.push.Goals as goal

pub returns-clause-measured : goal.returns-clause-measured
returns-clause-measured c =
    let items = rw c.into_tree.ensures at c.in_ok-push.ensures.items in
    let added = deepest_added c.args.self.now.items.items c.args.element.tree c.push.new.self.items items in
    record { deepest_is = omega (arith, added); shallow = omega arith }
