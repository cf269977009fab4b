use Rattle.std.proofs.Common.{◌++◌, map, subst}
use Rattle.cy_trees.specs.TreeModels.{item_of, key_of, projection_of}
use Rattle.cy_scope_kinds.specs.internal.Answers.{MayFault}
use Rattle.cy_scope.specs.ProjectionFaults.{keys_fault}
use Rattle.cy_scope_kinds.specs.Scopes.{Scope}
use Rattle.cy_scope.proofs.projection_checks.check_order.Goals as goal

pub returns : goal.returns
returns c =
    let p = projection_of c.args.projection.now in
    let columns = c.args.columns.now in
    subst (λ (seen : Scope). MayFault (keys_fault (columns ++ seen) p.items p.order) c.check_keys.result) c.seen_by_keys.ensures
    (subst (λ is. MayFault (keys_fault (columns ++ c.seen_by_keys.result.now) (map item_of is) p.order) c.check_keys.result) c.deref-2.ensures.value
    (subst (λ ks. MayFault (keys_fault (columns ++ c.seen_by_keys.result.now) (map item_of c.deref-2.result.now) (map key_of ks)) c.check_keys.result) c.deref-3.ensures.value
    c.check_keys.ensures))
