-- What is done, and what the others are to become.
use Rattle.std.proofs.Common.{◌≡◌, ◌++◌, map}
use Rattle.cy_trees.specs.TreeModels.{key_of, item_of}
use Rattle.cy_scope.specs.Resolved as spec
use Rattle.cy_scope_kinds.proofs.ResolvedLemmas.{mixed}
use Rattle.cy_scope.proofs.clause_columns.resolve_keys.Given as goal

abbrev pub invariant-loop-key : goal.invariant-loop-key
invariant-loop-key l =
    mixed key_of (spec.resolved_key l.scopes.before.now (l.scopes.columns.now ++ l.scopes.others.now) (map item_of l.scopes.items.now)) l.key-index l.keys ≡ map (spec.resolved_key l.scopes.before.now (l.scopes.columns.now ++ l.scopes.others.now) (map item_of l.scopes.items.now)) (map key_of l.initial.keys)
