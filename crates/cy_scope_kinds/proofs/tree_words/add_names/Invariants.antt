-- The names that are left settle the words.
use Rattle.std.proofs.Common.{◌≡◌, drop}
use Rattle.cy_scope_kinds.specs.internal.TreeWords as spec
use Rattle.cy_scope_kinds.proofs.tree_words.add_names.Given as goal

abbrev pub invariant-loop-name : goal.invariant-loop-name
invariant-loop-name l = spec.with_names l.words.items (drop l.name-index l.names) ≡ spec.with_names l.fn.words.items l.names
