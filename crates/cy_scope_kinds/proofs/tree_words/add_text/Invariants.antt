-- The bytes that are left settle the words.
use Rattle.std.proofs.Common.{◌≡◌, drop}
use Rattle.cy_scope_kinds.specs.internal.TreeWords as spec
use Rattle.cy_scope_kinds.proofs.tree_words.add_text.Given as goal

abbrev pub invariant-loop-byte : goal.invariant-loop-byte
invariant-loop-byte l = spec.with_text l.words.items (drop l.byte-index l.text) ≡ spec.with_text l.fn.words.items l.text
