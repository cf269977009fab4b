use Rattle.std.proofs.Common.{◌≡◌, ◌++◌, map}
use Rattle.cy_updates.proofs.writes.deleting.push_numbers.Given as goal

-- the numbers so far, and those that are left
abbrev pub invariant-loop-id : goal.invariant-loop-id
invariant-loop-id l = l.ids.items ++ map (λ e. e.0) l.id-iterator ≡ l.fn.ids.items ++ map (λ e. e.0) l.fn.rels
