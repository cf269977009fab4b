use Rattle.std.proofs.Common.{◌≡◌, ◌<◌, ℕ, zero, suc, Some, None, refl, sym, ap, ◌∙◌, arith}
use Rattle.cy_network_memory.specs.Counts.{with_count}
use Rattle.cy_network_memory.proofs.RowMaps.{on_ok, put}
use Rattle.cy_network_parts.specs.Counted.{counted}
use Rattle.cy_network.proofs.Written.{counted_put, positive_put}
use Rattle.cy_network.proofs.rows.write_count.Goals as goal

some : (n : ℕ) → (n ≡ 0 → ⊥) → 0 < n
some zero h = absurd (h refl)
some (suc n) h = omega arith

pub returns-then-count-eq0-clause-counts : goal.returns-then-count-eq0-clause-counts
returns-then-count-eq0-clause-counts c other =
    counted_put c.args.row None c.args.rows.now.entries c.swap_remove.new.self.entries (put _ c.rows_equal.ensures c.args.rows.now c.swap_remove.new.self c.args.row None c.swap_remove.ensures.updates) other
    ∙ ap (λ n. with_count c.args.row n (counted c.args.rows.now.entries) other) (sym c.if-count-eq0.true)

pub returns-then-count-eq0-clause-positive : goal.returns-then-count-eq0-clause-positive
returns-then-count-eq0-clause-positive c =
    positive_put c.args.row None c.args.rows.now.entries c.swap_remove.new.self.entries tt c.requires.positive
    (put _ c.rows_equal.ensures c.args.rows.now c.swap_remove.new.self c.args.row None c.swap_remove.ensures.updates)

pub returns-else-count-eq0-clause-counts : goal.returns-else-count-eq0-clause-counts
returns-else-count-eq0-clause-counts c =
    counted_put c.args.row (Some c.args.count) c.args.rows.now.entries c.insert.new.self.entries
    (put _ c.rows_equal.ensures c.args.rows.now c.insert.new.self c.args.row (Some c.args.count) (on_ok c.insert.result c.insert.ensures.updates (c.insert.ensures.succeeds c.requires.room)))

pub returns-else-count-eq0-clause-positive : goal.returns-else-count-eq0-clause-positive
returns-else-count-eq0-clause-positive c =
    positive_put c.args.row (Some c.args.count) c.args.rows.now.entries c.insert.new.self.entries (some c.args.count c.if-count-eq0.false) c.requires.positive
    (put _ c.rows_equal.ensures c.args.rows.now c.insert.new.self c.args.row (Some c.args.count) (on_ok c.insert.result c.insert.ensures.updates (c.insert.ensures.succeeds c.requires.room)))
