use Rattle.std.proofs.Common.{◌≡◌, ℕ, ◌-◌, List, not, length, rules, ap, ◌∙◌, arith}
use Rattle.std.proofs.lemmas.Fn.{filter_same}
use Rattle.cy_values.specs.declared.rows.Cell.{Cell}
use Rattle.cy_values.specs.Same.{is_row}
use Rattle.cy_values.specs.Bag.{count_of}
use Rattle.cy_network_sources.proofs.Recounting.{others, split_count}
use Rattle.cy_network_sources.proofs.recounts.take_same.Goals as goal

pub returns-clause-left : goal.returns-clause-left
returns-clause-left c = filter_same _ (λ (other : List Cell). not (is_row c.args.row.now other)) _ (λ other b f' k. search (rules, c.rows_equal.ensures)) _ _ c.retain.ensures.filtered

counted : (row : List Cell) (rows left : List (List Cell)) (all kept : ℕ) → all ≡ length rows → kept ≡ length left → left ≡ others row rows → all - kept ≡ count_of row rows
counted row rows left all kept first second is =
    let both = split_count row rows in
    let same : length left ≡ length (others row rows) = ap (λ (xs : List (List Cell)). length xs) is in
    omega (arith, first, second, both, same)

pub returns-clause-taken : goal.returns-clause-taken
returns-clause-taken c =
    let before = c.args.rows.now in
    let after = c.retain.new.self in
    counted c.args.row.now before.items after.items c.len-all.result c.len.result (c.len-all.ensures ∙ before.ok.0) (c.len.ensures ∙ after.ok.0) (returns-clause-left c)
