use Rattle.std.proofs.Common.{◌≡◌, ◌+◌, ◌<◌, ℕ, suc, List, length, take, set, Bool, true, false, sym, ap, ◌∙◌, add-one}
use Rattle.std.proofs.lemmas.List.{get_or_default, take_all}
use Rattle.cy_values.specs.declared.scalars.Value.TheVariants as value
use Rattle.cy_values.specs.declared.rows.Cell.{Cell}
use Rattle.cy_values.specs.declared.rows.Cell.TheVariants as cell
use Rattle.cy_oneshot.specs.Carried.{carried_from}
use Rattle.cy_oneshot.proofs.Carried.{row_whole}
use Rattle.cy_oneshot.proofs.Cleared.{cleared_more, kept_more}
use Rattle.cy_oneshot.proofs.unwinding.clear_unneeded.Goals.{then-not-needed-place, else-not-needed-place}
use Rattle.cy_oneshot.proofs.unwinding.clear_unneeded.Goals as goal

pub loop-place-init : goal.loop-place-init
loop-place-init c = sym (row_whole 0 c.args.cells.now.items)

pub loop-place-preserved : goal.loop-place-preserved
loop-place-preserved c =
    let needed = c.args.needed.now in
    let place = c.loop-place.place in
    let row = c.args.cells.now.items in
    let within : place < length needed = c.loop-place-test.true in
    let further : take (suc place) needed ≡ take (place + 1) needed = ap (λ (n : ℕ). take n needed) (sym (add-one place)) in
    elim c.if-not-needed-place.branch [
      | then-not-needed-place w ↦
          ap (λ v. v.items) w.cells-is
          ∙ w.clear_at.ensures
          ∙ ap (λ (cells : List Cell). set cells place (cell.Value value.Null)) c.loop-place.invariant
          ∙ sym (cleared_more needed place row within (get_or_default needed place true false within ∙ w.if-not-needed-place.true))
          ∙ ap (λ (flags : List Bool). carried_from flags 0 row) further
      | else-not-needed-place w ↦
          ap (λ v. v.items) w.cells-is
          ∙ c.loop-place.invariant
          ∙ sym (kept_more needed place row within (get_or_default needed place true false within ∙ w.if-not-needed-place.false))
          ∙ ap (λ (flags : List Bool). carried_from flags 0 row) further
    ]

pub returns : goal.returns
returns c = c.loop-place.invariant ∙ ap (λ (flags : List Bool). carried_from flags 0 c.args.cells.now.items) (take_all c.loop-place.place c.args.needed.now c.loop-place-test.false)
