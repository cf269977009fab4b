use Rattle.std.proofs.Common.{List, sym, ap, ◌∙◌}
use Rattle.cy_index.specs.internal.Entries.{Entries, present, restored}
use Rattle.cy_index.specs.internal.Numbers.{with_number}
use Rattle.cy_index.specs.internal.Postings.{version_of, list_at, with_list}
use Rattle.cy_index.proofs.Versions.{list_value, on_err, value_written, version_list, version_written, written_back, written_same}
use Rattle.cy_index.proofs.postings.add_at.Goals as goal

-- without memory nothing is written
pub returns-in_err-before-clause-err : goal.returns-in_err-before-clause-err
returns-in_err-before-clause-err g c =
    let es : List (g.row.K.Denot × Entries) = c.args.lists.now.entries in
    let slot = c.args.spot.slot in
    let is = list_value es slot c.index_mut.result.now c.index_mut.ensures.value in
    on_err c.from_residual.result (value_written es slot c.add.new.self ∙ ap (λ l. with_list slot l es) (c.in_err-before.ensures.err ∙ sym is) ∙ written_same slot es)

-- the list has the number then, or not
pub returns-clause-ok : goal.returns-clause-ok
returns-clause-ok g c =
    let es : List (g.row.K.Denot × Entries) = c.args.lists.now.entries in
    let slot = c.args.spot.slot in
    let new : Entries = c.add.new.self in
    let is = list_value es slot c.index_mut.result.now c.index_mut.ensures.value in
    ap version_of (value_written es slot new) ∙ version_written slot new es
    ∙ ap (λ l. with_list slot l (version_of es)) (c.in_ok-before.ensures.ok ∙ ap (with_number c.args.spot.number) (ap present (sym is) ∙ sym (version_list slot es)))

-- the entry from before makes the list what it was
pub returns-clause-back : goal.returns-clause-back
returns-clause-back g c =
    let es : List (g.row.K.Denot × Entries) = c.args.lists.now.entries in
    let slot = c.args.spot.slot in
    let new : Entries = c.add.new.self in
    let before = restored c.args.spot.number c.in_ok-before.before in
    let is = list_value es slot c.index_mut.result.now c.index_mut.ensures.value in
    ap (λ fs. with_list slot (before (list_at slot fs)) fs) (value_written es slot new) ∙ written_back slot before new es c.requires (c.in_ok-before.ensures.back ∙ sym is)
