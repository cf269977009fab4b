use Rattle.std.proofs.Common.{List, sym, ap, ◌∙◌}
use Rattle.cy_index.specs.internal.Entries.{Entries, present, restored}
use Rattle.cy_index.specs.internal.Numbers.{without_number}
use Rattle.cy_index.specs.internal.Postings.{version_of, list_at, with_list}
use Rattle.cy_index.proofs.Versions.{list_value, value_written, version_list, version_written, written_back}
use Rattle.cy_index.proofs.postings.leave_at.Goals as goal

-- the list has the number then, or not
pub returns-clause-removed : goal.returns-clause-removed
returns-clause-removed g c =
    let es : List (g.row.K.Denot × Entries) = c.args.lists.now.entries in
    let slot = c.args.spot.slot in
    let new : Entries = c.leave-before.new.self in
    let is = list_value es slot c.index_mut.result.now c.index_mut.ensures.value in
    ap version_of (value_written es slot new) ∙ version_written slot new es
    ∙ ap (λ l. with_list slot l (version_of es)) (c.leave-before.ensures.present ∙ ap (without_number c.args.spot.number) (ap present (sym is) ∙ sym (version_list slot es)))

-- the entry from before makes the list what it was
pub returns-clause-back : goal.returns-clause-back
returns-clause-back g c =
    let es : List (g.row.K.Denot × Entries) = c.args.lists.now.entries in
    let slot = c.args.spot.slot in
    let new : Entries = c.leave-before.new.self in
    let before = restored c.args.spot.number c.leave-before.result in
    let is = list_value es slot c.index_mut.result.now c.index_mut.ensures.value in
    ap (λ fs. with_list slot (before (list_at slot fs)) fs) (value_written es slot new) ∙ written_back slot before new es c.requires (c.leave-before.ensures.back ∙ sym is)
