use Rattle.std.proofs.Common.{List, sym}
use Rattle.cy_index.specs.internal.Entries.{Entries, restored}
use Rattle.cy_index.specs.internal.Postings.{list_at}
use Rattle.cy_index.proofs.Versions.{nothing_there, value_changed}
use Rattle.cy_index.proofs.postings.restore_at.Goals as goal

-- the list has the entry from before
pub returns-in-Some : goal.returns-in-Some
returns-in-Some g c =
    let es : List (g.row.K.Denot × Entries) = c.args.lists.now.entries in
    value_changed (restored c.args.spot.number c.args.before) es c.args.spot.slot c.in-Some.list.now c.restore.new.self c.in-Some.ensures.value c.restore.ensures

-- there is no list
pub returns-in_default : goal.returns-in_default
returns-in_default g c =
    let es : List (g.row.K.Denot × Entries) = c.args.lists.now.entries in
    let slot = c.args.spot.slot in
    sym (nothing_there (restored c.args.spot.number c.args.before (list_at slot es)) es slot c.in_default.ensures.value)
