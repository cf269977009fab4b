use Rattle.std.proofs.Common.{List}
use Rattle.cy_index.specs.internal.Entries.{Entries}
use Rattle.cy_index.proofs.Versions.{version_stays}
use Rattle.cy_index.proofs.postings.purge_at.Goals as goal

-- the present numbers stay
pub returns-in-Some : goal.returns-in-Some
returns-in-Some g c =
    let es : List (g.row.K.Denot × Entries) = c.args.lists.now.entries in
    version_stays es c.args.spot.slot c.in-Some.list.now c.purge.new.self c.in-Some.ensures.value c.purge.ensures
