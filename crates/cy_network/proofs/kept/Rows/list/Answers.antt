use Rattle.std.proofs.Common.{map, sym, subst}
use Rattle.cy_network_memory.specs.Listings.{IsListing}
use Rattle.cy_network_parts.specs.Counted.{ArePositive, counted}
use Rattle.cy_network.specs.declared.kept.Rows.{Rows}
use Rattle.cy_network.specs.Places.{entries_in, last_of, once_each, place_in, rows_by}
use Rattle.cy_network.proofs.Once.{once_listing}
use Rattle.cy_network.proofs.kept.Rows.list.Goals as goal

pub table_rows-requires : goal.table_rows-requires
table_rows-requires g c = subst (λ (rows : Rows). ArePositive (entries_in rows)) c.in-Table.is c.requires

pub returns-in_ok-once-in-LastMemoryOnce : goal.returns-in_ok-once-in-LastMemoryOnce
returns-in_ok-once-in-LastMemoryOnce g c =
    let memories = map g.M.Memory.was c.args.memories.now in
    let once = c.in_ok-once-in-LastMemoryOnce.once.items in
    subst (λ (rows : Rows). IsListing (rows_by (place_in rows) (counted (entries_in rows)) memories) once) (sym c.in-LastMemoryOnce.is)
    (subst (IsListing (once_each (last_of memories))) (sym c.in_ok-once-in-LastMemoryOnce.ensures)
    (once_listing (last_of memories) c.in_ok-rows-in-LastMemoryOnce.rows.items c.in_ok-rows-in-LastMemoryOnce.ensures))
