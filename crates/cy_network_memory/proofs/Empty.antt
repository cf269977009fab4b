-- Where nothing is kept, no row counts.
use Rattle.std.proofs.Common.{◌≡◌, ℕ, List, length, ap}
use Rattle.std.proofs.lemmas.List.{nil_from_length}
use Rattle.std.specs.Option.{option_map_or}
use Rattle.cy_values.specs.declared.rows.Cell.{Cell}
use Rattle.cy_network_memory.specs.Counts.{no_rows}
use Rattle.cy_network_memory.specs.declared.memory.RowDelta.{RowDelta}
use Rattle.cy_network_memory.specs.declared.tables.Tables.{Tables}
use Rattle.cy_network_memory.specs.declared.tallies.Version.{Version}
use Rattle.cy_network_memory.specs.declared.tallies.Version.TheVariants.{Was, Staged}
use Rattle.cy_network_memory.specs.internal.Lists.{listed}
use Rattle.cy_network_memory.specs.internal.Maps.{at_row, count_of}
use Rattle.cy_network_memory.specs.internal.Tables.{AreEmpty, counts_in}

pub no_entries : (t : Tables) → length t.rows.entries ≡ 0 → AreEmpty t
no_entries t none = record { was = of Was; staged = of Staged }
  where
    of : (version : Version) → counts_in version t ≡ no_rows
    of version = ap (λ entries. λ (row : List Cell). option_map_or (count_of version) (at_row row entries) 0) (nil_from_length t.rows.entries none)

pub no_records : (count : RowDelta → ℕ) (records : List RowDelta) → length records ≡ 0 → listed count records ≡ no_rows
no_records count records none = ap (listed count) (nil_from_length records none)
