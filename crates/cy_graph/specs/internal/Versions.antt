-- Values under rising numbers, and what each call of a series makes of them.
use Rattle.std.specs.Prelude.{ℕ, ◌+◌, ◌≤◌, not, List, [], ◌∷◌, ◌++◌, Option, None, Some}
use Rattle.std.specs.Option.{option_map}
use Rattle.std.specs.Ordering.{nat_cmp, eq_by_cmp}
use Rattle.std.specs.FinMap.Entries as entries
use Rattle.cy_graph.specs.Graph.{number_end}
use Rattle.cy_graph.specs.Model.{Numbered, SeriesVersions}
use Rattle.cy_graph.specs.internal.Slots.{RiseFrom, value_under}

module _ {V : Type 0} where
  -- a series with nothing in it
  abbrev pub empty_from : ℕ → SeriesVersions V
  empty_from next = record { now = record { entries = []; next = next }; was = None }

  -- the values with one more, under the next number
  abbrev pub with_last : V → Numbered V → Numbered V
  with_last value old = record { entries = old.entries ++ (old.next, value) ∷ []; next = old.next + 1 }

  -- the values with this one under the number, where it has one already
  abbrev pub put_under : ℕ → Option V → List (ℕ × V) → List (ℕ × V)
  put_under number None values = values
  put_under number (Some value) values = entries.put nat_cmp number value values

  -- the values with the one under the number changed
  abbrev pub with_edited : (V → V) → ℕ → Numbered V → Numbered V
  with_edited edited number old = record old { entries = put_under number (option_map edited (value_under number old.entries)) old.entries }

  -- the values without the one under the number
  abbrev pub without_number : ℕ → Numbered V → Numbered V
  without_number number old = record old { entries = entries.where_key nat_cmp (λ k. not (eq_by_cmp nat_cmp number k)) old.entries }

  -- the numbers rise from 1 and stay below the next one
  pub record IsNumbered (values : Numbered V) : Type 0 where
    pub rising : RiseFrom 1 values.next values.entries
    pub range : (1 ≤ values.next) × (values.next ≤ number_end)
