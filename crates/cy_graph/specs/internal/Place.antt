-- Where a search for a key ends among entries whose keys rise.
use Rattle.std.specs.Prelude.{◌≡◌, ℕ, zero, suc, List, [], ◌∷◌, IsTrue}
use Rattle.std.specs.declared.cmp.Ordering.TheVariants.{Greater}
use Rattle.std.specs.FinMap.Entries as entries
use Rattle.cy_graph.specs.Maps.{text_order}

module _ {V : Type 0} (key : List ℕ) where
  -- the key stands at the place, and smaller ones before it
  abbrev pub IsAt : List (List ℕ × V) → ℕ → Type 0
  IsAt [] place = ⊥
  IsAt (e ∷ es) zero = e.0 ≡ key
  IsAt (e ∷ es) (suc place) = (text_order key e.0 ≡ Greater) × IsAt es place

  -- smaller keys stand before the place, and greater ones from it on
  abbrev pub IsGapFor : List (List ℕ × V) → ℕ → Type 0
  IsGapFor es zero = IsTrue (entries.below_all text_order key es)
  IsGapFor [] (suc place) = ⊥
  IsGapFor (e ∷ es) (suc place) = (text_order key e.0 ≡ Greater) × IsGapFor es place
