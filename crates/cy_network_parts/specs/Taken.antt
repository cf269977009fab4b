-- Counts of steps that only grow. (own)
use Rattle.std.specs.Prelude.{ℕ, ◌≤◌, ⊤, List, [], ◌∷◌}

-- there are as many numbers as before, and none is less than the one that stood in its place
abbrev pub NoneFalls : List ℕ → List ℕ → Type 0
NoneFalls [] [] = ⊤
NoneFalls [] (n ∷ ns) = ⊥
NoneFalls (m ∷ ms) [] = ⊥
NoneFalls (m ∷ ms) (n ∷ ns) = (m ≤ n) × NoneFalls ms ns
