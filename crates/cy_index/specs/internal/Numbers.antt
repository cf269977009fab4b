-- Lists of numbers that strictly rise.
use Rattle.std.specs.Prelude.{ℕ, ◌+◌, ◌≤◌, Bool, true, false, not, List, [], ◌∷◌, nat_eq, filter, map}
use Rattle.std.specs.List.{list_any}
use Rattle.std.specs.Ordering.{nat_cmp}
use Rattle.std.specs.FinMap.Entries.{by_order}
use Rattle.cy_values.specs.declared.numbers.NodeId.{NodeId}

-- the numbers strictly rise from this one on
abbrev pub Rises : ℕ → List ℕ → Type 0
Rises low [] = Unit {0}
Rises low (x ∷ xs) = (low ≤ x) × Rises (x + 1) xs

-- whether the number is among them
abbrev pub is_among : ℕ → List ℕ → Bool
is_among n xs = list_any (nat_eq n) xs

-- the numbers with this one, once
abbrev pub with_number : ℕ → List ℕ → List ℕ
with_number n [] = n ∷ []
with_number n (x ∷ xs) = by_order (nat_cmp n x) (n ∷ x ∷ xs) (x ∷ xs) (x ∷ with_number n xs)

-- the numbers without this one
abbrev pub without_number : ℕ → List ℕ → List ℕ
without_number n xs = filter (λ x. not (nat_eq n x)) xs

-- the nodes with these numbers
abbrev pub ids_of : List ℕ → List NodeId
ids_of = map (λ n. record { 0 = n })

-- whether there is anything
abbrev pub is_nonempty : {X : Type 0} → List X → Bool
is_nonempty [] = false
is_nonempty (x ∷ xs) = true
