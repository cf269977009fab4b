-- Lists that have the same elements in another order, and outcomes that do.
use Rattle.std.specs.Prelude.{◌≡◌, ◌⊎◌, List, [], ◌∷◌, Result, Ok, Err, MatchResult}
use Rattle.cy_expr.specs.declared.faults.EvalFault.{EvalFault}
use Rattle.cy_expr.specs.declared.faults.EvalFault.TheVariants.{NoMemory}

pub data Permuted {A : Type 0} : List A → List A → Type 0 where
  nothing : Permuted [] []
  more : (x : A) {xs ys : List A} → Permuted xs ys → Permuted (x ∷ xs) (x ∷ ys)
  exchanged : (x y : A) (xs : List A) → Permuted (x ∷ y ∷ xs) (y ∷ x ∷ xs)
  and_then : {xs ys zs : List A} → Permuted xs ys → Permuted ys zs → Permuted xs zs

-- one list in another order, or one fault
abbrev pub Alike : {A : Type 0} → Result (List A) EvalFault → Result (List A) EvalFault → Type 0
Alike (Ok xs) (Ok ys) = Permuted xs ys
Alike (Err fault) (Err other) = fault ≡ other
Alike _ _ = ⊥

-- a call answers what is meant in whatever order, or its fault, or it is out of memory
abbrev pub IsAlikeAnswer : {A B : Type 0} → Result A EvalFault → (A → List B) → Result (List B) EvalFault → Type 0
IsAlikeAnswer result view meant = MatchResult result (λ x. Alike (Ok (view x)) meant) (λ fault. (meant ≡ Err fault) ⊎ (fault ≡ NoMemory))
