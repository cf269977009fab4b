-- Truths, one after another, and lists that come to their end.
use Rattle.std.proofs.Common.{◌≡◌, ℕ, ◌+◌, length, nat_lt, List, [], ◌∷◌, refl, ap, ◌∙◌, inl, inr, arith}
use Rattle.std.specs.Prelude.{◌⊎◌}
use Rattle.cy_values.specs.declared.scalars.Scalar.{Scalar}
use Rattle.cy_values.specs.declared.truth.Truth.{Truth}
use Rattle.cy_values.specs.declared.truth.Truth.TheVariants.{No, Unknown, Yes}
use Rattle.std.proofs.lemmas.Bool.Decides.{nat_tests}
use Rattle.cy_values.specs.Truth.{both, known}
use Rattle.cy_values.specs.Compare.{all_equality, list_less}

pub both-yes : (a : Truth) → both a Yes ≡ a
both-yes No = refl
both-yes Unknown = refl
both-yes Yes = refl

ended : (xs ys : List Scalar) → (xs ≡ []) ⊎ (ys ≡ []) → all_equality xs ys ≡ Yes
ended [] ys none = refl
ended (x ∷ xs) [] none = refl
ended (x ∷ xs) (y ∷ ys) (inl none) = cc
ended (x ∷ xs) (y ∷ ys) (inr none) = cc

-- at the end of a list all is known
pub equal_so_far : (a : Truth) (xs ys : List Scalar) → (xs ≡ []) ⊎ (ys ≡ []) → both a (all_equality xs ys) ≡ a
equal_so_far a xs ys none = ap (both a) (ended xs ys none) ∙ both-yes a

-- at the end of a list the longer one is greater
pub less_ended : (m n : ℕ) (xs ys : List Scalar) → (xs ≡ []) ⊎ (ys ≡ []) → length xs + n ≡ length ys + m → known (nat_lt m n) ≡ list_less xs ys
less_ended m n [] [] none long = grind (arith, nat_tests)
less_ended m n [] (y ∷ ys) none long = grind (arith, nat_tests)
less_ended m n (x ∷ xs) [] none long = grind (arith, nat_tests)
less_ended m n (x ∷ xs) (y ∷ ys) (inl none) long = cc
less_ended m n (x ∷ xs) (y ∷ ys) (inr none) long = cc
