-- Entries with keys of which each stands once.
use Rattle.std.proofs.Common.{◌≡◌, ℕ, ◌+◌, Bool, true, false, cond, List, [], ◌∷◌, Some, refl, sym, ap, subst, ◌∙◌, filter, nat_eq, arith}
use Rattle.std.specs.Prelude.{sum_by}
use Rattle.std.specs.List.{AllByRecursion, IsDistinct}
use Rattle.std.specs.Map.{lookup, keys_of}
use Rattle.std.specs.Option.{option_map_or}
use Rattle.std.specs.declared.cmp.Ordering.{Ordering}
use Rattle.std.specs.declared.cmp.Ordering.TheVariants.{Less, Equal, Greater}
use Rattle.std.specs.Ordering.{eq_by_cmp, is_eq, is_lt, nat_cmp}
use Rattle.std.specs.FinMap.Entries as entries
use Rattle.std.proofs.lemmas.Bool.{and_parts, false≢true}
use Rattle.std.proofs.lemmas.Bool.Decides.{nat_tests}
use Rattle.std.proofs.lemmas.Map.Keys.{IsDistinct-cons, IsDistinct-head, IsDistinct-tail}
use Rattle.std.proofs.lemmas.List.Sums.{sum_by-cons}

pub same_by_order : (m n : ℕ) → is_eq (nat_cmp m n) ≡ nat_eq m n
same_by_order m n = grind (arith, nat_tests)

module _ {K V : Type 0} (eq : K → K → Bool) where
  none_kept : (q : K) (es : List (K × V)) → AllByRecursion (λ y. eq q y ≡ false) (keys_of es) → filter (λ e. eq q e.0) es ≡ []
  none_kept q [] each = refl
  none_kept q (e ∷ es) each = ap (λ b. cond b (e ∷ filter (λ f. eq q f.0) es) (filter (λ f. eq q f.0) es)) each.0 ∙ none_kept q es each.1

  -- the entries of a key are the one that a look-up finds
  pub own_entries : ((x y : K) → eq x y ≡ true → x ≡ y) → (q : K) (es : List (K × V)) → IsDistinct eq (keys_of es)
      → filter (λ e. eq q e.0) es ≡ option_map_or (λ v. (q, v) ∷ []) (lookup (eq q) es) []
  own_entries same q [] once = refl
  own_entries same q (e ∷ es) once = step (own_entries same q es (IsDistinct-tail eq e.0 (keys_of es) once)) (eq q e.0) refl
    where
      step : filter (λ e. eq q e.0) es ≡ option_map_or (λ v. (q, v) ∷ []) (lookup (eq q) es) [] → (b : Bool) → eq q e.0 ≡ b → cond b (e ∷ filter (λ f. eq q f.0) es) (filter (λ f. eq q f.0) es) ≡ option_map_or (λ v. (q, v) ∷ []) (cond b (Some e.1) (lookup (eq q) es)) []
      step rest true is =
          let key : e.0 ≡ q = sym (same q e.0 is) in
          let none = none_kept q es (subst (λ k. AllByRecursion (λ y. eq k y ≡ false) (keys_of es)) key (IsDistinct-head eq e.0 (keys_of es) once)) in
          λ i. (key i, e.1) ∷ none i
      step rest false is = rest

pub none_once : {K : Type 0} (eq : K → K → Bool) → IsDistinct eq []
unfolding IsDistinct
none_once eq = tt

less : (o : Ordering) → is_lt o ≡ true → is_eq o ≡ false
less Less h = refl
less Equal h = absurd (false≢true h)
less Greater h = refl

module _ {K V : Type 0} (R : K → K → Ordering) where
  apart : (x : K) (es : List (K × V)) → entries.below_all R x es ≡ true → AllByRecursion (λ y. eq_by_cmp R x y ≡ false) (keys_of es)
  apart x [] h = tt
  apart x (e ∷ es) h = (less (R x e.0) (and_parts _ _ h).0, apart x es (and_parts _ _ h).1)

  -- where keys rise, each stands once
  pub rising_once : (es : List (K × V)) → entries.is_sorted R es ≡ true → IsDistinct (eq_by_cmp R) (keys_of es)
  rising_once [] h = none_once (eq_by_cmp R)
  rising_once (e ∷ es) h = IsDistinct-cons (eq_by_cmp R) e.0 (keys_of es) (apart e.0 es (and_parts _ _ h).0) (rising_once es (and_parts _ _ h).1)

  -- a look-up, in either of two spellings
  pub found_alike : (q : K) (es : List (K × V)) → lookup (eq_by_cmp R q) es ≡ entries.find R q es
  found_alike q [] = refl
  found_alike q (e ∷ es) = ap (λ o. cond (eq_by_cmp R q e.0) (Some e.1) o) (found_alike q es)

-- a sum over those alone that are not nothing
pub sum_kept : {A : Type 0} (p : A → Bool) (f : A → ℕ) → ((x : A) → p x ≡ false → f x ≡ 0) → (xs : List A) → sum_by f xs ≡ sum_by f (filter p xs)
sum_kept p f none [] = refl
sum_kept p f none (x ∷ xs) = sum_by-cons f x xs ∙ ap (λ n. f x + n) (sum_kept p f none xs) ∙ step (p x) refl
  where
    step : (b : Bool) → p x ≡ b → f x + sum_by f (filter p xs) ≡ sum_by f (cond b (x ∷ filter p xs) (filter p xs))
    step true is = sym (sum_by-cons f x (filter p xs))
    step false is = let nothing : f x ≡ 0 = none x is in omega (arith, nothing)
