-- Lists that have the same elements in another order: where counts are equal, and what keeps it.
use Rattle.std.proofs.Common.{◌≡◌, ℕ, ◌+◌, ◌<◌, Bool, true, false, cond, List, [], ◌∷◌, ◌++◌, map, refl, sym, ap, subst, ◌∙◌, arith}
use Rattle.std.specs.Prelude.{count_by, sum_by}
use Rattle.std.proofs.lemmas.List.Sums.{sum_by-cons}
pub use Rattle.cy_oneshot_meaning.specs.internal.Permuted.{Permuted, nothing, more, exchanged, and_then}

pub permuted_itself : {A : Type 0} (xs : List A) → Permuted xs xs
permuted_itself [] = nothing
permuted_itself (x ∷ xs) = more x (permuted_itself xs)

pub turned : {A : Type 0} {xs ys : List A} → Permuted xs ys → Permuted ys xs
turned nothing = nothing
turned (more x p) = more x (turned p)
turned (exchanged x y xs) = exchanged y x xs
turned (and_then p q) = and_then (turned q) (turned p)

pub permuted_map : {A B : Type 0} (f : A → B) {xs ys : List A} → Permuted xs ys → Permuted (map f xs) (map f ys)
permuted_map f nothing = nothing
permuted_map f (more x p) = more (f x) (permuted_map f p)
permuted_map f (exchanged x y xs) = exchanged (f x) (f y) (map f xs)
permuted_map f (and_then p q) = and_then (permuted_map f p) (permuted_map f q)

pub permuted_behind : {A : Type 0} (zs : List A) {xs ys : List A} → Permuted xs ys → Permuted (zs ++ xs) (zs ++ ys)
permuted_behind [] p = p
permuted_behind (z ∷ zs) p = more z (permuted_behind zs p)

-- an element, or a list, moves to the front
to_front : {A : Type 0} (xs : List A) (y : A) (ys : List A) → Permuted (xs ++ y ∷ ys) (y ∷ (xs ++ ys))
to_front [] y ys = permuted_itself (y ∷ ys)
to_front (x ∷ xs) y ys = and_then (more x (to_front xs y ys)) (exchanged x y (xs ++ ys))

pub exchanged_lists : {A : Type 0} (xs ys zs : List A) → Permuted (xs ++ (ys ++ zs)) (ys ++ (xs ++ zs))
exchanged_lists xs [] zs = permuted_itself (xs ++ zs)
exchanged_lists xs (y ∷ ys) zs = and_then (to_front xs y (ys ++ zs)) (more y (exchanged_lists xs ys zs))

-- sums and counts stay
pub same_sum : {A : Type 0} (f : A → ℕ) {xs ys : List A} → Permuted xs ys → sum_by f xs ≡ sum_by f ys
same_sum f nothing = refl
same_sum f (more x {xs} {ys} p) = sum_by-cons f x xs ∙ ap (λ n. f x + n) (same_sum f p) ∙ sym (sum_by-cons f x ys)
same_sum f (exchanged x y xs) =
    let one : sum_by f (x ∷ y ∷ xs) ≡ f x + (f y + sum_by f xs) = sum_by-cons f x (y ∷ xs) ∙ ap (λ n. f x + n) (sum_by-cons f y xs) in
    let other : sum_by f (y ∷ x ∷ xs) ≡ f y + (f x + sum_by f xs) = sum_by-cons f y (x ∷ xs) ∙ ap (λ n. f y + n) (sum_by-cons f x xs) in
    omega (arith, one, other)
same_sum f (and_then p q) = same_sum f p ∙ same_sum f q

-- lists with equal counts, by a test that tells whether two elements are the same
module _ {A : Type 0} (same : A → A → Bool) (itself : (x : A) → same x x ≡ true) (identity : (x y : A) → same x y ≡ true → x ≡ y) where
  -- how often x stands in a list with one element more
  count_more : (x y : A) (ys : List A) → count_by (same x) (y ∷ ys) ≡ cond (same x y) 1 0 + count_by (same x) ys
  count_more x y ys = sum_by-cons (λ z. cond (same x z) 1 0) y ys

  count_itself : (x : A) (xs : List A) → count_by (same x) (x ∷ xs) ≡ 1 + count_by (same x) xs
  count_itself x xs = count_more x x xs ∙ ap (λ b. cond b 1 0 + count_by (same x) xs) (itself x)

  -- what counts stands somewhere
  pub found : (x : A) (ys : List A) → 0 < count_by (same x) ys → (rest : List A) × Permuted ys (x ∷ rest)
  found x [] counts = absurd (omega arith)
  found x (y ∷ ys) counts =
      elim (same x y) as (λ b. same x y ≡ b → (rest : List A) × Permuted (y ∷ ys) (x ∷ rest)) [
        | true ↦ λ h. (ys, subst (λ z. Permuted (y ∷ ys) (z ∷ ys)) (sym (identity x y h)) (permuted_itself (y ∷ ys)))
        | false ↦ λ h.
            let none : cond {A = ℕ} (same x y) 1 0 ≡ 0 = ap (λ b. cond b 1 0) h in
            let r = found x ys (let e : count_by (same x) (y ∷ ys) ≡ cond (same x y) 1 0 + count_by (same x) ys = count_more x y ys in omega (arith, e, none)) in
            (y ∷ r.0, and_then (more y r.1) (exchanged y x r.0))
      ] refl

  pub permuted_from_counts : (xs ys : List A) → ((x : A) → count_by (same x) xs ≡ count_by (same x) ys) → Permuted xs ys
  permuted_from_counts [] [] counts = nothing
  permuted_from_counts [] (y ∷ ys) counts = absurd (let e : count_by (same y) (y ∷ ys) ≡ 1 + count_by (same y) ys = count_itself y ys in omega (arith, e, counts y))
  permuted_from_counts (x ∷ xs) ys counts =
      let r = found x ys (let e : count_by (same x) (x ∷ xs) ≡ 1 + count_by (same x) xs = count_itself x xs in omega (arith, e, counts x)) in
      and_then
      (more x (permuted_from_counts xs r.0 (λ z.
      let left : count_by (same z) (x ∷ xs) ≡ cond (same z x) 1 0 + count_by (same z) xs = count_more z x xs in
      let right : count_by (same z) (x ∷ r.0) ≡ cond (same z x) 1 0 + count_by (same z) r.0 = count_more z x r.0 in
      let moved : count_by (same z) ys ≡ count_by (same z) (x ∷ r.0) = same_sum (λ w. cond (same z w) 1 0) r.1 in
      omega (arith, left, right, moved, counts z))))
      (turned r.1)
