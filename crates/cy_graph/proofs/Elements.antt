-- Elements of lists, and where they come from.
use Rattle.std.proofs.Common.{◌≡◌, ℕ, zero, suc, ◌<◌, Bool, true, false, cond, List, [], ◌∷◌, ◌++◌, length, get_or, map, filter, Contains, inl, inr, refl, ap, subst, ◌∙◌, sym, arith}
use Rattle.std.specs.Prelude.{◌⊎◌}
use Rattle.std.specs.List.{AllByRecursion}
use Rattle.std.proofs.lemmas.List.Elements.{Contains-get_or, Contains-append_right}
use Rattle.cy_graph.specs.internal.Differences.{IsIn}

module _ {X : Type 0} where
  pub contains_from_in : (x : X) (xs : List X) → IsIn x xs → Contains xs x
  contains_from_in x [] i = absurd i
  contains_from_in x (y ∷ ys) (inl e) = subst (Contains (y ∷ ys)) e (Contains-get_or (y ∷ ys) 0 y (omega arith))
  contains_from_in x (y ∷ ys) (inr i) = Contains-append_right (y ∷ []) ys x (contains_from_in x ys i)

  pub in_from_place : (x : X) (xs : List X) (k : ℕ) → k < length xs → get_or xs k x ≡ x → IsIn x xs
  in_from_place x [] k lt e = absurd (omega arith)
  in_from_place x (y ∷ ys) zero lt e = inl e
  in_from_place x (y ∷ ys) (suc k) lt e = inr (in_from_place x ys k (omega arith) e)

  pub in_parts : (x : X) (xs ys : List X) → IsIn x (xs ++ ys) → IsIn x xs ⊎ IsIn x ys
  in_parts x [] ys i = inr i
  in_parts x (z ∷ xs) ys (inl e) = inl (inl e)
  in_parts x (z ∷ xs) ys (inr i) = elim (in_parts x xs ys i) as (λ _. IsIn x (z ∷ xs) ⊎ IsIn x ys) [ inl a ↦ inl (inr a) | inr b ↦ inr b ]

  pub in_left : (x : X) (xs ys : List X) → IsIn x xs → IsIn x (xs ++ ys)
  in_left x [] ys i = absurd i
  in_left x (z ∷ xs) ys (inl e) = inl e
  in_left x (z ∷ xs) ys (inr i) = inr (in_left x xs ys i)

  pub in_right : (x : X) (xs ys : List X) → IsIn x ys → IsIn x (xs ++ ys)
  in_right x [] ys i = i
  in_right x (z ∷ xs) ys i = inr (in_right x xs ys i)

  pub all_in : (P : X → Type 0) (xs : List X) → ((x : X) → IsIn x xs → P x) → AllByRecursion P xs
  all_in P [] each = tt
  all_in P (x ∷ xs) each = (each x (inl refl), all_in P xs (λ y i. each y (inr i)))

  pub all_of : (P : X → Type 0) (xs : List X) (x : X) → AllByRecursion P xs → IsIn x xs → P x
  all_of P [] x all i = absurd i
  all_of P (y ∷ xs) x all (inl e) = subst P e all.0
  all_of P (y ∷ xs) x all (inr i) = all_of P xs x all.1 i

-- where an element of a mapped filter comes from
pub record Source {X Y : Type 0} (f : X → Y) (test : X → Bool) (es : List X) (y : Y) : Type 0 where
  pub from : X
  pub there : IsIn from es
  pub passes : test from ≡ true
  pub gives : f from ≡ y

module _ {X Y : Type 0} (f : X → Y) (test : X → Bool) where
  pub source : (es : List X) (y : Y) → IsIn y (map f (filter test es)) → Source f test es y
  source [] y i = absurd i
  source (e ∷ es) y i =
      elim (test e) as (λ b. test e ≡ b → IsIn y (map f (cond b (e ∷ filter test es) (filter test es))) → Source f test (e ∷ es) y) [
        | true ↦ λ t j. elim j as (λ _. Source f test (e ∷ es) y) [
          | inl same ↦ record { from = e; there = inl refl; passes = t; gives = same }
          | inr rest ↦ let s = source es y rest in record { from = s.from; there = inr s.there; passes = s.passes; gives = s.gives }
        ]
        | false ↦ λ t j. let s = source es y j in record { from = s.from; there = inr s.there; passes = s.passes; gives = s.gives }
      ] refl i

  pub in_filtered : (es : List X) (e : X) → IsIn e es → test e ≡ true → IsIn (f e) (map f (filter test es))
  in_filtered [] e i passes = absurd i
  in_filtered (d ∷ es) e (inl same) passes =
      let here : test d ≡ true = ap test same ∙ passes in
      subst (λ b. IsIn (f e) (map f (cond b (d ∷ filter test es) (filter test es)))) (sym here) (inl (ap f same))
  in_filtered (d ∷ es) e (inr i) passes =
      let rest = in_filtered es e i passes in
      elim (test d) as (λ b. IsIn (f e) (map f (cond b (d ∷ filter test es) (filter test es)))) [ true ↦ inr rest | false ↦ rest ]

  pub origin : (es : List X) (y : Y) → IsIn y (map f es) → record { from : X; there : IsIn from es; gives : f from ≡ y }
  origin [] y i = absurd i
  origin (e ∷ es) y (inl same) = record { from = e; there = inl refl; gives = same }
  origin (e ∷ es) y (inr i) = let s = origin es y i in record { from = s.from; there = inr s.there; gives = s.gives }

  pub in_mapped : (es : List X) (e : X) → IsIn e es → IsIn (f e) (map f es)
  in_mapped [] e i = absurd i
  in_mapped (d ∷ es) e (inl same) = inl (ap f same)
  in_mapped (d ∷ es) e (inr i) = inr (in_mapped es e i)
