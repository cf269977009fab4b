-- Numbers of which none falls, and the steps of memories.
use Rattle.std.proofs.Common.{◌≡◌, ℕ, ◌≤◌, List, [], ◌∷◌, ◌++◌, refl, map, sym, ap, subst, ◌∙◌, arith}
use Rattle.std.proofs.lemmas.List.{map-append}
use Rattle.cy_network_parts.specs.Taken.{NoneFalls}

pub none_falls : (ns : List ℕ) → NoneFalls ns ns
none_falls [] = tt
none_falls (n ∷ ns) = (omega arith, none_falls ns)

no_less : (l m n : ℕ) → l ≤ m → m ≤ n → l ≤ n
no_less l m n one two = omega (arith, one, two)

pub falls_then : (ls ms ns : List ℕ) → NoneFalls ls ms → NoneFalls ms ns → NoneFalls ls ns
falls_then [] [] [] one two = tt
falls_then [] [] (n ∷ ns) one two = absurd two
falls_then [] (m ∷ ms) ns one two = absurd one
falls_then (l ∷ ls) [] ns one two = absurd one
falls_then (l ∷ ls) (m ∷ ms) [] one two = absurd two
falls_then (l ∷ ls) (m ∷ ms) (n ∷ ns) one two = (no_less l m n one.0 two.0, falls_then ls ms ns one.1 two.1)

pub falls_beside : (ks ls ms ns : List ℕ) → NoneFalls ks ms → NoneFalls ls ns → NoneFalls (ks ++ ls) (ms ++ ns)
falls_beside [] ls [] ns one two = two
falls_beside [] ls (m ∷ ms) ns one two = absurd one
falls_beside (k ∷ ks) ls [] ns one two = absurd one
falls_beside (k ∷ ks) ls (m ∷ ms) ns one two = (one.0, falls_beside ks ls ms ns one.1 two)

module _ {M : Type 0} (step_count : M → ℕ) where
  -- no memory's count of steps fell
  abbrev pub Grown : List M → List M → Type 0
  Grown before after = NoneFalls (map step_count before) (map step_count after)

  pub grown_none : (memories : List M) → Grown memories memories
  grown_none memories = none_falls (map step_count memories)

  pub grown_same : (memories others : List M) → memories ≡ others → Grown memories others
  grown_same memories others same = subst (Grown memories) same (grown_none memories)

  pub grown_then : (first next last : List M) → Grown first next → Grown next last → Grown first last
  grown_then first next last one two = falls_then (map step_count first) (map step_count next) (map step_count last) one two

  -- of two parts of the memories neither fell
  pub grown_two : (memories below own below_new own_new : List M) → memories ≡ below ++ own → Grown below below_new → Grown own own_new → Grown memories (below_new ++ own_new)
  grown_two memories below own below_new own_new is one two =
      subst (λ ns. NoneFalls ns (map step_count (below_new ++ own_new))) (sym (ap (map step_count) is ∙ map-append step_count below own))
      (subst (NoneFalls (map step_count below ++ map step_count own)) (sym (map-append step_count below_new own_new))
      (falls_beside (map step_count below) (map step_count own) (map step_count below_new) (map step_count own_new) one two))

  pub grown_middle : (memories below own later own_new : List M) → memories ≡ below ++ (own ++ later) → Grown own own_new → Grown memories (below ++ (own_new ++ later))
  grown_middle memories below own later own_new is one =
      grown_two memories below (own ++ later) below (own_new ++ later) is (grown_none below) (grown_two (own ++ later) own later own_new later refl one (grown_none later))

  -- one memory, two and three
  pub grown_of_one : (own own_new : List M) (m m_new : M) → own ≡ m ∷ [] → own_new ≡ m_new ∷ [] → step_count m ≤ step_count m_new → Grown own own_new
  grown_of_one own own_new m m_new is is_new one = subst (λ xs. Grown xs own_new) (sym is) (subst (Grown (m ∷ [])) (sym is_new) (one, tt))

  pub grown_of_two : (own own_new : List M) (m n m_new n_new : M) → own ≡ m ∷ n ∷ [] → own_new ≡ m_new ∷ n_new ∷ [] → step_count m ≤ step_count m_new → step_count n ≤ step_count n_new
      → Grown own own_new
  grown_of_two own own_new m n m_new n_new is is_new one two =
      subst (λ xs. Grown xs own_new) (sym is) (subst (Grown (m ∷ n ∷ [])) (sym is_new) (one, (two, tt)))

  pub grown_of_three : (own own_new : List M) (m n o m_new n_new o_new : M) → own ≡ m ∷ n ∷ o ∷ [] → own_new ≡ m_new ∷ n_new ∷ o_new ∷ [] → step_count m ≤ step_count m_new
      → step_count n ≤ step_count n_new → step_count o ≤ step_count o_new → Grown own own_new
  grown_of_three own own_new m n o m_new n_new o_new is is_new one two three =
      subst (λ xs. Grown xs own_new) (sym is) (subst (Grown (m ∷ n ∷ o ∷ [])) (sym is_new) (one, (two, (three, tt))))
