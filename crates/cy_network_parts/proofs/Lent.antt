-- The memories of a part, one by one.
use Rattle.std.proofs.Common.{◌≡◌, ℕ, ◌+◌, ◌<◌, ◌≤◌, ◌==◌, true, false, List, [], ◌∷◌, ◌++◌, Option, length, map, take, drop, sym, ap, subst, ◌∙◌, arith}
use Rattle.std.specs.Prelude.{sum_by}
use Rattle.std.proofs.Math.Seq.{take-append_seam}
use Rattle.std.proofs.lemmas.Bool.Decides.{nat_tests}
use Rattle.std.proofs.lemmas.List.{length-map}
use Rattle.std.proofs.lemmas.List.Sums.{sum_by-cons}
use Rattle.cy_graph.specs.Graph.{State}
use Rattle.cy_network_memory.specs.Counts.{Counts}
use Rattle.cy_planner_algebra.specs.Plans.{Plan}
use Rattle.cy_network_memory.specs.declared.memory.RowDelta.{RowDelta}
use Rattle.cy_network_parts.specs.internal.Upkeep.{IsOwnBegun, IsOwnDone}

-- memories that were lent are given back
pub lent_back : {A : Type 0} (xs ys : List A) (n : ℕ) → n ≡ length xs → length ys ≡ length xs → take n (ys ++ drop (length ys) xs) ≡ ys
lent_back xs ys n whole same = ap (λ k. take k (ys ++ drop (length ys) xs)) (whole ∙ sym same) ∙ take-append_seam ys (drop (length ys) xs)

-- as many as they have keys
pub own_length : {M : Type 0} (key_columns : M → List ℕ) (own : List M) (keyed : List (List ℕ)) → map key_columns own ≡ keyed → length own ≡ length keyed
own_length key_columns own keyed same = sym (length-map own key_columns) ∙ ap length same

pub no_length : (long : ℕ) → (long == 0) ≡ true → long ≡ 0
no_length long none = grind (arith, nat_tests)

pub some_length : (long : ℕ) → (long == 0) ≡ false → 0 < long
some_length long some = grind (arith, nat_tests)

module _ {M : Type 0} (key_columns : M → List ℕ) (was staged : M → Counts) (old : Option State) where
  -- one part, and the same part told by its form
  pub begun_as : (q p : Plan) (own these : List M) → q ≡ p → own ≡ these → IsOwnBegun old q (map key_columns own) (map was own) (map staged own)
      → IsOwnBegun old p (map key_columns these) (map was these) (map staged these)
  begun_as q p own these same is begun =
      subst (λ r. IsOwnBegun old r (map key_columns these) (map was these) (map staged these)) same
      (subst (λ xs. IsOwnBegun old q (map key_columns xs) (map was xs) (map staged xs)) is begun)

  pub done_as : (now : State) (q p : Plan) (own these : List M) (made : List RowDelta) → q ≡ p → own ≡ these → IsOwnDone old now p (map staged these) made → IsOwnDone old now q (map staged own) made
  done_as now q p own these made same is done =
      subst (λ r. IsOwnDone old now r (map staged own) made) (sym same) (subst (λ xs. IsOwnDone old now p (map staged xs) made) (sym is) done)

module _ {M : Type 0} (step_count : M → ℕ) where
  sum_one : (m : M) → sum_by step_count (m ∷ []) ≡ step_count m
  sum_one m = let n = sum_by-cons step_count m [] in omega (arith, n)

  pub sum_two : (m n : M) → sum_by step_count (m ∷ n ∷ []) ≡ step_count m + step_count n
  sum_two m n = let a = sum_by-cons step_count m (n ∷ []) in let b = sum_one n in omega (arith, a, b)

  sum_three : (m n o : M) → sum_by step_count (m ∷ n ∷ o ∷ []) ≡ step_count m + step_count n + step_count o
  sum_three m n o = let a = sum_by-cons step_count m (n ∷ o ∷ []) in let b = sum_two n o in omega (arith, a, b)

  pub steps_of_one : (own own_new : List M) (m m_new : M) (more : ℕ) → own ≡ m ∷ [] → own_new ≡ m_new ∷ [] → step_count m_new ≤ step_count m + more
      → sum_by step_count own_new ≤ sum_by step_count own + more
  steps_of_one own own_new m m_new more is is_new most =
      let a = ap (sum_by step_count) is ∙ sum_one m in let b = ap (sum_by step_count) is_new ∙ sum_one m_new in omega (arith, a, b, most)

  pub steps_of_two : (own own_new : List M) (m n m_new n_new : M) (more : ℕ) → own ≡ m ∷ n ∷ [] → own_new ≡ m_new ∷ n_new ∷ []
      → step_count m_new + step_count n_new ≤ step_count m + step_count n + more → sum_by step_count own_new ≤ sum_by step_count own + more
  steps_of_two own own_new m n m_new n_new more is is_new most =
      let a = ap (sum_by step_count) is ∙ sum_two m n in let b = ap (sum_by step_count) is_new ∙ sum_two m_new n_new in omega (arith, a, b, most)

  pub steps_of_three : (own own_new : List M) (m n o m_new n_new o_new : M) (more : ℕ) → own ≡ m ∷ n ∷ o ∷ [] → own_new ≡ m_new ∷ n_new ∷ o_new ∷ []
      → step_count m_new + step_count n_new + step_count o_new ≤ step_count m + step_count n + step_count o + more → sum_by step_count own_new ≤ sum_by step_count own + more
  steps_of_three own own_new m n o m_new n_new o_new more is is_new most =
      let a = ap (sum_by step_count) is ∙ sum_three m n o in let b = ap (sum_by step_count) is_new ∙ sum_three m_new n_new o_new in omega (arith, a, b, most)
