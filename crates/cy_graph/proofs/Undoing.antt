-- What is undone depends on the numbers at each node, and on nothing else.
use Rattle.std.proofs.Common.{◌≡◌, ℕ, ◌-◌, ◌++◌, eqb, take, length, List, [], ◌∷◌, reverse, if◌then◌else◌, sym, ap, ◌∙◌, arith}
use Rattle.std.proofs.Math.Seq.{take-append_seam}
use Rattle.std.proofs.lemmas.List.{length-append, reverse-append}
use Rattle.cy_values.specs.declared.numbers.RelId.{RelId}
use Rattle.cy_graph.specs.declared.adjacency.Step.{Step}
use Rattle.cy_graph.specs.declared.adjacency.Step.TheVariants.{Added, Removed}
use Rattle.cy_graph.specs.internal.Adjacency.{before_step, undone, without_last}

abbrev Ids : Type 0
Ids = ℕ → List RelId

step_same : (s : Step) (a b : Ids) → ((m : ℕ) → a m ≡ b m) → (m : ℕ) → before_step s a m ≡ before_step s b m
step_same (Added node) a b same m = ap (λ l. if eqb node m then without_last l else l) (same m)
step_same (Removed node) a b same m = same m

pub undone_same : (steps : List Step) (a b : Ids) → ((m : ℕ) → a m ≡ b m) → (m : ℕ) → undone steps a m ≡ undone steps b m
undone_same [] a b same m = same m
undone_same (s ∷ steps) a b same m = undone_same steps (before_step s a) (before_step s b) (step_same s a b same) m

-- the latest step is undone first
pub latest : (steps earlier : List Step) (s : Step) → steps ≡ earlier ++ s ∷ [] → reverse steps ≡ s ∷ reverse earlier
latest steps earlier s is = ap reverse is ∙ reverse-append earlier (s ∷ [])

-- one step is undone
pub one_undone : (steps earlier : List Step) (s : Step) (a b whole : Ids) → steps ≡ earlier ++ s ∷ [] → ((m : ℕ) → b m ≡ before_step s a m) → ((m : ℕ) → undone (reverse steps) a m ≡ whole m)
    → (m : ℕ) → undone (reverse earlier) b m ≡ whole m
one_undone steps earlier s a b whole popped undo same m =
    undone_same (reverse earlier) b (before_step s a) undo m ∙ sym (ap (λ l. undone l a m) (latest steps earlier s popped)) ∙ same m

-- the number that was added last goes
pub last_gone : (ids : List RelId) (x : RelId) → without_last (ids ++ x ∷ []) ≡ ids
last_gone ids x =
    let n : length (ids ++ x ∷ []) - 1 ≡ length ids = omega (arith, length-append ids (x ∷ [])) in
    ap (λ k. take k (ids ++ x ∷ [])) n ∙ take-append_seam ids (x ∷ [])
