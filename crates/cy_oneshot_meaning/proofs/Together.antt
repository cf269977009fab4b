-- What outcomes give together, one after another.
use Rattle.std.proofs.Common.{◌≡◌, ◌≢◌, ◌⊎◌, inl, inr, List, [], ◌∷◌, map, append_assoc, refl, sym, ap, ◌∙◌, arith}
use Rattle.std.specs.Prelude.{None, Result, Ok, Err, MatchResult}
use Rattle.std.proofs.lemmas.List.{append-nil, map-append}
use Rattle.cy_expr.specs.declared.faults.EvalFault.{EvalFault}
use Rattle.cy_expr.specs.declared.faults.EvalFault.TheVariants.{NoMemory}
use Rattle.cy_expr.specs.Faults.{on_one}
use Rattle.cy_values.specs.declared.rows.Cell.{Cell}
use Rattle.cy_graph.specs.Graph.{Content}
use Rattle.cy_oneshot_patterns.specs.Matching.{selected}
use Rattle.cy_oneshot_patterns.specs.Outcomes.{smaller, together, joined}
use Rattle.cy_oneshot_meaning.specs.internal.Answers.{IsAnswer, on_value}
use Rattle.cy_oneshot_meaning.proofs.Joined.{same_fault, smaller_code}

pub together_first : {A : Type 0} (o : Result (List A) EvalFault) → together (Ok []) o ≡ o
together_first (Ok xs) = refl
together_first (Err fault) = refl

pub together_last : {A : Type 0} (o : Result (List A) EvalFault) → together o (Ok []) ≡ o
together_last (Ok xs) = ap Ok (append-nil xs)
together_last (Err fault) = refl

smaller_three : (f g h : EvalFault) → smaller (smaller f g) h ≡ smaller f (smaller g h)
smaller_three f g h =
    same_fault _ _ (omega (arith, smaller_code (smaller f g) h, smaller_code f g, smaller_code f (smaller g h), smaller_code g h))

pub together_three : {A : Type 0} (o q r : Result (List A) EvalFault) → together (together o q) r ≡ together o (together q r)
together_three (Ok xs) (Ok ys) (Ok zs) = ap Ok (append_assoc xs ys zs)
together_three (Ok xs) (Ok ys) (Err h) = refl
together_three (Ok xs) (Err g) (Ok zs) = refl
together_three (Ok xs) (Err g) (Err h) = refl
together_three (Err f) (Ok ys) (Ok zs) = refl
together_three (Err f) (Ok ys) (Err h) = refl
together_three (Err f) (Err g) (Ok zs) = refl
together_three (Err f) (Err g) (Err h) = ap Err (smaller_three f g h)

-- an outcome that is what is meant, or out of memory, and isn't out of memory
pub settled : {A : Type 0} (outcome meant : Result A EvalFault) → (outcome ≡ meant) ⊎ (outcome ≡ Err NoMemory) → outcome ≢ Err NoMemory → outcome ≡ meant
settled outcome meant (inl same) not = same
settled outcome meant (inr none) not = absurd (not none)

-- outcomes of a list, each by a thing of it
module _ {X A : Type 0} (all : List X → Result (List A) EvalFault) (of : X → Result (List A) EvalFault) (first : (x : X) (xs : List X) → all (x ∷ xs) ≡ together (of x) (all xs)) where
  -- what the things gave so far with what the next one gives, and the things that are left
  pub goes_on : (so_far next whole : Result (List A) EvalFault) (x : X) (xs left : List X)
      → left ≡ x ∷ xs → next ≡ together so_far (of x) → together so_far (all left) ≡ whole → together next (all xs) ≡ whole
  goes_on so_far next whole x xs left are step before =
      ap (λ (o : Result (List A) EvalFault). together o (all xs)) step
      ∙ together_three so_far (of x) (all xs)
      ∙ ap (together so_far) (sym (first x xs))
      ∙ ap (λ (l : List X). together so_far (all l)) (sym are)
      ∙ before

  -- none is left
  pub goes_through : all [] ≡ Ok [] → (so_far whole : Result (List A) EvalFault) (left : List X) → left ≡ [] → together so_far (all left) ≡ whole → so_far ≡ whole
  goes_through nothing so_far whole left none before =
      sym (together_last so_far) ∙ ap (together so_far) (sym nothing) ∙ ap (λ (l : List X). together so_far (all l)) (sym none) ∙ before

-- the same where each outcome is one thing
abbrev pub single : {A : Type 0} → Result A EvalFault → Result (List A) EvalFault
single outcome = on_one (λ x. Ok (x ∷ [])) outcome

-- without a WHERE all rows are kept
pub all_kept : (graph : Content) (rows : List (List Cell)) → joined (map (selected graph None) rows) ≡ Ok rows
all_kept graph [] = refl
all_kept graph (row ∷ rows) = ap (together (Ok (row ∷ []))) (all_kept graph rows)

-- what finishes, and what is meant
pub finished : {A B : Type 0} (view : A → B) (r : Result A EvalFault) (so_far meant : Result B EvalFault)
    → MatchResult r (λ x. so_far ≡ Ok (view x)) (λ fault. so_far ≡ Err fault) → so_far ≡ meant → IsAnswer r view meant
finished view (Ok x) so_far meant is same = sym same ∙ is
finished view (Err fault) so_far meant is same = inl (sym same ∙ is)

-- the same, seen by a function
pub finished_as : {A B C : Type 0} (view : A → List B) (f : B → C) (r : Result A EvalFault) (so_far : Result (List B) EvalFault) (meant : Result (List C) EvalFault)
    → MatchResult r (λ x. so_far ≡ Ok (view x)) (λ fault. so_far ≡ Err fault) → on_value (map f) so_far ≡ meant → IsAnswer r (λ x. map f (view x)) meant
finished_as view f (Ok x) so_far meant is same = sym same ∙ ap (on_value (map f)) is
finished_as view f (Err fault) so_far meant is same = inl (sym same ∙ ap (on_value (map f)) is)

-- an answer that isn't out of memory
pub answered : {A B : Type 0} (view : A → B) (r : Result A EvalFault) (meant : Result B EvalFault) → IsAnswer r view meant → r ≢ Err NoMemory → on_one (λ x. Ok (view x)) r ≡ meant
answered view (Ok x) meant is not = sym is
answered view (Err fault) meant (inl is) not = sym is
answered view (Err fault) meant (inr none) not = absurd (not (ap Err none))

pub single_settled : {A : Type 0} (r meant : Result A EvalFault) → (r ≡ meant) ⊎ (r ≡ Err NoMemory) → r ≢ Err NoMemory → single r ≡ single meant
single_settled r meant either not = ap single (settled r meant either not)

pub answered_same : {A : Type 0} (r meant : Result A EvalFault) → IsAnswer r (λ x. x) meant → r ≢ Err NoMemory → r ≡ meant
answered_same (Ok x) meant is not = sym is
answered_same (Err fault) meant (inl is) not = sym is
answered_same (Err fault) meant (inr none) not = absurd (not (ap Err none))

-- what a function makes of the things so far
pub made_together : {A B : Type 0} (f : A → B) (o q : Result (List A) EvalFault) → on_value (map f) (together o q) ≡ together (on_value (map f) o) (on_value (map f) q)
made_together f (Ok xs) (Ok ys) = ap Ok (map-append f xs ys)
made_together f (Ok xs) (Err g) = refl
made_together f (Err h) (Ok ys) = refl
made_together f (Err h) (Err g) = refl

pub made_single : {A B : Type 0} (f : A → B) (o : Result A EvalFault) → on_value (map f) (single o) ≡ single (on_one (λ x. Ok (f x)) o)
made_single f (Ok x) = refl
made_single f (Err fault) = refl
