-- What outcomes give together stays, but for the order, where they come in another order.
use Rattle.std.proofs.Common.{◌≡◌, ℕ, true, false, cond, List, map, refl, sym, ap, ◌∙◌, arith, min}
use Rattle.std.specs.Prelude.{Result, Ok, Err, nat_le, ◌==◌}
use Rattle.std.proofs.lemmas.Bool.Decides.{nat_tests}
use Rattle.cy_expr.specs.declared.faults.EvalFault.{EvalFault}
use Rattle.cy_expr.specs.declared.faults.EvalFault.TheVariants.{NotBoolean, WrongType, Overflow, DivisionByZero, NestedList, NoMemory}
use Rattle.cy_expr.specs.Faults.{code_of}
use Rattle.cy_oneshot_patterns.specs.Outcomes.{smaller, together, joined, gathered}
pub use Rattle.cy_oneshot_meaning.specs.internal.Permuted.{Alike}
use Rattle.cy_oneshot_meaning.proofs.Permuted.{Permuted, nothing, more, exchanged, and_then, permuted_itself, permuted_map, permuted_behind, exchanged_lists}

-- ---- faults: a code tells which

fault_of : ℕ → EvalFault
fault_of code =
    cond (code == 40) NotBoolean (cond (code == 41) WrongType (cond (code == 42) Overflow (cond (code == 43) DivisionByZero (cond (code == 44) NestedList NoMemory))))

fault_of_code : (f : EvalFault) → fault_of (code_of f) ≡ f
unfolding fault_of
fault_of_code NotBoolean = refl
fault_of_code _ = refl

pub same_fault : (f g : EvalFault) → code_of f ≡ code_of g → f ≡ g
same_fault f g e = sym (fault_of_code f) ∙ ap fault_of e ∙ fault_of_code g

pub smaller_code : (f g : EvalFault) → code_of (smaller f g) ≡ min (code_of f) (code_of g)
smaller_code f g =
    elim (nat_le (code_of f) (code_of g)) as (λ b. nat_le (code_of f) (code_of g) ≡ b → code_of (cond b f g) ≡ min (code_of f) (code_of g)) [
      | true ↦ λ h. grind (arith, nat_tests)
      | false ↦ λ h. grind (arith, nat_tests)
    ] refl

pub smaller_either_way : (f g : EvalFault) → smaller f g ≡ smaller g f
smaller_either_way f g = same_fault (smaller f g) (smaller g f) (omega (arith, smaller_code f g, smaller_code g f))

pub smaller_exchanged : (f g h : EvalFault) → smaller f (smaller g h) ≡ smaller g (smaller f h)
smaller_exchanged f g h =
    same_fault _ _ (omega (arith, smaller_code f (smaller g h), smaller_code g h, smaller_code g (smaller f h), smaller_code f h))

-- ---- outcomes

pub alike_itself : {A : Type 0} (r : Result (List A) EvalFault) → Alike r r
alike_itself (Ok xs) = permuted_itself xs
alike_itself (Err fault) = refl

alike_and_then : {A : Type 0} (r s t : Result (List A) EvalFault) → Alike r s → Alike s t → Alike r t
alike_and_then (Ok xs) (Ok ys) (Ok zs) p q = and_then p q
alike_and_then (Err f) (Err g) (Err h) p q = p ∙ q
alike_and_then (Ok xs) (Ok ys) (Err h) p q = absurd q
alike_and_then (Ok xs) (Err g) t p q = absurd p
alike_and_then (Err f) (Ok ys) t p q = absurd p
alike_and_then (Err f) (Err g) (Ok zs) p q = absurd q

together_more : {A : Type 0} (o r s : Result (List A) EvalFault) → Alike r s → Alike (together o r) (together o s)
together_more (Ok xs) (Ok ys) (Ok zs) p = permuted_behind xs p
together_more (Ok xs) (Err f) (Err g) p = p
together_more (Err h) (Ok ys) (Ok zs) p = refl
together_more (Err h) (Err f) (Err g) p = ap (smaller h) p
together_more o (Ok ys) (Err g) p = absurd p
together_more o (Err f) (Ok zs) p = absurd p

together_exchanged : {A : Type 0} (o q r : Result (List A) EvalFault) → Alike (together o (together q r)) (together q (together o r))
together_exchanged (Ok xs) (Ok ys) (Ok zs) = exchanged_lists xs ys zs
together_exchanged (Ok xs) (Ok ys) (Err h) = refl
together_exchanged (Ok xs) (Err g) (Ok zs) = refl
together_exchanged (Ok xs) (Err g) (Err h) = refl
together_exchanged (Err f) (Ok ys) (Ok zs) = refl
together_exchanged (Err f) (Ok ys) (Err h) = refl
together_exchanged (Err f) (Err g) (Ok zs) = smaller_either_way f g
together_exchanged (Err f) (Err g) (Err h) = smaller_exchanged f g h

pub joined_alike : {A : Type 0} {os qs : List (Result (List A) EvalFault)} → Permuted os qs → Alike (joined os) (joined qs)
joined_alike nothing = nothing
joined_alike (more o {xs = os} {ys = qs} p) = together_more o (joined os) (joined qs) (joined_alike p)
joined_alike (exchanged o q os) = together_exchanged o q (joined os)
joined_alike (and_then {xs} {ys} {zs} p q) = alike_and_then (joined xs) (joined ys) (joined zs) (joined_alike p) (joined_alike q)

pub gathered_alike : {A : Type 0} {os qs : List (Result A EvalFault)} → Permuted os qs → Alike (gathered os) (gathered qs)
gathered_alike p = joined_alike (permuted_map _ p)

-- what is done with each outcome of a list
pub joined_each : {A B : Type 0} (f : A → Result (List B) EvalFault) {xs ys : List A} → Permuted xs ys → Alike (joined (map f xs)) (joined (map f ys))
joined_each f p = joined_alike (permuted_map f p)

pub gathered_each : {A B : Type 0} (f : A → Result B EvalFault) {xs ys : List A} → Permuted xs ys → Alike (gathered (map f xs)) (gathered (map f ys))
gathered_each f p = gathered_alike (permuted_map f p)
