-- Outcomes of which the values are kept beside the smallest fault.
use Rattle.std.proofs.Common.{◌≡◌, List, [], ◌∷◌, ◌++◌, append_assoc, append-nil, refl, sym, ap, ◌∙◌}
use Rattle.std.specs.Prelude.{Option, None, Some, Result, Ok, Err}
use Rattle.cy_expr.specs.declared.faults.EvalFault.{EvalFault}
use Rattle.cy_oneshot_meaning.specs.Groups.{values_among}
use Rattle.cy_oneshot_patterns.specs.Outcomes.{and_also, together, gathered}
use Rattle.cy_oneshot_meaning.specs.internal.Answers.{least, outcome_of, sifted, with_fault}
use Rattle.cy_oneshot_meaning.proofs.Together.{together_first, together_three}

pub sifted_values : {A : Type 0} (values : List A) (fault : Option EvalFault) (os : List (Result A EvalFault)) → (sifted values fault os).0 ≡ values ++ values_among os
sifted_values values fault [] = sym (append-nil values)
sifted_values values fault (Ok x ∷ os) = sifted_values (values ++ x ∷ []) fault os ∙ append_assoc values (x ∷ []) (values_among os)
sifted_values values fault (Err f ∷ os) = sifted_values values (Some (least fault f)) os

one_more : {A : Type 0} (values : List A) (fault : Option EvalFault) (x : A) → outcome_of (values ++ x ∷ []) fault ≡ together (outcome_of values fault) (Ok (x ∷ []))
one_more values None x = refl
one_more values (Some f) x = refl

one_fault : {A : Type 0} (values : List A) (fault : Option EvalFault) (f : EvalFault) → outcome_of values (Some (least fault f)) ≡ together (outcome_of values fault) (Err f)
one_fault values None f = refl
one_fault values (Some g) f = refl

ends_with : {A : Type 0} (values : List A) (fault : Option EvalFault) → outcome_of values fault ≡ together (outcome_of values fault) (Ok [])
ends_with values None = ap Ok (sym (append-nil values))
ends_with values (Some f) = refl

sifted_together : {A : Type 0} (values : List A) (fault : Option EvalFault) (os : List (Result A EvalFault))
    → outcome_of (sifted values fault os).0 (sifted values fault os).1 ≡ together (outcome_of values fault) (gathered os)
sifted_together values fault [] = ends_with values fault
sifted_together values fault (Ok x ∷ os) =
    sifted_together (values ++ x ∷ []) fault os ∙ ap (λ o. together o (gathered os)) (one_more values fault x) ∙ together_three (outcome_of values fault) (Ok (x ∷ [])) (gathered os)
sifted_together values fault (Err f ∷ os) =
    sifted_together values (Some (least fault f)) os ∙ ap (λ o. together o (gathered os)) (one_fault values fault f) ∙ together_three (outcome_of values fault) (Err f) (gathered os)

pub sifted_gathered : {A : Type 0} (os : List (Result A EvalFault)) → gathered os ≡ outcome_of (sifted [] None os).0 (sifted [] None os).1
sifted_gathered os = sym (together_first (gathered os)) ∙ sym (sifted_together [] None os)

pub and_also_is : {A B : Type 0} (values : List A) (fault : Option EvalFault) (made : Result B EvalFault) → and_also (outcome_of values fault) made ≡ with_fault fault made
and_also_is values None made = refl
and_also_is values (Some f) (Ok x) = refl
and_also_is values (Some f) (Err g) = refl
