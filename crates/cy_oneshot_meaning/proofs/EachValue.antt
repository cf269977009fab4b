-- What holds of each value among outcomes.
use Rattle.std.proofs.Common.{List, [], ◌∷◌}
use Rattle.std.specs.Prelude.{Result, Ok, Err, IfOk}
use Rattle.std.specs.List.{AllByRecursion}
use Rattle.cy_expr.specs.declared.faults.EvalFault.{EvalFault}
use Rattle.cy_oneshot_patterns.specs.Outcomes.{and_also}
use Rattle.cy_oneshot_meaning.specs.Groups.{looked_at_with, values_among}

pub each_value : {A : Type 0} (P : A → Type 0) (os : List (Result A EvalFault)) → AllByRecursion (λ o. IfOk o P) os → AllByRecursion P (values_among os)
each_value P [] each = tt
each_value P (Ok x ∷ os) each = (each.0, each_value P os each.1)
each_value P (Err f ∷ os) each = each_value P os each.1

pub second_of_both : {A B : Type 0} (Q : B → Type 0) (o : Result A EvalFault) (q : Result B EvalFault) → IfOk q Q → IfOk (and_also o q) Q
second_of_both Q (Ok x) q right = right
second_of_both Q (Err f) (Ok y) right = tt
second_of_both Q (Err f) (Err g) right = tt

-- the first of two outcomes, where the second is looked at only if the first is a fault
pub first_looked_at : {A B : Type 0} (Q : A → Type 0) (o : Result A EvalFault) (q : Result B EvalFault) → IfOk o Q → IfOk (looked_at_with o q) Q
first_looked_at Q (Ok x) q left = left
first_looked_at Q (Err f) q left = second_of_both Q q (Err f) tt
