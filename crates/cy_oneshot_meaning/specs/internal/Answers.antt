-- What the parts of a clause answer.
use Rattle.std.specs.Prelude.{◌≡◌, ◌⊎◌, List, [], ◌∷◌, ◌++◌, Option, None, Some, Result, Ok, Err, MatchResult}
use Rattle.std.specs.List.{AllByRecursion}
use Rattle.cy_values.specs.declared.rows.Cell.{Cell}
use Rattle.cy_graph.specs.Graph.{Content}
use Rattle.cy_expr.specs.declared.faults.EvalFault.{EvalFault}
use Rattle.cy_expr.specs.declared.faults.EvalFault.TheVariants.{NoMemory}
use Rattle.cy_oneshot_patterns.specs.Outcomes.{smaller}
pub use Rattle.cy_oneshot_patterns.specs.Outcomes.{IsBagAnswer}
use Rattle.cy_oneshot_meaning.specs.Reading.{IsInGraph}

-- the things so far, or a fault
abbrev pub outcome_of : {A : Type 0} → List A → Option EvalFault → Result (List A) EvalFault
outcome_of things None = Ok things
outcome_of things (Some fault) = Err fault

-- the smaller of the fault so far, if there is one, and another
abbrev pub least : Option EvalFault → EvalFault → EvalFault
least None fault = fault
least (Some other) fault = smaller other fault

-- what a function makes of a value, or the fault
abbrev pub on_value : {A B : Type 0} → (A → B) → Result A EvalFault → Result B EvalFault
on_value f (Ok x) = Ok (f x)
on_value f (Err fault) = Err fault

-- a call answers what is meant, or its fault, or it is out of memory
abbrev pub IsAnswer : {A B : Type 0} → Result A EvalFault → (A → B) → Result B EvalFault → Type 0
IsAnswer result view meant = MatchResult result (λ x. meant ≡ Ok (view x)) (λ fault. (meant ≡ Err fault) ⊎ (fault ≡ NoMemory))

-- what was made, unless there was a fault before: then the smaller fault
abbrev pub with_fault : {A : Type 0} → Option EvalFault → Result A EvalFault → Result A EvalFault
with_fault None made = made
with_fault (Some fault) (Ok x) = Err fault
with_fault (Some fault) (Err other) = Err (smaller fault other)

-- the values of outcomes, and the smallest of their faults, after those so far
abbrev pub sifted : {A : Type 0} → List A → Option EvalFault → List (Result A EvalFault) → List A × Option EvalFault
sifted values fault [] = (values, fault)
sifted values fault (Ok x ∷ outcomes) = sifted (values ++ x ∷ []) fault outcomes
sifted values fault (Err other ∷ outcomes) = sifted values (Some (least fault other)) outcomes

-- what a row names is in the graph
abbrev pub IsRowThere : Content → List Cell → Type 0
IsRowThere graph row = AllByRecursion (IsInGraph graph) row
