-- The numbers of the faults of statements, and what is done one thing after another, up to the first fault (own).
use Rattle.std.specs.Prelude.{ℕ, List, [], ◌∷◌, Result, Ok, Err}
use Rattle.cy_graph.specs.declared.faults.GraphFault.{GraphFault}
use Rattle.cy_graph.specs.declared.faults.GraphFault.TheVariants as graph
use Rattle.cy_expr.specs.declared.faults.EvalFault.{EvalFault}
use Rattle.cy_expr.specs.declared.faults.EvalFault.TheVariants as eval
use Rattle.cy_expr.specs.Faults as expressions
use Rattle.cy_updates_meaning.specs.declared.faults.UpdateFault.{UpdateFault}
use Rattle.cy_updates_meaning.specs.declared.faults.UpdateFault.TheVariants.{Eval, StillConnected, NullEndpoint, NotStorable, Full, NoMemory}

abbrev pub code_of : UpdateFault → ℕ
code_of (Eval fault) = expressions.code_of fault
code_of (StillConnected rel) = 50
code_of NullEndpoint = 51
code_of NotStorable = 52
code_of Full = 53
code_of NoMemory = 90

-- out of memory is one fault, whatever needed it
abbrev pub of_evaluation : EvalFault → UpdateFault
of_evaluation eval.NoMemory = NoMemory
of_evaluation fault = Eval fault

abbrev pub of_graph : GraphFault → UpdateFault
of_graph (graph.StillConnected rel) = StillConnected rel
of_graph graph.Full = Full
of_graph graph.NoMemory = NoMemory

-- what an expression, or a reading clause, gives, as a part of a statement
abbrev pub evaluated : {A : Type 0} → Result A EvalFault → Result A UpdateFault
evaluated (Ok x) = Ok x
evaluated (Err fault) = Err (of_evaluation fault)

-- it goes on with what is there, or stops at the fault
infixl 10 ◌>>=◌
abbrev pub ◌>>=◌ : {A B F : Type 0} → Result A F → (A → Result B F) → Result B F
(Ok x) >>= f = f x
(Err fault) >>= f = Err fault

-- one after another, each from what those before it leave, up to the first fault
abbrev pub each_in_turn : {A S F : Type 0} → (A → S → Result S F) → List A → S → Result S F
each_in_turn f [] so_far = Ok so_far
each_in_turn f (x ∷ xs) so_far = f x so_far >>= λ next. each_in_turn f xs next
