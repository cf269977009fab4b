-- Totals of integers.
use Rattle.std.proofs.Common.{◌≡◌, List, [], ◌∷◌, refl, ap}
use Rattle.std.specs.Prelude.{ℤ, ◌+ℤ◌, Result, Ok, Err, MatchResult}
use Rattle.cy_values.specs.declared.scalars.Value.{Value}
use Rattle.cy_values.specs.declared.scalars.Value.TheVariants as value
use Rattle.cy_values.specs.declared.rows.Cell.{Cell}
use Rattle.cy_values.specs.declared.rows.Cell.TheVariants as cell
use Rattle.cy_expr.specs.declared.faults.EvalFault.{EvalFault}
use Rattle.cy_expr.specs.declared.faults.EvalFault.TheVariants.{WrongType}
use Rattle.cy_expr.specs.Faults.{on_one}
use Rattle.cy_oneshot_meaning.specs.Groups.{total, values_in}
use Rattle.cy_oneshot_patterns.specs.Outcomes.{smaller, together}

-- a wrong type is the only fault
abbrev IsWrongType : {A : Type 0} → Result A EvalFault → Type 0
IsWrongType o = MatchResult o (λ x. Unit {0}) (λ fault. fault ≡ WrongType)

value_more : (v : Value) (o : Result (List Value) EvalFault) → IsWrongType o → IsWrongType (together (Ok (v ∷ [])) o)
value_more v (Ok vs) h = tt
value_more v (Err f) h = h

none_more : (o : Result (List Value) EvalFault) → IsWrongType o → together (Err WrongType) o ≡ Err WrongType
none_more (Ok vs) h = refl
none_more (Err f) h = ap (λ g. Err (smaller WrongType g)) h

not_wrong : (o : Result (List Value) EvalFault) → IsWrongType o → IsWrongType (together (Err WrongType) o)
not_wrong (Ok vs) h = refl
not_wrong (Err f) h = ap (λ g. smaller WrongType g) h

values_or_not : (cells : List Cell) → IsWrongType (values_in cells)
values_or_not [] = tt
values_or_not (cell.Value v ∷ cells) = value_more v (values_in cells) (values_or_not cells)
values_or_not (cell.Node n ∷ cells) = not_wrong (values_in cells) (values_or_not cells)
values_or_not (cell.Rel r ∷ cells) = not_wrong (values_in cells) (values_or_not cells)
values_or_not (cell.Rels rs ∷ cells) = not_wrong (values_in cells) (values_or_not cells)

-- the total of cells
abbrev pub total_in : List Cell → Result ℤ EvalFault
total_in cells = on_one total (values_in cells)

int_more : (n : ℤ) (o : Result (List Value) EvalFault) → on_one total (together (Ok (value.Int n ∷ [])) o) ≡ on_one (λ m. Ok (n +ℤ m)) (on_one total o)
int_more n (Ok vs) = refl
int_more n (Err f) = refl

pub total_more : (n : ℤ) (cells : List Cell) → total_in (cell.Value (value.Int n) ∷ cells) ≡ on_one (λ m. Ok (n +ℤ m)) (total_in cells)
total_more n cells = int_more n (values_in cells)

-- a cell that is no integer
abbrev pub IsNoInteger : Cell → Type 0
IsNoInteger (cell.Value (value.Int n)) = ⊥
IsNoInteger c = Unit {0}

no_total : (v : Value) (o : Result (List Value) EvalFault) → IsNoInteger (cell.Value v) → IsWrongType o → on_one total (together (Ok (v ∷ [])) o) ≡ Err WrongType
no_total (value.Text t) (Ok vs) other h = refl
no_total (value.Bool b) (Ok vs) other h = refl
no_total value.Null (Ok vs) other h = refl
no_total (value.List es) (Ok vs) other h = refl
no_total (value.Int n) (Ok vs) other h = absurd other
no_total v (Err f) other h = ap Err h

none_total : (o : Result (List Value) EvalFault) → IsWrongType o → on_one total (together (Err WrongType) o) ≡ Err WrongType
none_total o h = ap (on_one total) (none_more o h)

pub refused : (c : Cell) (cells : List Cell) → IsNoInteger c → total_in (c ∷ cells) ≡ Err WrongType
refused (cell.Value v) cells other = no_total v (values_in cells) other (values_or_not cells)
refused _ cells other = none_total (values_in cells) (values_or_not cells)
