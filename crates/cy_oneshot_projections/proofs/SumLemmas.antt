-- Totals of integers, one after another.
use Rattle.std.proofs.Common.{◌≡◌, List, [], ◌∷◌, refl, sym, ap, ◌∙◌, arith}
use Rattle.std.specs.Prelude.{ℤ, pos, ◌+ℤ◌, None, Some, Result, Ok, Err}
use Rattle.std.proofs.lemmas.Int.{ints}
use Rattle.cy_values.specs.declared.scalars.Value.TheVariants as value
use Rattle.cy_values.specs.declared.rows.Cell.{Cell}
use Rattle.cy_values.specs.declared.rows.Cell.TheVariants as cell
use Rattle.cy_expr.specs.declared.faults.EvalFault.{EvalFault}
use Rattle.cy_expr.specs.declared.faults.EvalFault.TheVariants.{WrongType}
use Rattle.cy_expr.specs.Faults.{on_one}
use Rattle.cy_oneshot_projections.specs.internal.Integers.{integer_in}
use Rattle.cy_oneshot_projections.proofs.Totals.{IsNoInteger, refused, total_in, total_more}

-- a total and one that comes to it
abbrev pub with_total : ℤ → Result ℤ EvalFault → Result ℤ EvalFault
with_total t o = on_one (λ m. Ok (t +ℤ m)) o

three : (t n m : ℤ) → (t +ℤ n) +ℤ m ≡ t +ℤ (n +ℤ m)
three t n m = omega (arith, ints)

nothing_before : (t : ℤ) → pos 0 +ℤ t ≡ t
nothing_before t = omega (arith, ints)

nothing_more : (t : ℤ) → t +ℤ pos 0 ≡ t
nothing_more t = omega (arith, ints)

one_by_one : (t n : ℤ) (o : Result ℤ EvalFault) → with_total (t +ℤ n) o ≡ with_total t (on_one (λ m. Ok (n +ℤ m)) o)
one_by_one t n (Ok m) = ap Ok (three t n m)
one_by_one t n (Err f) = refl

pub first_total : (o : Result ℤ EvalFault) → with_total (pos 0) o ≡ o
first_total (Ok m) = ap Ok (nothing_before m)
first_total (Err f) = refl

integer_is : (c : Cell) (n : ℤ) → integer_in c ≡ Some n → c ≡ cell.Value (value.Int n)
integer_is (cell.Value (value.Int m)) n is = let same : m ≡ n = cc is in ap (λ k. cell.Value (value.Int k)) same
integer_is (cell.Value (value.Text t)) n is = cc is
integer_is (cell.Value (value.Bool b)) n is = cc is
integer_is (cell.Value value.Null) n is = cc is
integer_is (cell.Value (value.List es)) n is = cc is
integer_is _ n is = cc is

no_integer : (c : Cell) → integer_in c ≡ None → IsNoInteger c
no_integer (cell.Value (value.Int m)) is = cc is
no_integer (cell.Value (value.Text t)) is = tt
no_integer (cell.Value (value.Bool b)) is = tt
no_integer (cell.Value value.Null) is = tt
no_integer (cell.Value (value.List es)) is = tt
no_integer _ is = tt

pub next_total : (t n : ℤ) (c : Cell) (cells left : List Cell) (whole : Result ℤ EvalFault) → left ≡ c ∷ cells → integer_in c ≡ Some n → with_total t (total_in left) ≡ whole
    → with_total (t +ℤ n) (total_in cells) ≡ whole
next_total t n c cells left whole are is before =
    one_by_one t n (total_in cells) ∙ ap (with_total t) (sym (total_more n cells)) ∙ ap (λ (d : Cell). with_total t (total_in (d ∷ cells))) (sym (integer_is c n is))
    ∙ ap (λ (l : List Cell). with_total t (total_in l)) (sym are) ∙ before

pub whole_total : (t : ℤ) (left : List Cell) (whole : Result ℤ EvalFault) → left ≡ [] → with_total t (total_in left) ≡ whole → whole ≡ Ok t
whole_total t left whole none before = sym before ∙ ap (λ (l : List Cell). with_total t (total_in l)) none ∙ ap Ok (nothing_more t)

pub no_total : (t : ℤ) (c : Cell) (cells left : List Cell) (whole : Result ℤ EvalFault) → left ≡ c ∷ cells → integer_in c ≡ None → with_total t (total_in left) ≡ whole → whole ≡ Err WrongType
no_total t c cells left whole are other before =
    sym before ∙ ap (λ (l : List Cell). with_total t (total_in l)) are ∙ ap (with_total t) (refused c cells (no_integer c other))
