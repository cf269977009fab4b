-- What stands in the columns of a plan shows the same kind where columns are added to it and dropped again.
use Rattle.std.proofs.Common.{◌≡◌, ℕ, zero, suc, ◌+◌, ◌<◌, ◌≤◌, ◌==◌, true, false, cond, map, List, [], ◌∷◌, refl, sym, ap, ◌∙◌, arith}
use Rattle.std.specs.Prelude.{Option, Some, None, nat_lt, slice_get}
use Rattle.std.specs.List.{range_with_len}
use Rattle.std.specs.Option.{option_map_or}
use Rattle.std.proofs.lemmas.Bool.{eqb-true, lt-ltb, ltb-false, ltb-true}
use Rattle.cy_scope_kinds.specs.declared.kinds.Kind.{Kind}
use Rattle.cy_scope_kinds.specs.declared.kinds.Kind.TheVariants as kind
use Rattle.cy_planner_algebra.specs.Plans as plan
use Rattle.cy_planner_algebra.specs.Plans.{Plan, Output, width}
use Rattle.cy_planner_algebra.specs.WellFormed.{IsWellFormed}
use Rattle.cy_planner_rows.specs.declared.places.Wanted.{Wanted}
use Rattle.cy_planner_rows.specs.Columns.{column_output}
use Rattle.cy_planner_rows.specs.internal.Lookups.{first_columns, narrowed, over}
use Rattle.cy_planner_pushdown.specs.internal.Pushed.{column_taken_over, kind_at, kind_made}
use Rattle.cy_planner_pushdown.proofs.ColumnKinds.{inside}

-- a column that the rows don't have shows no kind
outside : (p : Plan) (column : ℕ) → IsWellFormed p → width p ≤ column → kind_at p column ≡ None
outside p column well least =
    elim (kind_at p column) as (λ (o : Option Kind). kind_at p column ≡ o → o ≡ None) [
      | Some k ↦ λ is. absurd (let less = inside p column k well is in omega (arith, less, least))
      | None ↦ λ is. refl
    ] refl

pub kinds_over : (p : Plan) (wanted : List Wanted) (column : ℕ) → column < width p → kind_at (over p wanted) column ≡ kind_at p column
kinds_over p [] column less = refl
kinds_over p (w ∷ wanted) column less =
    kinds_over (plan.lookup p w.column w.attribute) wanted column (omega (arith, less))
    ∙ ap (λ b. cond b (kind_at p column) (cond (column == width p) (Some kind.Value) None)) (lt-ltb column (width p) less)

-- ---- the first columns

there : (f : ℕ → Output) (a n c : ℕ) → c < n → slice_get (map f (range_with_len a n)) c ≡ Some (f (a + c))
there f a zero c less = absurd (omega (arith, less))
there f a (suc n) zero less = ap (λ m. Some (f m)) (omega arith)
there f a (suc n) (suc c) less = there f (a + 1) n c (omega (arith, less)) ∙ ap (λ m. Some (f m)) (omega arith)

not_there : (f : ℕ → Output) (a n c : ℕ) → n ≤ c → slice_get (map f (range_with_len a n)) c ≡ None
not_there f a zero c least = refl
not_there f a (suc n) zero least = absurd (omega (arith, least))
not_there f a (suc n) (suc c) least = not_there f (a + 1) n c (omega (arith, least))

abbrev kind_of : Plan → Option Output → Option Kind
kind_of p o = option_map_or (kind_at p) (column_taken_over o) (kind_made o)

kinds_first : (n : ℕ) (p : Plan) (column : ℕ) → column < n → kind_at (narrowed n p) column ≡ kind_at p column
kinds_first n p column less =
    elim (width p == n) as (λ b. kind_at (cond b p (plan.project p (first_columns n))) column ≡ kind_at p column) [
      | true ↦ refl
      | false ↦ ap (kind_of p) (there column_output 0 n column less) ∙ ap (kind_at p) (let e : 0 + column ≡ column = omega arith in e)
    ]

none_after : (n : ℕ) (p : Plan) (column : ℕ) → IsWellFormed p → n ≤ column → n ≡ width p → kind_at p column ≡ None
none_after n p column well least wide = outside p column well (omega (arith, least, wide))

kinds_dropped : (n : ℕ) (p : Plan) (column : ℕ) → IsWellFormed p → n ≤ column → kind_at (narrowed n p) column ≡ None
kinds_dropped n p column well least =
    elim (width p == n) as (λ b. (width p == n) ≡ b → kind_at (cond b p (plan.project p (first_columns n))) column ≡ None) [
      | true ↦ λ is. none_after n p column well least (sym (eqb-true (width p) n is))
      | false ↦ λ is. ap (kind_of p) (not_there column_output 0 n column least)
    ] refl

-- a plan with more columns, of which the first ones are kept
pub kinds_narrowed : (below wider : Plan) → IsWellFormed below → IsWellFormed wider → ((column : ℕ) → column < width below → kind_at wider column ≡ kind_at below column) → (column : ℕ)
    → kind_at (narrowed (width below) wider) column ≡ kind_at below column
kinds_narrowed below wider well wider_well same column =
    elim (nat_lt column (width below)) as (λ b. nat_lt column (width below) ≡ b → kind_at (narrowed (width below) wider) column ≡ kind_at below column) [
      | true ↦ λ is. let less = ltb-true column (width below) is in kinds_first (width below) wider column less ∙ same column less
      | false ↦ λ is.
          let least = ltb-false column (width below) is in
          kinds_dropped (width below) wider column wider_well least ∙ sym (outside below column well least)
    ] refl
