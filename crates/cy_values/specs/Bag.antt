-- Bags of rows: a table's rows, each with the number of times that it counts. (Francis et al., tables; the canonical order: own)
use Rattle.std.specs.Prelude.{◌≡◌, ℕ, ◌<◌, ◌-◌, List, [], ◌∷◌, if◌then◌else◌, count_by, sum_by}
use Rattle.std.specs.declared.cmp.Ordering.TheVariants.{Less}
use Rattle.std.specs.Ordering.{eq_by_cmp}
use Rattle.cy_values.specs.declared.rows.Cell.{Cell}
use Rattle.cy_values.specs.Order.{row_cmp}

-- how often a row stands among the rows
abbrev pub count_of : List Cell → List (List Cell) → ℕ
count_of row rows = count_by (eq_by_cmp row_cmp row) rows

-- two lists of rows are the same bag: each row counts as often in the one as in the other
abbrev pub IsSameBag : List (List Cell) → List (List Cell) → Type 0
IsSameBag rows others = (row : List Cell) → count_of row rows ≡ count_of row others

-- how often a row counts, where each row stands with its count
abbrev pub weight_of : List Cell → List (List Cell × ℕ) → ℕ
weight_of row pairs = sum_by (λ p. if eq_by_cmp row_cmp row p.0 then p.1 else 0) pairs

-- the pairs are those of this bag: each row has its count
abbrev pub IsBagOf : List (List Cell) → List (List Cell × ℕ) → Type 0
IsBagOf rows pairs = (row : List Cell) → weight_of row pairs ≡ count_of row rows

-- the rows strictly rise, so each stands once, in canonical order, and each counts
abbrev pub IsCanonical : List (List Cell × ℕ) → Type 0
IsCanonical [] = Unit {0}
IsCanonical (p ∷ []) = 0 < p.1
IsCanonical (p ∷ q ∷ pairs) = (0 < p.1) × (row_cmp p.0 q.0 ≡ Less) × IsCanonical (q ∷ pairs)

-- The surplus of a bag over another one: each row counts by how much more it counts in the first, and no other row is there.
-- Subtraction ends at 0.
pub record IsSurplus (more less : List (List Cell)) (pairs : List (List Cell × ℕ)) : Type 0 where
  pub counts : (row : List Cell) → weight_of row pairs ≡ count_of row more - count_of row less
  pub canonical : IsCanonical pairs
