-- Which entity a row is of, and bounds of row deltas.
use Rattle.std.proofs.Common.{◌≡◌, ℕ, ◌+◌, ◌≤◌, ◌==◌, Bool, true, false, cond, List, [], ◌∷◌, Option, None, Some, refl, sym, ap, ◌∙◌, nat_eq, arith}
use Rattle.std.specs.List.{All}
use Rattle.std.proofs.lemmas.Bool.{true≢false}
use Rattle.std.proofs.lemmas.List.Elements.{All-head, All-tail}
use Rattle.cy_values.specs.declared.rows.Cell.{Cell}
use Rattle.cy_values.specs.declared.rows.Cell.TheVariants as cell
use Rattle.cy_values.specs.Bag.{count_of}
use Rattle.cy_values.specs.Same.{is_row}
use Rattle.cy_values.proofs.Booleans.{itself_equal}
use Rattle.cy_values.proofs.SameRows.{same_row}
use Rattle.cy_planner_algebra.proofs.Counts.{count_cons}
use Rattle.cy_network_operators.specs.Deltas.{row_delta_between}

equal_between : (row : List Cell) (n : ℕ) → row_delta_between row n n ≡ []
equal_between row n = ap (λ b. cond b [] ((record { row = row; before = n; after = n }) ∷ [])) (itself_equal n)

pub none_between : (row : List Cell) (m n : ℕ) → m ≡ n → row_delta_between row m n ≡ []
none_between row m n same = ap (λ k. row_delta_between row k n) same ∙ equal_between row n

-- ---- which entity a row is of

-- whether a row is of the entity with the number, where it is known which one it is of
abbrev pub owns : Option ℕ → ℕ → Bool
owns None n = false
owns (Some q) n = nat_eq q n

-- the number of the node, or of the relationship, in the first column
abbrev pub node_owner : List Cell → Option ℕ
node_owner [] = None
node_owner (cell.Node id ∷ cells) = Some id.0
node_owner (cell.Rel id ∷ cells) = None
node_owner (cell.Rels ids ∷ cells) = None
node_owner (cell.Value v ∷ cells) = None

abbrev pub rel_owner : List Cell → Option ℕ
rel_owner [] = None
rel_owner (cell.Node id ∷ cells) = None
rel_owner (cell.Rel id ∷ cells) = Some id.0
rel_owner (cell.Rels ids ∷ cells) = None
rel_owner (cell.Value v ∷ cells) = None

-- a row of another entity is another one
other_row : (owner : List Cell → Option ℕ) (row other : List Cell) (n : ℕ) (b : Bool) → is_row row other ≡ b → owner other ≡ Some n → owns (owner row) n ≡ false → b ≡ false
other_row owner row other n false is of apart = refl
other_row owner row other n true is of apart =
    absurd (true≢false (sym (itself_equal n) ∙ ap (λ (o : Option ℕ). owns o n) (sym of ∙ sym (ap owner (same_row row other is))) ∙ apart))

pub none_counted : (owner : List Cell → Option ℕ) (row : List Cell) (n : ℕ) (rows : List (List Cell)) → All (λ r. owner r ≡ Some n) rows → owns (owner row) n ≡ false → count_of row rows ≡ 0
none_counted owner row n [] each apart = refl
none_counted owner row n (r ∷ rows) each apart =
    let rest = none_counted owner row n rows (All-tail (λ r. owner r ≡ Some n) r rows each) apart in
    count_cons row r rows
    ∙ ap (λ b. cond b 1 0 + count_of row rows) (other_row owner row r n (is_row row r) refl (All-head (λ r. owner r ≡ Some n) r rows each) apart)
    ∙ omega (arith, rest)
