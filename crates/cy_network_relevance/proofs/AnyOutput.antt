-- Whether one of some things passes, and whether each of the first numbers does.
use Rattle.std.proofs.Common.{◌≡◌, ℕ, zero, suc, ◌+◌, ◌<◌, ◌≤◌, Bool, true, false, List, Option, None, Some, get_or, refl, ap, ◌∙◌, arith}
use Rattle.std.specs.Prelude.{slice_get}
use Rattle.std.specs.List.{list_all, range_with_len}
use Rattle.std.specs.Option.{option_map_or}
use Rattle.std.proofs.lemmas.Bool.{and_from, false≢true}
use Rattle.std.proofs.lemmas.List.Folds.{list_all_at}
use Rattle.std.proofs.lemmas.List.FromFn.{get_or-range_with_len, length-range_with_len}
use Rattle.std.proofs.lemmas.Map.Keys.{any_passes_from_place}
use Rattle.cy_planner_algebra.specs.Plans.{Output}
use Rattle.cy_network_relevance.specs.Trails.{is_alone, is_at, is_kept}

from_each : (p : ℕ → Bool) (start count : ℕ) → ((k : ℕ) → start ≤ k → k < start + count → p k ≡ true) → list_all p (range_with_len start count) ≡ true
from_each p start zero each = refl
from_each p start (suc n) each =
    and_from (p start) (list_all p (range_with_len (start + 1) n)) (each start (omega arith) (omega arith)) (from_each p (start + 1) n (λ k low high. each k (omega (arith, low)) (omega (arith, high))))

pub all_from_each : (p : ℕ → Bool) (count : ℕ) → ((k : ℕ) → k < count → p k ≡ true) → list_all p (range_with_len 0 count) ≡ true
all_from_each p count each = from_each p 0 count (λ k low high. each k (omega (arith, high)))

pub at_place : (count k : ℕ) → k < count → get_or (range_with_len 0 count) k 0 ≡ k
at_place count k less = get_or-range_with_len 0 count k 0 less ∙ (let e : 0 + k ≡ k = omega arith in e)

pub one_fails : (p : ℕ → Bool) (count k : ℕ) → k < count → p k ≡ false → list_all p (range_with_len 0 count) ≡ false
one_fails p count k less fails =
    list_all_at p (range_with_len 0 count) k 0 (let n = length-range_with_len 0 count in omega (arith, n, less)) (ap p (at_place count k less) ∙ fails)

-- a column that stands alone at a place is kept
pub at_kept : (outputs : List Output) (place column : ℕ) → is_at outputs place column ≡ true → is_kept outputs column ≡ true
at_kept outputs place column is = by (slice_get outputs place) refl is
  where
    by : (found : Option Output) → slice_get outputs place ≡ found → option_map_or (is_alone column) found false ≡ true → is_kept outputs column ≡ true
    by None none not = absurd (false≢true not)
    by (Some o) found alone = any_passes_from_place (is_alone column) outputs place o found alone
