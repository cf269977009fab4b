-- Ranks of columns.
use Rattle.std.proofs.Common.{◌≡◌, ℕ, zero, suc, ◌+◌, ◌<◌, ◌≤◌, List, [], ◌∷◌, ◌++◌, length, map, set, refl, sym, ap, subst, ◌∙◌, inl, inr, arith}
use Rattle.std.specs.Prelude.{Option, None, Some, slice_index_or}
use Rattle.std.specs.List.{AllByRecursion}
use Rattle.std.proofs.lemmas.Bool.{cases_eq}
use Rattle.std.proofs.lemmas.List.{get_or-set_other, get_or-set_same, get_or_append_left, length-append, map-append}
use Rattle.std.proofs.Math.Seq.{get_or-append_seam}
use Rattle.std.proofs.lemmas.Option.{same_Some}
use Rattle.cy_values.proofs.Lists.{each_then}
use Rattle.cy_planner_rows.specs.Renumbered.{new_column}
use Rattle.cy_planner_rewriting.specs.internal.Ranks.{AreRanked, AreRanks, IsLonger, IsPlace}

pub place_longer : (kept longer : List ℕ) → IsLonger kept longer → (column place : ℕ) → IsPlace kept column place → IsPlace longer column place
place_longer kept longer (more, is) column place (less, at) = (
  (let long = ap length is ∙ length-append kept more in omega (arith, long, less)),
  ap (λ (l : List ℕ). new_column l place) is ∙ get_or_append_left kept more place place less ∙ at,
)

pub each_longer : (P : ℕ → Type 0) (xs : List ℕ) (x : ℕ) → AllByRecursion P xs → P x → AllByRecursion P (xs ++ x ∷ [])
each_longer P [] x each one = (one, tt)
each_longer P (y ∷ xs) x each one = (each.0, each_longer P xs x each.1 one)

pub last_place : (kept : List ℕ) (column : ℕ) → IsPlace (kept ++ column ∷ []) column (length kept)
last_place kept column = (
  (let long = length-append kept (column ∷ []) in omega (arith, long)),
  get_or-append_seam kept column [] (length kept),
)

pub ranks_pushed : (ranks : List (Option ℕ)) (kept : List ℕ) (column : ℕ) → AreRanks ranks kept → column < length ranks → AreRanks (set ranks column (Some (length kept))) (kept ++ column ∷ [])
ranks_pushed ranks kept column are less other place is =
    elim (cases_eq other column) as (λ w. IsPlace (kept ++ column ∷ []) other place) [
      | inl same ↦
          let there : Some (length kept) ≡ Some place = sym (get_or-set_same ranks column (Some (length kept)) None less) ∙ ap (λ (n : ℕ). slice_index_or (set ranks column (Some (length kept))) n None) (sym same) ∙ is in
          subst (λ (n : ℕ). IsPlace (kept ++ column ∷ []) other n) (same_Some (length kept) place there) (subst (λ (n : ℕ). IsPlace (kept ++ column ∷ []) n (length kept)) (sym same) (last_place kept column))
      | inr differ ↦ place_longer kept (kept ++ column ∷ []) (column ∷ [], refl) other place (are other place (sym (get_or-set_other ranks column other (Some (length kept)) None differ) ∙ is))
    ]

-- an element that is there, whatever stands for one that isn't
pub there_any : {A : Type 0} (xs : List A) (i : ℕ) (d e : A) → i < length xs → slice_index_or xs i d ≡ slice_index_or xs i e
there_any [] i d e less = absurd (omega (arith, less))
there_any (x ∷ xs) zero d e less = refl
there_any (x ∷ xs) (suc i) d e less = there_any xs i d e (omega (arith, less))

-- ---- places among more columns

places_longer : (kept longer : List ℕ) → IsLonger kept longer → (places : List ℕ) → AllByRecursion (λ place. place < length kept) places → map (new_column longer) places ≡ map (new_column kept) places
places_longer kept longer is [] each = refl
places_longer kept longer is (place ∷ places) each = λ i. (place_longer kept longer is (new_column kept place) place (each.0, refl)).1 i ∷ places_longer kept longer is places each.1 i

-- one column more
pub ranked_longer : (width : ℕ) (columns kept places longer : List ℕ) (column place : ℕ) → AreRanked width columns kept places → IsLonger kept longer → IsPlace longer column place → length longer ≤ length kept + 1
    → AllByRecursion (λ c. c < width) longer → AreRanked width (columns ++ column ∷ []) longer (places ++ place ∷ [])
ranked_longer width columns kept places longer column place so_far is at few there =
    let more : length longer ≡ length kept + length is.0 = ap length is.1 ∙ length-append kept is.0 in
    record {
      same = map-append (new_column longer) places (place ∷ []) ∙ (λ i. (places_longer kept longer is places so_far.inside ∙ so_far.same) i ++ at.1 i ∷ []);
      inside = each_longer (λ p. p < length longer) places place (each_then (λ p. p < length kept) (λ p. p < length longer) (λ p less. omega (arith, less, more)) places so_far.inside) at.0;
      there = there;
      few = (let before = so_far.few in let long = length-append columns (column ∷ []) in omega (arith, before, few, long));
    }

pub none_ranked : (width : ℕ) → AreRanked width [] [] []
none_ranked width = record { same = refl; inside = tt; there = tt; few = omega arith }
