-- The rows that are made of single entities, and how they change where the entities do.
use Rattle.std.proofs.Common.{◌≡◌, ℕ, ◌+◌, true, false, List, [], ◌∷◌, Option, None, Some, refl, sym, ap, ◌∙◌, filter, nat_eq}
use Rattle.std.specs.Prelude.{sum_by, flat_map}
use Rattle.std.specs.Option.{option_map_or}
use Rattle.std.specs.declared.cmp.Ordering.{Ordering}
use Rattle.std.specs.Ordering.{eq_by_cmp, nat_cmp}
use Rattle.std.specs.FinMap.Entries as entries
use Rattle.std.proofs.lemmas.List.Sums.{sum_by-cons}
use Rattle.std.proofs.lemmas.Bool.{eqb-true}
use Rattle.cy_values.specs.declared.rows.Cell.{Cell}
use Rattle.cy_values.specs.Bag.{count_of}
use Rattle.cy_values.specs.Same.{is_row}
use Rattle.cy_values.proofs.Naturals.{nothing_after}
use Rattle.cy_planner_algebra.proofs.Counts.{count_flat_map}
use Rattle.cy_network_sources.proofs.Keys.{found_alike, own_entries, rising_once, same_by_order, sum_kept}
use Rattle.cy_network_sources.proofs.Owners.{owns}

-- Rows that are made of entities by number: which ones each makes, none where it isn't there, and of which one a row may be.
pub record Scan (V : Type 0) : Type 0 where
  pub rows : ℕ → Option V → List (List Cell)
  pub owner : List Cell → Option ℕ
  pub none : (n : ℕ) → rows n None ≡ []
  pub apart : (row : List Cell) (n : ℕ) (o : Option V) → owns (owner row) n ≡ false → count_of row (rows n o) ≡ 0

-- how often a row counts, by the one entity that it may be of
abbrev pub count_at : {V : Type 0} → (ℕ → Option V → List (List Cell)) → (ℕ → Option V) → List Cell → Option ℕ → ℕ
count_at rows at row None = 0
count_at rows at row (Some q) = count_of row (rows q (at q))

module _ {V : Type 0} (scan : Scan V) where
  no_rows : (row : List Cell) (n : ℕ) (o : Option V) → o ≡ None → count_of row (scan.rows n o) ≡ 0
  no_rows row n o is = ap (λ (p : Option V). count_of row (scan.rows n p)) is ∙ ap (count_of row) (scan.none n)

  module _ {K : Type 0} (number : K → ℕ) (key : ℕ → K) (back : (k : K) → key (number k) ≡ k) (forth : (n : ℕ) → number (key n) ≡ n) where
    abbrev order : K → K → Ordering
    order x y = nat_cmp (number x) (number y)

    abbrev made : K × V → List (List Cell)
    made e = scan.rows (number e.0) (Some e.1)

    same_keys : (x y : K) → eq_by_cmp order x y ≡ true → x ≡ y
    same_keys x y is = sym (back x) ∙ ap key (eqb-true (number x) (number y) (sym (same_by_order (number x) (number y)) ∙ is)) ∙ back y

    tests_alike : (q : ℕ) (k : K) → eq_by_cmp order (key q) k ≡ nat_eq q (number k)
    tests_alike q k = same_by_order (number (key q)) (number k) ∙ ap (λ n. nat_eq n (number k)) (forth q)

    -- how often a row counts among those of all
    pub count_scan : (row : List Cell) (es : List (K × V)) → entries.is_sorted order es ≡ true
        → count_of row (flat_map made es) ≡ count_at scan.rows (λ n. entries.find order (key n) es) row (scan.owner row)
    count_scan row es rising = count_flat_map (is_row row) made es ∙ by (scan.owner row) refl
      where
        by : (o : Option ℕ) → scan.owner row ≡ o → sum_by (λ e. count_of row (made e)) es ≡ count_at scan.rows (λ n. entries.find order (key n) es) row o
        by None is =
            sum_kept (λ e. false) (λ e. count_of row (made e)) (λ e h. scan.apart row (number e.0) (Some e.1) (ap (λ (o : Option ℕ). owns o (number e.0)) is)) es
            ∙ ap (sum_by (λ e. count_of row (made e))) (none_kept es)
          where
            none_kept : (xs : List (K × V)) → filter (λ e. false) xs ≡ []
            none_kept [] = refl
            none_kept (x ∷ xs) = none_kept xs
        by (Some q) is =
            sum_kept (λ e. eq_by_cmp order (key q) e.0) (λ e. count_of row (made e))
            (λ e h. scan.apart row (number e.0) (Some e.1) (ap (λ (o : Option ℕ). owns o (number e.0)) is ∙ sym (tests_alike q e.0) ∙ h)) es
            ∙ ap (sum_by (λ e. count_of row (made e))) (own_entries (eq_by_cmp order) same_keys (key q) es (rising_once order es rising) ∙ ap (λ (o : Option V). option_map_or (λ v. (key q, v) ∷ []) o []) (found_alike order (key q) es))
            ∙ one (entries.find order (key q) es)
          where
            one : (o : Option V) → sum_by (λ e. count_of row (made e)) (option_map_or (λ v. (key q, v) ∷ []) o []) ≡ count_of row (scan.rows q o)
            one None = sym (no_rows row q None refl)
            one (Some v) = sum_by-cons (λ e. count_of row (made e)) (key q, v) [] ∙ nothing_after (count_of row (made (key q, v))) ∙ ap (λ n. count_of row (scan.rows n (Some v))) (forth q)
