-- Rows that are sifted before a part of a plan or after it: the same rows come out in the same order.
use Rattle.std.proofs.Common.{◌≡◌, Bool, true, false, cond, ◌&&◌, List, [], ◌∷◌, ◌++◌, map, filter, refl, sym, ap, ◌∙◌}
use Rattle.std.specs.Prelude.{◌||◌, flat_map}
use Rattle.std.specs.List.{AllByRecursion}
use Rattle.std.proofs.lemmas.Bool.{false≢true}
use Rattle.std.proofs.lemmas.List.Elements.{filter-append}
use Rattle.cy_values.specs.declared.rows.Cell.{Cell}
use Rattle.cy_values.proofs.Lists.{filters_swap, each_then}
use Rattle.cy_planner_algebra.specs.Meaning.{each_once, is_among, paired}
use Rattle.cy_planner_algebra.proofs.Counts.{identity, same}

-- ---- lists

mapped_step : {A B : Type 0} (f : A → B) (x : A) (xs : List A) (ys : List B) (b c : Bool) → b ≡ c → map f xs ≡ ys → map f (cond b (x ∷ xs) xs) ≡ cond c (f x ∷ ys) ys
mapped_step f x xs ys true true is rest = ap (λ l. f x ∷ l) rest
mapped_step f x xs ys false false is rest = rest
mapped_step f x xs ys true false is rest = cc
mapped_step f x xs ys false true is rest = cc

pub sifted_mapped : {A B : Type 0} (P : A → Type 0) (f : A → B) (p : B → Bool) (q : A → Bool) → ((x : A) → P x → q x ≡ p (f x)) → (xs : List A) → AllByRecursion P xs → map f (filter q xs) ≡ filter p (map f xs)
sifted_mapped P f p q same [] each = refl
sifted_mapped P f p q same (x ∷ xs) each =
    mapped_step f x (filter q xs) (filter p (map f xs)) (q x) (p (f x)) (same x each.0) (sifted_mapped P f p q same xs each.1)

-- once more: the same ones
pub sifted_again : {A : Type 0} (q : A → Bool) (xs : List A) → filter q (filter q xs) ≡ filter q xs
sifted_again q [] = refl
sifted_again q (x ∷ xs) = step (sifted_again q xs) (q x) refl
  where
    step : filter q (filter q xs) ≡ filter q xs → (b : Bool) → q x ≡ b → filter q (cond b (x ∷ filter q xs) (filter q xs)) ≡ cond b (x ∷ filter q xs) (filter q xs)
    step rest true is = ap (λ k. cond k (x ∷ filter q (filter q xs)) (filter q (filter q xs))) is ∙ ap (λ l. x ∷ l) rest
    step rest false is = rest

-- what is kept has passed
pub each_kept : {A : Type 0} (p : A → Bool) (xs : List A) → AllByRecursion (λ x. p x ≡ true) (filter p xs)
each_kept p [] = tt
each_kept p (x ∷ xs) = step (each_kept p xs) (p x) refl
  where
    step : AllByRecursion (λ y. p y ≡ true) (filter p xs) → (b : Bool) → p x ≡ b → AllByRecursion (λ y. p y ≡ true) (cond b (x ∷ filter p xs) (filter p xs))
    step rest true is = (is, rest)
    step rest false is = rest

-- ---- each row once

module _ (q : List Cell → Bool) where
  -- a row that passes is among those that do where it is among all
  among_kept : (row : List Cell) → q row ≡ true → (rows : List (List Cell)) → is_among row (filter q rows) ≡ is_among row rows
  among_kept row passes [] = refl
  among_kept row passes (other ∷ rows) = by (among_kept row passes rows) (q other) refl (same row other) refl
    where
      by : is_among row (filter q rows) ≡ is_among row rows → (b : Bool) → q other ≡ b → (t : Bool) → same row other ≡ t
          → is_among row (cond b (other ∷ filter q rows) (filter q rows)) ≡ (same row other || is_among row rows)
      by rest true there t is = ap (λ c. same row other || c) rest
      by rest false there true is = absurd (false≢true (sym there ∙ ap q (sym (identity row other is)) ∙ passes))
      by rest false there false is = rest ∙ ap (λ c. c || is_among row rows) (sym is)

  pub once_sifted : (rows : List (List Cell)) → each_once (filter q rows) ≡ filter q (each_once rows)
  once_sifted [] = refl
  once_sifted (row ∷ rows) = by (once_sifted rows) (q row) refl (is_among row rows) refl
    where
      kept : List (List Cell)
      kept = each_once (filter q rows)

      once : List (List Cell)
      once = filter q (each_once rows)

      by : kept ≡ once → (b : Bool) → q row ≡ b → (t : Bool) → is_among row rows ≡ t → each_once (cond b (row ∷ filter q rows) (filter q rows)) ≡ filter q (cond t (each_once rows) (row ∷ each_once rows))
      by rest true passes true among = ap (λ c. cond c kept (row ∷ kept)) (among_kept row passes rows ∙ among) ∙ rest
      by rest true passes false among =
          ap (λ c. cond c kept (row ∷ kept)) (among_kept row passes rows ∙ among) ∙ ap (λ l. row ∷ l) rest ∙ ap (λ c. cond c (row ∷ once) once) (sym passes)
      by rest false passes true among = rest
      by rest false passes false among = rest ∙ ap (λ c. cond c (row ∷ once) once) (sym passes)

-- ---- pairs of rows

module _ (q : List Cell → Bool) where
  -- a row with each of several others after it: all of them or none
  all_or_none : (l : List Cell) (b : Bool) (rs : List (List Cell)) → AllByRecursion (λ r. q (l ++ r) ≡ b) rs → filter q (paired l rs) ≡ cond b (paired l rs) []
  all_or_none l b [] each = none b
    where
      none : (b : Bool) → [] ≡ cond {A = List (List Cell)} b [] []
      none true = refl
      none false = refl
  all_or_none l b (r ∷ rs) each =
      ap (λ c. cond c ((l ++ r) ∷ filter q (paired l rs)) (filter q (paired l rs))) each.0
      ∙ ap (λ rows. cond b ((l ++ r) ∷ rows) rows) (all_or_none l b rs each.1)
      ∙ same b
    where
      same : (b : Bool) → cond b ((l ++ r) ∷ cond b (paired l rs) []) (cond b (paired l rs) []) ≡ cond b ((l ++ r) ∷ paired l rs) []
      same true = refl
      same false = refl

  module _ (P : List Cell → Type 0) where
    -- where a test of a pair is one of its left row
    pub left_sifted : (ql : List Cell → Bool) (partners : List Cell → List (List Cell)) → ((l : List Cell) → P l → AllByRecursion (λ r. q (l ++ r) ≡ ql l) (partners l))
        → (ls : List (List Cell)) → AllByRecursion P ls → flat_map (λ l. paired l (partners l)) (filter ql ls) ≡ filter q (flat_map (λ l. paired l (partners l)) ls)
    left_sifted ql partners alike [] each = refl
    left_sifted ql partners alike (l ∷ ls) each =
        first (ql l)
        ∙ ap (λ rows. cond (ql l) (paired l (partners l)) [] ++ rows) (left_sifted ql partners alike ls each.1)
        ∙ ap (λ rows. rows ++ filter q (flat_map (λ k. paired k (partners k)) ls)) (sym (all_or_none l (ql l) (partners l) (alike l each.0)))
        ∙ sym (filter-append q (paired l (partners l)) (flat_map (λ k. paired k (partners k)) ls))
      where
        rest : List (List Cell)
        rest = filter ql ls

        first : (b : Bool) → flat_map (λ k. paired k (partners k)) (cond b (l ∷ rest) rest) ≡ cond b (paired l (partners l)) [] ++ flat_map (λ k. paired k (partners k)) rest
        first true = refl
        first false = refl

    -- where it is one of its right row
    pub right_sifted : (qr : List Cell → Bool) (meets : List Cell → List Cell → Bool) → ((l r : List Cell) → P l → meets l r ≡ true → qr r ≡ q (l ++ r))
        → (rs ls : List (List Cell)) → AllByRecursion P ls
        → flat_map (λ l. paired l (filter (meets l) (filter qr rs))) ls ≡ filter q (flat_map (λ l. paired l (filter (meets l) rs)) ls)
    right_sifted qr meets alike rs [] each = refl
    right_sifted qr meets alike rs (l ∷ ls) each =
        ap (λ rows. rows ++ flat_map (λ k. paired k (filter (meets k) (filter qr rs))) ls)
        (ap (paired l) (filters_swap (meets l) qr rs)
        ∙ sifted_mapped (λ r. meets l r ≡ true) (λ r. l ++ r) q qr (λ r met. alike l r each.0 met) (filter (meets l) rs) (each_kept (meets l) rs))
        ∙ ap (λ rows. filter q (paired l (filter (meets l) rs)) ++ rows) (right_sifted qr meets alike rs ls each.1)
        ∙ sym (filter-append q (paired l (filter (meets l) rs)) (flat_map (λ k. paired k (filter (meets k) rs)) ls))

    -- where it is one of its left row and one of its right row
    pub both_sifted : (ql qr : List Cell → Bool) (meets : List Cell → List Cell → Bool) → ((l r : List Cell) → P l → meets l r ≡ true → q (l ++ r) ≡ (ql l && qr r))
        → (rs ls : List (List Cell)) → AllByRecursion P ls
        → flat_map (λ l. paired l (filter (meets l) (filter qr rs))) (filter ql ls) ≡ filter q (flat_map (λ l. paired l (filter (meets l) rs)) ls)
    both_sifted ql qr meets alike rs [] each = refl
    both_sifted ql qr meets alike rs (l ∷ ls) each =
        by (ql l) refl
        ∙ ap (λ rows. filter q (paired l (filter (meets l) rs)) ++ rows) (both_sifted ql qr meets alike rs ls each.1)
        ∙ sym (filter-append q (paired l (filter (meets l) rs)) (flat_map (λ k. paired k (filter (meets k) rs)) ls))
      where
        rest : List (List Cell)
        rest = filter ql ls

        others : List (List Cell)
        others = flat_map (λ k. paired k (filter (meets k) (filter qr rs))) rest

        by : (b : Bool) → ql l ≡ b → flat_map (λ k. paired k (filter (meets k) (filter qr rs))) (cond (ql l) (l ∷ rest) rest) ≡ filter q (paired l (filter (meets l) rs)) ++ others
        by true is =
            ap (λ b. flat_map (λ k. paired k (filter (meets k) (filter qr rs))) (cond b (l ∷ rest) rest)) is
            ∙ ap (λ rows. rows ++ others)
            (ap (paired l) (filters_swap (meets l) qr rs)
            ∙ sifted_mapped (λ r. meets l r ≡ true) (λ r. l ++ r) q qr (λ r met. sym (alike l r each.0 met ∙ ap (λ b. b && qr r) is)) (filter (meets l) rs) (each_kept (meets l) rs))
        by false is =
            ap (λ b. flat_map (λ k. paired k (filter (meets k) (filter qr rs))) (cond b (l ∷ rest) rest)) is
            ∙ ap (λ rows. rows ++ others)
            (sym (all_or_none l false (filter (meets l) rs)
            (each_then (λ r. meets l r ≡ true) (λ r. q (l ++ r) ≡ false) (λ r met. alike l r each.0 met ∙ ap (λ b. b && qr r) is) (filter (meets l) rs) (each_kept (meets l) rs))))
