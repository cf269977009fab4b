-- Chains after a number left one or joined one.
use Rattle.std.proofs.Common.{◌≡◌, ℕ, suc, ◌+◌, ◌<◌, ◌≤◌, Bool, true, false, cond, List, length, Option, None, Some, IfSome, option_map, slice_get, slice_set, refl, sym, ap, subst, ◌∙◌, nat_eq, nat_lt, arith}
use Rattle.std.specs.Option.{option_map_or}
use Rattle.std.proofs.lemmas.Bool.{eqb-true, ltb-true, ltb-false, eqb-false, ne_eqb}
use Rattle.std.proofs.lemmas.List.{length-set}
use Rattle.std.proofs.lemmas.Option.{slice_get_within}
use Rattle.cy_values.proofs.Booleans.{itself_equal}
use Rattle.cy_network_columns.specs.declared.chains.Link.{Link}
use Rattle.cy_network_columns.specs.internal.Chains.{IsLinked, is_at, rank_below, with_place, without}
use Rattle.cy_network_columns.proofs.Ranks.{above, before, higher, put_in, rank_at, rank_down, rank_le, rank_least, rank_past, rank_same, still, taken_out, true_false}
use Rattle.cy_network_columns.proofs.Elements.{set_at}

pub same_some : {X : Type 0} (x y : X) → Some x ≡ Some y → x ≡ y
same_some x y e = cc

pub some_inside : {X Y : Type 0} (f : X → Y) (xs : List X) (i : ℕ) (y : Y) → option_map f (slice_get xs i) ≡ Some y → i < length xs
some_inside {X} {Y} f xs i y is = by (slice_get xs i) refl is
  where
    by : (o : Option X) → slice_get xs i ≡ o → option_map f o ≡ Some y → i < length xs
    by None e is = cc
    by (Some x) e is = slice_get_within xs i x e

-- a number that has a place is there
pub is_here : (at : ℕ → Option ℕ) (number place : ℕ) → at number ≡ Some place → is_at at place number ≡ true
is_here at number place there = ap (λ o. option_map_or (nat_eq place) o false) there ∙ itself_equal place

pub there_is : (at : ℕ → Option ℕ) (place number : ℕ) → is_at at place number ≡ true → at number ≡ Some place
there_is at place number is = by (at number) refl is
  where
    by : (o : Option ℕ) → at number ≡ o → option_map_or (nat_eq place) o false ≡ true → at number ≡ Some place
    by None e is = cc
    by (Some p) e is = e ∙ ap Some (sym (eqb-true place p is))

-- the place of a number that is not the one which left
stays : (at : ℕ → Option ℕ) (number i p : ℕ) → without number at i ≡ Some p → (at i ≡ Some p) × (nat_eq number i ≡ false)
stays at number i p is = by (nat_eq number i) refl is
  where
    by : (b : Bool) → nat_eq number i ≡ b → cond b None (at i) ≡ Some p → (at i ≡ Some p) × (nat_eq number i ≡ false)
    by true e is = cc
    by false e is = (is, e)

module _ (at : ℕ → Option ℕ) (heads : List ℕ) (links : List Link) (linked : IsLinked at heads links) (number place : ℕ) (there : at number ≡ Some place) where
  inside : number < length links
  inside = some_inside (λ l. l.below) links number (rank_below (is_at at place) number) (linked.chained number place there)

  off : (p : ℕ) → is_at (without number at) p number ≡ false
  off p = ap (λ b. option_map_or (nat_eq p) (cond b None (at number)) false) (itself_equal number)

  others : (p i : ℕ) → nat_eq number i ≡ false → is_at (without number at) p i ≡ is_at at p i
  others p i e = ap (λ b. option_map_or (nat_eq p) (cond b None (at i)) false) e

  elsewhere : (p n : ℕ) → nat_eq place p ≡ false → rank_below (is_at (without number at) p) n ≡ rank_below (is_at at p) n
  elsewhere p n apart = rank_same (is_at at p) (is_at (without number at) p) n (λ i lt. by i (nat_eq number i) refl)
    where
      by : (i : ℕ) (b : Bool) → nat_eq number i ≡ b → is_at (without number at) p i ≡ is_at at p i
      by i true same =
          ap (is_at (without number at) p) (sym (eqb-true number i same)) ∙ off p
          ∙ sym (ap (λ o. option_map_or (nat_eq p) o false) there ∙ ne_eqb p place (λ e. eqb-false place p apart (sym e)))
          ∙ ap (is_at at p) (eqb-true number i same)
      by i false apart = others p i apart

  least : (n : ℕ) → number < n → number < rank_below (is_at at place) n
  least n lt = rank_least (is_at at place) n number (is_here at number place there) lt

  -- the number led its chain
  pub left_first : (r below : ℕ) → slice_get heads place ≡ Some r → r ≤ number + 1 → option_map (λ l. l.below) (slice_get links number) ≡ Some below
      → IsLinked (without number at) (slice_set heads place below) links
  left_first r below first low next = record {
    greatest = λ p lt. set_at heads place below p (linked.placed number place there) ∙ at_place p (omega (arith, lt, length-set heads place below)) (nat_eq place p) refl;
    chained = λ i p is. linked.chained i p (stays at number i p is).0 ∙ ap Some (sym (same i p (stays at number i p is).0 (nat_eq place p) refl));
    placed = λ i p is. omega (arith, linked.placed i p (stays at number i p is).0, length-set heads place below);
    descend = linked.descend;
  }
    where
      is_r : rank_below (is_at at place) (length links) ≡ r
      is_r = same_some _ _ (sym (linked.greatest place (linked.placed number place there)) ∙ first)

      is_next : below ≡ rank_below (is_at at place) number
      is_next = same_some _ _ (sym next ∙ linked.chained number place there)

      first_one : rank_below (is_at at place) (length links) ≡ suc number
      first_one = omega (arith, is_r, low, least (length links) inside)

      at_place : (p : ℕ) → p < length heads → (b : Bool) → nat_eq place p ≡ b
          → cond b (Some below) (slice_get heads p) ≡ Some (rank_below (is_at (without number at) p) (length links))
      at_place p lt true same =
          ap Some (is_next ∙ sym (taken_out (is_at at place) (is_at (without number at) place) number (off place) (others place) (length links) inside first_one)
          ∙ ap (λ (q : ℕ). rank_below (is_at (without number at) q) (length links)) (eqb-true place p same))
      at_place p lt false apart = linked.greatest p lt ∙ ap Some (sym (elsewhere p (length links) apart))

      same : (i p : ℕ) → at i ≡ Some p → (b : Bool) → nat_eq place p ≡ b → rank_below (is_at (without number at) p) i ≡ rank_below (is_at at p) i
      same i p is true e =
          let here : at i ≡ Some place = is ∙ ap Some (sym (eqb-true place p e)) in
          let lt : i < length links = some_inside (λ l. l.below) links i _ (linked.chained i p is) in
          let low : i < rank_below (is_at at place) (length links) = rank_least (is_at at place) (length links) i (is_here at i place here) lt in
          subst (λ (q : ℕ). rank_below (is_at (without number at) q) i ≡ rank_below (is_at at q) i) (eqb-true place p e)
          (before (is_at at place) (is_at (without number at) place) number (off place) (others place) i (omega (arith, low, first_one)))
      same i p is false e = elsewhere p i e

  -- another number is just above it in its chain
  pub left_above : (up : ℕ) (l : Link) (below : ℕ) → number < up → at up ≡ Some place → slice_get links up ≡ Some l → l.below ≤ number + 1
      → option_map (λ l. l.below) (slice_get links number) ≡ Some below
      → IsLinked (without number at) heads (slice_set links up (record { hash = l.hash; below = below }))
  left_above up l below higher_up up_there is low next = record {
    greatest = λ p lt. linked.greatest p lt ∙ ap Some (sym (ap (rank_below (is_at (without number at) p)) (length-set links up l') ∙ at_head p (nat_eq place p) refl));
    chained = λ i p is. ap (option_map (λ l. l.below)) (set_at links up l' i up_inside) ∙ at_link i p (stays at number i p is).0 (stays at number i p is).1 (nat_eq up i) refl (nat_eq place p) refl;
    placed = λ i p is. linked.placed i p (stays at number i p is).0;
    descend = λ i. subst (λ o. IfSome o (λ l. l.below ≤ i)) (sym (set_at links up l' i up_inside)) (descends i (nat_eq up i) refl);
  }
    where
      l' : Link
      l' = record { hash = l.hash; below = below }

      up_inside : up < length links
      up_inside = slice_get_within links up l is

      is_next : below ≡ rank_below (is_at at place) number
      is_next = same_some _ _ (sym next ∙ linked.chained number place there)

      below_up : rank_below (is_at at place) up ≡ suc number
      below_up =
          let e : l.below ≡ rank_below (is_at at place) up = same_some _ _ (sym (ap (option_map (λ l. l.below)) is) ∙ linked.chained up place up_there) in
          omega (arith, e, low, least up higher_up)

      descends : (i : ℕ) (b : Bool) → nat_eq up i ≡ b → IfSome (cond b (Some l') (slice_get links i)) (λ l. l.below ≤ i)
      descends i true e = omega (arith, is_next, rank_le (is_at at place) number, higher_up, eqb-true up i e)
      descends i false e = linked.descend i

      at_head : (p : ℕ) (b : Bool) → nat_eq place p ≡ b → rank_below (is_at (without number at) p) (length links) ≡ rank_below (is_at at p) (length links)
      at_head p true e =
          subst (λ (q : ℕ). rank_below (is_at (without number at) q) (length links) ≡ rank_below (is_at at q) (length links)) (eqb-true place p e)
          (higher (is_at at place) (is_at (without number at) place) number (off place) (others place) (length links)
          (omega (arith, higher_up, rank_least (is_at at place) (length links) up (is_here at up place up_there) up_inside)))
      at_head p false e = elsewhere p (length links) e

      at_link : (i p : ℕ) → at i ≡ Some p → nat_eq number i ≡ false → (b : Bool) → nat_eq up i ≡ b → (c : Bool) → nat_eq place p ≡ c
          → option_map (λ (l : Link). l.below) (cond b (Some l') (slice_get links i)) ≡ Some (rank_below (is_at (without number at) p) i)
      at_link i p is apart true e c d =
          let it : up ≡ i = eqb-true up i e in
          let here : place ≡ p = same_some _ _ (sym up_there ∙ ap at it ∙ is) in
          ap Some (is_next ∙ sym (taken_out (is_at at place) (is_at (without number at) place) number (off place) (others place) up higher_up below_up)
          ∙ ap (rank_below (is_at (without number at) place)) it ∙ ap (λ (q : ℕ). rank_below (is_at (without number at) q) i) here)
      at_link i p is apart false e false d = linked.chained i p is ∙ ap Some (sym (elsewhere p i d))
      at_link i p is apart false e true d =
          let here : place ≡ p = eqb-true place p d in
          linked.chained i p is
          ∙ ap Some (sym (subst (λ (q : ℕ). rank_below (is_at (without number at) q) i ≡ rank_below (is_at at q) i) here (same (is ∙ ap Some (sym here)) (nat_lt number i) refl)))
        where
          same : at i ≡ Some place → (b : Bool) → nat_lt number i ≡ b → rank_below (is_at (without number at) place) i ≡ rank_below (is_at at place) i
          same at_here false low = before (is_at at place) (is_at (without number at) place) number (off place) (others place) i (ltb-false number i low)
          same at_here true more = higher (is_at at place) (is_at (without number at) place) number (off place) (others place) i (by (nat_lt i up) refl)
            where
              by : (b : Bool) → nat_lt i up ≡ b → suc number < rank_below (is_at at place) i
              by true less =
                  true_false (sym (is_here at i place at_here) ∙ rank_past (is_at at place) up i (omega (arith, below_up, ltb-true number i more)) (ltb-true i up less))
              by false over =
                  omega (arith, higher_up, rank_least (is_at at place) i up (is_here at up place up_there) (omega (arith, ltb-false i up over, eqb-false up i e)))

-- a number that joins
module _ (at : ℕ → Option ℕ) (heads : List ℕ) (links : List Link) (linked : IsLinked at heads links) (number place hash : ℕ) (out : at number ≡ None)
    (number_inside : number < length links) (place_inside : place < length heads) where
  at' : ℕ → Option ℕ
  at' = with_place number place at

  on : is_at (with_place number place at) place number ≡ true
  on = ap (λ b. option_map_or (nat_eq place) (cond b (Some place) (at number)) false) (itself_equal number) ∙ itself_equal place

  kept : (p i : ℕ) → nat_eq number i ≡ false → is_at (with_place number place at) p i ≡ is_at at p i
  kept p i e = ap (λ b. option_map_or (nat_eq p) (cond b (Some place) (at i)) false) e

  apart_same : (p n : ℕ) → nat_eq place p ≡ false → rank_below (is_at (with_place number place at) p) n ≡ rank_below (is_at at p) n
  apart_same p n apart = rank_same (is_at at p) (is_at (with_place number place at) p) n (λ i lt. by i (nat_eq number i) refl)
    where
      by : (i : ℕ) (b : Bool) → nat_eq number i ≡ b → is_at (with_place number place at) p i ≡ is_at at p i
      by i true same =
          ap (λ b. option_map_or (nat_eq p) (cond b (Some place) (at i)) false) same ∙ ne_eqb p place (λ e. eqb-false place p apart (sym e))
          ∙ sym (ap (is_at at p) (sym (eqb-true number i same)) ∙ ap (λ o. option_map_or (nat_eq p) o false) out)
      by i false other = kept p i other

  -- who has a place now: the number itself, or one that had it
  who : (i p : ℕ) → with_place number place at i ≡ Some p → (b : Bool) → nat_eq number i ≡ b → cond b (place ≡ p) (at i ≡ Some p)
  who i p is true e = same_some place p (sym (ap (λ b. cond b (Some place) (at i)) e) ∙ is)
  who i p is false e = sym (ap (λ b. cond b (Some place) (at i)) e) ∙ is

  not_out : (i : ℕ) → is_at at place i ≡ true → number ≡ i → ⊥
  not_out i is same = none_some (sym out ∙ ap at same ∙ there_is at place i is)
    where
      none_some : {x : ℕ} → None ≡ Some x → ⊥
      none_some e = cc

  -- a rank at the place that isn't above the number's own
  under : (n : ℕ) → rank_below (is_at at place) n ≤ number + 1 → rank_below (is_at at place) n ≤ number
  under n low = by (nat_lt number (rank_below (is_at at place) n)) refl
    where
      by : (b : Bool) → nat_lt number (rank_below (is_at at place) n) ≡ b → rank_below (is_at at place) n ≤ number
      by true more =
          absurd (not_out number (rank_at (is_at at place) n number (omega (arith, low, ltb-true number (rank_below (is_at at place) n) more))) refl)
      by false less = ltb-false number (rank_below (is_at at place) n) less

  -- it leads its chain
  pub joined_first : (r : ℕ) → slice_get heads place ≡ Some r → r ≤ number + 1
      → IsLinked (with_place number place at) (slice_set heads place (number + 1)) (slice_set links number (record { hash = hash; below = r }))
  joined_first r first low = record {
    greatest = λ p lt. set_at heads place (number + 1) p place_inside
        ∙ at_place p (omega (arith, lt, length-set heads place (number + 1))) (nat_eq place p) refl
        ∙ ap (λ (n : ℕ). Some (rank_below (is_at (with_place number place at) p) n)) (sym (length-set links number l'));
    chained = λ i p is. ap (option_map (λ l. l.below)) (set_at links number l' i number_inside) ∙ at_link i p (nat_eq number i) refl (who i p is (nat_eq number i) refl);
    placed = λ i p is. omega (arith, in_place i p (nat_eq number i) (who i p is (nat_eq number i) refl), length-set heads place (number + 1));
    descend = λ i. subst (λ o. IfSome o (λ l. l.below ≤ i)) (sym (set_at links number l' i number_inside)) (descends i (nat_eq number i) refl);
  }
    where
      l' : Link
      l' = record { hash = hash; below = r }

      is_r : rank_below (is_at at place) (length links) ≡ r
      is_r = same_some _ _ (sym (linked.greatest place place_inside) ∙ first)

      r_low : rank_below (is_at at place) (length links) ≤ number
      r_low = under (length links) (omega (arith, is_r, low))

      in_place : (i p : ℕ) (b : Bool) → cond b (place ≡ p) (at i ≡ Some p) → p < length heads
      in_place i p true e = omega (arith, e, place_inside)
      in_place i p false is = linked.placed i p is

      descends : (i : ℕ) (b : Bool) → nat_eq number i ≡ b → IfSome (cond b (Some l') (slice_get links i)) (λ l. l.below ≤ i)
      descends i true e = omega (arith, is_r, r_low, eqb-true number i e)
      descends i false e = linked.descend i

      at_place : (p : ℕ) → p < length heads → (b : Bool) → nat_eq place p ≡ b
          → cond b (Some (number + 1)) (slice_get heads p) ≡ Some (rank_below (is_at (with_place number place at) p) (length links))
      at_place p lt true same =
          ap Some (omega arith ∙ sym (put_in (is_at at place) (is_at (with_place number place at) place) number on (kept place) (length links) number_inside r_low)
          ∙ ap (λ (q : ℕ). rank_below (is_at (with_place number place at) q) (length links)) (eqb-true place p same))
      at_place p lt false apart = linked.greatest p lt ∙ ap Some (sym (apart_same p (length links) apart))

      at_link : (i p : ℕ) (b : Bool) → nat_eq number i ≡ b → cond b (place ≡ p) (at i ≡ Some p)
          → option_map (λ (l : Link). l.below) (cond b (Some l') (slice_get links i)) ≡ Some (rank_below (is_at (with_place number place at) p) i)
      at_link i p true e here =
          let it : number ≡ i = eqb-true number i e in
          ap Some (sym is_r ∙ sym (rank_down (is_at at place) (length links) number r_low (omega (arith, number_inside)))
          ∙ sym (still (is_at at place) (is_at (with_place number place at) place) number on (kept place) number (omega arith))
          ∙ ap (rank_below (is_at (with_place number place at) place)) it ∙ ap (λ (q : ℕ). rank_below (is_at (with_place number place at) q) i) here)
      at_link i p false e is = linked.chained i p is ∙ ap Some (sym (same (nat_eq place p) refl))
        where
          same : (b : Bool) → nat_eq place p ≡ b → rank_below (is_at (with_place number place at) p) i ≡ rank_below (is_at at p) i
          same false d = apart_same p i d
          same true d =
              let here : place ≡ p = eqb-true place p d in
              let lt : i < length links = some_inside (λ l. l.below) links i _ (linked.chained i p is) in
              let low : i < rank_below (is_at at place) (length links) = rank_least (is_at at place) (length links) i (is_here at i place (is ∙ ap Some (sym here))) lt in
              subst (λ (q : ℕ). rank_below (is_at (with_place number place at) q) i ≡ rank_below (is_at at q) i) here
              (still (is_at at place) (is_at (with_place number place at) place) number on (kept place) i (omega (arith, low, r_low)))

  -- another number is just above it in its chain
  pub joined_above : (up : ℕ) (l : Link) → number < up → at up ≡ Some place → slice_get links up ≡ Some l → l.below ≤ number + 1
      → IsLinked (with_place number place at) heads
      (slice_set (slice_set links number (record { hash = hash; below = l.below })) up (record { hash = l.hash; below = number + 1 }))
  joined_above up l higher_up up_there is low = record {
    greatest = λ p lt. linked.greatest p lt ∙ ap Some (sym (at_head p (nat_eq place p) refl)) ∙ ap (λ (n : ℕ). Some (rank_below (is_at (with_place number place at) p) n)) (sym long);
    chained = λ i p is. ap (option_map (λ l. l.below)) (got i) ∙ at_link i p is (nat_eq up i) refl (nat_eq number i) refl (who i p is (nat_eq number i) refl);
    placed = λ i p is. in_place i p (nat_eq number i) (who i p is (nat_eq number i) refl);
    descend = λ i. subst (λ o. IfSome o (λ l. l.below ≤ i)) (sym (got i)) (descends i (nat_eq up i) refl (nat_eq number i) refl);
  }
    where
      mine : Link
      mine = record { hash = hash; below = l.below }

      theirs : Link
      theirs = record { hash = l.hash; below = number + 1 }

      up_inside : up < length links
      up_inside = slice_get_within links up l is

      long : length (slice_set (slice_set links number mine) up theirs) ≡ length links
      long = length-set (slice_set links number mine) up theirs ∙ length-set links number mine

      got : (i : ℕ) → slice_get (slice_set (slice_set links number mine) up theirs) i ≡ cond (nat_eq up i) (Some theirs) (cond (nat_eq number i) (Some mine) (slice_get links i))
      got i =
          set_at (slice_set links number mine) up theirs i (omega (arith, up_inside, length-set links number mine))
          ∙ ap (cond (nat_eq up i) (Some theirs)) (set_at links number mine i number_inside)

      below_up : rank_below (is_at at place) up ≡ l.below
      below_up = sym (same_some _ _ (sym (ap (option_map (λ l. l.below)) is) ∙ linked.chained up place up_there))

      low_up : rank_below (is_at at place) up ≤ number
      low_up = under up (omega (arith, below_up, low))

      in_place : (i p : ℕ) (b : Bool) → cond b (place ≡ p) (at i ≡ Some p) → p < length heads
      in_place i p true e = omega (arith, e, place_inside)
      in_place i p false is = linked.placed i p is

      descends : (i : ℕ) (b : Bool) → nat_eq up i ≡ b → (c : Bool) → nat_eq number i ≡ c
          → IfSome (cond b (Some theirs) (cond c (Some mine) (slice_get links i))) (λ l. l.below ≤ i)
      descends i true e c d = omega (arith, higher_up, eqb-true up i e)
      descends i false e true d = omega (arith, below_up, low_up, eqb-true number i d)
      descends i false e false d = linked.descend i

      at_head : (p : ℕ) (b : Bool) → nat_eq place p ≡ b → rank_below (is_at (with_place number place at) p) (length links) ≡ rank_below (is_at at p) (length links)
      at_head p true e =
          subst (λ (q : ℕ). rank_below (is_at (with_place number place at) q) (length links) ≡ rank_below (is_at at q) (length links)) (eqb-true place p e)
          (above (is_at at place) (is_at (with_place number place at) place) number on (kept place) (length links)
          (omega (arith, higher_up, rank_least (is_at at place) (length links) up (is_here at up place up_there) up_inside)))
      at_head p false e = apart_same p (length links) e

      at_link : (i p : ℕ) → with_place number place at i ≡ Some p → (b : Bool) → nat_eq up i ≡ b → (c : Bool) → nat_eq number i ≡ c → cond c (place ≡ p) (at i ≡ Some p)
          → option_map (λ (l : Link). l.below) (cond b (Some theirs) (cond c (Some mine) (slice_get links i))) ≡ Some (rank_below (is_at (with_place number place at) p) i)
      at_link i p is' true e true d here = absurd (omega (arith, higher_up, eqb-true up i e, eqb-true number i d))
      at_link i p is' true e false d is =
          let it : up ≡ i = eqb-true up i e in
          let here : place ≡ p = same_some _ _ (sym up_there ∙ ap at it ∙ is) in
          ap Some (omega arith ∙ sym (put_in (is_at at place) (is_at (with_place number place at) place) number on (kept place) up higher_up low_up)
          ∙ ap (rank_below (is_at (with_place number place at) place)) it ∙ ap (λ (q : ℕ). rank_below (is_at (with_place number place at) q) i) here)
      at_link i p is' false e true d here =
          let it : number ≡ i = eqb-true number i d in
          ap Some (sym below_up ∙ sym (rank_down (is_at at place) up number low_up (omega (arith, higher_up)))
          ∙ sym (still (is_at at place) (is_at (with_place number place at) place) number on (kept place) number (omega arith))
          ∙ ap (rank_below (is_at (with_place number place at) place)) it ∙ ap (λ (q : ℕ). rank_below (is_at (with_place number place at) q) i) here)
      at_link i p is' false e false d is = linked.chained i p is ∙ ap Some (sym (same (nat_eq place p) refl))
        where
          same : (b : Bool) → nat_eq place p ≡ b → rank_below (is_at (with_place number place at) p) i ≡ rank_below (is_at at p) i
          same false f = apart_same p i f
          same true f = subst (λ (q : ℕ). rank_below (is_at (with_place number place at) q) i ≡ rank_below (is_at at q) i) here (side (nat_lt number i) refl)
            where
              here : place ≡ p
              here = eqb-true place p f

              at_here : is_at at place i ≡ true
              at_here = is_here at i place (is ∙ ap Some (sym here))

              side : (b : Bool) → nat_lt number i ≡ b → rank_below (is_at (with_place number place at) place) i ≡ rank_below (is_at at place) i
              side false less = still (is_at at place) (is_at (with_place number place at) place) number on (kept place) i (ltb-false number i less)
              side true more = above (is_at at place) (is_at (with_place number place at) place) number on (kept place) i (by (nat_lt i up) refl)
                where
                  by : (b : Bool) → nat_lt i up ≡ b → suc number < rank_below (is_at at place) i
                  by true less =
                      true_false (sym at_here ∙ rank_past (is_at at place) up i (omega (arith, low_up, ltb-true number i more)) (ltb-true i up less))
                  by false over =
                      omega (arith, higher_up, rank_least (is_at at place) i up (is_here at up place up_there) (omega (arith, ltb-false i up over, eqb-false up i e)))
