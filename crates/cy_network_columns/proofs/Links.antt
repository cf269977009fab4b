-- What links and places hold, and what they hold once numbers went and came.
use Rattle.std.proofs.Common.{◌≡◌, ℕ, zero, suc, ◌+◌, ◌-◌, ◌%◌, ◌^◌, ◌<◌, ◌≤◌, Bool, true, false, cond, List, [], ◌∷◌, ◌++◌, length, replicate, Option, None, Some, IfSome, IsSome, option_map, slice_get, slice_set, slice_index_or, refl, sym, ap, subst, ◌∙◌, nat_eq, nat_lt, arith}
use Rattle.std.specs.Option.{option_map_or, option_to_list}
use Rattle.std.proofs.Math.Nat.{mod-lt}
use Rattle.std.proofs.lemmas.Bool.{eqb-true, ltb-true, ltb-false, eqb-false, ne_eqb}
use Rattle.std.proofs.lemmas.Bool.Decides.{nat_tests}
use Rattle.std.proofs.lemmas.List.{get_or-set_other, length-append, length-map}
use Rattle.std.proofs.lemmas.Option.{slice_get-get_or, slice_get-map, slice_get_past, slice_get_within}
use Rattle.cy_values.proofs.Booleans.{itself_equal}
use Rattle.cy_network_columns.specs.Hashes.{IsFilled, has_hash, last_below}
use Rattle.cy_network_columns.specs.declared.chains.Link.{Link}
use Rattle.cy_network_columns.specs.internal.Chains.{AreChained, Descend, IsIndex, IsLinked, hashes_of, is_at, placed_at, rank_below, those_below, with_place, without}
use Rattle.cy_network_columns.proofs.Chaining.{is_here, same_some, some_inside, there_is}
use Rattle.cy_network_columns.proofs.Ranks.{last_skip, rank_at, rank_le, rank_never, rank_past, true_false}
use Rattle.cy_network_columns.proofs.Elements.{before_end, set_at}

-- what stands where no link does
abbrev pub no_link : Link
no_link = record { hash = 0; below = 0 }

pub below_is : (at : ℕ → Option ℕ) (links : List Link) (number place : ℕ) (d : Link) → number < length links → AreChained at links → at number ≡ Some place
    → (slice_index_or links number d).below ≡ rank_below (is_at at place) number
below_is at links number place d inside chained there = same_some _ _ (sym (ap (option_map (λ l. l.below)) (slice_get-get_or links number d inside)) ∙ chained number place there)

-- a link leads to a number at the same place
pub step : (at : ℕ → Option ℕ) (links : List Link) (number place i : ℕ) (d : Link) → number < length links → AreChained at links → at number ≡ Some place
    → suc i ≡ (slice_index_or links number d).below → at i ≡ Some place
step at links number place i d inside chained there is =
    there_is at place i (rank_at (is_at at place) number i (sym (is ∙ below_is at links number place d inside chained there)))

pub not_up : (links : List Link) (number : ℕ) (d : Link) → number < length links → Descend links → (slice_index_or links number d).below ≤ number
not_up links number d inside descend = subst (λ o. IfSome o (λ l. l.below ≤ number)) (slice_get-get_or links number d inside) (descend number)

-- a link that is there
pub of_link : (links : List Link) (number : ℕ) (d : Link) (P : Link → Type 0) → number < length links → P (slice_index_or links number d) → IfSome (slice_get links number) P
of_link links number d P inside p = subst (λ o. IfSome o P) (sym (slice_get-get_or links number d inside)) p

pub from_link : (links : List Link) (number : ℕ) (d : Link) (P : Link → Type 0) → number < length links → IfSome (slice_get links number) P → P (slice_index_or links number d)
from_link links number d P inside p = subst (λ o. IfSome o P) (slice_get-get_or links number d inside) p

-- the rank that a place leads to
pub head_is : (at : ℕ → Option ℕ) (heads : List ℕ) (links : List Link) (place d : ℕ) → IsLinked at heads links → place < length heads
    → slice_index_or heads place d ≡ rank_below (is_at at place) (length links)
head_is at heads links place d linked inside = same_some _ _ (sym (slice_get-get_or heads place d inside) ∙ linked.greatest place inside)

pub head_within : (at : ℕ → Option ℕ) (heads : List ℕ) (links : List Link) (place d : ℕ) → IsLinked at heads links → place < length heads → slice_index_or heads place d ≤ length links
head_within at heads links place d linked inside = omega (arith, head_is at heads links place d linked inside, rank_le (is_at at place) (length links))

pub head_there : (at : ℕ → Option ℕ) (heads : List ℕ) (links : List Link) (place d i : ℕ) → IsLinked at heads links → place < length heads → suc i ≡ slice_index_or heads place d → at i ≡ Some place
head_there at heads links place d i linked inside is =
    there_is at place i (rank_at (is_at at place) (length links) i (sym (is ∙ head_is at heads links place d linked inside)))

-- hashes after links were written
pub hashes_kept : (links : List Link) (i : ℕ) (d l : Link) → l.hash ≡ (slice_index_or links i d).hash → hashes_of (slice_set links i l) ≡ hashes_of links
hashes_kept [] i d l e = refl
hashes_kept (x ∷ xs) zero d l e = ap (λ (h : ℕ). h ∷ hashes_of xs) e
hashes_kept (x ∷ xs) (suc i) d l e = ap (λ (hs : List ℕ). x.hash ∷ hs) (hashes_kept xs i d l e)

pub hashes_set : (links : List Link) (i : ℕ) (l : Link) → hashes_of (slice_set links i l) ≡ slice_set (hashes_of links) i l.hash
hashes_set [] i l = refl
hashes_set (x ∷ xs) zero l = refl
hashes_set (x ∷ xs) (suc i) l = ap (λ (hs : List ℕ). x.hash ∷ hs) (hashes_set xs i l)

pub hashes_both : (links : List Link) (number up hash : ℕ) (d l : Link) → number < up → l.hash ≡ (slice_index_or links up d).hash → (m : Link) → m.hash ≡ hash
    → hashes_of (slice_set (slice_set links number m) up l) ≡ slice_set (hashes_of links) number hash
hashes_both links number up hash d l higher same m is =
    hashes_kept (slice_set links number m) up d l (same ∙ ap (λ (k : Link). k.hash) (sym (get_or-set_other links number up m d (λ e. omega (arith, e, higher)))))
    ∙ hashes_set links number m ∙ ap (slice_set (hashes_of links) number) is

set_own : (hs : List ℕ) (i h : ℕ) → slice_get hs i ≡ Some h → slice_set hs i h ≡ hs
set_own [] i h is = refl
set_own (x ∷ xs) zero h is = ap (λ (y : ℕ). y ∷ xs) (sym (same_some x h is))
set_own (x ∷ xs) (suc i) h is = ap (λ (ys : List ℕ). x ∷ ys) (set_own xs i h is)

pub hash_there : (links : List Link) (i : ℕ) (d : Link) → i < length links → slice_get (hashes_of links) i ≡ Some (slice_index_or links i d).hash
hash_there links i d inside = slice_get-map (λ l. l.hash) links i ∙ ap (option_map (λ l. l.hash)) (slice_get-get_or links i d inside)

pub set_own_hash : (links : List Link) (i : ℕ) (d : Link) → i < length links → slice_set (hashes_of links) i (slice_index_or links i d).hash ≡ hashes_of links
set_own_hash links i d inside = set_own (hashes_of links) i (slice_index_or links i d).hash (hash_there links i d inside)

-- the place of a number by its link
pub placed_is : (count : ℕ) (links : List Link) (i : ℕ) (d : Link) → i < length links → placed_at count (hashes_of links) i ≡ Some ((slice_index_or links i d).hash % count)
placed_is count links i d inside = ap (option_map (λ h. h % count)) (hash_there links i d inside)

-- a number with a hash is at the hash's place
pub hash_placed : (count : ℕ) (hashes : List ℕ) (hash i : ℕ) → has_hash hashes hash i ≡ true → placed_at count hashes i ≡ Some (hash % count)
hash_placed count hashes hash i is = by (slice_get hashes i) refl is
  where
    by : (o : Option ℕ) → slice_get hashes i ≡ o → option_map_or (nat_eq hash) o false ≡ true → placed_at count hashes i ≡ Some (hash % count)
    by None e is = cc
    by (Some h) e is = ap (option_map (λ h. h % count)) e ∙ ap (λ (k : ℕ). Some (k % count)) (sym (eqb-true hash h is))

pub has_hash_at : (links : List Link) (hash i : ℕ) (d : Link) → i < length links → has_hash (hashes_of links) hash i ≡ nat_eq hash (slice_index_or links i d).hash
has_hash_at links hash i d inside = ap (λ o. option_map_or (nat_eq hash) o false) (hash_there links i d inside)

pub has_inside : (links : List Link) (hash i : ℕ) → has_hash (hashes_of links) hash i ≡ true → i < length links
has_inside links hash i is = by (slice_get (hashes_of links) i) refl is
  where
    by : (o : Option ℕ) → slice_get (hashes_of links) i ≡ o → option_map_or (nat_eq hash) o false ≡ true → i < length links
    by None e is = cc
    by (Some h) e is = omega (arith, slice_get_within (hashes_of links) i h e, length-map links (λ (l : Link). l.hash))

-- one that isn't at the place of a hash hasn't got it
pub not_there : (at : ℕ → Option ℕ) (hashes : List ℕ) (hash place j : ℕ) → ((i : ℕ) → has_hash hashes hash i ≡ true → at i ≡ Some place) → is_at at place j ≡ false → has_hash hashes hash j ≡ false
not_there at hashes hash place j placed off = by (has_hash hashes hash j) refl
  where
    by : (b : Bool) → has_hash hashes hash j ≡ b → has_hash hashes hash j ≡ false
    by false e = e
    by true e = true_false (sym (is_here at j place (placed j e)) ∙ off)

-- the numbers with a hash from the rank of its place on
pub skipped : (at : ℕ → Option ℕ) (hashes : List ℕ) (hash place bound : ℕ) → ((i : ℕ) → has_hash hashes hash i ≡ true → at i ≡ Some place)
    → last_below (has_hash hashes hash) bound ≡ last_below (has_hash hashes hash) (rank_below (is_at at place) bound)
skipped at hashes hash place bound placed =
    last_skip (has_hash hashes hash) bound (rank_below (is_at at place) bound) (rank_le (is_at at place) bound)
    (λ j from lt. not_there at hashes hash place j placed (rank_past (is_at at place) bound j from lt))

-- links that serve two maps of places alike
pub as_placed : (at at' : ℕ → Option ℕ) (heads : List ℕ) (links : List Link) → ((i : ℕ) → at i ≡ at' i) → IsLinked at heads links → IsLinked at' heads links
as_placed at at' heads links same linked = subst (λ (f : ℕ → Option ℕ). IsLinked f heads links) (λ i x. same x i) linked

-- no number is linked
pub none_linked : (at : ℕ → Option ℕ) (heads : List ℕ) (links : List Link) → heads ≡ replicate (length heads) zero → Descend links → IsLinked (those_below 0 at) heads links
none_linked at heads links zeros descend = record {
  greatest = λ p lt. subst (λ (hs : List ℕ). slice_get {X = ℕ} hs p ≡ Some zero) (sym zeros) (zero_at (length heads) p lt) ∙ ap Some (sym (rank_never _ (length links) (λ i lt. never p i)));
  chained = λ i p is. no_place i p is;
  placed = λ i p is. no_place i p is;
  descend = descend;
}
  where
    under : (i : ℕ) → nat_lt i 0 ≡ false
    under i = grind (arith, nat_tests)

    no_place : {P : Type 0} (i p : ℕ) → those_below 0 at i ≡ Some p → P
    no_place i p is = none_some p (sym (ap (λ b. cond b (at i) None) (under i)) ∙ is)
      where
        none_some : {Q : Type 0} (p : ℕ) → None ≡ Some p → Q
        none_some p e = cc

    never : (p i : ℕ) → is_at (those_below 0 at) p i ≡ false
    never p i = ap (λ b. option_map_or (nat_eq p) (cond b (at i) None) false) (under i)

    zero_at : (n i : ℕ) → i < n → slice_get {X = ℕ} (replicate n zero) i ≡ Some zero
    zero_at zero i lt = absurd (omega (arith, lt))
    zero_at (suc n) zero lt = refl
    zero_at (suc n) (suc i) lt = zero_at n i (omega (arith, lt))

-- a number that comes after those below it
pub one_more : (at : ℕ → Option ℕ) (number place : ℕ) → at number ≡ Some place → (i : ℕ) → with_place number place (those_below number at) i ≡ those_below (number + 1) at i
one_more at number place there i = by (nat_eq number i) refl (nat_lt i number) refl
  where
    by : (b : Bool) → nat_eq number i ≡ b → (c : Bool) → nat_lt i number ≡ c → cond b (Some place) (cond c (at i) None) ≡ those_below (number + 1) at i
    by true e c d = sym (ap (λ b. cond b (at i) None) (within (number + 1) i (omega (arith, eqb-true number i e))) ∙ ap at (sym (eqb-true number i e)) ∙ there)
      where
        within : (n i : ℕ) → i < n → nat_lt i n ≡ true
        within n i lt = grind (arith, nat_tests)
    by false e true d = sym (ap (λ b. cond b (at i) None) (within (number + 1) i (omega (arith, ltb-true i number d))))
      where
        within : (n i : ℕ) → i < n → nat_lt i n ≡ true
        within n i lt = grind (arith, nat_tests)
    by false e false d = sym (ap (λ b. cond b (at i) None) (past (number + 1) i (omega (arith, ltb-false i number d, eqb-false number i e))))
      where
        past : (n i : ℕ) → n ≤ i → nat_lt i n ≡ false
        past n i le = grind (arith, nat_tests)

pub not_yet : (at : ℕ → Option ℕ) (number : ℕ) → those_below number at number ≡ None
not_yet at number = ap (λ b. cond b (at number) None) (itself number)
  where
    itself : (n : ℕ) → nat_lt n n ≡ false
    itself n = grind (arith, nat_tests)

placed_past : (count : ℕ) (links : List Link) (i : ℕ) → length links ≤ i → placed_at count (hashes_of links) i ≡ None
placed_past count links i le =
    let past : length (hashes_of links) ≤ i = omega (arith, le, length-map links (λ (l : Link). l.hash)) in
    ap (option_map (λ h. h % count)) (slice_get_past (hashes_of links) i past)

-- all numbers are below the end
pub all_below : (count : ℕ) (links : List Link) (i : ℕ) → those_below (length links) (placed_at count (hashes_of links)) i ≡ placed_at count (hashes_of links) i
all_below count links i = by (nat_lt i (length links)) refl
  where
    by : (b : Bool) → nat_lt i (length links) ≡ b → cond b (placed_at count (hashes_of links) i) None ≡ placed_at count (hashes_of links) i
    by true e = refl
    by false e = sym (placed_past count links i (ltb-false i (length links) e))

-- the places once a number went and the last one became it
pub went : (at : ℕ → Option ℕ) (number last : ℕ) → number < last → ((i : ℕ) → last < i → at i ≡ None) → (place : ℕ) → at last ≡ Some place → (at' : ℕ → Option ℕ)
    → at' number ≡ Some place → ((i : ℕ) → nat_eq number i ≡ false → at' i ≡ at i)
    → (i : ℕ) → with_place number place (without last (without number at)) i ≡ those_below last at' i
went at number last lower past place there at' here others i = by (nat_eq number i) refl (nat_eq last i) refl (nat_lt i last) refl
  where
    by : (b : Bool) → nat_eq number i ≡ b → (c : Bool) → nat_eq last i ≡ c → (d : Bool) → nat_lt i last ≡ d
        → cond b (Some place) (cond c None (cond b None (at i))) ≡ cond d (at' i) None
    by true e c f true g = sym (ap at' (sym (eqb-true number i e)) ∙ here)
    by true e c f false g = absurd (omega (arith, lower, eqb-true number i e, ltb-false i last g))
    by false e true f true g = absurd (omega (arith, eqb-true last i f, ltb-true i last g))
    by false e true f false g = refl
    by false e false f true g = sym (others i e)
    by false e false f false g = past i (omega (arith, ltb-false i last g, eqb-false last i f))

-- the places once the last number went
pub last_went : (at : ℕ → Option ℕ) (last : ℕ) → ((i : ℕ) → last < i → at i ≡ None) → (i : ℕ) → without last at i ≡ those_below last at i
last_went at last past i = by (nat_eq last i) refl (nat_lt i last) refl
  where
    by : (c : Bool) → nat_eq last i ≡ c → (d : Bool) → nat_lt i last ≡ d → cond c None (at i) ≡ cond d (at i) None
    by true f true g = absurd (omega (arith, eqb-true last i f, ltb-true i last g))
    by true f false g = refl
    by false f true g = refl
    by false f false g = past i (omega (arith, ltb-false i last g, eqb-false last i f))

pub past_last : (count : ℕ) (links : List Link) (i : ℕ) → length links - 1 < i → placed_at count (hashes_of links) i ≡ None
past_last count links i more = placed_past count links i (omega (arith, more))

-- a link more that is in no chain, and the last one less
pub link_more : (at : ℕ → Option ℕ) (heads : List ℕ) (links : List Link) (l : Link) → IsLinked at heads links → l.below ≡ 0 → IsLinked at heads (links ++ l ∷ [])
link_more at heads links l linked zero_below = record {
  greatest = λ p lt. linked.greatest p lt ∙ ap Some (sym (as_far p));
  chained = λ i p is. ap (option_map (λ (k : Link). k.below)) (before_end links l i (some_inside (λ k. k.below) links i _ (linked.chained i p is))) ∙ linked.chained i p is;
  placed = linked.placed;
  descend = λ i. by i (nat_lt i (length links)) refl;
}
  where
    after_at : (xs : List Link) (i : ℕ) → length xs ≤ i → IfSome (slice_get (xs ++ l ∷ []) i) (λ k. k.below ≤ 0)
    after_at [] zero le = omega (arith, zero_below)
    after_at [] (suc i) le = tt
    after_at (y ∷ xs) zero le = absurd (omega (arith, le))
    after_at (y ∷ xs) (suc i) le = after_at xs i (omega (arith, le))

    weaker : (i : ℕ) (o : Option Link) → IfSome o (λ k. k.below ≤ 0) → IfSome o (λ k. k.below ≤ i)
    weaker i None p = tt
    weaker i (Some k) p = omega (arith, p)

    by : (i : ℕ) (b : Bool) → nat_lt i (length links) ≡ b → IfSome (slice_get (links ++ l ∷ []) i) (λ k. k.below ≤ i)
    by i true less = subst (λ o. IfSome o (λ k. k.below ≤ i)) (sym (before_end links l i (ltb-true i (length links) less))) (linked.descend i)
    by i false past = weaker i (slice_get (links ++ l ∷ []) i) (after_at links i (ltb-false i (length links) past))

    off : (p : ℕ) → is_at at p (length links) ≡ false
    off p = which (is_at at p (length links)) refl
      where
        which : (b : Bool) → is_at at p (length links) ≡ b → is_at at p (length links) ≡ false
        which false e = e
        which true e =
            let less : length links < length links = some_inside (λ k. k.below) links (length links) _ (linked.chained (length links) p (there_is at p (length links) e)) in
            absurd (omega (arith, less))

    as_far : (p : ℕ) → rank_below (is_at at p) (length (links ++ l ∷ [])) ≡ rank_below (is_at at p) (length links)
    as_far p = ap (rank_below (is_at at p)) one_longer ∙ ap (λ b. cond b (suc (length links)) (rank_below (is_at at p) (length links))) (off p)
      where
        one_longer : length (links ++ l ∷ []) ≡ suc (length links)
        one_longer = omega (arith, length-append links (l ∷ []))

pub link_less : (at : ℕ → Option ℕ) (heads : List ℕ) (links : List Link) (l : Link) → IsLinked at heads (links ++ l ∷ []) → at (length links) ≡ None → IsLinked at heads links
link_less at heads links l linked out = record {
  greatest = λ p lt. linked.greatest p lt ∙ ap Some (as_far p);
  chained = λ i p is. sym (ap (option_map (λ (k : Link). k.below)) (before_end links l i (inside i p is))) ∙ linked.chained i p is;
  placed = linked.placed;
  descend = λ i. by i (nat_lt i (length links)) refl;
}
  where
    none_some : {Q : Type 0} (p : ℕ) → None ≡ Some p → Q
    none_some p e = cc

    inside : (i p : ℕ) → at i ≡ Some p → i < length links
    inside i p is = which (nat_eq (length links) i) refl
      where
        which : (b : Bool) → nat_eq (length links) i ≡ b → i < length links
        which true e = none_some p (sym out ∙ ap at (eqb-true (length links) i e) ∙ is)
        which false e =
            omega (arith, eqb-false (length links) i e, some_inside (λ k. k.below) (links ++ l ∷ []) i _ (linked.chained i p is), length-append links (l ∷ []))

    by : (i : ℕ) (b : Bool) → nat_lt i (length links) ≡ b → IfSome (slice_get links i) (λ k. k.below ≤ i)
    by i true less = subst (λ o. IfSome o (λ k. k.below ≤ i)) (before_end links l i (ltb-true i (length links) less)) (linked.descend i)
    by i false past = subst (λ o. IfSome o (λ k. k.below ≤ i)) (sym (slice_get_past links i (ltb-false i (length links) past))) tt

    as_far : (p : ℕ) → rank_below (is_at at p) (length (links ++ l ∷ [])) ≡ rank_below (is_at at p) (length links)
    as_far p =
        ap (rank_below (is_at at p)) one_longer
        ∙ ap (λ b. cond b (suc (length links)) (rank_below (is_at at p) (length links))) (ap (λ o. option_map_or (nat_eq p) o false) out)
      where
        one_longer : length (links ++ l ∷ []) ≡ suc (length links)
        one_longer = omega (arith, length-append links (l ∷ []))

-- ---- a number that goes, and those that the index holds

set_get : (hs : List ℕ) (i h j : ℕ) → i < length hs → slice_get (slice_set hs i h) j ≡ cond (nat_eq i j) (Some h) (slice_get hs j)
set_get hs i h j inside = set_at hs i h j inside

pub hashes_long : (links : List Link) → length (hashes_of links) ≡ length links
hashes_long links = length-map links (λ (l : Link). l.hash)

-- the last number has a place of its own once another one left
pub last_there : (count count' : ℕ) (links links' : List Link) (number last : ℕ) (d : Link) → number < last → last < length links' → hashes_of links' ≡ hashes_of links → count' ≡ count
    → without number (placed_at count (hashes_of links)) last ≡ Some ((slice_index_or links' last d).hash % count')
last_there count count' links links' number last d lower inside hashes places =
    ap (λ b. cond b None (placed_at count (hashes_of links) last)) (ne_eqb number last (λ e. omega (arith, e, lower)))
    ∙ ap (λ (hs : List ℕ). placed_at count hs last) (sym hashes) ∙ placed_is count links' last d inside
    ∙ ap (λ (c : ℕ). Some ((slice_index_or links' last d).hash % c)) (sym places)

pub both_out : (at : ℕ → Option ℕ) (number last : ℕ) → number < last → without last (without number at) number ≡ None
both_out at number last lower =
    ap (λ b. cond b None (without number at number)) (ne_eqb last number (λ e. omega (arith, e, lower)))
    ∙ ap (λ b. cond b None (at number)) (itself_equal number)

pub removed_then : (links links' : List Link) (count number last hash : ℕ) → number < last → suc last ≡ length links → hashes_of links' ≡ slice_set (hashes_of links) number hash
    → slice_get (hashes_of links) last ≡ Some hash
    → (i : ℕ) → with_place number (hash % count) (without last (without number (placed_at count (hashes_of links)))) i ≡ those_below last (placed_at count (hashes_of links')) i
removed_then links links' count number last hash lower ends set of_last =
    went (placed_at count (hashes_of links)) number last lower (λ i more. placed_past count links i (omega (arith, ends, more))) (hash % count)
    (ap (option_map (λ h. h % count)) of_last) (placed_at count (hashes_of links'))
    (ap (option_map (λ h. h % count)) (got number ∙ ap (λ b. cond b (Some hash) (slice_get (hashes_of links) number)) (itself_equal number)))
    (λ i apart. ap (option_map (λ h. h % count)) (got i ∙ ap (λ b. cond b (Some hash) (slice_get (hashes_of links) i)) apart))
  where
    got : (i : ℕ) → slice_get (hashes_of links') i ≡ cond (nat_eq number i) (Some hash) (slice_get (hashes_of links) i)
    got i = ap (λ (hs : List ℕ). slice_get hs i) set ∙ set_get (hashes_of links) number hash i (omega (arith, lower, ends, hashes_long links))

pub filled_then : (links links' : List Link) (number last hash : ℕ) → number < last → suc last ≡ length links → hashes_of links' ≡ slice_set (hashes_of links) number hash
    → slice_get (hashes_of links) last ≡ Some hash → (i : ℕ) → slice_get (hashes_of links') i ≡ slice_get (hashes_of links) (cond (nat_eq number i) (length links - 1) i)
filled_then links links' number last hash lower ends set of_last i =
    ap (λ (hs : List ℕ). slice_get hs i) set ∙ set_get (hashes_of links) number hash i (omega (arith, lower, ends, hashes_long links)) ∙ by (nat_eq number i)
  where
    by : (b : Bool) → cond b (Some hash) (slice_get (hashes_of links) i) ≡ slice_get (hashes_of links) (cond b (length links - 1) i)
    by true = let it : last ≡ length links - 1 = omega (arith, ends) in sym of_last ∙ ap (slice_get (hashes_of links)) it
    by false = refl

pub last_hash : (links links' : List Link) (last : ℕ) (d : Link) → last < length links' → hashes_of links' ≡ hashes_of links → slice_get (hashes_of links) last ≡ Some (slice_index_or links' last d).hash
last_hash links links' last d inside hashes = ap (λ (hs : List ℕ). slice_get hs last) (sym hashes) ∙ hash_there links' last d inside

-- without places there are no numbers
pub no_places : (heads : List ℕ) (links : List Link) → IsIndex heads links → length heads ≡ 0 → length links ≡ 0
no_places heads [] index none = refl
no_places heads (l ∷ links) index none = absurd (omega (arith, none, index.linked.placed 0 (l.hash % length heads) refl))

-- the places after a number was added
pub added : (links links' : List Link) (l : Link) (count hash : ℕ) → hashes_of links' ≡ slice_set (hashes_of (links ++ l ∷ [])) (length links) hash
    → (hashes_of links' ≡ hashes_of links ++ hash ∷ [])
added [] links' l count hash set = set
added (x ∷ xs) links' l count hash set = set ∙ ap (λ (hs : List ℕ). x.hash ∷ hs) (written xs)
  where
    written : (ys : List Link) → slice_set (hashes_of (ys ++ l ∷ [])) (length ys) hash ≡ hashes_of ys ++ hash ∷ []
    written [] = refl
    written (y ∷ ys) = ap (λ (hs : List ℕ). y.hash ∷ hs) (written ys)

pub place_added : (links links' : List Link) (count hash : ℕ) → hashes_of links' ≡ hashes_of links ++ hash ∷ []
    → (i : ℕ) → with_place (length links) (hash % count) (placed_at count (hashes_of links)) i ≡ placed_at count (hashes_of links') i
place_added links links' count hash more i =
    sym (ap (λ (hs : List ℕ). placed_at count hs i) more ∙ ap (option_map (λ h. h % count)) (last_get (hashes_of links) i ∙ ap (λ (n : ℕ). cond (nat_eq n i) (Some hash) (slice_get (hashes_of links) i)) (hashes_long links)) ∙ by (nat_eq (length links) i))
  where
    by : (b : Bool) → option_map (λ h. h % count) (cond b (Some hash) (slice_get (hashes_of links) i)) ≡ cond b (Some (hash % count)) (placed_at count (hashes_of links) i)
    by true = refl
    by false = refl

    none_after : (i : ℕ) → nat_eq 0 (suc i) ≡ false
    none_after i = grind (arith, nat_tests)

    none_before : (i : ℕ) → nat_eq (suc i) 0 ≡ false
    none_before i = grind (arith, nat_tests)

    next_same : (m n : ℕ) → nat_eq (suc m) (suc n) ≡ nat_eq m n
    next_same m n = grind (arith, nat_tests)

    last_get : (hs : List ℕ) (j : ℕ) → slice_get (hs ++ hash ∷ []) j ≡ cond (nat_eq (length hs) j) (Some hash) (slice_get hs j)
    last_get [] zero = refl
    last_get [] (suc j) = ap (λ b. cond b (Some hash) None) (sym (none_after j))
    last_get (h ∷ hs) zero = ap (λ b. cond b (Some hash) (Some h)) (sym (none_before (length hs)))
    last_get (h ∷ hs) (suc j) = last_get hs j ∙ ap (λ b. cond b (Some hash) (slice_get hs j)) (sym (next_same (length hs) j))

pub out_past : (count : ℕ) (links : List Link) → placed_at count (hashes_of links) (length links) ≡ None
out_past count links = placed_past count links (length links) (omega arith)

-- ---- the last link goes

pub hashes_before : (links : List Link) (l : Link) (i : ℕ) → i < length links → slice_get (hashes_of (links ++ l ∷ [])) i ≡ slice_get (hashes_of links) i
hashes_before links l i less = slice_get-map (λ k. k.hash) (links ++ l ∷ []) i ∙ ap (option_map (λ k. k.hash)) (before_end links l i less) ∙ sym (slice_get-map (λ k. k.hash) links i)

pub place_less : (links : List Link) (l : Link) (count : ℕ) (i : ℕ) → those_below (length links) (placed_at count (hashes_of (links ++ l ∷ []))) i ≡ placed_at count (hashes_of links) i
place_less links l count i = by (nat_lt i (length links)) refl
  where
    by : (b : Bool) → nat_lt i (length links) ≡ b → cond b (placed_at count (hashes_of (links ++ l ∷ [])) i) None ≡ placed_at count (hashes_of links) i
    by true e = ap (option_map (λ h. h % count)) (hashes_before links l i (ltb-true i (length links) e))
    by false e = sym (placed_past count links i (ltb-false i (length links) e))

pub index_less : (heads : List ℕ) (links : List Link) (l : Link) → IsLinked (those_below (length links) (placed_at (length heads) (hashes_of (links ++ l ∷ [])))) heads (links ++ l ∷ [])
    → IsLinked (placed_at (length heads) (hashes_of links)) heads links
index_less heads links l linked =
    as_placed _ _ heads links (place_less links l (length heads)) (link_less _ heads links l linked (not_yet (placed_at (length heads) (hashes_of (links ++ l ∷ []))) (length links)))

pub filled_less : (old : List ℕ) (links : List Link) (l : Link) (number : ℕ) → length old ≡ suc (length links)
    → ((i : ℕ) → i + 1 < length old → slice_get (hashes_of (links ++ l ∷ [])) i ≡ slice_get old (cond (nat_eq number i) (length old - 1) i)) → IsFilled number old (hashes_of links)
filled_less old links l number longer moved i = by (nat_lt (i + 1) (length old)) refl
  where
    by : (b : Bool) → nat_lt (i + 1) (length old) ≡ b → slice_get (hashes_of links) i ≡ cond b (slice_get old (cond (nat_eq number i) (length old - 1) i)) None
    by true e =
        let less : i + 1 < length old = ltb-true (i + 1) (length old) e in
        sym (hashes_before links l i (omega (arith, longer, less))) ∙ moved i less
    by false e = slice_get_past (hashes_of links) i (omega (arith, longer, hashes_long links, ltb-false (i + 1) (length old) e))

-- ---- what the index does, over lists that are the same

module _ (heads hs : List ℕ) (links ls : List Link) (l : Link) (index : IsIndex heads links) (hs_is : hs ≡ heads) (ls_is : ls ≡ links ++ l ∷ []) (none_below : l.below ≡ 0)
    (number : ℕ) (number_is : number ≡ length links) where
  more_linked : IsLinked (placed_at (length heads) (hashes_of links)) hs ls
  more_linked =
      subst (λ (x : List ℕ). IsLinked (placed_at (length heads) (hashes_of links)) x ls) (sym hs_is)
      (subst (λ (y : List Link). IsLinked (placed_at (length heads) (hashes_of links)) heads y) (sym ls_is) (link_more _ heads links l index.linked none_below))

  more_out : placed_at (length heads) (hashes_of links) number ≡ None
  more_out = ap (placed_at (length heads) (hashes_of links)) number_is ∙ out_past (length heads) links

  pub push_linked : (at : ℕ → Option ℕ) × IsLinked at hs ls × (at number ≡ None)
  push_linked = (placed_at (length heads) (hashes_of links), more_linked, more_out)

  module _ (hs' : List ℕ) (ls' : List Link) (hash : ℕ) (set : hashes_of ls' ≡ slice_set (hashes_of ls) number hash) where
    pub push_hashes : hashes_of ls' ≡ hashes_of links ++ hash ∷ []
    push_hashes =
        added links ls' l 0 hash (set ∙ ap (λ (y : List Link). slice_set (hashes_of y) number hash) ls_is ∙ ap (λ (n : ℕ). slice_set (hashes_of (links ++ l ∷ [])) n hash) number_is)

    pub push_index : length links + 1 < 2 ^ 32 → length hs' ≡ length hs → length ls' ≡ length ls
        → ((at : ℕ → Option ℕ) → IsLinked at hs ls → at number ≡ None → IsLinked (with_place number (hash % length hs) at) hs' ls') → IsIndex hs' ls'
    push_index room places long join = record {
      linked = as_placed _ _ hs' ls' pointwise (join (placed_at (length heads) (hashes_of links)) more_linked more_out);
      small = omega (arith, room, long, ap length ls_is, length-append links (l ∷ []));
    }
      where
        pointwise : (i : ℕ) → with_place number (hash % length hs) (placed_at (length heads) (hashes_of links)) i ≡ placed_at (length hs') (hashes_of ls') i
        pointwise i =
            ap (λ (n : ℕ). with_place n (hash % length hs) (placed_at (length heads) (hashes_of links)) i) number_is
            ∙ ap (λ (k : ℕ). with_place (length links) (hash % k) (placed_at (length heads) (hashes_of links)) i) (ap length hs_is)
            ∙ place_added links ls' (length heads) hash push_hashes i
            ∙ ap (λ (k : ℕ). placed_at k (hashes_of ls') i) (sym (places ∙ ap length hs_is))

-- the last link was taken
pub popped : (rest xs : List Link) (r : Option Link) → xs ≡ rest ++ option_to_list r → IsSome r → (l : Link) × (xs ≡ rest ++ l ∷ [])
popped rest xs None e some = cc
popped rest xs (Some l) e some = (l, e)

pub pop_index : (heads heads' : List ℕ) (links rest : List Link) (l : Link) (last : ℕ) → links ≡ rest ++ l ∷ [] → last + 1 ≡ length links → length heads' ≡ length heads → length links < 2 ^ 32
    → IsLinked (those_below last (placed_at (length heads) (hashes_of links))) heads' links → IsIndex heads' rest
pop_index heads heads' links rest l last is ends places small linked = record {
  linked = index_less heads' rest l (subst (λ (y : List Link). IsLinked (those_below (length rest) (placed_at (length heads') (hashes_of y))) heads' y) is (as_placed _ _ heads' links pointwise linked));
  small = omega (arith, small, longer);
}
  where
    longer : length links ≡ suc (length rest)
    longer = ap length is ∙ length-append rest (l ∷ []) ∙ omega arith

    pointwise : (i : ℕ) → those_below last (placed_at (length heads) (hashes_of links)) i ≡ those_below (length rest) (placed_at (length heads') (hashes_of links)) i
    pointwise i =
        let it : last ≡ length rest = omega (arith, longer, ends) in
        ap (λ (n : ℕ). those_below n (placed_at (length heads) (hashes_of links)) i) it ∙ ap (λ (k : ℕ). those_below (length rest) (placed_at k (hashes_of links)) i) (sym places)

pub pop_filled : (links lent new rest : List Link) (l : Link) (number : ℕ) → lent ≡ links → new ≡ rest ++ l ∷ [] → length new ≡ length lent
    → ((i : ℕ) → i + 1 < length lent → slice_get (hashes_of new) i ≡ slice_get (hashes_of lent) (cond (nat_eq number i) (length lent - 1) i)) → IsFilled number (hashes_of links) (hashes_of rest)
pop_filled links lent new rest l number same is long moved =
    filled_less (hashes_of links) rest l number (hashes_long links ∙ ap length (sym same) ∙ sym long ∙ ap length is ∙ length-append rest (l ∷ []) ∙ omega arith)
    (λ i less. ap (λ (y : List Link). slice_get (hashes_of y) i) (sym is) ∙ moved i (omega (arith, less, hashes_long links, ap length same))
    ∙ ap (λ (y : List Link). slice_get (hashes_of y) (cond (nat_eq number i) (length y - 1) i)) same
    ∙ ap (λ (n : ℕ). slice_get (hashes_of links) (cond (nat_eq number i) (n - 1) i)) (sym (hashes_long links)))

-- what a look-up finds
pub last_inside : (heads : List ℕ) (links ls : List Link) → IsIndex heads links → ls ≡ links → (hash places rank : ℕ) → places ≡ length heads → 0 < places
    → rank ≡ slice_index_or heads (hash % places) rank → rank ≤ length ls
last_inside heads links ls index ls_is hash places rank places_is some rank_is =
    omega (arith, ap length ls_is, rank_is, head_within _ heads links (hash % places) rank index.linked (omega (arith, places_is, mod-lt hash some)))

pub last_found : (heads : List ℕ) (links ls : List Link) → IsIndex heads links → ls ≡ links → (hash places rank : ℕ) → places ≡ length heads → 0 < places
    → rank ≡ slice_index_or heads (hash % places) rank → (result : Option ℕ)
    → ((at : ℕ → Option ℕ) (place bound : ℕ) → AreChained at ls → rank ≡ rank_below (is_at at place) bound → ((i : ℕ) → has_hash (hashes_of ls) hash i ≡ true → at i ≡ Some place)
    → result ≡ last_below (has_hash (hashes_of ls) hash) bound)
    → result ≡ last_below (has_hash (hashes_of links) hash) (length (hashes_of links))
last_found heads links ls index ls_is hash places rank places_is some rank_is result told =
    told (placed_at (length heads) (hashes_of links)) (hash % places) (length links) (subst (AreChained (placed_at (length heads) (hashes_of links))) (sym ls_is) index.linked.chained)
    (rank_is ∙ head_is _ heads links (hash % places) rank index.linked (omega (arith, places_is, mod-lt hash some)))
    (λ i has. hash_placed (length heads) (hashes_of links) hash i (sym (ap (λ (y : List Link). has_hash (hashes_of y) hash i) ls_is) ∙ has) ∙ ap (λ (k : ℕ). Some (hash % k)) (sym places_is))
    ∙ ap (λ (y : List Link). last_below (has_hash (hashes_of y) hash) (length links)) ls_is ∙ ap (last_below (has_hash (hashes_of links) hash)) (sym (hashes_long links))

pub previous_found : (heads : List ℕ) (links ls : List Link) → IsIndex heads links → ls ≡ links → (hash number : ℕ) (link : Link) → has_hash (hashes_of links) hash number ≡ true
    → link ≡ slice_index_or links number link → (result : Option ℕ)
    → ((at : ℕ → Option ℕ) (place bound : ℕ) → AreChained at ls → link.below ≡ rank_below (is_at at place) bound → ((i : ℕ) → has_hash (hashes_of ls) hash i ≡ true → at i ≡ Some place)
    → result ≡ last_below (has_hash (hashes_of ls) hash) bound)
    → result ≡ last_below (has_hash (hashes_of links) hash) number
previous_found heads links ls index ls_is hash number link has link_is result told =
    told (placed_at (length heads) (hashes_of links)) (hash % length heads) number (subst (AreChained (placed_at (length heads) (hashes_of links))) (sym ls_is) index.linked.chained)
    (ap (λ (k : Link). k.below) link_is ∙ below_is _ links number (hash % length heads) link (has_inside links hash number has) index.linked.chained (hash_placed (length heads) (hashes_of links) hash number has))
    (λ i there. hash_placed (length heads) (hashes_of links) hash i (sym (ap (λ (y : List Link). has_hash (hashes_of y) hash i) ls_is) ∙ there))
    ∙ ap (λ (y : List Link). last_below (has_hash (hashes_of y) hash) number) ls_is

-- without places nothing is found
pub nothing_found : (heads : List ℕ) (links : List Link) (hash places : ℕ) → IsIndex heads links → places ≡ length heads → places ≡ 0 → None ≡ last_below (has_hash (hashes_of links) hash) (length (hashes_of links))
nothing_found heads links hash places index is none = sym (ap (last_below (has_hash (hashes_of links) hash)) (hashes_long links ∙ no_places heads links index (sym is ∙ none)))
