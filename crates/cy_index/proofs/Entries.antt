-- The entries of a posting list: which numbers are present after a step, and that the step can be taken back.
use Rattle.std.proofs.Common.{◌≡◌, ℕ, ◌+◌, ◌<◌, ◌≤◌, Bool, true, false, cond, not, List, [], ◌∷◌, length, Option, None, Some, IsTrue, refl, sym, ap, subst, ◌∙◌, arith, nat_eq}
use Rattle.std.specs.BTreeMap.{insert_entry, is_at}
use Rattle.std.specs.Prelude.{◌↔◌}
use Rattle.std.specs.List.{AllByRecursion}
use Rattle.std.specs.List.Sorted.{IsStrictlySortedBy}
use Rattle.std.specs.Map.{keys_of, lookup, remove_entry, set_value}
use Rattle.std.specs.Ordering.{nat_cmp, is_eq, match_ordering}
use Rattle.std.specs.Cmp.{nat_cmp_is}
use Rattle.std.specs.declared.cmp.Ordering.{Ordering}
use Rattle.std.specs.declared.cmp.Ordering.TheVariants.{Less, Equal, Greater}
use Rattle.std.specs.FinMap.Entries.{by_order}
use Rattle.std.proofs.lemmas.Bool.{eqb-true}
use Rattle.std.proofs.lemmas.Cmp.{ranked}
use Rattle.std.proofs.lemmas.Map.Lookups.{exact_unsigned}
use Rattle.cy_index.specs.internal.Entries.{Entries, present, restored}
use Rattle.cy_index.specs.internal.Numbers.{Rises, is_nonempty, with_number, without_number}
use Rattle.cy_index.proofs.Numbers.{other, rises_from, same_tests, with_below, without_below}

-- whether a number is another
pub at_itself : (n m : ℕ) → m ≡ n → is_eq (nat_cmp n m) ≡ true
at_itself n m same = ap is_eq (sym (nat_cmp_is n m Equal (sym same)))

pub at_other : (n m : ℕ) → (m ≡ n → ⊥) → is_eq (nat_cmp n m) ≡ false
at_other n m apart = by (nat_cmp n m) refl
  where
    by : (o : Ordering) → nat_cmp n m ≡ o → is_eq o ≡ false
    by Less e = refl
    by Equal e = absurd (apart (sym (exact_unsigned n m e)))
    by Greater e = refl

-- whether there is anything
pub nonempty : {X : Type 0} (b : Bool) (xs : List X) → (IsTrue b ↔ (length xs ≡ 0)) → not b ≡ is_nonempty xs
nonempty true [] says = refl
nonempty true (x ∷ xs) says = absurd (omega (arith, says.0 refl))
nonempty false [] says = sym (says.1 refl)
nonempty false (x ∷ xs) says = refl

-- numbers in order rise
after : (x : ℕ) (xs : List ℕ) → AllByRecursion (λ y. nat_cmp x y ≡ Less) xs → AllByRecursion (λ y. x + 1 ≤ y) xs
after x [] all = tt
after x (y ∷ ys) all = (omega (arith, ranked x y Less (sym all.0)), after x ys all.1)

rise : (low : ℕ) (xs : List ℕ) → AllByRecursion (λ y. low ≤ y) xs → IsStrictlySortedBy nat_cmp xs → Rises low xs
unfolding IsStrictlySortedBy
rise low [] all ordered = tt
rise low (x ∷ xs) all ordered = (all.0, rise (x + 1) xs (after x xs ordered.0) ordered.1)

from_none : (xs : List ℕ) → AllByRecursion (λ y. 0 ≤ y) xs
from_none [] = tt
from_none (x ∷ xs) = (omega arith, from_none xs)

pub rises_in_order : (xs : List ℕ) → IsStrictlySortedBy nat_cmp xs → Rises 0 xs
rises_in_order xs ordered = rise 0 xs (from_none xs) ordered

-- so do those that are present
rises_present : (low : ℕ) (es : Entries) → Rises low (keys_of es) → Rises low (present es)
rises_present low [] up = tt
rises_present low (e ∷ es) up =
    elim e.1 as (λ b. Rises low (cond b (e.0 ∷ present es) (present es))) [
      | true ↦ (up.0, rises_present (e.0 + 1) es up.1)
      | false ↦ rises_from low (e.0 + 1) (present es) (omega (arith, up.0)) (rises_present (e.0 + 1) es up.1)
    ]

pub present_in_order : (es : Entries) → IsStrictlySortedBy nat_cmp (keys_of es) → Rises 0 (present es)
present_in_order es ordered = rises_present 0 es (rises_in_order (keys_of es) ordered)

module _ {K X : Type 0} (test : K → Bool) where
  -- what has no entry is neither set nor taken out
  pub not_set : (es : List (K × X)) (w : X) → lookup test es ≡ None → set_value test es w ≡ es
  not_set [] w none = refl
  not_set (e ∷ es) w none =
      elim (test e.0) as (λ b. cond b (Some e.1) (lookup test es) ≡ None → cond b ((e.0, w) ∷ es) (e ∷ set_value test es w) ≡ e ∷ es) [
        | true ↦ λ is. cc
        | false ↦ λ is. ap (λ l. e ∷ l) (not_set es w is)
      ] none

  not_removed : (es : List (K × X)) → lookup test es ≡ None → remove_entry test es ≡ es
  not_removed [] none = refl
  not_removed (e ∷ es) none =
      elim (test e.0) as (λ b. cond b (Some e.1) (lookup test es) ≡ None → cond b es (e ∷ remove_entry test es) ≡ e ∷ es) [
        | true ↦ λ is. cc
        | false ↦ λ is. ap (λ l. e ∷ l) (not_removed es is)
      ] none

  -- what is set is set back
  set_back : (es : List (K × X)) (a b : X) → lookup test es ≡ Some a → set_value test (set_value test es b) a ≡ es
  set_back [] a b is = refl
  set_back (e ∷ es) a b is =
      elim (test e.0) as (λ c. test e.0 ≡ c → cond c (Some e.1) (lookup test es) ≡ Some a → set_value test (cond c ((e.0, b) ∷ es) (e ∷ set_value test es b)) a ≡ e ∷ es) [
        | true ↦ λ at here. let same : e.1 ≡ a = cc in ap (λ c. cond c ((e.0, a) ∷ es) ((e.0, b) ∷ set_value test es a)) at ∙ ap (λ x. (e.0, x) ∷ es) (sym same)
        | false ↦ λ at on. ap (λ c. cond c ((e.0, a) ∷ set_value test es b) (e ∷ set_value test (set_value test es b) a)) at ∙ ap (λ l. e ∷ l) (set_back es a b on)
      ] refl is

-- a new number is present, and goes again
inserted : (n low : ℕ) (es : Entries) → Rises low (keys_of es) → lookup (is_at (nat_cmp n)) es ≡ None → present (insert_entry nat_cmp es n true) ≡ with_number n (present es)
inserted n low [] up none = refl
inserted n low (e ∷ es) up none = by (nat_cmp n e.0) refl (inserted n (e.0 + 1) es up.1) none
  where
    by : (o : Ordering) → nat_cmp n e.0 ≡ o → (lookup (is_at (nat_cmp n)) es ≡ None → present (insert_entry nat_cmp es n true) ≡ with_number n (present es)) → cond (is_eq o) (Some e.1) (lookup (is_at (nat_cmp n)) es) ≡ None
        → present (match_ordering o ((n, true) ∷ e ∷ es) ((e.0, true) ∷ es) (e ∷ insert_entry nat_cmp es n true)) ≡ with_number n (present (e ∷ es))
    by Less is rest none = sym (with_below n (present (e ∷ es)) (rises_present (n + 1) (e ∷ es) (omega (arith, ranked n e.0 Less (sym is)), up.1)))
    by Equal is rest none = cc
    by Greater is rest none =
        elim e.1 as (λ b. cond b (e.0 ∷ present (insert_entry nat_cmp es n true)) (present (insert_entry nat_cmp es n true)) ≡ with_number n (cond b (e.0 ∷ present es) (present es))) [
          | true ↦ ap (λ l. e.0 ∷ l) (rest none) ∙ sym (ap (λ o. by_order o (n ∷ e.0 ∷ present es) (e.0 ∷ present es) (e.0 ∷ with_number n (present es))) is)
          | false ↦ rest none
        ]

inserted_back : (n : ℕ) (es : Entries) → lookup (is_at (nat_cmp n)) es ≡ None → remove_entry (is_at (nat_cmp n)) (insert_entry nat_cmp es n true) ≡ es
inserted_back n [] none = ap (λ b. cond b [] ((n, true) ∷ [])) (at_itself n n refl)
inserted_back n (e ∷ es) none = by (nat_cmp n e.0) refl (inserted_back n es) none
  where
    by : (o : Ordering) → nat_cmp n e.0 ≡ o → (lookup (is_at (nat_cmp n)) es ≡ None → remove_entry (is_at (nat_cmp n)) (insert_entry nat_cmp es n true) ≡ es) → cond (is_eq o) (Some e.1) (lookup (is_at (nat_cmp n)) es) ≡ None
        → remove_entry (is_at (nat_cmp n)) (match_ordering o ((n, true) ∷ e ∷ es) ((e.0, true) ∷ es) (e ∷ insert_entry nat_cmp es n true)) ≡ e ∷ es
    by Less is rest none = ap (λ b. cond b (e ∷ es) ((n, true) ∷ remove_entry (is_at (nat_cmp n)) (e ∷ es))) (at_itself n n refl)
    by Equal is rest none = cc
    by Greater is rest none = ap (λ o. cond (is_eq o) (insert_entry nat_cmp es n true) (e ∷ remove_entry (is_at (nat_cmp n)) (insert_entry nat_cmp es n true))) is ∙ ap (λ l. e ∷ l) (rest none)

-- a number below all has no entry
nothing_below : (n low : ℕ) (es : Entries) → n < low → Rises low (keys_of es) → lookup (is_at (nat_cmp n)) es ≡ None
nothing_below n low [] lt up = refl
nothing_below n low (e ∷ es) lt up = ap (λ b. cond b (Some e.1) (lookup (is_at (nat_cmp n)) es)) (same_tests n e.0 ∙ other n e.0 (omega (arith, up.0))) ∙ nothing_below n (e.0 + 1) es (omega (arith, up.0)) up.1

-- a number that comes back is present
marked_present : (n low : ℕ) (es : Entries) (was : Bool) → Rises low (keys_of es) → lookup (is_at (nat_cmp n)) es ≡ Some was → present (set_value (is_at (nat_cmp n)) es true) ≡ with_number n (present es)
marked_present n low [] was up is = cc
marked_present n low (e ∷ es) was up is = by (nat_cmp n e.0) refl (marked_present n (e.0 + 1) es was up.1) is
  where
    by : (o : Ordering) → nat_cmp n e.0 ≡ o → (lookup (is_at (nat_cmp n)) es ≡ Some was → present (set_value (is_at (nat_cmp n)) es true) ≡ with_number n (present es)) → cond (is_eq o) (Some e.1) (lookup (is_at (nat_cmp n)) es) ≡ Some was
        → present (cond (is_eq o) ((e.0, true) ∷ es) (e ∷ set_value (is_at (nat_cmp n)) es true)) ≡ with_number n (present (e ∷ es))
    by Less is rest there = let none = nothing_below n (e.0 + 1) es (omega (arith, ranked n e.0 Less (sym is))) up.1 in cc
    by Equal is rest there =
        let same = exact_unsigned n e.0 is in
        elim e.1 as (λ b. e.0 ∷ present es ≡ with_number n (cond b (e.0 ∷ present es) (present es))) [
          | true ↦ sym (ap (λ o. by_order o (n ∷ e.0 ∷ present es) (e.0 ∷ present es) (e.0 ∷ with_number n (present es))) is)
          | false ↦ ap (λ m. m ∷ present es) (sym same) ∙ sym (with_below n (present es) (subst (λ m. Rises (m + 1) (present es)) (sym same) (rises_present (e.0 + 1) es up.1)))
        ]
    by Greater is rest there =
        elim e.1 as (λ b. cond b (e.0 ∷ present (set_value (is_at (nat_cmp n)) es true)) (present (set_value (is_at (nat_cmp n)) es true)) ≡ with_number n (cond b (e.0 ∷ present es) (present es))) [
          | true ↦ ap (λ l. e.0 ∷ l) (rest there) ∙ sym (ap (λ o. by_order o (n ∷ e.0 ∷ present es) (e.0 ∷ present es) (e.0 ∷ with_number n (present es))) is)
          | false ↦ rest there
        ]

-- a number that leaves isn't
marked_absent : (n low : ℕ) (es : Entries) → Rises low (keys_of es) → present (set_value (is_at (nat_cmp n)) es false) ≡ without_number n (present es)
marked_absent n low [] up = refl
marked_absent n low (e ∷ es) up = ap (λ b. present (cond b ((e.0, false) ∷ es) (e ∷ set_value (is_at (nat_cmp n)) es false))) (same_tests n e.0) ∙ by (nat_eq n e.0) refl (marked_absent n (e.0 + 1) es up.1)
  where
    by : (b : Bool) → nat_eq n e.0 ≡ b → present (set_value (is_at (nat_cmp n)) es false) ≡ without_number n (present es) → present (cond b ((e.0, false) ∷ es) (e ∷ set_value (is_at (nat_cmp n)) es false)) ≡ without_number n (present (e ∷ es))
    by true is rest =
        let none = sym (without_below n (e.0 + 1) (present es) (omega (arith, eqb-true n e.0 is)) (rises_present (e.0 + 1) es up.1)) in
        elim e.1 as (λ b. present es ≡ without_number n (cond b (e.0 ∷ present es) (present es))) [
          | true ↦ none ∙ sym (ap (λ c. cond (not c) (e.0 ∷ without_number n (present es)) (without_number n (present es))) is)
          | false ↦ none
        ]
    by false is rest =
        elim e.1 as (λ b. cond b (e.0 ∷ present (set_value (is_at (nat_cmp n)) es false)) (present (set_value (is_at (nat_cmp n)) es false)) ≡ without_number n (cond b (e.0 ∷ present es) (present es))) [
          | true ↦ ap (λ l. e.0 ∷ l) rest ∙ sym (ap (λ c. cond (not c) (e.0 ∷ without_number n (present es)) (without_number n (present es))) is)
          | false ↦ rest
        ]

-- what left may be taken out
pub present_removed : (n : ℕ) (es : Entries) → lookup (is_at (nat_cmp n)) es ≡ Some false → present (remove_entry (is_at (nat_cmp n)) es) ≡ present es
present_removed n [] is = cc
present_removed n (e ∷ es) is =
    elim (is_eq (nat_cmp n e.0)) as (λ b. cond b (Some e.1) (lookup (is_at (nat_cmp n)) es) ≡ Some false → present (cond b es (e ∷ remove_entry (is_at (nat_cmp n)) es)) ≡ present (e ∷ es)) [
      | true ↦ λ left. let gone : e.1 ≡ false = cc in sym (ap (λ b. cond b (e.0 ∷ present es) (present es)) gone)
      | false ↦ λ on. elim e.1 as (λ b. cond b (e.0 ∷ present (remove_entry (is_at (nat_cmp n)) es)) (present (remove_entry (is_at (nat_cmp n)) es)) ≡ cond b (e.0 ∷ present es) (present es)) [
        | true ↦ ap (λ l. e.0 ∷ l) (present_removed n es on)
        | false ↦ present_removed n es on
      ]
    ] is

-- a number that leaves, by its entry from before
pub set_leaves : (n : ℕ) (es : Entries) → Rises 0 (keys_of es) → present (set_value (is_at (nat_cmp n)) es false) ≡ without_number n (present es)
set_leaves n es up = marked_absent n 0 es up

-- each of these is taken back by the entry from before
pub set_restored : (n : ℕ) (es : Entries) (b : Bool) → restored n (lookup (is_at (nat_cmp n)) es) (set_value (is_at (nat_cmp n)) es b) ≡ es
set_restored n es b = by (lookup (is_at (nat_cmp n)) es) refl
  where
    by : (o : Option Bool) → lookup (is_at (nat_cmp n)) es ≡ o → restored n o (set_value (is_at (nat_cmp n)) es b) ≡ es
    by None is = ap (remove_entry (is_at (nat_cmp n))) (not_set (is_at (nat_cmp n)) es b is) ∙ not_removed (is_at (nat_cmp n)) es is
    by (Some was) is = set_back (is_at (nat_cmp n)) es was b is

-- what is put under a number that has an entry is set there
put_here_at : (n low : ℕ) (es : Entries) (was : Bool) → Rises low (keys_of es) → lookup (is_at (nat_cmp n)) es ≡ Some was → insert_entry nat_cmp es n true ≡ set_value (is_at (nat_cmp n)) es true
put_here_at n low [] was up is = cc
put_here_at n low (e ∷ es) was up is = by (nat_cmp n e.0) refl (put_here_at n (e.0 + 1) es was up.1) is
  where
    by : (o : Ordering) → nat_cmp n e.0 ≡ o → (lookup (is_at (nat_cmp n)) es ≡ Some was → insert_entry nat_cmp es n true ≡ set_value (is_at (nat_cmp n)) es true) → cond (is_eq o) (Some e.1) (lookup (is_at (nat_cmp n)) es) ≡ Some was
        → match_ordering o ((n, true) ∷ e ∷ es) ((e.0, true) ∷ es) (e ∷ insert_entry nat_cmp es n true) ≡ cond (is_eq o) ((e.0, true) ∷ es) (e ∷ set_value (is_at (nat_cmp n)) es true)
    by Less is rest there = let none = nothing_below n (e.0 + 1) es (omega (arith, ranked n e.0 Less (sym is))) up.1 in cc
    by Equal is rest there = refl
    by Greater is rest there = ap (λ l. e ∷ l) (rest there)

-- the one entry is set
pub put_here : (n m : ℕ) (b : Bool) → m ≡ n → insert_entry nat_cmp ((m, b) ∷ []) n true ≡ (m, true) ∷ []
put_here n m b same = ap (λ o. match_ordering o ((n, true) ∷ (m, b) ∷ []) ((m, true) ∷ []) ((m, b) ∷ (n, true) ∷ [])) (sym (nat_cmp_is n m Equal (sym same)))

-- a number that is put, with or without an entry from before
pub put_adds : (n : ℕ) (es : Entries) → Rises 0 (keys_of es) → present (insert_entry nat_cmp es n true) ≡ with_number n (present es)
put_adds n es up = by (lookup (is_at (nat_cmp n)) es) refl
  where
    by : (o : Option Bool) → lookup (is_at (nat_cmp n)) es ≡ o → present (insert_entry nat_cmp es n true) ≡ with_number n (present es)
    by None is = inserted n 0 es up is
    by (Some was) is = ap present (put_here_at n 0 es was up is) ∙ marked_present n 0 es was up is

pub put_restored : (n : ℕ) (es : Entries) → Rises 0 (keys_of es) → restored n (lookup (is_at (nat_cmp n)) es) (insert_entry nat_cmp es n true) ≡ es
put_restored n es up = by (lookup (is_at (nat_cmp n)) es) refl
  where
    by : (o : Option Bool) → lookup (is_at (nat_cmp n)) es ≡ o → restored n o (insert_entry nat_cmp es n true) ≡ es
    by None is = inserted_back n es is
    by (Some was) is = ap (λ l. set_value (is_at (nat_cmp n)) l was) (put_here_at n 0 es was up is) ∙ set_back (is_at (nat_cmp n)) es was true is
