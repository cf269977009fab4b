-- What stands under a key once a list is written, or a key comes.
use Rattle.std.proofs.Common.{◌≡◌, ℕ, zero, suc, ◌+◌, ◌<◌, Bool, true, false, cond, not, ◌||◌, ◌&&◌, List, [], ◌∷◌, ◌++◌, length, filter, Option, None, Some, is_some, refl, sym, ap, subst, ◌∙◌, arith, nat_eq, true≢false}
use Rattle.std.specs.Prelude.{position}
use Rattle.std.specs.List.{AllByRecursion, list_any, position_or_len, IsDistinct}
use Rattle.std.specs.Map.{keys_of, lookup}
use Rattle.std.specs.Cmp.{IsEquivalence}
use Rattle.std.specs.Option.{option_map_or}
use Rattle.std.proofs.lemmas.Map.{NonePasses, none_passes_from_lookup, lookup-none}
use Rattle.cy_index.specs.internal.Entries.{Entries, present}
use Rattle.cy_index.specs.internal.Numbers.{is_among, is_nonempty, with_number, without_number}
use Rattle.cy_index.specs.internal.Postings.{Version, version_of, list_at, with_list, numbers_at, stands, IsSlotOf, IsNew, Puts}
use Rattle.cy_index.proofs.Numbers.{among_with, among_without}

module _ {K : Type 0} (eq : K → K → Bool) where
  -- what a search for a key finds
  here_or_on : (b : Bool) (key : K) (e : K × Entries) (es : List (K × Entries)) (p : ℕ) → eq key e.0 ≡ b → (p < length es → IsSlotOf eq key p (version_of es)) → cond (not b) (1 + p) 0 < suc (length es) → IsSlotOf eq key (cond (not b) (1 + p) 0) (version_of (e ∷ es))
  here_or_on true key e es p is rest lt = is
  here_or_on false key e es p is rest lt = subst (λ k. IsSlotOf eq key k (version_of (e ∷ es))) {x = suc p} (omega arith) (is, rest (omega (arith, lt)))

  first : (key : K) (es : List (K × Entries)) → position_or_len (eq key) (keys_of es) < length es → IsSlotOf eq key (position_or_len (eq key) (keys_of es)) (version_of es)
  first key [] lt = absurd (omega arith)
  first key (e ∷ es) lt = here_or_on (eq key e.0) key e es (position_or_len (eq key) (keys_of es)) refl (first key es) lt

  found_at : (b : Bool) (q i : ℕ) → cond b (Some q) None ≡ Some i → q ≡ i
  found_at true q i e = cc
  found_at false q i e = cc

  pub slot_found : (key : K) (es : List (K × Entries)) (i : ℕ) → position (eq key) (keys_of es) ≡ Some i → i < length es → IsSlotOf eq key i (version_of es)
  slot_found key es i is lt =
      let at = found_at _ (position_or_len (eq key) (keys_of es)) i is in
      subst (λ k. IsSlotOf eq key k (version_of es)) at (first key es (omega (arith, at, lt)))

  new_here : (key : K) (es : List (K × Entries)) → NonePasses (eq key) es → IsNew eq key (version_of es)
  new_here key [] none = tt
  new_here key (e ∷ es) none = (none.0, new_here key es none.1)

  pub key_new : (key : K) (es : List (K × Entries)) → lookup (eq key) es ≡ None → IsNew eq key (version_of es)
  key_new key es none = new_here key es (none_passes_from_lookup (eq key) es none)

  none_of : {X : Type 0} (o : Option X) → false ≡ is_some o → o ≡ None
  none_of None is = refl
  none_of (Some x) is = absurd (true≢false (sym is))

  pub new_found : (key : K) (es : List (K × Entries)) → false ≡ is_some (lookup (eq key) es) → IsNew eq key (version_of es)
  new_found key es none = key_new key es (none_of (lookup (eq key) es) none)

  passes_none : (key : K) (es : List (K × Entries)) → IsNew eq key (version_of es) → NonePasses (eq key) es
  passes_none key [] new = tt
  passes_none key (e ∷ es) new = (new.0, passes_none key es new.1)

  pub new_lookup : (key : K) (es : List (K × Entries)) → IsNew eq key (version_of es) → lookup (eq key) es ≡ None
  new_lookup key es new = lookup-none (eq key) es (passes_none key es new)

  -- the numbers under a key are those in its slot
  pub numbers_slot : (key : K) (slot : ℕ) (v : Version K) → IsSlotOf eq key slot v → numbers_at eq key v ≡ list_at slot v
  numbers_slot key slot [] is = absurd is
  numbers_slot key zero (e ∷ es) is = ap (λ b. cond b e.1 (numbers_at eq key es)) is
  numbers_slot key (suc slot) (e ∷ es) is = ap (λ b. cond b e.1 (numbers_at eq key es)) is.0 ∙ numbers_slot key slot es is.1

  -- a new key has none
  pub numbers_new : (key : K) (v : Version K) → IsNew eq key v → numbers_at eq key v ≡ []
  numbers_new key [] new = refl
  numbers_new key (e ∷ es) new = ap (λ b. cond b e.1 (numbers_at eq key es)) new.0 ∙ numbers_new key es new.1

  module _ (laws : IsEquivalence eq) where
    -- a key that is equal to another is equal to what that one is equal to
    alike : (k key x : K) → eq k key ≡ true → eq k x ≡ eq key x
    alike k key x is = laws.congr k key x is

    -- once a list is written, its key has it
    pub numbers_written : (k key : K) (slot : ℕ) (xs : List ℕ) (v : Version K) → IsSlotOf eq key slot v → numbers_at eq k (with_list slot xs v) ≡ cond (eq k key) xs (numbers_at eq k v)
    numbers_written k key slot xs [] is = absurd is
    numbers_written k key zero xs (e ∷ es) is =
        let back : eq k key ≡ eq k e.0 = laws.symm k key ∙ alike key e.0 k is ∙ laws.symm e.0 k in
        elim (eq k e.0) as (λ b. cond b xs (numbers_at eq k es) ≡ cond b xs (cond b e.1 (numbers_at eq k es))) [ true ↦ refl | false ↦ refl ]
        ∙ ap (λ b. cond b xs (cond (eq k e.0) e.1 (numbers_at eq k es))) (sym back)
    numbers_written k key (suc slot) xs (e ∷ es) is =
        ap (cond (eq k e.0) e.1) (numbers_written k key slot xs es is.1)
        ∙ apart (eq k key) (eq k e.0) xs e.1 (numbers_at eq k es) (λ both. true≢false (sym both.1 ∙ alike k key e.0 both.0 ∙ is.0))
      where
        apart : (a b : Bool) (x y z : List ℕ) → ((a ≡ true) × (b ≡ true) → ⊥) → cond b y (cond a x z) ≡ cond a x (cond b y z)
        apart true true x y z off = absurd (off (refl, refl))
        apart true false x y z off = refl
        apart false b x y z off = refl

    -- once a key comes, it has its numbers
    pub numbers_made : (k key : K) (xs : List ℕ) (v : Version K) → IsNew eq key v → numbers_at eq k (v ++ (key, xs) ∷ []) ≡ cond (eq k key) xs (numbers_at eq k v)
    numbers_made k key xs [] new = refl
    numbers_made k key xs (e ∷ es) new =
        ap (cond (eq k e.0) e.1) (numbers_made k key xs es new.1)
        ∙ apart (eq k key) (eq k e.0) xs e.1 (numbers_at eq k es) (λ both. true≢false (sym both.1 ∙ alike k key e.0 both.0 ∙ new.0))
      where
        apart : (a b : Bool) (x y z : List ℕ) → ((a ≡ true) × (b ≡ true) → ⊥) → cond b y (cond a x z) ≡ cond a x (cond b y z)
        apart true true x y z off = absurd (off (refl, refl))
        apart true false x y z off = refl
        apart false b x y z off = refl

    -- the numbers under equal keys are the same
    pub numbers_alike : (k key : K) (v : Version K) → eq k key ≡ true → numbers_at eq k v ≡ numbers_at eq key v
    numbers_alike k key [] is = refl
    numbers_alike k key (e ∷ es) is = λ i. cond (alike k key e.0 is i) e.1 (numbers_alike k key es is i)

    -- what stands there with one more number, or one less, under a key
    put_more : (same : Bool) (m n : ℕ) (xs ys : List ℕ) → (same ≡ true → ys ≡ xs) → is_among m (cond same (with_number n xs) ys) ≡ cond ((same || false) && nat_eq m n) true (is_among m ys)
    put_more true m n xs ys is = among_with m n xs ∙ elim (nat_eq m n) as (λ b. (b || is_among m xs) ≡ cond b true (is_among m xs)) [ true ↦ refl | false ↦ refl ] ∙ ap (λ l. cond (nat_eq m n) true (is_among m l)) (sym (is refl))
    put_more false m n xs ys is = refl

    put_less : (same : Bool) (m n : ℕ) (xs ys : List ℕ) → (same ≡ true → ys ≡ xs) → is_among m (cond same (without_number n xs) ys) ≡ cond ((same || false) && nat_eq m n) false (is_among m ys)
    put_less true m n xs ys is = among_without m n xs ∙ elim (nat_eq m n) as (λ b. (not b && is_among m xs) ≡ cond b false (is_among m xs)) [ true ↦ refl | false ↦ refl ] ∙ ap (λ l. cond (nat_eq m n) false (is_among m l)) (sym (is refl))
    put_less false m n xs ys is = refl

    pub puts_written : (key : K) (slot n : ℕ) (v w : Version K) → IsSlotOf eq key slot v → w ≡ with_list slot (with_number n (list_at slot v)) v → Puts eq (key ∷ []) n true v w
    puts_written key slot n v w is written k m =
        ap (λ (x : Version K). is_among m (numbers_at eq k x)) written
        ∙ ap (is_among m) (numbers_written k key slot (with_number n (list_at slot v)) v is)
        ∙ put_more (eq k key) m n (list_at slot v) (numbers_at eq k v) (λ same. numbers_alike k key v same ∙ numbers_slot key slot v is)

    pub puts_removed : (key : K) (slot n : ℕ) (v w : Version K) → IsSlotOf eq key slot v → w ≡ with_list slot (without_number n (list_at slot v)) v → Puts eq (key ∷ []) n false v w
    puts_removed key slot n v w is written k m =
        ap (λ (x : Version K). is_among m (numbers_at eq k x)) written
        ∙ ap (is_among m) (numbers_written k key slot (without_number n (list_at slot v)) v is)
        ∙ put_less (eq k key) m n (list_at slot v) (numbers_at eq k v) (λ same. numbers_alike k key v same ∙ numbers_slot key slot v is)

    pub puts_made : (key : K) (n : ℕ) (v w : Version K) → IsNew eq key v → w ≡ v ++ (key, n ∷ []) ∷ [] → Puts eq (key ∷ []) n true v w
    puts_made key n v w new made k m =
        ap (λ (x : Version K). is_among m (numbers_at eq k x)) made
        ∙ ap (is_among m) (numbers_made k key (n ∷ []) v new)
        ∙ put_more (eq k key) m n [] (numbers_at eq k v) (λ same. numbers_alike k key v same ∙ numbers_new key v new)

    -- nothing goes from under a new key
    pub puts_nothing : (key : K) (n : ℕ) (v w : Version K) → IsNew eq key v → w ≡ v → Puts eq (key ∷ []) n false v w
    puts_nothing key n v w new same k m =
        ap (λ (x : Version K). is_among m (numbers_at eq k x)) same ∙ by (eq k key) refl
      where
        by : (b : Bool) → eq k key ≡ b → stands eq k m v ≡ cond ((b || false) && nat_eq m n) false (stands eq k m v)
        by true is = let none : stands eq k m v ≡ false = ap (is_among m) (numbers_alike k key v is ∙ numbers_new key v new) in none ∙ elim (nat_eq m n) as (λ c. false ≡ cond c false false) [ true ↦ refl | false ↦ refl ] ∙ ap (λ s. cond (nat_eq m n) false s) (sym none)
        by false is = refl

  -- one key after the other
  any_last : (k key : K) (keys : List K) → list_any (eq k) (keys ++ key ∷ []) ≡ (list_any (eq k) keys || (eq k key || false))
  any_last k key [] = refl
  any_last k key (x ∷ keys) = ap (λ b. eq k x || b) (any_last k key keys) ∙ elim (eq k x) as (λ a. (a || (list_any (eq k) keys || (eq k key || false))) ≡ ((a || list_any (eq k) keys) || (eq k key || false))) [ true ↦ refl | false ↦ refl ]

  twice : (a b c here s : Bool) → cond (b && c) here (cond (a && c) here s) ≡ cond ((a || b) && c) here s
  twice true true true here s = refl
  twice true true false here s = refl
  twice true false true here s = refl
  twice true false false here s = refl
  twice false b c here s = refl

  pub puts_next : (keys : List K) (key : K) (n : ℕ) (here : Bool) (u v w : Version K) → Puts eq keys n here u v → Puts eq (key ∷ []) n here v w → Puts eq (keys ++ key ∷ []) n here u w
  puts_next keys key n here u v w before next k m =
      next k m ∙ ap (λ s. cond ((eq k key || false) && nat_eq m n) here s) (before k m)
      ∙ twice (list_any (eq k) keys) (eq k key || false) (nat_eq m n) here (stands eq k m u)
      ∙ ap (λ b. cond (b && nat_eq m n) here (stands eq k m u)) (sym (any_last k key keys))

  pub puts_before : (keys : List K) (key : K) (n : ℕ) (here : Bool) (u v w : Version K) → Puts eq keys n here u v → Puts eq (key ∷ []) n here v w → Puts eq (key ∷ keys) n here u w
  puts_before keys key n here u v w before next k m =
      next k m ∙ ap (λ s. cond ((eq k key || false) && nat_eq m n) here s) (before k m)
      ∙ twice (list_any (eq k) keys) (eq k key || false) (nat_eq m n) here (stands eq k m u)
      ∙ ap (λ b. cond (b && nat_eq m n) here (stands eq k m u)) (turned (list_any (eq k) keys) (eq k key))
    where
      turned : (a b : Bool) → (a || (b || false)) ≡ (b || a)
      turned true true = refl
      turned true false = refl
      turned false true = refl
      turned false false = refl

  -- the numbers under a key that is looked up
  pub numbers_looked_up : (key : K) (es : List (K × Entries)) → numbers_at eq key (version_of es) ≡ option_map_or present (lookup (eq key) es) []
  numbers_looked_up key [] = refl
  numbers_looked_up key (e ∷ es) =
      elim (eq key e.0) as (λ b. cond b (present e.1) (numbers_at eq key (version_of es)) ≡ option_map_or present (cond b (Some e.1) (lookup (eq key) es)) []) [
        | true ↦ refl
        | false ↦ numbers_looked_up key es
      ]

  -- the keys without entries may go
  new_of_distinct : (key : K) (es : List (K × Entries)) → AllByRecursion (λ y. eq key y ≡ false) (keys_of es) → IsNew eq key (version_of es)
  new_of_distinct key [] none = tt
  new_of_distinct key (e ∷ es) none = (none.0, new_of_distinct key es none.1)

  pub numbers_filled : IsEquivalence eq → (k : K) (es : List (K × Entries)) → IsDistinct eq (keys_of es) → numbers_at eq k (version_of (filter (λ e. is_nonempty e.1) es)) ≡ numbers_at eq k (version_of es)
  unfolding IsDistinct
  numbers_filled laws k [] apart = refl
  numbers_filled laws k ((key, []) ∷ es) apart =
      let nothing : eq k key ≡ true → numbers_at eq k (version_of es) ≡ [] = λ is. numbers_alike laws k key (version_of es) is ∙ numbers_new key (version_of es) (new_of_distinct key es apart.0) in
      numbers_filled laws k es apart.1 ∙ by (eq k key) (numbers_at eq k (version_of es)) nothing
    where
      by : (b : Bool) (xs : List ℕ) → (b ≡ true → xs ≡ []) → xs ≡ cond b [] xs
      by true xs nothing = nothing refl
      by false xs nothing = refl
  numbers_filled laws k ((key, x ∷ xs) ∷ es) apart = ap (cond (eq k key) (present (x ∷ xs))) (numbers_filled laws k es apart.1)
