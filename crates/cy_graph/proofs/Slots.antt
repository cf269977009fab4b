-- Slots by rising number: the values that stand in them, and what an edit of one does to these.
use Rattle.std.proofs.Common.{◌≡◌, ℕ, zero, suc, ◌+◌, ◌<◌, ◌≤◌, Bool, true, false, cond, not, eqb, List, [], ◌∷◌, ◌++◌, take, filter, is_some, Option, Some, None, IsSome, IsTrue, inl, inr, refl, sym, ap, subst, ◌∙◌, arith}
use Rattle.std.specs.Prelude.{slice_get, ◌⊎◌, nat_eq}
use Rattle.std.specs.List.{AllByRecursion, IsDistinct}
use Rattle.std.specs.Option.{option_flatten}
use Rattle.std.specs.Map.{lookup, lookup_key, keys_of, values_of, set_value}
use Rattle.std.proofs.lemmas.Map.Made.{lookup_key_passes}
use Rattle.std.specs.Ordering.{nat_cmp, is_eq, is_lt, eq_by_cmp}
use Rattle.std.specs.declared.cmp.Ordering.TheVariants.{Less, Equal, Greater}
use Rattle.std.specs.FinMap.Entries as entries
use Rattle.std.proofs.lemmas.Bool.{and_from}
use Rattle.std.proofs.lemmas.Bool.Decides.{nat_tests}
use Rattle.indexmap.specs.IndexMap.{set_value_at}
use Rattle.cy_graph.specs.declared.before_images.Images.TheVariants as images
use Rattle.cy_graph.specs.internal.Images.{images_of}
use Rattle.cy_graph.specs.internal.Slots.{RiseFrom, with_slot, live, value_under, slot_at, as_it_was, restored}

-- what the comparison of two numbers answers
pub tied : (m n : ℕ) → m ≡ n → nat_cmp m n ≡ Equal
tied m n e = grind (arith, nat_tests)

pub above : (m n : ℕ) → n < m → nat_cmp m n ≡ Greater
above m n lt = grind (arith, nat_tests)

pub below : (m n : ℕ) → m < n → nat_cmp m n ≡ Less
below m n lt = grind (arith, nat_tests)

-- two numbers that tie are the same
pub same_number : (m n : ℕ) → is_eq (nat_cmp m n) ≡ true → m ≡ n
same_number m n e = grind (arith, nat_tests)

-- the two tests of equal numbers agree
pub same_tests : (m n : ℕ) → eqb m n ≡ is_eq (nat_cmp m n)
same_tests m n = grind (arith, nat_tests)

-- what a test of a key says
pub not_found : {X : Type 0} (found : Bool) (o : Option X) → found ≡ is_some o → (IsTrue (not found) → o ≡ None) × (o ≡ None → IsTrue (not found))
not_found found None e = (λ _. refl, λ _. ap not e)
not_found found (Some x) e = (λ t. let no : false ≡ true = sym (ap not e) ∙ t in cc, λ n. cc)

module _ {V : Type 0} where
  -- a lower bound, and a higher one
  pub weaker : (low lower high : ℕ) (es : List (ℕ × V)) → lower ≤ low → RiseFrom low high es → RiseFrom lower high es
  weaker low lower high [] le r = tt
  weaker low lower high (e ∷ es) le r = (omega (arith, r.0), r.1, r.2)

  pub raised : (low high higher : ℕ) (es : List (ℕ × V)) → high ≤ higher → RiseFrom low high es → RiseFrom low higher es
  raised low high higher [] le r = tt
  raised low high higher (e ∷ es) le r = (r.0, omega (arith, r.1), raised (e.0 + 1) high higher es le r.2)

  -- each number is at least the first
  pub at_least : (low high : ℕ) (es : List (ℕ × V)) (i : ℕ) (e : ℕ × V) → RiseFrom low high es → slice_get es i ≡ Some e → low ≤ e.0
  at_least low high [] i e r is = cc
  at_least low high (f ∷ es) zero e r is = let same : f ≡ e = cc in subst (λ (x : ℕ × V). low ≤ x.0) same r.0
  at_least low high (f ∷ es) (suc i) e r is = omega (arith, at_least (f.0 + 1) high es i e r.2 is, r.0)

  -- another value leaves the numbers
  pub set_rises : (low high : ℕ) (es : List (ℕ × V)) (i : ℕ) (w : V) → RiseFrom low high es → RiseFrom low high (set_value_at es i w)
  set_rises low high [] i w r = tt
  set_rises low high (e ∷ es) zero w r = r
  set_rises low high (e ∷ es) (suc i) w r = (r.0, r.1, set_rises (e.0 + 1) high es i w r.2)

  pub set_value_rises : (test : ℕ → Bool) (low high : ℕ) (es : List (ℕ × V)) (w : V) → RiseFrom low high es → RiseFrom low high (set_value test es w)
  set_value_rises test low high [] w r = tt
  set_value_rises test low high (e ∷ es) w r =
      let rest = set_value_rises test (e.0 + 1) high es w r.2 in
      elim (test e.0) as (λ b. RiseFrom low high (cond b ((e.0, w) ∷ es) (e ∷ set_value test es w))) [ true ↦ r | false ↦ (r.0, r.1, rest) ]

  -- some of them rise as well
  pub filter_rises : (test : ℕ × V → Bool) (low high : ℕ) (es : List (ℕ × V)) → RiseFrom low high es → RiseFrom low high (filter test es)
  filter_rises test low high [] r = tt
  filter_rises test low high (e ∷ es) r =
      let rest = filter_rises test (e.0 + 1) high es r.2 in
      elim (test e) as (λ b. RiseFrom low high (cond b (e ∷ filter test es) (filter test es))) [ true ↦ (r.0, r.1, rest) | false ↦ weaker (e.0 + 1) low high (filter test es) (omega (arith, r.0)) rest ]

  -- one more number, above all others
  pub rises_push : (low next : ℕ) (es : List (ℕ × V)) (v : V) → low ≤ next → RiseFrom low next es → RiseFrom low (next + 1) (es ++ (next, v) ∷ [])
  rises_push low next [] v le r = (le, omega arith, tt)
  rises_push low next (e ∷ es) v le r = (r.0, omega (arith, r.1), rises_push (e.0 + 1) next es v (omega (arith, r.1)) r.2)

  pub take_rises : (low high k : ℕ) (es : List (ℕ × V)) → RiseFrom low high es → RiseFrom low high (take k es)
  take_rises low high zero es r = tt
  take_rises low high (suc k) [] r = tt
  take_rises low high (suc k) (e ∷ es) r = (r.0, r.1, take_rises (e.0 + 1) high k es r.2)

  -- which is not among them
  pub absent_next : (low next : ℕ) (es : List (ℕ × V)) → RiseFrom low next es → lookup (λ (k : ℕ). eqb next k) es ≡ None
  absent_next low next [] r = refl
  absent_next low next (e ∷ es) r =
      let lt = r.1 in
      let apart : eqb next e.0 ≡ false = grind (arith, nat_tests) in
      ap (λ b. cond b (Some e.1) (lookup (λ (k : ℕ). eqb next k) es)) apart ∙ absent_next (e.0 + 1) next es r.2

  -- a smaller number is below all
  below_from : (id : ℕ) (low high : ℕ) (es : List (ℕ × V)) → id < low → RiseFrom low high es → entries.below_all nat_cmp id es ≡ true
  below_from id low high [] lt r = refl
  below_from id low high (e ∷ es) lt r = and_from _ _ (ap is_lt (below id e.0 (omega (arith, r.0)))) (below_from id (e.0 + 1) high es (omega (arith, r.0)) r.2)

  -- rising numbers are sorted, as maps say it
  pub sorted : (low high : ℕ) (es : List (ℕ × V)) → RiseFrom low high es → IsTrue (entries.is_sorted nat_cmp es)
  sorted low high [] r = refl
  sorted low high (e ∷ es) r = and_from _ _ (below_from e.0 (e.0 + 1) high es (omega arith) r.2) (sorted (e.0 + 1) high es r.2)

  -- a smaller number is not found
  pub find_smaller : (id : ℕ) (low high : ℕ) (es : List (ℕ × V)) → id < low → RiseFrom low high es → entries.find nat_cmp id es ≡ None
  find_smaller id low high [] lt r = refl
  find_smaller id low high (e ∷ es) lt r =
      ap (λ o. cond (is_eq o) (Some e.1) (entries.find nat_cmp id es)) (below id e.0 (omega (arith, r.0))) ∙ find_smaller id (e.0 + 1) high es (omega (arith, r.0)) r.2

  -- a look-up by `==` finds what the definition finds
  pub same_look_up : (id : ℕ) (es : List (ℕ × V)) → lookup (λ (k : ℕ). eqb id k) es ≡ entries.find nat_cmp id es
  same_look_up id [] = refl
  same_look_up id (e ∷ es) = λ i. cond (same_tests id e.0 i) (Some e.1) (same_look_up id es i)

  -- a write within the first
  pub take_set : (k i : ℕ) (es : List (ℕ × V)) (w : V) → take k (set_value_at es i w) ≡ set_value_at (take k es) i w
  take_set zero i es w = refl
  take_set (suc k) i [] w = refl
  take_set (suc k) zero (e ∷ es) w = refl
  take_set (suc k) (suc i) (e ∷ es) w = ap (λ l. e ∷ l) (take_set k i es w)

module _ {V : Type 0} where
  -- the values that stand have rising numbers
  pub live_rises : (low high : ℕ) (es : List (ℕ × Option V)) → RiseFrom low high es → RiseFrom low high (live es)
  live_rises low high [] r = tt
  live_rises low high (e ∷ es) r =
      let rest = live_rises (e.0 + 1) high es r.2 in
      elim e.1 as (λ s. RiseFrom low high (with_slot e.0 s (live es))) [ None ↦ weaker (e.0 + 1) low high (live es) (omega (arith, r.0)) rest | Some n ↦ (r.0, r.1, rest) ]

  -- a look-up among them finds what stands in the slot
  pub find_live : (low high : ℕ) (id : ℕ) (es : List (ℕ × Option V)) → RiseFrom low high es → entries.find nat_cmp id (live es) ≡ option_flatten (entries.find nat_cmp id es)
  find_live low high id [] r = refl
  find_live low high id (e ∷ es) r =
      let rest = find_live (e.0 + 1) high id es r.2 in
      let empty : Option V = None in
      elim e.1 as (λ s. entries.find nat_cmp id (with_slot e.0 s (live es)) ≡ option_flatten (cond (is_eq (nat_cmp id e.0)) (Some s) (entries.find nat_cmp id es))) [
        | None ↦ elim (is_eq (nat_cmp id e.0)) as (λ b. is_eq (nat_cmp id e.0) ≡ b → entries.find nat_cmp id (live es) ≡ option_flatten (cond b (Some empty) (entries.find nat_cmp id es))) [
          | true ↦ λ t. let same : id ≡ e.0 = same_number id e.0 t in find_smaller id (e.0 + 1) high (live es) (omega arith) (live_rises (e.0 + 1) high es r.2)
          | false ↦ λ t. rest
        ] refl
        | Some n ↦ elim (is_eq (nat_cmp id e.0)) as (λ b. cond b (Some n) (entries.find nat_cmp id (live es)) ≡ option_flatten (cond b (Some (Some n)) (entries.find nat_cmp id es))) [ true ↦ refl | false ↦ rest ]
      ]

  pub value_found : (high : ℕ) (id : ℕ) (es : List (ℕ × Option V)) (found : Option (Option V)) → RiseFrom 1 high es → found ≡ lookup (λ (k : ℕ). eqb id k) es
      → option_flatten found ≡ entries.find nat_cmp id (live es)
  value_found high id es found r is = ap option_flatten (is ∙ same_look_up id es) ∙ sym (find_live 1 high id es r)

  -- what stands in a slot stands under its number
  pub find_at : (low high : ℕ) (es : List (ℕ × Option V)) (i : ℕ) (id : ℕ) (n : V) → RiseFrom low high es → slice_get es i ≡ Some (id, Some n) → entries.find nat_cmp id (live es) ≡ Some n
  find_at low high [] i id n r is = cc
  find_at low high (e ∷ es) zero id n r is =
      let key : e.0 ≡ id = cc in
      let slot : e.1 ≡ Some n = cc in
      ap (λ s. entries.find nat_cmp id (with_slot e.0 s (live es))) slot ∙ ap (λ o. cond (is_eq o) (Some n) (entries.find nat_cmp id (live es))) (tied id e.0 (ap (λ (k : ℕ). k) (sym key)))
  find_at low high (e ∷ es) (suc i) id n r is =
      let rest = find_at (e.0 + 1) high es i id n r.2 is in
      let apart : e.0 < id = omega (arith, at_least (e.0 + 1) high es i (id, Some n) r.2 is) in
      elim e.1 as (λ s. entries.find nat_cmp id (with_slot e.0 s (live es)) ≡ Some n) [
        | None ↦ rest
        | Some m ↦ ap (λ o. cond (is_eq o) (Some m) (entries.find nat_cmp id (live es))) (above id e.0 apart) ∙ rest
      ]

  -- the slot of a value that changes has the value as it is then
  pub live_set : (low high : ℕ) (es : List (ℕ × Option V)) (i : ℕ) (id : ℕ) (old new : V) → RiseFrom low high es → slice_get es i ≡ Some (id, Some old)
      → live (set_value_at es i (Some new)) ≡ entries.put nat_cmp id new (live es)
  live_set low high [] i id old new r is = cc
  live_set low high (e ∷ es) zero id old new r is =
      let key : e.0 ≡ id = cc in
      let slot : e.1 ≡ Some old = cc in
      sym (ap (λ s. entries.put nat_cmp id new (with_slot e.0 s (live es))) slot
      ∙ ap (λ o. entries.by_order o ((id, new) ∷ (e.0, old) ∷ live es) ((e.0, new) ∷ live es) ((e.0, old) ∷ entries.put nat_cmp id new (live es))) (tied id e.0 (ap (λ (k : ℕ). k) (sym key))))
  live_set low high (e ∷ es) (suc i) id old new r is =
      let rest = live_set (e.0 + 1) high es i id old new r.2 is in
      let apart : e.0 < id = omega (arith, at_least (e.0 + 1) high es i (id, Some old) r.2 is) in
      elim e.1 as (λ s. with_slot e.0 s (live (set_value_at es i (Some new))) ≡ entries.put nat_cmp id new (with_slot e.0 s (live es))) [
        | None ↦ rest
        | Some m ↦ ap (λ l. (e.0, m) ∷ l) rest ∙ sym (ap (λ o. entries.by_order o ((id, new) ∷ (e.0, m) ∷ live es) ((e.0, new) ∷ live es) ((e.0, m) ∷ entries.put nat_cmp id new (live es))) (above id e.0 apart))
      ]

  -- greater numbers are other ones
  pub others_stay : (id : ℕ) (low high : ℕ) (es : List (ℕ × V)) → id < low → RiseFrom low high es → entries.where_key nat_cmp (λ k. not (eq_by_cmp nat_cmp id k)) es ≡ es
  others_stay id low high [] lt r = refl
  others_stay id low high (e ∷ es) lt r =
      ap (λ o. cond (not (is_eq o)) (e ∷ entries.where_key nat_cmp (λ k. not (eq_by_cmp nat_cmp id k)) es) (entries.where_key nat_cmp (λ k. not (eq_by_cmp nat_cmp id k)) es)) (below id e.0 (omega (arith, r.0)))
      ∙ ap (λ l. e ∷ l) (others_stay id (e.0 + 1) high es (omega (arith, r.0)) r.2)

  -- the slot of a value that is removed is empty
  pub live_clear : (low high : ℕ) (es : List (ℕ × Option V)) (i : ℕ) (id : ℕ) (old : V) → RiseFrom low high es → slice_get es i ≡ Some (id, Some old)
      → live (set_value_at es i None) ≡ entries.where_key nat_cmp (λ k. not (eq_by_cmp nat_cmp id k)) (live es)
  live_clear low high [] i id old r is = cc
  live_clear low high (e ∷ es) zero id old r is =
      let key : e.0 ≡ id = cc in
      let slot : e.1 ≡ Some old = cc in
      let left = entries.where_key nat_cmp (λ k. not (eq_by_cmp nat_cmp id k)) (live es) in
      let same : id ≡ e.0 = ap (λ (k : ℕ). k) (sym key) in
      sym (ap (λ s. entries.where_key nat_cmp (λ k. not (eq_by_cmp nat_cmp id k)) (with_slot e.0 s (live es))) slot
      ∙ ap (λ o. cond (not (is_eq o)) ((e.0, old) ∷ left) left) (tied id e.0 same)
      ∙ others_stay id (e.0 + 1) high (live es) (omega arith) (live_rises (e.0 + 1) high es r.2))
  live_clear low high (e ∷ es) (suc i) id old r is =
      let rest = live_clear (e.0 + 1) high es i id old r.2 is in
      let left = entries.where_key nat_cmp (λ k. not (eq_by_cmp nat_cmp id k)) (live es) in
      let apart : e.0 < id = omega (arith, at_least (e.0 + 1) high es i (id, Some old) r.2 is) in
      elim e.1 as (λ s. with_slot e.0 s (live (set_value_at es i None)) ≡ entries.where_key nat_cmp (λ k. not (eq_by_cmp nat_cmp id k)) (with_slot e.0 s (live es))) [
        | None ↦ rest
        | Some m ↦ ap (λ l. (e.0, m) ∷ l) rest ∙ sym (ap (λ o. cond (not (is_eq o)) ((e.0, m) ∷ left) left) (above id e.0 apart))
      ]

  -- one more slot, with a value
  pub live_push : (es : List (ℕ × Option V)) (id : ℕ) (n : V) → live (es ++ (id, Some n) ∷ []) ≡ live es ++ (id, n) ∷ []
  live_push [] id n = refl
  live_push (e ∷ es) id n = elim e.1 as (λ s. with_slot e.0 s (live (es ++ (id, Some n) ∷ [])) ≡ with_slot e.0 s (live es) ++ (id, n) ∷ []) [ None ↦ live_push es id n | Some m ↦ ap (λ l. (e.0, m) ∷ l) (live_push es id n) ]

  -- empty slots go without a trace
  pub live_filter : (es : List (ℕ × Option V)) → live (filter (λ e. is_some e.1) es) ≡ live es
  live_filter [] = refl
  live_filter (e ∷ es) = elim e.1 as (λ s. live (cond (is_some s) ((e.0, s) ∷ filter (λ e. is_some e.1) es) (filter (λ e. is_some e.1) es)) ≡ with_slot e.0 s (live es)) [ None ↦ live_filter es | Some m ↦ ap (λ l. (e.0, m) ∷ l) (live_filter es) ]

  -- with nothing kept the slots are as they were
  pub restored_nothing : (es : List (ℕ × Option V)) → restored [] es ≡ es
  restored_nothing [] = refl
  restored_nothing (e ∷ es) = ap (λ l. e ∷ l) (restored_nothing es)

  pub restored_rises : (kept : List (ℕ × V)) (low high : ℕ) (es : List (ℕ × Option V)) → RiseFrom low high es → RiseFrom low high (restored kept es)
  restored_rises kept low high [] r = tt
  restored_rises kept low high (e ∷ es) r = (r.0, r.1, restored_rises kept (e.0 + 1) high es r.2)

  -- one more value kept: what stood in a slot
  as_it_was-push : (q k : ℕ) (v : V) (kept : List (ℕ × V)) (slot : Option V) → as_it_was (value_under q (kept ++ (k, v) ∷ [])) slot ≡ as_it_was (value_under q kept) (cond (eq_by_cmp nat_cmp q k) (Some v) slot)
  as_it_was-push q k v [] slot = elim (eq_by_cmp nat_cmp q k) as (λ b. as_it_was (cond b (Some v) None) slot ≡ cond b (Some v) slot) [ true ↦ refl | false ↦ refl ]
  as_it_was-push q k v (e ∷ kept) slot =
      let rest = as_it_was-push q k v kept slot in
      elim (eq_by_cmp nat_cmp q e.0) as (λ b. as_it_was (cond b (Some e.1) (value_under q (kept ++ (k, v) ∷ []))) slot ≡ as_it_was (cond b (Some e.1) (value_under q kept)) (cond (eq_by_cmp nat_cmp q k) (Some v) slot)) [ true ↦ refl | false ↦ rest ]

  -- the value that a slot under a smaller number has doesn't count
  keeps_above : (id : ℕ) (n : V) (kept : List (ℕ × V)) (low high : ℕ) (es : List (ℕ × Option V)) → id < low → RiseFrom low high es → restored (kept ++ (id, n) ∷ []) es ≡ restored kept es
  keeps_above id n kept low high [] lt r = refl
  keeps_above id n kept low high (e ∷ es) lt r =
      let here = as_it_was-push e.0 id n kept e.1 ∙ ap (λ o. as_it_was (value_under e.0 kept) (cond (is_eq o) (Some n) e.1)) (above e.0 id (omega (arith, r.0))) in
      λ i. (e.0, here i) ∷ keeps_above id n kept (e.0 + 1) high es (omega (arith, r.0)) r.2 i

  -- to keep what stands in a slot changes nothing
  pub keeps : (id : ℕ) (n : V) (kept : List (ℕ × V)) (low high k i : ℕ) (es : List (ℕ × Option V)) → RiseFrom low high es → slice_get es i ≡ Some (id, Some n)
      → restored (kept ++ (id, n) ∷ []) (take k es) ≡ restored kept (take k es)
  keeps id n kept low high zero i es r is = refl
  keeps id n kept low high (suc k) i [] r is = refl
  keeps id n kept low high (suc k) zero (e ∷ es) r is =
      let key : e.0 ≡ id = cc in
      let slot : e.1 ≡ Some n = cc in
      let same : id ≡ e.0 = ap (λ (k : ℕ). k) (sym key) in
      let here = as_it_was-push e.0 id n kept e.1 ∙ ap (as_it_was (value_under e.0 kept)) (ap (λ o. cond (is_eq o) (Some n) e.1) (tied e.0 id (sym same)) ∙ sym slot) in
      λ i. (e.0, here i) ∷ keeps_above id n kept (e.0 + 1) high (take k es) (omega arith) (take_rises (e.0 + 1) high k es r.2) i
  keeps id n kept low high (suc k) (suc i) (e ∷ es) r is =
      let apart : e.0 < id = omega (arith, at_least (e.0 + 1) high es i (id, Some n) r.2 is) in
      let here = as_it_was-push e.0 id n kept e.1 ∙ ap (λ o. as_it_was (value_under e.0 kept) (cond (is_eq o) (Some n) e.1)) (below e.0 id apart) in
      λ j. (e.0, here j) ∷ keeps id n kept (e.0 + 1) high k i es r.2 is j

  -- where the value of a slot was kept, what stands there now doesn't count
  overridden : (kept : Option V) (a b : Option V) → is_some kept ≡ true → as_it_was kept a ≡ as_it_was kept b
  overridden None a b is = cc
  overridden (Some n) a b is = refl

  pub restored_set : (kept : List (ℕ × V)) (k i : ℕ) (es : List (ℕ × Option V)) (id : ℕ) (slot w : Option V) → slice_get es i ≡ Some (id, slot) → (i < k → is_some (value_under id kept) ≡ true)
      → restored kept (take k (set_value_at es i w)) ≡ restored kept (take k es)
  restored_set kept zero i es id slot w is known = refl
  restored_set kept (suc k) i [] id slot w is known = refl
  restored_set kept (suc k) zero (e ∷ es) id slot w is known =
      let key : id ≡ e.0 = cc in
      let here = overridden (value_under e.0 kept) w e.1 (subst (λ q. is_some (value_under q kept) ≡ true) key (known (omega arith))) in
      λ i. (e.0, here i) ∷ restored kept (take k es)
  restored_set kept (suc k) (suc i) (e ∷ es) id slot w is known =
      ap (λ l. (e.0, as_it_was (value_under e.0 kept) e.1) ∷ l) (restored_set kept k i es id slot w is (λ lt. known (omega arith)))

  -- the value that was kept last is there
  pub kept_last : (id : ℕ) (n : V) (kept : List (ℕ × V)) → is_some (value_under id (kept ++ (id, n) ∷ [])) ≡ true
  kept_last id n [] = ap (λ o. is_some (cond (is_eq o) (Some n) None)) (tied id id refl)
  kept_last id n (e ∷ kept) = elim (eq_by_cmp nat_cmp id e.0) as (λ b. is_some (cond b (Some e.1) (value_under id (kept ++ (id, n) ∷ []))) ≡ true) [ true ↦ refl | false ↦ kept_last id n kept ]

  -- to put back the value that was kept last is to put it into its slot first
  pub restored_last : (id : ℕ) (n : V) (kept : List (ℕ × V)) (low high : ℕ) (es : List (ℕ × Option V)) → RiseFrom low high es
      → restored (kept ++ (id, n) ∷ []) es ≡ restored kept (set_value (λ (k : ℕ). eqb id k) es (Some n))
  restored_last id n kept low high [] r = refl
  restored_last id n kept low high (e ∷ es) r =
      let rest = restored_last id n kept (e.0 + 1) high es r.2 in
      let push = as_it_was-push e.0 id n kept e.1 in
      elim (eqb id e.0) as (λ b. eqb id e.0 ≡ b → restored (kept ++ (id, n) ∷ []) (e ∷ es) ≡ restored kept (cond b ((e.0, Some n) ∷ es) (e ∷ set_value (λ (k : ℕ). eqb id k) es (Some n)))) [
        | true ↦ λ t.
            let same : id ≡ e.0 = grind (arith, nat_tests) in
            let here = push ∙ ap (λ o. as_it_was (value_under e.0 kept) (cond (is_eq o) (Some n) e.1)) (tied e.0 id (sym same)) in
            λ i. (e.0, here i) ∷ keeps_above id n kept (e.0 + 1) high es (omega arith) r.2 i
        | false ↦ λ t.
            let apart : is_eq (nat_cmp e.0 id) ≡ false = grind (arith, nat_tests) in
            let here = push ∙ ap (λ b. as_it_was (value_under e.0 kept) (cond b (Some n) e.1)) apart in
            λ i. (e.0, here i) ∷ rest i
      ] refl

  -- a number that is in no slot has nothing to put back
  pub restored_absent : (id : ℕ) (n : V) (kept : List (ℕ × V)) (es : List (ℕ × Option V)) → lookup (λ (k : ℕ). eqb id k) es ≡ None → restored (kept ++ (id, n) ∷ []) es ≡ restored kept es
  restored_absent id n kept [] none = refl
  restored_absent id n kept (e ∷ es) none =
      let push = as_it_was-push e.0 id n kept e.1 in
      elim (eqb id e.0) as (λ b. eqb id e.0 ≡ b → cond b (Some e.1) (lookup (λ (k : ℕ). eqb id k) es) ≡ None → restored (kept ++ (id, n) ∷ []) (e ∷ es) ≡ restored kept (e ∷ es)) [
        | true ↦ λ t found. cc
        | false ↦ λ t missing.
            let apart : is_eq (nat_cmp e.0 id) ≡ false = grind (arith, nat_tests) in
            let here = push ∙ ap (λ b. as_it_was (value_under e.0 kept) (cond b (Some n) e.1)) apart in
            λ i. (e.0, here i) ∷ restored_absent id n kept es missing i
      ] refl none

  -- to write back what stands in a slot changes nothing
  pub set_back : (es : List (ℕ × V)) (i : ℕ) (id : ℕ) (v : V) → slice_get es i ≡ Some (id, v) → set_value_at es i v ≡ es
  set_back [] i id v is = refl
  set_back (e ∷ es) zero id v is = let same : v ≡ e.1 = cc in ap (λ w. (e.0, w) ∷ es) same
  set_back (e ∷ es) (suc i) id v is = ap (λ l. e ∷ l) (set_back es i id v is)

  module _ (Q : V → Type 0) where
    -- and of each value of an edited graph
    pub all_put : (id : ℕ) (n : V) (es : List (ℕ × V)) → AllByRecursion (λ (e : ℕ × V). Q e.1) es → Q n → AllByRecursion (λ (e : ℕ × V). Q e.1) (entries.put nat_cmp id n es)
    all_put id n [] all here = (here, tt)
    all_put id n (e ∷ es) all here =
        elim (nat_cmp id e.0) as (λ o. AllByRecursion (λ (x : ℕ × V). Q x.1) (entries.by_order o ((id, n) ∷ e ∷ es) ((e.0, n) ∷ es) (e ∷ entries.put nat_cmp id n es))) [
          | Less ↦ (here, all)
          | Equal ↦ (here, all.1)
          | Greater ↦ (all.0, all_put id n es all.1 here)
        ]

    pub all_where : (test : ℕ → Bool) (es : List (ℕ × V)) → AllByRecursion (λ (e : ℕ × V). Q e.1) es → AllByRecursion (λ (e : ℕ × V). Q e.1) (entries.where_key nat_cmp test es)
    all_where test [] all = tt
    all_where test (e ∷ es) all =
        elim (test e.0) as (λ b. AllByRecursion (λ (x : ℕ × V). Q x.1) (cond b (e ∷ entries.where_key nat_cmp test es) (entries.where_key nat_cmp test es))) [ true ↦ (all.0, all_where test es all.1) | false ↦ all_where test es all.1 ]

    -- and of the one that is found
    pub all_found : (number : ℕ) (es : List (ℕ × V)) (v : V) → AllByRecursion (λ (e : ℕ × V). Q e.1) es → value_under number es ≡ Some v → Q v
    all_found number [] v all is = cc
    all_found number (e ∷ es) v all is =
        elim (is_eq (nat_cmp number e.0)) as (λ b. cond b (Some e.1) (value_under number es) ≡ Some v → Q v) [
          | true ↦ λ found. let same : e.1 ≡ v = cc in subst Q same all.0
          | false ↦ λ later. all_found number es v all.1 later
        ] is

    pub all_push : (es : List (ℕ × V)) (e : ℕ × V) → AllByRecursion (λ (x : ℕ × V). Q x.1) es → Q e.1 → AllByRecursion (λ (x : ℕ × V). Q x.1) (es ++ e ∷ [])
    all_push [] e all here = (here, tt)
    all_push (f ∷ es) e all here = (all.0, all_push es e all.1 here)

  -- the slot that a look-up finds is that of the number
  pub slot_found : (id key : ℕ) (es : List (ℕ × V)) (i : ℕ) (v : V) → Some key ≡ lookup_key (λ (k : ℕ). eqb id k) es → slice_get es i ≡ Some (key, v) → slice_get es i ≡ Some (id, v)
  slot_found id key es i v found is =
      let passes = lookup_key_passes (λ (k : ℕ). eqb id k) es key (sym found) in
      let same = same_number id key (sym (same_tests id key) ∙ passes) in
      is ∙ ap (λ (k : ℕ). let e : Option (ℕ × V) = Some (k, v) in e) (sym same)

  -- a read by index gives the value of the slot
  pub value_read : (es : List (ℕ × V)) (i : ℕ) (id : ℕ) (v w : V) → slice_get es i ≡ Some (id, v) → slice_get (values_of es) i ≡ Some w → w ≡ v
  value_read [] i id v w is read = cc
  value_read (e ∷ es) zero id v w is read = cc
  value_read (e ∷ es) (suc i) id v w is read = value_read es i id v w is read

  -- a value that is kept was kept before, or is the last
  pub kept_push : (q k : ℕ) (v : V) (kept : List (ℕ × V)) → IsSome (value_under q (kept ++ (k, v) ∷ [])) → IsSome (value_under q kept) ⊎ (q ≡ k)
  kept_push q k v [] there =
      elim (eq_by_cmp nat_cmp q k) as (λ b. eq_by_cmp nat_cmp q k ≡ b → IsSome (cond {A = Option V} b (Some v) None) → IsSome (value_under {V = V} q []) ⊎ (q ≡ k)) [
        | true ↦ λ t found. inr (same_number q k t)
        | false ↦ λ t none. inl none
      ] refl there
  kept_push q k v (e ∷ kept) there =
      elim (eq_by_cmp nat_cmp q e.0) as (λ b. IsSome (cond b (Some e.1) (value_under q (kept ++ (k, v) ∷ []))) → IsSome (cond b (Some e.1) (value_under q kept)) ⊎ (q ≡ k)) [
        | true ↦ λ found. inl found
        | false ↦ λ later. kept_push q k v kept later
      ] there

  -- a slot before a place is among the first
  pub slot_within : (k i : ℕ) (es : List (ℕ × Option V)) (id : ℕ) (v : Option V) → slice_get es i ≡ Some (id, v) → i < k → IsSome (slot_at id (take k es))
  slot_within zero i es id v is lt = absurd (omega arith)
  slot_within (suc k) i [] id v is lt = cc
  slot_within (suc k) zero (e ∷ es) id v is lt =
      let key : e.0 ≡ id = cc in
      ap (λ o. is_some (cond (is_eq o) (Some e.1) (slot_at id (take k es)))) (tied id e.0 (sym key))
  slot_within (suc k) (suc i) (e ∷ es) id v is lt =
      let rest = slot_within k i es id v is (omega arith) in
      elim (eq_by_cmp nat_cmp id e.0) as (λ b. IsSome (cond b (Some e.1) (slot_at id (take k es)))) [ true ↦ refl | false ↦ rest ]

  -- a write leaves each slot where it is
  pub slot_set : (es : List (ℕ × Option V)) (i : ℕ) (w : Option V) (id : ℕ) → is_some (slot_at id (set_value_at es i w)) ≡ is_some (slot_at id es)
  slot_set [] i w id = refl
  slot_set (e ∷ es) zero w id = elim (eq_by_cmp nat_cmp id e.0) as (λ b. is_some (cond b (Some w) (slot_at id es)) ≡ is_some (cond b (Some e.1) (slot_at id es))) [ true ↦ refl | false ↦ refl ]
  slot_set (e ∷ es) (suc i) w id =
      let rest = slot_set es i w id in
      elim (eq_by_cmp nat_cmp id e.0) as (λ b. is_some (cond b (Some e.1) (slot_at id (set_value_at es i w))) ≡ is_some (cond b (Some e.1) (slot_at id es))) [ true ↦ refl | false ↦ rest ]

  -- one value alone is under a number of its own
  pub distinct_one : (one : Option (ℕ × V)) → IsDistinct nat_eq (keys_of (images_of (images.One one)).entries)
  unfolding IsDistinct
  distinct_one None = tt
  distinct_one (Some e) = (tt, tt)
