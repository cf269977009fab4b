-- Going over all views, one after another.
use Rattle.std.proofs.Common.{◌≡◌, ◌≤◌, ℕ, zero, suc, ◌+◌, [], ◌∷◌, length, map, Some, None, String, Global, refl, sym, ap, subst, ◌∙◌, add-one, arith}
use Rattle.std.specs.Prelude.{slice_get}
use Rattle.std.specs.List.{AllByRecursion}
use Rattle.std.specs.Map.{values_of}
use Rattle.indexmap.specs.IndexMap.{set_value_at}
use Rattle.cy_engine_views.specs.declared.registered.Registered.{Registered}
use Rattle.cy_engine_views.specs.Upkeep.{Registry, held}
use Rattle.cy_engine_views.specs.internal.Loops.{AreRelated, IsOne}

-- ---- one view

-- two values of one view are held as the same
pub one_held : (name : String Global) (view next : Registered) → IsOne view next → held (name, next) ≡ held (name, view)
one_held name view next one = λ i. record {
  name = (held (name, view)).name;
  query = one.query i;
  plan = one.plan i;
  made = one.made i;
  feed = one.feed i;
  steps = one.steps i;
}

-- ---- all of them

abbrev pub All : (Registered → Type 0) → Registry → Type 0
All P entries = AllByRecursion (λ (e : String Global × Registered). P e.1) entries

module _ (R : Registered → Registered → Type 0) where
  -- the first this many are related to what they were, and the others are as they were
  abbrev pub FirstDone : ℕ → Registry → Registry → Type 0
  FirstDone n [] now = now ≡ []
  FirstDone zero (e ∷ entries) now = now ≡ e ∷ entries
  FirstDone (suc n) (e ∷ entries) now = (view : Registered) × (others : Registry) × (now ≡ (e.0, view) ∷ others) × R e.1 view × FirstDone n entries others

  pub none_done : (entries : Registry) → FirstDone 0 entries entries
  none_done [] = refl
  none_done (e ∷ entries) = refl

  -- the next one is as it was
  pub next_is : (P : Registered → Type 0) (entries now : Registry) (n : ℕ) → FirstDone n entries now → (view : Registered) → Some view ≡ slice_get (values_of now) n → All P entries → P view
  next_is P [] now n done view at all =
      let nothing : Some view ≡ slice_get (values_of (let es : Registry = [] in es)) n = at ∙ ap (λ (es : Registry). slice_get (values_of es) n) done in
      absurd (cc)
  next_is P (e ∷ entries) now zero done view at all =
      let here : Some view ≡ slice_get (values_of (e ∷ entries)) 0 = at ∙ ap (λ (es : Registry). slice_get (values_of es) 0) done in
      let is : view ≡ e.1 = cc in
      subst P (sym is) all.0
  next_is P (e ∷ entries) now (suc n) (v, others, is, r, done) view at all =
      next_is P entries others n done view (at ∙ ap (λ (es : Registry). slice_get (values_of es) (suc n)) is) all.1

  one_done : (entries now : Registry) (n : ℕ) → FirstDone n entries now → (view next : Registered) → Some view ≡ slice_get (values_of now) n → R view next → FirstDone (suc n) entries (set_value_at now n next)
  one_done [] now n done view next at related = ap (λ (es : Registry). set_value_at es n next) done
  one_done (e ∷ entries) now zero done view next at related =
      let here : Some view ≡ slice_get (values_of (e ∷ entries)) 0 = at ∙ ap (λ (es : Registry). slice_get (values_of es) 0) done in
      let is : view ≡ e.1 = cc in
      (next, entries, ap (λ (es : Registry). set_value_at es 0 next) done, subst (λ (v : Registered). R v next) is related, none_done entries)
  one_done (e ∷ entries) now (suc n) (v, others, is, r, done) view next at related = (
    v,
    set_value_at others n next,
    ap (λ (es : Registry). set_value_at es (suc n) next) is,
    r,
    one_done entries others n done view next (at ∙ ap (λ (es : Registry). slice_get (values_of es) (suc n)) is) related,
  )

  past_done : (entries now : Registry) (n : ℕ) → FirstDone n entries now → None ≡ slice_get (values_of now) n → FirstDone (suc n) entries now
  past_done [] now n done none = done
  past_done (e ∷ entries) now zero done none =
      let here : None ≡ slice_get (values_of (e ∷ entries)) 0 = none ∙ ap (λ (es : Registry). slice_get (values_of es) 0) done in
      absurd (cc)
  past_done (e ∷ entries) now (suc n) (v, others, is, r, done) none =
      (v, others, is, r, past_done entries others n done (none ∙ ap (λ (es : Registry). slice_get (values_of es) (suc n)) is))

  pub next_done : (entries now : Registry) (n : ℕ) → FirstDone n entries now → (view next : Registered) → Some view ≡ slice_get (values_of now) n → R view next → FirstDone (n + 1) entries (set_value_at now n next)
  next_done entries now n done view next at related = rw (add-one n) (one_done entries now n done view next at related)

  pub no_more : (entries now : Registry) (n : ℕ) → FirstDone n entries now → None ≡ slice_get (values_of now) n → FirstDone (n + 1) entries now
  no_more entries now n done none = rw (add-one n) (past_done entries now n done none)

  pub all_done : (entries now : Registry) (n : ℕ) → length entries ≤ n → FirstDone n entries now → AreRelated R entries now
  all_done [] now n all done = done
  all_done (e ∷ entries) now zero all done = absurd (omega (arith, all))
  all_done (e ∷ entries) now (suc n) all (v, others, is, r, done) = (v, others, is, r, all_done entries others n (omega (arith, all)) done)

  pub related_length : (entries now : Registry) → AreRelated R entries now → length now ≡ length entries
  related_length [] now related = ap length related
  related_length (e ∷ entries) now (v, others, is, r, related) = ap length is ∙ ap suc (related_length entries others related)

  -- what holds of each, whether it is done or not
  pub all_hold : (P Q : Registered → Type 0) → ((view next : Registered) → P view → R view next → Q next) → ((view : Registered) → P view → Q view)
      → (entries now : Registry) (n : ℕ) → FirstDone n entries now → All P entries → All Q now
  all_hold P Q done_holds waits_holds [] now n done all = subst (All Q) (sym done) tt
  all_hold P Q done_holds waits_holds (e ∷ entries) now zero done all = subst (All Q) (sym done) (waits_holds e.1 all.0, rest entries all.1)
    where
      rest : (es : Registry) → All P es → All Q es
      rest [] all = tt
      rest (e ∷ es) all = (waits_holds e.1 all.0, rest es all.1)
  all_hold P Q done_holds waits_holds (e ∷ entries) now (suc n) (v, others, is, r, done) all =
      subst (All Q) (sym is) (done_holds e.1 v all.0 r, all_hold P Q done_holds waits_holds entries others n done all.1)

  -- and where all are done
  pub related_hold : (P Q : Registered → Type 0) → ((view next : Registered) → P view → R view next → Q next) → (entries now : Registry) → AreRelated R entries now → All P entries → All Q now
  related_hold P Q holds [] now related all = subst (All Q) (sym related) tt
  related_hold P Q holds (e ∷ entries) now (v, others, is, r, related) all = subst (All Q) (sym is) (holds e.1 v all.0 r, related_hold P Q holds entries others related all.1)

  -- the views are the same where each is one with what it was
  pub same_held : ((view next : Registered) → R view next → IsOne view next) → (entries now : Registry) (n : ℕ) → FirstDone n entries now → map held now ≡ map held entries
  same_held one [] now n done = ap (map held) done
  same_held one (e ∷ entries) now zero done = ap (map held) done
  same_held one (e ∷ entries) now (suc n) (v, others, is, r, done) =
      ap (map held) is ∙ (λ i. one_held e.0 e.1 v (one e.1 v r) i ∷ same_held one entries others n done i)

module _ {R S : Registered → Registered → Type 0} (weaker : (view next : Registered) → R view next → S view next) where
  pub still_done : (entries now : Registry) (n : ℕ) → FirstDone R n entries now → FirstDone S n entries now
  still_done [] now n done = done
  still_done (e ∷ entries) now zero done = done
  still_done (e ∷ entries) now (suc n) (v, others, is, r, done) = (v, others, is, weaker e.1 v r, still_done entries others n done)
