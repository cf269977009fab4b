-- What is done one after another over a list, as far as a loop has come.
use Rattle.std.proofs.Common.{◌≡◌, ℕ, zero, suc, ◌+◌, ◌<◌, ◌≤◌, List, [], ◌∷◌, drop, get_or, length, map, refl, sym, ap, subst, ◌∙◌, arith, inl, inr}
use Rattle.std.specs.Prelude.{◌⊎◌, fold, Result, Ok, Err}
use Rattle.std.specs.List.{AllByRecursion}
use Rattle.std.proofs.lemmas.List.{drop_all}
use Rattle.cy_oneshot_patterns.proofs.SliceReads.{next_of}
use Rattle.cy_updates_meaning.specs.declared.faults.UpdateFault.{UpdateFault}
use Rattle.cy_updates_meaning.specs.declared.faults.UpdateFault.TheVariants.{NoMemory}
use Rattle.cy_updates_meaning.specs.Faults.{◌>>=◌, each_in_turn}

-- out of memory is what it is, and else the one thing follows from the other
pub or_wants : {P Q : Type 0} (why : UpdateFault) → (P → Q) → (why ≡ NoMemory) ⊎ P → (why ≡ NoMemory) ⊎ Q
or_wants why leads (inl wants) = inl wants
or_wants why leads (inr stops) = inr (leads stops)

-- the things of a slice that are left: one and the others, or none
module _ {X A : Type 0} (view : X → A) (xs : List X) (i : ℕ) where
  pub next_in : (x : X) → i < length xs → x ≡ get_or xs i x → map view (drop i xs) ≡ view x ∷ map view (drop (i + 1) xs)
  next_in x less is = ap (map view) (next_of xs i x less is)

  pub none_in : length xs ≤ i → map view (drop i xs) ≡ []
  none_in over = ap (map view) (drop_all i xs over)

-- a thing of a slice, whatever stands for none
same_item : {X : Type 0} (xs : List X) (i : ℕ) (d e : X) → i < length xs → get_or xs i d ≡ get_or xs i e
same_item [] i d e less = absurd (omega arith)
same_item (x ∷ xs) zero d e less = refl
same_item (x ∷ xs) (suc i) d e less = same_item xs i d e (omega arith)

pub item_at : {X : Type 0} (xs : List X) (i : ℕ) (d : X) → i < length xs → drop i xs ≡ get_or xs i d ∷ drop (i + 1) xs
item_at xs i d less = next_of xs i (get_or xs i d) less (same_item xs i d (get_or xs i d) less)

-- what holds of each thing of a slice holds of this one
pub here_in : {X : Type 0} (P : X → Type 0) (xs : List X) (i : ℕ) (x : X) → AllByRecursion P xs → i < length xs → x ≡ get_or xs i x → P x
here_in P [] i x all less is = absurd (omega arith)
here_in P (y ∷ ys) zero x all less is = subst P (sym is) all.0
here_in P (y ∷ ys) (suc i) x all less is = here_in P ys i x all.1 (omega arith) is

module _ {A S : Type 0} (f : A → S → Result S UpdateFault) (items rest : List A) (x : A) (are : items ≡ x ∷ rest) (now : S) (all : Result S UpdateFault) (leads : each_in_turn f items now ≡ all) where
  -- the next one is done
  pub next_leads : (next : S) → f x now ≡ Ok next → each_in_turn f rest next ≡ all
  next_leads next step = ap (λ r. r >>= λ s. each_in_turn f rest s) (sym step) ∙ sym (ap (λ l. each_in_turn f l now) are) ∙ leads

  -- it stops
  pub next_stops : (why : UpdateFault) → f x now ≡ Err why → all ≡ Err why
  next_stops why step = sym leads ∙ ap (λ l. each_in_turn f l now) are ∙ ap (λ r. r >>= λ s. each_in_turn f rest s) step

-- none is left
pub all_done : {A S : Type 0} (f : A → S → Result S UpdateFault) (items : List A) → items ≡ [] → (now : S) (all : Result S UpdateFault) → each_in_turn f items now ≡ all → all ≡ Ok now
all_done f items none now all leads = sym leads ∙ ap (λ l. each_in_turn f l now) none

-- the same where nothing stops
module _ {A S : Type 0} (f : S → A → S) (items : List A) (now all : S) (leads : fold f now items ≡ all) where
  pub next_folds : (rest : List A) (x : A) → items ≡ x ∷ rest → (next : S) → next ≡ f now x → fold f next rest ≡ all
  next_folds rest x are next step = ap (λ s. fold f s rest) step ∙ sym (ap (λ l. fold f now l) are) ∙ leads

  pub all_folded : items ≡ [] → all ≡ now
  all_folded none = sym leads ∙ ap (λ l. fold f now l) none

-- ---- what a result has

abbrev pub value_of : {A : Type 0} → A → Result A UpdateFault
value_of x = Ok x

abbrev value_or : {A : Type 0} → A → Result A UpdateFault → A
value_or d (Ok x) = x
value_or d (Err why) = d

pub same_ok : {A : Type 0} (x y : A) → value_of x ≡ value_of y → x ≡ y
same_ok x y is = ap (value_or x) is
