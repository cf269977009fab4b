-- What is found, or else another thing.
use Rattle.std.proofs.Common.{◌≡◌, ℕ, Bool, true, false, cond, not, ◌&&◌, Option, None, Some, refl, sym, ap, subst}
use Rattle.std.specs.Prelude.{unwrap_or}
use Rattle.std.specs.Option.{option_map, option_or}
use Rattle.std.proofs.lemmas.Option.{none-some}

pub mapped_at : {A : Type 0} (P : A → Type 0) (f : ℕ → A) (o : Option ℕ) (x : A) → ((n : ℕ) → o ≡ Some n → P (f n)) → option_map f o ≡ Some x → P x
mapped_at P f None x each is = absurd (none-some x is)
mapped_at P f (Some n) x each is = subst P (ap (λ o. unwrap_or o x) is) (each n refl)

pub or_at : {A : Type 0} (P : A → Type 0) (f : ℕ → A) (o : Option ℕ) (q : Option A) (x : A) → ((n : ℕ) → o ≡ Some n → P (f n)) → (o ≡ None → q ≡ Some x → P x)
    → option_or (option_map f o) q ≡ Some x → P x
or_at P f None q x deeper other is = other refl is
or_at P f (Some n) q x deeper other is = subst P (ap (λ o. unwrap_or o x) is) (deeper n refl)

pub when_at : (P : ℕ → Type 0) (b : Bool) (n x : ℕ) → (b ≡ true → P n) → cond b (Some n) None ≡ Some x → P x
when_at P true n x here is = subst P (ap (λ o. unwrap_or o x) is) (here refl)
when_at P false n x here is = absurd (none-some x is)

pub unmapped : {A : Type 0} (f : ℕ → A) (o : Option ℕ) → option_map f o ≡ None → o ≡ None
unmapped f None none = refl
unmapped f (Some n) none = absurd (none-some (f n) (sym none))

pub none_or : {A : Type 0} (f : ℕ → A) (o : Option ℕ) (q : Option A) → option_or (option_map f o) q ≡ None → (o ≡ None) × (q ≡ None)
none_or f None q none = (refl, none)
none_or f (Some n) q none = absurd (none-some (f n) (sym none))

pub none_when : (b : Bool) (n : ℕ) → cond b (Some n) None ≡ None → b ≡ false
none_when true n none = absurd (none-some n (sym none))
none_when false n none = refl

-- where it is looked for only if so
pub none_if : (so : Bool) (o : Option ℕ) (held : Bool) → (o ≡ None → held ≡ false) → cond so o None ≡ None → (so && held) ≡ false
none_if true o held each none = each none
none_if false o held each none = refl

pub some_if : (so : Bool) (o : Option ℕ) (n : ℕ) → cond so o None ≡ Some n → (so ≡ true) × (o ≡ Some n)
some_if true o n some = (refl, some)
some_if false o n some = absurd (none-some n some)

-- or unless so
pub none_unless : (so : Bool) (o : Option ℕ) (held : Bool) → (o ≡ None → held ≡ false) → cond so None o ≡ None → (not so && held) ≡ false
none_unless true o held each none = refl
none_unless false o held each none = each none

pub some_unless : (so : Bool) (o : Option ℕ) (n : ℕ) → cond so None o ≡ Some n → (so ≡ false) × (o ≡ Some n)
some_unless true o n some = absurd (none-some n some)
some_unless false o n some = (refl, some)
