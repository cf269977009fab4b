-- Numbers under keys, and the versions that the steps of a change go back to.
use Rattle.std.specs.Prelude.{◌≡◌, ℕ, ◌-◌, zero, suc, Bool, true, false, cond, ◌&&◌, List, [], ◌∷◌, ◌++◌, length, take, map, nat_eq}
use Rattle.std.specs.List.{AllByRecursion, list_any}
use Rattle.cy_index.specs.declared.postings.Step.{Step}
use Rattle.cy_index.specs.declared.postings.Step.TheVariants as step
use Rattle.cy_index.specs.internal.Entries.{Entries, present, restored}
use Rattle.cy_index.specs.internal.Numbers.{is_among}

-- lists of numbers, each under its key
abbrev pub Version : Type 0 → Type 0
Version K = List (K × List ℕ)

module _ {K : Type 0} where
  -- the numbers under their keys, of lists of entries
  abbrev pub version_of : List (K × Entries) → Version K
  version_of = map (λ e. (e.0, present e.1))

module _ {K X : Type 0} where
  -- the list in a slot
  abbrev pub list_at : ℕ → List (K × List X) → List X
  list_at slot [] = []
  list_at zero (e ∷ es) = e.1
  list_at (suc slot) (e ∷ es) = list_at slot es

  -- the lists with another one in a slot
  abbrev pub with_list : ℕ → List X → List (K × List X) → List (K × List X)
  with_list slot xs [] = []
  with_list zero xs (e ∷ es) = (e.0, xs) ∷ es
  with_list (suc slot) xs (e ∷ es) = e ∷ with_list slot xs es

module _ {K : Type 0} where
  -- the lists before a step
  abbrev pub undone : Step → List (K × Entries) → List (K × Entries)
  undone step.Made es = take (length es - 1) es
  undone (step.Set spot before) es = with_list spot.slot (restored spot.number before (list_at spot.slot es)) es

  -- the version after these steps, the newest first, and those before each of them
  abbrev pub versions : List Step → List (K × Entries) → List (Version K)
  versions [] es = version_of es ∷ []
  versions (s ∷ ss) es = version_of es ∷ versions ss (undone s es)

  -- the newest version
  abbrev pub latest : List (Version K) → Version K
  latest [] = []
  latest (v ∷ vs) = v

  -- the new versions are the old ones with later ones
  abbrev pub Goes : List (Version K) → List (Version K) → Type 0
  Goes old new = (later : List (Version K)) × (new ≡ later ++ old)

  -- one list was replaced by another
  abbrev pub Writes : ℕ → List ℕ → List (Version K) → List (Version K) → Type 0
  Writes slot xs old new = Goes old new × (latest new ≡ with_list slot xs (latest old))

  -- a key was added last, with one number
  abbrev pub Makes : K → ℕ → List (Version K) → List (Version K) → Type 0
  Makes key n old new = Goes old new × (latest new ≡ latest old ++ (key, n ∷ []) ∷ [])

  module _ (eq : K → K → Bool) where
    -- the numbers under a key
    abbrev pub numbers_at : K → Version K → List ℕ
    numbers_at key [] = []
    numbers_at key (e ∷ es) = cond (eq key e.0) e.1 (numbers_at key es)

    -- whether the number stands under the key
    abbrev pub stands : K → ℕ → Version K → Bool
    stands key n v = is_among n (numbers_at key v)

    -- the slot is the first with this key
    abbrev pub IsSlotOf : K → ℕ → Version K → Type 0
    IsSlotOf key slot [] = ⊥
    IsSlotOf key zero (e ∷ es) = eq key e.0 ≡ true
    IsSlotOf key (suc slot) (e ∷ es) = (eq key e.0 ≡ false) × IsSlotOf key slot es

    -- no slot has this key
    abbrev pub IsNew : K → Version K → Type 0
    IsNew key v = AllByRecursion (λ (e : K × List ℕ). eq key e.0 ≡ false) v

    -- what stands under each key: the number under those of these keys, or not, and all else as it was
    abbrev pub Puts : List K → ℕ → Bool → Version K → Version K → Type 0
    Puts keys n here old new = (key : K) (m : ℕ) → stands key m new ≡ cond (list_any (eq key) keys && nat_eq m n) here (stands key m old)

    -- the number leaves the leaving keys, is put under the coming ones, and all else is as it was
    abbrev pub Replaces : List K → List K → ℕ → Version K → Version K → Type 0
    Replaces leaving coming n old new = (key : K) (m : ℕ) → stands key m new ≡ cond (list_any (eq key) coming && nat_eq m n) true (cond (list_any (eq key) leaving && nat_eq m n) false (stands key m old))
