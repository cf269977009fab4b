-- Versions of numbers under keys: how lists are written, and what a step does to the versions.
use Rattle.std.proofs.Common.{◌≡◌, ℕ, zero, suc, ◌+◌, ◌-◌, ◌<◌, true, List, [], ◌∷◌, ◌++◌, length, drop, reverse, Result, Ok, Err, OnErr, refl, sym, ap, ◌∙◌, arith, length-append, length-drop, append_assoc}
use Rattle.std.specs.Prelude.{slice_get, Some, None}
use Rattle.std.specs.Map.{values_of}
use Rattle.std.proofs.lemmas.List.{take_at, reverse-append, drop_at, drop-drop}
use Rattle.indexmap.specs.IndexMap.{set_value_at}
use Rattle.cy_index.specs.declared.postings.Step.{Step}
use Rattle.cy_index.specs.declared.postings.Step.TheVariants as step
use Rattle.cy_index.specs.internal.Entries.{Entries, present}
use Rattle.cy_index.specs.internal.Postings.{Version, version_of, list_at, with_list, undone, versions, latest, Goes, Writes, Makes}

-- what holds holds at any answer
pub on_err : {T E P : Type 0} → (answer : Result T E) → P → OnErr answer P
on_err (Ok x) here = tt
on_err (Err e) here = here

module _ {K X : Type 0} where
  -- a list that was written is read
  list_written : (slot : ℕ) (xs : List X) (es : List (K × List X)) → slot < length es → list_at slot (with_list slot xs es) ≡ xs
  list_written slot xs [] lt = absurd (omega arith)
  list_written zero xs (e ∷ es) lt = refl
  list_written (suc slot) xs (e ∷ es) lt = list_written slot xs es (omega arith)

  -- the last of two writes counts
  written_twice : (slot : ℕ) (xs ys : List X) (es : List (K × List X)) → with_list slot ys (with_list slot xs es) ≡ with_list slot ys es
  written_twice slot xs ys [] = refl
  written_twice zero xs ys (e ∷ es) = refl
  written_twice (suc slot) xs ys (e ∷ es) = ap (λ l. e ∷ l) (written_twice slot xs ys es)

  -- what is there can be written again
  pub written_same : (slot : ℕ) (es : List (K × List X)) → with_list slot (list_at slot es) es ≡ es
  written_same slot [] = refl
  written_same zero (e ∷ es) = refl
  written_same (suc slot) (e ∷ es) = ap (λ l. e ∷ l) (written_same slot es)

  -- a write by a function that is undone by another
  pub written_back : (slot : ℕ) (f : List X → List X) (xs : List X) (es : List (K × List X)) → slot < length es → f xs ≡ list_at slot es → with_list slot (f (list_at slot (with_list slot xs es))) (with_list slot xs es) ≡ es
  written_back slot f xs es lt back =
      ap (λ l. with_list slot (f l) (with_list slot xs es)) (list_written slot xs es lt)
      ∙ written_twice slot xs (f xs) es ∙ ap (λ l. with_list slot l es) back ∙ written_same slot es

  -- the value of a map in a slot, and one that is written there
  pub list_value : (es : List (K × List X)) (slot : ℕ) (xs : List X) → slice_get (values_of es) slot ≡ Some xs → list_at slot es ≡ xs
  list_value [] slot xs is = cc
  list_value (e ∷ es) zero xs is = cc
  list_value (e ∷ es) (suc slot) xs is = list_value es slot xs is

  pub value_written : (es : List (K × List X)) (slot : ℕ) (xs : List X) → set_value_at es slot xs ≡ with_list slot xs es
  value_written [] slot xs = refl
  value_written (e ∷ es) zero xs = refl
  value_written (e ∷ es) (suc slot) xs = ap (λ l. e ∷ l) (value_written es slot xs)

  -- a list of a map that is changed, and one that isn't there
  pub value_changed : (f : List X → List X) (es : List (K × List X)) (slot : ℕ) (xs ys : List X) → Some xs ≡ slice_get (values_of es) slot → ys ≡ f xs → set_value_at es slot ys ≡ with_list slot (f (list_at slot es)) es
  value_changed f es slot xs ys there is = value_written es slot ys ∙ ap (λ l. with_list slot l es) (is ∙ ap f (sym (list_value es slot xs (sym there))))

  pub nothing_there : (xs : List X) (es : List (K × List X)) (slot : ℕ) → None ≡ slice_get (values_of es) slot → with_list slot xs es ≡ es
  nothing_there xs [] slot none = refl
  nothing_there xs (e ∷ es) zero none = cc
  nothing_there xs (e ∷ es) (suc slot) none = ap (λ l. e ∷ l) (nothing_there xs es slot none)

module _ {K : Type 0} where
  -- the version of lists that are written, or get longer
  pub version_written : (slot : ℕ) (xs : Entries) (es : List (K × Entries)) → version_of (with_list slot xs es) ≡ with_list slot (present xs) (version_of es)
  version_written slot xs [] = refl
  version_written zero xs (e ∷ es) = refl
  version_written (suc slot) xs (e ∷ es) = ap (λ l. (e.0, present e.1) ∷ l) (version_written slot xs es)

  pub version_list : (slot : ℕ) (es : List (K × Entries)) → list_at slot (version_of es) ≡ present (list_at slot es)
  version_list slot [] = refl
  version_list zero (e ∷ es) = refl
  version_list (suc slot) (e ∷ es) = version_list slot es

  version_push : (es fs : List (K × Entries)) → version_of (es ++ fs) ≡ version_of es ++ version_of fs
  version_push [] fs = refl
  version_push (e ∷ es) fs = ap (λ v. (e.0, present e.1) ∷ v) (version_push es fs)

  -- and of one whose present numbers stay
  pub version_stays : (es : List (K × Entries)) (slot : ℕ) (xs ys : Entries) → Some xs ≡ slice_get (values_of es) slot → present ys ≡ present xs → version_of (set_value_at es slot ys) ≡ version_of es
  version_stays es slot xs ys there is =
      ap version_of (value_written es slot ys) ∙ version_written slot ys es
      ∙ ap (λ l. with_list slot l (version_of es)) (is ∙ ap present (sym (list_value es slot xs (sym there))) ∙ sym (version_list slot es))
      ∙ written_same slot (version_of es)

  pub length_version : (es : List (K × Entries)) → length (version_of es) ≡ length es
  length_version [] = refl
  length_version (e ∷ es) = ap suc (length_version es)

  -- a key that came last goes again
  pub made_back : (es : List (K × Entries)) (e : K × Entries) → undone step.Made (es ++ e ∷ []) ≡ es
  made_back es e = take_at es (e ∷ []) (length (es ++ e ∷ []) - 1) (omega (arith, length-append es (e ∷ [])))

  -- the newest of the versions is the one that there is
  latest_is : (ss : List Step) (es : List (K × Entries)) → latest (versions ss es) ≡ version_of es
  latest_is [] es = refl
  latest_is (s ∷ ss) es = refl

  pub newest : (ss : List Step) (es : List (K × Entries)) (now : List (Version K)) → versions ss es ≡ now → latest now ≡ version_of es
  newest ss es now is = sym (ap latest is) ∙ latest_is ss es

  pub length_versions : (ss : List Step) (es : List (K × Entries)) → length (versions ss es) ≡ length ss + 1
  length_versions [] es = refl
  length_versions (s ∷ ss) es = ap suc (length_versions ss (undone s es)) ∙ omega arith

  -- a step more leads to one more version
  pub stepped : (steps : List Step) (s : Step) (old new : List (K × Entries)) → undone s new ≡ old → versions (reverse (steps ++ s ∷ [])) new ≡ version_of new ∷ versions (reverse steps) old
  stepped steps s old new back = ap (λ ss. versions ss new) (reverse-append steps (s ∷ [])) ∙ ap (λ es. version_of new ∷ versions (reverse steps) es) back

  -- a write, as the versions show it
  pub writes : (now view : List (Version K)) (old new : List (K × Entries)) (slot : ℕ) (f : List ℕ → List ℕ) → latest now ≡ version_of old → view ≡ version_of new ∷ now → version_of new ≡ with_list slot (f (list_at slot (version_of old))) (version_of old) → Writes slot (f (list_at slot (latest now))) now view
  writes now view old new slot f last shown written =
      ((version_of new ∷ [], shown), ap latest shown ∙ written ∙ ap (λ v. with_list slot (f (list_at slot v)) v) (sym last))

  -- a key that came last, as they show it
  pub makes : (now view : List (Version K)) (es : List (K × Entries)) (key : K) (n : ℕ) → latest now ≡ version_of es → view ≡ version_of (es ++ (key, (n, true) ∷ []) ∷ []) ∷ now → Makes key n now view
  makes now view es key n last shown =
      let more = (key, (n, true) ∷ []) ∷ [] in
      ((version_of (es ++ more) ∷ [], shown), ap latest shown ∙ version_push es more ∙ ap (λ v. v ++ (key, n ∷ []) ∷ []) (sym last))

  -- what came later goes again
  pub gone_back : (old mid later : List (Version K)) (mark : ℕ) → mid ≡ later ++ old → mark + 1 ≡ length old → drop (length mid - (mark + 1)) mid ≡ old
  gone_back old mid later mark is all =
      ap (λ l. drop (length l - (mark + 1)) l) is
      ∙ drop_at later old (length (later ++ old) - (mark + 1)) (omega (arith, length-append later old, all))

  -- what goes on from what goes on
  pub goes_on : (old mid new : List (Version K)) → Goes old mid → Goes mid new → Goes old new
  goes_on old mid new first then = (then.0 ++ first.0, then.1 ∙ ap (λ l. then.0 ++ l) first.1 ∙ sym (append_assoc then.0 first.0 old))

-- one step less leads to the same version
pub undone_once : {X : Type 0} (vs ws : List X) (mark : ℕ) → ws ≡ drop 1 vs → mark + 1 < length vs → record { there : mark < length ws; leads : drop (length ws - (mark + 1)) ws ≡ drop (length vs - (mark + 1)) vs }
undone_once vs ws mark is lt =
    let shorter = length-drop 1 vs in
    record {
      there = omega (arith, ap length is, shorter, lt);
      leads = ap (λ l. drop (length l - (mark + 1)) l) is ∙ drop-drop (length (drop 1 vs) - (mark + 1)) 1 vs
          ∙ ap (λ k. drop k vs) {x = 1 + (length (drop 1 vs) - (mark + 1))} (omega (arith, shorter, lt));
    }
