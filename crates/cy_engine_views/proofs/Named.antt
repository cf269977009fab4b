-- Views keep names of their own, and are found by these.
use Rattle.std.proofs.Common.{◌≡◌, ◌≤◌, ℕ, true, false, cond, not, List, [], ◌∷◌, ◌++◌, map, filter, length, Option, Some, None, String, Global, string_bytes, is_some, refl, sym, ap, subst, ◌∙◌, arith}
use Rattle.std.specs.Map.{lookup, remove_entry}
use Rattle.std.specs.Option.{option_map}
use Rattle.std.specs.Str.{bytes_eq}
use Rattle.std.proofs.lemmas.Slice.Eq.{bytes_eq-Decides}
use Rattle.cy_trees.specs.TreeModels.{statement_of}
use Rattle.cy_engine_views.specs.declared.registered.Registered.{Registered}
use Rattle.cy_engine_views.specs.HeldViews.{Held, view_of}
use Rattle.cy_engine_views.specs.Upkeep.{AreNamed, IsNew, Registry, held}
use Rattle.cy_engine_views.specs.RegisteredViews.{View, view_among}
use Rattle.cy_engine_views.proofs.Going.{All}

pub same_name : (a b : List ℕ) → bytes_eq a b ≡ true → a ≡ b
same_name a b h = (bytes_eq-Decides a b).0 h

pub itself : (a : List ℕ) → bytes_eq a a ≡ true
itself a = (bytes_eq-Decides a a).1 refl

pub turned : (a b : List ℕ) → bytes_eq a b ≡ false → bytes_eq b a ≡ false
turned a b h =
    elim (bytes_eq b a) as (λ t. bytes_eq b a ≡ t → t ≡ false) [
      | true ↦ λ is. let wrong : true ≡ false = sym (itself a) ∙ ap (λ (c : List ℕ). bytes_eq a c) (sym (same_name b a is)) ∙ h in absurd (cc)
      | false ↦ λ is. refl
    ] refl

-- what is registered under a name
abbrev pub registered_at : List ℕ → Registry → Option Registered
registered_at name entries = lookup (λ k. bytes_eq name (string_bytes k)) entries

-- the views of a registry
abbrev pub views : Registry → List View
views entries = map view_of (map held entries)

-- the view under a name
abbrev pub named : List ℕ → Registered → View
named name r = record { name = name; query = statement_of r.rows.query; made = r.made; feed = r.feed.history }

module _ (name : List ℕ) where
  pub find_named : (es : Registry) → view_among name (views es) ≡ option_map (named name) (registered_at name es)
  find_named [] = refl
  find_named (e ∷ es) =
      elim (bytes_eq name (string_bytes e.0)) as (λ b. bytes_eq name (string_bytes e.0) ≡ b → cond b (Some (view_of (held e))) (view_among name (views es)) ≡ option_map (named name) (cond b (Some e.1) (registered_at name es))) [
        | true ↦ λ same. ap (λ n. let v : View = record { name = n; query = statement_of e.1.rows.query; made = e.1.made; feed = e.1.feed.history } in Some v) (sym (same_name name (string_bytes e.0) same))
        | false ↦ λ _. find_named es
      ] refl

  pub is_there : (es : Registry) → is_some (registered_at name es) ≡ is_some (view_among name (views es))
  is_there es = sym (mapped (registered_at name es)) ∙ sym (ap is_some (find_named es))
    where
      mapped : (o : Option Registered) → is_some (option_map (named name) o) ≡ is_some o
      mapped None = refl
      mapped (Some x) = refl

  pub view_there : (r : Registered) (es : Registry) → Some r ≡ registered_at name es → view_among name (views es) ≡ Some (named name r)
  view_there r es is = find_named es ∙ ap (option_map (named name)) (sym is)

  pub view_absent : (es : Registry) → is_some (registered_at name es) ≡ false → view_among name (views es) ≡ None
  view_absent es none = find_named es ∙ ap (option_map (named name)) (no_value (registered_at name es) none)
    where
      no_value : (o : Option Registered) → is_some o ≡ false → o ≡ None
      no_value None h = refl
      no_value (Some x) h = cc

  -- where no view has the name, nothing is registered under it
  pub not_registered : (es : Registry) → view_among name (views es) ≡ None → registered_at name es ≡ None
  not_registered es none = unmapped (registered_at name es) (sym (find_named es) ∙ none)
    where
      unmapped : (o : Option Registered) → option_map (named name) o ≡ None → o ≡ None
      unmapped None h = refl
      unmapped (Some x) h = cc

  -- what holds of all holds of what is registered
  pub holds_there : (P : Registered → Type 0) (r : Registered) (es : Registry) → All P es → Some r ≡ registered_at name es → P r
  holds_there P r [] all is = absurd (cc)
  holds_there P r (e ∷ es) all is =
      elim (bytes_eq name (string_bytes e.0)) as (λ b. Some r ≡ cond b (Some e.1) (registered_at name es) → P r) [
        | true ↦ λ here. subst P (sym (same_some r e.1 here)) all.0
        | false ↦ λ later. holds_there P r es all.1 later
      ] is
    where
      same_some : (a b : Registered) → (let o : Option Registered = Some a in o) ≡ Some b → a ≡ b
      same_some a b e = cc

-- ---- a view that stands after the others

pub held_last : (name : List ℕ) (entries : Registry) (key : String Global) (r : Registered) → string_bytes key ≡ name
    → map held (entries ++ (key, r) ∷ []) ≡ map held entries ++ (record (held (key, r)) { name = name }) ∷ []
held_last name [] key r is = ap (λ n. (record (held (key, r)) { name = n }) ∷ []) is
held_last name (e ∷ es) key r is = ap (λ hs. held e ∷ hs) (held_last name es key r is)

pub all_last : (P : Registered → Type 0) (entries : Registry) (e : String Global × Registered) → All P entries → P e.1 → All P (entries ++ e ∷ [])
all_last P [] e all one = (one, tt)
all_last P (f ∷ entries) e all one = (all.0, all_last P entries e all.1 one)

-- a view that is not found is new, after the others
pub new_last : (name : List ℕ) (v : View) (vs : List View) → v.name ≡ name → view_among name vs ≡ None → AreNamed vs → AreNamed (vs ++ v ∷ [])
new_last name v [] is none named = (tt, tt)
new_last name v (w ∷ vs) is none named =
    elim (bytes_eq name w.name) as (λ b. bytes_eq name w.name ≡ b → cond b (Some w) (view_among name vs) ≡ None → AreNamed (w ∷ vs ++ v ∷ [])) [
      | true ↦ λ h e. absurd (cc)
      | false ↦ λ h e. (one_more vs named.0 (turned_name h), new_last name v vs is e named.1)
    ] refl none
  where
    turned_name : bytes_eq name w.name ≡ false → bytes_eq v.name w.name ≡ false
    turned_name h = ap (λ (n : List ℕ). bytes_eq n w.name) is ∙ h

    one_more : (us : List View) → IsNew w.name us → bytes_eq v.name w.name ≡ false → IsNew w.name (us ++ v ∷ [])
    one_more [] new other = (other, tt)
    one_more (u ∷ us) new other = (new.0, one_more us new.1 other)

pub views_last : (hs : List Held) (h : Held) → map view_of (hs ++ h ∷ []) ≡ map view_of hs ++ view_of h ∷ []
views_last [] h = refl
views_last (g ∷ hs) h = ap (λ vs. view_of g ∷ vs) (views_last hs h)

-- ---- a view that is taken out

module _ (name : List ℕ) where
  abbrev pub others : List Held → List Held
  others hs = filter (λ h. not (bytes_eq name h.name)) hs

  abbrev pub kept : Registry → Registry
  kept entries = remove_entry (λ k. bytes_eq name (string_bytes k)) entries

  -- where no view has the name, all stay
  all_stay : (hs : List Held) → IsNew name (map view_of hs) → others hs ≡ hs
  all_stay [] new = refl
  all_stay (h ∷ hs) new = ap (λ b. cond (not b) (h ∷ others hs) (others hs)) (turned h.name name new.0) ∙ ap (λ hs. h ∷ hs) (all_stay hs new.1)

  pub held_kept : (entries : Registry) → AreNamed (views entries) → map held (kept entries) ≡ others (map held entries)
  held_kept [] named = refl
  held_kept (e ∷ entries) named =
      let h : Held = held e in
      elim (bytes_eq name (string_bytes e.0)) as (λ b. bytes_eq name (string_bytes e.0) ≡ b → map held (cond b entries (e ∷ kept entries)) ≡ cond (not b) (h ∷ others (map held entries)) (others (map held entries))) [
        | true ↦ λ same. sym (all_stay (map held entries) (of_name (sym (same_name name (string_bytes e.0) same))))
        | false ↦ λ other. ap (λ hs. h ∷ hs) (held_kept entries named.1)
      ] refl
    where
      of_name : string_bytes e.0 ≡ name → IsNew name (views entries)
      of_name is = subst (λ (n : List ℕ). IsNew n (views entries)) is named.0

  new_kept : (other : List ℕ) (hs : List Held) → IsNew other (map view_of hs) → IsNew other (map view_of (others hs))
  new_kept other [] new = tt
  new_kept other (h ∷ hs) new =
      elim (bytes_eq name h.name) as (λ b. IsNew other (map view_of (cond (not b) (h ∷ others hs) (others hs)))) [
        | true ↦ new_kept other hs new.1
        | false ↦ (new.0, new_kept other hs new.1)
      ]

  pub named_kept : (hs : List Held) → AreNamed (map view_of hs) → AreNamed (map view_of (others hs))
  named_kept [] named = tt
  named_kept (h ∷ hs) named =
      elim (bytes_eq name h.name) as (λ b. AreNamed (map view_of (cond (not b) (h ∷ others hs) (others hs)))) [
        | true ↦ named_kept hs named.1
        | false ↦ (new_kept h.name hs named.0, named_kept hs named.1)
      ]

  pub fewer : (hs : List Held) → length (others hs) ≤ length hs
  fewer [] = omega arith
  fewer (h ∷ hs) =
      elim (bytes_eq name h.name) as (λ b. length (cond (not b) (h ∷ others hs) (others hs)) ≤ length (h ∷ hs)) [
        | true ↦ omega (arith, fewer hs)
        | false ↦ omega (arith, fewer hs)
      ]

  pub all_kept : (P : Registered → Type 0) (entries : Registry) → All P entries → All P (kept entries)
  all_kept P [] all = tt
  all_kept P (e ∷ entries) all =
      elim (bytes_eq name (string_bytes e.0)) as (λ b. All P (cond b entries (e ∷ kept entries))) [
        | true ↦ all.1
        | false ↦ (all.0, all_kept P entries all.1)
      ]

  -- where nothing is registered under the name, all stay
  pub none_kept : (entries : Registry) → is_some (registered_at name entries) ≡ false → kept entries ≡ entries
  none_kept [] none = refl
  none_kept (e ∷ entries) none =
      elim (bytes_eq name (string_bytes e.0)) as (λ b. is_some (cond b (Some e.1) (registered_at name entries)) ≡ false → cond b entries (e ∷ kept entries) ≡ e ∷ entries) [
        | true ↦ λ some. absurd (cc)
        | false ↦ λ later. ap (λ (es : Registry). e ∷ es) (none_kept entries later)
      ] none
