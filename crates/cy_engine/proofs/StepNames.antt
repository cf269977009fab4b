-- Views keep names of their own, step by step.
use Rattle.std.proofs.Common.{◌≡◌, ℕ, true, false, cond, not, List, [], ◌∷◌, map, Option, None, Some, refl, sym, ap, subst, ◌∙◌, inl, inr}
use Rattle.std.specs.Option.{option_map_or}
use Rattle.std.specs.Str.{bytes_eq}
use Rattle.cy_bags.specs.declared.changes.Entry.{Entry}
use Rattle.cy_feeds.specs.Feeds.{pushed}
use Rattle.cy_engine_lines.specs.State.{EngineState}
use Rattle.cy_engine_views.specs.RegisteredViews.{Entries, View, entry_at, fed, without}
use Rattle.cy_engine_lines.specs.EngineStep.{Answer}
use Rattle.cy_engine_views.specs.Upkeep.{AreNamed, IsNew}
use Rattle.cy_engine_lines.proofs.Effects.{Effects}
use Rattle.cy_engine_views.proofs.Named.{new_last}

-- a view that is taken out
pub new_without : (name other : List ℕ) (views : List View) → IsNew other views → IsNew other (without name views)
new_without name other [] new = tt
new_without name other (v ∷ views) new =
    elim (bytes_eq name v.name) as (λ b. IsNew other (cond (not b) (v ∷ without name views) (without name views))) [
      | true ↦ new_without name other views new.1
      | false ↦ (new.0, new_without name other views new.1)
    ]

pub named_without : (name : List ℕ) (views : List View) → AreNamed views → AreNamed (without name views)
named_without name [] named = tt
named_without name (v ∷ views) named =
    elim (bytes_eq name v.name) as (λ b. AreNamed (cond (not b) (v ∷ without name views) (without name views))) [
      | true ↦ named_without name views named.1
      | false ↦ (new_without name v.name views named.0, named_without name views named.1)
    ]

-- a view that is fed is the same but for its feed
module _ (entries : Entries) (view : View) where
  from_entry : {A : Type 0} (part : View → A) → ((e : Entry) → part (record view { feed = pushed e view.feed }) ≡ part view) → (o : Option Entry) → part (option_map_or (λ e. record view { feed = pushed e view.feed }) o view) ≡ part view
  from_entry part same None = refl
  from_entry part same (Some e) = same e

  pub fed_name : (fed entries view).name ≡ view.name
  fed_name = from_entry (λ (v : View). v.name) (λ e. refl) (entry_at view.name entries)

  pub fed_query : (fed entries view).query ≡ view.query
  fed_query = from_entry (λ (v : View). v.query) (λ e. refl) (entry_at view.name entries)

new_fed : (entries : Entries) (name : List ℕ) (views : List View) → IsNew name views → IsNew name (map (fed entries) views)
new_fed entries name [] new = tt
new_fed entries name (v ∷ views) new = (ap (λ n. bytes_eq n name) (fed_name entries v) ∙ new.0, new_fed entries name views new.1)

pub named_fed : (entries : Entries) (views : List View) → AreNamed views → AreNamed (map (fed entries) views)
named_fed entries [] named = tt
named_fed entries (v ∷ views) named =
    (subst (λ (n : List ℕ). IsNew n (map (fed entries) views)) (sym (fed_name entries v)) (new_fed entries v.name views named.0), named_fed entries views named.1)

module _ (old : EngineState) (answer : Answer) (entries : Entries) (new : EngineState) where
  pub effects_named : Effects old answer entries new → AreNamed old.views → AreNamed new.views
  effects_named (inl (left, none)) named = subst (λ (s : EngineState). AreNamed s.views) (sym left) named
  effects_named (inr (inl (executed, timed, a))) named = subst (λ (s : EngineState). AreNamed s.views) (sym a.state) (named_fed entries old.views named)
  effects_named (inr (inr (inl (view, fresh, a)))) named = subst (λ (s : EngineState). AreNamed s.views) (sym a.state) (new_last view.name view old.views refl fresh.free named)
  effects_named (inr (inr (inr (inl (view, at, a))))) named = subst (λ (s : EngineState). AreNamed s.views) (sym a.state) (named_without view.name old.views named)
  effects_named (inr (inr (inr (inr (pair, a))))) named = subst (λ (s : EngineState). AreNamed s.views) (sym a.state) named
