-- A view is taken out.
use Rattle.std.proofs.Common.{◌≡◌, ℕ, Bool, true, false, cond, not, List, [], ◌∷◌, map, filter, Option, Some, None, Ok, Err, is_some, refl, ap, ◌∙◌, inr}
use Rattle.std.specs.Str.{bytes_eq}
use Rattle.cy_index.specs.Index.{StoreState}
use Rattle.cy_engine_views.specs.declared.views.Views.{Views}
use Rattle.cy_engine_views.specs.HeldViews.{view_of}
use Rattle.cy_engine_views.specs.Upkeep.{held_in, upkeep_of, views_in}
use Rattle.cy_engine_views.specs.RegisteredViews.{Entries, View, view_among, without}
use Rattle.cy_engine_lines.specs.Fields.{machine_of}
use Rattle.cy_engine_lines.specs.internal.Stages.{AnswersKept}
use Rattle.cy_engine_lines.specs.EngineStep.{Answer, Drops, IsDropped}
use Rattle.cy_engine_lines.specs.KeptStep.{KeptState, kept_state_of}
use Rattle.cy_engine_lines.specs.Requests.{DropOf}
use Rattle.cy_engine_lines.specs.Verdicts.{there}
use Rattle.cy_engine_lines.specs.declared.faults.Fault.TheVariants as fault
use Rattle.cy_engine_lines.specs.declared.replies.Reply.TheVariants as reply
use Rattle.cy_engine_lines.proofs.Effects.{name_of}
use Rattle.cy_engine_lines.proofs.Refusals.{is_against}
use Rattle.cy_engine_lines.proofs.Steps.{held_alike}

-- a filter goes on where what it tests is seen
filtered : {A B : Type 0} (f : A → B) (p : B → Bool) (xs : List A) → map f (filter (λ x. p (f x)) xs) ≡ filter p (map f xs)
filtered f p [] = refl
filtered f p (x ∷ xs) =
    elim (p (f x)) as (λ b. map f (cond b (x ∷ filter (λ y. p (f y)) xs) (filter (λ y. p (f y)) xs)) ≡ cond b (f x ∷ filter p (map f xs)) (filter p (map f xs))) [
      | true ↦ ap (λ ys. f x ∷ ys) (filtered f p xs)
      | false ↦ filtered f p xs
    ]

-- what is answered to `:drop`
module _ (line name : List ℕ) (store : StoreState) (views left : Views) (tick history : ℕ) (last : Entries) where
  abbrev with_views : Views → KeptState
  with_views vs = kept_state_of (machine_of store vs tick history last)

  abbrev DropsIt : Answer → Type 0
  DropsIt answer = AnswersKept line (DropOf name) (with_views views) answer [] (with_views left)

  pub not_there : is_some (view_among name (views_in views)) ≡ false → held_in left ≡ held_in views → DropsIt (Err fault.NoSuchView)
  not_there missing same =
      let alike : with_views left ≡ with_views views = held_alike store views left tick history last last same in
      is_against line (DropOf name) (with_views views) [] (with_views left) refl alike fault.NoSuchView (λ is. cc) (from (view_among name (views_in views)) missing alike)
    where
      from : (o : Option View) → is_some o ≡ false → with_views left ≡ with_views views → Drops (there fault.NoSuchView o) (with_views views).engine (Err fault.NoSuchView) [] (with_views left).engine
      from (Some v) missing alike = cc
      from None missing alike = record { answered = refl; no_entries = refl; state = ap (λ (s : KeptState). s.engine) alike }

  pub dropped : is_some (view_among name (views_in views)) ≡ true → held_in left ≡ filter (λ h. not (bytes_eq name h.name)) (held_in views) → DropsIt (Ok (reply.Dropped name))
  dropped present gone = record {
    answers = inr (inr (from (view_among name (views_in views)) refl present));
    upkeep = ap (map upkeep_of) gone ∙ filtered upkeep_of (λ u. not (bytes_eq name u.name)) (held_in views);
  }
    where
      is_dropped : (v : View) → name ≡ v.name → IsDropped v (with_views views).engine (Ok (reply.Dropped name)) [] (with_views left).engine
      is_dropped v is = record {
        answered = ap (λ (n : List ℕ). let a : Answer = Ok (reply.Dropped n) in a) is;
        no_entries = refl;
        state = λ i. record {
          graph = store.graph.now;
          indexes = store.chosen;
          views = (ap (map view_of) gone ∙ filtered view_of (λ v. not (bytes_eq name v.name)) (held_in views) ∙ ap (λ (n : List ℕ). without n (views_in views)) is) i;
          tick = tick;
          history = history;
        };
      }

      from : (o : Option View) → view_among name (views_in views) ≡ o → is_some o ≡ true → Drops (there fault.NoSuchView o) (with_views views).engine (Ok (reply.Dropped name)) [] (with_views left).engine
      from None at present = cc
      from (Some v) at present = is_dropped v (name_of name (views_in views) v at)
