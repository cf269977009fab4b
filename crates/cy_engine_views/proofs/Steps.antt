-- Steps of a change for all views, and what they leave.
use Rattle.std.proofs.Common.{◌≡◌, ◌<◌, ◌⊎◌, ℕ, true, false, zero, suc, [], ◌∷◌, map, Some, None, refl, subst, inl, inr, arith}
use Rattle.std.specs.Prelude.{slice_get}
use Rattle.std.specs.Map.{values_of}
use Rattle.cy_graph.specs.Graph.{Content, State}
use Rattle.cy_network.specs.Networks.{HasTooManyRows}
use Rattle.cy_engine_views.specs.declared.registered.Registered.{Registered}
use Rattle.cy_engine_views.specs.Upkeep.{IsPrepared, IsReady, IsUnconcerned, Registry, Rests, SomeHasTooManyRows, StandsFor, held, network_of, upkeep_of}
use Rattle.cy_engine_views.specs.internal.Loops.{CanRest, IsOne, IsPreparedAt}

-- what preparing makes of a view, where it isn't refused
pub record IsPreparedFrom (before after : State) (view next : Registered) : Type 0 where
  pub ready : (last tick : ℕ) → Rests view before.content last → last < tick → IsReady next before after tick
  pub one : IsOne view next

-- what it leaves where it is refused, or not
pub record IsHeldBack (before : Content) (view next : Registered) : Type 0 where
  pub back : (last : ℕ) → Rests view before last → CanRest next before last
  pub one : IsOne view next

pub prepared_back : (before after : State) (view next : Registered) → IsPreparedFrom before after view next → IsHeldBack before.content view next
prepared_back before after view next prepared = record {
  back = λ last rests. from last rests (prepared.ready last (suc last) rests (omega arith));
  one = prepared.one;
}
  where
    from : (last : ℕ) → Rests view before.content last → IsReady next before after (suc last) → CanRest next before.content last
    from last rests ready = record { rows = by ready.rows; in_time = omega (arith, ready.later) }
      where
        by : ((next.prepared ≡ true) × IsPrepared next.rows before after) ⊎ IsUnconcerned next before after
            → ((next.prepared ≡ false) × (next.change ≡ None) × StandsFor next.rows before.content) ⊎ ((next.prepared ≡ true) × IsPreparedAt before.content next.rows)
        by (inl (marked, prepared)) = inr (marked, record { before = before; after = after; from_graph = refl; prepared = prepared })
        by (inr idle) = inl (idle.unprepared, idle.idle, idle.stands)

pub rests_back : (before : Content) (last : ℕ) (view : Registered) → Rests view before last → CanRest view before last
rests_back before last view rests = record { rows = inl (rests.unprepared, rests.idle, rests.rows); in_time = rests.in_time }

-- what abandoning makes of a view
pub record IsAbandonedFrom (view next : Registered) : Type 0 where
  pub rests : (graph : Content) (last : ℕ) → CanRest view graph last → Rests next graph last
  pub one : IsOne view next

-- a view whose plan has too many rows is one of them
pub some_too_many : (graph : Content) (entries : Registry) (n : ℕ) (view : Registered) → Some view ≡ slice_get (values_of entries) n → HasTooManyRows graph (network_of view.rows).plan
    → SomeHasTooManyRows graph (map upkeep_of (map held entries))
some_too_many graph [] n view at many = absurd (cc)
some_too_many graph (e ∷ entries) zero view at many =
    let is : view ≡ e.1 = cc in
    inl (subst (λ (v : Registered). HasTooManyRows graph (network_of v.rows).plan) is many)
some_too_many graph (e ∷ entries) (suc n) view at many = inr (some_too_many graph entries n view at many)
