-- A view that is made stands after the others.
use Rattle.std.proofs.Common.{◌≡◌, ◌<◌, ◌≤◌, ℕ, List, [], ◌∷◌, ◌++◌, map, length, length-append, None, String, Global, string_bytes, refl, sym, ap, subst, ◌∙◌, arith}
use Rattle.cy_graph.specs.Graph.{Content}
use Rattle.cy_engine_views.specs.declared.registered.Registered.{Registered}
use Rattle.cy_engine_views.specs.declared.views.Views.{Views}
use Rattle.cy_engine_views.specs.HeldViews.{Held, view_of}
use Rattle.cy_engine_views.specs.Upkeep.{AreNamed, Registry, Rests, StandFor, held, held_in, views_in}
use Rattle.cy_engine_views.specs.RegisteredViews.{view_among, view_limit}
use Rattle.cy_engine_views.proofs.Going.{All}
use Rattle.cy_engine_views.proofs.Named.{all_last, held_last, new_last, views_last}

rests_later : (graph : Content) (tick made : ℕ) → tick ≤ made → (view : Registered) → Rests view graph tick → Rests view graph made
rests_later graph tick made le view rests = record { rows = rests.rows; unprepared = rests.unprepared; idle = rests.idle; in_time = omega (arith, le, rests.in_time) }

all_later : (graph : Content) (tick made : ℕ) → tick ≤ made → (entries : Registry) → All (λ view. Rests view graph tick) entries → All (λ view. Rests view graph made) entries
all_later graph tick made le [] rest = tt
all_later graph tick made le (e ∷ entries) rest = (rests_later graph tick made le e.1 rest.0, all_later graph tick made le entries rest.1)

-- the views with one more, under a name that none of them has
module _ (old new : Views) (name : List ℕ) (key : String Global) (r : Registered) (is : string_bytes key ≡ name) (added : new.registered.entries ≡ old.registered.entries ++ (key, r) ∷ []) where
  pub held_made : held_in new ≡ held_in old ++ (record (held (key, r)) { name = name }) ∷ []
  held_made = ap (map held) added ∙ held_last name old.registered.entries key r is

  pub stand_made : (graph : Content) (tick made : ℕ) → tick ≤ made → view_among name (views_in old) ≡ None → length (held_in old) < view_limit → StandFor old graph tick → Rests r graph made → StandFor new graph made
  stand_made graph tick made le free few stand rests =
      let one : Held = record (held (key, r)) { name = name } in
      record {
        rest = subst (All (λ view. Rests view graph made)) (sym added) (all_last (λ view. Rests view graph made) old.registered.entries (key, r) (all_later graph tick made le old.registered.entries stand.rest) rests);
        named = subst AreNamed (sym (ap (map view_of) held_made ∙ views_last (held_in old) one)) (new_last name (view_of one) (views_in old) refl free stand.named);
        few = omega (arith, few, ap length held_made, length-append (held_in old) (one ∷ []));
      }

-- where the views are held as before, so are their names and their number
pub named_alike : (old new : Views) → held_in new ≡ held_in old → AreNamed (views_in old) → AreNamed (views_in new)
named_alike old new held named = subst (λ (hs : List Held). AreNamed (map view_of hs)) (sym held) named

pub few_alike : (old new : Views) → held_in new ≡ held_in old → length (held_in old) ≤ view_limit → length (held_in new) ≤ view_limit
few_alike old new held few = subst (λ (hs : List Held). length hs ≤ view_limit) (sym held) few
