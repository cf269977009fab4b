-- A view that is taken out leaves the others.
use Rattle.std.proofs.Common.{◌≡◌, ℕ, List, map, length, is_some, false, sym, ap, subst, ◌∙◌, arith}
use Rattle.cy_graph.specs.Graph.{Content}
use Rattle.cy_engine_views.specs.declared.views.Views.{Views}
use Rattle.cy_engine_views.specs.HeldViews.{Held, view_of}
use Rattle.cy_engine_views.specs.Upkeep.{AreNamed, IsGoneFrom, Rests, StandFor, held, held_in}
use Rattle.cy_engine_views.proofs.Going.{All}
use Rattle.cy_engine_views.proofs.Named.{all_kept, fewer, held_kept, kept, named_kept, none_kept, registered_at}

module _ (old new : Views) (name : List ℕ) (left : new.registered.entries ≡ kept name old.registered.entries) where
  pub held_gone : AreNamed (map view_of (held_in old)) → IsGoneFrom name old new
  held_gone named = record { held = ap (map held) left ∙ held_kept name old.registered.entries named }

  pub stand_gone : (graph : Content) (tick : ℕ) → StandFor old graph tick → StandFor new graph tick
  stand_gone graph tick stand =
      let gone = (held_gone stand.named).held in
      record {
        rest = subst (All (λ view. Rests view graph tick)) (sym left) (all_kept name (λ view. Rests view graph tick) old.registered.entries stand.rest);
        named = subst (λ (hs : List Held). AreNamed (map view_of hs)) (sym gone) (named_kept name (held_in old) stand.named);
        few = omega (arith, ap length gone, fewer name (held_in old), stand.few);
      }

  pub none_gone : is_some (registered_at name old.registered.entries) ≡ false → held_in new ≡ held_in old
  none_gone none = ap (map held) (left ∙ none_kept name old.registered.entries none)
