-- What an open change does to the tick and the views.
use Rattle.std.proofs.Common.{◌≡◌, ◌≢◌, ◌==◌, ℕ, Bool, true, false, List, [], ◌∷◌, map, length, vec_len, Vec, Global, Option, None, Some, Ok, refl, sym, ap, subst, ◌∙◌, inl, inr}
use Rattle.std.specs.Prelude.{IsSome, IfSome}
use Rattle.std.proofs.lemmas.Bool.{eqb-true}
use Rattle.std.proofs.lemmas.List.{nil_from_length}
use Rattle.cy_graph.specs.Graph.{State, Versions, IsGraph}
use Rattle.cy_graph.specs.Touched.{BeforeImage, before_image, AreTouched}
use Rattle.cy_graph.specs.declared.touched.Touched.{Touched}
use Rattle.cy_network_sources.specs.Changes.{before_change}
use Rattle.cy_engine_views.specs.declared.faults.UpkeepFault.{UpkeepFault}
use Rattle.cy_engine_views.specs.declared.faults.UpkeepFault.TheVariants as upkeep
use Rattle.cy_engine_views.specs.Upkeep.{CannotFollow, Upkeep}
use Rattle.cy_engine_lines.specs.Faults.{of_upkeep}
use Rattle.cy_engine_lines.specs.Verdicts.{next_tick, same_content, tick_after}
use Rattle.cy_engine_lines.specs.internal.Stages.{HasNoEffect}
use Rattle.cy_engine_lines.proofs.Contents.{content_decides, tick_moves}
use Rattle.cy_engine_lines.proofs.TouchedContents.{nothing_touched, touched_differs}

-- what holds of the graph before the open change
on_before : (P : State → Type 0) (graph : Versions) → IsSome graph.was → IfSome graph.was P → P (before_change graph)
on_before P graph is_open holds = from graph.was is_open holds
  where
    from : (o : Option State) → IsSome o → IfSome o P → P (before_change (record { now = graph.now; was = o }))
    from None is_open holds = cc
    from (Some before) is_open holds = holds

pub graph_before : (graph : Versions) → IsSome graph.was → IfSome graph.was (λ before. IsGraph before) → IsGraph (before_change graph)
graph_before graph is_open holds = on_before IsGraph graph is_open holds

-- what it touched
pub touched_before : (graph : Versions) (list : Vec Touched Global) → IsSome graph.was → IfSome graph.was (λ before. AreTouched before graph.now (map before_image list.items))
    → AreTouched (before_change graph) graph.now (map before_image list.items)
touched_before graph list is_open holds = on_before (λ before. AreTouched before graph.now (map before_image list.items)) graph is_open holds

module _ (now before : State) (list : Vec Touched Global) (touched : AreTouched before now (map before_image list.items)) where
  -- nothing is in the list
  no_items : (vec_len list == 0) ≡ true → list.items ≡ []
  no_items is = nil_from_length list.items (sym list.ok.0 ∙ eqb-true _ _ is)

  pub same : (vec_len list == 0) ≡ true → IsGraph now → IsGraph before → same_content before.content now.content ≡ true
  same is graph_now graph_before =
      (content_decides before.content now.content).1
      (sym (nothing_touched before now (subst (λ (es : List BeforeImage). AreTouched before now es) (ap (map before_image) (no_items is)) touched) graph_before graph_now))

  other : (vec_len list == 0) ≡ false → now.content ≢ before.content
  other is = touched_differs before now (map before_image list.items) touched (λ none. some list.items list.ok.0 none is)
    where
      some : (items : List Touched) → vec_len list ≡ length items → map before_image items ≡ [] → (vec_len list == 0) ≡ false → ⊥
      some [] len none is = let wrong : true ≡ false = ap (λ n. n == 0) (sym len) ∙ is in cc
      some (t ∷ ts) len none is = cc

  pub differs : (vec_len list == 0) ≡ false → same_content before.content now.content ≡ false
  differs is = from (same_content before.content now.content) refl
    where
      from : (b : Bool) → same_content before.content now.content ≡ b → same_content before.content now.content ≡ false
      from true alike = absurd (other is (sym ((content_decides before.content now.content).0 alike)))
      from false alike = alike

  -- so the tick is to rise
  pub moves_on : (vec_len list == 0) ≡ false → (tick : ℕ) → tick_after before.content now.content tick ≡ next_tick tick
  moves_on is tick = tick_moves before.content now.content tick (other is)

-- views that can't follow refuse the change
pub cannot_follow : (kept : List Upkeep) (before after : State) (tick next : ℕ) (why : UpkeepFault) → tick_after before.content after.content tick ≡ Ok next → CannotFollow kept after.content why
    → HasNoEffect kept before after tick (of_upkeep why)
cannot_follow kept before after tick next upkeep.PlanTooLarge rises cannot = absurd cannot
cannot_follow kept before after tick next upkeep.TooManyRows rises cannot = inr (inr (refl, (next, rises, cannot)))
cannot_follow kept before after tick next upkeep.NoMemory rises cannot = inl refl
