-- A change of a store that is left open, or rolled back.
use Rattle.std.proofs.Common.{◌≡◌, Option, Some, None, refl, sym, ap, subst, ◌∙◌}
use Rattle.std.specs.Prelude.{IfSome, IsNone}
use Rattle.cy_graph.specs.Graph.{State}
use Rattle.cy_index.specs.Index.{StoreState}

none_is : (o : Option State) → IsNone o → o ≡ None
none_is None none = refl
none_is (Some graph) none = cc

-- a change began, and this came of it
module _ (old begun after : StoreState) (begin : begun ≡ record old { graph = record old.graph { was = Some old.graph.now } }) (opened : after.graph.was ≡ begun.graph.was) (indexes : after.chosen ≡ begun.chosen) where
  was_is : after.graph.was ≡ Some old.graph.now
  was_is = opened ∙ ap (λ (s : StoreState). s.graph.was) begin

  chosen_is : after.chosen ≡ old.chosen
  chosen_is = indexes ∙ ap (λ (s : StoreState). s.chosen) begin

  pub left_open : after ≡ record old { graph = record { now = after.graph.now; was = Some old.graph.now } }
  left_open = λ i. record { graph = record { now = after.graph.now; was = was_is i }; chosen = chosen_is i }

-- it is rolled back
pub as_before : (old begun failed after : StoreState) → IsNone old.graph.was → begun ≡ record old { graph = record old.graph { was = Some old.graph.now } } → failed.graph.was ≡ begun.graph.was → failed.chosen ≡ begun.chosen
    → IfSome failed.graph.was (λ before. after ≡ record failed { graph = record { now = before; was = None } }) → after ≡ old
as_before old begun failed after none begin opened indexes back =
    let done : after ≡ record failed { graph = record { now = old.graph.now; was = None } } =
    subst (λ (o : Option State). IfSome o (λ before. after ≡ record failed { graph = record { now = before; was = None } })) (was_is old begun failed begin opened indexes) back in
    done ∙ (λ i. record { graph = record { now = old.graph.now; was = sym (none_is old.graph.was none) i }; chosen = chosen_is old begun failed begin opened indexes i })
