use Rattle.std.proofs.Common.{◌≡◌, ℕ, ◌==◌, true, List, [], ◌∷◌, length, refl, ap, sym, subst, ◌∙◌, arith}
use Rattle.std.proofs.lemmas.Bool.Decides.{nat_tests}
use Rattle.cy_values.specs.Bag.{IsCanonical, weight_of}
use Rattle.cy_network_memory.specs.declared.memory.RowDelta.{RowDelta}
use Rattle.cy_network_operators.specs.Deltas.{IsDelta, counts}
use Rattle.cy_network_parts.specs.Counted.{written}
use Rattle.cy_network.proofs.Excess.{gains_weight, losses_weight}
use Rattle.cy_network.proofs.Held.{written_delta}
use Rattle.cy_network.proofs.pending.prepared.Goals as goal

no_deltas : (deltas : List RowDelta) (long : ℕ) → long ≡ length deltas → true ≡ (long == 0) → deltas ≡ []
no_deltas [] long is none = refl
no_deltas (s ∷ deltas) long is none = absurd (let zero_is : long ≡ 0 = grind (arith, nat_tests, none) in omega (arith, zero_is, is))

pub pending_change-requires : goal.pending_change-requires
pending_change-requires c =
    (c.requires.0, (c.requires.1.0, subst (IsDelta (counts c.requires.0) (counts c.requires.1.0)) (sym c.deref.ensures.value) c.requires.1.1))

pub returns-then-is_empty-clause-leaves : goal.returns-then-is_empty-clause-leaves
returns-then-is_empty-clause-leaves c = λ before after delta.
    let none = no_deltas c.args.deltas.items _ c.args.deltas.ok.0 c.if-is_empty.ensures in
    ap (λ xs. written xs (counts before)) c.new.ensures.items ∙ written_delta [] (counts before) (counts after) (subst (IsDelta (counts before) (counts after)) none delta)

pub returns-then-is_empty-clause-difference : goal.returns-then-is_empty-clause-difference
returns-then-is_empty-clause-difference c = λ before after delta.
    let none = no_deltas c.args.deltas.items _ c.args.deltas.ok.0 c.if-is_empty.ensures in
    let same = subst (IsDelta (counts before) (counts after)) none delta in
    record {
      removed = record {
        counts = λ row. ap (weight_of row) c.nothing.ensures.removed ∙ losses_weight (counts before) (counts after) [] same row;
        canonical = subst IsCanonical (sym c.nothing.ensures.removed) tt;
      };
      added = record {
        counts = λ row. ap (weight_of row) c.nothing.ensures.added ∙ gains_weight (counts before) (counts after) [] same row;
        canonical = subst IsCanonical (sym c.nothing.ensures.added) tt;
      };
    }

pub returns-clause-leaves : goal.returns-clause-leaves
returns-clause-leaves c = λ before after delta. ap (λ xs. written xs (counts before)) c.in_ok-next.ensures ∙ written_delta c.args.deltas.items (counts before) (counts after) delta

pub returns-clause-difference : goal.returns-clause-difference
returns-clause-difference c = λ before after delta. c.in_ok-change.ensures before after (subst (IsDelta (counts before) (counts after)) (sym c.deref.ensures.value) delta)
