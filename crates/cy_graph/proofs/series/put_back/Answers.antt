use Rattle.std.proofs.Common.{◌≡◌, ℕ, ◌<◌, eqb, List, length, ◌++◌, ◌∷◌, [], Option, Some, refl, sym, ap, subst, ◌∙◌, arith}
use Rattle.std.specs.Map.{set_value}
use Rattle.cy_graph.specs.Graph.{number_end}
use Rattle.cy_graph.specs.internal.Slots.{RiseFrom, restored}
use Rattle.cy_graph.proofs.Slots.{restored_last, restored_absent, restored_nothing, set_value_rises}
use Rattle.cy_graph.proofs.series.put_back.Goals as goal

-- one value less is kept, and stands in its slot
put : {V : Type 0} (number : ℕ) (value : V) (all kept : List (ℕ × V)) (slots after whole : List (ℕ × Option V))
    → all ≡ kept ++ (number, value) ∷ [] → after ≡ set_value (eqb number) slots (Some value) → restored all slots ≡ whole → RiseFrom 1 number_end slots
    → record { same : restored kept after ≡ whole; rising : RiseFrom 1 number_end after }
put number value all kept slots after whole popped written same up = record {
  same = ap (restored kept) written ∙ sym (restored_last number value kept 1 number_end slots up) ∙ sym (ap (λ es. restored es slots) popped) ∙ same;
  rising = subst (RiseFrom 1 number_end) (sym written) (set_value_rises (eqb number) 1 number_end slots (Some value) up);
}

pub loop-number-preserved-in-Some-get_mut : goal.loop-number-preserved-in-Some-get_mut
loop-number-preserved-in-Some-get_mut g c =
    put c.in-Some.number c.in-Some.value _ _ _ _ _ c.in-Some.ensures.entries (c.get_mut.follows.holds (Some c.in-Some.value)).0 c.loop-number.invariant.same c.loop-number.invariant.rising

pub loop-number-preserved-in-Some-get_mut-2 : goal.loop-number-preserved-in-Some-get_mut-2
loop-number-preserved-in-Some-get_mut-2 g c =
    put c.in-Some.number c.in-Some.value _ _ _ _ _ c.in-Some.ensures.entries (c.get_mut.follows.holds (Some c.in-Some.value)).0 c.loop-number.invariant.same c.loop-number.invariant.rising

-- one value less is kept, whose slot is gone
pub loop-number-preserved : goal.loop-number-preserved
loop-number-preserved g c =
    let number = c.in-Some.number in
    let kept = c.pop.new.self.entries in
    let slots = c.loop-number.slots.entries in
    let stays = ap (λ m. m.entries) c.get_mut.follows.holds-at-none in
    let gone = restored_absent number c.in-Some.value kept slots (sym c.in_default-get_mut.ensures.value) in
    record {
      same = ap (restored kept) stays ∙ sym gone ∙ sym (ap (λ all. restored all slots) c.in-Some.ensures.entries) ∙ c.loop-number.invariant.same;
      rising = subst (RiseFrom 1 number_end) (sym stays) c.loop-number.invariant.rising;
    }

emptied : {X : Type 0} (es : List X) → (0 < length es → ⊥) → es ≡ []
emptied [] none = refl
emptied (e ∷ es) none = absurd (none (omega arith))

-- nothing is left to put back
pub returns : goal.returns
returns g c =
    let nothing = emptied c.loop-number.before.entries (λ more. let found = c.in_default.ensures.found.1 more in cc) in
    sym (restored_nothing c.loop-number.slots.entries) ∙ sym (ap (λ kept. restored kept c.loop-number.slots.entries) nothing) ∙ c.loop-number.invariant.same
