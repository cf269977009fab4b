-- What SET does item by item.
use Rattle.std.proofs.Common.{◌≡◌, List, Option, Some, sym, ap, ◌∙◌, inl}
use Rattle.std.specs.Prelude.{Result, Ok, Err, IfErr, OnOk}
use Rattle.cy_values.specs.declared.numbers.Entity.{Entity}
use Rattle.cy_values.specs.declared.scalars.Value.{Value}
use Rattle.cy_values.specs.declared.rows.Cell.{Cell}
use Rattle.cy_trees.specs.declared.expressions.Variable.{Variable}
use Rattle.cy_trees.specs.Trees.{Name, Expression, set_property}
use Rattle.cy_graph.specs.Graph.{State, with_prop}
use Rattle.cy_updates_meaning.specs.declared.faults.UpdateFault.{UpdateFault}
use Rattle.cy_updates_meaning.specs.declared.faults.UpdateFault.TheVariants.{NoMemory}
use Rattle.cy_updates_meaning.specs.Faults.{◌>>=◌}
use Rattle.cy_updates_meaning.specs.Setting.{set_item, with_property}
use Rattle.cy_updates_meaning.specs.Values.{named_by, settable, unless_null, value_on}
use Rattle.cy_updates_meaning.specs.internal.Answers.{IsAnswer}

-- ---- a property

module _ (named : Option Entity) (x : Entity) (is : Some x ≡ named) (key : Name) (v : Value) (now : State) where
  pub property_refused : (why : UpdateFault) → settable v ≡ Err why → with_property named key v now ≡ Err why
  property_refused why stops = ap (λ o. with_property o key v now) (sym is) ∙ ap (λ r. r >>= λ w. Ok (with_prop x key (unless_null w) now)) stops

  pub property_put : settable v ≡ Ok v → (kept : Option Value) → kept ≡ unless_null v → with_property named key v now ≡ Ok (with_prop x key kept now)
  property_put stored kept kept_is =
      ap (λ o. with_property o key v now) (sym is) ∙ ap (λ r. r >>= λ w. Ok (with_prop x key (unless_null w) now)) stored ∙ (λ i. Ok (with_prop x key (sym kept_is i) now))

-- ---- items

pub property_item : (row : List Cell) (variable : Variable) (key : Name) (e : Expression) (graph : State) (value : Value) → value_on graph row e ≡ Ok value
    → set_item row (set_property variable key e) graph ≡ with_property (named_by variable row) key value graph
property_item row variable key e graph value is = ap (λ r. r >>= λ v. with_property (named_by variable row) key v graph) is

pub property_item_stops : (row : List Cell) (variable : Variable) (key : Name) (e : Expression) (graph : State) (why : UpdateFault) → value_on graph row e ≡ Err why
    → set_item row (set_property variable key e) graph ≡ Err why
property_item_stops row variable key e graph why stops = ap (λ r. r >>= λ v. with_property (named_by variable row) key v graph) stops

-- what only wants memory answers what it has made
pub changed_answer : {A : Type 0} (r : Result A UpdateFault) (now meant : State) → OnOk r (now ≡ meant) → IfErr r (λ why. why ≡ NoMemory) → IsAnswer r (λ x. now) (Ok meant)
changed_answer (Ok x) now meant is memory = ap Ok (sym is)
changed_answer (Err why) now meant is memory = inl memory
