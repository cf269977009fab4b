-- The properties that the entries of a map make, entry by entry.
use Rattle.std.proofs.Common.{◌≡◌, List, ◌∷◌, refl, sym, ap, ◌∙◌, inl, inr}
use Rattle.std.specs.Prelude.{◌⊎◌, Result, Ok, Err}
use Rattle.cy_values.specs.declared.scalars.Value.{Value}
use Rattle.cy_values.specs.declared.rows.Cell.{Cell}
use Rattle.cy_trees.specs.Trees.{Name, MapEntry}
use Rattle.cy_graph.specs.Graph.{State}
use Rattle.cy_expr.specs.declared.faults.EvalFault.{EvalFault}
use Rattle.cy_expr.specs.declared.faults.EvalFault.TheVariants as eval
use Rattle.cy_updates_meaning.specs.declared.faults.UpdateFault.{UpdateFault}
use Rattle.cy_updates_meaning.specs.declared.faults.UpdateFault.TheVariants.{NoMemory}
use Rattle.cy_updates_meaning.specs.Faults.{◌>>=◌, evaluated, of_evaluation}
use Rattle.cy_updates_meaning.specs.Values.{entry_values, set_all, with_entry, settable, value_on}

-- what an expression gives, as a part of a statement
pub value_is : (meant : Result Value EvalFault) (v : Value) → (Ok v ≡ meant) ⊎ (Ok v ≡ Err eval.NoMemory) → evaluated meant ≡ Ok v
value_is meant v (inl is) = ap evaluated (sym is)
value_is meant v (inr wants) = cc

pub fault_is : (meant : Result Value EvalFault) (fault : EvalFault) → (Err fault ≡ meant) ⊎ (◌≡◌ {A = Result Value EvalFault} (Err fault) (Err eval.NoMemory)) → (of_evaluation fault ≡ NoMemory) ⊎ (evaluated meant ≡ Err (of_evaluation fault))
fault_is meant fault (inl is) = inr (ap evaluated (sym is))
fault_is meant fault (inr wants) = inl (let e : fault ≡ eval.NoMemory = cc in ap of_evaluation e)

module _ (graph : State) (row : List Cell) where
  -- what the entries make of these properties
  abbrev pub set_from : List (Name × Value) → List MapEntry → Result (List (Name × Value)) UpdateFault
  set_from props entries = entry_values graph row entries >>= λ values. Ok (set_all props values)

  module _ (e : MapEntry) (entries items : List MapEntry) (are : items ≡ e ∷ entries) (props : List (Name × Value)) (all : Result (List (Name × Value)) UpdateFault) (leads : set_from props items ≡ all) where
    abbrev others : Value → Result (List (Name × Value)) UpdateFault
    others w = entry_values graph row entries >>= λ values. Ok ((e.key, w) ∷ values)

    first : set_from props (e ∷ entries) ≡ all
    first = ap (set_from props) (sym are) ∙ leads

    -- its value faults
    pub entry_stops : (why : UpdateFault) → value_on graph row e.value ≡ Err why → all ≡ Err why
    entry_stops why stops = sym first ∙ ap (λ r. (r >>= λ v. settable v >>= others) >>= λ values. Ok (set_all props values)) stops

    module _ (v : Value) (is : value_on graph row e.value ≡ Ok v) where
      with_value : set_from props (e ∷ entries) ≡ ((settable v >>= others) >>= λ values. Ok (set_all props values))
      with_value = ap (λ r. (r >>= λ v. settable v >>= others) >>= λ values. Ok (set_all props values)) is

      by : (r : Result (List (Name × Value)) UpdateFault) → ((r >>= λ values. Ok ((e.key, v) ∷ values)) >>= λ values. Ok (set_all props values)) ≡ (r >>= λ values. Ok (set_all (with_entry e.key v props) values))
      by (Ok values) = refl
      by (Err why) = refl

      -- it is set
      pub entry_next : settable v ≡ Ok v → set_from (with_entry e.key v props) entries ≡ all
      entry_next stored = sym (with_value ∙ ap (λ r. (r >>= others) >>= λ values. Ok (set_all props values)) stored ∙ by (entry_values graph row entries)) ∙ first
