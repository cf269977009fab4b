-- What CREATE and SET store can be stored, and keeps its form.
use Rattle.std.proofs.Common.{◌≡◌, true, false, cond, not, ◌||◌, List, [], ◌∷◌, Option, Some, None, IsTrue, refl}
use Rattle.std.specs.Prelude.{⊤, fold, Result, Ok, Err, IfOk, IfSome}
use Rattle.std.specs.List.{AllByRecursion}
use Rattle.std.specs.Ordering.{eq_by_cmp}
use Rattle.std.specs.declared.cmp.Ordering.TheVariants.{Less, Equal, Greater}
use Rattle.std.specs.FinMap.Entries.{by_order}
use Rattle.std.proofs.lemmas.Bool.{and_parts, and_from}
use Rattle.cy_values.specs.declared.scalars.Value.{Value}
use Rattle.cy_values.specs.declared.scalars.Value.TheVariants as value
use Rattle.cy_values.specs.declared.rows.Cell.{Cell}
use Rattle.cy_values.specs.Compare.{is_null}
use Rattle.cy_trees.specs.Trees.{Name, MapEntry}
use Rattle.cy_graph.specs.Graph.{State, set_or_removed}
use Rattle.cy_graph.specs.Maps.{rises, text_order, with_value, without}
use Rattle.cy_graph.specs.Stored.{is_storable, IsStorable}
use Rattle.cy_graph.proofs.Places.{rises-with_value, rises-without}
use Rattle.cy_oneshot_patterns.specs.Places.{entries_if}
use Rattle.cy_updates_meaning.specs.declared.faults.UpdateFault.{UpdateFault}
use Rattle.cy_updates_meaning.specs.declared.faults.UpdateFault.TheVariants.{NotStorable}
use Rattle.cy_updates_meaning.specs.Faults.{◌>>=◌}
use Rattle.cy_updates_meaning.specs.Values.{entry_values, label_set, map_properties, set_all, with_entry, settable, unless_null, value_on}

-- what follows an outcome that has a value
pub and_then : {A B F : Type 0} (P : A → Type 0) (Q : B → Type 0) (f : A → Result B F) → ((x : A) → P x → IfOk (f x) Q) → (r : Result A F) → IfOk r P → IfOk (r >>= f) Q
and_then P Q f step (Ok x) here = step x here
and_then P Q f step (Err fault) here = tt

-- whatever the value is
pub and_any : {A B F : Type 0} (Q : B → Type 0) (f : A → Result B F) → ((x : A) → IfOk (f x) Q) → (r : Result A F) → IfOk (r >>= f) Q
and_any Q f step (Ok x) = step x
and_any Q f step (Err fault) = tt

pub if_ok_weaker : {A F : Type 0} (P Q : A → Type 0) → ((x : A) → P x → Q x) → (r : Result A F) → IfOk r P → IfOk r Q
if_ok_weaker P Q step (Ok x) here = step x here
if_ok_weaker P Q step (Err fault) here = tt

-- null, or what can be stored
abbrev pub IsSettable : Value → Type 0
IsSettable v = (is_null v || is_storable v) ≡ true

abbrev AreSettable : List (Name × Value) → Type 0
AreSettable = AllByRecursion (λ (e : Name × Value). IsSettable e.1)

pub settable_is : (v : Value) → IfOk (settable v) IsSettable
settable_is v =
    elim (is_null v || is_storable v) as (λ b. (is_null v || is_storable v) ≡ b → IfOk {E = UpdateFault} (cond b (Ok v) (Err NotStorable)) IsSettable) [
      | true ↦ λ h. h
      | false ↦ λ h. tt
    ] refl

-- so it can be stored where it isn't null
pub storable_if : (v : Value) → IsSettable v → IfSome (unless_null v) (λ w. IsTrue (is_storable w))
storable_if value.Null is = tt
storable_if _ is = is

-- ---- properties

storable_with : (key : Name) (v : Value) (props : List (Name × Value)) → is_storable v ≡ true → IsStorable props → IsStorable (with_value key v props)
storable_with key v [] one all = and_from _ _ one refl
storable_with key v (e ∷ es) one all =
    let parts = and_parts (is_storable e.1) _ all in
    elim (text_order key e.0) as (λ o. IsStorable (by_order o ((key, v) ∷ e ∷ es) ((e.0, v) ∷ es) (e ∷ with_value key v es))) [
      | Less ↦ and_from _ _ one all
      | Equal ↦ and_from _ _ one parts.1
      | Greater ↦ and_from _ _ parts.0 (storable_with key v es one parts.1)
    ]

storable_without : (key : Name) (props : List (Name × Value)) → IsStorable props → IsStorable (without key props)
storable_without key [] all = all
storable_without key (e ∷ es) all =
    let parts = and_parts (is_storable e.1) _ all in
    let rest = storable_without key es parts.1 in
    elim (eq_by_cmp text_order key e.0) as (λ b. IsStorable (cond (not b) (e ∷ without key es) (without key es))) [
      | true ↦ rest
      | false ↦ and_from _ _ parts.0 rest
    ]

-- the properties of an entity: their keys rise, and they can be stored
abbrev pub AreProperties : List (Name × Value) → Type 0
AreProperties props = IsTrue (rises props) × IsStorable props

pub set_properties : (key : Name) (o : Option Value) (props : List (Name × Value)) → IfSome o (λ v. IsTrue (is_storable v)) → AreProperties props → AreProperties (set_or_removed key o props)
set_properties key None props is all = (rises-without key props all.0, storable_without key props all.1)
set_properties key (Some v) props is all = (rises-with_value key v props all.0, storable_with key v props is all.1)

all_set : (values : List (Name × Value)) → AreSettable values → (props : List (Name × Value)) → AreProperties props → AreProperties (set_all props values)
all_set [] each props all = all
all_set (e ∷ es) each props all = all_set es each.1 (with_entry e.0 e.1 props) (set_properties e.0 (unless_null e.1) props (storable_if e.1 each.0) all)

-- ---- maps

module _ (graph : State) (row : List Cell) where
  each_settable : (es : List MapEntry) → IfOk (entry_values graph row es) AreSettable
  each_settable [] = tt
  each_settable (e ∷ es) =
      and_any AreSettable (λ v. settable v >>= λ w. entry_values graph row es >>= λ others. Ok ((e.key, w) ∷ others))
      (λ v. and_then IsSettable AreSettable (λ w. entry_values graph row es >>= λ others. Ok ((e.key, w) ∷ others))
      (λ w is. and_then AreSettable AreSettable (λ others. Ok ((e.key, w) ∷ others)) (λ others rest. (is, rest)) (entry_values graph row es) (each_settable es))
      (settable v) (settable_is v)) (value_on graph row e.value)

  pub map_made : (o : Option (List MapEntry)) → IfOk (map_properties graph row o) AreProperties
  map_made o =
      and_then AreSettable AreProperties (λ values. Ok (set_all [] values))
      (λ values each. all_set values each [] (refl, refl)) (entry_values graph row (entries_if o)) (each_settable (entries_if o))

-- ---- labels

labels_rise : (labels : List Name) (set : List (Name × ⊤)) → IsTrue (rises set) → IsTrue (rises (fold (λ (s : List (Name × ⊤)) label. with_value label tt s) set labels))
labels_rise [] set up = up
labels_rise (label ∷ labels) set up = labels_rise labels (with_value label tt set) (rises-with_value label tt set up)

pub label_set_rises : (labels : List Name) → IsTrue (rises (label_set labels))
label_set_rises labels = labels_rise labels [] refl
