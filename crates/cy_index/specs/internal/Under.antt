-- Under which keys of the indexes a node stands.
use Rattle.std.specs.Prelude.{ℕ, Bool, false, ◌&&◌, ◌||◌, List, slice_get, is_some, nat_eq, Option}
use Rattle.std.specs.List.{list_any}
use Rattle.std.specs.Option.{option_map_or}
use Rattle.std.specs.Str.{bytes_eq}
use Rattle.cy_values.specs.declared.scalars.Value.{Value}
use Rattle.cy_values.specs.contracts.scalars.ValuePartialEq.TheImpl as value_eq
use Rattle.cy_graph.specs.Maps.{value_at}
use Rattle.cy_index.specs.declared.keys.Key.{Key}
use Rattle.cy_index.specs.declared.keys.Key.TheVariants as key
use Rattle.cy_index.specs.declared.keys.Pair.{Pair}
use Rattle.cy_index.specs.contracts.keys.KeyPartialEq.TheImpl as key_eq

-- whether two keys are the same
abbrev pub same_key : Key → Key → Bool
same_key = (key_eq.eq-value).it

-- whether the key is among these
abbrev pub among : Key → List Key → Bool
among k keys = list_any (same_key k) keys

-- whether this is the value, if there is one
abbrev pub is_same : Value → Option Value → Bool
is_same value stored = option_map_or ((value_eq.eq-value).it value) stored false

-- whether this is the value at the key
abbrev pub is_value : List ℕ → Value → List (List ℕ × Value) → Bool
is_value at value props = is_same value (value_at at props)

-- whether the property is that of the pair at the place, and the pair passes the test
abbrev pub is_pair_at : List Pair → ℕ → (Pair → Bool) → Bool
is_pair_at chosen place test = option_map_or test (slice_get chosen place) false

-- whether the key is of a value in an index whose pair passes the test
abbrev pub is_prop : List Pair → (Value → Pair → Bool) → Key → Bool
is_prop chosen test (key.Label other) = false
is_prop chosen test (key.Prop place value) = is_pair_at chosen place (test value)

-- whether the key is of a value at this place that passes the test
abbrev pub is_here : ℕ → (Value → Bool) → Key → Bool
is_here place test (key.Label other) = false
is_here place test (key.Prop q value) = nat_eq q place && test value

-- whether the pair has the label, and this is the value at its key
abbrev pub by_label : List ℕ → List (List ℕ × Value) → Value → Pair → Bool
by_label label props value pair = bytes_eq pair.label label && is_value pair.key value props

-- whether the pair has the key and one of the labels, and this is the value
abbrev pub by_value : List (List ℕ × Unit {0}) → List ℕ → Option Value → Value → Pair → Bool
by_value labels at stored value pair = (bytes_eq pair.key at && is_some (value_at pair.label labels)) && is_same value stored

-- whether the pair has one of the labels, and this is the value at its key
abbrev pub by_node : List (List ℕ × Unit {0}) → List (List ℕ × Value) → Value → Pair → Bool
by_node labels props value pair = is_some (value_at pair.label labels) && is_value pair.key value props

-- whether the key is of this label
abbrev pub is_label : List ℕ → Key → Bool
is_label label (key.Label other) = bytes_eq other label
is_label label (key.Prop place value) = false

-- whether the key is of one of these labels
abbrev pub is_label_among : List (List ℕ × Unit {0}) → Key → Bool
is_label_among labels (key.Label label) = is_some (value_at label labels)
is_label_among labels (key.Prop place value) = false

-- whether a node with the label and these properties stands under the key by this label
abbrev pub is_key_of_label : List Pair → List ℕ → List (List ℕ × Value) → Key → Bool
is_key_of_label chosen label props k = is_label label k || is_prop chosen (by_label label props) k

-- whether a node with these labels stands under the key by the value at this key of its properties
abbrev pub is_key_of_value : List Pair → List (List ℕ × Unit {0}) → List ℕ → Option Value → Key → Bool
is_key_of_value chosen labels at stored = is_prop chosen (by_value labels at stored)

-- whether a node with these labels and properties stands under the key
abbrev pub is_key_of : List Pair → List (List ℕ × Unit {0}) → List (List ℕ × Value) → Key → Bool
is_key_of chosen labels props k = is_label_among labels k || is_prop chosen (by_node labels props) k
