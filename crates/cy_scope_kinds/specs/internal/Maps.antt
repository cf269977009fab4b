-- The variables of a scope, as the code keeps them.
use Rattle.std.specs.Prelude.{◌≡◌, ℕ, List, map, take, string_bytes}
use Rattle.std.specs.Option.{option_or}
use Rattle.std.specs.BTreeMap.{BTreeMap, get_by_text}
use Rattle.std.specs.declared.alloc.Global.{Global}
use Rattle.std.specs.declared.string.String.{String}
use Rattle.cy_scope_kinds.specs.declared.kinds.Kind.{Kind}
use Rattle.cy_scope_kinds.specs.Scopes.{Scope, find_column}

abbrev pub variable_of : String Global × Kind → List ℕ × Kind
variable_of v = (string_bytes v.0, v.1)

abbrev pub variables_of : List (String Global × Kind) → Scope
variables_of variables = map variable_of variables

-- how many variables are found without the map
abbrev pub few : ℕ
few = 16

-- the map has the column of each name that isn't among the first few
abbrev pub AreColumns : BTreeMap (String Global) ℕ → Scope → Type 0
AreColumns columns scope = (name : List ℕ) → find_column scope name ≡ option_or (find_column (take few scope) name) (get_by_text columns name)
