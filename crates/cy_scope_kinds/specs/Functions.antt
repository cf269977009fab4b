-- The functions: their names, how many operands they take and of which kinds (openCypher 9, Functions, narrowed to this
-- profile).
use Rattle.std.specs.Prelude.{Bool, true, false, not, List, [], ◌∷◌, Option, find, ◌&&◌, ◌||◌, codes, nat_eq}
use Rattle.std.specs.Cmp.Lexicographic.{pointwise}
use Rattle.cy_trees.specs.Trees.{Name, Expressions, no_more, more, property}
use Rattle.cy_scope_kinds.specs.declared.kinds.Kind.{Kind}
use Rattle.cy_scope_kinds.specs.declared.functions.Function.{Function}
use Rattle.cy_scope_kinds.specs.declared.functions.Function.TheVariants.{Id, «Type», Labels, Size, Coalesce, Abs, ToString, Exists, Count, Sum, Min, Max, Collect}
use Rattle.cy_scope_kinds.specs.Kinds.{is_value, is_entity, is_node, is_relationship, is_relationships}

-- the name of a function, in lower case
abbrev pub spelling : Function → Name
spelling Id = codes "id"
spelling «Type» = codes "type"
spelling Labels = codes "labels"
spelling Size = codes "size"
spelling Coalesce = codes "coalesce"
spelling Abs = codes "abs"
spelling ToString = codes "tostring"
spelling Exists = codes "exists"
spelling Count = codes "count"
spelling Sum = codes "sum"
spelling Min = codes "min"
spelling Max = codes "max"
spelling Collect = codes "collect"

-- each function once
abbrev pub functions : List Function
functions =
    Id ∷ «Type» ∷ Labels ∷ Size ∷ Coalesce ∷ Abs ∷ ToString ∷ Exists ∷ Count ∷ Sum ∷ Min ∷ Max ∷
    Collect ∷ []

-- the function of a name, if there is one
unfoldable pub function_named : Name → Option Function
function_named name = find (λ function. pointwise nat_eq (spelling function) name) functions

-- it takes all rows of a group together
abbrev pub is_aggregate : Function → Bool
is_aggregate Count = true
is_aggregate Sum = true
is_aggregate Min = true
is_aggregate Max = true
is_aggregate Collect = true
is_aggregate _ = false

abbrev pub is_none : Expressions → Bool
is_none no_more = true
is_none (more e es) = false

abbrev pub is_one : Expressions → Bool
is_one no_more = false
is_one (more e es) = is_none es

-- one that is a property
abbrev pub is_property : Expressions → Bool
is_property (more (property e key) es) = is_none es
is_property _ = false

-- the arguments fit the function in number and form
abbrev pub fit : Function → Expressions → Bool
fit Coalesce es = not (is_none es)
fit Exists es = is_property es
fit _ es = is_one es

-- a call has the form of its function: the arguments fit, and DISTINCT is written in an aggregate alone
abbrev pub has_form : Function → Bool → Expressions → Bool
has_form function distinct es = fit function es && (not distinct || is_aggregate function)

-- the function takes an argument of the kind
abbrev pub takes : Function → Kind → Bool
takes Id k = is_entity k
takes «Type» k = is_relationship k
takes Labels k = is_node k
takes Size k = is_relationships k || is_value k
takes Count k = true
takes _ k = is_value k
