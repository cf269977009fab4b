-- The first fault of a projection: items, then keys (own).
use Rattle.std.specs.Prelude.{Bool, true, false, ◌||◌, not, List, [], ◌∷◌, ◌++◌, Option, None, if◌then◌else◌}
use Rattle.std.specs.List.{list_any}
use Rattle.cy_trees.specs.Trees.{Expression, variable, Item, Key, Projection}
use Rattle.cy_scope_kinds.specs.declared.faults.ScopeFault.{ScopeFault}
use Rattle.cy_scope_kinds.specs.declared.faults.ScopeFault.TheVariants.{MissingAlias, DuplicateColumn}
use Rattle.cy_scope_kinds.specs.Scopes.{Scope, is_bound, added_name}
use Rattle.cy_scope.specs.ClauseScopes.{columns_of}
use Rattle.cy_scope_kinds.specs.ExpressionKinds.{kind_of}
use Rattle.cy_scope_kinds.specs.ExpressionFaults.{expression_fault, item_fault}
use Rattle.cy_scope_kinds.specs.Aggregates.{has_aggregates}
use Rattle.cy_scope_kinds.specs.Same.{same}
use Rattle.cy_scope_kinds.specs.Faults.{first, first_fault, unless}

abbrev pub is_variable : Expression → Bool
is_variable (variable v) = true
is_variable _ = false

-- an item of WITH has AS or is a variable; those of RETURN have a column all the same
abbrev pub has_name : Bool → Item → Bool
has_name naming i = not naming || i.named || is_variable i.expression

-- an item, beside the columns of those before it: its expression, its name, and that no column before it has that name
abbrev pub item_place_fault : Bool → Scope → Scope → Item → Option ScopeFault
item_place_fault naming scope columns i =
    first (item_fault scope i.expression)
    (first (unless (has_name naming i) MissingAlias) (unless (not (is_bound columns i.column)) DuplicateColumn))

abbrev pub items_fault : Bool → Scope → Scope → List Item → Option ScopeFault
items_fault naming scope columns [] = None
items_fault naming scope columns (i ∷ items) =
    first (item_place_fault naming scope columns i) (items_fault naming scope (added_name columns (kind_of scope i.expression) i.column) items)

abbrev pub hides_variables : Projection → Bool
hides_variables p = p.distinct || has_aggregates p

-- the variables before the clause that keys see: none with DISTINCT or an aggregate
abbrev pub seen_by_keys : Projection → Scope → Scope
seen_by_keys p before = (if hides_variables p then [] else before)

-- a key that repeats an item is that item's column; any other one is an expression, and sees the columns first
abbrev pub repeats : List Item → Expression → Bool
repeats items e = list_any (λ i. same i.expression e) items

abbrev pub key_fault : Scope → List Item → Key → Option ScopeFault
key_fault scope items key = (if repeats items key.expression then None else expression_fault scope key.expression)

abbrev pub keys_fault : Scope → List Item → List Key → Option ScopeFault
keys_fault scope items keys = first_fault (key_fault scope items) keys

abbrev pub projection_fault : Bool → Scope → Projection → Option ScopeFault
projection_fault naming before p =
    first (items_fault naming before [] p.items) (keys_fault (columns_of before p.items ++ seen_by_keys p before) p.items p.order)
