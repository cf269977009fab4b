-- The first fault of a pattern: places in the order of the text, each before its map (own). `before` is the scope before the
-- clause, which maps see; `now` also has the variables of the places before.
use Rattle.std.specs.Prelude.{Bool, true, false, ◌&&◌, ◌||◌, not, List, [], ◌∷◌, Option, Some, None, is_none, if◌then◌else◌}
use Rattle.cy_trees.specs.declared.expressions.Variable.{Variable}
use Rattle.cy_trees.specs.declared.clauses.Direction.{Direction}
use Rattle.cy_trees.specs.declared.clauses.Direction.TheVariants as direction
use Rattle.cy_trees.specs.Trees.{Name, MapEntry, NodePattern, RelationshipPattern, Step, Path}
use Rattle.cy_scope_kinds.specs.declared.kinds.Kind.{Kind}
use Rattle.cy_scope_kinds.specs.declared.kinds.Kind.TheVariants.{Node}
use Rattle.cy_scope_kinds.specs.declared.faults.ScopeFault.{ScopeFault}
use Rattle.cy_scope_kinds.specs.declared.faults.ScopeFault.TheVariants.{AlreadyBound, WrongKind, RepeatedRelationship, BadCreate}
use Rattle.cy_scope_kinds.specs.Kinds.{is_node}
use Rattle.cy_scope_kinds.specs.Scopes.{Scope, find_kind, is_bound, added, relationship_kind, with_step, with_path}
use Rattle.cy_scope_kinds.specs.Faults.{first, first_fault, unless}
use Rattle.cy_scope_kinds.specs.ExpressionFaults.{value_fault}

-- the values of a map are values
abbrev pub entries_fault : Scope → List MapEntry → Option ScopeFault
entries_fault before entries = first_fault (λ e. value_fault before e.value) entries

abbrev pub map_fault : Scope → Option (List MapEntry) → Option ScopeFault
map_fault before None = None
map_fault before (Some entries) = entries_fault before entries

-- where a name stands at a node place of MATCH, it is new or that of a node
abbrev pub matched_node_fault : Option Kind → Option ScopeFault
matched_node_fault None = None
matched_node_fault (Some k) = unless (is_node k) WrongKind

abbrev pub is_empty : List Name → Bool
is_empty [] = true
is_empty (label ∷ labels) = false

-- a node place without labels and map
abbrev pub is_bare : NodePattern → Bool
is_bare n = is_empty n.labels && is_none n.properties

-- where a name stands at a node place of CREATE, it is new, or that of a node and stands bare in a path with a relationship,
-- which is said by `joined`
abbrev pub created_node_fault : Bool → Option Kind → Option ScopeFault
created_node_fault joined None = None
created_node_fault joined (Some k) = first (unless joined AlreadyBound) (unless (is_node k) WrongKind)

-- in CREATE, or else in MATCH
abbrev pub named_node_fault : Bool → Bool → Option Kind → Option ScopeFault
named_node_fault true joined k = created_node_fault joined k
named_node_fault false joined k = matched_node_fault k

abbrev pub node_name_fault : Bool → Scope → Bool → Option Variable → Option ScopeFault
node_name_fault creating now joined None = None
node_name_fault creating now joined (Some v) = named_node_fault creating joined (find_kind now v.name)

abbrev pub node_fault : Bool → Scope → Scope → Bool → NodePattern → Option ScopeFault
node_fault creating before now linked n = first (node_name_fault creating now (linked && is_bare n) n.variable) (map_fault before n.properties)

-- where a name stands at a relationship place of MATCH and at another place of the clause before: a node's or a relationship's
abbrev pub repeated_fault : Option Kind → Option ScopeFault
repeated_fault None = None
repeated_fault (Some k) = Some (if is_node k then WrongKind else RepeatedRelationship)

-- where a name stands at a relationship place of CREATE, it is new; where at one of MATCH, it isn't bound before the clause, nor
-- does it stand at another place of it before
abbrev pub named_relationship_fault : Bool → Bool → Option Kind → Option ScopeFault
named_relationship_fault true bound k = unless (is_none k) AlreadyBound
named_relationship_fault false bound k = first (unless (not bound) AlreadyBound) (repeated_fault k)

abbrev pub relationship_name_fault : Bool → Scope → Scope → Option Variable → Option ScopeFault
relationship_name_fault creating before now None = None
relationship_name_fault creating before now (Some v) = named_relationship_fault creating (is_bound before v.name) (find_kind now v.name)

abbrev pub is_directed : Direction → Bool
is_directed direction.Right = true
is_directed direction.Left = true
is_directed direction.Either = false

abbrev pub is_one_type : List Name → Bool
is_one_type [] = false
is_one_type (t ∷ types) = is_empty types

-- what CREATE can make: one direction, one type and no length
abbrev pub can_be_made : RelationshipPattern → Bool
can_be_made r = is_directed r.direction && is_one_type r.types && is_none r.length

abbrev pub relationship_fault : Bool → Scope → Scope → RelationshipPattern → Option ScopeFault
relationship_fault creating before now r =
    first (relationship_name_fault creating before now r.variable)
    (first (unless (not creating || can_be_made r) BadCreate) (map_fault before r.properties))

abbrev pub step_fault : Bool → Scope → Scope → Step → Option ScopeFault
step_fault creating before now s =
    first (relationship_fault creating before now s.relationship)
    (node_fault creating before (added now (relationship_kind s.relationship.length) s.relationship.variable) true s.node)

abbrev pub steps_fault : Bool → Scope → Scope → List Step → Option ScopeFault
steps_fault creating before now [] = None
steps_fault creating before now (s ∷ steps) = first (step_fault creating before now s) (steps_fault creating before (with_step now s) steps)

abbrev pub has_steps : List Step → Bool
has_steps [] = false
has_steps (s ∷ steps) = true

abbrev pub path_fault : Bool → Scope → Scope → Path → Option ScopeFault
path_fault creating before now p =
    first (node_fault creating before now (has_steps p.steps) p.start) (steps_fault creating before (added now Node p.start.variable) p.steps)

abbrev pub paths_fault : Bool → Scope → Scope → List Path → Option ScopeFault
paths_fault creating before now [] = None
paths_fault creating before now (p ∷ paths) = first (path_fault creating before now p) (paths_fault creating before (with_path now p) paths)
