-- The first fault of what stands after WHERE: the condition, then the paths, the places of each in the order of the text, each
-- before its map (own). A path names bound nodes alone, and binds no name; its maps see what the condition sees.
use Rattle.std.specs.Prelude.{List, Option, Some, None, if◌then◌else◌}
use Rattle.cy_trees.specs.declared.expressions.Variable.{Variable}
use Rattle.cy_trees.specs.Trees.{Expression, NodePattern, RelationshipPattern, Step, Path, PathTest, Where}
use Rattle.cy_scope_kinds.specs.declared.kinds.Kind.{Kind}
use Rattle.cy_scope_kinds.specs.declared.faults.ScopeFault.{ScopeFault}
use Rattle.cy_scope_kinds.specs.declared.faults.ScopeFault.TheVariants.{UnknownVariable, AlreadyBound, WrongKind}
use Rattle.cy_scope_kinds.specs.Kinds.{is_node}
use Rattle.cy_scope_kinds.specs.Scopes.{Scope, find_kind, is_bound}
use Rattle.cy_scope_kinds.specs.ExpressionFaults.{value_fault}
use Rattle.cy_scope_kinds.specs.Faults.{first, first_fault, unless}
use Rattle.cy_scope.specs.PatternFaults.{map_fault}

-- a condition is a value
abbrev pub condition_fault : Scope → Option Expression → Option ScopeFault
condition_fault scope None = None
condition_fault scope (Some e) = value_fault scope e

-- a variable that has to be a node is bound, and a node
abbrev pub node_only_fault : Option Kind → Option ScopeFault
node_only_fault None = Some UnknownVariable
node_only_fault (Some k) = unless (is_node k) WrongKind

-- where a name stands at a node place, it is that of a bound node
abbrev pub tested_node_name_fault : Scope → Option Variable → Option ScopeFault
tested_node_name_fault scope None = None
tested_node_name_fault scope (Some v) = node_only_fault (find_kind scope v.name)

-- no name stands at a relationship place: it would have to be bound, and new
abbrev pub tested_relationship_name_fault : Scope → Option Variable → Option ScopeFault
tested_relationship_name_fault scope None = None
tested_relationship_name_fault scope (Some v) = Some (if is_bound scope v.name then AlreadyBound else UnknownVariable)

abbrev pub tested_node_fault : Scope → NodePattern → Option ScopeFault
tested_node_fault scope n = first (tested_node_name_fault scope n.variable) (map_fault scope n.properties)

abbrev pub tested_relationship_fault : Scope → RelationshipPattern → Option ScopeFault
tested_relationship_fault scope r = first (tested_relationship_name_fault scope r.variable) (map_fault scope r.properties)

abbrev pub tested_step_fault : Scope → Step → Option ScopeFault
tested_step_fault scope s = first (tested_relationship_fault scope s.relationship) (tested_node_fault scope s.node)

abbrev pub tested_path_fault : Scope → Path → Option ScopeFault
tested_path_fault scope p = first (tested_node_fault scope p.start) (first_fault (tested_step_fault scope) p.steps)

abbrev pub path_tests_fault : Scope → List PathTest → Option ScopeFault
path_tests_fault scope tests = first_fault (λ t. tested_path_fault scope t.path) tests

abbrev pub where_fault : Scope → Where → Option ScopeFault
where_fault scope w = first (condition_fault scope w.test) (path_tests_fault scope w.paths)
