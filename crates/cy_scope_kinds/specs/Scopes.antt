-- The scope at a place of a statement: the variables that are bound there, each with its kind, in the order of their columns
-- (own).
use Rattle.std.specs.Prelude.{ℕ, Bool, true, false, ◌&&◌, List, [], ◌∷◌, ◌++◌, Option, Some, None, is_some, unwrap_or, if◌then◌else◌}
use Rattle.std.specs.List.{position_from}
use Rattle.std.specs.Map.{lookup}
use Rattle.std.specs.Str.{bytes_eq}
use Rattle.cy_trees.specs.declared.expressions.Variable.{Variable}
use Rattle.cy_trees.specs.declared.clauses.Length.{Length}
use Rattle.cy_trees.specs.Trees.{Name, Path, Step}
use Rattle.cy_scope_kinds.specs.declared.kinds.Kind.{Kind}
use Rattle.cy_scope_kinds.specs.declared.kinds.Kind.TheVariants.{Node, Relationship, Relationships, Value}

abbrev pub Scope : Type 0
Scope = List (Name × Kind)

-- the kind of the first variable of the name, if there is one
abbrev pub find_kind : Scope → Name → Option Kind
find_kind scope name = lookup (bytes_eq name) scope

-- the column of that variable
abbrev pub find_column : Scope → Name → Option ℕ
find_column scope name = position_from (λ v. bytes_eq name v.0) 0 scope

abbrev pub is_bound : Scope → Name → Bool
is_bound scope name = is_some (find_kind scope name)

-- the kind of a bound variable
abbrev pub kind_in : Scope → Name → Kind
kind_in scope name = unwrap_or (find_kind scope name) Value

-- two scopes have variables of the same names, in the same order
abbrev pub has_same_names : Scope → Scope → Bool
has_same_names [] [] = true
has_same_names (v ∷ scope) (w ∷ other) = bytes_eq v.0 w.0 && has_same_names scope other
has_same_names _ _ = false

-- with one variable more where the name is new
abbrev pub added_name : Scope → Kind → Name → Scope
added_name scope kind name = (if is_bound scope name then scope else scope ++ (name, kind) ∷ [])

abbrev pub added : Scope → Kind → Option Variable → Scope
added scope kind None = scope
added scope kind (Some v) = added_name scope kind v.name

-- the variable of a length stands for all its relationships
abbrev pub relationship_kind : Option Length → Kind
relationship_kind None = Relationship
relationship_kind (Some l) = Relationships

-- a pattern adds its new names in the order of the text
abbrev pub with_step : Scope → Step → Scope
with_step scope s = added (added scope (relationship_kind s.relationship.length) s.relationship.variable) Node s.node.variable

abbrev pub with_steps : Scope → List Step → Scope
with_steps scope [] = scope
with_steps scope (s ∷ steps) = with_steps (with_step scope s) steps

abbrev pub with_path : Scope → Path → Scope
with_path scope p = with_steps (added scope Node p.start.variable) p.steps

abbrev pub with_paths : Scope → List Path → Scope
with_paths scope [] = scope
with_paths scope (p ∷ paths) = with_paths (with_path scope p) paths
