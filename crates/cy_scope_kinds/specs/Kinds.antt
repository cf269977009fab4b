-- Kinds: what the value of an expression is for certain, if it isn't null (own).
use Rattle.std.specs.Prelude.{Bool, true, false, if◌then◌else◌}
use Rattle.cy_scope_kinds.specs.declared.kinds.Kind.{Kind}
use Rattle.cy_scope_kinds.specs.declared.kinds.Kind.TheVariants.{Node, Relationship, Relationships, Value, Flag}

-- a boolean, an integer, a text or a list
abbrev pub is_value : Kind → Bool
is_value Node = false
is_value Relationship = false
is_value Relationships = false
is_value Value = true
is_value Flag = true

abbrev pub is_flag : Kind → Bool
is_flag Node = false
is_flag Relationship = false
is_flag Relationships = false
is_flag Value = false
is_flag Flag = true

-- a node or one relationship
abbrev pub is_entity : Kind → Bool
is_entity Node = true
is_entity Relationship = true
is_entity Relationships = false
is_entity Value = false
is_entity Flag = false

abbrev pub is_node : Kind → Bool
is_node Node = true
is_node Relationship = false
is_node Relationships = false
is_node Value = false
is_node Flag = false

abbrev pub is_relationship : Kind → Bool
is_relationship Node = false
is_relationship Relationship = true
is_relationship Relationships = false
is_relationship Value = false
is_relationship Flag = false

abbrev pub is_relationships : Kind → Bool
is_relationships Node = false
is_relationships Relationship = false
is_relationships Relationships = true
is_relationships Value = false
is_relationships Flag = false

-- what is chosen among flags alone is a flag
abbrev pub flag_if : Bool → Kind
flag_if flags = (if flags then Flag else Value)
