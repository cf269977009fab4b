-- What holds of the statements that were found without a fault, and of the queries of views (own).
use Rattle.std.specs.Prelude.{◌≡◌, false, ⊤, ◌⊎◌, IsTrue, List, [], ◌∷◌, ◌++◌, map, Option, Some, None}
use Rattle.std.specs.List.{All, Contains}
use Rattle.cy_trees.specs.declared.expressions.Variable.{Variable}
use Rattle.cy_trees.specs.Trees.{Name, Expression, MapEntry, NodePattern, RelationshipPattern, Step, Path, Item, Key, Projection, SetItem, set_property, set_labels, RemoveItem, remove_property, remove_labels, Where, Clause, «match», unwind, «with», «return», create, set, remove, delete, Query, Statement}
use Rattle.cy_scope_kinds.specs.declared.kinds.Kind.{Kind}
use Rattle.cy_scope_kinds.specs.declared.kinds.Kind.TheVariants.{Node, Value}
use Rattle.cy_scope_kinds.specs.Kinds.{is_value, is_entity}
use Rattle.cy_scope_kinds.specs.Scopes.{Scope, relationship_kind, with_paths}
use Rattle.cy_scope_kinds.specs.ExpressionKinds.{kind_of}
use Rattle.cy_scope.specs.ClauseScopes.{columns_of, scope_after}
use Rattle.cy_scope.specs.ClauseFaults.{statement_fault}
use Rattle.cy_scope.specs.ProjectionFaults.{seen_by_keys}
use Rattle.cy_scope.specs.Resolved.{resolved_statement}
use Rattle.cy_scope.specs.Views.{view_fault}
use Rattle.cy_scope_kinds.specs.Kinded.{IsColumn, HasKind, IsKinded, IsAggregate}

-- it came of a statement without a fault, by setting the columns of its variables
abbrev pub IsChecked : Statement → Type 0
IsChecked tree = (s : Statement) × (statement_fault s ≡ None) × (tree ≡ resolved_statement s)

-- a query as a statement of its own
abbrev pub single : Query → Statement
single q = record { queries = q ∷ []; all = false }

abbrev pub IsViewQuery : Statement → Type 0
IsViewQuery tree = IsChecked tree × (view_fault tree ≡ None)

-- an expression that is a value
abbrev pub GivesValue : Scope → Expression → Type 0
GivesValue scope e = (k : Kind) × HasKind scope e k × IsTrue (is_value k)

-- where a name stands, it is a column of the kind
abbrev pub NameIsColumn : Scope → Kind → Option Variable → Type 0
NameIsColumn scope k None = ⊤
NameIsColumn scope k (Some v) = IsColumn scope v k

abbrev pub IsEntityColumn : Scope → Variable → Type 0
IsEntityColumn scope v = (k : Kind) × IsColumn scope v k × IsTrue (is_entity k)

abbrev pub MapGivesValues : Scope → Option (List MapEntry) → Type 0
MapGivesValues scope None = ⊤
MapGivesValues scope (Some entries) = All (λ e. GivesValue scope e.value) entries

abbrev pub FilterGivesValue : Scope → Option Expression → Type 0
FilterGivesValue scope None = ⊤
FilterGivesValue scope (Some e) = GivesValue scope e

-- a pattern: its maps read the row before the clause, and its names are columns of the rows after it
abbrev pub NodeIsKinded : Scope → Scope → NodePattern → Type 0
NodeIsKinded before after n = NameIsColumn after Node n.variable × MapGivesValues before n.properties

abbrev pub RelationshipIsKinded : Scope → Scope → RelationshipPattern → Type 0
RelationshipIsKinded before after r = NameIsColumn after (relationship_kind r.length) r.variable × MapGivesValues before r.properties

abbrev pub StepIsKinded : Scope → Scope → Step → Type 0
StepIsKinded before after s = RelationshipIsKinded before after s.relationship × NodeIsKinded before after s.node

abbrev pub PathIsKinded : Scope → Scope → Path → Type 0
PathIsKinded before after p = NodeIsKinded before after p.start × All (StepIsKinded before after) p.steps

-- a path as a condition: it names nodes alone, which are columns of the row that it is asked of, as its maps read that row
abbrev pub RelationshipIsTested : Scope → RelationshipPattern → Type 0
RelationshipIsTested scope r = (r.variable ≡ None) × MapGivesValues scope r.properties

abbrev pub StepIsTested : Scope → Step → Type 0
StepIsTested scope s = RelationshipIsTested scope s.relationship × NodeIsKinded scope scope s.node

abbrev pub PathIsTested : Scope → Path → Type 0
PathIsTested scope p = NodeIsKinded scope scope p.start × All (StepIsTested scope) p.steps

-- what stands after WHERE
abbrev pub WhereGivesValue : Scope → Where → Type 0
WhereGivesValue scope w = FilterGivesValue scope w.test × All (λ t. PathIsTested scope t.path) w.paths

-- an item has the kind of its column, and may be an aggregate
abbrev pub ItemIsKinded : Scope → Item → Type 0
ItemIsKinded scope i = HasKind scope i.expression (kind_of scope i.expression) ⊎ IsAggregate scope i.expression (kind_of scope i.expression)

abbrev pub item_column : Scope → Item → Name × Kind
item_column scope i = (i.column, kind_of scope i.expression)

-- a key is an item's expression, or else one that reads the columns and what keys see of the row before
abbrev pub KeyIsKinded : Scope → Projection → Key → Type 0
KeyIsKinded before p key =
    ((i : Item) × Contains p.items i × (key.expression ≡ i.expression)) ⊎ IsKinded (columns_of before p.items ++ seen_by_keys p before) key.expression

-- each item makes a column
abbrev pub ProjectionIsKinded : Scope → Projection → Type 0
ProjectionIsKinded before p =
    All (ItemIsKinded before) p.items × (columns_of before p.items ≡ map (item_column before) p.items) × All (KeyIsKinded before p) p.order

abbrev pub SetIsKinded : Scope → SetItem → Type 0
SetIsKinded scope (set_property v key e) = IsEntityColumn scope v × GivesValue scope e
SetIsKinded scope (set_labels v labels) = IsColumn scope v Node

abbrev pub RemoveIsKinded : Scope → RemoveItem → Type 0
RemoveIsKinded scope (remove_property v key) = IsEntityColumn scope v
RemoveIsKinded scope (remove_labels v labels) = IsColumn scope v Node

abbrev pub ClauseIsKinded : Scope → Clause → Type 0
ClauseIsKinded scope («match» optional paths w) =
    All (PathIsKinded scope (with_paths scope paths)) paths × WhereGivesValue (with_paths scope paths) w
ClauseIsKinded scope (unwind e v) = GivesValue scope e × IsColumn (scope_after scope (unwind e v)) v Value
ClauseIsKinded scope («with» p w) = ProjectionIsKinded scope p × WhereGivesValue (columns_of scope p.items) w
ClauseIsKinded scope («return» p) = ProjectionIsKinded scope p
ClauseIsKinded scope (create paths) = All (PathIsKinded scope (with_paths scope paths)) paths
ClauseIsKinded scope (set items) = All (SetIsKinded scope) items
ClauseIsKinded scope (remove items) = All (RemoveIsKinded scope) items
ClauseIsKinded scope (delete detach variables) = All (IsEntityColumn scope) variables

-- each clause in the scope at its place
abbrev pub ClausesAreKinded : Scope → List Clause → Type 0
ClausesAreKinded scope [] = ⊤
ClausesAreKinded scope (c ∷ cs) = ClauseIsKinded scope c × ClausesAreKinded (scope_after scope c) cs
