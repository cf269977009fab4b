-- Trees that have tokens: names aren't empty, nor are the lists of which the grammar asks for one part at least, numbers
-- have 64 bits, and no expression is too deep.
use Rattle.std.specs.Prelude.{◌≡◌, ⊤, ℕ, pos, negsuc, ◌<◌, ◌≤◌, Bool, true, false, IsTrue, List, [], ◌∷◌, Option, Some, None, encode_utf8_all}
use Rattle.std.specs.Str.{all_scalars}
use Rattle.cy_trees.specs.declared.expressions.Variable.{Variable}
use Rattle.cy_trees.specs.declared.clauses.Length.{Length}
use Rattle.cy_trees.specs.Trees.{Name, Expression, null, boolean, integer, text, variable, property, has_labels, unary, binary, comparison, list, case, call, call_star, Expressions, no_more, more, Links, no_links, link, Arms, no_arms, arm, Otherwise, nothing, otherwise, MapEntry, NodePattern, RelationshipPattern, Step, Path, Item, Key, Projection, SetItem, set_property, set_labels, RemoveItem, remove_property, remove_labels, PathTest, Where, Clause, «match», unwind, «with», «return», create, set, remove, delete, Query, Statement}
use Rattle.cy_trees.specs.Depth.{depth, greatest_depth}
use Rattle.cy_parser_grammar.specs.Words.{lowered}
use Rattle.cy_lexer.specs.Numbers.{greatest_number}
use Rattle.cy_parser_grammar.specs.SpellsClauses.{greatest_bound, has_step, ClausePhase, may_follow, may_end, phase_after, reading, reads_alone}

-- the bytes of characters, and of one at least
abbrev pub IsText : Name → Type 0
IsText n = (cs : List ℕ) × (n ≡ encode_utf8_all cs) × IsTrue (all_scalars cs)

abbrev pub IsNamed : Name → Type 0
IsNamed n = (c : ℕ) × (cs : List ℕ) × (n ≡ encode_utf8_all (c ∷ cs)) × IsTrue (all_scalars (c ∷ cs))

-- all of a list, and of a list with one part at least
abbrev pub Every : {A : Type 0} → (A → Type 0) → List A → Type 0
Every P [] = ⊤
Every P (x ∷ xs) = P x × Every P xs

abbrev pub Several : {A : Type 0} → (A → Type 0) → List A → Type 0
Several P [] = ⊥
Several P (x ∷ xs) = P x × Every P xs

abbrev pub IfAny : {A : Type 0} → (A → Type 0) → Option A → Type 0
IfAny P None = ⊤
IfAny P (Some x) = P x

-- a variable, as it is read
abbrev pub IsVariable : Variable → Type 0
IsVariable v = IsNamed v.name × (v.column ≡ None)

-- a function's name, in lower case
abbrev pub IsFunction : Name → Type 0
IsFunction f = IsNamed f × (lowered f ≡ f)

abbrev mutual
  pub IsWellFormed : Expression → Type 0
  IsWellFormed null = ⊤
  IsWellFormed (boolean b) = ⊤
  IsWellFormed (integer (pos n)) = n < greatest_number
  IsWellFormed (integer (negsuc n)) = n < greatest_number
  IsWellFormed (text t) = IsText t
  IsWellFormed (variable v) = IsVariable v
  IsWellFormed (property e key) = IsWellFormed e × IsNamed key
  IsWellFormed (has_labels e labels) = IsWellFormed e × Several IsNamed labels
  IsWellFormed (unary operator e) = IsWellFormed e
  IsWellFormed (binary operator a b) = IsWellFormed a × IsWellFormed b
  IsWellFormed (comparison e no_links) = ⊥
  IsWellFormed (comparison e (link c x links)) = IsWellFormed e × IsWellFormed x × LinksAreWellFormed links
  IsWellFormed (list es) = AreWellFormed es
  IsWellFormed (case no_arms e) = ⊥
  IsWellFormed (case (arm a b arms) e) = IsWellFormed a × IsWellFormed b × ArmsAreWellFormed arms × OtherwiseIsWellFormed e
  IsWellFormed (call f true no_more) = ⊥
  IsWellFormed (call f false no_more) = IsFunction f
  IsWellFormed (call f distinct (more e es)) = IsFunction f × IsWellFormed e × AreWellFormed es
  IsWellFormed (call_star f) = IsFunction f

  pub AreWellFormed : Expressions → Type 0
  AreWellFormed no_more = ⊤
  AreWellFormed (more e es) = IsWellFormed e × AreWellFormed es

  pub LinksAreWellFormed : Links → Type 0
  LinksAreWellFormed no_links = ⊤
  LinksAreWellFormed (link c e links) = IsWellFormed e × LinksAreWellFormed links

  pub ArmsAreWellFormed : Arms → Type 0
  ArmsAreWellFormed no_arms = ⊤
  ArmsAreWellFormed (arm a b arms) = IsWellFormed a × IsWellFormed b × ArmsAreWellFormed arms

  pub OtherwiseIsWellFormed : Otherwise → Type 0
  OtherwiseIsWellFormed nothing = ⊤
  OtherwiseIsWellFormed (otherwise e) = IsWellFormed e

-- an expression that isn't part of another one
abbrev pub IsWhole : Expression → Type 0
IsWhole e = IsWellFormed e × (depth e ≤ greatest_depth)

-- patterns
abbrev pub EntryIsWellFormed : MapEntry → Type 0
EntryIsWellFormed e = IsNamed e.key × IsWhole e.value

abbrev pub NodeIsWellFormed : NodePattern → Type 0
NodeIsWellFormed n = IfAny IsVariable n.variable × Every IsNamed n.labels × IfAny (Every EntryIsWellFormed) n.properties

abbrev pub LengthIsWellFormed : Length → Type 0
LengthIsWellFormed l = (l.least ≤ greatest_bound) × IfAny (λ most. (l.least ≤ most) × (most ≤ greatest_bound)) l.most

abbrev pub RelationshipIsWellFormed : RelationshipPattern → Type 0
RelationshipIsWellFormed r =
    IfAny IsVariable r.variable × Every IsNamed r.types × IfAny LengthIsWellFormed r.length × IfAny (Every EntryIsWellFormed) r.properties

abbrev pub StepIsWellFormed : Step → Type 0
StepIsWellFormed s = RelationshipIsWellFormed s.relationship × NodeIsWellFormed s.node

abbrev pub PathIsWellFormed : Path → Type 0
PathIsWellFormed p = NodeIsWellFormed p.start × Every StepIsWellFormed p.steps

-- projections
abbrev pub ItemIsWellFormed : Item → Type 0
ItemIsWellFormed i = IsWhole i.expression × IsNamed i.column

abbrev pub KeyIsWellFormed : Key → Type 0
KeyIsWellFormed k = IsWhole k.expression

abbrev pub CountIsWellFormed : ℕ → Type 0
CountIsWellFormed n = n < greatest_number

abbrev pub ProjectionIsWellFormed : Projection → Type 0
ProjectionIsWellFormed p =
    Several ItemIsWellFormed p.items × Every KeyIsWellFormed p.order × IfAny CountIsWellFormed p.skip × IfAny CountIsWellFormed p.limit

-- updates
abbrev pub SetItemIsWellFormed : SetItem → Type 0
SetItemIsWellFormed (set_property v key e) = IsVariable v × IsNamed key × IsWhole e
SetItemIsWellFormed (set_labels v labels) = IsVariable v × Several IsNamed labels

abbrev pub RemoveItemIsWellFormed : RemoveItem → Type 0
RemoveItemIsWellFormed (remove_property v key) = IsVariable v × IsNamed key
RemoveItemIsWellFormed (remove_labels v labels) = IsVariable v × Several IsNamed labels

-- conditions
pub record PathTestIsWellFormed (t : PathTest) : Type 0 where
  pub path : PathIsWellFormed t.path
  pub steps : IsTrue (has_step t.path)

pub record WhereIsWellFormed (w : Where) : Type 0 where
  pub test : IfAny IsWhole w.test
  pub paths : Every PathTestIsWellFormed w.paths

abbrev pub ClauseIsWellFormed : Clause → Type 0
ClauseIsWellFormed («match» optional paths filter) = Several PathIsWellFormed paths × WhereIsWellFormed filter
ClauseIsWellFormed (unwind e v) = IsWhole e × IsVariable v
ClauseIsWellFormed («with» p filter) = ProjectionIsWellFormed p × WhereIsWellFormed filter
ClauseIsWellFormed («return» p) = ProjectionIsWellFormed p
ClauseIsWellFormed (create paths) = Several PathIsWellFormed paths
ClauseIsWellFormed (set items) = Several SetItemIsWellFormed items
ClauseIsWellFormed (remove items) = Several RemoveItemIsWellFormed items
ClauseIsWellFormed (delete detach variables) = Several IsVariable variables

-- clauses in an order that is allowed
abbrev pub ClausesAreWellFormed : ClausePhase → List Clause → Type 0
ClausesAreWellFormed s [] = IsTrue (may_end s)
ClausesAreWellFormed s (c ∷ cs) = IsTrue (may_follow s c) × ClauseIsWellFormed c × ClausesAreWellFormed (phase_after c) cs

abbrev pub QueryIsWellFormed : Query → Type 0
QueryIsWellFormed q = ClausesAreWellFormed reading q.clauses

abbrev pub ReadingIsWellFormed : Query → Type 0
ReadingIsWellFormed q = QueryIsWellFormed q × IsTrue (reads_alone q.clauses)

-- one query, or several that read
abbrev pub QueriesAreWellFormed : List Query → Bool → Type 0
QueriesAreWellFormed [] all = ⊥
QueriesAreWellFormed (q ∷ []) all = QueryIsWellFormed q × (all ≡ false)
QueriesAreWellFormed (q ∷ second ∷ others) all = Every ReadingIsWellFormed (q ∷ second ∷ others)

abbrev pub StatementIsWellFormed : Statement → Type 0
StatementIsWellFormed s = QueriesAreWellFormed s.queries s.all
