-- The trees of statements, as the grammar names their parts (openCypher 9, grammar, narrowed to this profile). A text is
-- the list of its bytes. What the code boxes, or keeps in a vector, stands here itself.
use Rattle.std.specs.Prelude.{ℕ, ℤ, Bool, List, Option}
use Rattle.cy_trees.specs.declared.expressions.Variable.{Variable}
use Rattle.cy_trees.specs.declared.expressions.UnaryOperator.{UnaryOperator}
use Rattle.cy_trees.specs.declared.expressions.BinaryOperator.{BinaryOperator}
use Rattle.cy_trees.specs.declared.expressions.Comparator.{Comparator}
use Rattle.cy_trees.specs.declared.clauses.Direction.{Direction}
use Rattle.cy_trees.specs.declared.clauses.Length.{Length}

abbrev pub Name : Type 0
Name = List ℕ

mutual
  pub data Expression : Type 0 where
    null : Expression
    boolean : Bool → Expression
    integer : ℤ → Expression
    text : List ℕ → Expression
    variable : Variable → Expression
    property : Expression → Name → Expression
    has_labels : Expression → List Name → Expression
    unary : UnaryOperator → Expression → Expression
    binary : BinaryOperator → Expression → Expression → Expression
    -- the first operand, and the others, each with the comparator before it
    comparison : Expression → Links → Expression
    list : Expressions → Expression
    case : Arms → Otherwise → Expression
    -- the function's name, whether DISTINCT is written, and the arguments
    call : Name → Bool → Expressions → Expression
    -- the function's name, with a `*` for its arguments
    call_star : Name → Expression

  -- one expression after another
  pub data Expressions : Type 0 where
    no_more : Expressions
    more : Expression → Expressions → Expressions

  pub data Links : Type 0 where
    no_links : Links
    link : Comparator → Expression → Links → Links

  -- each WHEN with its THEN
  pub data Arms : Type 0 where
    no_arms : Arms
    arm : Expression → Expression → Arms → Arms

  -- what stands after ELSE, if anything
  pub data Otherwise : Type 0 where
    nothing : Otherwise
    otherwise : Expression → Otherwise

-- an entry of a property map
pub record MapEntry : Type 0 where
  pub key : Name
  pub value : Expression

pub record NodePattern : Type 0 where
  pub variable : Option Variable
  pub labels : List Name
  pub properties : Option (List MapEntry)

pub record RelationshipPattern : Type 0 where
  pub variable : Option Variable
  pub direction : Direction
  pub types : List Name
  pub length : Option Length
  pub properties : Option (List MapEntry)

pub record Step : Type 0 where
  pub relationship : RelationshipPattern
  pub node : NodePattern

pub record Path : Type 0 where
  pub start : NodePattern
  pub steps : List Step

pub record Item : Type 0 where
  pub expression : Expression
  pub column : Name
  -- the column stands after AS
  pub named : Bool

pub record Key : Type 0 where
  pub expression : Expression
  pub descending : Bool

pub record Projection : Type 0 where
  pub distinct : Bool
  pub items : List Item
  pub order : List Key
  pub skip : Option ℕ
  pub limit : Option ℕ

pub data SetItem : Type 0 where
  set_property : Variable → Name → Expression → SetItem
  set_labels : Variable → List Name → SetItem

pub data RemoveItem : Type 0 where
  remove_property : Variable → Name → RemoveItem
  remove_labels : Variable → List Name → RemoveItem

-- a path as a condition, and whether it is denied
pub record PathTest : Type 0 where
  pub denied : Bool
  pub path : Path

-- what stands after WHERE: a condition, if there is one, and paths; nothing of both where there is no WHERE
pub record Where : Type 0 where
  pub test : Option Expression
  pub paths : List PathTest

pub data Clause : Type 0 where
  -- whether it is OPTIONAL, the paths, and what stands after WHERE
  «match» : Bool → List Path → Where → Clause
  unwind : Expression → Variable → Clause
  -- the projection, and what stands after WHERE
  «with» : Projection → Where → Clause
  «return» : Projection → Clause
  create : List Path → Clause
  set : List SetItem → Clause
  remove : List RemoveItem → Clause
  -- whether it is DETACH, and the variables
  delete : Bool → List Variable → Clause

pub record Query : Type 0 where
  pub clauses : List Clause

-- queries, and whether ALL stands after each UNION between them
pub record Statement : Type 0 where
  pub queries : List Query
  pub all : Bool
