-- Where a condition on columns of an operator goes on. (own)
use Rattle.std.specs.Prelude.{◌≡◌, ℕ, true, IfSome, List, Option, None, Some, nat_lt, ⊤}
use Rattle.std.specs.List.{list_all}
use Rattle.std.specs.declared.alloc.Global.{Global}
use Rattle.std.specs.declared.vec.Vec.{Vec}
use Rattle.cy_planner_algebra.specs.declared.operators.KeyColumns.{KeyColumns}
use Rattle.cy_planner_algebra.specs.Plans as plan
use Rattle.cy_planner_algebra.specs.Plans.{Plan, width}
use Rattle.cy_planner_pushdown.specs.declared.sides.Way.{Way}
use Rattle.cy_planner_pushdown.specs.declared.sides.Way.TheVariants as way
use Rattle.cy_planner_pushdown.specs.internal.Pushed.{AreMoved, IsOnLeft, IsOnRight, IsTakenOver}

-- columns of the left side of a join, if it goes there
abbrev pub IsLeftWay : Plan → Plan → List KeyColumns → List ℕ → Option (Vec ℕ Global) → Type 0
IsLeftWay left right keys columns made = IfSome made (λ others. AreMoved (IsOnLeft left right keys) columns others.items)

-- columns of the right side, if it goes there
abbrev pub IsRightWay : Plan → Plan → List KeyColumns → List ℕ → Option (Vec ℕ Global) → Type 0
IsRightWay left right keys columns made = IfSome made (λ others. AreMoved (IsOnRight left right keys) columns others.items)

abbrev pub both_ways : Vec ℕ Global → Option (Vec ℕ Global) → Option (Vec ℕ Global) → Way
both_ways columns (Some lefts) (Some rights) = way.Both lefts rights
both_ways columns (Some lefts) None = way.First lefts
both_ways columns None (Some rights) = way.Second rights
both_ways columns None None = way.Here columns

-- the same columns, which are among the first ones
abbrev pub AreAmongFirst : ℕ → List ℕ → List ℕ → Type 0
AreAmongFirst n columns others = (others ≡ columns) × (list_all (λ c. nat_lt c n) columns ≡ true)

-- it goes on where the columns are among the first ones
abbrev pub IsAmongFirst : ℕ → List ℕ → Way → Type 0
IsAmongFirst n columns (way.Here others) = others.items ≡ columns
IsAmongFirst n columns (way.First others) = AreAmongFirst n columns others.items
IsAmongFirst n columns (way.Second others) = ⊥
IsAmongFirst n columns (way.Both lefts rights) = ⊥

-- in some columns of its only input, or of its left one, there stands what stands in columns of an operator
abbrev pub AreInFirst : Plan → List ℕ → List ℕ → Type 0
AreInFirst plan.unit columns others = ⊥
AreInFirst plan.nodes columns others = ⊥
AreInFirst (plan.rels types orientation) columns others = ⊥
AreInFirst (plan.join left right keys) columns others = AreMoved (IsOnLeft left right keys) columns others
AreInFirst (plan.outer left right keys test) columns others = AreAmongFirst (width left) columns others
AreInFirst (plan.semi left right keys keeping) columns others = others ≡ columns
AreInFirst (plan.lookup p column attribute) columns others = AreAmongFirst (width p) columns others
AreInFirst (plan.filter p test) columns others = others ≡ columns
AreInFirst (plan.all_different p ends) columns others = others ≡ columns
AreInFirst (plan.project p outputs) columns others = AreMoved (IsTakenOver outputs) columns others
AreInFirst (plan.distinct p) columns others = others ≡ columns
AreInFirst (plan.union left right) columns others = ⊥

-- in columns of the right input of a join
abbrev pub AreInSecond : Plan → List ℕ → List ℕ → Type 0
AreInSecond (plan.join left right keys) columns others = AreMoved (IsOnRight left right keys) columns others
AreInSecond p columns others = ⊥

-- in columns of both inputs
abbrev pub AreInBoth : Plan → List ℕ → List ℕ → List ℕ → Type 0
AreInBoth (plan.join left right keys) columns lefts rights = AreMoved (IsOnLeft left right keys) columns lefts × AreMoved (IsOnRight left right keys) columns rights
AreInBoth (plan.union left right) columns lefts rights = (lefts ≡ columns) × (rights ≡ columns)
AreInBoth p columns lefts rights = ⊥

-- it stays where it is, or goes on
abbrev pub IsWay : Way → Plan → List ℕ → Type 0
IsWay (way.Here others) p columns = others.items ≡ columns
IsWay (way.First others) p columns = AreInFirst p columns others.items
IsWay (way.Second others) p columns = AreInSecond p columns others.items
IsWay (way.Both lefts rights) p columns = AreInBoth p columns lefts.items rights.items

-- whatever columns they read, all go on in its only input or in the left one, in the same columns
abbrev pub TakesAll : Plan → Type 0
TakesAll (plan.semi left right keys keeping) = ⊤
TakesAll (plan.filter p test) = ⊤
TakesAll (plan.all_different p columns) = ⊤
TakesAll (plan.distinct p) = ⊤
TakesAll p = ⊥
