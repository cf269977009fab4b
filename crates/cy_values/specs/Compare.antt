-- Whether two values are equal, and whether one is less than the other. Texts go by their bytes, which is by code points.
-- (one type: openCypher 9, Comparison operators; lists and different types: own)
use Rattle.std.specs.Prelude.{◌==◌, Bool, true, false, List, [], ◌∷◌, length, nat_eq, if◌then◌else◌}
use Rattle.std.specs.Ordering.{is_lt, nat_cmp, int_cmp, bool_cmp, eq_by_cmp}
use Rattle.std.specs.Str.{bytes_eq}
use Rattle.std.specs.Cmp.Lexicographic.{slice_cmp}
use Rattle.cy_values.specs.declared.scalars.Scalar.{Scalar}
use Rattle.cy_values.specs.declared.scalars.Scalar.TheVariants as scalar
use Rattle.cy_values.specs.declared.scalars.Value.{Value}
use Rattle.cy_values.specs.declared.scalars.Value.TheVariants as value
use Rattle.cy_values.specs.declared.truth.Truth.{Truth}
use Rattle.cy_values.specs.declared.truth.Truth.TheVariants.{No, Unknown, Yes}
use Rattle.cy_values.specs.declared.views.ValueRef.{ValueRef}
use Rattle.cy_values.specs.declared.views.ValueRef.TheVariants as view
use Rattle.cy_values.specs.Truth.{both, known, is_yes}

abbrev pub is_null : Value → Bool
is_null value.Null = true
is_null _ = false

-- an element of a list, as a value of its own
abbrev pub value_in : Scalar → Value
value_in (scalar.Text t) = value.Text t
value_in (scalar.Bool b) = value.Bool b
value_in (scalar.Int n) = value.Int n
value_in scalar.Null = value.Null

-- the value that is lent
abbrev pub lent : ValueRef → Value
lent (view.List es) = value.List es.now
lent (view.Text t) = value.Text t.now
lent (view.Bool b) = value.Bool b
lent (view.Int n) = value.Int n
lent view.Null = value.Null

-- `=` of two values that aren't both lists: null with null, of one type whether they are the same, of two types No
abbrev pub plain_equality : Value → Value → Truth
plain_equality value.Null y = Unknown
plain_equality x value.Null = Unknown
plain_equality (value.Text s) (value.Text t) = known (bytes_eq s t)
plain_equality (value.Bool a) (value.Bool b) = known (eq_by_cmp bool_cmp a b)
plain_equality (value.Int m) (value.Int n) = known (eq_by_cmp int_cmp m n)
plain_equality x y = No

-- the AND of the elements' `=`, place by place
abbrev pub all_equality : List Scalar → List Scalar → Truth
all_equality (x ∷ xs) (y ∷ ys) = both (plain_equality (value_in x) (value_in y)) (all_equality xs ys)
all_equality _ _ = Yes

-- `=`: of lists of different lengths No, else the AND of the elements' `=`; of other values as above
abbrev pub equality : Value → Value → Truth
equality (value.List xs) (value.List ys) = if length xs == length ys then all_equality xs ys else No
equality x y = plain_equality x y

-- `<` of two values that aren't both lists: null with null and between different types; texts by code points, false before
-- true, integers by value
abbrev pub plain_less : Value → Value → Truth
plain_less (value.Text s) (value.Text t) = known (is_lt (slice_cmp nat_cmp s t))
plain_less (value.Bool a) (value.Bool b) = known (is_lt (bool_cmp a b))
plain_less (value.Int m) (value.Int n) = known (is_lt (int_cmp m n))
plain_less x y = Unknown

-- `<` of two lists: that of their elements at the first place that both have and where `=` of the elements isn't Yes, and
-- where there is no such place Yes if the left list is shorter, else No
abbrev pub list_less : List Scalar → List Scalar → Truth
list_less (x ∷ xs) (y ∷ ys) = if is_yes (plain_equality (value_in x) (value_in y)) then list_less xs ys else plain_less (value_in x) (value_in y)
list_less [] (y ∷ ys) = Yes
list_less _ [] = No

-- `<`, of lists and of other values as above
abbrev pub less : Value → Value → Truth
less (value.List xs) (value.List ys) = list_less xs ys
less x y = plain_less x y
