-- Truth: three values in the order No, Unknown, Yes, after Kleene. (openCypher 9, Boolean operators)
use Rattle.std.specs.Prelude.{ℕ, zero, suc, ◌-◌, Bool, true, false, min, max}
use Rattle.cy_values.specs.declared.truth.Truth.{Truth}
use Rattle.cy_values.specs.declared.truth.Truth.TheVariants.{No, Unknown, Yes}

-- where a truth stands in the order
abbrev pub rank : Truth → ℕ
rank No = 0
rank Unknown = 1
rank Yes = 2

-- the truth that stands there
abbrev pub ranked : ℕ → Truth
ranked zero = No
ranked (suc zero) = Unknown
ranked (suc (suc n)) = Yes

-- AND is the lesser
abbrev pub both : Truth → Truth → Truth
both a b = ranked (min (rank a) (rank b))

-- OR is the greater
abbrev pub one_at_least : Truth → Truth → Truth
one_at_least a b = ranked (max (rank a) (rank b))

-- NOT reverses the order
abbrev pub opposite : Truth → Truth
opposite a = ranked (2 - rank a)

-- XOR is Unknown where a side is, else whether the sides differ
abbrev pub one_alone : Truth → Truth → Truth
one_alone Unknown b = Unknown
one_alone a Unknown = Unknown
one_alone No b = b
one_alone Yes b = opposite b

-- what is known to hold or not to hold
abbrev pub known : Bool → Truth
known true = Yes
known false = No

abbrev pub is_yes : Truth → Bool
is_yes Yes = true
is_yes _ = false
