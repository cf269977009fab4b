-- Numbers: decimal digits. They are ASCII (own: this profile's choice, not in any standard).
use Rattle.std.specs.Prelude.{ℕ, ◌+◌, ◌-◌, ◌*◌, Bool, false, ◌&&◌, ◌||◌, ◌==◌, List, [], ◌∷◌}
use Rattle.std.specs.Char.{is_ascii_digit}
use Rattle.unicode_ident.specs.Ident.{is_xid_continue}

-- the number that decimal digits write, after digits that write `high`
abbrev pub number_of : ℕ → List ℕ → ℕ
number_of high [] = high
number_of high (d ∷ ds) = number_of (high * 10 + (d - 48)) ds

-- the greatest number that can be written: the absolute value of the least integer of 64 bits. A literal without a `-` is below it.
abbrev pub greatest_number : ℕ
greatest_number = 9223372036854775808

-- a digit begins the text
abbrev pub begins_with_digit : List ℕ → Bool
begins_with_digit [] = false
begins_with_digit (c ∷ cs) = is_ascii_digit c

-- what may not follow a number: a character that goes on with a name, or a `.` with a digit after it
abbrev pub spoils_number : List ℕ → Bool
spoils_number [] = false
spoils_number (c ∷ cs) = is_xid_continue c || ((c == 46) && begins_with_digit cs)

-- A number is written badly where a `0` stands before another digit, or where something that may not follow it does.
-- first is its first digit, after is what stands after that digit, and left is what stands after the last one.
abbrev pub is_bad_number : ℕ → List ℕ → List ℕ → Bool
is_bad_number first after left = ((first == 48) && begins_with_digit after) || spoils_number left
