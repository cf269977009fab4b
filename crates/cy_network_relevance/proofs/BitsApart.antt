-- Bits that are apart.
use Rattle.std.proofs.Common.{◌≡◌, ℕ, ◌+◌, ◌/◌, ◌%◌, ◌<◌, min, max, sym, ap, ◌∙◌, inl, inr, arith}
use Rattle.std.specs.Int.{bit_at}
use Rattle.std.specs.Int.Bits.{and_self, bit_and}
use Rattle.std.specs.Int.RustNames.{bit_or}
use Rattle.std.proofs.lemmas.Nat.{and_comm, or_comm, pow_pos}
use Rattle.std.proofs.lemmas.Nat.Bits.{bit_at_and, bit_at_or, bit_at-zero, same_from_bits}
use Rattle.cy_trees.specs.Trees.{Name}
use Rattle.cy_network_relevance.specs.declared.masks.bits.Bits.{Bits}
use Rattle.cy_network_relevance.specs.NameBits.{AreBitsApart, joined_bits, lowest_bits, name_bits, name_sum, place_bit}

-- ---- one word

least : (o a b : ℕ) → min o (max a b) ≡ 0 → min o a ≡ 0
least o a b none = omega (arith, none)

-- what has nothing in common with the bits of both has nothing in common with those of each
word_left : (o a b : ℕ) → bit_and o (bit_or a b) ≡ 0 → bit_and o a ≡ 0
word_left o a b none = same_from_bits (bit_and o a) 0 (λ i. by i)
  where
    both : (i : ℕ) → min (bit_at o i) (max (bit_at a i) (bit_at b i)) ≡ 0
    both i = sym (ap (min (bit_at o i)) (bit_at_or a b i)) ∙ sym (bit_at_and o (bit_or a b) i) ∙ ap (λ n. bit_at n i) none ∙ bit_at-zero i

    by : (i : ℕ) → bit_at (bit_and o a) i ≡ bit_at 0 i
    by i = bit_at_and o a i ∙ least (bit_at o i) (bit_at a i) (bit_at b i) (both i) ∙ sym (bit_at-zero i)

word_right : (o a b : ℕ) → bit_and o (bit_or a b) ≡ 0 → bit_and o b ≡ 0
word_right o a b none = word_left o b a (ap (bit_and o) (or_comm b a) ∙ none)

-- a word with a bit has it in common with itself
not_itself : (n : ℕ) → 0 < n → bit_and n n ≡ 0 → ⊥
not_itself n some none = let zero : n ≡ 0 = sym (and_self n) ∙ none in omega (arith, some, zero)

-- ---- both words

-- what is apart from the bits of both is apart from those of each
pub apart_left : (o a b : Bits) → AreBitsApart o (joined_bits a b) → AreBitsApart o a
apart_left o a b (inl none) = inl (word_left o.first a.first b.first none)
apart_left o a b (inr none) = inr (word_left o.second a.second b.second none)

pub apart_right : (o a b : Bits) → AreBitsApart o (joined_bits a b) → AreBitsApart o b
apart_right o a b (inl none) = inl (word_right o.first a.first b.first none)
apart_right o a b (inr none) = inr (word_right o.second a.second b.second none)

-- whichever is named first
pub turned : (a b : Bits) → AreBitsApart a b → AreBitsApart b a
turned a b (inl none) = inl (and_comm b.first a.first ∙ none)
turned a b (inr none) = inr (and_comm b.second a.second ∙ none)

pub left_apart : (o a b : Bits) → AreBitsApart (joined_bits a b) o → AreBitsApart a o
left_apart o a b apart = turned o a (apart_left o a b (turned (joined_bits a b) o apart))

pub right_apart : (o a b : Bits) → AreBitsApart (joined_bits a b) o → AreBitsApart b o
right_apart o a b apart = turned o b (apart_right o a b (turned (joined_bits a b) o apart))

-- the bits of a name, and the lowest, aren't apart from themselves
pub not_apart_name : (name : Name) → AreBitsApart (name_bits name) (name_bits name) → ⊥
not_apart_name name (inl none) = not_itself (place_bit (name_sum 0 name % 63)) (pow_pos (name_sum 0 name % 63 + 1)) none
not_apart_name name (inr none) = not_itself (place_bit (name_sum 0 name / 63 % 63)) (pow_pos (name_sum 0 name / 63 % 63 + 1)) none

pub not_apart_lowest : AreBitsApart lowest_bits lowest_bits → ⊥
not_apart_lowest (inl none) = not_itself 1 (omega (arith)) none
not_apart_lowest (inr none) = not_itself 1 (omega (arith)) none
