-- The bits of names: a name has one of 63 bits in each of two words, and what has names has theirs. In one word names often share a bit, in both they seldom do;
-- so two have no name in common where in one of the words they have no bit in common. (superimposed coding: Mooers; Bloom filters in parts, a word for each function)
use Rattle.std.specs.Prelude.{◌≡◌, ◌⊎◌, ℕ, ◌+◌, ◌*◌, ◌/◌, ◌%◌, ◌^◌, List, [], ◌∷◌, Option, None, Some, map}
use Rattle.std.specs.Int.Bits.{bit_and}
use Rattle.std.specs.Int.RustNames.{bit_or}
use Rattle.cy_trees.specs.Trees.{Name}
use Rattle.cy_graph.specs.declared.nodes.Node.{Node}
use Rattle.cy_graph.specs.declared.nodes.Rel.{Rel}
use Rattle.cy_network_relevance.specs.declared.masks.bits.Bits.{Bits}

-- no bit
abbrev pub no_bits : Bits
no_bits = record { first = 0; second = 0 }

-- the lowest bit of each word
abbrev pub lowest_bits : Bits
lowest_bits = record { first = 1; second = 1 }

-- the bits of both
abbrev pub joined_bits : Bits → Bits → Bits
joined_bits a b = record { first = bit_or a.first b.first; second = bit_or a.second b.second }

-- in one of the words they have no bit in common
abbrev pub AreBitsApart : Bits → Bits → Type 0
AreBitsApart a b = (bit_and a.first b.first ≡ 0) ⊎ (bit_and a.second b.second ≡ 0)

-- a number below 2^32 for the bytes of a name, after those that gave this one (the hash of sdbm)
abbrev pub name_sum : ℕ → Name → ℕ
name_sum sum [] = sum
name_sum sum (byte ∷ bytes) = name_sum ((sum * 65599 + byte) % 4294967296) bytes

-- the bit at one of the 63 places of a word that are above the lowest
abbrev pub place_bit : ℕ → ℕ
place_bit place = 2 ^ (place + 1)

-- the bits of a name: their places are the last two digits of its number to the base 63
abbrev pub name_bits : Name → Bits
name_bits name = record { first = place_bit (name_sum 0 name % 63); second = place_bit (name_sum 0 name / 63 % 63) }

-- some bits, and those of names
abbrev pub with_names : Bits → List Name → Bits
with_names bits [] = bits
with_names bits (name ∷ names) = with_names (joined_bits bits (name_bits name)) names

-- the bits of a node that is there: the lowest, and those of its labels
abbrev pub node_bits : Option Node → Bits
node_bits None = no_bits
node_bits (Some node) = with_names lowest_bits (map (λ l. l.0) node.labels)

-- the bits of a relationship that is there: the lowest, and those of its type
abbrev pub rel_bits : Option Rel → Bits
rel_bits None = no_bits
rel_bits (Some rel) = joined_bits lowest_bits (name_bits rel.kind)
