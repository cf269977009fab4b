-- The bits of names.
use Rattle.std.proofs.Common.{◌≡◌, ℕ, ◌+◌, ◌*◌, ◌%◌, ◌^◌, ◌<◌, Bool, true, false, ◌||◌, List, [], ◌∷◌, Option, None, Some, map, refl, sym, subst, arith}
use Rattle.std.specs.List.{list_any}
use Rattle.std.specs.Str.{bytes_eq}
use Rattle.std.proofs.lemmas.Nat.{one_shl}
use Rattle.std.proofs.lemmas.Slice.Eq.{bytes_eq-Decides}
use Rattle.cy_trees.specs.Trees.{Name}
use Rattle.cy_graph.specs.declared.nodes.Node.{Node}
use Rattle.cy_graph.specs.declared.nodes.Rel.{Rel}
use Rattle.cy_network_relevance.specs.declared.masks.bits.Bits.{Bits}
use Rattle.cy_network_relevance.specs.NameBits.{AreBitsApart, joined_bits, lowest_bits, name_bits, no_bits, node_bits, place_bit, rel_bits, with_names}
use Rattle.cy_network_relevance.proofs.BitsApart.{apart_left, apart_right, not_apart_lowest, not_apart_name, turned}

-- a shift gives the bit
pub one_bit : (place : ℕ) → place < 63 → (1 * 2 ^ (place + 1)) % 2 ^ 64 ≡ place_bit place
one_bit place below = let few : place + 1 < 64 = omega (arith, below) in one_shl (place + 1) 64 few

-- what is apart from some bits and those of names is apart from these bits
pub apart_first : (o : Bits) (names : List Name) (bits : Bits) → AreBitsApart o (with_names bits names) → AreBitsApart o bits
apart_first o [] bits apart = apart
apart_first o (name ∷ names) bits apart = apart_left o bits (name_bits name) (apart_first o names (joined_bits bits (name_bits name)) apart)

-- and from those of one of the names
pub apart_named : (o : Bits) (name : Name) (test : Name → Bool) → ((other : Name) → test other ≡ true → other ≡ name) → (names : List Name) (bits : Bits)
    → AreBitsApart o (with_names bits names) → list_any test names ≡ true → AreBitsApart o (name_bits name)
apart_named o name test same [] bits apart among = let wrong : false ≡ true = among in absurd (cc)
apart_named o name test same (other ∷ names) bits apart among = by (apart_named o name test same names (joined_bits bits (name_bits other)) apart) (test other) refl among
  where
    by : (list_any test names ≡ true → AreBitsApart o (name_bits name)) → (b : Bool) → test other ≡ b → (b || list_any test names) ≡ true → AreBitsApart o (name_bits name)
    by later true is found =
        subst (λ (n : Name). AreBitsApart o (name_bits n)) (same other is)
        (apart_right o bits (name_bits other) (apart_first o names (joined_bits bits (name_bits other)) apart))
    by later false is found = later found

-- the bits of a name aren't apart from those of names that has it
among_bits : (name : Name) (test : Name → Bool) → ((other : Name) → test other ≡ true → other ≡ name) → (names : List Name) (bits : Bits)
    → AreBitsApart (name_bits name) (with_names bits names) → list_any test names ≡ true → ⊥
among_bits name test same names bits apart among = not_apart_name name (apart_named (name_bits name) name test same names bits apart among)

true_or_false : {X : Type 0} (b : Bool) → (b ≡ true → X) → (b ≡ false → X) → X
true_or_false true first second = first refl
true_or_false false first second = second refl

-- a node whose bits are apart from those of a label is without the label
pub lacks_label : (label : Name) (node : Node) → AreBitsApart (name_bits label) (node_bits (Some node)) → list_any (bytes_eq label) (map (λ l. l.0) node.labels) ≡ false
lacks_label label node apart =
    true_or_false (list_any (bytes_eq label) (map (λ l. l.0) node.labels))
    (λ among. absurd (among_bits label (bytes_eq label) (λ other is. sym ((bytes_eq-Decides label other).0 is)) (map (λ l. l.0) node.labels) lowest_bits apart among)) (λ without. without)

-- a relationship whose bits are apart from those of types is of apart of them
pub lacks_types : (types : List Name) (rel : Rel) → AreBitsApart (with_names no_bits types) (rel_bits (Some rel)) → list_any (λ t. bytes_eq t rel.kind) types ≡ false
lacks_types types rel apart =
    true_or_false (list_any (λ t. bytes_eq t rel.kind) types)
    (λ among. absurd (not_apart_name rel.kind (apart_named (name_bits rel.kind) rel.kind (λ t. bytes_eq t rel.kind) (λ other is. (bytes_eq-Decides other rel.kind).0 is) types no_bits
    (turned (with_names no_bits types) (name_bits rel.kind) (apart_right (with_names no_bits types) lowest_bits (name_bits rel.kind) apart)) among))) (λ without. without)

-- what is apart from the lowest bits isn't there
pub no_node : (o : Option Node) → AreBitsApart lowest_bits (node_bits o) → o ≡ None
no_node None apart = refl
no_node (Some node) apart = absurd (not_apart_lowest (apart_first lowest_bits (map (λ l. l.0) node.labels) lowest_bits apart))

pub no_rel : (o : Option Rel) → AreBitsApart lowest_bits (rel_bits o) → o ≡ None
no_rel None apart = refl
no_rel (Some rel) apart = absurd (not_apart_lowest (apart_left lowest_bits lowest_bits (name_bits rel.kind) apart))
