-- What a key gives to a hasher.
use Rattle.std.specs.Prelude.{◌≡◌, ℕ, ◌+◌, ◌*◌, ◌^◌, List, ◌++◌}
use Rattle.std.specs.Bool.{IsTrue}
use Rattle.std.specs.Hash as fed
use Rattle.std.specs.Int.{w64, cast_unsigned}
use Rattle.std.specs.Cmp.Lexicographic.{bytes_decides}
use Rattle.std.proofs.Common.{ap, ◌∙◌}
use Rattle.std.proofs.lemmas.Bool.{and_parts, eqb-true}
use Rattle.cy_values.specs.declared.scalars.Value.{Value}
use Rattle.cy_values.specs.declared.scalars.Value.TheVariants as value
use Rattle.cy_values.specs.contracts.scalars.ValueHash.TheImpl as values
use Rattle.cy_graph.proofs.Same.{same_values}
use Rattle.cy_index.specs.contracts.keys.KeyPartialEq.TheImpl as keys
use Rattle.cy_index.specs.declared.keys.Key.{Key}
use Rattle.cy_index.specs.declared.keys.Key.TheVariants as key

-- what a value in the index at a place gives: an integer goes with the place into one write
abbrev pub prop_input : ℕ → Value → List (List ℕ)
prop_input place (value.Int number) = fed.u128 (place * 2 ^ 64 + cast_unsigned w64 number)
prop_input place (value.Text text) = fed.usize place ++ fed.str text
prop_input place (value.Bool truth) = fed.usize place ++ values.ghosts.hash_input (value.Bool truth)
prop_input place (value.List scalars) = fed.usize place ++ values.ghosts.hash_input (value.List scalars)
prop_input place value.Null = fed.usize place ++ values.ghosts.hash_input value.Null

-- what a key gives, without a word on which it is
abbrev pub key_input : Key → List (List ℕ)
key_input (key.Label label) = fed.str label
key_input (key.Prop place value) = prop_input place value

-- equal keys give the same
pub keys_alike : (k l : Key) → IsTrue (keys.ghosts.eq k l) → key_input k ≡ key_input l
keys_alike (key.Label s) (key.Label t) e = ap fed.str ((bytes_decides s t).0 e)
keys_alike (key.Prop p v) (key.Prop q w) e =
    ap (λ place. prop_input place v) (eqb-true p q (and_parts _ _ e).0) ∙ ap (prop_input q) (same_values v w (and_parts _ _ e).1)
keys_alike (key.Label _) (key.Prop _ _) e = cc
keys_alike (key.Prop _ _) (key.Label _) e = cc
