-- The tokens of an object that is written field by field.
use Rattle.std.proofs.Common.{◌≡◌, ◌++◌, ◌∷◌, [], ℕ, List}
use Rattle.std.proofs.lemmas.List.{append_assoc}
use Rattle.json.specs.Token.{Token, begin_object, end_object}
use Rattle.serde_json.specs.Data.{Data, object, member, no_members}
use Rattle.cy_shell.specs.internal.Tokens.{tokens_of, field_tokens}

pub three_fields : (old t0 t1 t2 t3 : List Token) (a b c : List ℕ) (x y z : Data) → t0 ≡ old ++ begin_object ∷ [] → t1 ≡ t0 ++ field_tokens a x
    → t2 ≡ t1 ++ field_tokens b y → t3 ≡ t2 ++ field_tokens c z
    → t3 ++ end_object ∷ [] ≡ old ++ tokens_of (object (member a x (member b y (member c z no_members))))
three_fields old t0 t1 t2 t3 a b c x y z e0 e1 e2 e3 = rw (e3, e2, e1, e0) (simp append_assoc)
