-- Characters in quotes, one by one.
use Rattle.std.proofs.Common.{◌≡◌, ℕ, true, false, List, [], ◌∷◌, ◌++◌, length, arith, refl}
use Rattle.std.specs.Prelude.{encode_utf8, encode_utf8_all, chars, ◌==◌, ◌||◌}
use Rattle.std.specs.Str.{IsUtf8}
use Rattle.std.proofs.lemmas.List.{append_assoc, append-nil}
use Rattle.std.proofs.lemmas.Str.{chars_past_char, chars-nil}
use Rattle.cy_lexer.specs.Words.{doubled, escaped}

pub encodes_append : (cs ds : List ℕ) → encode_utf8_all (cs ++ ds) ≡ encode_utf8_all cs ++ encode_utf8_all ds
encodes_append [] ds = refl
encodes_append (c ∷ cs) ds = grind (arith, append_assoc, encodes_append cs ds)

doubled_plain : (c : ℕ) (cs : List ℕ) → (c ≡ 96 → ⊥) → encode_utf8_all (doubled (c ∷ cs)) ≡ encode_utf8 c ++ encode_utf8_all (doubled cs)
doubled_plain c cs other = grind arith

doubled_backtick : (c : ℕ) (cs : List ℕ) → c ≡ 96 → encode_utf8_all (doubled (c ∷ cs)) ≡ encode_utf8 96 ++ (encode_utf8 c ++ encode_utf8_all (doubled cs))
doubled_backtick c cs same = grind arith

pub name_other : (t w bs rest : List ℕ) (c : ℕ) → IsUtf8 bs → bs ≡ encode_utf8 c ++ rest → (c ≡ 96 → ⊥) → t ++ encode_utf8_all (doubled (chars bs)) ≡ w → (t ++ encode_utf8 c) ++ encode_utf8_all (doubled (chars rest)) ≡ w
name_other t w bs rest c valid split other before =
    let front = chars_past_char bs rest c valid split in
    let plain = doubled_plain c (chars rest) other in
    grind (arith, append_assoc, front, plain, before)

pub name_backtick : (t w bs rest : List ℕ) (c : ℕ) → IsUtf8 bs → bs ≡ encode_utf8 c ++ rest → c ≡ 96 → t ++ encode_utf8_all (doubled (chars bs)) ≡ w → ((t ++ encode_utf8 96) ++ encode_utf8 c) ++ encode_utf8_all (doubled (chars rest)) ≡ w
name_backtick t w bs rest c valid split same before =
    let front = chars_past_char bs rest c valid split in
    let plain = doubled_backtick c (chars rest) same in
    grind (arith, append_assoc, front, plain, before)

pub name_end : (t old cs bs : List ℕ) → length bs ≡ 0 → t ++ encode_utf8_all (doubled (chars bs)) ≡ old ++ encode_utf8_all (96 ∷ doubled cs) → t ++ encode_utf8 96 ≡ old ++ encode_utf8_all (96 ∷ (doubled cs ++ 96 ∷ []))
name_end t old cs [] none before =
    let back = encodes_append (doubled cs) (96 ∷ []) in
    grind (arith, append_assoc, append-nil, chars-nil, back, before)
name_end t old cs (b ∷ bs) none before = grind arith

escaped_plain : (c : ℕ) (cs : List ℕ) → ((c == 92) || (c == 39)) ≡ false → encode_utf8_all (escaped (c ∷ cs)) ≡ encode_utf8 c ++ encode_utf8_all (escaped cs)
escaped_plain c cs other = grind arith

escaped_quote : (c : ℕ) (cs : List ℕ) → ((c == 92) || (c == 39)) ≡ true → encode_utf8_all (escaped (c ∷ cs)) ≡ encode_utf8 92 ++ (encode_utf8 c ++ encode_utf8_all (escaped cs))
escaped_quote c cs same = grind arith

pub text_other : (t w bs rest : List ℕ) (c : ℕ) → IsUtf8 bs → bs ≡ encode_utf8 c ++ rest → ((c == 92) || (c == 39)) ≡ false → t ++ encode_utf8_all (escaped (chars bs)) ≡ w → (t ++ encode_utf8 c) ++ encode_utf8_all (escaped (chars rest)) ≡ w
text_other t w bs rest c valid split other before =
    let front = chars_past_char bs rest c valid split in
    let plain = escaped_plain c (chars rest) other in
    grind (arith, append_assoc, front, plain, before)

pub text_quote : (t w bs rest : List ℕ) (c : ℕ) → IsUtf8 bs → bs ≡ encode_utf8 c ++ rest → ((c == 92) || (c == 39)) ≡ true → t ++ encode_utf8_all (escaped (chars bs)) ≡ w → ((t ++ encode_utf8 92) ++ encode_utf8 c) ++ encode_utf8_all (escaped (chars rest)) ≡ w
text_quote t w bs rest c valid split same before =
    let front = chars_past_char bs rest c valid split in
    let plain = escaped_quote c (chars rest) same in
    grind (arith, append_assoc, front, plain, before)

pub text_end : (t old cs bs : List ℕ) → length bs ≡ 0 → t ++ encode_utf8_all (escaped (chars bs)) ≡ old ++ encode_utf8_all (39 ∷ escaped cs) → t ++ encode_utf8 39 ≡ old ++ encode_utf8_all (39 ∷ (escaped cs ++ 39 ∷ []))
text_end t old cs [] none before =
    let back = encodes_append (escaped cs) (39 ∷ []) in
    grind (arith, append_assoc, append-nil, chars-nil, back, before)
text_end t old cs (b ∷ bs) none before = grind arith
