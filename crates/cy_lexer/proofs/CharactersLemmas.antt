-- Lemmas on the characters of a line.
use Rattle.std.proofs.Common.{◌≡◌, ℕ, zero, suc, ◌+◌, ◌-◌, ◌<◌, Bool, true, false, if◌then◌else◌, ◌||◌, ◌==◌, List, [], ◌∷◌, ◌++◌, length, take, drop, get_or, nat_eq, refl, sym, ap, ◌∙◌, arith, add-one}
use Rattle.std.specs.Char.{encode_utf8, is_ascii, is_ascii_alphabetic, is_ascii_alphanumeric}
use Rattle.std.specs.List.{prefix_len}
use Rattle.std.specs.Cmp.Lexicographic.{pointwise}
use Rattle.std.proofs.Math.Seq.{drop-cons}
use Rattle.std.specs.Str.{chars, IsUtf8, encode_utf8_all, IsCharBoundary}
use Rattle.std.proofs.lemmas.Str.{encode_ascii, chars_past_char, IsUtf8-drop, encodes-chars, encodes-append, IsCharBoundary-at_seam}
use Rattle.std.proofs.lemmas.List.{drop-drop, take-append-drop, length-append, length-drop, take_at, drop_at}
use Rattle.std.proofs.lemmas.Slice.Eq.{bytes_eq-Decides}
use borrow.Author.Tests.{ltb-true}
use Rattle.unicode_ident.proofs.IdentLemmas.{is_xid_start-ascii, is_xid_continue-ascii}
use Rattle.cy_lexer.specs.declared.characters.Run.{Run}
use Rattle.cy_lexer.specs.declared.characters.Run.TheVariants.{Name}
use Rattle.cy_lexer.specs.Characters.{before, offset_in, starts_name, goes_on}
use Rattle.cy_lexer.specs.internal.Reading.{offset}

-- how many bytes characters take, part by part
pub size_of : (part rest : List ℕ) → length (encode_utf8_all (part ++ rest)) ≡ length (encode_utf8_all part) + length (encode_utf8_all rest)
size_of part rest = ap length (encodes-append part rest) ∙ length-append (encode_utf8_all part) (encode_utf8_all rest)

-- where the text bs begins, which ends a line of total bytes
pub offset-chars : (total : ℕ) (bs : List ℕ) → IsUtf8 bs → offset total (chars bs) ≡ total - length bs
offset-chars total bs u = ap (λ (x : List ℕ). total - length x) (encodes-chars bs u)

pub offset_of_text : (total c : ℕ) (bs cs : List ℕ) → IsUtf8 bs → chars bs ≡ c ∷ cs → offset total (c ∷ cs) ≡ total - length bs
offset_of_text total c bs cs u e = ap (λ (x : List ℕ). offset total x) (sym e) ∙ offset-chars total bs u

-- after one character more
pub drop-past : (i : ℕ) (xs whole cs : List ℕ) (c : ℕ) → whole ≡ c ∷ cs → whole ≡ drop i xs → cs ≡ drop (i + 1) xs
drop-past i xs whole cs c e at = ap (λ (x : List ℕ). drop 1 x) (sym e ∙ at) ∙ simp drop-drop

-- a text whose characters are the last ones of another ends it
pub front_bytes : (bs ds : List ℕ) (n : ℕ) → IsUtf8 bs → IsUtf8 ds → chars ds ≡ drop n (chars bs) → bs ≡ encode_utf8_all (take n (chars bs)) ++ ds
front_bytes bs ds n u v e =
    sym (encodes-chars bs u)
    ∙ ap encode_utf8_all (sym (take-append-drop n (chars bs)))
    ∙ encodes-append (take n (chars bs)) (drop n (chars bs))
    ∙ ap (λ (x : List ℕ). encode_utf8_all (take n (chars bs)) ++ x) (ap encode_utf8_all (sym e) ∙ encodes-chars ds v)

front_len : (bs xs ds : List ℕ) → bs ≡ xs ++ ds → length bs - length ds ≡ length xs
front_len bs xs ds e = omega (arith, ap length e, length-append xs ds)

take_front : (bs xs ds : List ℕ) → bs ≡ xs ++ ds → take (length bs - length ds) bs ≡ xs
take_front bs xs ds e = rw e (take_at xs ds _ (omega (arith, length-append xs ds)))

drop_front : (bs xs ds : List ℕ) → bs ≡ xs ++ ds → drop (length bs - length ds) bs ≡ ds
drop_front bs xs ds e = rw e (drop_at xs ds _ (omega (arith, length-append xs ds)))

-- what stands before the last characters of a line are its first ones
not_left : (c : ℕ) (cs : List ℕ) (n : ℕ) (b : Bool) → pointwise nat_eq (c ∷ cs) (drop n cs) ≡ b → b ≡ false
not_left c cs n true same =
    let e : length (c ∷ cs) ≡ length (drop n cs) = ap length ((bytes_eq-Decides (c ∷ cs) (drop n cs)).0 same) in
    absurd (omega (arith, e, length-drop n cs))
not_left c cs n false same = refl

before-drop : (n : ℕ) (cs : List ℕ) → before cs (drop n cs) ≡ take n cs
before-drop zero [] = refl
before-drop (suc n) [] = refl
before-drop zero (c ∷ cs) = ap (λ (b : Bool). if b then [] else c ∷ before cs (c ∷ cs)) ((bytes_eq-Decides (c ∷ cs) (c ∷ cs)).1 refl)
before-drop (suc n) (c ∷ cs) =
    ap (λ (b : Bool). if b then [] else c ∷ before cs (drop n cs)) (not_left c cs n (pointwise nat_eq (c ∷ cs) (drop n cs)) refl)
    ∙ ap (λ (x : List ℕ). c ∷ x) (before-drop n cs)

-- where the last characters of a line begin, by what stands before them and by the line's end
pub offset_in-offset : (line : List ℕ) (n : ℕ) → IsUtf8 line → offset_in (chars line) (drop n (chars line)) ≡ offset (length line) (drop n (chars line))
offset_in-offset line n u =
    let cs = chars line in
    let parts : cs ≡ take n cs ++ drop n cs = sym (take-append-drop n cs) in
    let sizes : length (encode_utf8_all cs) ≡ length (encode_utf8_all (take n cs)) + length (encode_utf8_all (drop n cs)) = ap (λ (x : List ℕ). length (encode_utf8_all x)) parts ∙ size_of (take n cs) (drop n cs) in
    let whole : length (encode_utf8_all cs) ≡ length line = ap length (encodes-chars line u) in
    ap (λ (x : List ℕ). length (encode_utf8_all x)) (before-drop n cs) ∙ omega (arith, sizes, whole)

-- the bytes before the last characters, and where these begin
pub take-suffix : (bs ds : List ℕ) (n : ℕ) → IsUtf8 bs → IsUtf8 ds → chars ds ≡ drop n (chars bs) → take (length bs - length ds) bs ≡ encode_utf8_all (take n (chars bs))
take-suffix bs ds n u v e = take_front bs (encode_utf8_all (take n (chars bs))) ds (front_bytes bs ds n u v e)

pub suffix-drop : (bs ds : List ℕ) (n : ℕ) → IsUtf8 bs → IsUtf8 ds → chars ds ≡ drop n (chars bs) → ds ≡ drop (length bs - length ds) bs
suffix-drop bs ds n u v e = sym (drop_front bs (encode_utf8_all (take n (chars bs))) ds (front_bytes bs ds n u v e))

pub suffix-boundary : (bs ds : List ℕ) (n : ℕ) → IsUtf8 bs → IsUtf8 ds → chars ds ≡ drop n (chars bs) → IsCharBoundary bs (length bs - length ds)
suffix-boundary bs ds n u v e =
    let parts = front_bytes bs ds n u v e in
    rw (front_len bs (encode_utf8_all (take n (chars bs))) ds parts) (IsCharBoundary-at_seam bs (encode_utf8_all (take n (chars bs))) ds parts v)

-- names of ASCII characters
pub starts_name-ascii : (c : ℕ) (letter : Bool) → is_ascii c ≡ true → letter ≡ is_ascii_alphabetic c → letter || (c == 95) ≡ starts_name c
starts_name-ascii c letter small e = ap (λ (b : Bool). b || (c == 95)) (e ∙ sym (is_xid_start-ascii c (ltb-true c 128 small)))

pub goes_on-ascii : (run : Run) (c : ℕ) (letter : Bool) → run ≡ Name → is_ascii c ≡ true → letter ≡ is_ascii_alphanumeric c → letter || (c == 95) ≡ goes_on run c
goes_on-ascii run c letter name small e = rw name (ap (λ (b : Bool). b || (c == 95)) e ∙ sym (is_xid_continue-ascii c (ltb-true c 128 small)))

-- a byte of ASCII is a character, and the text may be cut after it
pub ascii_step : (bs : List ℕ) (i : ℕ) → IsUtf8 bs → IsCharBoundary bs i → i < length bs → get_or bs i 0 < 128 → chars (drop i bs) ≡ get_or bs i 0 ∷ chars (drop (i + 1) bs)
ascii_step bs i u cut within small =
    let b = get_or bs i 0 in
    let split : drop i bs ≡ encode_utf8 b ++ drop (i + 1) bs = rw (encode_ascii b small) (rw (add-one, drop-cons bs i 0) refl) in
    chars_past_char (drop i bs) (drop (i + 1) bs) b (IsUtf8-drop bs i u cut) split

-- what a run leaves
pub run_step : (p : ℕ → Bool) (c : ℕ) (whole cs : List ℕ) → whole ≡ c ∷ cs → p c ≡ true → drop (prefix_len p whole) whole ≡ drop (prefix_len p cs) cs
run_step p c whole cs e goes =
    let one : 1 + prefix_len p cs ≡ suc (prefix_len p cs) = omega arith in
    rw e (rw goes (ap (λ (n : ℕ). drop n (c ∷ cs)) one))

pub run_stop : (p : ℕ → Bool) (c : ℕ) (whole cs : List ℕ) → whole ≡ c ∷ cs → p c ≡ false → drop (prefix_len p whole) whole ≡ whole
run_stop p c whole cs e stops = rw e (rw stops refl)
