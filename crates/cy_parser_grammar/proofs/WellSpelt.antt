-- What tokens of a line spell is well formed: expressions.
use Rattle.std.proofs.Common.{◌≡◌, ℕ, zero, suc, ◌≤◌, ◌<◌, ◌+◌, ◌/◌, Bool, true, false, IsTrue, List, [], ◌∷◌, ◌++◌, Ok, refl, sym, ap, ◌∙◌, subst, append_assoc, map, if◌then◌else◌, nat_lt, arith}
use Rattle.std.specs.Prelude.{chars, encode_utf8_all}
use Rattle.std.specs.Char.{to_ascii_lowercase}
use Rattle.std.specs.Str.{IsUtf8, all_scalars}
use Rattle.std.proofs.lemmas.Bool.{and_parts, and_from}
use Rattle.std.proofs.lemmas.Bool.Decides.{nat_tests}
use Rattle.std.proofs.lemmas.Str.Ascii.{lowercase_ascii, lowercase-lowercase, lowercase_is}
use Rattle.std.proofs.lemmas.Str.{encode_ascii}
use Rattle.std.proofs.lemmas.List.{map-append}
use lib.Utf8.{scalar, encode, next, low_scalar}
use Rattle.cy_lexer.specs.declared.tokens.Token.{Token}
use Rattle.cy_lexer.specs.declared.tokens.TokenKind.{TokenKind}
use Rattle.cy_lexer.specs.declared.tokens.TokenKind.TheVariants as kind
use Rattle.cy_lexer.specs.Spans.{slice_of}
use Rattle.cy_lexer.specs.Tokens.{tokens_of, denoted}
use Rattle.cy_lexer.proofs.LexedLemmas.{IsLexed, IsMeant, IsMeant-some, tokens_of-lexed, Every-back}
use Rattle.cy_trees.specs.Trees.{Name, Expression, Expressions, no_more, more, call, integer, Links, no_links, link, comparison, Arms, arm, no_arms, Otherwise, case}
use Rattle.cy_parser_grammar.specs.Words.{is_word, is_name, denotes, lowered, negated}
use Rattle.cy_lexer.specs.Numbers.{greatest_number}
use Rattle.cy_parser_grammar.specs.Spells as spell
use Rattle.cy_parser_grammar.specs.Spells.{Spells, SpellsAll, SpellsLabels, SpellsLinks, SpellsArms, SpellsOtherwise, Level}
use Rattle.cy_parser_grammar.specs.internal.WellFormed.{IsNamed, IsText, IsFunction, Every, Several, IsWellFormed, AreWellFormed, LinksAreWellFormed, ArmsAreWellFormed, OtherwiseIsWellFormed}
use Rattle.cy_parser_grammar.proofs.ShownTokens.{denotes_within}

-- ---- names in lower case

same_above : (b : ℕ) → 90 < b → to_ascii_lowercase b ≡ b
same_above b above = (lowercase_is b).2 above

same_two : (a b : ℕ) → 90 < a → 90 < b → map to_ascii_lowercase (a ∷ b ∷ []) ≡ a ∷ b ∷ []
same_two a b x y = rw (same_above a x, same_above b y) refl

same_three : (a b c : ℕ) → 90 < a → 90 < b → 90 < c → map to_ascii_lowercase (a ∷ b ∷ c ∷ []) ≡ a ∷ b ∷ c ∷ []
same_three a b c x y z = rw (same_above a x, same_above b y, same_above c z) refl

same_four : (a b c d : ℕ) → 90 < a → 90 < b → 90 < c → 90 < d → map to_ascii_lowercase (a ∷ b ∷ c ∷ d ∷ []) ≡ a ∷ b ∷ c ∷ d ∷ []
same_four a b c d x y z w = rw (same_above a x, same_above b y, same_above c z, same_above d w) refl

by_size : (one two three four : List ℕ) → map to_ascii_lowercase one ≡ one → map to_ascii_lowercase two ≡ two → map to_ascii_lowercase three ≡ three →
    map to_ascii_lowercase four ≡ four → (a b c : Bool) →
    map to_ascii_lowercase (if a then one else if b then two else if c then three else four) ≡ (if a then one else if b then two else if c then three else four)
by_size one two three four p q r s true b c = p
by_size one two three four p q r s false true c = q
by_size one two three four p q r s false false true = r
by_size one two three four p q r s false false false = s

lowered_high : (c : ℕ) → 128 ≤ c → map to_ascii_lowercase (encode c) ≡ encode c
unfolding encode
lowered_high c large =
    let one : map to_ascii_lowercase (c ∷ []) ≡ c ∷ [] = rw (same_above c (omega (arith, large))) refl in
    by_size (c ∷ []) ((192 + c / 64) ∷ next c ∷ []) ((224 + c / 4096) ∷ next (c / 64) ∷ next c ∷ []) ((240 + c / 262144) ∷ next (c / 4096) ∷ next (c / 64) ∷ next c ∷ [])
    one
    (same_two (192 + c / 64) (next c) (omega arith) (omega arith))
    (same_three (224 + c / 4096) (next (c / 64)) (next c) (omega arith) (omega arith) (omega arith))
    (same_four (240 + c / 262144) (next (c / 4096)) (next (c / 64)) (next c) (omega arith) (omega arith) (omega arith) (omega arith))
    (nat_lt c 128) (nat_lt c 2048) (nat_lt c 65536)

lowered_char : (c : ℕ) (low : Bool) → nat_lt c 128 ≡ low → map to_ascii_lowercase (encode c) ≡ encode (to_ascii_lowercase c)
lowered_char c true is =
    let small : c < 128 = grind (arith, nat_tests) in
    ap (map to_ascii_lowercase) (encode_ascii c small) ∙ sym (encode_ascii (to_ascii_lowercase c) (lowercase_ascii c small))
lowered_char c false is =
    let large : 128 ≤ c = grind (arith, nat_tests) in
    lowered_high c large ∙ ap encode (sym (same_above c (omega (arith, large))))

lowered_text : (cs : List ℕ) → map to_ascii_lowercase (encode_utf8_all cs) ≡ encode_utf8_all (map to_ascii_lowercase cs)
lowered_text [] = refl
lowered_text (c ∷ cs) = map-append to_ascii_lowercase (encode c) (encode_utf8_all cs)
    ∙ ap (λ bs. bs ++ map to_ascii_lowercase (encode_utf8_all cs)) (lowered_char c (nat_lt c 128) refl)
    ∙ ap (λ bs. encode (to_ascii_lowercase c) ++ bs) (lowered_text cs)

lowered_scalar : (c : ℕ) (low : Bool) → nat_lt c 128 ≡ low → scalar c ≡ true → scalar (to_ascii_lowercase c) ≡ true
lowered_scalar c true is ok =
    let small : c < 128 = grind (arith, nat_tests) in
    let still = lowercase_ascii c small in
    low_scalar (to_ascii_lowercase c) (omega (arith, still))
lowered_scalar c false is ok =
    let large : 128 ≤ c = grind (arith, nat_tests) in
    ap scalar (same_above c (omega (arith, large))) ∙ ok

lowered_scalars : (cs : List ℕ) → all_scalars cs ≡ true → all_scalars (map to_ascii_lowercase cs) ≡ true
lowered_scalars [] are = refl
lowered_scalars (c ∷ cs) are =
    let parts = and_parts (scalar c) (all_scalars cs) are in
    and_from (scalar (to_ascii_lowercase c)) (all_scalars (map to_ascii_lowercase cs)) (lowered_scalar c (nat_lt c 128) refl parts.0) (lowered_scalars cs parts.1)

lowered_again : (n : List ℕ) → lowered (lowered n) ≡ lowered n
lowered_again [] = refl
lowered_again (b ∷ bs) = ap (λ z. z ∷ lowered (lowered bs)) (lowercase-lowercase b) ∙ ap (λ z. to_ascii_lowercase b ∷ z) (lowered_again bs)

function_named : (n : Name) → IsNamed n → IsFunction (lowered n)
function_named n is =
    ((to_ascii_lowercase is.0, map to_ascii_lowercase is.1, ap (map to_ascii_lowercase) is.2 ∙ lowered_text (is.0 ∷ is.1), lowered_scalars (is.0 ∷ is.1) is.3), lowered_again n)

pub some_every : (ns : List Name) → Several IsNamed ns → Every IsNamed ns
some_every [] are = absurd are
some_every (n ∷ ns) are = are

-- one part at least
abbrev SomeWell : Expressions → Type 0
SomeWell no_more = ⊥
SomeWell (more e es) = IsWellFormed e × AreWellFormed es

abbrev SomeLinks : Links → Type 0
SomeLinks no_links = ⊥
SomeLinks (link c e ls) = IsWellFormed e × LinksAreWellFormed ls

abbrev SomeArms : Arms → Type 0
SomeArms no_arms = ⊥
SomeArms (arm a b arms) = IsWellFormed a × IsWellFormed b × ArmsAreWellFormed arms

every_of : (es : Expressions) → SomeWell es → AreWellFormed es
every_of no_more w = tt
every_of (more e es) w = w

links_of : (ls : Links) → SomeLinks ls → LinksAreWellFormed ls
links_of no_links w = tt
links_of (link c e ls) w = w

arms_of : (arms : Arms) → SomeArms arms → ArmsAreWellFormed arms
arms_of no_arms w = tt
arms_of (arm a b arms) w = w

call_well : (f : Name) (distinct : Bool) (es : Expressions) → IsFunction f → SomeWell es → IsWellFormed (call f distinct es)
call_well f distinct no_more of w = absurd w
call_well f true (more e es) of w = (of, w.0, w.1)
call_well f false (more e es) of w = (of, w.0, w.1)

comparison_well : (e : Expression) (ls : Links) → IsWellFormed e → SomeLinks ls → IsWellFormed (comparison e ls)
comparison_well e no_links first w = absurd w
comparison_well e (link c f ls) first w = (first, w.0, w.1)

case_well : (arms : Arms) (o : Otherwise) → SomeArms arms → OtherwiseIsWellFormed o → IsWellFormed (case arms o)
case_well no_arms o w last_ = absurd w
case_well (arm a b arms) o w last_ = (w.0, w.1, w.2, last_)

negated_well : (m : ℕ) → m ≤ greatest_number → IsWellFormed (integer (negated m))
negated_well zero small = omega arith
negated_well (suc m) small = omega (arith, small)

no_text_word : (k : TokenKind) → is_word k ≡ true → k ≡ kind.Text → ⊥
no_text_word kind.Text is same = absurd (let x : false ≡ true = is in cc)
no_text_word _ is same = absurd cc

pub name_is_word : (k : TokenKind) → is_name k ≡ true → is_word k ≡ true
name_is_word kind.Name is = refl
name_is_word kind.QuotedName is = refl
name_is_word _ is = cc

module _ (line : List ℕ) (utf8 : IsUtf8 line) where
  -- tokens that stand one after another among those of the line
  abbrev pub IsPart : List Token → Type 0
  IsPart ts = (before : List Token) × (after : List Token) × (tokens_of line ≡ Ok (before ++ (ts ++ after)))

  pub part_next : (t : Token) (ts : List Token) → IsPart (t ∷ ts) → IsPart ts
  part_next t ts p = (p.0 ++ t ∷ [], p.1, p.2 ∙ ap Ok (sym (append_assoc p.0 (t ∷ []) (ts ++ p.1))))

  pub part_lexed : (t : Token) (ts : List Token) → IsPart (t ∷ ts) → IsLexed line t
  part_lexed t ts p = (Every-back (IsLexed line) p.0 (t ∷ (ts ++ p.1)) (tokens_of-lexed line _ utf8 p.2)).0

  pub named_token : (t : Token) (ts : List Token) → IsPart (t ∷ ts) → IsTrue (is_word t.kind) → IsNamed (denotes line t)
  named_token t ts p is =
      let l = part_lexed t ts p in
      let some = IsMeant-some t.kind _ (no_text_word t.kind is) l.meant in
      (some.0, some.1, denotes_within line t l.stretch.within ∙ ap encode_utf8_all some.2, some.3)

  text_token : (t : Token) (ts : List Token) → IsPart (t ∷ ts) → t.kind ≡ kind.Text → IsText (denotes line t)
  text_token t ts p is =
      let l = part_lexed t ts p in
      (denoted t.kind (chars (slice_of line t)), denotes_within line t l.stretch.within, subst (λ k. IsMeant k (denoted t.kind (chars (slice_of line t)))) is l.meant)

  pub labels_well : {ls : List Name} {ts rest : List Token} → SpellsLabels line ls ts rest → IsPart ts → Several IsNamed ls × IsPart rest
  labels_well (spell.last_label t rest is) p = ((named_token t rest p is, tt), part_next t rest p)
  labels_well (spell.next_label ls t colon mid rest is goes_on s) p =
      let x = labels_well s (part_next colon mid (part_next t (colon ∷ mid) p)) in
      ((named_token t (colon ∷ mid) p is, some_every ls x.0), x.1)

  mutual
    pub well : {n : ℕ} {l : Level} {e : Expression} {ts rest : List Token} → Spells line n l e ts rest → IsPart ts → IsWellFormed e × IsPart rest
    well (spell.is_exclusion n e ts rest s) p = well s p
    well (spell.or n a b t ts mid rest s is u) p = let x = well s p in let y = well u (part_next t mid x.1) in ((x.0, y.0), y.1)
    well (spell.is_conjunction n e ts rest s) p = well s p
    well (spell.xor n a b t ts mid rest s is u) p = let x = well s p in let y = well u (part_next t mid x.1) in ((x.0, y.0), y.1)
    well (spell.is_negation n e ts rest s) p = well s p
    well (spell.and n a b t ts mid rest s is u) p = let x = well s p in let y = well u (part_next t mid x.1) in ((x.0, y.0), y.1)
    well (spell.is_comparison n e ts rest s) p = well s p
    well (spell.not n e t ts rest is s) p = well s (part_next t ts p)
    well (spell.is_predicate n e ts rest s) p = well s p
    well (spell.compare n e ls ts mid rest s u) p = let x = well s p in let y = links_well u x.1 in (comparison_well e ls x.0 y.0, y.1)
    well (spell.is_sum n e ts rest s) p = well s p
    well (spell.is_null n e is_ nil ts rest s i l) p = let x = well s p in (x.0, part_next nil rest (part_next is_ (nil ∷ rest) x.1))
    well (spell.is_not_null n e is_ o nil ts rest s i d l) p =
        let x = well s p in (x.0, part_next nil rest (part_next o (nil ∷ rest) (part_next is_ (o ∷ nil ∷ rest) x.1)))
    well (spell.among n a b t ts mid rest s is u) p = let x = well s p in let y = well u (part_next t mid x.1) in ((x.0, y.0), y.1)
    well (spell.contains n a b t ts mid rest s is u) p = let x = well s p in let y = well u (part_next t mid x.1) in ((x.0, y.0), y.1)
    well (spell.starts_with n a b t with_ ts mid rest s is w u) p =
        let x = well s p in let y = well u (part_next with_ mid (part_next t (with_ ∷ mid) x.1)) in ((x.0, y.0), y.1)
    well (spell.ends_with n a b t with_ ts mid rest s is w u) p =
        let x = well s p in let y = well u (part_next with_ mid (part_next t (with_ ∷ mid) x.1)) in ((x.0, y.0), y.1)
    well (spell.is_product n e ts rest s) p = well s p
    well (spell.add n o a b t ts mid rest s is u) p = let x = well s p in let y = well u (part_next t mid x.1) in ((x.0, y.0), y.1)
    well (spell.is_signed n e ts rest s) p = well s p
    well (spell.multiply n o a b t ts mid rest s is u) p = let x = well s p in let y = well u (part_next t mid x.1) in ((x.0, y.0), y.1)
    well (spell.is_postfix n e ts rest s) p = well s p
    well (spell.negative n m minus_ number_ rest is counts small) p = (negated_well m small, part_next number_ rest (part_next minus_ (number_ ∷ rest) p))
    well (spell.minus n e t ts rest is other s) p = well s (part_next t ts p)
    well (spell.plus n e t ts rest is s) p = well s (part_next t ts p)
    well (spell.is_owner n e ts rest s) p = well s p
    well (spell.labelled n e ls colon ts mid rest s is names) p =
        let x = well s p in let y = labels_well names (part_next colon mid x.1) in ((x.0, y.0), y.1)
    well (spell.is_head n e ts rest s) p = well s p
    well (spell.with_key n e dot key ts rest s is names) p =
        let x = well s p in
        let q = part_next dot (key ∷ rest) x.1 in
        ((x.0, named_token key rest q names), part_next key rest q)
    well (spell.true_ n t rest is) p = (tt, part_next t rest p)
    well (spell.false_ n t rest is) p = (tt, part_next t rest p)
    well (spell.null_ n t rest is) p = (tt, part_next t rest p)
    well (spell.number n m t rest is small) p = (small, part_next t rest p)
    well (spell.text_ n t rest is) p = (text_token t rest p is, part_next t rest p)
    well (spell.empty_list n opening closing rest is closes) p = (tt, part_next closing rest (part_next opening (closing ∷ rest) p))
    well (spell.list_of n es opening closing ts rest is s closes) p =
        let x = all_well s (part_next opening ts p) in (every_of es x.0, part_next closing rest x.1)
    well (spell.case_of n arms o case_ when end ts mid rest is begins_ s u closes) p =
        let x = arms_well s (part_next when ts (part_next case_ (when ∷ ts) p)) in
        let y = otherwise_well u x.1 in
        (case_well arms o x.0 y.0, part_next end rest y.1)
    well (spell.name n t rest is) p = ((named_token t rest p (name_is_word t.kind is), refl), part_next t rest p)
    well (spell.call_of_star n t opening star closing rest names is stars closes) p = (
      function_named _ (named_token t (opening ∷ star ∷ closing ∷ rest) p (name_is_word t.kind names)),
      part_next closing rest (part_next star (closing ∷ rest) (part_next opening (star ∷ closing ∷ rest) (part_next t (opening ∷ star ∷ closing ∷ rest) p))),
    )
    well (spell.call_of_nothing n t opening closing rest names is closes) p = (
      function_named _ (named_token t (opening ∷ closing ∷ rest) p (name_is_word t.kind names)),
      part_next closing rest (part_next opening (closing ∷ rest) (part_next t (opening ∷ closing ∷ rest) p)),
    )
    well (spell.call_of n es t opening closing ts rest names is s closes) p =
        let x = all_well s (part_next opening ts (part_next t (opening ∷ ts) p)) in
        (call_well _ false es (function_named _ (named_token t (opening ∷ ts) p (name_is_word t.kind names))) x.0, part_next closing rest x.1)
    well (spell.call_of_distinct n es t opening distinct closing ts rest names is marks s closes) p =
        let x = all_well s (part_next distinct ts (part_next opening (distinct ∷ ts) (part_next t (opening ∷ distinct ∷ ts) p))) in
        (call_well _ true es (function_named _ (named_token t (opening ∷ distinct ∷ ts) p (name_is_word t.kind names))) x.0, part_next closing rest x.1)
    well (spell.bracket n e opening closing ts rest is s closes) p =
        let x = well s (part_next opening ts p) in (x.0, part_next closing rest x.1)

    all_well : {n : ℕ} {es : Expressions} {ts rest : List Token} → SpellsAll line n es ts rest → IsPart ts → SomeWell es × IsPart rest
    all_well (spell.last_element n e ts rest s) p = let x = well s p in ((x.0, tt), x.1)
    all_well (spell.next_element n e es comma ts mid rest s is u) p =
        let x = well s p in let y = all_well u (part_next comma mid x.1) in ((x.0, every_of es y.0), y.1)

    links_well : {n : ℕ} {ls : Links} {ts rest : List Token} → SpellsLinks line n ls ts rest → IsPart ts → SomeLinks ls × IsPart rest
    links_well (spell.last_link n by e t ts rest is s) p = let x = well s (part_next t ts p) in ((x.0, tt), x.1)
    links_well (spell.next_link n by e ls t ts mid rest is s u) p =
        let x = well s (part_next t ts p) in let y = links_well u x.1 in ((x.0, links_of ls y.0), y.1)

    arms_well : {n : ℕ} {arms : Arms} {ts rest : List Token} → SpellsArms line n arms ts rest → IsPart ts → SomeArms arms × IsPart rest
    arms_well (spell.last_arm n a b then_ ts mid rest s is u) p =
        let x = well s p in let y = well u (part_next then_ mid x.1) in ((x.0, y.0, tt), y.1)
    arms_well (spell.next_arm n a b arms then_ when ts mid further rest s is u goes_on v) p =
        let x = well s p in
        let y = well u (part_next then_ mid x.1) in
        let z = arms_well v (part_next when further y.1) in
        ((x.0, y.0, arms_of arms z.0), z.1)

    otherwise_well : {n : ℕ} {o : Otherwise} {ts rest : List Token} → SpellsOtherwise line n o ts rest → IsPart ts → OtherwiseIsWellFormed o × IsPart rest
    otherwise_well (spell.no_else n ts) p = (tt, p)
    otherwise_well (spell.else_ n e t ts rest is s) p = well s (part_next t ts p)
