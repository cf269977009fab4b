-- What readers answer where the next tokens are known.
use Rattle.std.proofs.Common.{◌≡◌, ℕ, ◌≤◌, Bool, true, false, IsTrue, List, ◌∷◌, Option, Some, None, if◌then◌else◌, refl, ap, ◌∙◌, nat_le, arith}
use Rattle.std.proofs.lemmas.Bool.Decides.{nat_tests}
use Rattle.cy_lexer.specs.declared.keywords.Keyword.{Keyword}
use Rattle.cy_lexer.specs.declared.symbols.Symbol.{Symbol}
use Rattle.cy_lexer.specs.declared.tokens.TokenKind.{TokenKind}
use Rattle.cy_lexer.specs.declared.tokens.Token.{Token}
use Rattle.cy_lexer.specs.contracts.keywords.Keyword as keyword_type
use Rattle.cy_lexer.specs.contracts.symbols.Symbol as symbol_type
use denote.Enum.Bare.{true_same}
use Rattle.cy_trees.specs.Trees.{Expression}
use Rattle.cy_trees.specs.Depth.{depth, greatest_depth}
use Rattle.cy_parser_grammar.specs.Words.{denotes}
use Rattle.cy_parser_grammar.specs.internal.Reader.{Outcome, Reader, and_then, is_keyword, is_symbol, kind_ahead, past, or_else, sees_keyword, sees_symbol, eat_keyword, eat_symbol, peek, expect_keyword, expect_symbol, denoting, checked}
use Rattle.cy_parser_grammar.specs.Spells.{IsKeyword, IsSymbol}

-- one reader after another
pub after : {A B : Type 0} {o : Outcome A} (f : A → Reader B) {a : A} {mid : List Token} {answer : Outcome B} →
    o ≡ Some (a, mid) → f a mid ≡ answer → and_then o f ≡ answer
unfolding and_then
after f first second = ap (λ z. and_then z f) first ∙ second

pub after_peek : {B : Type 0} (f : Option TokenKind → Reader B) (ts : List Token) → and_then (peek ts) f ≡ f (kind_ahead ts) ts
unfolding and_then
after_peek f ts = refl

-- one of two readers, by a test
pub then_branch : {A : Type 0} (p q : Reader A) (b : Bool) (ts : List Token) → b ≡ true → (if b then p else q) ts ≡ p ts
then_branch p q true ts e = refl
then_branch p q false ts e = cc

pub else_branch : {A : Type 0} (p q : Reader A) (b : Bool) (ts : List Token) → b ≡ false → (if b then p else q) ts ≡ q ts
else_branch p q true ts e = cc
else_branch p q false ts e = refl

pub none_branch : {A B : Type 0} (p : Reader A) (q : B → Reader A) (o : Option B) (ts : List Token) → o ≡ None →
    (elim o as (λ x. Reader A) [ None ↦ p | Some b ↦ q b ]) ts ≡ p ts
none_branch p q None ts e = refl
none_branch p q (Some b) ts e = cc

pub some_branch : {A B : Type 0} (p : Reader A) (q : B → Reader A) (o : Option B) (b : B) (ts : List Token) → o ≡ Some b →
    (elim o as (λ x. Reader A) [ None ↦ p | Some b ↦ q b ]) ts ≡ q b ts
some_branch {A = A} p q o b ts e = ap (λ z. (elim z as (λ x. Reader A) [ None ↦ p | Some c ↦ q c ]) ts) e

pub symbol_seen : (s : Symbol) (t : Token) (ts : List Token) → IsSymbol s t → sees_symbol s (t ∷ ts) ≡ true
unfolding sees_symbol
symbol_seen s t ts is = ap (λ k. is_symbol s (Some k)) is ∙ true_same symbol_type.the_type s s refl

pub keyword_seen : (k : Keyword) (t : Token) (ts : List Token) → IsKeyword k t → sees_keyword k (t ∷ ts) ≡ true
unfolding sees_keyword
keyword_seen k t ts is = ap (λ z. is_keyword k (Some z)) is ∙ true_same keyword_type.the_type k k refl

pub eats_symbol : (s : Symbol) (t : Token) (ts : List Token) → IsSymbol s t → eat_symbol s (t ∷ ts) ≡ Some (true, ts)
eats_symbol s t ts is = ap (λ b. Some (b, if b then ts else t ∷ ts)) (symbol_seen s t ts is)

pub eats_keyword : (k : Keyword) (t : Token) (ts : List Token) → IsKeyword k t → eat_keyword k (t ∷ ts) ≡ Some (true, ts)
eats_keyword k t ts is = ap (λ b. Some (b, if b then ts else t ∷ ts)) (keyword_seen k t ts is)

pub leaves_symbol : (s : Symbol) (ts : List Token) → is_symbol s (kind_ahead ts) ≡ false → eat_symbol s ts ≡ Some (false, ts)
unfolding sees_symbol
leaves_symbol s ts other = ap (λ b. Some (b, if b then past ts else ts)) other

pub leaves_keyword : (k : Keyword) (ts : List Token) → is_keyword k (kind_ahead ts) ≡ false → eat_keyword k ts ≡ Some (false, ts)
unfolding sees_keyword
leaves_keyword k ts other = ap (λ b. Some (b, if b then past ts else ts)) other

pub expects_symbol : (s : Symbol) (t : Token) (ts : List Token) → IsSymbol s t → expect_symbol s (t ∷ ts) ≡ Some (tt, ts)
unfolding expect_symbol
expects_symbol s t ts is = ap (λ b. if b then Some (tt, ts) else None) (symbol_seen s t ts is)

pub expects_keyword : (k : Keyword) (t : Token) (ts : List Token) → IsKeyword k t → expect_keyword k (t ∷ ts) ≡ Some (tt, ts)
unfolding expect_keyword
expects_keyword k t ts is = ap (λ b. if b then Some (tt, ts) else None) (keyword_seen k t ts is)

pub takes : (test : TokenKind → Bool) (line : List ℕ) (t : Token) (ts : List Token) → IsTrue (test t.kind) → denoting test line (t ∷ ts) ≡ Some (denotes line t, ts)
unfolding denoting
takes test line t ts is = ap (λ b. if b then Some (denotes line t, ts) else None) is

pub passes : (e : Expression) (ts : List Token) → depth e ≤ greatest_depth → checked e ts ≡ Some (e, ts)
unfolding checked
passes e ts shallow =
    let is : nat_le (depth e) greatest_depth ≡ true = grind (arith, nat_tests) in
    ap (λ b. if b then Some (e, ts) else None) is

-- the first outcome that is an answer
pub takes_first : {A : Type 0} (o other : Outcome A) (p : A × List Token) → o ≡ Some p → or_else o other ≡ Some p
unfolding or_else
takes_first o other p e = ap (λ z. or_else z other) e

pub takes_second : {A : Type 0} (o other : Outcome A) → o ≡ None → or_else o other ≡ other
unfolding or_else
takes_second o other e = ap (λ z. or_else z other) e

abbrev Pair : (A : Type 0) → A → List Token → A × List Token
Pair A a left = (a, left)

-- one answer
answers_same : {A : Type 0} (o : Outcome A) (a b : A) (left rest : List Token) → o ≡ Some (a, left) → o ≡ Some (b, rest) → Pair A a left ≡ Pair A b rest
answers_same {A = A} o a b left rest first second =
    let x : A × List Token = (a, left) in
    let y : A × List Token = (b, rest) in
    let both : x ≡ y = cc in
    both

pub answers_one : {A : Type 0} (o : Outcome A) (a b : A) (left rest : List Token) → o ≡ Some (a, left) → o ≡ Some (b, rest) → a ≡ b
answers_one {A = A} o a b left rest first second = ap (λ p. p.0) (answers_same o a b left rest first second)

pub leaves_one : {A : Type 0} (o : Outcome A) (a b : A) (left rest : List Token) → o ≡ Some (a, left) → o ≡ Some (b, rest) → left ≡ rest
leaves_one {A = A} o a b left rest first second = ap (λ p. p.1) (answers_same o a b left rest first second)
