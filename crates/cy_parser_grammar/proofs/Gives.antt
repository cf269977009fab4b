-- What holds of what a reader answers, wherever it answers anything.
use Rattle.std.proofs.Common.{◌≡◌, ℕ, ◌≤◌, Bool, true, false, IsTrue, List, [], ◌∷◌, Option, Some, None, if◌then◌else◌, refl, ap, subst, nat_le, arith}
use Rattle.std.proofs.lemmas.Bool.Decides.{nat_tests}
use denote.Enum.Bare.{same_true}
use Rattle.cy_lexer.specs.contracts.keywords.Keyword as keyword_type
use Rattle.cy_lexer.specs.contracts.symbols.Symbol as symbol_type
use Rattle.cy_lexer.specs.declared.keywords.Keyword.{Keyword}
use Rattle.cy_lexer.specs.declared.symbols.Symbol.{Symbol}
use Rattle.cy_lexer.specs.declared.tokens.TokenKind.{TokenKind}
use Rattle.cy_lexer.specs.declared.tokens.TokenKind.TheVariants as kind
use Rattle.cy_lexer.specs.declared.tokens.Token.{Token}
use Rattle.cy_trees.specs.Trees.{Expression}
use Rattle.cy_trees.specs.Depth.{depth, greatest_depth}
use Rattle.cy_parser_grammar.specs.Words.{denotes}
use Rattle.cy_parser_grammar.specs.internal.Reader.{Outcome, Reader, and_then, is_keyword, is_symbol, kind_ahead, past, or_else, sees_keyword, sees_symbol, eat_keyword, eat_symbol, peek, skip, at_kind, expect_keyword, expect_symbol, denoting, checked}
use Rattle.cy_parser_grammar.specs.Spells.{IsKeyword, IsSymbol}

-- wherever the outcome is an answer, this holds of it and of what is left
pub record Gives {A : Type 0} (o : Outcome A) (holds : A → List Token → Type 0) : Type 0 where
  pub given : (a : A) (rest : List Token) → o ≡ Some (a, rest) → holds a rest

pub answer : {A : Type 0} (holds : A → List Token → Type 0) (a : A) (rest : List Token) → holds a rest → Gives (Some (a, rest)) holds
answer {A = A} holds a rest h = record {
  given = λ b left e.
      let x : A × List Token = (a, rest) in
      let y : A × List Token = (b, left) in
      let both : x ≡ y = cc in
      subst (λ p. holds p.0 p.1) both h;
}

pub refused : {A : Type 0} (holds : A → List Token → Type 0) → Gives None holds
refused holds = record { given = λ a rest e. cc }

bound : {A B : Type 0} (o : Outcome A) (f : A → Reader B) (first : A → List Token → Type 0) (holds : B → List Token → Type 0) →
    Gives o first → ((a : A) (mid : List Token) → first a mid → Gives (f a mid) holds) → Gives (and_then o f) holds
unfolding and_then
bound (Some p) f first holds g h = h p.0 p.1 (g.given p.0 p.1 refl)
bound None f first holds g h = refused holds

pub bind : {A B : Type 0} {o : Outcome A} {f : A → Reader B} {first : A → List Token → Type 0} {holds : B → List Token → Type 0} →
    Gives o first → ((a : A) (mid : List Token) → first a mid → Gives (f a mid) holds) → Gives (and_then o f) holds
bind {o = o} {f = f} {first = first} {holds = holds} g h = bound o f first holds g h

-- what was eaten, if anything
pub record AteSymbol (s : Symbol) (ts : List Token) (found : Bool) (rest : List Token) : Type 0 where
  pub there : found ≡ true → (t : Token) × (ts ≡ t ∷ rest) × IsSymbol s t
  pub absent : found ≡ false → rest ≡ ts

pub record AteKeyword (k : Keyword) (ts : List Token) (found : Bool) (rest : List Token) : Type 0 where
  pub there : found ≡ true → (t : Token) × (ts ≡ t ∷ rest) × IsKeyword k t
  pub absent : found ≡ false → rest ≡ ts

pub symbol_is : (s : Symbol) (k : TokenKind) → is_symbol s (Some k) ≡ true → k ≡ kind.Symbol s
symbol_is s (kind.Symbol found) e = ap kind.Symbol (same_true symbol_type.the_type (search) found s e)
symbol_is s _ e = cc

pub keyword_is : (w : Keyword) (k : TokenKind) → is_keyword w (Some k) ≡ true → k ≡ kind.Keyword w
keyword_is w (kind.Keyword found) e = ap kind.Keyword (same_true keyword_type.the_type (search) found w e)
keyword_is w _ e = cc

sees_symbol-true : (s : Symbol) (ts : List Token) → sees_symbol s ts ≡ true → (t : Token) × (ts ≡ t ∷ past ts) × IsSymbol s t
unfolding sees_symbol
sees_symbol-true s [] e = cc
sees_symbol-true s (t ∷ ts) e = (t, refl, symbol_is s t.kind e)

sees_keyword-true : (k : Keyword) (ts : List Token) → sees_keyword k ts ≡ true → (t : Token) × (ts ≡ t ∷ past ts) × IsKeyword k t
unfolding sees_keyword
sees_keyword-true k [] e = cc
sees_keyword-true k (t ∷ ts) e = (t, refl, keyword_is k t.kind e)

eaten_symbol : (s : Symbol) (ts : List Token) (b : Bool) → sees_symbol s ts ≡ b →
    Gives (Some (b, if b then past ts else ts)) (AteSymbol s ts)
eaten_symbol s ts true e = answer _ _ _ (record { there = λ _. sees_symbol-true s ts e; absent = λ h. cc })
eaten_symbol s ts false e = answer _ _ _ (record { there = λ h. cc; absent = λ _. refl })

pub ate_symbol : (s : Symbol) (ts : List Token) → Gives (eat_symbol s ts) (AteSymbol s ts)
ate_symbol s ts = eaten_symbol s ts (sees_symbol s ts) refl

eaten_keyword : (k : Keyword) (ts : List Token) (b : Bool) → sees_keyword k ts ≡ b →
    Gives (Some (b, if b then past ts else ts)) (AteKeyword k ts)
eaten_keyword k ts true e = answer _ _ _ (record { there = λ _. sees_keyword-true k ts e; absent = λ h. cc })
eaten_keyword k ts false e = answer _ _ _ (record { there = λ h. cc; absent = λ _. refl })

pub ate_keyword : (k : Keyword) (ts : List Token) → Gives (eat_keyword k ts) (AteKeyword k ts)
ate_keyword k ts = eaten_keyword k ts (sees_keyword k ts) refl

-- what a keyword or a symbol that has to come next leaves
expected_symbol : (s : Symbol) (ts : List Token) (b : Bool) → sees_symbol s ts ≡ b →
    Gives {A = Unit {0}} (if b then Some (tt, past ts) else None) (λ _ rest. (t : Token) × (ts ≡ t ∷ rest) × IsSymbol s t)
expected_symbol s ts true e = answer _ _ _ (sees_symbol-true s ts e)
expected_symbol s ts false e = refused _

pub symbol_there : (s : Symbol) (ts : List Token) → Gives (expect_symbol s ts) (λ _ rest. (t : Token) × (ts ≡ t ∷ rest) × IsSymbol s t)
unfolding expect_symbol
symbol_there s ts = expected_symbol s ts (sees_symbol s ts) refl

expected_keyword : (k : Keyword) (ts : List Token) (b : Bool) → sees_keyword k ts ≡ b →
    Gives {A = Unit {0}} (if b then Some (tt, past ts) else None) (λ _ rest. (t : Token) × (ts ≡ t ∷ rest) × IsKeyword k t)
expected_keyword k ts true e = answer _ _ _ (sees_keyword-true k ts e)
expected_keyword k ts false e = refused _

pub keyword_there : (k : Keyword) (ts : List Token) → Gives (expect_keyword k ts) (λ _ rest. (t : Token) × (ts ≡ t ∷ rest) × IsKeyword k t)
unfolding expect_keyword
keyword_there k ts = expected_keyword k ts (sees_keyword k ts) refl

-- a name or a word that has to come next
denoting_if : (test : TokenKind → Bool) (line : List ℕ) (t : Token) (ts : List Token) (b : Bool) → test t.kind ≡ b →
    Gives (if b then Some (denotes line t, ts) else None) (λ n rest. (u : Token) × (t ∷ ts ≡ u ∷ rest) × IsTrue (test u.kind) × (n ≡ denotes line u))
denoting_if test line t ts true e = answer _ _ _ (t, refl, e, refl)
denoting_if test line t ts false e = refused _

pub denoting_there : (test : TokenKind → Bool) (line : List ℕ) (ts : List Token) →
    Gives (denoting test line ts) (λ n rest. (u : Token) × (ts ≡ u ∷ rest) × IsTrue (test u.kind) × (n ≡ denotes line u))
unfolding denoting
denoting_there test line [] = refused _
denoting_there test line (t ∷ ts) = denoting_if test line t ts (test t.kind) refl

-- an expression that was checked is the same, and isn't too deep
checked_if : (e : Expression) (ts : List Token) (b : Bool) → nat_le (depth e) greatest_depth ≡ b →
    Gives (if b then Some (e, ts) else None) (λ x rest. (x ≡ e) × (rest ≡ ts) × (depth e ≤ greatest_depth))
checked_if e ts true h = answer _ _ _ (refl, refl, grind (arith, nat_tests))
checked_if e ts false h = refused _

pub checked_there : (e : Expression) (ts : List Token) → Gives (checked e ts) (λ x rest. (x ≡ e) × (rest ≡ ts) × (depth e ≤ greatest_depth))
unfolding checked
checked_there e ts = checked_if e ts (nat_le (depth e) greatest_depth) refl

-- one of two readers, by a test
pub by_test : {A : Type 0} (p q : Reader A) (b : Bool) (ts : List Token) (holds : A → List Token → Type 0) →
    (b ≡ true → Gives (p ts) holds) → (b ≡ false → Gives (q ts) holds) → Gives ((if b then p else q) ts) holds
by_test p q true ts holds at_true at_false = at_true refl
by_test p q false ts holds at_true at_false = at_false refl

-- looking at the next token, and passing it
pub bind_peek : {B : Type 0} (f : Option TokenKind → Reader B) {holds : B → List Token → Type 0} (ts : List Token) →
    Gives (f (kind_ahead ts) ts) holds → Gives (and_then (peek ts) f) holds
unfolding and_then
bind_peek f ts g = g

pub bind_skip : {B : Type 0} (f : Unit {0} → Reader B) {holds : B → List Token → Type 0} (ts : List Token) →
    Gives (f tt (past ts)) holds → Gives (and_then (skip ts) f) holds
unfolding and_then
bind_skip f ts g = g

pub ahead : (ts : List Token) (k : TokenKind) → kind_ahead ts ≡ Some k → (t : Token) × (ts ≡ t ∷ past ts) × (t.kind ≡ k)
ahead [] k e = cc
ahead (t ∷ ts) k e = let same : t.kind ≡ k = cc in (t, refl, same)

pub ahead_by : {A : Type 0} (f : TokenKind → Option A) (ts : List Token) (a : A) → at_kind f (kind_ahead ts) ≡ Some a →
    (t : Token) × (ts ≡ t ∷ past ts) × (f t.kind ≡ Some a)
ahead_by f [] a e = cc
ahead_by f (t ∷ ts) a e = (t, refl, e)

pub by_option : {A B : Type 0} (p : Reader A) (q : B → Reader A) (o : Option B) (ts : List Token) (holds : A → List Token → Type 0) →
    (o ≡ None → Gives (p ts) holds) → ((b : B) → o ≡ Some b → Gives (q b ts) holds) →
    Gives ((elim o as (λ x. Reader A) [ None ↦ p | Some b ↦ q b ]) ts) holds
by_option p q None ts holds at_none at_some = at_none refl
by_option p q (Some b) ts holds at_none at_some = at_some b refl

-- one of two outcomes
pub by_either : {A : Type 0} (o other : Outcome A) (holds : A → List Token → Type 0) →
    Gives o holds → (o ≡ None → Gives other holds) → Gives (or_else o other) holds
unfolding or_else
by_either (Some p) other holds first second = first
by_either None other holds first second = second refl

-- nothing is answered where nothing holds
pub refuses : {A : Type 0} (o : Outcome A) (holds : A → List Token → Type 0) → Gives o holds → ((a : A) (rest : List Token) → holds a rest → ⊥) → o ≡ None
refuses (Some p) holds g none = absurd (none p.0 p.1 (g.given p.0 p.1 refl))
refuses None holds g none = refl

pub also : {A : Type 0} (o : Outcome A) (first second : A → List Token → Type 0) → Gives o first → Gives o second → Gives o (λ a rest. first a rest × second a rest)
also o first second g h = record { given = λ a rest e. (g.given a rest e, h.given a rest e) }
