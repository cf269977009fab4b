-- What an expression that is spelt does to its readers: chains of operators, of predicates and of properties.
use Rattle.std.proofs.Common.{◌≡◌, ℕ, zero, suc, ◌≤◌, Bool, true, ◌&&◌, List, [], ◌∷◌, length, Option, Some, None, refl, ◌∙◌, arith}
use Rattle.cy_values.proofs.Booleans.{both_first, both_second}
use Rattle.cy_lexer.specs.declared.tokens.Token.{Token}
use Rattle.cy_lexer.specs.declared.tokens.TokenKind.{TokenKind}
use Rattle.cy_trees.specs.declared.expressions.BinaryOperator.{BinaryOperator}
use Rattle.cy_trees.specs.Trees.{Expression, binary}
use Rattle.cy_trees.specs.Depth.{depth, greatest_depth}
use Rattle.cy_parser_grammar.specs.internal.Reader.{Reader, and_then, kind_ahead, at_kind}
use Rattle.cy_parser_grammar.specs.internal.Expressions.{chain, chain_from}
use Rattle.cy_parser_grammar.proofs.Stops.{lacks, lacking}
use Rattle.cy_parser_grammar.proofs.Takes.{after, passes}

-- the reader answers the expression, where it may end at what is left
pub record Reading (n : ℕ) (first stops : Option TokenKind → Bool) (read : Reader Expression) (e : Expression) (ts rest : List Token) : Type 0 where
  pub positive : (m : ℕ) × (n ≡ suc m)
  pub begins : first (kind_ahead ts) ≡ true
  pub shortens : suc (length rest) ≤ length ts
  pub reads : depth e ≤ greatest_depth → stops (kind_ahead rest) ≡ true → read ts ≡ Some (e, rest)

-- the reader comes to the expression, and goes on from there with turns enough for what is left
pub record Chaining (n : ℕ) (first stops : Option TokenKind → Bool) (read : Reader Expression) (from : ℕ → Expression → Reader Expression)
    (e : Expression) (ts rest : List Token) : Type 0 where
  pub positive : (m : ℕ) × (n ≡ suc m)
  pub begins : first (kind_ahead ts) ≡ true
  pub shortens : suc (length rest) ≤ length ts
  pub reads : depth e ≤ greatest_depth → stops (kind_ahead rest) ≡ true → (k : ℕ) × (length rest ≤ k) × (read ts ≡ from k e rest)

pub chain_end : (operators : TokenKind → Option BinaryOperator) (operand : Reader Expression) (k : ℕ) (e : Expression) (ts : List Token) →
    at_kind operators (kind_ahead ts) ≡ None → chain_from operators operand k e ts ≡ Some (e, ts)
unfolding chain_from and_then
chain_end operators operand zero e ts stop = refl
chain_end operators operand (suc k) e [] stop = refl
chain_end operators operand (suc k) e (t ∷ ts) stop = rw stop refl

chain_step : (operators : TokenKind → Option BinaryOperator) (operand : Reader Expression) (k : ℕ) (o : BinaryOperator) (a b : Expression) (t : Token) (mid rest : List Token) →
    operators t.kind ≡ Some o → operand mid ≡ Some (b, rest) → depth (binary o a b) ≤ greatest_depth →
    chain_from operators operand (suc k) a (t ∷ mid) ≡ chain_from operators operand k (binary o a b) rest
unfolding chain_from and_then
chain_step operators operand k o a b t mid rest is reads shallow = rw (is, reads, passes (binary o a b) rest shallow) refl

module _ (n : ℕ) (first stops : Option TokenKind → Bool) (operators : TokenKind → Option BinaryOperator) (operand : Reader Expression) where
  abbrev pub Chained : Expression → List Token → List Token → Type 0
  Chained e ts rest = Chaining n first stops (chain operators operand) (chain_from operators operand) e ts rest

  pub chain_of_one : (e : Expression) (ts rest : List Token) → Reading n first stops operand e ts rest → Chained e ts rest
  chain_of_one e ts rest r = record {
    positive = r.positive;
    begins = r.begins;
    shortens = r.shortens;
    reads = λ shallow stop. (length rest, omega arith, after _ (r.reads shallow stop) refl);
  }

  pub chain_of_two : (o : BinaryOperator) (a b : Expression) (t : Token) (ts mid rest : List Token) → Chained a ts (t ∷ mid) →
      operators t.kind ≡ Some o → stops (Some t.kind) ≡ true → Reading n first stops operand b mid rest → Chained (binary o a b) ts rest
  chain_of_two o a b t ts mid rest c is between r = record {
    positive = c.positive;
    begins = c.begins;
    shortens = (
        let x = c.shortens in
        let y = r.shortens in
        omega (arith, x, y));
    reads = λ shallow stop.
        let of_a : depth a ≤ greatest_depth = omega (arith, shallow) in
        let of_b : depth b ≤ greatest_depth = omega (arith, shallow) in
        let before = c.reads of_a between in
        on before.0 before.1 before.2 shallow (r.reads of_b stop) r.shortens;
  }
    where
      on : (k : ℕ) → suc (length mid) ≤ k → chain operators operand ts ≡ chain_from operators operand k a (t ∷ mid) →
          depth (binary o a b) ≤ greatest_depth → operand mid ≡ Some (b, rest) → suc (length rest) ≤ length mid →
          (j : ℕ) × (length rest ≤ j) × (chain operators operand ts ≡ chain_from operators operand j (binary o a b) rest)
      on zero few at shallow reads shorter = absurd (omega (arith, few))
      on (suc k) few at shallow reads shorter = (k, omega (arith, few, shorter), at ∙ chain_step operators operand k o a b t mid rest is reads shallow)

  pub chain_whole : (e : Expression) (ts rest : List Token) → Chained e ts rest →
      Reading n first (λ k. stops k && lacks (at_kind operators k)) (chain operators operand) e ts rest
  chain_whole e ts rest c = record {
    positive = c.positive;
    begins = c.begins;
    shortens = c.shortens;
    reads = λ shallow stop.
        let before = c.reads shallow (both_first _ _ stop) in
        before.2 ∙ chain_end operators operand before.0 e rest (lacking _ (both_second _ _ stop));
  }
