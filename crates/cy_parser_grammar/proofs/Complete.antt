-- What is spelt is what is read: expressions.
use Rattle.std.proofs.Common.{◌≡◌, ℕ, zero, suc, ◌≤◌, ◌<◌, Bool, true, false, not, IsTrue, List, [], ◌∷◌, ◌++◌, length, Option, Some, None, refl, ap, ◌∙◌, append_assoc, arith, nat_lt, nat_le, pos}
use Rattle.std.proofs.lemmas.Bool.Decides.{nat_tests}
use Rattle.cy_values.proofs.Booleans.{both_first, both_second, untrue}
use Rattle.cy_lexer.specs.declared.tokens.Token.{Token}
use Rattle.cy_lexer.specs.declared.tokens.TokenKind.{TokenKind}
use Rattle.cy_lexer.specs.declared.tokens.TokenKind.TheVariants as kind
use Rattle.cy_lexer.specs.declared.keywords.Keyword.{Keyword}
use Rattle.cy_lexer.specs.declared.keywords.Keyword.TheVariants as word
use Rattle.cy_lexer.specs.declared.symbols.Symbol.TheVariants as sign
use Rattle.cy_trees.specs.declared.expressions.UnaryOperator.TheVariants as unary_operator
use Rattle.cy_trees.specs.declared.expressions.BinaryOperator.{BinaryOperator}
use Rattle.cy_trees.specs.declared.expressions.BinaryOperator.TheVariants as operator
use Rattle.cy_trees.specs.declared.expressions.Comparator.{Comparator}
use Rattle.cy_parser_grammar.specs.declared.places.Nested.{Nested}
use Rattle.cy_parser_grammar.specs.declared.places.Nested.TheVariants as nested
use Rattle.cy_trees.specs.Trees.{Name, Expression, Expressions, list, no_more, more, call, call_star, variable, property, has_labels, unary, binary, boolean, integer, null, text, Links, no_links, link, comparison, Arms, arm, no_arms, Otherwise, nothing, otherwise, case}
use Rattle.cy_trees.specs.Depth.{depth, deepest, links_depth, arms_depth, otherwise_depth, greatest_depth}
use Rattle.cy_trees.specs.TreeModels.{expressions_from, arms_from, links_from}
use Rattle.cy_parser_grammar.specs.Words.{is_word, is_name, denotes, lowered, negated, product_operator, sum_operator, comparator_of}
use Rattle.cy_lexer.specs.Numbers.{greatest_number}
use Rattle.cy_parser_grammar.specs.internal.Chains.{conjunction_operator, exclusion_operator, disjunction_operator}
use Rattle.cy_parser_grammar.specs.internal.Reader.{Reader, and_then, checked, at_kind, is_symbol, is_keyword, ◌>>◌, expect_symbol, expect_keyword, refuse, ◌>>=◌, kind_ahead}
use Rattle.cy_parser_grammar.specs.internal.Expressions as read
use Rattle.cy_parser_grammar.specs.internal.Expressions.{chain, chain_from, begins_predicate, nesting}
use Rattle.cy_parser_grammar.specs.Spells.{Spells, SpellsAll, Level, whole, head, postfix, bracket, IsSymbol, IsKeyword, IsNumber, last_element, next_element, empty_list, list_of, call_of, call_of_distinct, call_of_nothing, call_of_star, name, owner, is_head, with_key, is_owner, labelled, SpellsArms, last_arm, next_arm, SpellsOtherwise, no_else, else_, case_of, true_, false_, null_, number, text_, signed, minus, plus, negative, begins_with_number, is_number, is_postfix, product, is_signed, multiply, sum, is_product, add, predicate, is_sum, is_null, is_not_null, among, contains, starts_with, ends_with, SpellsLinks, last_link, next_link, comparisons, is_predicate, compare, negation, is_comparison, not as denied, conjunction, is_negation, and, exclusion, is_conjunction, xor, is_exclusion, or}
use Rattle.cy_parser_grammar.specs.SpellsClauses.{most_levels}
use Rattle.cy_parser_grammar.proofs.Takes.{after, after_peek, some_branch, then_branch, eats_symbol, eats_keyword, leaves_symbol, leaves_keyword, expects_symbol, expects_keyword, takes, passes}
use Rattle.cy_parser_grammar.proofs.Continues.{predicates_end, links_end}
use Rattle.cy_parser_grammar.proofs.Stops.{lacking, ends_postfix, ends_product, ends_sum, ends_predicate, ends_comparisons, ends_conjunction, ends_exclusion, ends_whole, begins_postfix, begins_signed, begins_negation, product_ends, sum_ends, comparator_ends, conjunction_ends, exclusion_ends, disjunction_ends, no_plus, no_minus, no_not, signed_begins, negation_begins, name_begins, no_bracket_end, no_parenthesis_end, no_star, no_distinct}
use Rattle.cy_parser_grammar.proofs.LabelsComplete.{labels_read, labels_shorten}
use Rattle.cy_parser_grammar.proofs.Chains.{Reading, Chaining, chain_of_one, chain_of_two, chain_whole}

module _ (line : List ℕ) where
  -- what reads inside of one more level, where this many may be open, the present one counted
  abbrev inner_at : ℕ → Nested → Reader Expression
  inner_at zero place = refuse
  inner_at (suc n) place = nesting line n place

  abbrev levels_at : ℕ → ℕ
  levels_at zero = zero
  levels_at (suc n) = n

  abbrev ends_head : Option TokenKind → Bool
  ends_head k = not (is_symbol sign.LeftParenthesis k)

  -- what a derivation at the level gives
  abbrev Claim : ℕ → Level → Expression → List Token → List Token → Type 0
  Claim n whole e ts rest = Chaining n begins_negation ends_exclusion (chain disjunction_operator (read.exclusion line (levels_at n) (inner_at n))) (chain_from disjunction_operator (read.exclusion line (levels_at n) (inner_at n))) e ts rest
  Claim n exclusion e ts rest = Chaining n begins_negation ends_conjunction (chain exclusion_operator (read.conjunction line (levels_at n) (inner_at n))) (chain_from exclusion_operator (read.conjunction line (levels_at n) (inner_at n))) e ts rest
  Claim n conjunction e ts rest = Chaining n begins_negation ends_comparisons (chain conjunction_operator (read.negation line (levels_at n) (inner_at n))) (chain_from conjunction_operator (read.negation line (levels_at n) (inner_at n))) e ts rest
  Claim n negation e ts rest = Reading n begins_negation ends_comparisons (read.negation line (levels_at n) (inner_at n)) e ts rest
  Claim n comparisons e ts rest = Reading n begins_signed ends_comparisons (read.comparisons line (levels_at n) (inner_at n)) e ts rest
  Claim n predicate e ts rest = Chaining n begins_signed ends_sum (read.predicate line (levels_at n) (inner_at n)) (read.predicates_from line (levels_at n) (inner_at n)) e ts rest
  Claim n sum e ts rest = Chaining n begins_signed ends_product (chain sum_operator (read.product line (levels_at n) (inner_at n))) (chain_from sum_operator (read.product line (levels_at n) (inner_at n))) e ts rest
  Claim n product e ts rest = Chaining n begins_signed ends_postfix (chain product_operator (read.signed line (levels_at n) (inner_at n))) (chain_from product_operator (read.signed line (levels_at n) (inner_at n))) e ts rest
  Claim n signed e ts rest = Reading n begins_signed ends_postfix (read.signed line (levels_at n) (inner_at n)) e ts rest
  Claim n postfix e ts rest = Reading n begins_postfix ends_postfix (read.postfix line (levels_at n) (inner_at n)) e ts rest
  Claim n owner e ts rest = Chaining n begins_postfix ends_head (read.postfix line (levels_at n) (inner_at n)) (λ k x us. and_then (read.properties_from line k x us) (read.labelled line)) e ts rest
  Claim n head e ts rest = Chaining n begins_postfix ends_head (read.postfix line (levels_at n) (inner_at n)) (λ k x us. and_then (read.properties_from line k x us) (read.labelled line)) e ts rest

  -- ---- from level to level

  whole_of : (n : ℕ) (e : Expression) (ts rest : List Token) → Claim n whole e ts rest → Reading n begins_negation ends_whole (read.disjunction line (levels_at n) (inner_at n)) e ts rest
  unfolding read.disjunction
  whole_of n e ts rest c = chain_whole n begins_negation ends_exclusion disjunction_operator (read.exclusion line (levels_at n) (inner_at n)) e ts rest c

  exclusion_of : (n : ℕ) (e : Expression) (ts rest : List Token) → Claim n exclusion e ts rest → Reading n begins_negation ends_exclusion (read.exclusion line (levels_at n) (inner_at n)) e ts rest
  unfolding read.exclusion
  exclusion_of n e ts rest c = chain_whole n begins_negation ends_conjunction exclusion_operator (read.conjunction line (levels_at n) (inner_at n)) e ts rest c

  conjunction_of : (n : ℕ) (e : Expression) (ts rest : List Token) → Claim n conjunction e ts rest → Reading n begins_negation ends_conjunction (read.conjunction line (levels_at n) (inner_at n)) e ts rest
  unfolding read.conjunction
  conjunction_of n e ts rest c = chain_whole n begins_negation ends_comparisons conjunction_operator (read.negation line (levels_at n) (inner_at n)) e ts rest c

  sum_of : (n : ℕ) (e : Expression) (ts rest : List Token) → Claim n sum e ts rest → Reading n begins_signed ends_sum (read.sum line (levels_at n) (inner_at n)) e ts rest
  unfolding read.sum
  sum_of n e ts rest c = chain_whole n begins_signed ends_product sum_operator (read.product line (levels_at n) (inner_at n)) e ts rest c

  product_of : (n : ℕ) (e : Expression) (ts rest : List Token) → Claim n product e ts rest → Reading n begins_signed ends_product (read.product line (levels_at n) (inner_at n)) e ts rest
  unfolding read.product
  product_of n e ts rest c = chain_whole n begins_signed ends_postfix product_operator (read.signed line (levels_at n) (inner_at n)) e ts rest c

  -- an expression inside of a level
  nested_whole : (n : ℕ) (e : Expression) (ts rest : List Token) → Claim n whole e ts rest → Reading n begins_negation ends_whole (nesting line n nested.Whole) e ts rest
  unfolding nesting read.disjunction
  nested_whole zero e ts rest c = absurd (let p = c.positive in omega (arith, p.1))
  nested_whole (suc n) e ts rest c = whole_of (suc n) e ts rest c

  nested_negation : (n : ℕ) (e : Expression) (ts rest : List Token) → Claim n negation e ts rest → Reading n begins_negation ends_comparisons (nesting line n nested.Negation) e ts rest
  unfolding nesting read.negation
  nested_negation zero e ts rest c = absurd (let p = c.positive in omega (arith, p.1))
  nested_negation (suc n) e ts rest c = c

  nested_sign : (n : ℕ) (e : Expression) (ts rest : List Token) → Claim n signed e ts rest → Reading n begins_signed ends_postfix (nesting line n nested.Sign) e ts rest
  unfolding nesting read.signed
  nested_sign zero e ts rest c = absurd (let p = c.positive in omega (arith, p.1))
  nested_sign (suc n) e ts rest c = c

  -- ---- predicates

  predicates_step : (n k : ℕ) (a e : Expression) (t : Token) (mid rest : List Token) → begins_predicate (Some t.kind) ≡ true →
      read.predicate_step line (levels_at n) (inner_at n) a (t ∷ mid) ≡ Some (e, rest) →
      read.predicates_from line (levels_at n) (inner_at n) (suc k) a (t ∷ mid) ≡ read.predicates_from line (levels_at n) (inner_at n) k e rest
  unfolding read.predicates_from
  predicates_step n k a e t mid rest goes_on step = after_peek _ (t ∷ mid) ∙ then_branch _ _ _ (t ∷ mid) goes_on ∙ after _ step refl

  predicate_of : (n : ℕ) (e : Expression) (ts rest : List Token) → Claim n predicate e ts rest → Reading n begins_signed ends_predicate (read.predicate line (levels_at n) (inner_at n)) e ts rest
  predicate_of n e ts rest c = record {
    positive = c.positive;
    begins = c.begins;
    shortens = c.shortens;
    reads = λ shallow stop.
        let before = c.reads shallow (both_first _ _ stop) in
        before.2 ∙ predicates_end line (levels_at n) (inner_at n) before.0 e rest (untrue _ (both_second _ _ stop));
  }

  predicate_first : (n : ℕ) (e : Expression) (ts rest : List Token) → Claim n sum e ts rest → Claim n predicate e ts rest
  unfolding read.predicate
  predicate_first n e ts rest c =
      let s = sum_of n e ts rest c in
      record {
        positive = s.positive;
        begins = s.begins;
        shortens = s.shortens;
        reads = λ shallow stop. (length rest, omega arith, after _ (s.reads shallow stop) refl);
      }

  predicate_more : (n : ℕ) (a e : Expression) (t : Token) (ts mid rest : List Token) → Claim n predicate a ts (t ∷ mid) →
      begins_predicate (Some t.kind) ≡ true → ends_sum (Some t.kind) ≡ true → (depth e ≤ greatest_depth → depth a ≤ greatest_depth) →
      length rest ≤ length mid → (depth e ≤ greatest_depth → ends_sum (kind_ahead rest) ≡ true → read.predicate_step line (levels_at n) (inner_at n) a (t ∷ mid) ≡ Some (e, rest)) →
      Claim n predicate e ts rest
  predicate_more n a e t ts mid rest c goes_on between part shorter step = record {
    positive = c.positive;
    begins = c.begins;
    shortens = (let x = c.shortens in omega (arith, x, shorter));
    reads = λ shallow stop.
        let before = c.reads (part shallow) between in
        on before.0 before.1 before.2 (step shallow stop);
  }
    where
      on : (k : ℕ) → suc (length mid) ≤ k → read.predicate line (levels_at n) (inner_at n) ts ≡ read.predicates_from line (levels_at n) (inner_at n) k a (t ∷ mid) →
          read.predicate_step line (levels_at n) (inner_at n) a (t ∷ mid) ≡ Some (e, rest) →
          (j : ℕ) × (length rest ≤ j) × (read.predicate line (levels_at n) (inner_at n) ts ≡ read.predicates_from line (levels_at n) (inner_at n) j e rest)
      on zero few at steps = absurd (omega (arith, few))
      on (suc k) few at steps = (k, omega (arith, few, shorter), at ∙ predicates_step n k a e t mid rest goes_on steps)

  null_step : (n : ℕ) (e : Expression) (is_ null_ : Token) (rest : List Token) → IsKeyword word.Is is_ → IsKeyword word.Null null_ →
      depth e < greatest_depth → read.predicate_step line (levels_at n) (inner_at n) e (is_ ∷ null_ ∷ rest) ≡ Some (unary unary_operator.IsNull e, rest)
  unfolding read.predicate_step read.null_test
  null_step n e is_ nil rest i l shallow =
      after_peek _ (is_ ∷ nil ∷ rest)
      ∙ ap (λ k. read.predicate_by line (levels_at n) (inner_at n) e (Some k) (is_ ∷ nil ∷ rest)) i
      ∙ after _ refl (after _ (leaves_keyword word.Not (nil ∷ rest) (ap (λ k. is_keyword word.Not (Some k)) l))
      (after _ (expects_keyword word.Null nil rest l) (passes (unary unary_operator.IsNull e) rest (omega (arith, shallow)))))

  not_null_step : (n : ℕ) (e : Expression) (is_ not__ null_ : Token) (rest : List Token) → IsKeyword word.Is is_ → IsKeyword word.Not not__ → IsKeyword word.Null null_ →
      depth e < greatest_depth → read.predicate_step line (levels_at n) (inner_at n) e (is_ ∷ not__ ∷ null_ ∷ rest) ≡ Some (unary unary_operator.IsNotNull e, rest)
  unfolding read.predicate_step read.null_test
  not_null_step n e is_ refusing nil rest i o l shallow =
      after_peek _ (is_ ∷ refusing ∷ nil ∷ rest)
      ∙ ap (λ k. read.predicate_by line (levels_at n) (inner_at n) e (Some k) (is_ ∷ refusing ∷ nil ∷ rest)) i
      ∙ after _ refl (after _ (eats_keyword word.Not refusing (nil ∷ rest) o)
      (after _ (expects_keyword word.Null nil rest l) (passes (unary unary_operator.IsNotNull e) rest (omega (arith, shallow)))))

  tested_step : (n : ℕ) (o : BinaryOperator) (a b : Expression) (mid rest : List Token) → Claim n sum b mid rest →
      depth (binary o a b) ≤ greatest_depth → ends_sum (kind_ahead rest) ≡ true → read.tested line (levels_at n) (inner_at n) o a mid ≡ Some (binary o a b, rest)
  unfolding read.tested
  tested_step n o a b mid rest c shallow stop =
      let s = sum_of n b mid rest c in
      after _ (s.reads (omega (arith, shallow)) stop) (passes (binary o a b) rest shallow)

  predicate_word : (n : ℕ) (o : BinaryOperator) (w : Keyword) (a b : Expression) (t : Token) (ts mid rest : List Token) → Claim n predicate a ts (t ∷ mid) →
      IsKeyword w t → begins_predicate (Some (kind.Keyword w)) ≡ true → ends_sum (Some (kind.Keyword w)) ≡ true → Claim n sum b mid rest →
      (read.tested line (levels_at n) (inner_at n) o a mid ≡ Some (binary o a b, rest) → read.predicate_by line (levels_at n) (inner_at n) a (Some (kind.Keyword w)) (t ∷ mid) ≡ Some (binary o a b, rest)) →
      Claim n predicate (binary o a b) ts rest
  unfolding read.predicate_step
  predicate_word n o w a b t ts mid rest c is goes stop_ d by_word =
      let shorter = d.shortens in
      predicate_more n a (binary o a b) t ts mid rest c (ap (λ k. begins_predicate (Some k)) is ∙ goes) (ap (λ k. ends_sum (Some k)) is ∙ stop_)
      (λ h. omega (arith, h)) (omega (arith, shorter))
      (λ shallow stop. after_peek _ (t ∷ mid) ∙ ap (λ k. read.predicate_by line (levels_at n) (inner_at n) a (Some k) (t ∷ mid)) is
      ∙ by_word (tested_step n o a b mid rest d shallow stop))

  predicate_with : (n : ℕ) (o : BinaryOperator) (w : Keyword) (a b : Expression) (t with_ : Token) (ts mid rest : List Token) → Claim n predicate a ts (t ∷ with_ ∷ mid) →
      IsKeyword w t → IsKeyword word.With with_ → begins_predicate (Some (kind.Keyword w)) ≡ true → ends_sum (Some (kind.Keyword w)) ≡ true → Claim n sum b mid rest →
      ((expect_keyword word.With >> read.tested line (levels_at n) (inner_at n) o a) (with_ ∷ mid) ≡ Some (binary o a b, rest) →
      read.predicate_by line (levels_at n) (inner_at n) a (Some (kind.Keyword w)) (t ∷ with_ ∷ mid) ≡ Some (binary o a b, rest)) →
      Claim n predicate (binary o a b) ts rest
  unfolding read.predicate_step
  predicate_with n o w a b t with_ ts mid rest c is by goes stop_ d by_word =
      let shorter = d.shortens in
      predicate_more n a (binary o a b) t ts (with_ ∷ mid) rest c (ap (λ k. begins_predicate (Some k)) is ∙ goes) (ap (λ k. ends_sum (Some k)) is ∙ stop_)
      (λ h. omega (arith, h)) (omega (arith, shorter))
      (λ shallow stop. after_peek _ (t ∷ with_ ∷ mid) ∙ ap (λ k. read.predicate_by line (levels_at n) (inner_at n) a (Some k) (t ∷ with_ ∷ mid)) is
      ∙ by_word (after _ (expects_keyword word.With with_ mid by) (tested_step n o a b mid rest d shallow stop)))

  -- ---- chains of comparisons

  record LinksRead (n : ℕ) (ls : Links) (ts rest : List Token) : Type 0 where
    between : ends_predicate (kind_ahead ts) ≡ true
    shortens : suc (length rest) ≤ length ts
    reads : links_depth ls ≤ greatest_depth → ends_comparisons (kind_ahead rest) ≡ true → (k : ℕ) → length ts ≤ k → (found : List (Comparator × Expression)) →
        (first : Comparator × Expression) × (these : List (Comparator × Expression)) × (links_from (first ∷ these) ≡ ls)
        × (read.links_read line (levels_at n) (inner_at n) k found ts ≡ Some (found ++ first ∷ these, rest))

  links_step : (n k : ℕ) (found : List (Comparator × Expression)) (by : Comparator) (e : Expression) (t : Token) (ts mid : List Token) →
      comparator_of t.kind ≡ Some by → read.predicate line (levels_at n) (inner_at n) ts ≡ Some (e, mid) →
      read.links_read line (levels_at n) (inner_at n) (suc k) found (t ∷ ts) ≡ read.links_read line (levels_at n) (inner_at n) k (found ++ (by, e) ∷ []) mid
  unfolding read.links_read
  links_step n k found by e t ts mid is reads =
      after_peek _ (t ∷ ts) ∙ some_branch _ _ (comparator_of t.kind) by (t ∷ ts) is ∙ after _ refl (after _ reads refl)

  link_last : (n : ℕ) (by : Comparator) (e : Expression) (t : Token) (ts rest : List Token) → comparator_of t.kind ≡ Some by →
      Claim n predicate e ts rest → LinksRead n (link by e no_links) (t ∷ ts) rest
  link_last n by e t ts rest is c =
      let p = predicate_of n e ts rest c in
      record {
        between = comparator_ends t.kind by is;
        shortens = (let x = p.shortens in omega (arith, x));
        reads = λ shallow stop k enough found.
            on k found enough (p.reads (omega (arith, shallow)) (both_first _ _ stop)) (lacking _ (both_second _ _ stop));
      }
    where
      on : (k : ℕ) (found : List (Comparator × Expression)) → suc (length ts) ≤ k → read.predicate line (levels_at n) (inner_at n) ts ≡ Some (e, rest) →
          at_kind comparator_of (kind_ahead rest) ≡ None →
          (first : Comparator × Expression) × (these : List (Comparator × Expression)) × (links_from (first ∷ these) ≡ link by e no_links)
          × (read.links_read line (levels_at n) (inner_at n) k found (t ∷ ts) ≡ Some (found ++ first ∷ these, rest))
      on zero found few reads stop = absurd (omega (arith, few))
      on (suc k) found few reads stop = ((by, e), [], refl, links_step n k found by e t ts rest is reads ∙ links_end line (levels_at n) (inner_at n) k (found ++ (by, e) ∷ []) rest stop)

  link_next : (n : ℕ) (by : Comparator) (e : Expression) (ls : Links) (t : Token) (ts mid rest : List Token) → comparator_of t.kind ≡ Some by →
      Claim n predicate e ts mid → LinksRead n ls mid rest → LinksRead n (link by e ls) (t ∷ ts) rest
  link_next n by e ls t ts mid rest is c l =
      let p = predicate_of n e ts mid c in
      record {
        between = comparator_ends t.kind by is;
        shortens = (let x = p.shortens in let y = l.shortens in omega (arith, x, y));
        reads = λ shallow stop k enough found.
            let shorter = p.shortens in
            on k found enough shorter (p.reads (omega (arith, shallow)) l.between) (λ j more all. l.reads (omega (arith, shallow)) stop j more all);
      }
    where
      on : (k : ℕ) (found : List (Comparator × Expression)) → suc (length ts) ≤ k → suc (length mid) ≤ length ts → read.predicate line (levels_at n) (inner_at n) ts ≡ Some (e, mid) →
          ((j : ℕ) → length mid ≤ j → (all : List (Comparator × Expression)) →
          (first : Comparator × Expression) × (these : List (Comparator × Expression)) × (links_from (first ∷ these) ≡ ls)
          × (read.links_read line (levels_at n) (inner_at n) j all mid ≡ Some (all ++ first ∷ these, rest))) →
          (first : Comparator × Expression) × (these : List (Comparator × Expression)) × (links_from (first ∷ these) ≡ link by e ls)
          × (read.links_read line (levels_at n) (inner_at n) k found (t ∷ ts) ≡ Some (found ++ first ∷ these, rest))
      on zero found few shorter reads others = absurd (omega (arith, few))
      on (suc k) found few shorter reads others =
          let o = others k (omega (arith, few, shorter)) (found ++ (by, e) ∷ []) in (
            (by, e),
            o.0 ∷ o.1,
            ap (λ z. link by e z) o.2,
            links_step n k found by e t ts mid is reads ∙ o.3 ∙ ap (λ z. Some (z, rest)) (append_assoc found ((by, e) ∷ []) (o.0 ∷ o.1)),
          )

  comparisons_single : (n : ℕ) (e : Expression) (ts rest : List Token) → Claim n predicate e ts rest → Claim n comparisons e ts rest
  unfolding read.comparisons read.links
  comparisons_single n e ts rest c =
      let p = predicate_of n e ts rest c in
      record {
        positive = p.positive;
        begins = p.begins;
        shortens = p.shortens;
        reads = λ shallow stop. after _ (p.reads shallow (both_first _ _ stop))
            (after _ (links_end line (levels_at n) (inner_at n) (length rest) [] rest (lacking _ (both_second _ _ stop))) refl);
      }

  comparisons_chain : (n : ℕ) (e : Expression) (ls : Links) (ts mid rest : List Token) → Claim n predicate e ts mid → LinksRead n ls mid rest →
      Claim n comparisons (comparison e ls) ts rest
  unfolding read.comparisons read.links
  comparisons_chain n e ls ts mid rest c l =
      let p = predicate_of n e ts mid c in
      record {
        positive = p.positive;
        begins = p.begins;
        shortens = (let x = p.shortens in let y = l.shortens in omega (arith, x, y));
        reads = λ shallow stop.
            let o = l.reads (omega (arith, shallow)) stop (length mid) (omega arith) [] in
            after _ (p.reads (omega (arith, shallow)) l.between) (after _ o.3
            (ap (λ z. checked (comparison e z) rest) o.2 ∙ passes (comparison e ls) rest shallow));
      }

  -- ---- NOT and signs

  negation_single : (n : ℕ) (e : Expression) (ts rest : List Token) → Claim n comparisons e ts rest → Claim n negation e ts rest
  unfolding read.negation
  negation_single n e ts rest c = record {
    positive = c.positive;
    begins = negation_begins _ c.begins;
    shortens = c.shortens;
    reads = λ shallow stop. after _ (leaves_keyword word.Not ts (no_not _ c.begins)) (c.reads shallow stop);
  }

  negation_not : (n : ℕ) (e : Expression) (t : Token) (ts rest : List Token) → IsKeyword word.Not t → Claim n negation e ts rest →
      Claim (suc n) negation (unary unary_operator.Not e) (t ∷ ts) rest
  unfolding read.negation
  negation_not n e t ts rest is c =
      let inside = nested_negation n e ts rest c in
      record {
        positive = (n, refl);
        begins = ap (λ k. begins_negation (Some k)) is;
        shortens = (let x = inside.shortens in omega (arith, x));
        reads = λ shallow stop. after _ (eats_keyword word.Not t ts is)
            (after _ (inside.reads (omega (arith, shallow)) stop) (passes (unary unary_operator.Not e) rest shallow));
      }

  signed_single : (n : ℕ) (e : Expression) (ts rest : List Token) → Claim n postfix e ts rest → Claim n signed e ts rest
  unfolding read.signed
  signed_single n e ts rest c = record {
    positive = c.positive;
    begins = signed_begins _ c.begins;
    shortens = c.shortens;
    reads = λ shallow stop. after _ (leaves_symbol sign.Minus ts (no_minus _ c.begins))
        (after _ (leaves_symbol sign.Plus ts (no_plus _ c.begins)) (c.reads shallow stop));
  }

  signed_number : (n m : ℕ) (minus_ number_ : Token) (rest : List Token) → IsSymbol sign.Minus minus_ → IsNumber m number_ → m ≤ greatest_number →
      Claim (suc n) signed (integer (negated m)) (minus_ ∷ number_ ∷ rest) rest
  unfolding read.signed read.minus
  signed_number n m minus_ number_ rest is counts small = record {
    positive = (n, refl);
    begins = ap (λ k. begins_signed (Some k)) is;
    shortens = omega arith;
    reads = λ shallow stop.
        let fits : nat_le m greatest_number ≡ true = grind (arith, nat_tests) in
        after _ (eats_symbol sign.Minus minus_ (number_ ∷ rest) is) (after_peek _ (number_ ∷ rest)
        ∙ ap (λ k. read.minus_by line (inner_at (suc n)) (Some k) (number_ ∷ rest)) counts
        ∙ then_branch _ _ _ (number_ ∷ rest) fits ∙ after _ refl refl);
  }

  minus_other : (n : ℕ) (ts : List Token) → begins_with_number ts ≡ false →
      read.minus_by line (inner_at (suc n)) (kind_ahead ts) ≡ (inner_at (suc n) nested.Sign >>= (λ e. checked (unary unary_operator.Minus e)))
  minus_other n [] other = refl
  minus_other n (t ∷ ts) other = by_kind t.kind other
    where
      by_kind : (k : TokenKind) → is_number k ≡ false →
          read.minus_by line (inner_at (suc n)) (Some k) ≡ (inner_at (suc n) nested.Sign >>= (λ e. checked (unary unary_operator.Minus e)))
      by_kind (kind.Number m) e = cc
      by_kind _ e = refl

  signed_minus : (n : ℕ) (e : Expression) (t : Token) (ts rest : List Token) → IsSymbol sign.Minus t → begins_with_number ts ≡ false →
      Claim n signed e ts rest → Claim (suc n) signed (unary unary_operator.Minus e) (t ∷ ts) rest
  unfolding read.signed read.minus
  signed_minus n e t ts rest is other c =
      let inside = nested_sign n e ts rest c in
      record {
        positive = (n, refl);
        begins = ap (λ k. begins_signed (Some k)) is;
        shortens = (let x = inside.shortens in omega (arith, x));
        reads = λ shallow stop. after _ (eats_symbol sign.Minus t ts is) (after_peek _ ts ∙ ap (λ p. p ts) (minus_other n ts other)
            ∙ after _ (inside.reads (omega (arith, shallow)) stop) (passes (unary unary_operator.Minus e) rest shallow));
      }

  signed_plus : (n : ℕ) (e : Expression) (t : Token) (ts rest : List Token) → IsSymbol sign.Plus t →
      Claim n signed e ts rest → Claim (suc n) signed (unary unary_operator.Plus e) (t ∷ ts) rest
  unfolding read.signed read.plus
  signed_plus n e t ts rest is c =
      let inside = nested_sign n e ts rest c in
      record {
        positive = (n, refl);
        begins = ap (λ k. begins_signed (Some k)) is;
        shortens = (let x = inside.shortens in omega (arith, x));
        reads = λ shallow stop. after _ (leaves_symbol sign.Minus (t ∷ ts) (ap (λ k. is_symbol sign.Minus (Some k)) is))
            (after _ (eats_symbol sign.Plus t ts is) (after _ (inside.reads (omega (arith, shallow)) stop) (passes (unary unary_operator.Plus e) rest shallow)));
      }

  -- ---- properties and labels

  properties_end : (k : ℕ) (e : Expression) (ts : List Token) → is_symbol sign.Dot (kind_ahead ts) ≡ false → read.properties_from line k e ts ≡ Some (e, ts)
  unfolding read.properties_from
  properties_end zero e ts stop = refl
  properties_end (suc k) e ts stop = after _ (leaves_symbol sign.Dot ts stop) refl

  properties_step : (k : ℕ) (e : Expression) (dot key : Token) (rest : List Token) → IsSymbol sign.Dot dot → IsTrue (is_word key.kind) →
      depth e < greatest_depth → read.properties_from line (suc k) e (dot ∷ key ∷ rest) ≡ read.properties_from line k (property e (denotes line key)) rest
  unfolding read.properties_from
  properties_step k e dot key rest is names shallow =
      after _ (eats_symbol sign.Dot dot (key ∷ rest) is) (after _ (takes is_word line key rest names)
      (after _ (passes (property e (denotes line key)) rest (omega (arith, shallow))) refl))

  owner_key : (n : ℕ) (e : Expression) (dot key : Token) (ts rest : List Token) → Claim n owner e ts (dot ∷ key ∷ rest) → IsSymbol sign.Dot dot →
      IsTrue (is_word key.kind) → Claim n owner (property e (denotes line key)) ts rest
  owner_key n e dot key ts rest c is names = record {
    positive = c.positive;
    begins = c.begins;
    shortens = (let x = c.shortens in omega (arith, x));
    reads = λ shallow stop.
        let before = c.reads (omega (arith, shallow)) (ap (λ k. ends_head (Some k)) is) in
        on before.0 before.1 before.2 (omega (arith, shallow));
  }
    where
      on : (k : ℕ) → suc (suc (length rest)) ≤ k →
          read.postfix line (levels_at n) (inner_at n) ts ≡ and_then (read.properties_from line k e (dot ∷ key ∷ rest)) (read.labelled line) → depth e < greatest_depth →
          (j : ℕ) × (length rest ≤ j)
          × (read.postfix line (levels_at n) (inner_at n) ts ≡ and_then (read.properties_from line j (property e (denotes line key)) rest) (read.labelled line))
      on zero few at shallow = absurd (omega (arith, few))
      on (suc k) few at shallow = (k, omega (arith, few), at ∙ ap (λ z. and_then z (read.labelled line)) (properties_step k e dot key rest is names shallow))

  postfix_owner : (n : ℕ) (e : Expression) (ts rest : List Token) → Claim n owner e ts rest → Claim n postfix e ts rest
  unfolding read.labelled
  postfix_owner n e ts rest c = record {
    positive = c.positive;
    begins = c.begins;
    shortens = c.shortens;
    reads = λ shallow stop.
        let before = c.reads shallow (both_first _ _ stop) in
        let others = both_second _ _ stop in
        before.2 ∙ after _ (properties_end before.0 e rest (untrue _ (both_first _ _ others)))
        (after _ (leaves_symbol sign.Colon rest (untrue _ (both_second _ _ others))) refl);
  }

  postfix_labelled : (n : ℕ) (e : Expression) (ls : List Name) (colon : Token) (ts mid rest : List Token) → Claim n owner e ts (colon ∷ mid) →
      IsSymbol sign.Colon colon → suc (length rest) ≤ length mid → (is_symbol sign.Colon (kind_ahead rest) ≡ false → read.labels line mid ≡ Some (ls, rest)) →
      Claim n postfix (has_labels e ls) ts rest
  unfolding read.labelled
  postfix_labelled n e ls colon ts mid rest c is shorter names = record {
    positive = c.positive;
    begins = c.begins;
    shortens = (let x = c.shortens in omega (arith, x, shorter));
    reads = λ shallow stop.
        let before = c.reads (omega (arith, shallow)) (ap (λ k. ends_head (Some k)) is) in
        before.2 ∙ after _ (properties_end before.0 e (colon ∷ mid) (ap (λ k. is_symbol sign.Dot (Some k)) is))
        (after _ (eats_symbol sign.Colon colon mid is)
        (after _ (names (untrue _ (both_second _ _ (both_second _ _ stop)))) (passes (has_labels e ls) rest shallow)));
  }

  -- a level opens, where an expression can be read inside
  opens : (n : ℕ) (ts : List Token) → (m : ℕ) × (n ≡ suc m) → read.opened n ts ≡ Some (tt, ts)
  unfolding read.opened
  opens n ts p = ap (λ z. read.opened z ts) p.1

  -- ---- literals

  literal_word : (n : ℕ) (e : Expression) (k : TokenKind) (t : Token) (rest : List Token) → t.kind ≡ k → begins_postfix (Some k) ≡ true →
      read.postfix_by line (levels_at (suc n)) (inner_at (suc n)) (Some k) ≡ read.literal line → read.literal_by line (Some k) (t ∷ rest) ≡ Some (e, rest) →
      Claim (suc n) postfix e (t ∷ rest) rest
  unfolding read.postfix read.literal
  literal_word n e k t rest is first by_literal reads = record {
    positive = (n, refl);
    begins = ap (λ z. begins_postfix (Some z)) is ∙ first;
    shortens = omega arith;
    reads = λ shallow stop. after_peek _ (t ∷ rest) ∙ ap (λ z. read.postfix_by line (levels_at (suc n)) (inner_at (suc n)) (Some z) (t ∷ rest)) is
        ∙ ap (λ p. p (t ∷ rest)) by_literal ∙ after_peek _ (t ∷ rest) ∙ ap (λ z. read.literal_by line (Some z) (t ∷ rest)) is ∙ reads;
  }

  literal_number : (n m : ℕ) (t : Token) (rest : List Token) → IsNumber m t → m < greatest_number → Claim (suc n) postfix (integer (pos m)) (t ∷ rest) rest
  unfolding read.counted
  literal_number n m t rest is small =
      let fits : nat_lt m greatest_number ≡ true = grind (arith, nat_tests) in
      literal_word n (integer (pos m)) (kind.Number m) t rest is refl refl (after _ refl (then_branch _ _ _ rest fits))

  literal_text : (n : ℕ) (t : Token) (rest : List Token) → t.kind ≡ kind.Text → Claim (suc n) postfix (text (denotes line t)) (t ∷ rest) rest
  unfolding read.quoted
  literal_text n t rest is = literal_word n (text (denotes line t)) kind.Text t rest is refl refl (after _ refl refl)

  -- ---- heads

  named_by : (n : ℕ) (k : TokenKind) → is_name k ≡ true → read.postfix_by line (levels_at n) (inner_at n) (Some k) ≡ (read.named line (levels_at n) (inner_at n) >>= read.attributes line)
  named_by n kind.Name e = refl
  named_by n kind.QuotedName e = refl
  named_by n _ e = cc

  head_named : (n : ℕ) (e : Expression) (t : Token) (ts rest : List Token) → IsTrue (is_name t.kind) → length rest ≤ length ts →
      (depth e ≤ greatest_depth → ends_head (kind_ahead rest) ≡ true → read.named line (levels_at (suc n)) (inner_at (suc n)) (t ∷ ts) ≡ Some (e, rest)) → Claim (suc n) head e (t ∷ ts) rest
  unfolding read.postfix read.attributes read.properties
  head_named n e t ts rest is shorter reads = record {
    positive = (n, refl);
    begins = name_begins t.kind is;
    shortens = omega (arith, shorter);
    reads = λ shallow stop. (
      length rest,
      omega arith,
      after_peek _ (t ∷ ts) ∙ ap (λ p. p (t ∷ ts)) (named_by (suc n) t.kind is) ∙ after _ (reads shallow stop) refl,
    );
  }

  head_variable : (n : ℕ) (t : Token) (rest : List Token) → IsTrue (is_name t.kind) →
      Claim (suc n) head (variable (record { name = denotes line t; column = None })) (t ∷ rest) rest
  unfolding read.named
  head_variable n t rest is = head_named n _ t rest rest is (omega arith) (λ shallow stop.
      after _ (takes is_name line t rest is) (after _ (leaves_symbol sign.LeftParenthesis rest (untrue _ stop)) refl))

  head_bracket : (n : ℕ) (e : Expression) (opening closing : Token) (ts rest : List Token) → IsSymbol sign.LeftParenthesis opening →
      Claim n whole e ts (closing ∷ rest) → IsSymbol sign.RightParenthesis closing → Claim (suc n) head e (opening ∷ ts) rest
  unfolding read.postfix read.attributes read.properties read.bracketed
  head_bracket n e opening closing ts rest is c closes =
      let inside = nested_whole n e ts (closing ∷ rest) c in
      record {
        positive = (n, refl);
        begins = ap (λ k. begins_postfix (Some k)) is;
        shortens = (let x = inside.shortens in omega (arith, x));
        reads = λ shallow stop. (
          length rest,
          omega arith,
          after_peek _ (opening ∷ ts) ∙ ap (λ k. read.postfix_by line (levels_at (suc n)) (inner_at (suc n)) (Some k) (opening ∷ ts)) is
              ∙ after _ refl (after _ (after _ (inside.reads shallow (ap (λ k. ends_whole (Some k)) closes))
              (after _ (expects_symbol sign.RightParenthesis closing rest closes) refl)) refl),
        );
      }

  -- ---- expressions with commas between

  record ElementsRead (n : ℕ) (es : Expressions) (ts rest : List Token) : Type 0 where
    positive : (m : ℕ) × (n ≡ suc m)
    begins : begins_negation (kind_ahead ts) ≡ true
    shortens : suc (length rest) ≤ length ts
    reads : deepest es ≤ greatest_depth → ends_whole (kind_ahead rest) ≡ true → is_symbol sign.Comma (kind_ahead rest) ≡ false → (k : ℕ) → length ts ≤ k →
        (found : List Expression) → (these : List Expression) × (expressions_from these ≡ es)
        × (read.elements_from line (nesting line n) k found ts ≡ Some (found ++ these, rest))

  elements_last : (n : ℕ) (e : Expression) (ts rest : List Token) → Claim n whole e ts rest → ElementsRead n (more e no_more) ts rest
  unfolding read.elements_from
  elements_last n e ts rest c =
      let inside = nested_whole n e ts rest c in
      record {
        positive = inside.positive;
        begins = inside.begins;
        shortens = inside.shortens;
        reads = λ shallow stop comma k enough found. on k found (let x = inside.shortens in omega (arith, x, enough)) (inside.reads (omega (arith, shallow)) stop) comma;
      }
    where
      on : (k : ℕ) (found : List Expression) → 1 ≤ k → nesting line n nested.Whole ts ≡ Some (e, rest) → is_symbol sign.Comma (kind_ahead rest) ≡ false →
          (these : List Expression) × (expressions_from these ≡ more e no_more) × (read.elements_from line (nesting line n) k found ts ≡ Some (found ++ these, rest))
      on zero found few reads comma = absurd (omega (arith, few))
      on (suc k) found few reads comma = (e ∷ [], refl, after _ reads (after _ (leaves_symbol sign.Comma rest comma) refl))

  elements_next : (n : ℕ) (e : Expression) (es : Expressions) (comma : Token) (ts mid rest : List Token) → Claim n whole e ts (comma ∷ mid) →
      IsSymbol sign.Comma comma → ElementsRead n es mid rest → ElementsRead n (more e es) ts rest
  unfolding read.elements_from
  elements_next n e es comma ts mid rest c is l =
      let inside = nested_whole n e ts (comma ∷ mid) c in
      record {
        positive = inside.positive;
        begins = inside.begins;
        shortens = (let x = inside.shortens in let y = l.shortens in omega (arith, x, y));
        reads = λ shallow stop other k enough found.
            on k found (let x = inside.shortens in omega (arith, x, enough)) (inside.reads (omega (arith, shallow)) (ap (λ z. ends_whole (Some z)) is))
            (λ j few all. l.reads (omega (arith, shallow)) stop other j few all);
      }
    where
      on : (k : ℕ) (found : List Expression) → suc (suc (length mid)) ≤ k → nesting line n nested.Whole ts ≡ Some (e, comma ∷ mid) →
          ((j : ℕ) → length mid ≤ j → (all : List Expression) →
          (these : List Expression) × (expressions_from these ≡ es) × (read.elements_from line (nesting line n) j all mid ≡ Some (all ++ these, rest))) →
          (these : List Expression) × (expressions_from these ≡ more e es) × (read.elements_from line (nesting line n) k found ts ≡ Some (found ++ these, rest))
      on zero found few reads others = absurd (omega (arith, few))
      on (suc k) found few reads others =
          let o = others k (omega (arith, few)) (found ++ e ∷ []) in (
            e ∷ o.0,
            ap (λ z. more e z) o.1,
            after _ reads (after _ (eats_symbol sign.Comma comma mid is)
                (o.2 ∙ ap (λ z. Some (z, rest)) (append_assoc found (e ∷ []) o.0))),
          )

  -- ---- lists and calls

  list_empty : (n : ℕ) (opening closing : Token) (rest : List Token) → IsSymbol sign.LeftBracket opening → IsSymbol sign.RightBracket closing →
      Claim (suc (suc n)) postfix (list no_more) (opening ∷ closing ∷ rest) rest
  unfolding read.postfix read.listed
  list_empty n opening closing rest is closes = record {
    positive = (suc n, refl);
    begins = ap (λ k. begins_postfix (Some k)) is;
    shortens = omega arith;
    reads = λ shallow stop. after_peek _ (opening ∷ closing ∷ rest)
        ∙ ap (λ k. read.postfix_by line (levels_at (suc (suc n))) (inner_at (suc (suc n))) (Some k) (opening ∷ closing ∷ rest)) is
        ∙ after _ refl (after _ (opens (suc n) (closing ∷ rest) (n, refl)) (after _ (eats_symbol sign.RightBracket closing rest closes) refl));
  }

  list_some : (n : ℕ) (es : Expressions) (opening closing : Token) (ts rest : List Token) → IsSymbol sign.LeftBracket opening →
      ElementsRead n es ts (closing ∷ rest) → IsSymbol sign.RightBracket closing → Claim (suc n) postfix (list es) (opening ∷ ts) rest
  unfolding read.postfix read.listed read.elements
  list_some n es opening closing ts rest is l closes = record {
    positive = (n, refl);
    begins = ap (λ k. begins_postfix (Some k)) is;
    shortens = (let x = l.shortens in omega (arith, x));
    reads = λ shallow stop.
        let o = l.reads (omega (arith, shallow)) (ap (λ k. ends_whole (Some k)) closes) (ap (λ k. is_symbol sign.Comma (Some k)) closes) (length ts) (omega arith) [] in
        after_peek _ (opening ∷ ts)
        ∙ ap (λ k. read.postfix_by line (levels_at (suc n)) (inner_at (suc n)) (Some k) (opening ∷ ts)) is
        ∙ after _ refl (after _ (opens n ts l.positive) (after _ (leaves_symbol sign.RightBracket ts (no_bracket_end _ l.begins)) (after _ o.2
        (after _ (expects_symbol sign.RightBracket closing rest closes) (ap (λ z. checked (list z) rest) o.1 ∙ passes (list es) rest shallow)))));
  }

  call_starred : (n : ℕ) (t opening star closing : Token) (rest : List Token) → IsTrue (is_name t.kind) → IsSymbol sign.LeftParenthesis opening →
      IsSymbol sign.Star star → IsSymbol sign.RightParenthesis closing → Claim (suc (suc n)) head (call_star (lowered (denotes line t))) (t ∷ opening ∷ star ∷ closing ∷ rest) rest
  unfolding read.named read.called
  call_starred n t opening star closing rest names is stars closes = head_named (suc n) _ t (opening ∷ star ∷ closing ∷ rest) rest names (omega arith) (λ shallow stop.
      after _ (takes is_name line t (opening ∷ star ∷ closing ∷ rest) names) (after _ (eats_symbol sign.LeftParenthesis opening (star ∷ closing ∷ rest) is)
      (after _ (opens (suc n) (star ∷ closing ∷ rest) (n, refl)) (after _ (eats_symbol sign.Star star (closing ∷ rest) stars) (after _ (expects_symbol sign.RightParenthesis closing rest closes) refl)))))

  call_empty : (n : ℕ) (t opening closing : Token) (rest : List Token) → IsTrue (is_name t.kind) → IsSymbol sign.LeftParenthesis opening →
      IsSymbol sign.RightParenthesis closing → Claim (suc (suc n)) head (call (lowered (denotes line t)) false no_more) (t ∷ opening ∷ closing ∷ rest) rest
  unfolding read.named read.called read.arguments
  call_empty n t opening closing rest names is closes = head_named (suc n) _ t (opening ∷ closing ∷ rest) rest names (omega arith) (λ shallow stop.
      after _ (takes is_name line t (opening ∷ closing ∷ rest) names) (after _ (eats_symbol sign.LeftParenthesis opening (closing ∷ rest) is)
      (after _ (opens (suc n) (closing ∷ rest) (n, refl)) (after _ (leaves_symbol sign.Star (closing ∷ rest) (ap (λ k. is_symbol sign.Star (Some k)) closes))
      (after _ (eats_symbol sign.RightParenthesis closing rest closes) refl)))))

  -- the arguments of a call, after DISTINCT if it is there
  arguments_rest : (n : ℕ) (function : Name) (distinct : Bool) (es : Expressions) (closing : Token) (ts rest : List Token) → ElementsRead n es ts (closing ∷ rest) →
      IsSymbol sign.RightParenthesis closing → depth (call function distinct es) ≤ greatest_depth →
      (read.elements line (nesting line n) >>= (λ found. expect_symbol sign.RightParenthesis >> checked (call function distinct (expressions_from found)))) ts
      ≡ Some (call function distinct es, rest)
  unfolding read.elements
  arguments_rest n function distinct es closing ts rest l closes shallow =
      let o = l.reads (omega (arith, shallow)) (ap (λ k. ends_whole (Some k)) closes) (ap (λ k. is_symbol sign.Comma (Some k)) closes) (length ts) (omega arith) [] in
      after _ o.2 (after _ (expects_symbol sign.RightParenthesis closing rest closes)
      (ap (λ z. checked (call function distinct z) rest) o.1 ∙ passes (call function distinct es) rest shallow))

  call_some : (n : ℕ) (es : Expressions) (t opening closing : Token) (ts rest : List Token) → IsTrue (is_name t.kind) → IsSymbol sign.LeftParenthesis opening →
      ElementsRead n es ts (closing ∷ rest) → IsSymbol sign.RightParenthesis closing → Claim (suc n) head (call (lowered (denotes line t)) false es) (t ∷ opening ∷ ts) rest
  unfolding read.named read.called read.arguments
  call_some n es t opening closing ts rest names is l closes = head_named n _ t (opening ∷ ts) rest names (let x = l.shortens in omega (arith, x)) (λ shallow stop.
      after _ (takes is_name line t (opening ∷ ts) names) (after _ (eats_symbol sign.LeftParenthesis opening ts is)
      (after _ (opens n ts l.positive) (after _ (leaves_symbol sign.Star ts (no_star _ l.begins))
      (after _ (leaves_symbol sign.RightParenthesis ts (no_parenthesis_end _ l.begins))
      (after _ (leaves_keyword word.Distinct ts (no_distinct _ l.begins))
      (arguments_rest n (lowered (denotes line t)) false es closing ts rest l closes shallow)))))))

  call_distinct : (n : ℕ) (es : Expressions) (t opening distinct closing : Token) (ts rest : List Token) → IsTrue (is_name t.kind) → IsSymbol sign.LeftParenthesis opening →
      IsKeyword word.Distinct distinct → ElementsRead n es ts (closing ∷ rest) → IsSymbol sign.RightParenthesis closing →
      Claim (suc n) head (call (lowered (denotes line t)) true es) (t ∷ opening ∷ distinct ∷ ts) rest
  unfolding read.named read.called read.arguments
  call_distinct n es t opening distinct closing ts rest names is marks l closes =
      head_named n _ t (opening ∷ distinct ∷ ts) rest names (let x = l.shortens in omega (arith, x)) (λ shallow stop.
      after _ (takes is_name line t (opening ∷ distinct ∷ ts) names) (after _ (eats_symbol sign.LeftParenthesis opening (distinct ∷ ts) is)
      (after _ (opens n (distinct ∷ ts) l.positive) (after _ (leaves_symbol sign.Star (distinct ∷ ts) (ap (λ k. is_symbol sign.Star (Some k)) marks))
      (after _ (leaves_symbol sign.RightParenthesis (distinct ∷ ts) (ap (λ k. is_symbol sign.RightParenthesis (Some k)) marks))
      (after _ (eats_keyword word.Distinct distinct ts marks)
      (arguments_rest n (lowered (denotes line t)) true es closing ts rest l closes shallow)))))))

  -- ---- CASE

  record ArmsRead (n : ℕ) (arms : Arms) (ts rest : List Token) : Type 0 where
    positive : (m : ℕ) × (n ≡ suc m)
    shortens : suc (length rest) ≤ length ts
    reads : arms_depth arms ≤ greatest_depth → ends_whole (kind_ahead rest) ≡ true → is_keyword word.When (kind_ahead rest) ≡ false → (k : ℕ) → length ts ≤ k →
        (found : List (Expression × Expression)) → (these : List (Expression × Expression)) × (arms_from these ≡ arms)
        × (read.arms_read line (nesting line n) k found ts ≡ Some (found ++ these, rest))

  arms_last : (n : ℕ) (a b : Expression) (then_ : Token) (ts mid rest : List Token) → Claim n whole a ts (then_ ∷ mid) → IsKeyword word.Then then_ →
      Claim n whole b mid rest → ArmsRead n (arm a b no_arms) ts rest
  unfolding read.arms_read
  arms_last n a b then_ ts mid rest c is d =
      let first = nested_whole n a ts (then_ ∷ mid) c in
      let second = nested_whole n b mid rest d in
      record {
        positive = first.positive;
        shortens = (let x = first.shortens in let y = second.shortens in omega (arith, x, y));
        reads = λ shallow stop when k enough found.
            on k found (let x = first.shortens in omega (arith, x, enough)) (first.reads (omega (arith, shallow)) (ap (λ z. ends_whole (Some z)) is))
            (second.reads (omega (arith, shallow)) stop) when;
      }
    where
      on : (k : ℕ) (found : List (Expression × Expression)) → 1 ≤ k → nesting line n nested.Whole ts ≡ Some (a, then_ ∷ mid) →
          nesting line n nested.Whole mid ≡ Some (b, rest) → is_keyword word.When (kind_ahead rest) ≡ false →
          (these : List (Expression × Expression)) × (arms_from these ≡ arm a b no_arms) × (read.arms_read line (nesting line n) k found ts ≡ Some (found ++ these, rest))
      on zero found few first second when = absurd (omega (arith, few))
      on (suc k) found few first second when = (
        (a, b) ∷ [],
        refl,
        after _ first (after _ (expects_keyword word.Then then_ mid is)
            (after _ second (after _ (leaves_keyword word.When rest when) refl))),
      )

  arms_next : (n : ℕ) (a b : Expression) (arms : Arms) (then_ when : Token) (ts mid further rest : List Token) → Claim n whole a ts (then_ ∷ mid) →
      IsKeyword word.Then then_ → Claim n whole b mid (when ∷ further) → IsKeyword word.When when → ArmsRead n arms further rest → ArmsRead n (arm a b arms) ts rest
  unfolding read.arms_read
  arms_next n a b arms then_ when ts mid further rest c is d goes_on l =
      let first = nested_whole n a ts (then_ ∷ mid) c in
      let second = nested_whole n b mid (when ∷ further) d in
      record {
        positive = first.positive;
        shortens = (let x = first.shortens in let y = second.shortens in let z = l.shortens in omega (arith, x, y, z));
        reads = λ shallow stop other k enough found.
            on k found (let x = first.shortens in let y = second.shortens in omega (arith, x, y, enough)) (first.reads (omega (arith, shallow)) (ap (λ z. ends_whole (Some z)) is))
            (second.reads (omega (arith, shallow)) (ap (λ z. ends_whole (Some z)) goes_on)) (λ j few all. l.reads (omega (arith, shallow)) stop other j few all);
      }
    where
      on : (k : ℕ) (found : List (Expression × Expression)) → suc (length further) ≤ k → nesting line n nested.Whole ts ≡ Some (a, then_ ∷ mid) →
          nesting line n nested.Whole mid ≡ Some (b, when ∷ further) →
          ((j : ℕ) → length further ≤ j → (all : List (Expression × Expression)) →
          (these : List (Expression × Expression)) × (arms_from these ≡ arms) × (read.arms_read line (nesting line n) j all further ≡ Some (all ++ these, rest))) →
          (these : List (Expression × Expression)) × (arms_from these ≡ arm a b arms) × (read.arms_read line (nesting line n) k found ts ≡ Some (found ++ these, rest))
      on zero found few first second others = absurd (omega (arith, few))
      on (suc k) found few first second others =
          let o = others k (omega (arith, few)) (found ++ (a, b) ∷ []) in (
            (a, b) ∷ o.0,
            ap (λ z. arm a b z) o.1,
            after _ first (after _ (expects_keyword word.Then then_ mid is) (after _ second
                (after _ (eats_keyword word.When when further goes_on) (o.2 ∙ ap (λ z. Some (z, rest)) (append_assoc found ((a, b) ∷ []) o.0))))),
          )

  -- ELSE, before END
  record ElseRead (n : ℕ) (o : Otherwise) (ts rest : List Token) : Type 0 where
    shortens : length rest ≤ length ts
    between : kind_ahead rest ≡ Some (kind.Keyword word.End) → (ends_whole (kind_ahead ts) ≡ true) × (is_keyword word.When (kind_ahead ts) ≡ false)
    reads : otherwise_depth o ≤ greatest_depth → kind_ahead rest ≡ Some (kind.Keyword word.End) → read.else_read line (nesting line n) ts ≡ Some (o, rest)

  else_none : (n : ℕ) (ts : List Token) → ElseRead n nothing ts ts
  unfolding read.else_read
  else_none n ts = record {
    shortens = omega arith;
    between = λ end. (ap ends_whole end, ap (is_keyword word.When) end);
    reads = λ shallow end. after _ (leaves_keyword word.Else ts (ap (is_keyword word.Else) end)) refl;
  }

  else_some : (n : ℕ) (e : Expression) (t : Token) (ts rest : List Token) → IsKeyword word.Else t → Claim n whole e ts rest → ElseRead n (otherwise e) (t ∷ ts) rest
  unfolding read.else_read
  else_some n e t ts rest is c =
      let inside = nested_whole n e ts rest c in
      record {
        shortens = (let x = inside.shortens in omega (arith, x));
        between = λ end. (ap (λ k. ends_whole (Some k)) is, ap (λ k. is_keyword word.When (Some k)) is);
        reads = λ shallow end. after _ (eats_keyword word.Else t ts is) (after _ (inside.reads shallow (ap ends_whole end)) refl);
      }

  cases_all : (n : ℕ) (arms : Arms) (o : Otherwise) (case_ when end : Token) (ts mid rest : List Token) → IsKeyword word.Case case_ → IsKeyword word.When when →
      ArmsRead n arms ts mid → ElseRead n o mid (end ∷ rest) → IsKeyword word.End end → Claim (suc n) postfix (case arms o) (case_ ∷ when ∷ ts) rest
  unfolding read.postfix read.cases read.arms
  cases_all n arms o case_ when end ts mid rest is begins_ a l closes = record {
    positive = (n, refl);
    begins = ap (λ k. begins_postfix (Some k)) is;
    shortens = (let x = a.shortens in let y = l.shortens in omega (arith, x, y));
    reads = λ shallow stop.
        let closing : Some end.kind ≡ Some (kind.Keyword word.End) = ap Some closes in
        let between = l.between closing in
        let found = a.reads (omega (arith, shallow)) between.0 between.1 (length ts) (omega arith) [] in
        after_peek _ (case_ ∷ when ∷ ts)
        ∙ ap (λ k. read.postfix_by line (levels_at (suc n)) (inner_at (suc n)) (Some k) (case_ ∷ when ∷ ts)) is
        ∙ after _ refl (after _ (opens n (when ∷ ts) a.positive) (after _ (expects_keyword word.When when ts begins_) (after _ found.2 (after _ (l.reads (omega (arith, shallow)) closing)
        (after _ (expects_keyword word.End end rest closes) (ap (λ z. checked (case z o) rest) found.1 ∙ passes (case arms o) rest shallow))))));
  }

  -- ---- every derivation

  keyword_predicate : (w : Keyword) (t : Token) → IsKeyword w t → begins_predicate (Some (kind.Keyword w)) ≡ true → begins_predicate (Some t.kind) ≡ true
  keyword_predicate w t is goes = ap (λ k. begins_predicate (Some k)) is ∙ goes

  keyword_ends : (w : Keyword) (t : Token) → IsKeyword w t → ends_sum (Some (kind.Keyword w)) ≡ true → ends_sum (Some t.kind) ≡ true
  keyword_ends w t is stop = ap (λ k. ends_sum (Some k)) is ∙ stop

  mutual
    complete : {n : ℕ} {l : Level} {e : Expression} {ts rest : List Token} → Spells line n l e ts rest → Claim n l e ts rest
    complete (is_exclusion n e ts rest s) = chain_of_one n _ _ _ _ e ts rest (exclusion_of n e ts rest (complete s))
    complete (or n a b t ts mid rest s is u) =
        let by : disjunction_operator t.kind ≡ Some operator.Or = ap disjunction_operator is in
        chain_of_two n _ _ _ _ operator.Or a b t ts mid rest (complete s) by (disjunction_ends t.kind operator.Or by) (exclusion_of n b mid rest (complete u))
    complete (is_conjunction n e ts rest s) = chain_of_one n _ _ _ _ e ts rest (conjunction_of n e ts rest (complete s))
    complete (xor n a b t ts mid rest s is u) =
        let by : exclusion_operator t.kind ≡ Some operator.Xor = ap exclusion_operator is in
        chain_of_two n _ _ _ _ operator.Xor a b t ts mid rest (complete s) by (exclusion_ends t.kind operator.Xor by) (conjunction_of n b mid rest (complete u))
    complete (is_negation n e ts rest s) = chain_of_one n _ _ _ _ e ts rest (complete s)
    complete (and n a b t ts mid rest s is u) =
        let by : conjunction_operator t.kind ≡ Some operator.And = ap conjunction_operator is in
        chain_of_two n _ _ _ _ operator.And a b t ts mid rest (complete s) by (conjunction_ends t.kind operator.And by) (complete u)
    complete (is_comparison n e ts rest s) = negation_single n e ts rest (complete s)
    complete (denied n e t ts rest is s) = negation_not n e t ts rest is (complete s)
    complete (is_predicate n e ts rest s) = comparisons_single n e ts rest (complete s)
    complete (compare n e ls ts mid rest s u) = comparisons_chain n e ls ts mid rest (complete s) (complete_links u)
    complete (is_sum n e ts rest s) = predicate_first n e ts rest (complete s)
    complete (is_null n e is_ nil ts rest s i l) =
        predicate_more n e _ is_ ts (nil ∷ rest) rest (complete s) (keyword_predicate _ is_ i refl) (keyword_ends _ is_ i refl) (λ h. omega (arith, h)) (omega arith)
        (λ shallow stop. null_step n e is_ nil rest i l (omega (arith, shallow)))
    complete (is_not_null n e is_ o nil ts rest s i d l) =
        predicate_more n e _ is_ ts (o ∷ nil ∷ rest) rest (complete s) (keyword_predicate _ is_ i refl) (keyword_ends _ is_ i refl) (λ h. omega (arith, h)) (omega arith)
        (λ shallow stop. not_null_step n e is_ o nil rest i d l (omega (arith, shallow)))
    complete (among n a b t ts mid rest s is u) = predicate_word n operator.In word.In a b t ts mid rest (complete s) is refl refl (complete u) (λ r. after _ refl r)
    complete (contains n a b t ts mid rest s is u) = predicate_word n operator.Contains word.Contains a b t ts mid rest (complete s) is refl refl (complete u) (λ r. after _ refl r)
    complete (starts_with n a b t with_ ts mid rest s is w u) = predicate_with n operator.StartsWith word.Starts a b t with_ ts mid rest (complete s) is w refl refl (complete u) (λ r. after _ refl r)
    complete (ends_with n a b t with_ ts mid rest s is w u) = predicate_with n operator.EndsWith word.Ends a b t with_ ts mid rest (complete s) is w refl refl (complete u) (λ r. after _ refl r)
    complete (is_product n e ts rest s) = chain_of_one n _ _ _ _ e ts rest (product_of n e ts rest (complete s))
    complete (add n o a b t ts mid rest s is u) =
        chain_of_two n _ _ _ _ o a b t ts mid rest (complete s) is (sum_ends t.kind o is) (product_of n b mid rest (complete u))
    complete (is_signed n e ts rest s) = chain_of_one n _ _ _ _ e ts rest (complete s)
    complete (multiply n o a b t ts mid rest s is u) =
        chain_of_two n _ _ _ _ o a b t ts mid rest (complete s) is (product_ends t.kind o is) (complete u)
    complete (is_postfix n e ts rest s) = signed_single n e ts rest (complete s)
    complete (negative n m minus_ number_ rest is counts small) = signed_number n m minus_ number_ rest is counts small
    complete (minus n e t ts rest is other s) = signed_minus n e t ts rest is other (complete s)
    complete (plus n e t ts rest is s) = signed_plus n e t ts rest is (complete s)
    complete (is_owner n e ts rest s) = postfix_owner n e ts rest (complete s)
    complete (labelled n e ls colon ts mid rest s is names) =
        postfix_labelled n e ls colon ts mid rest (complete s) is (labels_shorten line ls mid rest names) (λ stop. labels_read line ls mid rest names stop)
    complete (is_head n e ts rest s) = complete s
    complete (with_key n e dot key ts rest s is names) = owner_key n e dot key ts rest (complete s) is names
    complete (true_ n t rest is) = literal_word n (boolean true) (kind.Keyword word.True) t rest is refl refl (after _ refl refl)
    complete (false_ n t rest is) = literal_word n (boolean false) (kind.Keyword word.False) t rest is refl refl (after _ refl refl)
    complete (null_ n t rest is) = literal_word n null (kind.Keyword word.Null) t rest is refl refl (after _ refl refl)
    complete (number n m t rest is small) = literal_number n m t rest is small
    complete (text_ n t rest is) = literal_text n t rest is
    complete (empty_list n opening closing rest is closes) = list_empty n opening closing rest is closes
    complete (list_of n es opening closing ts rest is s closes) = list_some n es opening closing ts rest is (complete_all s) closes
    complete (case_of n arms o case_ when end ts mid rest is begins_ s u closes) =
        cases_all n arms o case_ when end ts mid rest is begins_ (complete_arms s) (complete_otherwise u) closes
    complete (name n t rest is) = head_variable n t rest is
    complete (call_of_star n t opening star closing rest names is stars closes) = call_starred n t opening star closing rest names is stars closes
    complete (call_of_nothing n t opening closing rest names is closes) = call_empty n t opening closing rest names is closes
    complete (call_of n es t opening closing ts rest names is s closes) = call_some n es t opening closing ts rest names is (complete_all s) closes
    complete (call_of_distinct n es t opening distinct closing ts rest names is marks s closes) =
        call_distinct n es t opening distinct closing ts rest names is marks (complete_all s) closes
    complete (bracket n e opening closing ts rest is s closes) = head_bracket n e opening closing ts rest is (complete s) closes

    complete_all : {n : ℕ} {es : Expressions} {ts rest : List Token} → SpellsAll line n es ts rest → ElementsRead n es ts rest
    complete_all (last_element n e ts rest s) = elements_last n e ts rest (complete s)
    complete_all (next_element n e es comma ts mid rest s is u) = elements_next n e es comma ts mid rest (complete s) is (complete_all u)

    complete_links : {n : ℕ} {ls : Links} {ts rest : List Token} → SpellsLinks line n ls ts rest → LinksRead n ls ts rest
    complete_links (last_link n by e t ts rest is s) = link_last n by e t ts rest is (complete s)
    complete_links (next_link n by e ls t ts mid rest is s u) = link_next n by e ls t ts mid rest is (complete s) (complete_links u)

    complete_arms : {n : ℕ} {arms : Arms} {ts rest : List Token} → SpellsArms line n arms ts rest → ArmsRead n arms ts rest
    complete_arms (last_arm n a b then_ ts mid rest s is u) = arms_last n a b then_ ts mid rest (complete s) is (complete u)
    complete_arms (next_arm n a b arms then_ when ts mid further rest s is u goes_on v) =
        arms_next n a b arms then_ when ts mid further rest (complete s) is (complete u) goes_on (complete_arms v)

    complete_otherwise : {n : ℕ} {o : Otherwise} {ts rest : List Token} → SpellsOtherwise line n o ts rest → ElseRead n o ts rest
    complete_otherwise (no_else n ts) = else_none n ts
    complete_otherwise (else_ n e t ts rest is s) = else_some n e t ts rest is (complete s)

  pub expression-complete : (e : Expression) (ts rest : List Token) → Spells line most_levels whole e ts rest →
      Reading most_levels begins_negation ends_whole (read.expression line) e ts rest
  expression-complete e ts rest s = nested_whole most_levels e ts rest (complete s)

  pub negation-complete : (e : Expression) (ts rest : List Token) → Spells line most_levels negation e ts rest →
      Reading most_levels begins_negation ends_comparisons (nesting line most_levels nested.Negation) e ts rest
  negation-complete e ts rest s = nested_negation most_levels e ts rest (complete s)
