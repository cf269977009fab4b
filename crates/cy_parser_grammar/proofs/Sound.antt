-- What is read spells what is answered: expressions.
use Rattle.std.proofs.Common.{◌≡◌, ℕ, zero, suc, ◌≤◌, Bool, true, false, IsTrue, List, [], ◌∷◌, ◌++◌, length, Option, Some, None, refl, sym, ap, ◌∙◌, subst, append_assoc, append-nil, arith, nat_lt, nat_le, pos, if◌then◌else◌}
use Rattle.std.proofs.lemmas.Bool.Decides.{nat_tests}
use Rattle.cy_lexer.specs.declared.tokens.Token.{Token}
use Rattle.cy_lexer.specs.declared.tokens.TokenKind.{TokenKind}
use Rattle.cy_lexer.specs.declared.tokens.TokenKind.TheVariants as kind
use Rattle.cy_lexer.specs.declared.keywords.Keyword.TheVariants as word
use Rattle.cy_lexer.specs.declared.symbols.Symbol.TheVariants as sign
use Rattle.cy_trees.specs.declared.expressions.UnaryOperator.TheVariants as unary_operator
use Rattle.cy_trees.specs.declared.expressions.BinaryOperator.{BinaryOperator}
use Rattle.cy_trees.specs.declared.expressions.BinaryOperator.TheVariants as operator
use Rattle.cy_trees.specs.declared.expressions.Comparator.{Comparator}
use Rattle.cy_parser_grammar.specs.declared.places.Nested.{Nested}
use Rattle.cy_parser_grammar.specs.declared.places.Nested.TheVariants as nested
use Rattle.cy_trees.specs.Trees.{Name, Expression, list, no_more, call, call_star, variable, property, has_labels, unary, binary, boolean, integer, null, text, comparison, nothing, otherwise, case}
use Rattle.cy_trees.specs.Depth.{depth, greatest_depth}
use Rattle.cy_trees.specs.TreeModels.{expressions_from, arms_from, links_from}
use Rattle.cy_parser_grammar.specs.Words.{is_word, is_name, denotes, lowered, negated, product_operator, sum_operator, comparator_of}
use Rattle.cy_lexer.specs.Numbers.{greatest_number}
use Rattle.cy_parser_grammar.specs.internal.Chains.{conjunction_operator, exclusion_operator, disjunction_operator}
use Rattle.cy_parser_grammar.specs.internal.Reader.{Reader, and_then, checked, skip, at_kind, ◌>>◌, pure, refuse, ◌>>=◌, ◌<$>◌, kind_ahead, past}
use Rattle.cy_parser_grammar.specs.internal.Expressions.{bracketed, listed, elements, elements_from, labels, labels_from, arguments, called, named, arms, arms_read, else_read, cases, properties, properties_from, labelled as labelled_read, attributes, literal, literal_by, counted, quoted, postfix as postfix_read, postfix_by, minus as minus_read, minus_by, plus as plus_read, chain, chain_from, signed as signed_read, product as product_read, sum as sum_read, null_test, tested, predicate_by, begins_predicate, predicate_step, predicates_from, predicate as predicate_read, links_read, links, compared, comparisons as comparisons_read, negation as negation_read, conjunction as conjunction_read, exclusion as exclusion_read, disjunction, level, nesting, expression, opened}
use Rattle.cy_parser_grammar.specs.SpellsClauses.{most_levels}
use Rattle.cy_parser_grammar.specs.Spells.{Spells, SpellsAll, SpellsLabels, Level, whole, head, postfix, bracket, IsSymbol, IsKeyword, last_label, next_label, last_element, next_element, empty_list, list_of, call_of, call_of_distinct, call_of_nothing, call_of_star, name, owner, is_head, with_key, is_owner, labelled, SpellsArms, last_arm, next_arm, SpellsOtherwise, no_else, else_, case_of, true_, false_, null_, number, text_, signed, minus, plus, negative, begins_with_number, is_number, is_postfix, product, is_signed, multiply, sum, is_product, add, predicate, is_sum, is_null, is_not_null, among, contains, starts_with, ends_with, SpellsLinks, last_link, next_link, comparisons, is_predicate, compare, negation, is_comparison, not, conjunction, is_negation, and, exclusion, is_conjunction, xor, is_exclusion, or}
use Rattle.cy_parser_grammar.proofs.Gives.{AteKeyword, Gives, bind, answer, refused, symbol_there, keyword_there, ate_symbol, ate_keyword, by_test, checked_there, denoting_there, bind_peek, bind_skip, ahead, ahead_by, by_option}

-- the expression is spelt, and isn't too deep
pub record Spelt (line : List ℕ) (n : ℕ) (level : Level) (ts : List Token) (e : Expression) (rest : List Token) : Type 0 where
  pub spells : Spells line n level e ts rest
  pub shallow : depth e ≤ greatest_depth

-- a reader that answers what is found so far and more, of which less is found here
pub later : {A : Type 0} {o : Option (A × List Token)} (first second : A → List Token → Type 0) →
    ((a : A) (rest : List Token) → first a rest → second a rest) → Gives o first → Gives o second
later first second then_ g = record { given = λ a rest e. then_ a rest (g.given a rest e) }

-- what was found before, and what is spelt here
pub record Found {A : Type 0} (spells : List A → List Token → List Token → Type 0) (found : List A) (ts : List Token) (all : List A) (rest : List Token) : Type 0 where
  pub these : List A
  pub all_is : all ≡ found ++ these
  pub spelt : spells these ts rest

module _ {A : Type 0} (spells : List A → List Token → List Token → Type 0) (found : List A) where
  -- nothing is found here
  pub found_none : (ts : List Token) → spells [] ts ts → Gives (Some (found, ts)) (Found spells found ts)
  found_none ts s = answer _ _ _ (record { these = []; all_is = sym (append-nil found); spelt = s })

  -- the last one is found
  pub found_last : (a : A) (ts rest : List Token) → spells (a ∷ []) ts rest → Gives (Some (found ++ a ∷ [], rest)) (Found spells found ts)
  found_last a ts rest s = answer _ _ _ (record { these = a ∷ []; all_is = refl; spelt = s })

  -- one is found, and then what comes after it
  pub found_more : {o : Option (List A × List Token)} (a : A) (ts mid : List Token) →
      ((these : List A) (rest : List Token) → spells these mid rest → spells (a ∷ these) ts rest) → Gives o (Found spells (found ++ a ∷ []) mid) → Gives o (Found spells found ts)
  found_more a ts mid more g = later _ _ (λ all rest f. record { these = a ∷ f.these; all_is = f.all_is ∙ append_assoc found (a ∷ []) f.these; spelt = more f.these rest f.spelt }) g

-- where nothing was found before, all is spelt here
pub all_found : {A : Type 0} {o : Option (List A × List Token)} (spells : List A → List Token → List Token → Type 0) (ts : List Token) →
    Gives o (Found spells [] ts) → Gives o (λ all rest. spells all ts rest)
all_found spells ts g = later _ _ (λ all rest f. subst (λ z. spells z ts rest) (sym f.all_is) f.spelt) g

labels-sound-from : (line : List ℕ) (turns : ℕ) (found : List Name) (ts : List Token) → Gives (labels_from line turns found ts) (Found (SpellsLabels line) found ts)
unfolding labels_from
labels-sound-from line zero found ts = refused _
labels-sound-from line (suc turns) found ts =
    bind (denoting_there is_word line ts) (λ label mid w. bind (ate_symbol sign.Colon mid) (λ goes_on after c. by_test _ _ goes_on after _
    (λ yes. found_more _ found label ts after (λ these rest s.
    let x = c.there yes in
    subst (λ z. SpellsLabels line (label ∷ these) z rest) (sym w.1)
    (subst (λ z. SpellsLabels line (label ∷ these) (w.0 ∷ z) rest) (sym x.1)
    (subst (λ z. SpellsLabels line (z ∷ these) (w.0 ∷ x.0 ∷ after) rest) (sym w.3) (next_label these w.0 x.0 after rest w.2 x.2 s))))
    (labels-sound-from line turns (found ++ label ∷ []) after))
    (λ stop. found_last _ found label ts after
    (subst (λ z. SpellsLabels line (label ∷ []) z after) (sym w.1)
    (subst (λ z. SpellsLabels line (label ∷ []) (w.0 ∷ z) after) (c.absent stop)
    (subst (λ z. SpellsLabels line (z ∷ []) (w.0 ∷ after) after) (sym w.3) (last_label w.0 after w.2)))))))

pub labels-sound : (line : List ℕ) (ts : List Token) → Gives (labels line ts) (λ ls rest. SpellsLabels line ls ts rest)
unfolding labels
labels-sound line ts = all_found (SpellsLabels line) ts (labels-sound-from line (length ts) [] ts)

opened-sound : (n : ℕ) (ts : List Token) → Gives (opened n ts) (λ _ rest. (rest ≡ ts) × (m : ℕ) × (n ≡ suc m))
unfolding opened
opened-sound zero ts = refused _
opened-sound (suc m) ts = answer _ _ _ (refl, m, refl)

module _ (line : List ℕ) (n : ℕ) (inner : Nested → Reader Expression)
    (whole-sound : (ts : List Token) → Gives (inner nested.Whole ts) (Spelt line n whole ts)) where
  elements-sound-from : (turns : ℕ) (found : List Expression) (ts : List Token) → Gives (elements_from line inner turns found ts) (Found (λ es. SpellsAll line n (expressions_from es)) found ts)
  unfolding elements_from
  elements-sound-from zero found ts = refused _
  elements-sound-from (suc turns) found ts =
      bind (whole-sound ts) (λ e mid s. bind (ate_symbol sign.Comma mid) (λ goes_on after c. by_test _ _ goes_on after _
      (λ yes. found_more _ found e ts after (λ these rest others.
      let x = c.there yes in
      next_element n e (expressions_from these) x.0 ts after rest (subst (λ z. Spells line n whole e ts z) x.1 s.spells) x.2 others)
      (elements-sound-from turns (found ++ e ∷ []) after))
      (λ stop. found_last _ found e ts after (last_element n e ts after (subst (λ z. Spells line n whole e ts z) (sym (c.absent stop)) s.spells)))))

  elements-sound : (ts : List Token) → Gives (elements line inner ts) (λ es rest. SpellsAll line n (expressions_from es) ts rest)
  unfolding elements
  elements-sound ts = all_found (λ es. SpellsAll line n (expressions_from es)) ts (elements-sound-from (length ts) [] ts)

  bracketed-sound : (opening : Token) (ts : List Token) → IsSymbol sign.LeftParenthesis opening →
      Gives (bracketed line inner ts) (Spelt line (suc n) head (opening ∷ ts))
  unfolding bracketed
  bracketed-sound opening ts is =
      bind (whole-sound ts) (λ e mid s. bind (symbol_there sign.RightParenthesis mid) (λ _ rest x.
      answer _ _ _ (record {
        spells = bracket n e opening x.0 ts rest is (subst (λ z. Spells line n whole e ts z) x.1 s.spells) x.2;
        shallow = s.shallow;
      })))

  listed-sound : (m : ℕ) (opening : Token) (ts : List Token) → n ≡ suc m → IsSymbol sign.LeftBracket opening →
      Gives (listed line inner ts) (Spelt line (suc n) postfix (opening ∷ ts))
  unfolding listed
  listed-sound m opening ts some_left is =
      bind (ate_symbol sign.RightBracket ts) (λ is_empty after c. by_test _ _ is_empty after _
      (λ yes. answer _ _ _ (
      let x = c.there yes in
      record {
        spells =
            subst (λ z. Spells line (suc n) postfix (list no_more) (opening ∷ z) after) (sym x.1)
            (subst (λ k. Spells line (suc k) postfix (list no_more) (opening ∷ x.0 ∷ after) after) (sym some_left) (empty_list m opening x.0 after is x.2));
        shallow = omega arith;
      }))
      (λ some. bind (elements-sound after) (λ es mid s. bind (symbol_there sign.RightBracket mid) (λ _ rest x.
      later _ _ (λ e left k. record {
        spells =
            let here : SpellsAll line n (expressions_from es) ts (x.0 ∷ rest) =
            subst (λ z. SpellsAll line n (expressions_from es) z (x.0 ∷ rest)) (c.absent some) (subst (λ z. SpellsAll line n (expressions_from es) after z) x.1 s) in
            subst (λ z. Spells line (suc n) postfix e (opening ∷ ts) z) (sym k.1)
            (subst (λ z. Spells line (suc n) postfix z (opening ∷ ts) rest) (sym k.0) (list_of n (expressions_from es) opening x.0 ts rest is here x.2));
        shallow = subst (λ z. depth z ≤ greatest_depth) (sym k.0) k.2;
      }) (checked_there (list (expressions_from es)) rest)))))

  -- a call after its name and bracket
  arguments-sound : (m : ℕ) (t opening : Token) (ts : List Token) → n ≡ suc m → IsTrue (is_name t.kind) → IsSymbol sign.LeftParenthesis opening →
      Gives (arguments line inner (lowered (denotes line t)) ts) (Spelt line (suc n) head (t ∷ opening ∷ ts))
  unfolding arguments
  arguments-sound m t opening ts some_left named_ is =
      bind (ate_symbol sign.RightParenthesis ts) (λ is_empty after c. by_test _ _ is_empty after _
      (λ yes. answer _ _ _ (
      let x = c.there yes in
      let f = lowered (denotes line t) in
      record {
        spells =
            subst (λ z. Spells line (suc n) head (call f false no_more) (t ∷ opening ∷ z) after) (sym x.1)
            (subst (λ k. Spells line (suc k) head (call f false no_more) (t ∷ opening ∷ x.0 ∷ after) after) (sym some_left)
            (call_of_nothing m t opening x.0 after named_ is x.2));
        shallow = omega arith;
      }))
      (λ some. bind (ate_keyword word.Distinct after) (λ distinct from d. bind (elements-sound from) (λ es mid s. bind (symbol_there sign.RightParenthesis mid) (λ _ rest x.
      later _ _ (λ e left k. record {
        spells =
            let f = lowered (denotes line t) in
            let here : SpellsAll line n (expressions_from es) from (x.0 ∷ rest) = subst (λ z. SpellsAll line n (expressions_from es) from z) x.1 s in
            subst (λ z. Spells line (suc n) head e (t ∷ opening ∷ ts) z) (sym k.1)
            (subst (λ z. Spells line (suc n) head z (t ∷ opening ∷ ts) rest) (sym k.0)
            (subst (λ z. Spells line (suc n) head (call f distinct (expressions_from es)) (t ∷ opening ∷ z) rest) (c.absent some)
            (call_either t opening x.0 from after rest es distinct named_ is x.2 d here)));
        shallow = subst (λ z. depth z ≤ greatest_depth) (sym k.0) k.2;
      }) (checked_there (call (lowered (denotes line t)) distinct (expressions_from es)) rest))))))
    where
      call_either : (t opening closing : Token) (from after rest : List Token) (es : List Expression) (distinct : Bool) →
          IsTrue (is_name t.kind) → IsSymbol sign.LeftParenthesis opening → IsSymbol sign.RightParenthesis closing →
          AteKeyword word.Distinct after distinct from → SpellsAll line n (expressions_from es) from (closing ∷ rest) →
          Spells line (suc n) head (call (lowered (denotes line t)) distinct (expressions_from es)) (t ∷ opening ∷ after) rest
      call_either t opening closing from after rest es true named_ is closes d here =
          let x = d.there refl in
          subst (λ z. Spells line (suc n) head (call (lowered (denotes line t)) true (expressions_from es)) (t ∷ opening ∷ z) rest) (sym x.1)
          (call_of_distinct n (expressions_from es) t opening x.0 closing from rest named_ is x.2 here closes)
      call_either t opening closing from after rest es false named_ is closes d here =
          subst (λ z. Spells line (suc n) head (call (lowered (denotes line t)) false (expressions_from es)) (t ∷ opening ∷ z) rest) (d.absent refl)
          (call_of n (expressions_from es) t opening closing from rest named_ is here closes)

  called-sound : (m : ℕ) (t opening : Token) (ts : List Token) → n ≡ suc m → IsTrue (is_name t.kind) → IsSymbol sign.LeftParenthesis opening →
      Gives (called line inner (lowered (denotes line t)) ts) (Spelt line (suc n) head (t ∷ opening ∷ ts))
  unfolding called
  called-sound m t opening ts some_left named_ is =
      bind (ate_symbol sign.Star ts) (λ is_star after c. by_test _ _ is_star after _
      (λ yes. bind (symbol_there sign.RightParenthesis after) (λ _ rest x. answer _ _ _ (
      let s = c.there yes in
      let f = lowered (denotes line t) in
      record {
        spells =
            subst (λ z. Spells line (suc n) head (call_star f) (t ∷ opening ∷ z) rest) (sym s.1)
            (subst (λ z. Spells line (suc n) head (call_star f) (t ∷ opening ∷ s.0 ∷ z) rest) (sym x.1)
            (subst (λ k. Spells line (suc k) head (call_star f) (t ∷ opening ∷ s.0 ∷ x.0 ∷ rest) rest) (sym some_left)
            (call_of_star m t opening s.0 x.0 rest named_ is s.2 x.2)));
        shallow = omega arith;
      })))
      (λ other. subst (λ z. Gives (arguments line inner (lowered (denotes line t)) after) (Spelt line (suc n) head (t ∷ opening ∷ z))) (c.absent other)
      (arguments-sound m t opening after some_left named_ is)))

  named-sound : (ts : List Token) → Gives (named line n inner ts) (Spelt line (suc n) head ts)
  unfolding named
  named-sound ts =
      bind (denoting_there is_name line ts) (λ by mid w. bind (ate_symbol sign.LeftParenthesis mid) (λ is_call after c. by_test _ _ is_call after _
      (λ yes. bind (opened-sound n after) (λ _ from o.
      let x = c.there yes in
      let begins : ts ≡ w.0 ∷ x.0 ∷ from = w.1 ∙ ap (λ z. w.0 ∷ z) (x.1 ∙ ap (λ z. x.0 ∷ z) (sym o.0)) in
      subst (λ z. Gives (called line inner (lowered by) from) (Spelt line (suc n) head z)) (sym begins)
      (subst (λ z. Gives (called line inner (lowered z) from) (Spelt line (suc n) head (w.0 ∷ x.0 ∷ from))) (sym w.3)
      (called-sound o.1 w.0 x.0 from o.2 w.2 x.2))))
      (λ bare. answer _ _ _ (record {
        spells =
            subst (λ z. Spells line (suc n) head (variable (record { name = by; column = None })) z after) (sym w.1)
            (subst (λ z. Spells line (suc n) head (variable (record { name = by; column = None })) (w.0 ∷ z) after) (c.absent bare)
            (subst (λ z. Spells line (suc n) head (variable (record { name = z; column = None })) (w.0 ∷ after) after) (sym w.3) (name n w.0 after w.2)));
        shallow = omega arith;
      }))))

  arms-sound-from : (turns : ℕ) (found : List (Expression × Expression)) (ts : List Token) → Gives (arms_read line inner turns found ts) (Found (λ as1. SpellsArms line n (arms_from as1)) found ts)
  unfolding arms_read
  arms-sound-from zero found ts = refused _
  arms-sound-from (suc turns) found ts =
      bind (whole-sound ts) (λ a from s. bind (keyword_there word.Then from) (λ _ next x. bind (whole-sound next) (λ b mid u. bind (ate_keyword word.When mid) (λ goes_on after c. by_test _ _ goes_on after _
      (λ yes. found_more _ found (a, b) ts after (λ these rest others.
      let w = c.there yes in
      next_arm n a b (arms_from these) x.0 w.0 ts next after rest (subst (λ z. Spells line n whole a ts z) x.1 s.spells) x.2
      (subst (λ z. Spells line n whole b next z) w.1 u.spells) w.2 others)
      (arms-sound-from turns (found ++ (a, b) ∷ []) after))
      (λ stop. found_last _ found (a, b) ts after (last_arm n a b x.0 ts next after (subst (λ z. Spells line n whole a ts z) x.1 s.spells) x.2
      (subst (λ z. Spells line n whole b next z) (sym (c.absent stop)) u.spells)))))))

  arms-sound : (ts : List Token) → Gives (arms line inner ts) (λ as1 rest. SpellsArms line n (arms_from as1) ts rest)
  unfolding arms
  arms-sound ts = all_found (λ as1. SpellsArms line n (arms_from as1)) ts (arms-sound-from (length ts) [] ts)

  else-sound : (ts : List Token) → Gives (else_read line inner ts) (λ e rest. SpellsOtherwise line n e ts rest)
  unfolding else_read
  else-sound ts =
      bind (ate_keyword word.Else ts) (λ is_there after c. by_test _ _ is_there after _
      (λ yes. bind (whole-sound after) (λ e rest s. answer _ _ _ (
      let x = c.there yes in
      subst (λ z. SpellsOtherwise line n (otherwise e) z rest) (sym x.1) (else_ n e x.0 after rest x.2 s.spells))))
      (λ none. answer _ _ _ (subst (λ z. SpellsOtherwise line n nothing z after) (c.absent none) (no_else n after))))

  cases-sound : (t : Token) (ts : List Token) → IsKeyword word.Case t → Gives (cases line inner ts) (Spelt line (suc n) postfix (t ∷ ts))
  unfolding cases
  cases-sound t ts is =
      bind (keyword_there word.When ts) (λ _ from w. bind (arms-sound from) (λ found mid s. bind (else-sound mid) (λ last next l. bind (keyword_there word.End next) (λ _ rest x.
      later _ _ (λ e left k. record {
        spells =
            subst (λ z. Spells line (suc n) postfix e (t ∷ ts) z) (sym k.1)
            (subst (λ z. Spells line (suc n) postfix z (t ∷ ts) rest) (sym k.0)
            (subst (λ z. Spells line (suc n) postfix (case (arms_from found) last) (t ∷ z) rest) (sym w.1)
            (case_of n (arms_from found) last t w.0 x.0 from mid rest is w.2 s (subst (λ z. SpellsOtherwise line n last mid z) x.1 l) x.2)));
        shallow = subst (λ z. depth z ≤ greatest_depth) (sym k.0) k.2;
      }) (checked_there (case (arms_from found) last) rest)))))

  -- the properties and the labels after an owner, which begins at `from`
  properties-sound-from : (turns : ℕ) (e : Expression) (from ts : List Token) → Spelt line (suc n) owner from e ts →
      Gives (properties_from line turns e ts) (Spelt line (suc n) owner from)
  unfolding properties_from
  properties-sound-from zero e from ts s = answer _ _ _ s
  properties-sound-from (suc turns) e from ts s =
      bind (ate_symbol sign.Dot ts) (λ is_there after c. by_test _ _ is_there after _
      (λ yes. bind (denoting_there is_word line after) (λ key mid w. bind (checked_there (property e key) mid) (λ further next k.
      properties-sound-from turns further from next (
      let x = c.there yes in
      let begins : ts ≡ x.0 ∷ w.0 ∷ mid = x.1 ∙ ap (λ z. x.0 ∷ z) w.1 in
      record {
        spells =
            subst (λ z. Spells line (suc n) owner further from z) (sym k.1)
            (subst (λ z. Spells line (suc n) owner z from mid) (sym k.0)
            (subst (λ z. Spells line (suc n) owner (property e z) from mid) (sym w.3)
            (with_key (suc n) e x.0 w.0 from mid (subst (λ z. Spells line (suc n) owner e from z) begins s.spells) x.2 w.2)));
        shallow = subst (λ z. depth z ≤ greatest_depth) (sym k.0) k.2;
      }))))
      (λ none. answer _ _ _ (subst (λ z. Spelt line (suc n) owner from e z) (sym (c.absent none)) s)))

  labelled-sound : (e : Expression) (from ts : List Token) → Spelt line (suc n) owner from e ts → Gives (labelled_read line e ts) (Spelt line (suc n) postfix from)
  unfolding labelled_read
  labelled-sound e from ts s =
      bind (ate_symbol sign.Colon ts) (λ is_there after c. by_test _ _ is_there after _
      (λ yes. bind (labels-sound line after) (λ ls mid l. later _ _ (λ x rest k. (
      let colon = c.there yes in
      record {
        spells =
            subst (λ z. Spells line (suc n) postfix x from z) (sym k.1)
            (subst (λ z. Spells line (suc n) postfix z from mid) (sym k.0)
            (labelled (suc n) e ls colon.0 from after mid (subst (λ z. Spells line (suc n) owner e from z) colon.1 s.spells) colon.2 l));
        shallow = subst (λ z. depth z ≤ greatest_depth) (sym k.0) k.2;
      })) (checked_there (has_labels e ls) mid)))
      (λ none. answer _ _ _ (record {
        spells = subst (λ z. Spells line (suc n) postfix e from z) (sym (c.absent none)) (is_owner (suc n) e from ts s.spells);
        shallow = s.shallow;
      })))

  attributes-sound : (e : Expression) (from ts : List Token) → Spelt line (suc n) head from e ts → Gives (attributes line e ts) (Spelt line (suc n) postfix from)
  unfolding attributes properties
  attributes-sound e from ts s =
      bind (properties-sound-from (length ts) e from ts (record { spells = is_head (suc n) e from ts s.spells; shallow = s.shallow }))
      (λ x mid o. labelled-sound x from mid o)

  text-at : (ts : List Token) → kind_ahead ts ≡ Some kind.Text → Gives ((text <$> quoted line) ts) (Spelt line (suc n) postfix ts)
  unfolding quoted and_then
  text-at [] e = refused _
  text-at (t ∷ ts) e = answer _ _ _ (
      let same : t.kind ≡ kind.Text = cc in
      record { spells = text_ n t ts same; shallow = omega arith })

  literal-at : (ts : List Token) (k : Option TokenKind) → kind_ahead ts ≡ k → Gives (literal_by line k ts) (Spelt line (suc n) postfix ts)
  unfolding counted
  literal-at ts (Some (kind.Keyword word.True)) e = bind_skip _ ts (answer _ _ _ (
      let x = ahead ts (kind.Keyword word.True) e in
      record { spells = subst (λ z. Spells line (suc n) postfix (boolean true) z (past ts)) (sym x.1) (true_ n x.0 (past ts) x.2); shallow = omega arith }))
  literal-at ts (Some (kind.Keyword word.False)) e = bind_skip _ ts (answer _ _ _ (
      let x = ahead ts (kind.Keyword word.False) e in
      record { spells = subst (λ z. Spells line (suc n) postfix (boolean false) z (past ts)) (sym x.1) (false_ n x.0 (past ts) x.2); shallow = omega arith }))
  literal-at ts (Some (kind.Keyword word.Null)) e = bind_skip _ ts (answer _ _ _ (
      let x = ahead ts (kind.Keyword word.Null) e in
      record { spells = subst (λ z. Spells line (suc n) postfix null z (past ts)) (sym x.1) (null_ n x.0 (past ts) x.2); shallow = omega arith }))
  literal-at ts (Some (kind.Number m)) e = bind_skip _ ts (counted-at ts m (nat_lt m greatest_number) refl e)
    where
      counted-at : (ts : List Token) (m : ℕ) (b : Bool) → nat_lt m greatest_number ≡ b → kind_ahead ts ≡ Some (kind.Number m) →
          Gives ((if b then pure (integer (pos m)) else refuse) (past ts)) (Spelt line (suc n) postfix ts)
      counted-at ts m true h e = answer _ _ _ (
          let x = ahead ts (kind.Number m) e in
          record {
            spells = subst (λ z. Spells line (suc n) postfix (integer (pos m)) z (past ts)) (sym x.1) (number n m x.0 (past ts) x.2 (grind (arith, nat_tests)));
            shallow = omega arith;
          })
      counted-at ts m false h e = refused _
  literal-at ts (Some kind.Text) e = text-at ts e
  literal-at ts _ e = refused _

  literal-sound : (ts : List Token) → Gives (literal line ts) (Spelt line (suc n) postfix ts)
  unfolding literal
  literal-sound ts = bind_peek _ ts (literal-at ts (kind_ahead ts) refl)

  postfix-at : (ts : List Token) (k : Option TokenKind) → kind_ahead ts ≡ k → Gives (postfix_by line n inner k ts) (Spelt line (suc n) postfix ts)
  postfix-at ts (Some kind.Name) e = bind (named-sound ts) (λ x mid s. attributes-sound x ts mid s)
  postfix-at ts (Some kind.QuotedName) e = bind (named-sound ts) (λ x mid s. attributes-sound x ts mid s)
  postfix-at ts (Some (kind.Symbol sign.LeftParenthesis)) e = bind_skip _ ts (
      let x = ahead ts (kind.Symbol sign.LeftParenthesis) e in
      bind (bracketed-sound x.0 (past ts) x.2) (λ a mid s. attributes-sound a ts mid (subst (λ z. Spelt line (suc n) head z a mid) (sym x.1) s)))
  postfix-at ts (Some (kind.Symbol sign.LeftBracket)) e = bind_skip _ ts (
      let x = ahead ts (kind.Symbol sign.LeftBracket) e in
      bind (opened-sound n (past ts)) (λ _ from o.
      let begins : ts ≡ x.0 ∷ from = x.1 ∙ ap (λ z. x.0 ∷ z) (sym o.0) in
      subst (λ z. Gives (listed line inner from) (Spelt line (suc n) postfix z)) (sym begins) (listed-sound o.1 x.0 from o.2 x.2)))
  postfix-at ts (Some (kind.Keyword word.Case)) e = bind_skip _ ts (
      let x = ahead ts (kind.Keyword word.Case) e in
      bind (opened-sound n (past ts)) (λ _ from o.
      let begins : ts ≡ x.0 ∷ from = x.1 ∙ ap (λ z. x.0 ∷ z) (sym o.0) in
      subst (λ z. Gives (cases line inner from) (Spelt line (suc n) postfix z)) (sym begins) (cases-sound x.0 from x.2)))
  postfix-at ts _ e = literal-sound ts

  postfix-sound : (ts : List Token) → Gives (postfix_read line n inner ts) (Spelt line (suc n) postfix ts)
  unfolding postfix_read
  postfix-sound ts = bind_peek _ ts (postfix-at ts (kind_ahead ts) refl)

module _ (line : List ℕ) (n : ℕ) (inner : Nested → Reader Expression)
    (sign-sound : (ts : List Token) → Gives (inner nested.Sign ts) (Spelt line n signed ts)) where
  abbrev at_number : Option TokenKind → Bool
  at_number (Some k) = is_number k
  at_number None = false

  -- a sign, whose operand isn't a number
  signed_operand : (t : Token) (ts : List Token) → IsSymbol sign.Minus t → begins_with_number ts ≡ false →
      Gives ((inner nested.Sign >>= (λ e. checked (unary unary_operator.Minus e))) ts) (Spelt line (suc n) signed (t ∷ ts))
  signed_operand t ts is none =
      bind (sign-sound ts) (λ e mid s. later _ _ (λ x rest k. record {
        spells =
            subst (λ z. Spells line (suc n) signed x (t ∷ ts) z) (sym k.1)
            (subst (λ z. Spells line (suc n) signed z (t ∷ ts) mid) (sym k.0) (minus n e t ts mid is none s.spells));
        shallow = subst (λ z. depth z ≤ greatest_depth) (sym k.0) k.2;
      }) (checked_there (unary unary_operator.Minus e) mid))

  no_number : (ts : List Token) (k : Option TokenKind) → kind_ahead ts ≡ k → at_number k ≡ false → begins_with_number ts ≡ false
  no_number [] k e h = refl
  no_number (t ∷ ts) (Some k) e h = let same : t.kind ≡ k = cc in ap is_number same ∙ h
  no_number (t ∷ ts) None e h = cc

  minus-at : (t : Token) (ts : List Token) (k : Option TokenKind) → IsSymbol sign.Minus t → kind_ahead ts ≡ k →
      Gives (minus_by line inner k ts) (Spelt line (suc n) signed (t ∷ ts))
  minus-at t ts (Some (kind.Number m)) is e = number-at (nat_le m greatest_number) refl
    where
      number-at : (b : Bool) → nat_le m greatest_number ≡ b →
          Gives ((if b then skip >> pure (integer (negated m)) else refuse) ts) (Spelt line (suc n) signed (t ∷ ts))
      number-at true h = bind_skip _ ts (answer _ _ _ (
          let x = ahead ts (kind.Number m) e in
          record {
            spells = subst (λ z. Spells line (suc n) signed (integer (negated m)) (t ∷ z) (past ts)) (sym x.1) (negative n m t x.0 (past ts) is x.2 (grind (arith, nat_tests)));
            shallow = omega arith;
          }))
      number-at false h = refused _
  minus-at t ts None is e = signed_operand t ts is (no_number ts None e refl)
  minus-at t ts (Some _) is e = signed_operand t ts is (no_number ts _ e refl)

  minus-sound : (t : Token) (ts : List Token) → IsSymbol sign.Minus t → Gives (minus_read line inner ts) (Spelt line (suc n) signed (t ∷ ts))
  unfolding minus_read
  minus-sound t ts is = bind_peek _ ts (minus-at t ts (kind_ahead ts) is refl)

  plus-sound : (t : Token) (ts : List Token) → IsSymbol sign.Plus t → Gives (plus_read line inner ts) (Spelt line (suc n) signed (t ∷ ts))
  unfolding plus_read
  plus-sound t ts is =
      bind (sign-sound ts) (λ e mid s. later _ _ (λ x rest k. record {
        spells =
            subst (λ z. Spells line (suc n) signed x (t ∷ ts) z) (sym k.1)
            (subst (λ z. Spells line (suc n) signed z (t ∷ ts) mid) (sym k.0) (plus n e t ts mid is s.spells));
        shallow = subst (λ z. depth z ≤ greatest_depth) (sym k.0) k.2;
      }) (checked_there (unary unary_operator.Plus e) mid))

-- a keyword that stands for an operator
or_is : (k : TokenKind) (o : BinaryOperator) → disjunction_operator k ≡ Some o → (k ≡ kind.Keyword word.Or) × (o ≡ operator.Or)
or_is (kind.Keyword word.Or) o e = (refl, cc)
or_is _ o e = absurd cc

xor_is : (k : TokenKind) (o : BinaryOperator) → exclusion_operator k ≡ Some o → (k ≡ kind.Keyword word.Xor) × (o ≡ operator.Xor)
xor_is (kind.Keyword word.Xor) o e = (refl, cc)
xor_is _ o e = absurd cc

and_is : (k : TokenKind) (o : BinaryOperator) → conjunction_operator k ≡ Some o → (k ≡ kind.Keyword word.And) × (o ≡ operator.And)
and_is (kind.Keyword word.And) o e = (refl, cc)
and_is _ o e = absurd cc

or_by : {line : List ℕ} (n : ℕ) (o : BinaryOperator) (a b : Expression) (t : Token) (ts mid rest : List Token) → Spells line n whole a ts (t ∷ mid)
    → disjunction_operator t.kind ≡ Some o → Spells line n exclusion b mid rest → Spells line n whole (binary o a b) ts rest
or_by {line} n o a b t ts mid rest s by u =
    let found = or_is t.kind o by in
    subst (λ z. Spells line n whole (binary z a b) ts rest) (sym found.1) (or n a b t ts mid rest s found.0 u)

xor_by : {line : List ℕ} (n : ℕ) (o : BinaryOperator) (a b : Expression) (t : Token) (ts mid rest : List Token) → Spells line n exclusion a ts (t ∷ mid)
    → exclusion_operator t.kind ≡ Some o → Spells line n conjunction b mid rest → Spells line n exclusion (binary o a b) ts rest
xor_by {line} n o a b t ts mid rest s by u =
    let found = xor_is t.kind o by in
    subst (λ z. Spells line n exclusion (binary z a b) ts rest) (sym found.1) (xor n a b t ts mid rest s found.0 u)

and_by : {line : List ℕ} (n : ℕ) (o : BinaryOperator) (a b : Expression) (t : Token) (ts mid rest : List Token) → Spells line n conjunction a ts (t ∷ mid)
    → conjunction_operator t.kind ≡ Some o → Spells line n negation b mid rest → Spells line n conjunction (binary o a b) ts rest
and_by {line} n o a b t ts mid rest s by u =
    let found = and_is t.kind o by in
    subst (λ z. Spells line n conjunction (binary z a b) ts rest) (sym found.1) (and n a b t ts mid rest s found.0 u)

-- a chain of operators of one level, from its parts
module _ (line : List ℕ) (n : ℕ) (upper lower : Level) (operators : TokenKind → Option BinaryOperator) (operand : Reader Expression)
    (operand-sound : (ts : List Token) → Gives (operand ts) (Spelt line n lower ts))
    (one : (e : Expression) (ts rest : List Token) → Spells line n lower e ts rest → Spells line n upper e ts rest)
    (and_more : (o : BinaryOperator) (a b : Expression) (t : Token) (ts mid rest : List Token) → Spells line n upper a ts (t ∷ mid)
    → operators t.kind ≡ Some o → Spells line n lower b mid rest → Spells line n upper (binary o a b) ts rest) where
  chain-sound-from : (turns : ℕ) (left : Expression) (from ts : List Token) → Spelt line n upper from left ts →
      Gives (chain_from operators operand turns left ts) (Spelt line n upper from)
  unfolding chain_from
  chain-sound-from zero left from ts s = answer _ _ _ s
  chain-sound-from (suc turns) left from ts s = bind_peek _ ts (by_option _ _ (at_kind operators (kind_ahead ts)) ts _
      (λ none. answer _ _ _ s)
      (λ o found. bind_skip _ ts (bind (bind (operand-sound (past ts)) (λ right mid r. later _ _ (λ e rest k. (
      let x = ahead_by operators ts o found in
      record {
        spells =
            subst (λ z. Spells line n upper e from z) (sym k.1)
            (subst (λ z. Spells line n upper z from mid) (sym k.0)
            (and_more o left right x.0 from (past ts) mid (subst (λ z. Spells line n upper left from z) x.1 s.spells) x.2 r.spells));
        shallow = subst (λ z. depth z ≤ greatest_depth) (sym k.0) k.2;
      })) (checked_there (binary o left right) mid)))
      (λ further next f. chain-sound-from turns further from next f))))

  chain-sound : (ts : List Token) → Gives (chain operators operand ts) (Spelt line n upper ts)
  chain-sound ts = bind (operand-sound ts) (λ left mid s.
      chain-sound-from (length mid) left ts mid (record { spells = one left ts mid s.spells; shallow = s.shallow }))

-- the same at a looser level
raised : {line : List ℕ} {n : ℕ} {lower upper : Level} {ts : List Token} {o : Option (Expression × List Token)} →
    ((e : Expression) (rest : List Token) → Spells line n lower e ts rest → Spells line n upper e ts rest) →
    Gives o (Spelt line n lower ts) → Gives o (Spelt line n upper ts)
raised up g = later _ _ (λ e rest s. record { spells = up e rest s.spells; shallow = s.shallow }) g

-- what stands inside of one more level is spelt there
record Inside (line : List ℕ) (n : ℕ) (inner : Nested → Reader Expression) : Type 0 where
  whole_is : (ts : List Token) → Gives (inner nested.Whole ts) (Spelt line n whole ts)
  negation_is : (ts : List Token) → Gives (inner nested.Negation ts) (Spelt line n negation ts)
  sign_is : (ts : List Token) → Gives (inner nested.Sign ts) (Spelt line n signed ts)

module _ (line : List ℕ) (n : ℕ) (inner : Nested → Reader Expression) (inside : Inside line n inner) where
  signed-sound : (ts : List Token) → Gives (signed_read line n inner ts) (Spelt line (suc n) signed ts)
  unfolding signed_read
  signed-sound ts =
      bind (ate_symbol sign.Minus ts) (λ is_minus after c. by_test _ _ is_minus after _
      (λ yes.
      let x = c.there yes in
      subst (λ z. Gives (minus_read line inner after) (Spelt line (suc n) signed z)) (sym x.1) (minus-sound line n inner inside.sign_is x.0 after x.2))
      (λ other. bind (ate_symbol sign.Plus after) (λ is_plus next d. by_test _ _ is_plus next _
      (λ yes.
      let x = d.there yes in
      let begins : ts ≡ x.0 ∷ next = sym (c.absent other) ∙ x.1 in
      subst (λ z. Gives (plus_read line inner next) (Spelt line (suc n) signed z)) (sym begins) (plus-sound line n inner inside.sign_is x.0 next x.2))
      (λ none.
      let same : next ≡ ts = d.absent none ∙ c.absent other in
      subst (λ z. Gives (postfix_read line n inner next) (Spelt line (suc n) signed z)) same
      (raised (λ e rest s. is_postfix (suc n) e next rest s) (postfix-sound line n inner inside.whole_is next))))))

  product-sound : (ts : List Token) → Gives (product_read line n inner ts) (Spelt line (suc n) product ts)
  unfolding product_read
  product-sound ts = chain-sound line (suc n) product signed product_operator (signed_read line n inner) signed-sound (is_signed (suc n)) (multiply (suc n)) ts

  sum-sound : (ts : List Token) → Gives (sum_read line n inner ts) (Spelt line (suc n) sum ts)
  unfolding sum_read
  sum-sound ts = chain-sound line (suc n) sum product sum_operator (product_read line n inner) product-sound (is_product (suc n)) (add (suc n)) ts

  -- a test for null after IS, of an expression that begins at `from`
  null_test-sound : (e : Expression) (t : Token) (from ts : List Token) → IsKeyword word.Is t → Spelt line (suc n) predicate from e (t ∷ ts) →
      Gives (null_test e ts) (Spelt line (suc n) predicate from)
  unfolding null_test
  null_test-sound e t from ts is s =
      bind (ate_keyword word.Not ts) (λ is_not after c. bind (keyword_there word.Null after) (λ _ rest x.
      later _ _ (λ y left k. record {
        spells =
            subst (λ z. Spells line (suc n) predicate y from z) (sym k.1)
            (subst (λ z. Spells line (suc n) predicate z from rest) (sym k.0) (by_not is_not after rest x c));
        shallow = subst (λ z. depth z ≤ greatest_depth) (sym k.0) k.2;
      }) (checked_there (unary (if is_not then unary_operator.IsNotNull else unary_operator.IsNull) e) rest)))
    where
      by_not : (is_not : Bool) (after rest : List Token) → (u : Token) × (after ≡ u ∷ rest) × IsKeyword word.Null u →
          AteKeyword word.Not ts is_not after →
          Spells line (suc n) predicate (unary (if is_not then unary_operator.IsNotNull else unary_operator.IsNull) e) from rest
      by_not true after rest x c =
          let d = c.there refl in
          let begins : ts ≡ d.0 ∷ x.0 ∷ rest = d.1 ∙ ap (λ z. d.0 ∷ z) x.1 in
          is_not_null (suc n) e t d.0 x.0 from rest (subst (λ z. Spells line (suc n) predicate e from (t ∷ z)) begins s.spells) is d.2 x.2
      by_not false after rest x c =
          let begins : ts ≡ x.0 ∷ rest = sym (c.absent refl) ∙ x.1 in
          is_null (suc n) e t x.0 from rest (subst (λ z. Spells line (suc n) predicate e from (t ∷ z)) begins s.spells) is x.2

  -- a predicate's right side, where the rule gives the whole of it
  tested-sound : (o : BinaryOperator) (left : Expression) (from ts : List Token) →
      ((right : Expression) (rest : List Token) → Spells line (suc n) sum right ts rest → Spells line (suc n) predicate (binary o left right) from rest) →
      Gives (tested line n inner o left ts) (Spelt line (suc n) predicate from)
  unfolding tested
  tested-sound o left from ts rule =
      bind (sum-sound ts) (λ right mid r. later _ _ (λ y rest k. record {
        spells =
            subst (λ z. Spells line (suc n) predicate y from z) (sym k.1)
            (subst (λ z. Spells line (suc n) predicate z from mid) (sym k.0) (rule right mid r.spells));
        shallow = subst (λ z. depth z ≤ greatest_depth) (sym k.0) k.2;
      }) (checked_there (binary o left right) mid))

  predicate-at : (left : Expression) (from ts : List Token) (k : Option TokenKind) → kind_ahead ts ≡ k → Spelt line (suc n) predicate from left ts →
      Gives (predicate_by line n inner left k ts) (Spelt line (suc n) predicate from)
  predicate-at left from ts (Some (kind.Keyword word.Is)) e s = bind_skip _ ts (
      let x = ahead ts (kind.Keyword word.Is) e in
      null_test-sound left x.0 from (past ts) x.2 (subst (λ z. Spelt line (suc n) predicate from left z) x.1 s))
  predicate-at left from ts (Some (kind.Keyword word.In)) e s = bind_skip _ ts (
      let x = ahead ts (kind.Keyword word.In) e in
      tested-sound operator.In left from (past ts)
      (λ right rest r. among (suc n) left right x.0 from (past ts) rest (subst (λ z. Spells line (suc n) predicate left from z) x.1 s.spells) x.2 r))
  predicate-at left from ts (Some (kind.Keyword word.Contains)) e s = bind_skip _ ts (
      let x = ahead ts (kind.Keyword word.Contains) e in
      tested-sound operator.Contains left from (past ts)
      (λ right rest r. contains (suc n) left right x.0 from (past ts) rest (subst (λ z. Spells line (suc n) predicate left from z) x.1 s.spells) x.2 r))
  predicate-at left from ts (Some (kind.Keyword word.Starts)) e s = bind_skip _ ts (bind (keyword_there word.With (past ts)) (λ _ mid w.
      let x = ahead ts (kind.Keyword word.Starts) e in
      let begins : ts ≡ x.0 ∷ w.0 ∷ mid = x.1 ∙ ap (λ z. x.0 ∷ z) w.1 in
      tested-sound operator.StartsWith left from mid
      (λ right rest r. starts_with (suc n) left right x.0 w.0 from mid rest (subst (λ z. Spells line (suc n) predicate left from z) begins s.spells) x.2 w.2 r)))
  predicate-at left from ts (Some (kind.Keyword word.Ends)) e s = bind_skip _ ts (bind (keyword_there word.With (past ts)) (λ _ mid w.
      let x = ahead ts (kind.Keyword word.Ends) e in
      let begins : ts ≡ x.0 ∷ w.0 ∷ mid = x.1 ∙ ap (λ z. x.0 ∷ z) w.1 in
      tested-sound operator.EndsWith left from mid
      (λ right rest r. ends_with (suc n) left right x.0 w.0 from mid rest (subst (λ z. Spells line (suc n) predicate left from z) begins s.spells) x.2 w.2 r)))
  predicate-at left from ts _ e s = refused _

  predicate_step-sound : (left : Expression) (from ts : List Token) → Spelt line (suc n) predicate from left ts →
      Gives (predicate_step line n inner left ts) (Spelt line (suc n) predicate from)
  unfolding predicate_step
  predicate_step-sound left from ts s = bind_peek _ ts (predicate-at left from ts (kind_ahead ts) refl s)

  predicates-sound-from : (turns : ℕ) (left : Expression) (from ts : List Token) → Spelt line (suc n) predicate from left ts →
      Gives (predicates_from line n inner turns left ts) (Spelt line (suc n) predicate from)
  unfolding predicates_from
  predicates-sound-from zero left from ts s = answer _ _ _ s
  predicates-sound-from (suc turns) left from ts s = bind_peek _ ts (by_test _ _ (begins_predicate (kind_ahead ts)) ts _
      (λ yes. bind (predicate_step-sound left from ts s) (λ further next f. predicates-sound-from turns further from next f))
      (λ none. answer _ _ _ s))

  predicate-sound : (ts : List Token) → Gives (predicate_read line n inner ts) (Spelt line (suc n) predicate ts)
  unfolding predicate_read
  predicate-sound ts = bind (sum-sound ts) (λ left mid s.
      predicates-sound-from (length mid) left ts mid (record { spells = is_sum (suc n) left ts mid s.spells; shallow = s.shallow }))

  -- the links that were found before, and those that are spelt here, if any
  abbrev SpeltLinks : List (Comparator × Expression) → List Token → List Token → Type 0
  SpeltLinks [] ts rest = rest ≡ ts
  SpeltLinks (l ∷ ls) ts rest = SpellsLinks line (suc n) (links_from (l ∷ ls)) ts rest

  one_more_link : (by : Comparator) (e : Expression) (t : Token) (ts mid rest : List Token) (these : List (Comparator × Expression)) →
      comparator_of t.kind ≡ Some by → Spells line (suc n) predicate e ts mid → SpeltLinks these mid rest →
      SpellsLinks line (suc n) (links_from ((by, e) ∷ these)) (t ∷ ts) rest
  one_more_link by e t ts mid rest [] is s none = last_link (suc n) by e t ts rest is (subst (λ z. Spells line (suc n) predicate e ts z) (sym none) s)
  one_more_link by e t ts mid rest (l ∷ ls) is s further = next_link (suc n) by e (links_from (l ∷ ls)) t ts mid rest is s further

  links-sound-from : (turns : ℕ) (found : List (Comparator × Expression)) (ts : List Token) → Gives (links_read line n inner turns found ts) (Found SpeltLinks found ts)
  unfolding links_read
  links-sound-from zero found ts = found_none _ found ts refl
  links-sound-from (suc turns) found ts = bind_peek _ ts (by_option _ _ (at_kind comparator_of (kind_ahead ts)) ts _
      (λ none. found_none _ found ts refl)
      (λ by there. bind_skip _ ts (bind (predicate-sound (past ts)) (λ e mid s. found_more _ found (by, e) ts mid (λ these rest others.
      let x = ahead_by comparator_of ts by there in
      subst (λ z. SpellsLinks line (suc n) (links_from ((by, e) ∷ these)) z rest) (sym x.1) (one_more_link by e x.0 (past ts) mid rest these x.2 s.spells others))
      (links-sound-from turns (found ++ (by, e) ∷ []) mid)))))

  links-sound : (ts : List Token) → Gives (links line n inner ts) (λ ls rest. SpeltLinks ls ts rest)
  unfolding links
  links-sound ts = all_found SpeltLinks ts (links-sound-from (length ts) [] ts)

  compared-sound : (first : Expression) (ls : List (Comparator × Expression)) (ts mid rest : List Token) →
      Spelt line (suc n) predicate ts first mid → SpeltLinks ls mid rest → Gives (compared line n inner first ls rest) (Spelt line (suc n) comparisons ts)
  compared-sound first [] ts mid rest s none = answer _ _ _ (record {
    spells = is_predicate (suc n) first ts rest (subst (λ z. Spells line (suc n) predicate first ts z) (sym none) s.spells);
    shallow = s.shallow;
  })
  compared-sound first (l ∷ ls) ts mid rest s there = later _ _ (λ y left k. record {
    spells =
        subst (λ z. Spells line (suc n) comparisons y ts z) (sym k.1)
        (subst (λ z. Spells line (suc n) comparisons z ts rest) (sym k.0) (compare (suc n) first (links_from (l ∷ ls)) ts mid rest s.spells there));
    shallow = subst (λ z. depth z ≤ greatest_depth) (sym k.0) k.2;
  }) (checked_there (comparison first (links_from (l ∷ ls))) rest)

  comparisons-sound : (ts : List Token) → Gives (comparisons_read line n inner ts) (Spelt line (suc n) comparisons ts)
  unfolding comparisons_read
  comparisons-sound ts = bind (predicate-sound ts) (λ first mid s. bind (links-sound mid) (λ ls rest l. compared-sound first ls ts mid rest s l))

  negation-sound : (ts : List Token) → Gives (negation_read line n inner ts) (Spelt line (suc n) negation ts)
  unfolding negation_read
  negation-sound ts =
      bind (ate_keyword word.Not ts) (λ is_not after c. by_test _ _ is_not after _
      (λ yes. bind (inside.negation_is after) (λ e mid s. later _ _ (λ y left k. (
      let x = c.there yes in
      record {
        spells =
            subst (λ z. Spells line (suc n) negation y ts z) (sym k.1)
            (subst (λ z. Spells line (suc n) negation z ts mid) (sym k.0)
            (subst (λ z. Spells line (suc n) negation (unary unary_operator.Not e) z mid) (sym x.1) (not n e x.0 after mid x.2 s.spells)));
        shallow = subst (λ z. depth z ≤ greatest_depth) (sym k.0) k.2;
      })) (checked_there (unary unary_operator.Not e) mid)))
      (λ none. subst (λ z. Gives (comparisons_read line n inner after) (Spelt line (suc n) negation z)) (c.absent none)
      (raised (λ e rest s. is_comparison (suc n) e after rest s) (comparisons-sound after))))

  conjunction-sound : (ts : List Token) → Gives (conjunction_read line n inner ts) (Spelt line (suc n) conjunction ts)
  unfolding conjunction_read
  conjunction-sound ts = chain-sound line (suc n) conjunction negation conjunction_operator (negation_read line n inner) negation-sound (is_negation (suc n)) (and_by (suc n)) ts

  exclusion-sound : (ts : List Token) → Gives (exclusion_read line n inner ts) (Spelt line (suc n) exclusion ts)
  unfolding exclusion_read
  exclusion-sound ts = chain-sound line (suc n) exclusion conjunction exclusion_operator (conjunction_read line n inner) conjunction-sound (is_conjunction (suc n)) (xor_by (suc n)) ts

  disjunction-sound : (ts : List Token) → Gives (disjunction line n inner ts) (Spelt line (suc n) whole ts)
  unfolding disjunction
  disjunction-sound ts = chain-sound line (suc n) whole exclusion disjunction_operator (exclusion_read line n inner) exclusion-sound (is_exclusion (suc n)) (or_by (suc n)) ts

  level-sound : Inside line (suc n) (level line n inner)
  level-sound = record { whole_is = disjunction-sound; negation_is = negation-sound; sign_is = signed-sound }

-- what is read with this many levels is spelt with this many
nesting-sound : (line : List ℕ) (n : ℕ) → Inside line n (nesting line n)
unfolding nesting
nesting-sound line zero = record { whole_is = λ ts. refused _; negation_is = λ ts. refused _; sign_is = λ ts. refused _ }
nesting-sound line (suc n) = level-sound line n (nesting line n) (nesting-sound line n)

pub expression-sound : (line : List ℕ) (ts : List Token) → Gives (expression line ts) (Spelt line most_levels whole ts)
expression-sound line ts = (nesting-sound line most_levels).whole_is ts

pub conjunct-sound : (line : List ℕ) (ts : List Token) → Gives (nesting line most_levels nested.Negation ts) (Spelt line most_levels negation ts)
conjunct-sound line ts = (nesting-sound line most_levels).negation_is ts
