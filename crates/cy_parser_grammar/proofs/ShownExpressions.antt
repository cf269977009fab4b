-- The tokens of an expression that is shown spell it.
use Rattle.std.proofs.Common.{◌≡◌, ℕ, zero, suc, ◌≤◌, ◌<◌, ◌*◌, Bool, true, false, List, [], ◌∷◌, ◌++◌, Some, None, refl, sym, ap, ◌∙◌, subst, pos, negsuc, arith}
use Rattle.cy_lexer.specs.declared.tokens.Token.{Token}
use Rattle.cy_lexer.specs.declared.keywords.Keyword.TheVariants as word
use Rattle.cy_lexer.specs.declared.symbols.Symbol.TheVariants as sign
use Rattle.cy_trees.specs.declared.expressions.UnaryOperator.{UnaryOperator}
use Rattle.cy_trees.specs.declared.expressions.UnaryOperator.TheVariants as one
use Rattle.cy_trees.specs.declared.expressions.BinaryOperator.{BinaryOperator}
use Rattle.cy_trees.specs.declared.expressions.BinaryOperator.TheVariants as two
use Rattle.cy_trees.specs.declared.expressions.Comparator.{Comparator}
use Rattle.cy_trees.specs.declared.expressions.Comparator.TheVariants as comparator
use Rattle.cy_trees.specs.declared.expressions.Variable.{Variable}
use Rattle.cy_trees.specs.Trees.{Name, Expression, Expressions, list, no_more, more, call, call_star, variable, property, has_labels, unary, binary, boolean, integer, null, text, Links, no_links, link, comparison, Arms, arm, no_arms, Otherwise, nothing, otherwise, case}
use Rattle.cy_trees.specs.Depth.{depth, deepest, links_depth, arms_depth, otherwise_depth}
use Rattle.cy_lexer.specs.Words as words
use Rattle.cy_trees.specs.Show.{Piece, word as shown_word, space, says, mark, named, bracketed, label_pieces, binary_pieces, comparator_symbol, unary_pieces, is_literal_or_list, owner_pieces, distinct_pieces, expression_pieces, elements_pieces, links_pieces, arms_pieces, otherwise_pieces}
use Rattle.cy_parser_grammar.specs.Words.{lowered, product_operator, sum_operator, comparator_of}
use Rattle.cy_lexer.specs.Numbers.{greatest_number}
use Rattle.cy_parser_grammar.specs.Spells as spell
use Rattle.cy_parser_grammar.specs.Spells.{Spells, SpellsAll, SpellsLabels, SpellsLinks, SpellsArms, SpellsOtherwise, Level, whole, exclusion, conjunction, negation, comparisons, predicate, sum, product, signed, postfix, owner, head, IsSymbol, IsKeyword}
use Rattle.cy_parser_grammar.specs.internal.WellFormed.{IsNamed, IsVariable, Every, Several, IsWellFormed, AreWellFormed, LinksAreWellFormed, ArmsAreWellFormed, OtherwiseIsWellFormed}
use Rattle.cy_parser_grammar.proofs.ShownTokens.{Shown, both, at_symbol, at_keyword, at_number, at_name, at_text, last_symbol, last_keyword, in_brackets}
use Rattle.cy_parser_grammar.proofs.Stands.{at_end}

module _ (line : List ℕ) where
  -- ---- from level to level

  module _ (n : ℕ) (e : Expression) (ts rest : List Token) where
    as_product : Spells line n signed e ts rest → Spells line n product e ts rest
    as_product s = spell.is_signed n e ts rest s

    as_sum : Spells line n signed e ts rest → Spells line n sum e ts rest
    as_sum s = spell.is_product n e ts rest (as_product s)

    as_predicate : Spells line n signed e ts rest → Spells line n predicate e ts rest
    as_predicate s = spell.is_sum n e ts rest (as_sum s)

    from_comparisons : Spells line n comparisons e ts rest → Spells line n negation e ts rest
    from_comparisons s = spell.is_comparison n e ts rest s

    as_negation : Spells line n signed e ts rest → Spells line n negation e ts rest
    as_negation s = from_comparisons (spell.is_predicate n e ts rest (as_predicate s))

    from_negation : Spells line n negation e ts rest → Spells line n conjunction e ts rest
    from_negation s = spell.is_negation n e ts rest s

    from_conjunction : Spells line n conjunction e ts rest → Spells line n exclusion e ts rest
    from_conjunction s = spell.is_conjunction n e ts rest s

    from_exclusion : Spells line n exclusion e ts rest → Spells line n whole e ts rest
    from_exclusion s = spell.is_exclusion n e ts rest s

    whole_from_negation : Spells line n negation e ts rest → Spells line n whole e ts rest
    whole_from_negation s = from_exclusion (from_conjunction (from_negation s))

    whole_from_predicate : Spells line n predicate e ts rest → Spells line n whole e ts rest
    whole_from_predicate s = whole_from_negation (from_comparisons (spell.is_predicate n e ts rest s))

    whole_from_sum : Spells line n sum e ts rest → Spells line n whole e ts rest
    whole_from_sum s = whole_from_predicate (spell.is_sum n e ts rest s)

    pub as_whole : Spells line n signed e ts rest → Spells line n whole e ts rest
    as_whole s = whole_from_negation (as_negation s)

    signed_head : Spells line n head e ts rest → Spells line n signed e ts rest
    signed_head s = spell.is_postfix n e ts rest (spell.is_owner n e ts rest (spell.is_head n e ts rest s))

  -- a literal is shown bare, and every other expression so that a property and labels may follow
  abbrev level_of : Bool → Level
  level_of true = signed
  level_of false = head

  signed_of : (literal : Bool) (n : ℕ) (e : Expression) (ts rest : List Token) → Spells line n (level_of literal) e ts rest → Spells line n signed e ts rest
  signed_of true n e ts rest s = s
  signed_of false n e ts rest s = signed_head n e ts rest s

  -- ---- operators between their operands

  binary_whole : (n : ℕ) (o : BinaryOperator) (a b : Expression) (ts from mid rest : List Token) → Spells line n signed a ts from →
      Shown line (binary_pieces o) from mid → Spells line n signed b mid rest → Spells line n whole (binary o a b) ts rest
  binary_whole n two.Or a b ts from mid rest s shown u =
      last_keyword line (λ us. Spells line n signed a ts us → Spells line n whole (binary two.Or a b) ts rest) word.Or from mid shown (λ t is l.
      spell.or n a b t ts mid rest (as_whole n a ts (t ∷ mid) l) is (from_conjunction n b mid rest (from_negation n b mid rest (as_negation n b mid rest u)))) s
  binary_whole n two.Xor a b ts from mid rest s shown u =
      last_keyword line (λ us. Spells line n signed a ts us → Spells line n whole (binary two.Xor a b) ts rest) word.Xor from mid shown (λ t is l.
      from_exclusion n _ ts rest (spell.xor n a b t ts mid rest (from_conjunction n a ts (t ∷ mid) (from_negation n a ts (t ∷ mid) (as_negation n a ts (t ∷ mid) l))) is
      (from_negation n b mid rest (as_negation n b mid rest u)))) s
  binary_whole n two.And a b ts from mid rest s shown u =
      last_keyword line (λ us. Spells line n signed a ts us → Spells line n whole (binary two.And a b) ts rest) word.And from mid shown (λ t is l.
      from_exclusion n _ ts rest (from_conjunction n _ ts rest (spell.and n a b t ts mid rest (from_negation n a ts (t ∷ mid) (as_negation n a ts (t ∷ mid) l)) is
      (as_negation n b mid rest u)))) s
  binary_whole n two.In a b ts from mid rest s shown u =
      last_keyword line (λ us. Spells line n signed a ts us → Spells line n whole (binary two.In a b) ts rest) word.In from mid shown (λ t is l.
      whole_from_predicate n _ ts rest (spell.among n a b t ts mid rest (as_predicate n a ts (t ∷ mid) l) is (as_sum n b mid rest u))) s
  binary_whole n two.Contains a b ts from mid rest s shown u =
      last_keyword line (λ us. Spells line n signed a ts us → Spells line n whole (binary two.Contains a b) ts rest) word.Contains from mid shown (λ t is l.
      whole_from_predicate n _ ts rest (spell.contains n a b t ts mid rest (as_predicate n a ts (t ∷ mid) l) is (as_sum n b mid rest u))) s
  binary_whole n two.StartsWith a b ts from mid rest s shown u =
      at_keyword line (λ us. Spells line n signed a ts us → Spells line n whole (binary two.StartsWith a b) ts rest) word.Starts (space ∷ says word.With ∷ []) from mid shown (λ t next is after.
      last_keyword line (λ us. Spells line n signed a ts (t ∷ us) → Spells line n whole (binary two.StartsWith a b) ts rest) word.With next mid after (λ with_ by l.
      whole_from_predicate n _ ts rest (spell.starts_with n a b t with_ ts mid rest (as_predicate n a ts (t ∷ with_ ∷ mid) l) is by (as_sum n b mid rest u)))) s
  binary_whole n two.EndsWith a b ts from mid rest s shown u =
      at_keyword line (λ us. Spells line n signed a ts us → Spells line n whole (binary two.EndsWith a b) ts rest) word.Ends (space ∷ says word.With ∷ []) from mid shown (λ t next is after.
      last_keyword line (λ us. Spells line n signed a ts (t ∷ us) → Spells line n whole (binary two.EndsWith a b) ts rest) word.With next mid after (λ with_ by l.
      whole_from_predicate n _ ts rest (spell.ends_with n a b t with_ ts mid rest (as_predicate n a ts (t ∷ with_ ∷ mid) l) is by (as_sum n b mid rest u)))) s
  binary_whole n two.Add a b ts from mid rest s shown u =
      last_symbol line (λ us. Spells line n signed a ts us → Spells line n whole (binary two.Add a b) ts rest) sign.Plus from mid shown (λ t is l.
      whole_from_sum n _ ts rest (spell.add n two.Add a b t ts mid rest (as_sum n a ts (t ∷ mid) l) (ap sum_operator is) (as_product n b mid rest u))) s
  binary_whole n two.Subtract a b ts from mid rest s shown u =
      last_symbol line (λ us. Spells line n signed a ts us → Spells line n whole (binary two.Subtract a b) ts rest) sign.Minus from mid shown (λ t is l.
      whole_from_sum n _ ts rest (spell.add n two.Subtract a b t ts mid rest (as_sum n a ts (t ∷ mid) l) (ap sum_operator is) (as_product n b mid rest u))) s
  binary_whole n two.Multiply a b ts from mid rest s shown u =
      last_symbol line (λ us. Spells line n signed a ts us → Spells line n whole (binary two.Multiply a b) ts rest) sign.Star from mid shown (λ t is l.
      whole_from_sum n _ ts rest (spell.is_product n _ ts rest (spell.multiply n two.Multiply a b t ts mid rest (as_product n a ts (t ∷ mid) l) (ap product_operator is) u))) s
  binary_whole n two.Divide a b ts from mid rest s shown u =
      last_symbol line (λ us. Spells line n signed a ts us → Spells line n whole (binary two.Divide a b) ts rest) sign.Slash from mid shown (λ t is l.
      whole_from_sum n _ ts rest (spell.is_product n _ ts rest (spell.multiply n two.Divide a b t ts mid rest (as_product n a ts (t ∷ mid) l) (ap product_operator is) u))) s
  binary_whole n two.Remainder a b ts from mid rest s shown u =
      last_symbol line (λ us. Spells line n signed a ts us → Spells line n whole (binary two.Remainder a b) ts rest) sign.Percent from mid shown (λ t is l.
      whole_from_sum n _ ts rest (spell.is_product n _ ts rest (spell.multiply n two.Remainder a b t ts mid rest (as_product n a ts (t ∷ mid) l) (ap product_operator is) u))) s

  comparator_read : (c : Comparator) (t : Token) → IsSymbol (comparator_symbol c) t → comparator_of t.kind ≡ Some c
  comparator_read comparator.Equal t is = ap comparator_of is
  comparator_read _ t is = ap comparator_of is

  -- ---- labels

  pub shown_labels : (l : Name) (ls : List Name) (ts rest : List Token) → IsNamed l → Every IsNamed ls → Shown line (named l ∷ label_pieces ls) ts rest →
      SpellsLabels line (l ∷ ls) ts rest
  shown_labels l [] ts rest is others shown = at_name line (λ us. SpellsLabels line (l ∷ []) us rest) l [] ts rest is shown (λ t mid names any said after.
      at_end line (λ us. SpellsLabels line (l ∷ []) (t ∷ us) rest) mid rest after
      (subst (λ x. SpellsLabels line (x ∷ []) (t ∷ rest) rest) said (spell.last_label t rest any)))
  shown_labels l (m ∷ ms) ts rest is others shown = at_name line (λ us. SpellsLabels line (l ∷ m ∷ ms) us rest) l (label_pieces (m ∷ ms)) ts rest is shown (λ t mid names any said after.
      at_symbol line (λ us. SpellsLabels line (l ∷ m ∷ ms) (t ∷ us) rest) sign.Colon (named m ∷ label_pieces ms) mid rest after (λ colon further goes_on last_.
      subst (λ x. SpellsLabels line (x ∷ m ∷ ms) (t ∷ colon ∷ further) rest) said
      (spell.next_label (m ∷ ms) t colon further rest any goes_on (shown_labels m ms further rest others.0 others.1 last_))))

  -- ---- every expression

  no_level : (e : Expression) → 3 * depth e ≤ zero → ⊥
  no_level null few = omega (arith, few)
  no_level _ few = omega (arith, few)

  -- an owner of a property or of labels, in brackets of its own if it is a literal
  shown_owner : (literal : Bool) (n : ℕ) (e : Expression) (ts rest : List Token) → suc (3 * depth e) ≤ n →
      ((k : ℕ) (us vs : List Token) → 3 * depth e ≤ k → Shown line (expression_pieces e) us vs → Spells line k (level_of literal) e us vs) →
      Shown line (owner_pieces literal (expression_pieces e)) ts rest → Spells line n owner e ts rest
  shown_owner true zero e ts rest few parts s = absurd (omega (arith, few))
  shown_owner true (suc n) e ts rest few parts s =
      in_brackets line (λ us. Spells line (suc n) owner e us rest) (expression_pieces e) ts rest s (λ opening closing inside opens closes here.
      spell.is_head (suc n) e (opening ∷ inside) rest (spell.bracket n e opening closing inside rest opens
      (as_whole n e inside (closing ∷ rest) (parts n inside (closing ∷ rest) (omega (arith, few)) here)) closes))
  shown_owner false n e ts rest few parts s = spell.is_head n e ts rest (parts n ts rest (omega (arith, few)) s)

  -- an operator in its brackets
  in_head : (n : ℕ) (e : Expression) (ps : List Piece) (ts rest : List Token) → Shown line (bracketed ps) ts rest →
      ((us vs : List Token) → Shown line ps us vs → Spells line n whole e us vs) → Spells line (suc n) head e ts rest
  in_head n e ps ts rest s inner = in_brackets line (λ us. Spells line (suc n) head e us rest) ps ts rest s (λ opening closing inside opens closes here.
      spell.bracket n e opening closing inside rest opens (inner inside (closing ∷ rest) here) closes)

  -- an expression in brackets after a sign
  in_signed : (n : ℕ) (e : Expression) (ts rest : List Token) → 3 * depth e ≤ n → Shown line (bracketed (expression_pieces e)) ts rest →
      ((k : ℕ) (us vs : List Token) → 3 * depth e ≤ k → Shown line (expression_pieces e) us vs → Spells line k signed e us vs) → Spells line (suc n) signed e ts rest
  in_signed n e ts rest few s parts = signed_head (suc n) e ts rest (in_head n e (expression_pieces e) ts rest s (λ us vs here. as_whole n e us vs (parts n us vs few here)))

  no_number : (t : Token) (ts : List Token) → IsSymbol sign.LeftParenthesis t → spell.begins_with_number (t ∷ ts) ≡ false
  no_number t ts is = ap spell.is_number is

  -- lists of parts, where there are any
  abbrev AllSpelt : ℕ → Expressions → List Token → List Token → Type 0
  AllSpelt n no_more ts rest = Unit {0}
  AllSpelt n (more e es) ts rest = SpellsAll line n (more e es) ts rest

  abbrev LinksSpelt : ℕ → Links → List Token → List Token → Type 0
  LinksSpelt n no_links ts rest = Unit {0}
  LinksSpelt n (link c e ls) ts rest = SpellsLinks line n (link c e ls) ts rest

  -- arms, after the first WHEN
  abbrev arms_after : Arms → List Piece
  arms_after no_arms = []
  arms_after (arm a b arms) = expression_pieces a ++ space ∷ says word.Then ∷ space ∷ (expression_pieces b ++ arms_pieces arms)

  abbrev ArmsSpelt : ℕ → Arms → List Token → List Token → Type 0
  ArmsSpelt n no_arms ts rest = Unit {0}
  ArmsSpelt n (arm a b arms) ts rest = SpellsArms line n (arm a b arms) ts rest

  shown_negative : (i : ℕ) → i < greatest_number → (n : ℕ) (ts rest : List Token) → Shown line (expression_pieces (integer (negsuc i))) ts rest →
      Spells line (suc n) signed (integer (negsuc i)) ts rest
  shown_negative i small n ts rest s =
      at_symbol line (λ us. Spells line (suc n) signed (integer (negsuc i)) us rest) sign.Minus (shown_word (words.number (suc i)) ∷ []) ts rest s (λ minus mid is after.
      at_number line (λ us. Spells line (suc n) signed (integer (negsuc i)) (minus ∷ us) rest) (suc i) [] mid rest after (λ t last_ counts end.
      at_end line (λ us. Spells line (suc n) signed (integer (negsuc i)) (minus ∷ t ∷ us) rest) last_ rest end
      (spell.negative n (suc i) minus t rest is counts (omega (arith, small)))))

  shown_variable : (v : Variable) → IsVariable v → (n : ℕ) (ts rest : List Token) → Shown line (named v.name ∷ []) ts rest → Spells line (suc n) head (variable v) ts rest
  shown_variable v w n ts rest s = at_name line (λ us. Spells line (suc n) head (variable v) us rest) v.name [] ts rest w.0 s (λ t mid names any said after.
      at_end line (λ us. Spells line (suc n) head (variable v) (t ∷ us) rest) mid rest after
      (subst (λ z. Spells line (suc n) head (variable (record { name = v.name; column = z })) (t ∷ rest) rest) (sym w.1)
      (subst (λ z. Spells line (suc n) head (variable (record { name = z; column = None })) (t ∷ rest) rest) said (spell.name n t rest names))))

  property_whole : (n : ℕ) (e : Expression) (key : Name) (ts mid rest : List Token) → IsNamed key → Spells line n owner e ts mid →
      Shown line (mark sign.Dot ∷ named key ∷ []) mid rest → Spells line n whole (property e key) ts rest
  property_whole n e key ts mid rest is o s =
      at_symbol line (λ us. Spells line n owner e ts us → Spells line n whole (property e key) ts rest) sign.Dot (named key ∷ []) mid rest s (λ dot from dots after.
      at_name line (λ us. Spells line n owner e ts (dot ∷ us) → Spells line n whole (property e key) ts rest) key [] from rest is after (λ t end names any said last_.
      at_end line (λ us. Spells line n owner e ts (dot ∷ t ∷ us) → Spells line n whole (property e key) ts rest) end rest last_ (λ here.
      subst (λ z. Spells line n whole (property e z) ts rest) said
      (as_whole n _ ts rest (spell.is_postfix n _ ts rest (spell.is_owner n _ ts rest (spell.with_key n e dot t ts rest here dots any))))))) o

  labels_whole : (n : ℕ) (e : Expression) (labels : List Name) (ts mid rest : List Token) → Several IsNamed labels → Spells line n owner e ts mid →
      Shown line (label_pieces labels) mid rest → Spells line n whole (has_labels e labels) ts rest
  labels_whole n e [] ts mid rest are o s = absurd are
  labels_whole n e (l ∷ ls) ts mid rest are o s =
      at_symbol line (λ us. Spells line n owner e ts us → Spells line n whole (has_labels e (l ∷ ls)) ts rest) sign.Colon (named l ∷ label_pieces ls) mid rest s (λ colon from is after here.
      as_whole n _ ts rest (spell.is_postfix n _ ts rest (spell.labelled n e (l ∷ ls) colon ts from rest here is (shown_labels l ls from rest are.0 are.1 after)))) o

  unary_whole : (o : UnaryOperator) (n : ℕ) (e : Expression) (ts rest : List Token) → 3 * depth e ≤ n →
      ((k : ℕ) (us vs : List Token) → 3 * depth e ≤ k → Shown line (expression_pieces e) us vs → Spells line k signed e us vs) →
      Shown line (unary_pieces o (expression_pieces e)) ts rest → Spells line (suc (suc n)) whole (unary o e) ts rest
  unary_whole one.Not n e ts rest few parts s =
      at_keyword line (λ us. Spells line (suc (suc n)) whole (unary one.Not e) us rest) word.Not (space ∷ expression_pieces e) ts rest s (λ t mid is after.
      whole_from_negation (suc (suc n)) _ _ rest (spell.not (suc n) e t mid rest is (as_negation (suc n) e mid rest (parts (suc n) mid rest (omega (arith, few)) after))))
  unary_whole one.Plus n e ts rest few parts s =
      at_symbol line (λ us. Spells line (suc (suc n)) whole (unary one.Plus e) us rest) sign.Plus (bracketed (expression_pieces e)) ts rest s (λ t mid is after.
      as_whole (suc (suc n)) _ _ rest (spell.plus (suc n) e t mid rest is (in_signed n e mid rest few after parts)))
  unary_whole one.Minus n e ts rest few parts s =
      at_symbol line (λ us. Spells line (suc (suc n)) whole (unary one.Minus e) us rest) sign.Minus (bracketed (expression_pieces e)) ts rest s (λ t mid is after.
      as_whole (suc (suc n)) _ _ rest (spell.minus (suc n) e t mid rest is
      (in_brackets line (λ us. spell.begins_with_number us ≡ false) (expression_pieces e) mid rest after (λ opening closing inside opens closes here. no_number opening inside opens))
      (in_signed n e mid rest few after parts)))
  unary_whole one.IsNull n e ts rest few parts s =
      let x = both line (expression_pieces e) (space ∷ says word.Is ∷ space ∷ says word.Null ∷ []) ts rest s in
      at_keyword line (λ us. Shown line (expression_pieces e) ts us → Spells line (suc (suc n)) whole (unary one.IsNull e) ts rest) word.Is (space ∷ says word.Null ∷ []) x.0 rest x.2 (λ t mid is after.
      last_keyword line (λ us. Shown line (expression_pieces e) ts (t ∷ us) → Spells line (suc (suc n)) whole (unary one.IsNull e) ts rest) word.Null mid rest after (λ nil nulls here.
      whole_from_predicate (suc (suc n)) _ ts rest (spell.is_null (suc (suc n)) e t nil ts rest
      (as_predicate (suc (suc n)) e ts (t ∷ nil ∷ rest) (parts (suc (suc n)) ts (t ∷ nil ∷ rest) (omega (arith, few)) here)) is nulls))) x.1
  unary_whole one.IsNotNull n e ts rest few parts s =
      let x = both line (expression_pieces e) (space ∷ says word.Is ∷ space ∷ says word.Not ∷ space ∷ says word.Null ∷ []) ts rest s in
      at_keyword line (λ us. Shown line (expression_pieces e) ts us → Spells line (suc (suc n)) whole (unary one.IsNotNull e) ts rest) word.Is (space ∷ says word.Not ∷ space ∷ says word.Null ∷ []) x.0 rest x.2 (λ t mid is after.
      at_keyword line (λ us. Shown line (expression_pieces e) ts (t ∷ us) → Spells line (suc (suc n)) whole (unary one.IsNotNull e) ts rest) word.Not (space ∷ says word.Null ∷ []) mid rest after (λ refusing from denies further.
      last_keyword line (λ us. Shown line (expression_pieces e) ts (t ∷ refusing ∷ us) → Spells line (suc (suc n)) whole (unary one.IsNotNull e) ts rest) word.Null from rest further (λ nil nulls here.
      whole_from_predicate (suc (suc n)) _ ts rest (spell.is_not_null (suc (suc n)) e t refusing nil ts rest
      (as_predicate (suc (suc n)) e ts (t ∷ refusing ∷ nil ∷ rest) (parts (suc (suc n)) ts (t ∷ refusing ∷ nil ∷ rest) (omega (arith, few)) here)) is denies nulls)))) x.1

  arms_start : (a b : Expression) (arms : Arms) (qs : List Piece) →
      arms_pieces (arm a b arms) ++ qs ≡ space ∷ says word.When ∷ space ∷ (arms_after (arm a b arms) ++ qs)
  arms_start a b arms qs = refl

  mutual
    shown : (e : Expression) → IsWellFormed e → (m : ℕ) → 3 * depth e ≤ m → (ts rest : List Token) → Shown line (expression_pieces e) ts rest →
        Spells line m (level_of (is_literal_or_list e)) e ts rest
    shown e w zero few ts rest s = absurd (no_level e few)
    shown null w (suc n) few ts rest s = last_keyword line (λ us. Spells line (suc n) signed null us rest) word.Null ts rest s (λ t is. spell.is_postfix (suc n) null (t ∷ rest) rest (spell.null_ n t rest is))
    shown (boolean true) w (suc n) few ts rest s = last_keyword line (λ us. Spells line (suc n) signed (boolean true) us rest) word.True ts rest s (λ t is. spell.is_postfix (suc n) _ (t ∷ rest) rest (spell.true_ n t rest is))
    shown (boolean false) w (suc n) few ts rest s = last_keyword line (λ us. Spells line (suc n) signed (boolean false) us rest) word.False ts rest s (λ t is. spell.is_postfix (suc n) _ (t ∷ rest) rest (spell.false_ n t rest is))
    shown (integer (pos i)) w (suc n) few ts rest s = at_number line (λ us. Spells line (suc n) signed (integer (pos i)) us rest) i [] ts rest s (λ t mid is after.
        at_end line (λ us. Spells line (suc n) signed (integer (pos i)) (t ∷ us) rest) mid rest after
        (spell.is_postfix (suc n) _ (t ∷ rest) rest (spell.number n i t rest is w)))
    shown (integer (negsuc i)) w (suc n) few ts rest s = shown_negative i w n ts rest s
    shown (text x) w (suc n) few ts rest s = at_text line (λ us. Spells line (suc n) signed (text x) us rest) x [] ts rest w s (λ t mid is said after.
        at_end line (λ us. Spells line (suc n) signed (text x) (t ∷ us) rest) mid rest after
        (subst (λ z. Spells line (suc n) signed (text z) (t ∷ rest) rest) said (spell.is_postfix (suc n) _ (t ∷ rest) rest (spell.text_ n t rest is))))
    shown (variable v) w (suc n) few ts rest s = shown_variable v w n ts rest s
    shown (property e key) w (suc n) few ts rest s =
        in_head n (property e key) (owner_pieces (is_literal_or_list e) (expression_pieces e) ++ mark sign.Dot ∷ named key ∷ []) ts rest s (λ us vs here.
        let x = both line (owner_pieces (is_literal_or_list e) (expression_pieces e)) (mark sign.Dot ∷ named key ∷ []) us vs here in
        property_whole n e key us x.0 vs w.1 (shown_owner (is_literal_or_list e) n e us x.0 (omega (arith, few)) (λ k ps qs enough part. shown e w.0 k enough ps qs part) x.1) x.2)
    shown (has_labels e labels) w (suc n) few ts rest s =
        in_head n (has_labels e labels) (owner_pieces (is_literal_or_list e) (expression_pieces e) ++ label_pieces labels) ts rest s (λ us vs here.
        let x = both line (owner_pieces (is_literal_or_list e) (expression_pieces e)) (label_pieces labels) us vs here in
        labels_whole n e labels us x.0 vs w.1 (shown_owner (is_literal_or_list e) n e us x.0 (omega (arith, few)) (λ k ps qs enough part. shown e w.0 k enough ps qs part) x.1) x.2)
    shown (unary o e) w (suc zero) few ts rest s = absurd (omega (arith, few))
    shown (unary o e) w (suc (suc zero)) few ts rest s = absurd (omega (arith, few))
    shown (unary o e) w (suc (suc (suc n))) few ts rest s =
        in_head (suc (suc n)) (unary o e) (unary_pieces o (expression_pieces e)) ts rest s (λ us vs here.
        unary_whole o n e us vs (omega (arith, few)) (λ k ps qs enough part. signed_of (is_literal_or_list e) k e ps qs (shown e w k enough ps qs part)) here)
    shown (binary o a b) w (suc n) few ts rest s =
        in_head n (binary o a b) (expression_pieces a ++ space ∷ (binary_pieces o ++ space ∷ expression_pieces b)) ts rest s (λ us vs here.
        let x = both line (expression_pieces a) (space ∷ (binary_pieces o ++ space ∷ expression_pieces b)) us vs here in
        let y = both line (binary_pieces o) (space ∷ expression_pieces b) x.0 vs x.2 in
        binary_whole n o a b us x.0 y.0 vs (signed_of (is_literal_or_list a) n a us x.0 (shown a w.0 n (omega (arith, few)) us x.0 x.1)) y.1
        (signed_of (is_literal_or_list b) n b y.0 vs (shown b w.1 n (omega (arith, few)) y.0 vs y.2)))
    shown (comparison e no_links) w (suc n) few ts rest s = absurd w
    shown (comparison e (link c f ls)) w (suc n) few ts rest s =
        in_head n (comparison e (link c f ls)) (expression_pieces e ++ links_pieces (link c f ls)) ts rest s (λ us vs here.
        let x = both line (expression_pieces e) (links_pieces (link c f ls)) us vs here in
        whole_from_negation n _ us vs (from_comparisons n _ us vs (spell.compare n e (link c f ls) us x.0 vs
        (as_predicate n e us x.0 (signed_of (is_literal_or_list e) n e us x.0 (shown e w.0 n (omega (arith, few)) us x.0 x.1)))
        (shown_links (link c f ls) (w.1, w.2) n (omega (arith, few)) x.0 vs x.2))))
    shown (list no_more) w (suc zero) few ts rest s = absurd (omega (arith, few))
    shown (list no_more) w (suc (suc n)) few ts rest s =
        at_symbol line (λ us. Spells line (suc (suc n)) signed (list no_more) us rest) sign.LeftBracket (mark sign.RightBracket ∷ []) ts rest s (λ opening mid opens after.
        last_symbol line (λ us. Spells line (suc (suc n)) signed (list no_more) (opening ∷ us) rest) sign.RightBracket mid rest after (λ closing closes.
        spell.is_postfix _ _ _ rest (spell.empty_list n opening closing rest opens closes)))
    shown (list (more e es)) w (suc n) few ts rest s =
        at_symbol line (λ us. Spells line (suc n) signed (list (more e es)) us rest) sign.LeftBracket (elements_pieces (more e es) ++ mark sign.RightBracket ∷ []) ts rest s (λ opening mid opens after.
        let x = both line (elements_pieces (more e es)) (mark sign.RightBracket ∷ []) mid rest after in
        last_symbol line (λ us. Shown line (elements_pieces (more e es)) mid us → Spells line (suc n) signed (list (more e es)) (opening ∷ mid) rest) sign.RightBracket x.0 rest x.2 (λ closing closes here.
        spell.is_postfix _ _ _ rest (spell.list_of n (more e es) opening closing mid rest opens (shown_all (more e es) w n (omega (arith, few)) mid (closing ∷ rest) here) closes)) x.1)
    shown (case no_arms o) w (suc n) few ts rest s = absurd w
    shown (case (arm a b arms) o) w (suc zero) few ts rest s = absurd (omega (arith, few))
    shown (case (arm a b arms) o) w (suc (suc n)) few ts rest s =
        in_head (suc n) (case (arm a b arms) o) (says word.Case ∷ (arms_pieces (arm a b arms) ++ (otherwise_pieces o ++ space ∷ says word.End ∷ []))) ts rest s (λ us vs here.
        at_keyword line (λ xs. Spells line (suc n) whole (case (arm a b arms) o) xs vs) word.Case (arms_pieces (arm a b arms) ++ (otherwise_pieces o ++ space ∷ says word.End ∷ [])) us vs here (λ case_ from is after.
        at_keyword line (λ xs. Spells line (suc n) whole (case (arm a b arms) o) (case_ ∷ xs) vs) word.When (space ∷ (arms_after (arm a b arms) ++ (otherwise_pieces o ++ space ∷ says word.End ∷ []))) from vs
        (subst (λ ps. Shown line ps from vs) (arms_start a b arms (otherwise_pieces o ++ space ∷ says word.End ∷ [])) after) (λ when mid begins_ further.
        let x = both line (arms_after (arm a b arms)) (otherwise_pieces o ++ space ∷ says word.End ∷ []) mid vs further in
        let y = both line (otherwise_pieces o) (space ∷ says word.End ∷ []) x.0 vs x.2 in
        last_keyword line (λ xs. SpellsOtherwise line n o x.0 xs → Spells line (suc n) whole (case (arm a b arms) o) (case_ ∷ when ∷ mid) vs) word.End y.0 vs y.2 (λ end closes last_.
        as_whole (suc n) _ _ vs (spell.is_postfix (suc n) _ _ vs (spell.case_of n (arm a b arms) o case_ when end mid x.0 vs is begins_
        (shown_arms (arm a b arms) (w.0, w.1, w.2) n (omega (arith, few)) mid x.0 x.1) last_ closes)))
        (shown_otherwise o w.3 n (omega (arith, few)) x.0 y.0 y.1))))
    shown (call f true no_more) w (suc n) few ts rest s = absurd w
    shown (call f false no_more) w (suc zero) few ts rest s = absurd (omega (arith, few))
    shown (call f false no_more) w (suc (suc n)) few ts rest s =
        at_name line (λ us. Spells line (suc (suc n)) head (call f false no_more) us rest) f (bracketed []) ts rest w.0 s (λ t mid names any said after.
        in_brackets line (λ us. Spells line (suc (suc n)) head (call f false no_more) (t ∷ us) rest) [] mid rest after (λ opening closing inside opens closes here.
        at_end line (λ us. Spells line (suc (suc n)) head (call f false no_more) (t ∷ opening ∷ us) rest) inside (closing ∷ rest) here
        (subst (λ z. Spells line (suc (suc n)) head (call z false no_more) (t ∷ opening ∷ closing ∷ rest) rest) (ap lowered said ∙ w.1)
        (spell.call_of_nothing n t opening closing rest names opens closes))))
    shown (call f false (more e es)) w (suc n) few ts rest s =
        at_name line (λ us. Spells line (suc n) head (call f false (more e es)) us rest) f (bracketed (elements_pieces (more e es))) ts rest w.0.0 s (λ t mid names any said after.
        in_brackets line (λ us. Spells line (suc n) head (call f false (more e es)) (t ∷ us) rest) (elements_pieces (more e es)) mid rest after (λ opening closing inside opens closes here.
        subst (λ z. Spells line (suc n) head (call z false (more e es)) (t ∷ opening ∷ inside) rest) (ap lowered said ∙ w.0.1)
        (spell.call_of n (more e es) t opening closing inside rest names opens (shown_all (more e es) (w.1, w.2) n (omega (arith, few)) inside (closing ∷ rest) here) closes)))
    shown (call f true (more e es)) w (suc n) few ts rest s =
        at_name line (λ us. Spells line (suc n) head (call f true (more e es)) us rest) f (bracketed (distinct_pieces true ++ elements_pieces (more e es))) ts rest w.0.0 s (λ t mid names any said after.
        in_brackets line (λ us. Spells line (suc n) head (call f true (more e es)) (t ∷ us) rest) (distinct_pieces true ++ elements_pieces (more e es)) mid rest after (λ opening closing inside opens closes here.
        at_keyword line (λ us. Spells line (suc n) head (call f true (more e es)) (t ∷ opening ∷ us) rest) word.Distinct (space ∷ elements_pieces (more e es)) inside (closing ∷ rest) here (λ distinct from marks further.
        subst (λ z. Spells line (suc n) head (call z true (more e es)) (t ∷ opening ∷ distinct ∷ from) rest) (ap lowered said ∙ w.0.1)
        (spell.call_of_distinct n (more e es) t opening distinct closing from rest names opens marks (shown_all (more e es) (w.1, w.2) n (omega (arith, few)) from (closing ∷ rest) further) closes))))
    shown (call_star f) w (suc zero) few ts rest s = absurd (omega (arith, few))
    shown (call_star f) w (suc (suc n)) few ts rest s =
        at_name line (λ us. Spells line (suc (suc n)) head (call_star f) us rest) f (bracketed (mark sign.Star ∷ [])) ts rest w.0 s (λ t mid names any said after.
        in_brackets line (λ us. Spells line (suc (suc n)) head (call_star f) (t ∷ us) rest) (mark sign.Star ∷ []) mid rest after (λ opening closing inside opens closes here.
        last_symbol line (λ us. Spells line (suc (suc n)) head (call_star f) (t ∷ opening ∷ us) rest) sign.Star inside (closing ∷ rest) here (λ star stars.
        subst (λ z. Spells line (suc (suc n)) head (call_star z) (t ∷ opening ∷ star ∷ closing ∷ rest) rest) (ap lowered said ∙ w.1)
        (spell.call_of_star n t opening star closing rest names opens stars closes))))

    shown_all : (es : Expressions) → AreWellFormed es → (n : ℕ) → 3 * deepest es ≤ n → (ts rest : List Token) → Shown line (elements_pieces es) ts rest → AllSpelt n es ts rest
    shown_all no_more w n few ts rest s = tt
    shown_all (more e no_more) w n few ts rest s =
        let x = both line (expression_pieces e) [] ts rest s in
        at_end line (λ us. Shown line (expression_pieces e) ts us → SpellsAll line n (more e no_more) ts rest) x.0 rest x.2 (λ here.
        spell.last_element n e ts rest (as_whole n e ts rest (signed_of (is_literal_or_list e) n e ts rest (shown e w.0 n (omega (arith, few)) ts rest here)))) x.1
    shown_all (more e (more f es)) w n few ts rest s =
        let x = both line (expression_pieces e) (mark sign.Comma ∷ space ∷ elements_pieces (more f es)) ts rest s in
        at_symbol line (λ us. Shown line (expression_pieces e) ts us → SpellsAll line n (more e (more f es)) ts rest) sign.Comma (space ∷ elements_pieces (more f es)) x.0 rest x.2 (λ comma mid is after here.
        spell.next_element n e (more f es) comma ts mid rest (as_whole n e ts (comma ∷ mid) (signed_of (is_literal_or_list e) n e ts (comma ∷ mid) (shown e w.0 n (omega (arith, few)) ts (comma ∷ mid) here))) is
        (shown_all (more f es) w.1 n (omega (arith, few)) mid rest after)) x.1

    shown_links : (ls : Links) → LinksAreWellFormed ls → (n : ℕ) → 3 * links_depth ls ≤ n → (ts rest : List Token) → Shown line (links_pieces ls) ts rest → LinksSpelt n ls ts rest
    shown_links no_links w n few ts rest s = tt
    shown_links (link c e no_links) w n few ts rest s =
        at_symbol line (λ us. SpellsLinks line n (link c e no_links) us rest) (comparator_symbol c) (space ∷ (expression_pieces e ++ [])) ts rest s (λ t mid is after.
        let x = both line (expression_pieces e) [] mid rest after in
        at_end line (λ us. Shown line (expression_pieces e) mid us → SpellsLinks line n (link c e no_links) (t ∷ mid) rest) x.0 rest x.2 (λ here.
        spell.last_link n c e t mid rest (comparator_read c t is) (as_predicate n e mid rest (signed_of (is_literal_or_list e) n e mid rest (shown e w.0 n (omega (arith, few)) mid rest here)))) x.1)
    shown_links (link c e (link d f ls)) w n few ts rest s =
        at_symbol line (λ us. SpellsLinks line n (link c e (link d f ls)) us rest) (comparator_symbol c) (space ∷ (expression_pieces e ++ links_pieces (link d f ls))) ts rest s (λ t mid is after.
        let x = both line (expression_pieces e) (links_pieces (link d f ls)) mid rest after in
        spell.next_link n c e (link d f ls) t mid x.0 rest (comparator_read c t is) (as_predicate n e mid x.0 (signed_of (is_literal_or_list e) n e mid x.0 (shown e w.0 n (omega (arith, few)) mid x.0 x.1)))
        (shown_links (link d f ls) w.1 n (omega (arith, few)) x.0 rest x.2))

    shown_arms : (arms : Arms) → ArmsAreWellFormed arms → (n : ℕ) → 3 * arms_depth arms ≤ n → (ts rest : List Token) → Shown line (arms_after arms) ts rest → ArmsSpelt n arms ts rest
    shown_arms no_arms w n few ts rest s = tt
    shown_arms (arm a b no_arms) w n few ts rest s =
        let x = both line (expression_pieces a) (space ∷ says word.Then ∷ space ∷ (expression_pieces b ++ [])) ts rest s in
        at_keyword line (λ us. Shown line (expression_pieces a) ts us → SpellsArms line n (arm a b no_arms) ts rest) word.Then (space ∷ (expression_pieces b ++ [])) x.0 rest x.2 (λ then_ mid is after here.
        let y = both line (expression_pieces b) [] mid rest after in
        at_end line (λ us. Shown line (expression_pieces b) mid us → SpellsArms line n (arm a b no_arms) ts rest) y.0 rest y.2 (λ there.
        spell.last_arm n a b then_ ts mid rest (as_whole n a ts (then_ ∷ mid) (signed_of (is_literal_or_list a) n a ts (then_ ∷ mid) (shown a w.0 n (omega (arith, few)) ts (then_ ∷ mid) here))) is
        (as_whole n b mid rest (signed_of (is_literal_or_list b) n b mid rest (shown b w.1 n (omega (arith, few)) mid rest there)))) y.1) x.1
    shown_arms (arm a b (arm c d arms)) w n few ts rest s =
        let x = both line (expression_pieces a) (space ∷ says word.Then ∷ space ∷ (expression_pieces b ++ arms_pieces (arm c d arms))) ts rest s in
        at_keyword line (λ us. Shown line (expression_pieces a) ts us → SpellsArms line n (arm a b (arm c d arms)) ts rest) word.Then (space ∷ (expression_pieces b ++ arms_pieces (arm c d arms))) x.0 rest x.2 (λ then_ mid is after here.
        let y = both line (expression_pieces b) (arms_pieces (arm c d arms)) mid rest after in
        at_keyword line (λ us. Shown line (expression_pieces b) mid us → SpellsArms line n (arm a b (arm c d arms)) ts rest) word.When (space ∷ arms_after (arm c d arms)) y.0 rest y.2 (λ when further goes_on others there.
        spell.next_arm n a b (arm c d arms) then_ when ts mid further rest
        (as_whole n a ts (then_ ∷ mid) (signed_of (is_literal_or_list a) n a ts (then_ ∷ mid) (shown a w.0 n (omega (arith, few)) ts (then_ ∷ mid) here))) is
        (as_whole n b mid (when ∷ further) (signed_of (is_literal_or_list b) n b mid (when ∷ further) (shown b w.1 n (omega (arith, few)) mid (when ∷ further) there))) goes_on
        (shown_arms (arm c d arms) w.2 n (omega (arith, few)) further rest others)) y.1) x.1

    shown_otherwise : (o : Otherwise) → OtherwiseIsWellFormed o → (n : ℕ) → 3 * otherwise_depth o ≤ n → (ts rest : List Token) → Shown line (otherwise_pieces o) ts rest → SpellsOtherwise line n o ts rest
    shown_otherwise nothing w n few ts rest s = at_end line (λ us. SpellsOtherwise line n nothing us rest) ts rest s (spell.no_else n rest)
    shown_otherwise (otherwise e) w n few ts rest s =
        at_keyword line (λ us. SpellsOtherwise line n (otherwise e) us rest) word.Else (space ∷ expression_pieces e) ts rest s (λ t mid is after.
        spell.else_ n e t mid rest is (as_whole n e mid rest (signed_of (is_literal_or_list e) n e mid rest (shown e w n (omega (arith, few)) mid rest after))))

  pub shown-whole : (e : Expression) → IsWellFormed e → (m : ℕ) → 3 * depth e ≤ m → (ts rest : List Token) → Shown line (expression_pieces e) ts rest → Spells line m whole e ts rest
  shown-whole e w m few ts rest s = as_whole m e ts rest (signed_of (is_literal_or_list e) m e ts rest (shown e w m few ts rest s))

  pub shown-negation : (e : Expression) → IsWellFormed e → (m : ℕ) → 3 * depth e ≤ m → (ts rest : List Token) → Shown line (expression_pieces e) ts rest → Spells line m negation e ts rest
  shown-negation e w m few ts rest s = as_negation m e ts rest (signed_of (is_literal_or_list e) m e ts rest (shown e w m few ts rest s))
