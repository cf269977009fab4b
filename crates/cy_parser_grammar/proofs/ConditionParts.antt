-- The parts of a WHERE: what is read is spelt, and what is spelt is read.
use Rattle.std.proofs.Common.{◌≡◌, ℕ, zero, suc, ◌≤◌, Bool, true, false, IsTrue, List, [], ◌∷◌, ◌++◌, length, Some, None, refl, sym, ap, ◌∙◌, subst, append_assoc, arith, if◌then◌else◌}
use Rattle.cy_values.proofs.Booleans.{both_first}
use Rattle.cy_lexer.specs.declared.keywords.Keyword.TheVariants as word
use Rattle.cy_lexer.specs.declared.tokens.TokenKind.{TokenKind}
use Rattle.cy_lexer.specs.declared.tokens.TokenKind.TheVariants as kind
use Rattle.cy_lexer.specs.declared.tokens.Token.{Token}
use Rattle.cy_trees.specs.Trees.{Expression, PathTest}
use Rattle.cy_trees.specs.Depth.{depth, greatest_depth}
use Rattle.cy_parser_grammar.specs.Spells.{Spells, negation}
use Rattle.cy_parser_grammar.specs.SpellsClauses.{most_levels, Part, condition, path_test, SpellsPathTest, SpellsPart, path_part, condition_part, SpellsParts, last_part, next_part, SpellsChain, is_path_among, is_after_where, ends_where, is_after_part, ends_part}
use Rattle.cy_parser_grammar.specs.internal.Reader.{kind_ahead, is_keyword, sees_keyword, eat_keyword}
use Rattle.cy_parser_grammar.specs.internal.Expressions.{nesting}
use Rattle.cy_parser_grammar.specs.declared.places.Nested.TheVariants as nested
use Rattle.cy_parser_grammar.specs.internal.Clauses as read
use Rattle.cy_parser_grammar.proofs.Gives.{Gives, bind, answer, refused, ate_keyword, by_test, by_either, refuses, also}
use Rattle.cy_parser_grammar.proofs.Takes.{after, takes_first, takes_second, leaves_one, then_branch, eats_keyword, leaves_keyword}
use Rattle.cy_parser_grammar.proofs.Stops.{ends_comparisons, ends_whole}
use Rattle.cy_parser_grammar.proofs.Follows.{clause_ends_item, whole_ends}
use Rattle.cy_parser_grammar.proofs.Sound.{later, conjunct-sound}
use Rattle.cy_parser_grammar.proofs.Complete.{negation-complete}
use Rattle.cy_parser_grammar.proofs.PathTests.{path_test-sound, path_test_shortens, path_test_reads}

-- ---- where parts end

-- an operand of AND ends where a part does
where_operand : (k : TokenKind) → is_after_where k ≡ true → ends_comparisons (Some k) ≡ true
where_operand k e =
    let whole : ends_whole (Some k) ≡ true = whole_ends (Some k) (clause_ends_item (Some k) e) in
    both_first (ends_comparisons (Some k)) _ (both_first _ _ (both_first _ _ whole))

no_and_at : (k : TokenKind) → is_after_where k ≡ true → is_keyword word.And (Some k) ≡ false
no_and_at (kind.Keyword word.And) e = cc
no_and_at _ e = refl

pub no_and_after : (ts : List Token) → IsTrue (ends_where ts) → is_keyword word.And (kind_ahead ts) ≡ false
no_and_after [] e = refl
no_and_after (t ∷ ts) e = no_and_at t.kind e

where_ends_at : (k : TokenKind) → is_after_part k ≡ true → is_keyword word.And (Some k) ≡ false → is_after_where k ≡ true
where_ends_at (kind.Keyword word.And) e other = absurd cc
where_ends_at _ e other = e

where_ends : (ts : List Token) → IsTrue (ends_part ts) → sees_keyword word.And ts ≡ false → IsTrue (ends_where ts)
unfolding sees_keyword
where_ends [] e other = refl
where_ends (t ∷ ts) e other = where_ends_at t.kind e other

and_operand : (k : TokenKind) → is_keyword word.And (Some k) ≡ true → ends_comparisons (Some k) ≡ true
and_operand (kind.Keyword word.And) e = refl
and_operand _ e = cc

operand_ends : (k : TokenKind) → is_after_part k ≡ true → ends_comparisons (Some k) ≡ true
operand_ends k e = decide (is_keyword word.And (Some k)) refl
  where
    decide : (b : Bool) → is_keyword word.And (Some k) ≡ b → ends_comparisons (Some k) ≡ true
    decide true is = and_operand k is
    decide false other = where_operand k (where_ends_at k e other)

pub operand_ends_before : (ts : List Token) → IsTrue (ends_part ts) → ends_comparisons (kind_ahead ts) ≡ true
operand_ends_before [] e = refl
operand_ends_before (t ∷ ts) e = operand_ends t.kind e

part_ends_at : (k : TokenKind) → is_after_where k ≡ true → is_after_part k ≡ true
part_ends_at (kind.Keyword word.And) e = refl
part_ends_at _ e = e

pub part_ends : (ts : List Token) → IsTrue (ends_where ts) → IsTrue (ends_part ts)
part_ends [] e = refl
part_ends (t ∷ ts) e = part_ends_at t.kind e

ended-by : {A : Type 0} (a : A) (ts : List Token) (holds : A → List Token → Type 0) (b : Bool) → ends_part ts ≡ b → (IsTrue (ends_part ts) → holds a ts) →
    Gives (if b then Some (a, ts) else None) holds
ended-by a ts holds true e h = answer _ _ _ (h e)
ended-by a ts holds false e h = refused _

ending-sound : {A : Type 0} (a : A) (ts : List Token) (holds : A → List Token → Type 0) → (IsTrue (ends_part ts) → holds a ts) → Gives (read.ending a ts) holds
ending-sound a ts holds h = ended-by a ts holds (ends_part ts) refl h

ending_reads : {A : Type 0} (a : A) (ts : List Token) → IsTrue (ends_part ts) → read.ending a ts ≡ Some (a, ts)
ending_reads a ts e = ap (λ b. if b then Some (a, ts) else None) e

-- whether AND comes next
and_seen : (ts : List Token) → Gives (eat_keyword word.And ts) (λ found rest. sees_keyword word.And ts ≡ found)
and_seen ts = answer _ _ _ refl

module _ (line : List ℕ) where
  -- ---- one part

  -- a path up to the part's end
  pub record IsPathPart (p : Part) (ts rest : List Token) : Type 0 where
    pub test : PathTest
    pub is : p ≡ path_test test
    pub spelt : SpellsPathTest line test ts rest
    pub ends : IsTrue (ends_part rest)

  path_part-sound : (ts : List Token) → Gives (read.path_part line ts) (λ p rest. IsPathPart p ts rest)
  unfolding read.path_part
  path_part-sound ts = bind (path_test-sound line ts) (λ t mid s. ending-sound _ mid _ (λ ends. record { test = t; is = refl; spelt = s; ends = ends }))

  path_part_reads : (t : PathTest) (ts rest : List Token) → SpellsPathTest line t ts rest → IsTrue (ends_part rest) → read.path_part line ts ≡ Some (path_test t, rest)
  unfolding read.path_part
  path_part_reads t ts rest s ends = after _ (path_test_reads line t ts rest s ends) (ending_reads (path_test t) rest ends)

  abbrev pub NoPath : List Token → Type 0
  NoPath ts = (t : PathTest) (left : List Token) → SpellsPathTest line t ts left → IsTrue (ends_part left) → ⊥

  no_path_read : (ts : List Token) → read.path_part line ts ≡ None → NoPath ts
  no_path_read ts none t left s ends = let there = path_part_reads t ts left s ends in cc

  condition_part-sound : (ts : List Token) → NoPath ts → Gives (read.condition_part line ts) (λ p rest. SpellsPart line p ts rest)
  unfolding read.condition_part
  condition_part-sound ts no_path = bind (conjunct-sound line ts) (λ e mid s. ending-sound _ mid _ (λ ends. condition_part e ts mid no_path s.spells s.shallow ends))

  condition_part_reads : (e : Expression) (ts rest : List Token) → Spells line most_levels negation e ts rest → depth e ≤ greatest_depth → IsTrue (ends_part rest) →
      read.condition_part line ts ≡ Some (condition e, rest)
  unfolding read.condition_part
  condition_part_reads e ts rest s shallow ends =
      after _ ((negation-complete line e ts rest s).reads shallow (operand_ends_before rest ends)) (ending_reads (condition e) rest ends)

  part-sound : (ts : List Token) → Gives (read.part line ts) (λ p rest. SpellsPart line p ts rest)
  unfolding read.part
  part-sound ts = by_either (read.path_part line ts) (read.condition_part line ts) _
      (later _ _ (λ p rest x. subst (λ z. SpellsPart line z ts rest) (sym x.is) (path_part x.test ts rest x.spelt x.ends)) (path_part-sound ts))
      (λ none. condition_part-sound ts (no_path_read ts none))

  part_reads : (p : Part) (ts rest : List Token) → SpellsPart line p ts rest → read.part line ts ≡ Some (p, rest)
  unfolding read.part
  part_reads _ ts rest (path_part t _ _ s ends) = takes_first (read.path_part line ts) (read.condition_part line ts) (path_test t, rest) (path_part_reads t ts rest s ends)
  part_reads _ ts rest (condition_part e _ _ no_path s shallow ends) =
      let none : read.path_part line ts ≡ None = refuses (read.path_part line ts) _ (path_part-sound ts) (λ p left x. no_path x.test left x.spelt x.ends) in
      takes_second (read.path_part line ts) (read.condition_part line ts) none ∙ condition_part_reads e ts rest s shallow ends

  part_shortens : (p : Part) (ts rest : List Token) → SpellsPart line p ts rest → suc (length rest) ≤ length ts
  part_shortens _ ts rest (path_part t _ _ s ends) = path_test_shortens line t ts rest s
  part_shortens _ ts rest (condition_part e _ _ no_path s shallow ends) = (negation-complete line e ts rest s).shortens

  part_ended : (p : Part) (ts rest : List Token) → SpellsPart line p ts rest → IsTrue (ends_part rest)
  part_ended _ ts rest (path_part t _ _ s ends) = ends
  part_ended _ ts rest (condition_part e _ _ no_path s shallow ends) = ends

  -- ---- all of them

  pub parts_shorten : (ps : List Part) (ts rest : List Token) → SpellsParts line ps ts rest → suc (length rest) ≤ length ts
  parts_shorten _ ts rest (last_part p _ _ s) = part_shortens p ts rest s
  parts_shorten _ ts rest (next_part p ps and _ mid _ s is others) =
      let x = part_shortens p ts (and ∷ mid) s in
      let y = parts_shorten ps mid rest others in
      omega (arith, x, y)

  record FoundParts (found : List Part) (ts : List Token) (all : List Part) (rest : List Token) : Type 0 where
    pub these : List Part
    pub all_is : all ≡ found ++ these
    pub spelt : SpellsParts line these ts rest
    pub ends : IsTrue (ends_where rest)

  parts-sound-from : (turns : ℕ) (found : List Part) (ts : List Token) → Gives (read.parts_from line turns found ts) (FoundParts found ts)
  unfolding read.parts_from
  parts-sound-from zero found ts = refused _
  parts-sound-from (suc turns) found ts =
      bind (part-sound ts) (λ p mid s. bind (also _ _ _ (ate_keyword word.And mid) (and_seen mid)) (λ goes_on left c. by_test _ _ goes_on left _
      (λ yes. later _ _ (λ all rest g. (
      let x = c.0.there yes in
      record {
        these = p ∷ g.these;
        all_is = g.all_is ∙ append_assoc found (p ∷ []) g.these;
        spelt = next_part p g.these x.0 ts left rest (subst (λ z. SpellsPart line p ts z) x.1 s) x.2 g.spelt;
        ends = g.ends;
      })) (parts-sound-from turns (found ++ p ∷ []) left))
      (λ stop. answer _ _ _ (record {
        these = p ∷ [];
        all_is = refl;
        spelt = last_part p ts left (subst (λ z. SpellsPart line p ts z) (sym (c.0.absent stop)) s);
        ends = subst (λ z. IsTrue (ends_where z)) (sym (c.0.absent stop)) (where_ends mid (part_ended p ts mid s) (c.1 ∙ stop));
      }))))

  pub conjuncts-sound : (ts : List Token) → Gives (read.conjuncts line ts) (λ ps rest. SpellsChain line ps ts rest)
  unfolding read.conjuncts read.parts
  conjuncts-sound ts = bind (parts-sound-from (length ts) [] ts) (λ ps mid g. by_test _ _ (is_path_among ps) mid _
      (λ yes. answer _ _ _ (record { parts = subst (λ z. SpellsParts line z ts mid) (sym g.all_is) g.spelt; ends = g.ends; has_path = yes }))
      (λ none. refused _))

  parts_read_from : (k : ℕ) (found ps : List Part) (ts rest : List Token) → SpellsParts line ps ts rest → IsTrue (ends_where rest) → length ts ≤ k →
      read.parts_from line k found ts ≡ Some (found ++ ps, rest)
  unfolding read.parts_from
  parts_read_from zero found ps ts rest s ends few = let x = parts_shorten ps ts rest s in absurd (omega (arith, x, few))
  parts_read_from (suc k) found _ ts rest (last_part p _ _ s) ends few =
      after _ (part_reads p ts rest s) (after _ (leaves_keyword word.And rest (no_and_after rest ends)) refl)
  parts_read_from (suc k) found _ ts rest (next_part p ps and _ mid _ s is others) ends few =
      let x = part_shortens p ts (and ∷ mid) s in
      let fewer : length mid ≤ k = omega (arith, few, x) in
      after _ (part_reads p ts (and ∷ mid) s) (after _ (eats_keyword word.And and mid is)
      (parts_read_from k (found ++ p ∷ []) ps mid rest others ends fewer ∙ ap (λ z. Some (z, rest)) (append_assoc found (p ∷ []) ps)))

  pub conjuncts_read : (ps : List Part) (ts rest : List Token) → SpellsChain line ps ts rest → read.conjuncts line ts ≡ Some (ps, rest)
  unfolding read.conjuncts read.parts
  conjuncts_read ps ts rest chain =
      after _ (parts_read_from (length ts) [] ps ts rest chain.parts chain.ends (omega arith)) (then_branch _ _ (is_path_among ps) rest chain.has_path)

  -- ---- a condition alone

  conjunct_reads : (e : Expression) (ts rest : List Token) → Spells line most_levels negation e ts rest → depth e ≤ greatest_depth → IsTrue (ends_part rest) →
      nesting line most_levels nested.Negation ts ≡ Some (e, rest)
  conjunct_reads e ts rest s shallow ends = (negation-complete line e ts rest s).reads shallow (operand_ends_before rest ends)

  lone : (e : Expression) (ts rest : List Token) → NoPath ts → Spells line most_levels negation e ts rest → depth e ≤ greatest_depth → IsTrue (ends_where rest) →
      (ps : List Part) (left : List Token) → SpellsParts line ps ts left → IsTrue (is_path_among ps) → ⊥
  lone e ts rest no_path s small ends _ left (last_part _ _ _ (path_part t _ _ spelt stop)) there = no_path t left spelt stop
  lone e ts rest no_path s small ends _ left (last_part _ _ _ (condition_part f _ _ none spelt shallow stop)) there = absurd cc
  lone e ts rest no_path s small ends _ left (next_part _ ps and _ mid _ (path_part t _ _ spelt stop) is others) there = no_path t (and ∷ mid) spelt stop
  lone e ts rest no_path s small ends _ left (next_part _ ps and _ mid _ (condition_part f _ _ none spelt shallow stop) is others) there =
      let same : rest ≡ and ∷ mid = leaves_one (nesting line most_levels nested.Negation ts) e f rest (and ∷ mid)
      (conjunct_reads e ts rest s small (part_ends rest ends)) (conjunct_reads f ts (and ∷ mid) spelt shallow stop) in
      let ended : is_after_where and.kind ≡ true = subst (λ z. ends_where z ≡ true) same ends in
      let no : false ≡ true = ap is_after_where (sym is) ∙ ended in
      absurd cc

  -- a condition up to the end of a WHERE, which no path begins, is no chain with a path
  pub lone_condition : (e : Expression) (ts rest : List Token) → NoPath ts → Spells line most_levels negation e ts rest → depth e ≤ greatest_depth → IsTrue (ends_where rest) →
      (ps : List Part) (left : List Token) → SpellsChain line ps ts left → ⊥
  lone_condition e ts rest no_path s small ends ps left chain = lone e ts rest no_path s small ends ps left chain.parts chain.has_path
