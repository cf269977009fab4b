-- A WHERE: what is read is spelt, and what is spelt is read.
use Rattle.std.proofs.Common.{◌≡◌, ℕ, ◌≤◌, true, List, [], ◌∷◌, ◌++◌, length, Option, Some, None, refl, sym, ap, ◌∙◌, subst, append_assoc, append-nil, arith}
use Rattle.std.specs.Option.{ForSome}
use Rattle.cy_lexer.specs.declared.keywords.Keyword.TheVariants as word
use Rattle.cy_lexer.specs.declared.tokens.Token.{Token}
use Rattle.cy_trees.specs.declared.expressions.BinaryOperator.TheVariants as operator
use Rattle.cy_trees.specs.Trees.{Expression, binary, PathTest, Where}
use Rattle.cy_trees.specs.Depth.{depth, greatest_depth}
use Rattle.cy_parser_grammar.specs.Spells.{IsKeyword}
use Rattle.cy_parser_grammar.specs.SpellsClauses.{Part, condition, path_test, path_part, condition_part, SpellsParts, last_part, next_part, SpellsChain, test_after, test_of, paths_among, SpellsWhereIfAny, no_where, where_parts, where_expression}
use Rattle.cy_parser_grammar.specs.internal.Reader.{kind_ahead}
use Rattle.cy_parser_grammar.specs.internal.Clauses as read
use Rattle.cy_parser_grammar.proofs.Gives.{Gives, bind, answer, ate_keyword, by_test, checked_there, refuses}
use Rattle.cy_parser_grammar.proofs.Takes.{after, passes, eats_keyword, leaves_keyword}
use Rattle.cy_parser_grammar.proofs.Follows.{ends_clause, clause_ends_item, no_filter_after, whole_ends}
use Rattle.cy_parser_grammar.proofs.Sound.{later}
use Rattle.cy_parser_grammar.proofs.SoundPatterns.{whole-sound}
use Rattle.cy_parser_grammar.proofs.PatternsComplete.{whole_reads, expression_reads}
use Rattle.cy_parser_grammar.proofs.ConditionParts.{conjuncts-sound, conjuncts_read, parts_shorten}

-- ---- what the parts make

abbrev pub IsShallow : Option Expression → Type 0
IsShallow None = Unit {0}
IsShallow (Some e) = depth e ≤ greatest_depth

abbrev pub AreShallow : List Part → Type 0
AreShallow [] = Unit {0}
AreShallow (condition e ∷ ps) = (depth e ≤ greatest_depth) × AreShallow ps
AreShallow (path_test t ∷ ps) = AreShallow ps

pub for_some : (o : Option Expression) → IsShallow o → ForSome o (λ e. depth e ≤ greatest_depth)
for_some None s e is = cc
for_some (Some f) s e is = (let same : f ≡ e = cc in subst (λ z. depth z ≤ greatest_depth) same s)

pub shallow_of : (o : Option Expression) → ForSome o (λ e. depth e ≤ greatest_depth) → IsShallow o
shallow_of None s = tt
shallow_of (Some e) s = s e refl

-- the WHERE of the parts after those that were found
abbrev made : Where → List Part → Where
made found ps = record { test = test_after found.test ps; paths = found.paths ++ paths_among ps }

record IsMade (found : Where) (ps : List Part) (ts : List Token) (w : Where) (rest : List Token) : Type 0 where
  pub is : w ≡ made found ps
  pub left_is : rest ≡ ts
  pub shallow : IsShallow (test_after found.test ps)

made-path : (test : Option Expression) (paths : List PathTest) (t : PathTest) (ps : List Part) →
    made (record { test = test; paths = paths ++ t ∷ [] }) ps ≡ made (record { test = test; paths = paths }) (path_test t ∷ ps)
made-path test paths t ps = ap (λ z. record { test = test_after test ps; paths = z }) (append_assoc paths (t ∷ []) (paths_among ps))

where-sound-from : (test : Option Expression) (paths : List PathTest) (ps : List Part) (ts : List Token) → IsShallow test → AreShallow ps →
    Gives (read.where_from (record { test = test; paths = paths }) ps ts) (IsMade (record { test = test; paths = paths }) ps ts)
unfolding read.where_from read.conjoined
where-sound-from test paths [] ts s are = answer _ _ _
    (record { is = ap (λ z. record { test = test; paths = z }) (sym (append-nil paths)); left_is = refl; shallow = s })
where-sound-from test paths (path_test t ∷ ps) ts s are = later _ _ (λ w rest x. record {
  is = x.is ∙ made-path test paths t ps;
  left_is = x.left_is;
  shallow = x.shallow;
}) (where-sound-from test (paths ++ t ∷ []) ps ts s are)
where-sound-from None paths (condition e ∷ ps) ts s are =
    bind (answer (λ x rest. (x ≡ e) × (rest ≡ ts)) e ts (refl, refl)) (λ x mid k. (
    subst (λ z. Gives (read.where_from (record { test = Some z; paths = paths }) ps mid) (IsMade (record { test = None; paths = paths }) (condition e ∷ ps) ts)) (sym k.0)
    (subst (λ z. Gives (read.where_from (record { test = Some e; paths = paths }) ps z) (IsMade (record { test = None; paths = paths }) (condition e ∷ ps) ts)) (sym k.1)
    (later _ _ (λ w rest y. record { is = y.is; left_is = y.left_is; shallow = y.shallow }) (where-sound-from (Some e) paths ps ts are.0 are.1)))))
where-sound-from (Some before) paths (condition e ∷ ps) ts s are =
    bind (checked_there (binary operator.And before e) ts) (λ x mid k. (
    subst (λ z. Gives (read.where_from (record { test = Some z; paths = paths }) ps mid) (IsMade (record { test = Some before; paths = paths }) (condition e ∷ ps) ts)) (sym k.0)
    (subst (λ z. Gives (read.where_from (record { test = Some (binary operator.And before e); paths = paths }) ps z) (IsMade (record { test = Some before; paths = paths }) (condition e ∷ ps) ts)) (sym k.1)
    (later _ _ (λ w rest y. record { is = y.is; left_is = y.left_is; shallow = y.shallow }) (where-sound-from (Some (binary operator.And before e)) paths ps ts k.2 are.1)))))

-- what more parts are joined to is less deep
part_of_test : (e : Expression) (ps : List Part) → IsShallow (test_after (Some e) ps) → depth e ≤ greatest_depth
part_of_test e [] s = s
part_of_test e (path_test t ∷ ps) s = part_of_test e ps s
part_of_test e (condition f ∷ ps) s =
    let both : depth (binary operator.And e f) ≤ greatest_depth = part_of_test (binary operator.And e f) ps s in
    omega (arith, both)

where_reads_from : (test : Option Expression) (paths : List PathTest) (ps : List Part) (ts : List Token) → IsShallow (test_after test ps) →
    read.where_from (record { test = test; paths = paths }) ps ts ≡ Some (made (record { test = test; paths = paths }) ps, ts)
unfolding read.where_from read.conjoined
where_reads_from test paths [] ts s = ap (λ z. Some (record { test = test; paths = z }, ts)) (sym (append-nil paths))
where_reads_from test paths (path_test t ∷ ps) ts s = where_reads_from test (paths ++ t ∷ []) ps ts s ∙ ap (λ z. Some (z, ts)) (made-path test paths t ps)
where_reads_from None paths (condition e ∷ ps) ts s = after _ refl (where_reads_from (Some e) paths ps ts s)
where_reads_from (Some before) paths (condition e ∷ ps) ts s =
    after _ (passes (binary operator.And before e) ts (part_of_test (binary operator.And before e) ps s)) (where_reads_from (Some (binary operator.And before e)) paths ps ts s)

module _ (line : List ℕ) where
  parts_shallow : (ps : List Part) (ts rest : List Token) → SpellsParts line ps ts rest → AreShallow ps
  parts_shallow _ ts rest (last_part _ _ _ (path_part t _ _ s ends)) = tt
  parts_shallow _ ts rest (last_part _ _ _ (condition_part e _ _ none s shallow ends)) = (shallow, tt)
  parts_shallow _ ts rest (next_part _ ps and _ mid _ (path_part t _ _ s ends) is others) = parts_shallow ps mid rest others
  parts_shallow _ ts rest (next_part _ ps and _ mid _ (condition_part e _ _ none s shallow ends) is others) = (shallow, parts_shallow ps mid rest others)

  -- ---- what is read is spelt

  no_chain_read : (ts : List Token) → read.conjuncts line ts ≡ None → (ps : List Part) (left : List Token) → SpellsChain line ps ts left → ⊥
  no_chain_read ts none ps left chain = let there = conjuncts_read line ps ts left chain in cc

  chosen-sound : (w : Token) (ts : List Token) → IsKeyword word.Where w → (o : Option (List Part × List Token)) → read.conjuncts line ts ≡ o →
      Gives (read.where_by line o ts) (λ f rest. SpellsWhereIfAny line f (w ∷ ts) rest)
  chosen-sound w ts is (Some found) e =
      let chain : SpellsChain line found.0 ts found.1 = (conjuncts-sound line ts).given found.0 found.1 e in
      later _ _ (λ f rest x. (
      subst (λ z. SpellsWhereIfAny line z (w ∷ ts) rest) (sym x.is)
      (subst (λ z. SpellsWhereIfAny line (record { test = test_of found.0; paths = paths_among found.0 }) (w ∷ ts) z) (sym x.left_is)
      (where_parts found.0 w ts found.1 is chain (for_some (test_of found.0) x.shallow)))))
      (where-sound-from None [] found.0 found.1 tt (parts_shallow found.0 ts found.1 chain.parts))
  chosen-sound w ts is None e = bind (whole-sound line ts) (λ f rest s. answer _ _ _ (where_expression f w ts rest is (no_chain_read ts e) s))

  pub filter-sound : (ts : List Token) → Gives (read.filter_if_any line ts) (λ f rest. SpellsWhereIfAny line f ts rest)
  unfolding read.filter_if_any read.condition_read
  filter-sound ts =
      bind (ate_keyword word.Where ts) (λ is_there left c. by_test _ _ is_there left _
      (λ yes. (
      let x = c.there yes in
      later _ _ (λ f rest s. subst (λ z. SpellsWhereIfAny line f z rest) (sym x.1) s) (chosen-sound x.0 left x.2 (read.conjuncts line left) refl)))
      (λ none. answer _ _ _ (subst (λ z. SpellsWhereIfAny line read.no_where z left) (c.absent none) (no_where left))))

  -- ---- what is spelt is read

  pub filter_shortens : (f : Where) (ts rest : List Token) → SpellsWhereIfAny line f ts rest → length rest ≤ length ts
  filter_shortens _ _ rest (no_where _) = omega arith
  filter_shortens _ _ rest (where_parts ps w ts _ is chain shallow) = let x = parts_shorten line ps ts rest chain.parts in omega (arith, x)
  filter_shortens _ _ rest (where_expression e w ts _ is none s) = let x = (whole_reads line e ts rest s).shortens in omega (arith, x)

  pub filter_reads : (f : Where) (ts rest : List Token) → SpellsWhereIfAny line f ts rest → ends_clause (kind_ahead rest) ≡ true →
      read.filter_if_any line ts ≡ Some (f, rest)
  unfolding read.filter_if_any read.condition_read
  filter_reads _ _ rest (no_where _) stop = after _ (leaves_keyword word.Where rest (no_filter_after (kind_ahead rest) stop)) refl
  filter_reads _ _ rest (where_parts ps w ts _ is chain shallow) stop =
      after _ (eats_keyword word.Where w ts is)
      (ap (λ o. read.where_by line o ts) (conjuncts_read line ps ts rest chain) ∙ where_reads_from None [] ps rest (shallow_of (test_of ps) shallow))
  filter_reads _ _ rest (where_expression e w ts _ is none s) stop =
      let no_chain : read.conjuncts line ts ≡ None = refuses (read.conjuncts line ts) _ (conjuncts-sound line ts) none in
      after _ (eats_keyword word.Where w ts is)
      (ap (λ o. read.where_by line o ts) no_chain
      ∙ after _ (expression_reads line e ts rest s (whole_ends (kind_ahead rest) (clause_ends_item (kind_ahead rest) stop))) refl)
