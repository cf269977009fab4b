-- The tokens of a WHERE that is shown spell it.
use Rattle.std.proofs.Common.{◌≡◌, ℕ, ◌≤◌, Bool, true, false, IsTrue, List, [], ◌∷◌, ◌++◌, map, Option, Some, None, refl, sym, ap, subst, arith}
use Rattle.cy_lexer.specs.declared.tokens.Token.{Token}
use Rattle.cy_lexer.specs.declared.keywords.Keyword.TheVariants as keyword
use Rattle.cy_trees.specs.Trees.{Expression, Path, PathTest, Where}
use Rattle.cy_trees.specs.Depth.{depth}
use Rattle.cy_trees.specs.Show.{space, bracketed, each_after, expression_pieces, path_pieces, denied_pieces, and_pieces, path_test_pieces, where_pieces, filter_pieces}
use Rattle.cy_parser_grammar.specs.Spells.{Spells, negation, IsKeyword}
use Rattle.cy_parser_grammar.specs.SpellsClauses.{most_levels, Part, condition, path_test, SpellsPathTest, path_there, no_path_in_brackets, SpellsPart, path_part, condition_part, SpellsParts, last_part, next_part, SpellsChain, SpellsWhereIfAny, no_where, where_parts, where_expression, has_step, paths_among, test_after, test_of, is_after_part, ends_where, ends_part}
use Rattle.cy_parser_grammar.specs.internal.WellFormed.{IsWhole, Every, IfAny, PathIsWellFormed, PathTestIsWellFormed, WhereIsWellFormed}
use Rattle.cy_parser_grammar.proofs.ConditionParts.{part_ends, lone_condition}
use Rattle.cy_parser_grammar.proofs.Conditions.{IsShallow, for_some}
use Rattle.cy_parser_grammar.proofs.NoPath.{expression-no_path}
use Rattle.cy_parser_grammar.proofs.ShownTokens.{Shown, both, at_keyword, in_brackets}
use Rattle.cy_parser_grammar.proofs.ShownExpressions.{shown-negation}
use Rattle.cy_parser_grammar.proofs.ShownPatterns.{shown_expression, shown_path}
use Rattle.cy_parser_grammar.proofs.Stands.{at_end}

-- what the paths of a WHERE make
tests_alone : (before : Option Expression) (ts : List PathTest) → test_after before (map path_test ts) ≡ before
tests_alone before [] = refl
tests_alone before (t ∷ ts) = tests_alone before ts

paths_are : (ts : List PathTest) → paths_among (map path_test ts) ≡ ts
paths_are [] = refl
paths_are (t ∷ ts) = ap (λ z. t ∷ z) (paths_are ts)

ends_at_and : (t : Token) (ts : List Token) → IsKeyword keyword.And t → IsTrue (ends_part (t ∷ ts))
ends_at_and t ts is = ap is_after_part is

module _ (line : List ℕ) where
  -- ---- paths

  shown_denied : (b : Bool) (p : Path) (ts rest : List Token) → PathIsWellFormed p → IsTrue (has_step p) → Shown line (denied_pieces b (path_pieces p)) ts rest →
      SpellsPathTest line (record { denied = b; path = p }) ts rest
  shown_denied false p ts rest w steps s = path_there p ts rest (shown_path line p ts rest w s) steps
  shown_denied true p ts rest w steps s =
      at_keyword line (λ us. SpellsPathTest line (record { denied = true; path = p }) us rest) keyword.Not (space ∷ bracketed (path_pieces p)) ts rest s (λ negated mid is after.
      in_brackets line (λ us. SpellsPathTest line (record { denied = true; path = p }) (negated ∷ us) rest) (path_pieces p) mid rest after (λ opening closing inside opens closes here.
      no_path_in_brackets p negated opening closing inside rest is opens (shown_path line p inside (closing ∷ rest) w here) steps closes))

  shown_test : (t : PathTest) (ts rest : List Token) → PathTestIsWellFormed t → IsTrue (ends_part rest) → Shown line (path_test_pieces t) ts rest → SpellsPart line (path_test t) ts rest
  shown_test t ts rest w ends s = path_part t ts rest (shown_denied t.denied t.path ts rest w.path w.steps s) ends

  shown_tests : (t : PathTest) (more : List PathTest) (ts rest : List Token) → PathTestIsWellFormed t → Every PathTestIsWellFormed more → IsTrue (ends_where rest) →
      Shown line (path_test_pieces t ++ each_after and_pieces (map path_test_pieces more)) ts rest → SpellsParts line (map path_test (t ∷ more)) ts rest
  shown_tests t [] ts rest w are ends s =
      let x = both line (path_test_pieces t) [] ts rest s in
      at_end line (λ us. Shown line (path_test_pieces t) ts us → SpellsParts line (map path_test (t ∷ [])) ts rest) x.0 rest x.2 (λ here.
      last_part (path_test t) ts rest (shown_test t ts rest w (part_ends rest ends) here)) x.1
  shown_tests t (u ∷ more) ts rest w are ends s =
      let x = both line (path_test_pieces t) (each_after and_pieces (map path_test_pieces (u ∷ more))) ts rest s in
      at_keyword line (λ us. Shown line (path_test_pieces t) ts us → SpellsParts line (map path_test (t ∷ u ∷ more)) ts rest) keyword.And
      (space ∷ (path_test_pieces u ++ each_after and_pieces (map path_test_pieces more))) x.0 rest x.2 (λ and mid is after here.
      next_part (path_test t) (map path_test (u ∷ more)) and ts mid rest (shown_test t ts (and ∷ mid) w (ends_at_and and mid is) here) is
      (shown_tests u more mid rest are.0 are.1 ends after)) x.1

  -- ---- the condition

  shown_conjunct : (e : Expression) (ts rest : List Token) → IsWhole e → Shown line (expression_pieces e) ts rest → Spells line most_levels negation e ts rest
  shown_conjunct e ts rest w s =
      let shallow : depth e ≤ 64 = w.1 in
      shown-negation line e w.0 most_levels (omega (arith, shallow)) ts rest s

  -- ---- a WHERE

  chained : (ps : List Part) (w : Where) (where_ : Token) (ts rest : List Token) → IsKeyword keyword.Where where_ → SpellsChain line ps ts rest →
      test_of ps ≡ w.test → paths_among ps ≡ w.paths → IsShallow w.test → SpellsWhereIfAny line w (where_ ∷ ts) rest
  chained ps w where_ ts rest is chain same paths_same shallow =
      subst (λ z. SpellsWhereIfAny line (record { test = z; paths = w.paths }) (where_ ∷ ts) rest) same
      (subst (λ z. SpellsWhereIfAny line (record { test = test_of ps; paths = z }) (where_ ∷ ts) rest) paths_same
      (where_parts ps where_ ts rest is chain (for_some (test_of ps) (subst IsShallow (sym same) shallow))))

  shown_parts : (test : Option Expression) (tests : List PathTest) (ts rest : List Token) → IfAny IsWhole test → Every PathTestIsWellFormed tests → IsTrue (ends_where rest) →
      Shown line (where_pieces test tests) ts rest → SpellsWhereIfAny line (record { test = test; paths = tests }) ts rest
  shown_parts None [] ts rest w are ends s = at_end line (λ us. SpellsWhereIfAny line (record { test = None; paths = [] }) us rest) ts rest s (no_where rest)
  shown_parts None (t ∷ more) ts rest w are ends s =
      at_keyword line (λ us. SpellsWhereIfAny line (record { test = None; paths = t ∷ more }) us rest) keyword.Where
      (space ∷ (path_test_pieces t ++ each_after and_pieces (map path_test_pieces more))) ts rest s (λ where_ mid is after.
      chained (map path_test (t ∷ more)) (record { test = None; paths = t ∷ more }) where_ mid rest is
      (record { parts = shown_tests t more mid rest are.0 are.1 ends after; ends = ends; has_path = refl }) (tests_alone None (t ∷ more)) (paths_are (t ∷ more)) tt)
  shown_parts (Some e) [] ts rest w are ends s =
      at_keyword line (λ us. SpellsWhereIfAny line (record { test = Some e; paths = [] }) us rest) keyword.Where (space ∷ (expression_pieces e ++ [])) ts rest s (λ where_ mid is after.
      let x = both line (expression_pieces e) [] mid rest after in
      at_end line (λ us. Shown line (expression_pieces e) mid us → SpellsWhereIfAny line (record { test = Some e; paths = [] }) (where_ ∷ mid) rest) x.0 rest x.2 (λ here.
      where_expression e where_ mid rest is
      (lone_condition line e mid rest (expression-no_path line e mid rest w.0 here (part_ends rest ends)) (shown_conjunct e mid rest w here) w.1 ends)
      (shown_expression line e mid rest w here)) x.1)
  shown_parts (Some e) (t ∷ more) ts rest w are ends s =
      at_keyword line (λ us. SpellsWhereIfAny line (record { test = Some e; paths = t ∷ more }) us rest) keyword.Where
      (space ∷ (expression_pieces e ++ each_after and_pieces (map path_test_pieces (t ∷ more)))) ts rest s (λ where_ mid is after.
      let x = both line (expression_pieces e) (each_after and_pieces (map path_test_pieces (t ∷ more))) mid rest after in
      at_keyword line (λ us. Shown line (expression_pieces e) mid us → SpellsWhereIfAny line (record { test = Some e; paths = t ∷ more }) (where_ ∷ mid) rest) keyword.And
      (space ∷ (path_test_pieces t ++ each_after and_pieces (map path_test_pieces more))) x.0 rest x.2 (λ and from goes_on further here.
      let ended = ends_at_and and from goes_on in
      chained (condition e ∷ map path_test (t ∷ more)) (record { test = Some e; paths = t ∷ more }) where_ mid rest is
      (record {
        parts = next_part (condition e) (map path_test (t ∷ more)) and mid from rest
            (condition_part e mid (and ∷ from) (expression-no_path line e mid (and ∷ from) w.0 here ended) (shown_conjunct e mid (and ∷ from) w here) w.1 ended) goes_on
            (shown_tests t more from rest are.0 are.1 ends further);
        ends = ends;
        has_path = refl;
      }) (tests_alone (Some e) (t ∷ more)) (paths_are (t ∷ more)) w.1) x.1)

  pub shown_where : (f : Where) (ts rest : List Token) → WhereIsWellFormed f → IsTrue (ends_where rest) → Shown line (filter_pieces f) ts rest → SpellsWhereIfAny line f ts rest
  shown_where f ts rest w ends s = shown_parts f.test f.paths ts rest w.test w.paths ends s
