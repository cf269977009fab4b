-- Queries and statements that are spelt are read.
use Rattle.std.proofs.Common.{◌≡◌, ℕ, zero, suc, ◌≤◌, Bool, true, false, IsTrue, List, [], ◌∷◌, ◌++◌, length, Option, Some, None, refl, sym, ap, ◌∙◌, append_assoc, append-nil, arith}
use Rattle.cy_values.proofs.Booleans.{both_first, both_second}
use Rattle.cy_lexer.specs.declared.tokens.Token.{Token}
use Rattle.cy_lexer.specs.declared.tokens.TokenKind.{TokenKind}
use Rattle.cy_lexer.specs.declared.tokens.TokenKind.TheVariants as kind
use Rattle.cy_lexer.specs.declared.keywords.Keyword.TheVariants as word
use Rattle.cy_lexer.specs.declared.symbols.Symbol.TheVariants as sign
use Rattle.cy_parser_grammar.specs.declared.phases.Opening.{Opening}
use Rattle.cy_trees.specs.Trees.{Clause, Query, Statement}
use Rattle.cy_parser_grammar.specs.internal.Reader.{at_kind, and_then, kind_ahead, is_keyword, eat_keyword, ◌>>◌, pure}
use Rattle.cy_parser_grammar.specs.internal.Clauses as read
use Rattle.cy_parser_grammar.specs.SpellsClauses as spells
use Rattle.cy_parser_grammar.specs.SpellsClauses.{SpellsQuery, SpellsReading, SpellsUnion, SpellsFurther, SpellsEnd, SpellsStatement}
use Rattle.cy_parser_grammar.proofs.Takes.{after, then_branch, eats_symbol, leaves_symbol, eats_keyword, leaves_keyword, expects_keyword, answers_one}
use Rattle.cy_parser_grammar.proofs.Follows.{at_keyword, ends_clause, opening_ends}
use Rattle.cy_parser_grammar.proofs.PatternsComplete.{at_symbol}
use Rattle.cy_parser_grammar.proofs.ClausesComplete.{phase_of, opening_for, leads, ends_as, clause_opens, clause_shortens, clause_in_reads}

-- ---- the end

end_follows : (ts : List Token) → SpellsEnd ts → ends_clause (kind_ahead ts) ≡ true
end_follows _ (spells.nothing_more) = refl
end_follows _ (spells.semicolon t is) = at_symbol ends_clause sign.Semicolon true t is refl

end_opens_nothing : (ts : List Token) → SpellsEnd ts → at_kind read.opening_of (kind_ahead ts) ≡ None
end_opens_nothing _ (spells.nothing_more) = refl
end_opens_nothing _ (spells.semicolon t is) = ap read.opening_of is

no_union_at_end : (ts : List Token) → SpellsEnd ts → is_keyword word.Union (kind_ahead ts) ≡ false
no_union_at_end _ (spells.nothing_more) = refl
no_union_at_end _ (spells.semicolon t is) = at_symbol (is_keyword word.Union) sign.Semicolon false t is refl

end_reads : (ts : List Token) → SpellsEnd ts → read.end_read ts ≡ Some (tt, [])
unfolding read.end_read
end_reads _ (spells.nothing_more) = after _ (leaves_symbol sign.Semicolon [] refl) refl
end_reads _ (spells.semicolon t is) = after _ (eats_symbol sign.Semicolon t [] is) refl

-- ---- UNION

union_shortens : (all : Bool) (ts from : List Token) → SpellsUnion all ts from → suc (length from) ≤ length ts
union_shortens _ _ from (spells.union t _ is) = omega arith
union_shortens _ _ from (spells.union_all t all _ is is_all) = omega arith

-- what comes after a query: no clause, but the end, or UNION
record EndsQuery (ts : List Token) : Type 0 where
  pub opens : at_kind read.opening_of (kind_ahead ts) ≡ None
  pub ends : ends_clause (kind_ahead ts) ≡ true

end_ends : (ts : List Token) → SpellsEnd ts → EndsQuery ts
end_ends ts e = record { opens = end_opens_nothing ts e; ends = end_follows ts e }

union_ends : (all : Bool) (ts from : List Token) → SpellsUnion all ts from → EndsQuery ts
union_ends _ _ from (spells.union t _ is) = record { opens = ap read.opening_of is; ends = at_keyword ends_clause word.Union true t is refl }
union_ends _ _ from (spells.union_all t all _ is is_all) = record { opens = ap read.opening_of is; ends = at_keyword ends_clause word.Union true t is refl }

no_all_at : (k : Option TokenKind) (o : Opening) → at_kind read.opening_of k ≡ Some o → is_keyword word.All k ≡ false
no_all_at (Some (kind.Keyword word.All)) o e = cc
no_all_at _ o e = refl

module _ (line : List ℕ) where
  -- ---- queries

  query_shortens : (s : spells.ClausePhase) (cs : List Clause) (ts rest : List Token) → SpellsQuery line s cs ts rest → length rest ≤ length ts
  query_shortens s _ ts _ (spells.no_more_clauses _ _ may) = omega arith
  query_shortens s _ ts rest (spells.next_clause _ c cs _ mid _ may spelt others) =
      let x = clause_shortens line c ts mid spelt in
      let y = query_shortens (spells.phase_after c) cs mid rest others in
      omega (arith, x, y)

  query_follows : (s : spells.ClausePhase) (cs : List Clause) (ts rest : List Token) → SpellsQuery line s cs ts rest → EndsQuery rest → ends_clause (kind_ahead ts) ≡ true
  query_follows s _ ts _ (spells.no_more_clauses _ _ may) e = e.ends
  query_follows s _ ts rest (spells.next_clause _ c cs _ mid _ may spelt others) e = opening_ends (kind_ahead ts) (opening_for c) (clause_opens line c ts mid spelt)

  no_all_before : (cs : List Clause) (ts rest : List Token) → SpellsQuery line spells.reading cs ts rest → is_keyword word.All (kind_ahead ts) ≡ false
  no_all_before _ ts _ (spells.no_more_clauses _ _ may) = cc
  no_all_before _ ts rest (spells.next_clause _ c cs _ mid _ may spelt others) = no_all_at (kind_ahead ts) (opening_for c) (clause_opens line c ts mid spelt)

  clauses_end : (s : spells.ClausePhase) (found : List Clause) (ts : List Token) → IsTrue (spells.may_end s) →
      (read.query_ended (phase_of s) >> pure found) ts ≡ Some (found ++ [], ts)
  unfolding read.query_ended
  clauses_end s found ts may =
      after _ (then_branch _ _ (read.may_end (phase_of s)) ts (ends_as s ∙ may)) (ap (λ z. Some (z, ts)) (sym (append-nil found)))

  clauses_read_from : (k : ℕ) (later : Bool) (s : spells.ClausePhase) (found cs : List Clause) (ts rest : List Token) → SpellsQuery line s cs ts rest →
      (later ≡ true → IsTrue (spells.reads_alone cs)) → EndsQuery rest → length ts ≤ k → read.clauses_from line k later (phase_of s) found ts ≡ Some (found ++ cs, rest)
  unfolding read.clauses_from
  clauses_read_from zero later s found _ ts _ (spells.no_more_clauses _ _ may) reads e few = clauses_end s found ts may
  clauses_read_from (suc k) later s found _ ts _ (spells.no_more_clauses _ _ may) reads e few = after _ refl (rw e.opens (clauses_end s found ts may))
  clauses_read_from zero later s found _ ts rest (spells.next_clause _ c cs _ mid _ may spelt others) reads e few =
      let x = clause_shortens line c ts mid spelt in absurd (omega (arith, x, few))
  clauses_read_from (suc k) later s found _ ts rest (spells.next_clause _ c cs _ mid _ may spelt others) reads e few =
      let x = clause_shortens line c ts mid spelt in
      let fewer : length mid ≤ k = omega (arith, x, few) in
      let stop : ends_clause (kind_ahead mid) ≡ true = query_follows (spells.phase_after c) cs mid rest others e in
      after _ refl (rw (clause_opens line c ts mid spelt)
      (after _ (clause_in_reads line later s c ts mid may (λ h. both_first _ _ (reads h)) spelt stop) (rw (leads c)
      (clauses_read_from k later (spells.phase_after c) (found ++ c ∷ []) cs mid rest others (λ h. both_second _ _ (reads h)) e fewer ∙ ap (λ z. Some (z, rest)) (append_assoc found (c ∷ []) cs)))))

  query_reads : (later : Bool) (q : Query) (ts rest : List Token) → SpellsQuery line spells.reading q.clauses ts rest →
      (later ≡ true → IsTrue (spells.reads_alone q.clauses)) → EndsQuery rest → read.query line later ts ≡ Some (q, rest)
  unfolding read.query read.clauses
  query_reads later q ts rest spelt reads e = after _ (clauses_read_from (length ts) later spells.reading [] q.clauses ts rest spelt reads e (omega arith)) refl

  reading_reads : (q : Query) (ts rest : List Token) → SpellsReading line q ts rest → EndsQuery rest → read.query line true ts ≡ Some (q, rest)
  reading_reads q ts rest s e = query_reads true q ts rest s.spelt (λ h. s.reads) e

  -- ---- unions

  further_ends : (all : Bool) (qs : List Query) (ts rest : List Token) → SpellsFurther line all qs ts rest → SpellsEnd rest → EndsQuery ts
  further_ends all _ ts _ (spells.no_further _) e = end_ends ts e
  further_ends all _ ts rest (spells.further q qs _ from mid _ u r others) e = union_ends all ts from u

  queries_read_from : (k : ℕ) (all : Bool) (found qs : List Query) (ts rest : List Token) → SpellsFurther line all qs ts rest → SpellsEnd rest → length ts ≤ k →
      read.queries_from line k all found ts ≡ Some (found ++ qs, rest)
  unfolding read.queries_from read.same_union
  queries_read_from zero all found _ ts _ (spells.no_further _) e few = ap (λ z. Some (z, ts)) (sym (append-nil found))
  queries_read_from (suc k) all found _ ts _ (spells.no_further _) e few =
      after _ (leaves_keyword word.Union ts (no_union_at_end ts e)) (ap (λ z. Some (z, ts)) (sym (append-nil found)))
  queries_read_from zero all found _ ts rest (spells.further q qs _ from mid _ u r others) e few =
      let x = union_shortens all ts from u in absurd (omega (arith, x, few))
  queries_read_from (suc k) _ found _ _ rest (spells.further q qs _ from mid _ (spells.union t _ is) r others) e few =
      let y = query_shortens spells.reading q.clauses from mid r.spelt in
      let fewer : length mid ≤ k = omega (arith, few, y) in
      after _ (eats_keyword word.Union t from is) (after _ refl (after _ (reading_reads q from mid r (further_ends false qs mid rest others e))
      (queries_read_from k false (found ++ q ∷ []) qs mid rest others e fewer ∙ ap (λ z. Some (z, rest)) (append_assoc found (q ∷ []) qs))))
  queries_read_from (suc k) _ found _ _ rest (spells.further q qs _ from mid _ (spells.union_all t all_ _ is is_all) r others) e few =
      let y = query_shortens spells.reading q.clauses from mid r.spelt in
      let fewer : length mid ≤ k = omega (arith, few, y) in
      after _ (eats_keyword word.Union t (all_ ∷ from) is) (after _ (expects_keyword word.All all_ from is_all) (after _ (reading_reads q from mid r (further_ends true qs mid rest others e))
      (queries_read_from k true (found ++ q ∷ []) qs mid rest others e fewer ∙ ap (λ z. Some (z, rest)) (append_assoc found (q ∷ []) qs))))

  abbrev union_tree : Bool → List Query → Statement
  union_tree all qs = record { queries = qs; all = all }

  -- the queries after the first UNION
  second_reads : (all : Bool) (first second : Query) (others : List Query) (left mid rest : List Token) → SpellsReading line second left mid →
      SpellsFurther line all others mid rest → SpellsEnd rest →
      and_then (read.query line true left) (λ q after_it. and_then (read.queries_from line (length after_it) all (first ∷ q ∷ []) after_it)
      (λ qs. pure (union_tree all qs))) ≡ Some (union_tree all (first ∷ second ∷ others), rest)
  second_reads all first second others left mid rest r others_spelt e =
      after _ (reading_reads second left mid r (further_ends all others mid rest others_spelt e))
      (after _ (queries_read_from (length mid) all (first ∷ second ∷ []) others mid rest others_spelt e (omega arith)) refl)

  union_reads : (all : Bool) (first second : Query) (others : List Query) (ts rest : List Token) → SpellsFurther line all (second ∷ others) ts rest → SpellsEnd rest →
      (from : List Token) × (eat_keyword word.Union ts ≡ Some (true, from)) × (read.union_read line first from ≡ Some (record { queries = first ∷ second ∷ others; all = all }, rest))
  unfolding read.union_read
  union_reads _ first second others _ rest (spells.further _ _ _ from mid _ (spells.union t _ is) r more) e = (
    from,
    eats_keyword word.Union t from is,
    after _ (leaves_keyword word.All from (no_all_before second.clauses from mid r.spelt)) (second_reads false first second others from mid rest r more e),
  )
  union_reads _ first second others _ rest (spells.further _ _ _ from mid _ (spells.union_all t all_ _ is is_all) r more) e = (
    all_ ∷ from,
    eats_keyword word.Union t (all_ ∷ from) is,
    after _ (eats_keyword word.All all_ from is_all) (second_reads true first second others from mid rest r more e),
  )

  -- ---- statements

  queries_read : (s : Statement) (ts : List Token) → SpellsStatement line s ts → (rest : List Token) × SpellsEnd rest × (read.queries line ts ≡ Some (s, rest))
  unfolding read.queries read.union_of
  queries_read _ ts (spells.one_query q _ rest s e) = (
    rest,
    e,
    after _ (query_reads false q ts rest s (λ h. cc) (end_ends rest e)) (after _ (leaves_keyword word.Union rest (no_union_at_end rest e)) refl),
  )
  queries_read _ ts (spells.union_of first second others all _ mid rest r more e) =
      let u = union_reads all first second others mid rest more e in (
        rest,
        e,
        after _ (query_reads false first ts mid r.spelt (λ h. cc) (further_ends all (second ∷ others) mid rest more e))
            (after _ u.1 (then_branch _ _ (spells.reads_alone first.clauses) u.0 r.reads ∙ u.2)),
      )

  pub statement-complete : (s : Statement) (ts : List Token) → SpellsStatement line s ts → read.statement line ts ≡ Some (s, [])
  unfolding read.statement
  statement-complete s ts spelt = let x = queries_read s ts spelt in after _ x.2 (after _ (end_reads x.0 x.1) refl)

  -- tokens spell one statement at most
  pub statement-unique : (s other : Statement) (ts : List Token) → SpellsStatement line s ts → SpellsStatement line other ts → s ≡ other
  statement-unique s other ts of_one of_other =
      answers_one (read.statement line ts) s other [] [] (statement-complete s ts of_one) (statement-complete other ts of_other)

  -- no tokens spell no statement
  nothing_spelt : (cs : List Clause) (ts rest : List Token) → SpellsQuery line spells.reading cs ts rest → length ts ≡ 0 → ⊥
  nothing_spelt _ ts _ (spells.no_more_clauses _ _ may) none = cc
  nothing_spelt _ ts rest (spells.next_clause _ c cs _ mid _ may spelt others) none = let x = clause_shortens line c ts mid spelt in omega (arith, x, none)

  pub statement-some : (s : Statement) (ts : List Token) → SpellsStatement line s ts → length ts ≡ 0 → ⊥
  statement-some _ ts (spells.one_query q _ rest s e) none = nothing_spelt q.clauses ts rest s none
  statement-some _ ts (spells.union_of first second others all _ mid rest r more e) none = nothing_spelt first.clauses ts mid r.spelt none
