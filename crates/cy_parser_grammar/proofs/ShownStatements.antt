-- The tokens of a statement that is shown spell it, with each column after AS.
use Rattle.std.proofs.Common.{◌≡◌, ℕ, Bool, true, false, not, ◌&&◌, IsTrue, List, [], ◌∷◌, ◌++◌, map, refl, sym, ap, ◌∙◌, subst}
use Rattle.cy_lexer.specs.declared.tokens.Token.{Token}
use Rattle.cy_lexer.specs.declared.keywords.Keyword.TheVariants as keyword
use Rattle.cy_trees.specs.Trees.{Clause, «match», unwind, «with», «return», create, set, remove, delete, Query, Statement}
use Rattle.cy_trees.specs.Show.{Piece, space, says, each_after, separated, clause_pieces, query_pieces, union_pieces, statement_pieces}
use Rattle.cy_parser_grammar.specs.Shown.{named_clause, named_query, with_columns}
use Rattle.cy_parser_grammar.specs.SpellsClauses.{ClausePhase, reading, updating, ended, phase_after, may_follow, updates, reads_alone, is_after_where, ends_where, nothing_more, SpellsQuery, no_more_clauses, next_clause, SpellsReading, SpellsUnion, union, union_all, SpellsFurther, no_further, further, SpellsStatement, one_query, union_of}
use Rattle.cy_parser_grammar.specs.internal.Reader.{kind_ahead}
use Rattle.cy_parser_grammar.specs.internal.WellFormed.{Every, ClausesAreWellFormed, QueryIsWellFormed, ReadingIsWellFormed, QueriesAreWellFormed, StatementIsWellFormed}
use Rattle.cy_parser_grammar.proofs.Follows.{ends_clause, opening_ends}
use Rattle.cy_parser_grammar.proofs.ClausesComplete.{opening_for, clause_opens}
use Rattle.cy_parser_grammar.proofs.ShownTokens.{Shown, both, at_keyword}
use Rattle.cy_parser_grammar.proofs.ShownClauses.{shown_clause}
use Rattle.cy_parser_grammar.proofs.Stands.{at_end}

-- columns after AS change nothing in the order of clauses
named_phase : (c : Clause) → phase_after (named_clause c) ≡ phase_after c
named_phase («match» optional paths f) = refl
named_phase _ = refl

named_follow : (s : ClausePhase) (c : Clause) → may_follow s (named_clause c) ≡ may_follow s c
named_follow reading c = refl
named_follow ended c = refl
named_follow updating («match» optional paths f) = refl
named_follow updating (unwind e v) = refl
named_follow updating («with» p f) = refl
named_follow updating («return» p) = refl
named_follow updating (create paths) = refl
named_follow updating (set is) = refl
named_follow updating (remove is) = refl
named_follow updating (delete detach vs) = refl

named_updates : (c : Clause) → updates (named_clause c) ≡ updates c
named_updates («match» optional paths f) = refl
named_updates _ = refl

named_reads : (cs : List Clause) → reads_alone (map named_clause cs) ≡ reads_alone cs
named_reads [] = refl
named_reads (c ∷ cs) = ap (λ b. not b && reads_alone (map named_clause cs)) (named_updates c) ∙ ap (λ b. not (updates c) && b) (named_reads cs)

-- a WHERE ends where a clause does
where_ends : (ts : List Token) → ends_clause (kind_ahead ts) ≡ true → IsTrue (ends_where ts)
where_ends [] e = refl
where_ends (t ∷ ts) e = e

module _ (line : List ℕ) where
  -- ---- queries

  query_ends : (s : ClausePhase) (cs : List Clause) (ts rest : List Token) → SpellsQuery line s cs ts rest → IsTrue (ends_where rest) → IsTrue (ends_where ts)
  query_ends s _ ts _ (no_more_clauses _ _ may) ends = ends
  query_ends s _ ts rest (next_clause _ c cs _ mid _ may spelt others) ends = where_ends ts (opening_ends (kind_ahead ts) (opening_for c) (clause_opens line c ts mid spelt))

  shown_clauses : (st : ClausePhase) (cs : List Clause) (ts rest : List Token) → ClausesAreWellFormed st cs → IsTrue (ends_where rest) →
      Shown line (each_after (space ∷ []) (map clause_pieces cs)) ts rest → SpellsQuery line st (map named_clause cs) ts rest
  shown_clauses st [] ts rest w ends s = at_end line (λ us. SpellsQuery line st [] us rest) ts rest s (no_more_clauses st rest w)
  shown_clauses st (c ∷ cs) ts rest w ends s =
      let x = both line (clause_pieces c) (each_after (space ∷ []) (map clause_pieces cs)) ts rest s in
      let others : SpellsQuery line (phase_after c) (map named_clause cs) x.0 rest = shown_clauses (phase_after c) cs x.0 rest w.2 ends x.2 in
      next_clause st (named_clause c) (map named_clause cs) ts x.0 rest (named_follow st c ∙ w.0)
      (shown_clause line c ts x.0 w.1 (query_ends (phase_after c) (map named_clause cs) x.0 rest others ends) x.1)
      (subst (λ z. SpellsQuery line z (map named_clause cs) x.0 rest) (sym (named_phase c)) others)

  -- spaces are no words
  shown_separated : (pss : List (List Piece)) (ts rest : List Token) → Shown line (separated (space ∷ []) pss) ts rest → Shown line (each_after (space ∷ []) pss) ts rest
  shown_separated [] ts rest s = s
  shown_separated (ps ∷ pss) ts rest s = s

  shown_query : (q : Query) (ts rest : List Token) → QueryIsWellFormed q → IsTrue (ends_where rest) → Shown line (query_pieces q) ts rest →
      SpellsQuery line reading (map named_clause q.clauses) ts rest
  shown_query q ts rest w ends s = shown_clauses reading q.clauses ts rest w ends (shown_separated (map clause_pieces q.clauses) ts rest s)

  -- ---- unions

  shown_reading : (q : Query) (ts rest : List Token) → ReadingIsWellFormed q → IsTrue (ends_where rest) → Shown line (query_pieces q) ts rest →
      SpellsReading line (named_query q) ts rest
  shown_reading q ts rest w ends s = record { spelt = shown_query q ts rest w.0 ends s; reads = named_reads q.clauses ∙ w.1 }

  shown_union : (all : Bool) (ts rest : List Token) → Shown line (union_pieces all) ts rest → SpellsUnion all ts rest
  shown_union false ts rest s =
      at_keyword line (λ us. SpellsUnion false us rest) keyword.Union (space ∷ []) ts rest s (λ t mid is after.
      at_end line (λ us. SpellsUnion false (t ∷ us) rest) mid rest after (union t rest is))
  shown_union true ts rest s =
      at_keyword line (λ us. SpellsUnion true us rest) keyword.Union (space ∷ says keyword.All ∷ space ∷ []) ts rest s (λ t mid is after.
      at_keyword line (λ us. SpellsUnion true (t ∷ us) rest) keyword.All (space ∷ []) mid rest after (λ all from is_all last_.
      at_end line (λ us. SpellsUnion true (t ∷ all ∷ us) rest) from rest last_ (union_all t all rest is is_all)))

  union_ends : (all : Bool) (ts from : List Token) → SpellsUnion all ts from → IsTrue (ends_where ts)
  union_ends _ _ from (union t _ is) = ap is_after_where is
  union_ends _ _ from (union_all t all _ is is_all) = ap is_after_where is

  further_end : (all : Bool) (qs : List Query) (ts : List Token) → SpellsFurther line all qs ts [] → IsTrue (ends_where ts)
  further_end all _ _ (no_further _) = refl
  further_end all _ ts (further q qs _ from mid _ u r others) = union_ends all ts from u

  shown_further : (all : Bool) (qs : List Query) (ts : List Token) → Every ReadingIsWellFormed qs → Shown line (each_after (union_pieces all) (map query_pieces qs)) ts [] →
      SpellsFurther line all (map named_query qs) ts []
  shown_further all [] ts w s = at_end line (λ us. SpellsFurther line all [] us []) ts [] s (no_further [])
  shown_further all (q ∷ qs) ts w s =
      let x = both line (union_pieces all) (query_pieces q ++ each_after (union_pieces all) (map query_pieces qs)) ts [] s in
      let y = both line (query_pieces q) (each_after (union_pieces all) (map query_pieces qs)) x.0 [] x.2 in
      let others : SpellsFurther line all (map named_query qs) y.0 [] = shown_further all qs y.0 w.1 y.2 in
      further (named_query q) (map named_query qs) ts x.0 y.0 [] (shown_union all ts x.0 x.1)
      (shown_reading q x.0 y.0 w.0 (further_end all (map named_query qs) y.0 others) y.1) others

  -- ---- statements

  shown_queries : (qs : List Query) (all : Bool) (ts : List Token) → QueriesAreWellFormed qs all → Shown line (separated (union_pieces all) (map query_pieces qs)) ts [] →
      SpellsStatement line (record { queries = map named_query qs; all = all }) ts
  shown_queries [] all ts w s = absurd w
  shown_queries (q ∷ []) all ts w s =
      let x = both line (query_pieces q) [] ts [] s in
      at_end line (λ us. Shown line (query_pieces q) ts us → SpellsStatement line (record { queries = named_query q ∷ []; all = all }) ts) x.0 [] x.2 (λ here.
      subst (λ z. SpellsStatement line (record { queries = named_query q ∷ []; all = z }) ts) (sym w.1)
      (one_query (named_query q) ts [] (shown_query q ts [] w.0 refl here) nothing_more)) x.1
  shown_queries (q ∷ second ∷ others) all ts w s =
      let x = both line (query_pieces q) (each_after (union_pieces all) (map query_pieces (second ∷ others))) ts [] s in
      let more : SpellsFurther line all (map named_query (second ∷ others)) x.0 [] = shown_further all (second ∷ others) x.0 w.1 x.2 in
      union_of (named_query q) (named_query second) (map named_query others) all ts x.0 []
      (shown_reading q ts x.0 w.0 (further_end all (map named_query (second ∷ others)) x.0 more) x.1) more nothing_more

  pub shown-statement : (s : Statement) → StatementIsWellFormed s → (ts : List Token) → Shown line (statement_pieces s) ts [] → SpellsStatement line (with_columns s) ts
  shown-statement s w ts here = shown_queries s.queries s.all ts w here
