-- What is read spells what is answered: queries and statements.
use Rattle.std.proofs.Common.{◌≡◌, ℕ, zero, suc, Bool, true, false, not, ◌&&◌, IsTrue, List, [], ◌∷◌, ◌++◌, length, None, refl, sym, ap, ◌∙◌, subst, append_assoc, append-nil, if◌then◌else◌}
use Rattle.cy_values.proofs.Booleans.{both_first, both_second}
use Rattle.cy_lexer.specs.declared.tokens.Token.{Token}
use Rattle.cy_lexer.specs.declared.keywords.Keyword.TheVariants as word
use Rattle.cy_lexer.specs.declared.symbols.Symbol.TheVariants as sign
use Rattle.cy_parser_grammar.specs.declared.phases.Opening.{Opening}
use Rattle.cy_parser_grammar.specs.declared.phases.ClausePhase.{ClausePhase}
use Rattle.cy_parser_grammar.specs.declared.phases.ClausePhase.TheVariants as phase
use Rattle.cy_trees.specs.Trees.{Clause, Query, Statement}
use Rattle.cy_parser_grammar.specs.internal.Reader.{at_kind, kind_ahead, ◌>>◌, pure}
use Rattle.cy_parser_grammar.specs.internal.Clauses as read
use Rattle.cy_parser_grammar.specs.SpellsClauses as spells
use Rattle.cy_parser_grammar.proofs.Gives.{AteKeyword, AteSymbol, Gives, bind, answer, refused, keyword_there, ate_symbol, ate_keyword, by_test, bind_peek, by_option}
use Rattle.cy_parser_grammar.proofs.Sound.{later}
use Rattle.cy_parser_grammar.proofs.SoundClauses.{spelt_phase, clause_in-sound}

allowed_first : (later_one : Bool) (s : ClausePhase) (o : Opening) → IsTrue (read.is_allowed later_one s o) → read.allows s o ≡ true
allowed_first false s o may = may
allowed_first true s o may = both_first _ _ may

nothing_left-sound : (ts : List Token) → Gives {A = Unit {0}} (read.nothing_left ts) (λ _ rest. (ts ≡ []) × (rest ≡ []))
nothing_left-sound [] = answer _ _ _ (refl, refl)
nothing_left-sound (t ∷ ts) = refused _

semicolon_or_not : (ts mid : List Token) (b : Bool) → AteSymbol sign.Semicolon ts b mid → mid ≡ [] → spells.SpellsEnd ts
semicolon_or_not ts mid true c none =
    let x = c.there refl in
    let one : ts ≡ x.0 ∷ [] = x.1 ∙ ap (λ z. x.0 ∷ z) none in
    subst (λ z. spells.SpellsEnd z) (sym one) (spells.semicolon x.0 x.2)
semicolon_or_not ts mid false c none =
    let empty : [] ≡ ts = sym none ∙ c.absent refl in
    subst (λ z. spells.SpellsEnd z) empty spells.nothing_more

end-sound : (ts : List Token) → Gives (read.end_read ts) (λ _ rest. spells.SpellsEnd ts × (rest ≡ []))
unfolding read.end_read
end-sound ts = bind (ate_symbol sign.Semicolon ts) (λ b mid c. later _ _ (λ _ rest n. (semicolon_or_not ts mid b c n.0, n.1)) (nothing_left-sound mid))

-- UNION, which was read, and ALL after it or not
first_union : (ts from mid : List Token) (b : Bool) → AteKeyword word.Union ts true from → AteKeyword word.All from b mid → spells.SpellsUnion b ts mid
first_union ts from mid true c a =
    let x = c.there refl in
    let y = a.there refl in
    subst (λ z. spells.SpellsUnion true z mid) (sym (x.1 ∙ ap (λ z. x.0 ∷ z) y.1)) (spells.union_all x.0 y.0 mid x.2 y.2)
first_union ts from mid false c a =
    let x = c.there refl in
    subst (λ z. spells.SpellsUnion false z mid) (sym (x.1 ∙ ap (λ z. x.0 ∷ z) (sym (a.absent refl)))) (spells.union x.0 mid x.2)

later_union : (all : Bool) (ts from : List Token) → AteKeyword word.Union ts true from → Gives {A = Unit {0}} (read.same_union all from) (λ _ rest. spells.SpellsUnion all ts rest)
unfolding read.same_union
later_union true ts from c = later _ _ (λ _ rest y. (
    let x = c.there refl in
    subst (λ z. spells.SpellsUnion true z rest) (sym (x.1 ∙ ap (λ z. x.0 ∷ z) y.1)) (spells.union_all x.0 y.0 rest x.2 y.2))) (keyword_there word.All from)
later_union false ts from c = answer _ _ _ (
    let x = c.there refl in
    subst (λ z. spells.SpellsUnion false z from) (sym x.1) (spells.union x.0 from x.2))

module _ (line : List ℕ) where
  ends_as : (s : ClausePhase) → read.may_end s ≡ spells.may_end (spelt_phase line s)
  ends_as phase.Reading = refl
  ends_as phase.Updating = refl
  ends_as phase.Ended = refl

  record FoundClauses (later_one : Bool) (s : ClausePhase) (found : List Clause) (ts : List Token) (all : List Clause) (rest : List Token) : Type 0 where
    pub these : List Clause
    pub all_is : all ≡ found ++ these
    pub spelt : spells.SpellsQuery line (spelt_phase line s) these ts rest
    pub reads : later_one ≡ true → IsTrue (spells.reads_alone these)

  end-found : (later_one : Bool) (s : ClausePhase) (found : List Clause) (ts : List Token) →
      Gives ((read.query_ended s >> pure found) ts) (FoundClauses later_one s found ts)
  unfolding read.query_ended
  end-found later_one s found ts = bind (ended (read.may_end s) refl) (λ _ rest e. answer _ _ _ (record {
    these = [];
    all_is = sym (append-nil found);
    spelt = subst (λ z. spells.SpellsQuery line (spelt_phase line s) [] ts z) (sym e.1) (spells.no_more_clauses (spelt_phase line s) ts e.0);
    reads = λ h. refl;
  }))
    where
      ended : (b : Bool) → read.may_end s ≡ b →
          Gives {A = Unit {0}} ((if b then pure tt else (λ us. None)) ts) (λ _ rest. IsTrue (spells.may_end (spelt_phase line s)) × (rest ≡ ts))
      ended true e = answer _ _ _ (sym (ends_as s) ∙ e, refl)
      ended false e = refused _

  more_read : (later_one : Bool) (s : ClausePhase) (o : Opening) (c : Clause) (cs : List Clause) → IsTrue (read.is_allowed later_one s o) → spells.updates c ≡ read.updates o →
      (later_one ≡ true → IsTrue (spells.reads_alone cs)) → later_one ≡ true → IsTrue (spells.reads_alone (c ∷ cs))
  more_read true s o c cs may same others h =
      let reads : not (spells.updates c) ≡ true = ap (λ b. not b) same ∙ both_second _ _ may in
      ap (λ b. b && spells.reads_alone cs) reads ∙ others h
  more_read false s o c cs may same others h = absurd cc

  clauses-sound-from : (turns : ℕ) (later_one : Bool) (s : ClausePhase) (found : List Clause) (ts : List Token) →
      Gives (read.clauses_from line turns later_one s found ts) (FoundClauses later_one s found ts)
  unfolding read.clauses_from
  clauses-sound-from zero later_one s found ts = end-found later_one s found ts
  clauses-sound-from (suc turns) later_one s found ts = bind_peek _ ts (by_option _ _ (at_kind read.opening_of (kind_ahead ts)) ts _
      (λ none. end-found later_one s found ts)
      (λ o e. bind (clause_in-sound line later_one s o ts e) (λ c mid k. later _ _ (λ all rest g. record {
        these = c ∷ g.these;
        all_is = g.all_is ∙ append_assoc found (c ∷ []) g.these;
        spelt = spells.next_clause (spelt_phase line s) c g.these ts mid rest (k.0.follows ∙ allowed_first later_one s o k.1) k.0.spelt
            (subst (λ z. spells.SpellsQuery line z g.these mid rest) (sym k.0.leads) g.spelt);
        reads = more_read later_one s o c g.these k.1 k.0.writes g.reads;
      }) (clauses-sound-from turns later_one (read.phase_after o) (found ++ c ∷ []) mid))))

  record IsQuery (later_one : Bool) (ts : List Token) (q : Query) (rest : List Token) : Type 0 where
    pub spelt : spells.SpellsQuery line spells.reading q.clauses ts rest
    pub reads : later_one ≡ true → IsTrue (spells.reads_alone q.clauses)

  query-sound : (later_one : Bool) (ts : List Token) → Gives (read.query line later_one ts) (λ q rest. IsQuery later_one ts q rest)
  unfolding read.query read.clauses
  query-sound later_one ts = bind (clauses-sound-from (length ts) later_one phase.Reading [] ts) (λ cs rest g. answer _ _ _ (record {
    spelt = subst (λ z. spells.SpellsQuery line spells.reading z ts rest) (sym g.all_is) g.spelt;
    reads = λ h. subst (λ z. IsTrue (spells.reads_alone z)) (sym g.all_is) (g.reads h);
  }))

  reading-sound : (ts : List Token) → Gives (read.query line true ts) (λ q rest. spells.SpellsReading line q ts rest)
  reading-sound ts = later _ _ (λ q rest x. record { spelt = x.spelt; reads = x.reads refl }) (query-sound true ts)

  record FoundQueries (all : Bool) (found : List Query) (ts : List Token) (qs : List Query) (rest : List Token) : Type 0 where
    pub these : List Query
    pub all_is : qs ≡ found ++ these
    pub spelt : spells.SpellsFurther line all these ts rest

  queries-sound-from : (turns : ℕ) (all : Bool) (found : List Query) (ts : List Token) → Gives (read.queries_from line turns all found ts) (FoundQueries all found ts)
  unfolding read.queries_from
  queries-sound-from zero all found ts = answer _ _ _ (record { these = []; all_is = sym (append-nil found); spelt = spells.no_further ts })
  queries-sound-from (suc turns) all found ts =
      bind (ate_keyword word.Union ts) (λ goes_on from c. by_test _ _ goes_on from _
      (λ yes. bind (later_union all ts from (subst (λ z. AteKeyword word.Union ts z from) yes c)) (λ _ mid u. bind (reading-sound mid) (λ q after r. later _ _ (λ qs rest g. record {
        these = q ∷ g.these;
        all_is = g.all_is ∙ append_assoc found (q ∷ []) g.these;
        spelt = spells.further q g.these ts mid after rest u r g.spelt;
      }) (queries-sound-from turns all (found ++ q ∷ []) after))))
      (λ none. answer _ _ _ (record {
        these = [];
        all_is = sym (append-nil found);
        spelt = subst (λ z. spells.SpellsFurther line all [] z from) (c.absent none) (spells.no_further from);
      })))

  -- what stands up to the tokens `rest` is the statement, if they end it
  record UpTo (ts : List Token) (s : Statement) (rest : List Token) : Type 0 where
    pub spelt : spells.SpellsEnd rest → spells.SpellsStatement line s ts

  union-sound : (first : Query) (ts from mid : List Token) → AteKeyword word.Union mid true from → spells.SpellsReading line first ts mid →
      Gives (read.union_read line first from) (UpTo ts)
  unfolding read.union_read
  union-sound first ts from mid c of_first =
      bind (ate_keyword word.All from) (λ all left a. bind (reading-sound left) (λ second after r. bind (queries-sound-from (length after) all (first ∷ second ∷ []) after) (λ qs rest g. answer _ _ _ (record {
        spelt = λ end. subst (λ z. spells.SpellsStatement line (record { queries = z; all = all }) ts) (sym g.all_is)
            (spells.union_of first second g.these all ts mid rest of_first (spells.further second g.these mid left after rest (first_union mid from left all c a) r g.spelt) end);
      }))))

  queries-sound : (ts : List Token) → Gives (read.queries line ts) (UpTo ts)
  unfolding read.queries read.union_of
  queries-sound ts =
      bind (query-sound false ts) (λ first mid x. bind (ate_keyword word.Union mid) (λ is_union from c. by_test _ _ is_union from _
      (λ yes. by_test _ _ (spells.reads_alone first.clauses) from _
      (λ reads. union-sound first ts from mid (subst (λ z. AteKeyword word.Union mid z from) yes c) (record { spelt = x.spelt; reads = reads }))
      (λ none. refused _))
      (λ none. answer _ _ _ (record {
        spelt = λ end. spells.one_query first ts mid x.spelt (subst (λ z. spells.SpellsEnd z) (c.absent none) end);
      }))))

  pub statement-sound : (ts : List Token) → Gives (read.statement line ts) (λ s rest. spells.SpellsStatement line s ts × (rest ≡ []))
  unfolding read.statement
  statement-sound ts = bind (queries-sound ts) (λ s mid x. bind (end-sound mid) (λ _ rest e. answer _ _ _ (x.spelt e.0, e.1)))
