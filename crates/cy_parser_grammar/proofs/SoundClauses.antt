-- What is read spells what is answered: projections, updates and clauses.
use Rattle.std.proofs.Common.{◌≡◌, ℕ, ◌<◌, ◌-◌, inl, inr, Bool, true, false, IsTrue, List, [], ◌∷◌, length, take, Option, Some, None, refl, sym, ap, ◌∙◌, subst, arith, nat_lt, if◌then◌else◌}
use Rattle.std.specs.Option.{option_map_or}
use Rattle.std.proofs.lemmas.Bool.Decides.{nat_tests}
use Rattle.cy_lexer.specs.declared.tokens.Token.{Token}
use Rattle.cy_lexer.specs.declared.tokens.TokenKind.{TokenKind}
use Rattle.cy_lexer.specs.declared.tokens.TokenKind.TheVariants as kind
use Rattle.cy_lexer.specs.declared.keywords.Keyword.{Keyword}
use Rattle.cy_lexer.specs.declared.keywords.Keyword.TheVariants as word
use Rattle.cy_lexer.specs.declared.symbols.Symbol.TheVariants as sign
use Rattle.cy_trees.specs.declared.expressions.Variable.{Variable}
use Rattle.cy_parser_grammar.specs.declared.phases.Opening.{Opening}
use Rattle.cy_parser_grammar.specs.declared.phases.Opening.TheVariants as opening
use Rattle.cy_parser_grammar.specs.declared.phases.ClausePhase.{ClausePhase}
use Rattle.cy_parser_grammar.specs.declared.phases.ClausePhase.TheVariants as phase
use Rattle.cy_trees.specs.Trees.{Expression, Path, Projection, SetItem, set_property, RemoveItem, remove_property, Where, Clause, «match», unwind, «with», «return», create, set, remove, delete}
use Rattle.cy_parser_grammar.specs.Words.{is_word, is_name}
use Rattle.cy_lexer.specs.Numbers.{greatest_number}
use Rattle.cy_parser_grammar.specs.internal.Reader.{at_kind, kind_ahead, past, skip, refuse, ◌>>◌, pure}
use Rattle.cy_parser_grammar.specs.internal.Clauses as read
use Rattle.cy_parser_grammar.specs.Spells.{IsSymbol}
use Rattle.cy_parser_grammar.specs.SpellsClauses as spells
use Rattle.cy_parser_grammar.specs.SpellsClauses.{SpellsEach, SpellsExpression, SpellsVariable, SpellsItem, item_as, item, SpellsKey, plain_key, asc, desc, SpellsOrderIfAny, no_order, order_by, SpellsCountIfAny, no_count, a_count, SpellsDistinct, not_distinct, distinct, SpellsProjection, projection, SpellsSetItem, set_property_to, set_labels_to, SpellsRemoveItem, remove_property_of, remove_labels_of, SpellsPath, SpellsClause}
use Rattle.cy_parser_grammar.proofs.Gives.{AteKeyword, Gives, bind, answer, refused, symbol_there, keyword_there, ate_symbol, ate_keyword, by_test, denoting_there, bind_peek, bind_skip, ahead, ahead_by}
use Rattle.cy_parser_grammar.proofs.Sound.{later, labels-sound}
use Rattle.cy_parser_grammar.proofs.SoundPatterns.{separated-sound, whole-sound, variable-sound, paths-sound}
use Rattle.cy_parser_grammar.proofs.Conditions.{filter-sound}
use Rattle.cy_parser_grammar.proofs.ClausesComplete.{opening_for, allowed}

module _ (line : List ℕ) where
  column-sound : (e : Expression) (ts after : List Token) → SpellsExpression line e ts after → Gives (read.column line e ts after) (λ i rest. SpellsItem line i ts rest)
  unfolding read.column
  column-sound e ts after s =
      bind (ate_keyword word.As after) (λ is_named mid c. by_test _ _ is_named mid _
      (λ yes. bind (denoting_there is_name line mid) (λ n rest w. answer _ _ _ (
      let x = c.there yes in
      let follows : after ≡ x.0 ∷ w.0 ∷ rest = x.1 ∙ ap (λ z. x.0 ∷ z) w.1 in
      subst (λ z. SpellsItem line (record { expression = e; column = z; named = true }) ts rest) (sym w.3)
      (item_as e x.0 w.0 ts rest (subst (λ z. SpellsExpression line e ts z) follows s) x.2 w.2))))
      (λ none. answer _ _ _ (
      let same : after ≡ mid = sym (c.absent none) in
      subst (λ z. SpellsItem line (record { expression = e; column = spells.column_name line e (take (length ts - length z) ts); named = false }) ts mid) (sym same)
      (item e ts mid (subst (λ z. SpellsExpression line e ts z) same s)))))

  item-sound : (ts : List Token) → Gives (read.item line ts) (λ i rest. SpellsItem line i ts rest)
  unfolding read.item
  item-sound ts = bind (whole-sound line ts) (λ e mid s. column-sound e ts mid s)

  descends-at : (e : Expression) (ts mid : List Token) (k : Option TokenKind) → kind_ahead mid ≡ k → SpellsExpression line e ts mid →
      Gives (read.descends k mid) (λ down rest. SpellsKey line (record { expression = e; descending = down }) ts rest)
  descends-at e ts mid (Some (kind.Keyword word.Asc)) h s = bind_skip _ mid (answer _ _ _ (
      let x = ahead mid (kind.Keyword word.Asc) h in asc e x.0 ts (past mid) (subst (λ z. SpellsExpression line e ts z) x.1 s) (inl x.2)))
  descends-at e ts mid (Some (kind.Keyword word.Ascending)) h s = bind_skip _ mid (answer _ _ _ (
      let x = ahead mid (kind.Keyword word.Ascending) h in asc e x.0 ts (past mid) (subst (λ z. SpellsExpression line e ts z) x.1 s) (inr x.2)))
  descends-at e ts mid (Some (kind.Keyword word.Desc)) h s = bind_skip _ mid (answer _ _ _ (
      let x = ahead mid (kind.Keyword word.Desc) h in desc e x.0 ts (past mid) (subst (λ z. SpellsExpression line e ts z) x.1 s) (inl x.2)))
  descends-at e ts mid (Some (kind.Keyword word.Descending)) h s = bind_skip _ mid (answer _ _ _ (
      let x = ahead mid (kind.Keyword word.Descending) h in desc e x.0 ts (past mid) (subst (λ z. SpellsExpression line e ts z) x.1 s) (inr x.2)))
  descends-at e ts mid _ h s = answer _ _ _ (plain_key e ts mid s)

  key-sound : (ts : List Token) → Gives (read.key line ts) (λ k rest. SpellsKey line k ts rest)
  unfolding read.key read.is_descending
  key-sound ts = bind (whole-sound line ts) (λ e mid s. bind (bind_peek _ mid (descends-at e ts mid (kind_ahead mid) refl s)) (λ down rest k. answer _ _ _ k))

  order-sound : (ts : List Token) → Gives (read.keys_if_any line ts) (λ ks rest. SpellsOrderIfAny line ks ts rest)
  unfolding read.keys_if_any read.keys
  order-sound ts =
      bind (ate_keyword word.Order ts) (λ is_there after c. by_test _ _ is_there after _
      (λ yes. bind (keyword_there word.By after) (λ _ mid b. later _ _ (λ ks rest s. (
      let x = c.there yes in
      let begins : ts ≡ x.0 ∷ b.0 ∷ mid = x.1 ∙ ap (λ z. x.0 ∷ z) b.1 in
      subst (λ z. SpellsOrderIfAny line ks z rest) (sym begins) (order_by ks x.0 b.0 mid rest x.2 b.2 s))) (separated-sound (read.key line) (SpellsKey line) key-sound mid)))
      (λ none. answer _ _ _ (subst (λ z. SpellsOrderIfAny line [] z after) (c.absent none) (no_order after))))

  count-at : (ts : List Token) (k : Option TokenKind) → kind_ahead ts ≡ k →
      Gives (read.count_by k ts) (λ n rest. (t : Token) × (ts ≡ t ∷ rest) × (t.kind ≡ kind.Number n) × (n < greatest_number))
  count-at ts (Some (kind.Number n)) e = counted (nat_lt n greatest_number) refl
    where
      counted : (b : Bool) → nat_lt n greatest_number ≡ b →
          Gives ((if b then skip >> pure n else refuse) ts) (λ n rest. (t : Token) × (ts ≡ t ∷ rest) × (t.kind ≡ kind.Number n) × (n < greatest_number))
      counted true h = bind_skip _ ts (answer _ _ _ (let x = ahead ts (kind.Number n) e in (x.0, x.1, x.2, grind (arith, nat_tests))))
      counted false h = refused _
  count-at ts _ e = refused _

  number_after-sound : (k : Keyword) (ts : List Token) → Gives (read.number_after k ts) (λ n rest. SpellsCountIfAny line k n ts rest)
  unfolding read.number_after read.count
  number_after-sound k ts =
      bind (ate_keyword k ts) (λ is_there after c. by_test _ _ is_there after _
      (λ yes. bind (bind_peek _ after (count-at after (kind_ahead after) refl)) (λ n rest w. answer _ _ _ (
      let x = c.there yes in
      let begins : ts ≡ x.0 ∷ w.0 ∷ rest = x.1 ∙ ap (λ z. x.0 ∷ z) w.1 in
      subst (λ z. SpellsCountIfAny line k (Some n) z rest) (sym begins) (a_count n x.0 w.0 rest x.2 w.2 w.3))))
      (λ none. answer _ _ _ (subst (λ z. SpellsCountIfAny line k None z after) (c.absent none) (no_count after))))

  distinct-sound : (ts : List Token) (b : Bool) (rest : List Token) → AteKeyword word.Distinct ts b rest → SpellsDistinct line b ts rest
  distinct-sound ts true rest c = let x = c.there refl in subst (λ z. SpellsDistinct line true z rest) (sym x.1) (distinct x.0 rest x.2)
  distinct-sound ts false rest c = subst (λ z. SpellsDistinct line false z rest) (c.absent refl) (not_distinct rest)

  projection-sound : (ts : List Token) → Gives (read.projection line ts) (λ p rest. SpellsProjection line p ts rest)
  unfolding read.projection read.items
  projection-sound ts =
      bind (ate_keyword word.Distinct ts) (λ d from a. bind (separated-sound (read.item line) (SpellsItem line) item-sound from) (λ is mid b. bind (order-sound mid) (λ ks after c.
      bind (number_after-sound word.Skip after) (λ s last_ e. bind (number_after-sound word.Limit last_) (λ l rest f. answer _ _ _
      (projection d is ks s l ts from mid after last_ rest (distinct-sound ts d from a) b c e f))))))

  assignment-sound : (v : Variable) (from ts : List Token) (dot : Token) → SpellsVariable line v from (dot ∷ ts) → IsSymbol sign.Dot dot →
      Gives (read.assignment line v ts) (λ i rest. SpellsSetItem line i from rest)
  unfolding read.assignment
  assignment-sound v from ts dot s is =
      bind (denoting_there is_word line ts) (λ key mid w. bind (symbol_there sign.Equal mid) (λ _ after x. bind (whole-sound line after) (λ e rest u. answer _ _ _ (
      let begins : ts ≡ w.0 ∷ x.0 ∷ after = w.1 ∙ ap (λ z. w.0 ∷ z) x.1 in
      subst (λ z. SpellsSetItem line (set_property v z e) from rest) (sym w.3)
      (set_property_to v e dot w.0 x.0 from after rest (subst (λ z. SpellsVariable line v from (dot ∷ z)) begins s) is w.2 x.2 u)))))

  set_item-sound : (ts : List Token) → Gives (read.set_item line ts) (λ i rest. SpellsSetItem line i ts rest)
  unfolding read.set_item
  set_item-sound ts =
      bind (variable-sound line ts) (λ v mid s. bind (ate_symbol sign.Dot mid) (λ is_property after c. by_test _ _ is_property after _
      (λ yes. let x = c.there yes in assignment-sound v ts after x.0 (subst (λ z. SpellsVariable line v ts z) x.1 s) x.2)
      (λ other. bind (symbol_there sign.Colon after) (λ _ from x. bind (labels-sound line from) (λ ls rest l. answer _ _ _
      (set_labels_to v ls x.0 ts from rest (subst (λ z. SpellsVariable line v ts z) (sym (c.absent other) ∙ x.1) s) x.2 l))))))

  remove_item-sound : (ts : List Token) → Gives (read.remove_item line ts) (λ i rest. SpellsRemoveItem line i ts rest)
  unfolding read.remove_item
  remove_item-sound ts =
      bind (variable-sound line ts) (λ v mid s. bind (ate_symbol sign.Dot mid) (λ is_property after c. by_test _ _ is_property after _
      (λ yes. bind (denoting_there is_word line after) (λ key rest w. answer _ _ _ (
      let x = c.there yes in
      let follows : mid ≡ x.0 ∷ w.0 ∷ rest = x.1 ∙ ap (λ z. x.0 ∷ z) w.1 in
      subst (λ z. SpellsRemoveItem line (remove_property v z) ts rest) (sym w.3)
      (remove_property_of v x.0 w.0 ts rest (subst (λ z. SpellsVariable line v ts z) follows s) x.2 w.2))))
      (λ other. bind (symbol_there sign.Colon after) (λ _ from x. bind (labels-sound line from) (λ ls rest l. answer _ _ _
      (remove_labels_of v ls x.0 ts from rest (subst (λ z. SpellsVariable line v ts z) (sym (c.absent other) ∙ x.1) s) x.2 l))))))

  set_items-sound : (ts : List Token) → Gives (read.set_items line ts) (λ is rest. SpellsEach (SpellsSetItem line) is ts rest)
  unfolding read.set_items
  set_items-sound ts = separated-sound (read.set_item line) (SpellsSetItem line) set_item-sound ts

  remove_items-sound : (ts : List Token) → Gives (read.remove_items line ts) (λ is rest. SpellsEach (SpellsRemoveItem line) is ts rest)
  unfolding read.remove_items
  remove_items-sound ts = separated-sound (read.remove_item line) (SpellsRemoveItem line) remove_item-sound ts

  variables-sound : (ts : List Token) → Gives (read.variables line ts) (λ vs rest. SpellsEach (SpellsVariable line) vs ts rest)
  unfolding read.variables
  variables-sound ts = separated-sound (read.variable_read line) (SpellsVariable line) (variable-sound line) ts

  -- where a phase stands
  abbrev pub spelt_phase : ClausePhase → spells.ClausePhase
  spelt_phase phase.Reading = spells.reading
  spelt_phase phase.Updating = spells.updating
  spelt_phase phase.Ended = spells.ended

  -- the clause that was read is spelt, may stand where its first word may, leads where that leads, and writes where that does
  pub record IsClause (s : ClausePhase) (o : Opening) (ts : List Token) (c : Clause) (rest : List Token) : Type 0 where
    pub spelt : SpellsClause line c ts rest
    pub follows : spells.may_follow (spelt_phase s) c ≡ read.allows s o
    pub leads : spells.phase_after c ≡ spelt_phase (read.phase_after o)
    pub writes : spells.updates c ≡ read.updates o

  abbrev first_word : Opening → Keyword
  first_word opening.Match = word.Match
  first_word opening.Optional = word.Optional
  first_word opening.Unwind = word.Unwind
  first_word opening.With = word.With
  first_word opening.Return = word.Return
  first_word opening.Create = word.Create
  first_word opening.Set = word.Set
  first_word opening.Remove = word.Remove
  first_word opening.Delete = word.Delete
  first_word opening.Detach = word.Detach

  -- where a token opens a clause, it is the first word of that clause
  first_words : (k : TokenKind) → option_map_or (λ o. kind.Keyword (first_word o)) (read.opening_of k) k ≡ k
  first_words (kind.Keyword word.Match) = refl
  first_words _ = refl

  opening_is : (k : TokenKind) (o : Opening) → read.opening_of k ≡ Some o → k ≡ kind.Keyword (first_word o)
  opening_is k o e = sym (first_words k) ∙ ap (λ found. option_map_or (λ p. kind.Keyword (first_word p)) found k) e

  follows : (s : ClausePhase) (c : Clause) → spells.may_follow (spelt_phase s) c ≡ read.allows s (opening_for c)
  follows phase.Reading c = refl
  follows phase.Updating c = sym (allowed spells.updating c)
  follows phase.Ended c = refl

  open_by : (s : ClausePhase) (o : Opening) (t : Token) (ts : List Token) → t.kind ≡ kind.Keyword (first_word o) →
      Gives (read.clause_by line o ts) (IsClause s o (t ∷ ts))
  unfolding read.match_read read.unwind_read read.with_read read.delete_read
  open_by s opening.Match t ts is =
      bind (paths-sound line ts) (λ ps mid a. bind (filter-sound line mid) (λ f rest b. answer _ _ _
      (record { spelt = spells.match_ ps f t ts mid rest is a b; follows = follows s («match» false ps f); leads = refl; writes = refl })))
  open_by s opening.Optional t ts is =
      bind (keyword_there word.Match ts) (λ _ from x. bind (paths-sound line from) (λ ps mid a. bind (filter-sound line mid) (λ f rest b. answer _ _ _
      (record {
        spelt = subst (λ z. SpellsClause line («match» true ps f) (t ∷ z) rest) (sym x.1) (spells.optional_match ps f t x.0 from mid rest is x.2 a b);
        follows = follows s («match» true ps f);
        leads = refl;
        writes = refl;
      }))))
  open_by s opening.Unwind t ts is =
      bind (whole-sound line ts) (λ e from a. bind (keyword_there word.As from) (λ _ mid x. bind (variable-sound line mid) (λ v rest b. answer _ _ _
      (record {
        spelt = spells.unwind_as e v t x.0 ts mid rest is (subst (λ z. SpellsExpression line e ts z) x.1 a) x.2 b;
        follows = follows s (unwind e v);
        leads = refl;
        writes = refl;
      }))))
  open_by s opening.With t ts is =
      bind (projection-sound ts) (λ p mid a. bind (filter-sound line mid) (λ f rest b. answer _ _ _
      (record { spelt = spells.with_ p f t ts mid rest is a b; follows = follows s («with» p f); leads = refl; writes = refl })))
  open_by s opening.Return t ts is =
      bind (projection-sound ts) (λ p rest a. answer _ _ _ (record { spelt = spells.return_ p t ts rest is a; follows = follows s («return» p); leads = refl; writes = refl }))
  open_by s opening.Create t ts is =
      bind (paths-sound line ts) (λ ps rest a. answer _ _ _ (record { spelt = spells.create_ ps t ts rest is a; follows = follows s (create ps); leads = refl; writes = refl }))
  open_by s opening.Set t ts is =
      bind (set_items-sound ts) (λ is1 rest a. answer _ _ _ (record { spelt = spells.set_ is1 t ts rest is a; follows = follows s (set is1); leads = refl; writes = refl }))
  open_by s opening.Remove t ts is =
      bind (remove_items-sound ts) (λ is1 rest a. answer _ _ _ (record { spelt = spells.remove_ is1 t ts rest is a; follows = follows s (remove is1); leads = refl; writes = refl }))
  open_by s opening.Delete t ts is =
      bind (variables-sound ts) (λ vs rest a. answer _ _ _ (record { spelt = spells.delete_ vs t ts rest is a; follows = follows s (delete false vs); leads = refl; writes = refl }))
  open_by s opening.Detach t ts is =
      bind (keyword_there word.Delete ts) (λ _ from x. bind (variables-sound from) (λ vs rest a. answer _ _ _
      (record {
        spelt = subst (λ z. SpellsClause line (delete true vs) (t ∷ z) rest) (sym x.1) (spells.detach_delete vs t x.0 from rest is x.2 a);
        follows = follows s (delete true vs);
        leads = refl;
        writes = refl;
      })))

  pub clause_in-sound : (later_one : Bool) (s : ClausePhase) (o : Opening) (ts : List Token) → at_kind read.opening_of (kind_ahead ts) ≡ Some o →
      Gives (read.clause_in line later_one s o ts) (λ c rest. IsClause s o ts c rest × IsTrue (read.is_allowed later_one s o))
  unfolding read.clause_in
  clause_in-sound later_one s o ts e = by_test _ _ (read.is_allowed later_one s o) ts _
      (λ yes. bind_skip _ ts (later _ _ (λ c rest k. (
      let x = ahead_by read.opening_of ts o e in
      (subst (λ z. IsClause s o z c rest) (sym x.1) k, yes))) (open_by s o (ahead_by read.opening_of ts o e).0 (past ts) (opening_is _ o (ahead_by read.opening_of ts o e).2))))
      (λ none. refused _)
