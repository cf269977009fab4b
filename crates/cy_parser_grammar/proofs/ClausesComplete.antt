-- Clauses that are spelt are read.
use Rattle.std.proofs.Common.{◌≡◌, ℕ, suc, ◌≤◌, Bool, true, false, IsTrue, not, ◌&&◌, List, ◌∷◌, length, Option, Some, refl, ap, ◌∙◌, arith, if◌then◌else◌}
use Rattle.cy_lexer.specs.declared.tokens.Token.{Token}
use Rattle.cy_lexer.specs.declared.tokens.TokenKind.{TokenKind}
use Rattle.cy_lexer.specs.declared.keywords.Keyword.TheVariants as word
use Rattle.cy_lexer.specs.declared.symbols.Symbol.TheVariants as sign
use Rattle.cy_trees.specs.declared.expressions.Variable.{Variable}
use Rattle.cy_parser_grammar.specs.declared.phases.Opening.{Opening}
use Rattle.cy_parser_grammar.specs.declared.phases.Opening.TheVariants as opening
use Rattle.cy_parser_grammar.specs.declared.phases.ClausePhase.{ClausePhase}
use Rattle.cy_parser_grammar.specs.declared.phases.ClausePhase.TheVariants as phase
use Rattle.cy_trees.specs.Trees.{Expression, Path, SetItem, set_property, RemoveItem, Where, Clause, «match», unwind, «with», «return», create, set, remove, delete}
use Rattle.cy_parser_grammar.specs.Words.{is_word, denotes}
use Rattle.cy_parser_grammar.specs.internal.Reader.{at_kind, kind_ahead, past, is_symbol, skip, refuse, ◌>>◌}
use Rattle.cy_parser_grammar.specs.internal.Clauses as read
use Rattle.cy_parser_grammar.specs.Spells.{IsSymbol}
use Rattle.cy_parser_grammar.specs.SpellsClauses as spells
use Rattle.cy_parser_grammar.specs.SpellsClauses.{SpellsEach, most_levels, SpellsExpression, SpellsVariable, SpellsSetItem, set_property_to, set_labels_to, SpellsRemoveItem, remove_property_of, remove_labels_of, SpellsClause}
use Rattle.cy_parser_grammar.proofs.Takes.{after, takes, eats_symbol, leaves_symbol, expects_symbol, expects_keyword}
use Rattle.cy_parser_grammar.proofs.Stops.{ends_whole}
use Rattle.cy_parser_grammar.proofs.Follows.{at_keyword, ends_clause, ends_projection, ends_items, ends_item, projection_ends, skip_ends, order_ends, items_end, item_ends, no_comma_after, no_colon_after, no_step_after, whole_ends}
use Rattle.cy_parser_grammar.proofs.LabelsComplete.{labels_shorten, labels_read}
use Rattle.cy_parser_grammar.proofs.PatternsComplete.{at_symbol, whole_reads, expression_reads, each_shortens, separated_read, variable_shortens, variable_reads, paths_shorten, paths_read}
use Rattle.cy_parser_grammar.proofs.ProjectionsComplete.{projection_shortens, projection_reads}
use Rattle.cy_parser_grammar.proofs.Conditions.{filter_shortens, filter_reads}

-- ---- what needs no expression

module _ (line : List ℕ) where
  remove_item_shortens : (i : RemoveItem) (ts rest : List Token) → SpellsRemoveItem line i ts rest → suc (length rest) ≤ length ts
  remove_item_shortens _ ts rest (remove_property_of v dot key _ _ s is_dot is) = let x = variable_shortens line v ts (dot ∷ key ∷ rest) s in omega (arith, x)
  remove_item_shortens _ ts rest (remove_labels_of v ls colon _ mid _ s is of_labels) =
      let x = variable_shortens line v ts (colon ∷ mid) s in
      let y = labels_shorten line ls mid rest of_labels in
      omega (arith, x, y)

  remove_item_reads : (i : RemoveItem) (ts rest : List Token) → SpellsRemoveItem line i ts rest → ends_item (kind_ahead rest) ≡ true →
      read.remove_item line ts ≡ Some (i, rest)
  unfolding read.remove_item
  remove_item_reads _ ts rest (remove_property_of v dot key _ _ s is_dot is) stop =
      after _ (variable_reads line v ts (dot ∷ key ∷ rest) s) (after _ (eats_symbol sign.Dot dot (key ∷ rest) is_dot) (after _ (takes is_word line key rest is) refl))
  remove_item_reads _ ts rest (remove_labels_of v ls colon _ mid _ s is of_labels) stop =
      after _ (variable_reads line v ts (colon ∷ mid) s)
      (after _ (leaves_symbol sign.Dot (colon ∷ mid) (at_symbol (is_symbol sign.Dot) sign.Colon false colon is refl))
      (after _ (expects_symbol sign.Colon colon mid is) (after _ (labels_read line ls mid rest of_labels (no_colon_after (kind_ahead rest) stop)) refl)))

  remove_items_shorten : (is : List RemoveItem) (ts rest : List Token) → SpellsEach (SpellsRemoveItem line) is ts rest → suc (length rest) ≤ length ts
  remove_items_shorten is ts rest s = each_shortens (read.remove_item line) (SpellsRemoveItem line) ends_item refl remove_item_shortens remove_item_reads is ts rest s

  remove_items_read : (is : List RemoveItem) (ts rest : List Token) → SpellsEach (SpellsRemoveItem line) is ts rest → ends_items (kind_ahead rest) ≡ true →
      read.remove_items line ts ≡ Some (is, rest)
  unfolding read.remove_items
  remove_items_read is ts rest s stop =
      separated_read (read.remove_item line) (SpellsRemoveItem line) ends_item refl remove_item_shortens remove_item_reads is ts rest s
      (item_ends (kind_ahead rest) stop) (no_comma_after (kind_ahead rest) stop)

  variable_reads_on : (v : Variable) (ts rest : List Token) → SpellsVariable line v ts rest → ends_item (kind_ahead rest) ≡ true → read.variable_read line ts ≡ Some (v, rest)
  variable_reads_on v ts rest s stop = variable_reads line v ts rest s

  variables_shorten : (vs : List Variable) (ts rest : List Token) → SpellsEach (SpellsVariable line) vs ts rest → suc (length rest) ≤ length ts
  variables_shorten vs ts rest s = each_shortens (read.variable_read line) (SpellsVariable line) ends_item refl (variable_shortens line) variable_reads_on vs ts rest s

  variables_read : (vs : List Variable) (ts rest : List Token) → SpellsEach (SpellsVariable line) vs ts rest → ends_items (kind_ahead rest) ≡ true →
      read.variables line ts ≡ Some (vs, rest)
  unfolding read.variables
  variables_read vs ts rest s stop =
      separated_read (read.variable_read line) (SpellsVariable line) ends_item refl (variable_shortens line) variable_reads_on vs ts rest s
      (item_ends (kind_ahead rest) stop) (no_comma_after (kind_ahead rest) stop)

-- ---- where clauses may stand

abbrev pub phase_of : spells.ClausePhase → ClausePhase
phase_of spells.reading = phase.Reading
phase_of spells.updating = phase.Updating
phase_of spells.ended = phase.Ended

abbrev pub opening_for : Clause → Opening
opening_for («match» false ps f) = opening.Match
opening_for («match» true ps f) = opening.Optional
opening_for (unwind e v) = opening.Unwind
opening_for («with» p f) = opening.With
opening_for («return» p) = opening.Return
opening_for (create ps) = opening.Create
opening_for (set is) = opening.Set
opening_for (remove is) = opening.Remove
opening_for (delete false vs) = opening.Delete
opening_for (delete true vs) = opening.Detach

pub allowed : (s : spells.ClausePhase) (c : Clause) → read.allows (phase_of s) (opening_for c) ≡ spells.may_follow s c
allowed spells.reading c = refl
allowed spells.updating («match» false ps f) = refl
allowed spells.updating («match» true ps f) = refl
allowed spells.updating (delete false vs) = refl
allowed spells.updating (delete true vs) = refl
allowed spells.updating _ = refl
allowed spells.ended c = refl

pub leads : (c : Clause) → read.phase_after (opening_for c) ≡ phase_of (spells.phase_after c)
leads («match» false ps f) = refl
leads («match» true ps f) = refl
leads (delete false vs) = refl
leads (delete true vs) = refl
leads _ = refl

writes : (c : Clause) → read.updates (opening_for c) ≡ spells.updates c
writes («match» false ps f) = refl
writes («match» true ps f) = refl
writes (delete false vs) = refl
writes (delete true vs) = refl
writes _ = refl

pub ends_as : (s : spells.ClausePhase) → read.may_end (phase_of s) ≡ spells.may_end s
ends_as spells.reading = refl
ends_as spells.updating = refl
ends_as spells.ended = refl

-- ---- clauses
module _ (line : List ℕ) where
  set_item_shortens : (i : SetItem) (ts rest : List Token) → SpellsSetItem line i ts rest → suc (length rest) ≤ length ts
  set_item_shortens _ ts rest (set_property_to v e dot key equal _ mid _ s is_dot is is_equal of_value) =
      let x = variable_shortens line v ts (dot ∷ key ∷ equal ∷ mid) s in
      let y = (whole_reads line e mid rest of_value).shortens in
      omega (arith, x, y)
  set_item_shortens _ ts rest (set_labels_to v ls colon _ mid _ s is of_labels) =
      let x = variable_shortens line v ts (colon ∷ mid) s in
      let y = labels_shorten line ls mid rest of_labels in
      omega (arith, x, y)

  assignment_reads : (v : Variable) (e : Expression) (key equal : Token) (mid rest : List Token) → IsTrue (is_word key.kind) → IsSymbol sign.Equal equal →
      SpellsExpression line e mid rest → ends_item (kind_ahead rest) ≡ true →
      read.assignment line v (key ∷ equal ∷ mid) ≡ Some (set_property v (denotes line key) e, rest)
  unfolding read.assignment
  assignment_reads v e key equal mid rest is is_equal s stop =
      after _ (takes is_word line key (equal ∷ mid) is) (after _ (expects_symbol sign.Equal equal mid is_equal)
      (after _ (expression_reads line e mid rest s (whole_ends (kind_ahead rest) stop)) refl))

  set_item_reads : (i : SetItem) (ts rest : List Token) → SpellsSetItem line i ts rest → ends_item (kind_ahead rest) ≡ true →
      read.set_item line ts ≡ Some (i, rest)
  unfolding read.set_item
  set_item_reads _ ts rest (set_property_to v e dot key equal _ mid _ s is_dot is is_equal of_value) stop =
      after _ (variable_reads line v ts (dot ∷ key ∷ equal ∷ mid) s) (after _ (eats_symbol sign.Dot dot (key ∷ equal ∷ mid) is_dot)
      (assignment_reads v e key equal mid rest is is_equal of_value stop))
  set_item_reads _ ts rest (set_labels_to v ls colon _ mid _ s is of_labels) stop =
      after _ (variable_reads line v ts (colon ∷ mid) s)
      (after _ (leaves_symbol sign.Dot (colon ∷ mid) (at_symbol (is_symbol sign.Dot) sign.Colon false colon is refl))
      (after _ (expects_symbol sign.Colon colon mid is) (after _ (labels_read line ls mid rest of_labels (no_colon_after (kind_ahead rest) stop)) refl)))

  set_items_shorten : (is : List SetItem) (ts rest : List Token) → SpellsEach (SpellsSetItem line) is ts rest → suc (length rest) ≤ length ts
  set_items_shorten is ts rest s = each_shortens (read.set_item line) (SpellsSetItem line) ends_item refl set_item_shortens set_item_reads is ts rest s

  set_items_read : (is : List SetItem) (ts rest : List Token) → SpellsEach (SpellsSetItem line) is ts rest → ends_items (kind_ahead rest) ≡ true →
      read.set_items line ts ≡ Some (is, rest)
  unfolding read.set_items
  set_items_read is ts rest s stop =
      separated_read (read.set_item line) (SpellsSetItem line) ends_item refl set_item_shortens set_item_reads is ts rest s
      (item_ends (kind_ahead rest) stop) (no_comma_after (kind_ahead rest) stop)

  -- paths end where items do
  paths_read_on : (ps : List Path) (ts rest : List Token) → SpellsEach (spells.SpellsPath line) ps ts rest → ends_items (kind_ahead rest) ≡ true →
      read.paths line ts ≡ Some (ps, rest)
  paths_read_on ps ts rest s stop =
      let no_step : read.begins_step (kind_ahead rest) ≡ false = no_step_after (kind_ahead rest) (item_ends (kind_ahead rest) stop) in
      paths_read line ps ts rest s (ap (λ b. not b) no_step) (no_comma_after (kind_ahead rest) stop)

  filter_begins : (f : Where) (ts rest : List Token) → spells.SpellsWhereIfAny line f ts rest → ends_clause (kind_ahead rest) ≡ true →
      ends_projection (kind_ahead ts) ≡ true
  filter_begins _ _ rest (spells.no_where _) stop = projection_ends (kind_ahead rest) stop
  filter_begins _ _ rest (spells.where_parts ps where_ ts _ is chain shallow) stop = at_keyword ends_projection word.Where true where_ is refl
  filter_begins _ _ rest (spells.where_expression e where_ ts _ is none s) stop = at_keyword ends_projection word.Where true where_ is refl

  after_projection : (k : Option TokenKind) → ends_projection k ≡ true → ends_items k ≡ true
  after_projection k e = items_end k (order_ends k (skip_ends k e))

  after_clause : (k : Option TokenKind) → ends_clause k ≡ true → ends_items k ≡ true
  after_clause k e = after_projection k (projection_ends k e)

  pub clause_opens : (c : Clause) (ts rest : List Token) → SpellsClause line c ts rest → at_kind read.opening_of (kind_ahead ts) ≡ Some (opening_for c)
  clause_opens _ _ rest (spells.match_ ps f t ts mid _ is s of_filter) = ap read.opening_of is
  clause_opens _ _ rest (spells.optional_match ps f optional t ts mid _ is is_match s of_filter) = ap read.opening_of is
  clause_opens _ _ rest (spells.unwind_as e v t as_ ts mid _ is s is_as of_variable) = ap read.opening_of is
  clause_opens _ _ rest (spells.with_ p f t ts mid _ is s of_filter) = ap read.opening_of is
  clause_opens _ _ rest (spells.return_ p t ts _ is s) = ap read.opening_of is
  clause_opens _ _ rest (spells.create_ ps t ts _ is s) = ap read.opening_of is
  clause_opens _ _ rest (spells.set_ is1 t ts _ is s) = ap read.opening_of is
  clause_opens _ _ rest (spells.remove_ is1 t ts _ is s) = ap read.opening_of is
  clause_opens _ _ rest (spells.delete_ vs t ts _ is s) = ap read.opening_of is
  clause_opens _ _ rest (spells.detach_delete vs detach t ts _ is is_delete s) = ap read.opening_of is

  pub clause_shortens : (c : Clause) (ts rest : List Token) → SpellsClause line c ts rest → suc (length rest) ≤ length ts
  clause_shortens _ _ rest (spells.match_ ps f t ts mid _ is s of_filter) =
      let x = paths_shorten line ps ts mid s in
      let y = filter_shortens line f mid rest of_filter in
      omega (arith, x, y)
  clause_shortens _ _ rest (spells.optional_match ps f optional t ts mid _ is is_match s of_filter) =
      let x = paths_shorten line ps ts mid s in
      let y = filter_shortens line f mid rest of_filter in
      omega (arith, x, y)
  clause_shortens _ _ rest (spells.unwind_as e v t as_ ts mid _ is s is_as of_variable) =
      let x = (whole_reads line e ts (as_ ∷ mid) s).shortens in
      let y = variable_shortens line v mid rest of_variable in
      omega (arith, x, y)
  clause_shortens _ _ rest (spells.with_ p f t ts mid _ is s of_filter) =
      let x = projection_shortens line p ts mid s in
      let y = filter_shortens line f mid rest of_filter in
      omega (arith, x, y)
  clause_shortens _ _ rest (spells.return_ p t ts _ is s) = let x = projection_shortens line p ts rest s in omega (arith, x)
  clause_shortens _ _ rest (spells.create_ ps t ts _ is s) = let x = paths_shorten line ps ts rest s in omega (arith, x)
  clause_shortens _ _ rest (spells.set_ is1 t ts _ is s) = let x = set_items_shorten is1 ts rest s in omega (arith, x)
  clause_shortens _ _ rest (spells.remove_ is1 t ts _ is s) = let x = remove_items_shorten line is1 ts rest s in omega (arith, x)
  clause_shortens _ _ rest (spells.delete_ vs t ts _ is s) = let x = variables_shorten line vs ts rest s in omega (arith, x)
  clause_shortens _ _ rest (spells.detach_delete vs detach t ts _ is is_delete s) = let x = variables_shorten line vs ts rest s in omega (arith, x)

  clause_reads : (c : Clause) (ts rest : List Token) → SpellsClause line c ts rest → ends_clause (kind_ahead rest) ≡ true →
      read.clause_by line (opening_for c) (past ts) ≡ Some (c, rest)
  unfolding read.match_read read.unwind_read read.with_read read.delete_read
  clause_reads _ _ rest (spells.match_ ps f t ts mid _ is s of_filter) stop =
      after _ (paths_read_on ps ts mid s (after_projection (kind_ahead mid) (filter_begins f mid rest of_filter stop)))
      (after _ (filter_reads line f mid rest of_filter stop) refl)
  clause_reads _ _ rest (spells.optional_match ps f optional t ts mid _ is is_match s of_filter) stop =
      after _ (expects_keyword word.Match t ts is_match)
      (after _ (paths_read_on ps ts mid s (after_projection (kind_ahead mid) (filter_begins f mid rest of_filter stop)))
      (after _ (filter_reads line f mid rest of_filter stop) refl))
  clause_reads _ _ rest (spells.unwind_as e v t as_ ts mid _ is s is_as of_variable) stop =
      after _ (expression_reads line e ts (as_ ∷ mid) s (at_keyword ends_whole word.As true as_ is_as refl))
      (after _ (expects_keyword word.As as_ mid is_as) (after _ (variable_reads line v mid rest of_variable) refl))
  clause_reads _ _ rest (spells.with_ p f t ts mid _ is s of_filter) stop =
      after _ (projection_reads line p ts mid s (filter_begins f mid rest of_filter stop))
      (after _ (filter_reads line f mid rest of_filter stop) refl)
  clause_reads _ _ rest (spells.return_ p t ts _ is s) stop =
      after _ (projection_reads line p ts rest s (projection_ends (kind_ahead rest) stop)) refl
  clause_reads _ _ rest (spells.create_ ps t ts _ is s) stop = after _ (paths_read_on ps ts rest s (after_clause (kind_ahead rest) stop)) refl
  clause_reads _ _ rest (spells.set_ is1 t ts _ is s) stop = after _ (set_items_read is1 ts rest s (after_clause (kind_ahead rest) stop)) refl
  clause_reads _ _ rest (spells.remove_ is1 t ts _ is s) stop = after _ (remove_items_read line is1 ts rest s (after_clause (kind_ahead rest) stop)) refl
  clause_reads _ _ rest (spells.delete_ vs t ts _ is s) stop = after _ (variables_read line vs ts rest s (after_clause (kind_ahead rest) stop)) refl
  clause_reads _ _ rest (spells.detach_delete vs detach t ts _ is is_delete s) stop =
      after _ (expects_keyword word.Delete t ts is_delete) (after _ (variables_read line vs ts rest s (after_clause (kind_ahead rest) stop)) refl)

  may_stand : (later : Bool) (s : spells.ClausePhase) (c : Clause) → IsTrue (spells.may_follow s c) → (later ≡ true → IsTrue (not (spells.updates c))) →
      IsTrue (read.is_allowed later (phase_of s) (opening_for c))
  may_stand false s c may reads = allowed s c ∙ may
  may_stand true s c may reads =
      ap (λ b. b && not (read.updates (opening_for c))) (allowed s c ∙ may) ∙ ap (λ b. not b) (writes c) ∙ reads refl

  pub clause_in_reads : (later : Bool) (s : spells.ClausePhase) (c : Clause) (ts rest : List Token) → IsTrue (spells.may_follow s c) → (later ≡ true → IsTrue (not (spells.updates c))) →
      SpellsClause line c ts rest → ends_clause (kind_ahead rest) ≡ true → read.clause_in line later (phase_of s) (opening_for c) ts ≡ Some (c, rest)
  unfolding read.clause_in
  clause_in_reads later s c ts rest may reads spelt stop =
      ap (λ b. (if b then (skip >> read.clause_by line (opening_for c)) else refuse) ts) (may_stand later s c may reads) ∙ after _ refl (clause_reads c ts rest spelt stop)
