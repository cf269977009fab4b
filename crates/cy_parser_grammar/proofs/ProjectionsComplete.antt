-- Projections that are spelt are read.
use Rattle.std.proofs.Common.{◌≡◌, ℕ, suc, ◌≤◌, ◌<◌, ◌⊎◌, inl, inr, Bool, true, false, List, ◌∷◌, length, Option, Some, refl, ap, ◌∙◌, arith, nat_lt, if◌then◌else◌}
use Rattle.std.proofs.lemmas.Bool.Decides.{nat_tests}
use Rattle.cy_lexer.specs.declared.tokens.Token.{Token}
use Rattle.cy_lexer.specs.declared.tokens.TokenKind.{TokenKind}
use Rattle.cy_lexer.specs.declared.tokens.TokenKind.TheVariants as kind
use Rattle.cy_lexer.specs.declared.keywords.Keyword.{Keyword}
use Rattle.cy_lexer.specs.declared.keywords.Keyword.TheVariants as word
use Rattle.cy_trees.specs.Trees.{Item, Key, Projection}
use Rattle.cy_parser_grammar.specs.Words.{is_name}
use Rattle.cy_lexer.specs.Numbers.{greatest_number}
use Rattle.cy_parser_grammar.specs.internal.Reader.{and_then, kind_ahead, is_keyword, eat_keyword, skip, refuse, ◌>>◌, pure}
use Rattle.cy_parser_grammar.specs.internal.Clauses as read
use Rattle.cy_parser_grammar.specs.Spells.{IsKeyword, IsNumber}
use Rattle.cy_parser_grammar.specs.SpellsClauses.{SpellsEach, SpellsItem, item_as, item, SpellsKey, plain_key, asc, desc, SpellsOrderIfAny, no_order, order_by, SpellsCountIfAny, no_count, a_count, SpellsDistinct, not_distinct, distinct, SpellsProjection, projection}
use Rattle.cy_parser_grammar.proofs.Takes.{after, takes, eats_keyword, leaves_keyword, expects_keyword}
use Rattle.cy_parser_grammar.proofs.Stops.{ends_whole, no_distinct}
use Rattle.cy_parser_grammar.proofs.Follows.{at_keyword, ends_projection, ends_skip, ends_order, ends_items, ends_item, skip_ends, order_ends, items_end, item_ends, no_limit_after, no_skip_after, no_order_after, no_comma_after, no_column_after, no_direction_after, whole_ends}
use Rattle.cy_parser_grammar.proofs.PatternsComplete.{whole_reads, expression_reads, each_shortens, each_begins, separated_read}

-- ---- the order of a key

falls : (w : Keyword) (b : Bool) (t : Token) (rest : List Token) → IsKeyword w t →
    read.descends (Some (kind.Keyword w)) (t ∷ rest) ≡ Some (b, rest) → read.is_descending (t ∷ rest) ≡ Some (b, rest)
unfolding read.is_descending
falls w b t rest is at = after _ refl (ap (λ k. read.descends (Some k) (t ∷ rest)) is ∙ at)

ascends : (t : Token) (rest : List Token) → IsKeyword word.Asc t ⊎ IsKeyword word.Ascending t → read.is_descending (t ∷ rest) ≡ Some (false, rest)
unfolding and_then
ascends t rest (inl is) = falls word.Asc false t rest is refl
ascends t rest (inr is) = falls word.Ascending false t rest is refl

descends : (t : Token) (rest : List Token) → IsKeyword word.Desc t ⊎ IsKeyword word.Descending t → read.is_descending (t ∷ rest) ≡ Some (true, rest)
unfolding and_then
descends t rest (inl is) = falls word.Desc true t rest is refl
descends t rest (inr is) = falls word.Descending true t rest is refl

no_direction : (rest : List Token) → ends_item (kind_ahead rest) ≡ true → read.is_descending rest ≡ Some (false, rest)
unfolding read.is_descending
no_direction rest stop = after _ refl (no_direction_after (kind_ahead rest) rest stop)

whole_ends_at : (v w : Keyword) (t : Token) → ends_whole (Some (kind.Keyword v)) ≡ true → ends_whole (Some (kind.Keyword w)) ≡ true →
    IsKeyword v t ⊎ IsKeyword w t → ends_whole (Some t.kind) ≡ true
whole_ends_at v w t at_first at_second (inl is) = at_keyword ends_whole v true t is at_first
whole_ends_at v w t at_first at_second (inr is) = at_keyword ends_whole w true t is at_second

-- ---- counts

count_taken : (n : ℕ) (t : Token) (rest : List Token) → IsNumber n t → n < greatest_number → read.count (t ∷ rest) ≡ Some (n, rest)
unfolding read.count and_then
count_taken n t rest is small =
    let below : nat_lt n greatest_number ≡ true = grind (arith, nat_tests) in
    ap (λ k. read.count_by (Some k) (t ∷ rest)) is ∙ ap (λ b. (if b then skip >> pure n else refuse) (t ∷ rest)) below

module _ (line : List ℕ) where
  count_reads : (k : Keyword) (n : Option ℕ) (ts rest : List Token) → SpellsCountIfAny line k n ts rest → is_keyword k (kind_ahead rest) ≡ false →
      read.number_after k ts ≡ Some (n, rest)
  unfolding read.number_after
  count_reads k _ _ rest (no_count _) stop = after _ (leaves_keyword k rest stop) refl
  count_reads k _ _ rest (a_count n t number _ is is_number small) stop =
      after _ (eats_keyword k t (number ∷ rest) is) (after _ (count_taken n number rest is_number small) refl)

  count_begins : (test : Option TokenKind → Bool) (b : Bool) (k : Keyword) → test (Some (kind.Keyword k)) ≡ b →
      (n : Option ℕ) (ts rest : List Token) → SpellsCountIfAny line k n ts rest → test (kind_ahead rest) ≡ b → test (kind_ahead ts) ≡ b
  count_begins test b k at _ _ rest (no_count _) stop = stop
  count_begins test b k at _ _ rest (a_count n t number _ is is_number small) stop = at_keyword test k b t is at

  count_shortens : (k : Keyword) (n : Option ℕ) (ts rest : List Token) → SpellsCountIfAny line k n ts rest → length rest ≤ length ts
  count_shortens k _ _ rest (no_count _) = omega arith
  count_shortens k _ _ rest (a_count n t number _ is is_number small) = omega arith

  distinct_reads : (d : Bool) (ts rest : List Token) → SpellsDistinct line d ts rest → is_keyword word.Distinct (kind_ahead rest) ≡ false →
      eat_keyword word.Distinct ts ≡ Some (d, rest)
  distinct_reads _ _ rest (not_distinct _) stop = leaves_keyword word.Distinct rest stop
  distinct_reads _ _ rest (distinct t _ is) stop = eats_keyword word.Distinct t rest is

  distinct_shortens : (d : Bool) (ts rest : List Token) → SpellsDistinct line d ts rest → length rest ≤ length ts
  distinct_shortens _ _ rest (not_distinct _) = omega arith
  distinct_shortens _ _ rest (distinct t _ is) = omega arith

-- ---- what has expressions in it
module _ (line : List ℕ) where
  item_shortens : (i : Item) (ts rest : List Token) → SpellsItem line i ts rest → suc (length rest) ≤ length ts
  item_shortens _ ts rest (item_as e as_ column _ _ s is is_column) = let x = (whole_reads line e ts (as_ ∷ column ∷ rest) s).shortens in omega (arith, x)
  item_shortens _ ts rest (item e _ _ s) = (whole_reads line e ts rest s).shortens

  item_begins : (i : Item) (ts rest : List Token) → SpellsItem line i ts rest → is_keyword word.Distinct (kind_ahead ts) ≡ false
  item_begins _ ts rest (item_as e as_ column _ _ s is is_column) = no_distinct (kind_ahead ts) (whole_reads line e ts (as_ ∷ column ∷ rest) s).begins
  item_begins _ ts rest (item e _ _ s) = no_distinct (kind_ahead ts) (whole_reads line e ts rest s).begins

  item_reads : (i : Item) (ts rest : List Token) → SpellsItem line i ts rest → ends_item (kind_ahead rest) ≡ true → read.item line ts ≡ Some (i, rest)
  unfolding read.item read.column
  item_reads _ ts rest (item_as e as_ column _ _ s is is_column) stop =
      after _ (expression_reads line e ts (as_ ∷ column ∷ rest) s (at_keyword ends_whole word.As true as_ is refl))
      (after _ (eats_keyword word.As as_ (column ∷ rest) is) (after _ (takes is_name line column rest is_column) refl))
  item_reads _ ts rest (item e _ _ s) stop =
      after _ (expression_reads line e ts rest s (whole_ends (kind_ahead rest) stop))
      (after _ (leaves_keyword word.As rest (no_column_after (kind_ahead rest) stop)) refl)

  key_shortens : (k : Key) (ts rest : List Token) → SpellsKey line k ts rest → suc (length rest) ≤ length ts
  key_shortens _ ts rest (plain_key e _ _ s) = (whole_reads line e ts rest s).shortens
  key_shortens _ ts rest (asc e t _ _ s is) = let x = (whole_reads line e ts (t ∷ rest) s).shortens in omega (arith, x)
  key_shortens _ ts rest (desc e t _ _ s is) = let x = (whole_reads line e ts (t ∷ rest) s).shortens in omega (arith, x)

  key_reads : (k : Key) (ts rest : List Token) → SpellsKey line k ts rest → ends_item (kind_ahead rest) ≡ true → read.key line ts ≡ Some (k, rest)
  unfolding read.key
  key_reads _ ts rest (plain_key e _ _ s) stop =
      after _ (expression_reads line e ts rest s (whole_ends (kind_ahead rest) stop)) (after _ (no_direction rest stop) refl)
  key_reads _ ts rest (asc e t _ _ s is) stop =
      after _ (expression_reads line e ts (t ∷ rest) s (whole_ends_at word.Asc word.Ascending t refl refl is)) (after _ (ascends t rest is) refl)
  key_reads _ ts rest (desc e t _ _ s is) stop =
      after _ (expression_reads line e ts (t ∷ rest) s (whole_ends_at word.Desc word.Descending t refl refl is)) (after _ (descends t rest is) refl)

  items_shorten : (is : List Item) (ts rest : List Token) → SpellsEach (SpellsItem line) is ts rest → suc (length rest) ≤ length ts
  items_shorten is ts rest s = each_shortens (read.item line) (SpellsItem line) ends_item refl item_shortens item_reads is ts rest s

  items_read : (is : List Item) (ts rest : List Token) → SpellsEach (SpellsItem line) is ts rest → ends_items (kind_ahead rest) ≡ true →
      read.items line ts ≡ Some (is, rest)
  unfolding read.items
  items_read is ts rest s stop =
      separated_read (read.item line) (SpellsItem line) ends_item refl item_shortens item_reads is ts rest s (item_ends (kind_ahead rest) stop) (no_comma_after (kind_ahead rest) stop)

  keys_shorten : (ks : List Key) (ts rest : List Token) → SpellsEach (SpellsKey line) ks ts rest → suc (length rest) ≤ length ts
  keys_shorten ks ts rest s = each_shortens (read.key line) (SpellsKey line) ends_item refl key_shortens key_reads ks ts rest s

  keys_read : (ks : List Key) (ts rest : List Token) → SpellsEach (SpellsKey line) ks ts rest → ends_items (kind_ahead rest) ≡ true →
      read.keys line ts ≡ Some (ks, rest)
  unfolding read.keys
  keys_read ks ts rest s stop =
      separated_read (read.key line) (SpellsKey line) ends_item refl key_shortens key_reads ks ts rest s (item_ends (kind_ahead rest) stop) (no_comma_after (kind_ahead rest) stop)

  order_begins : (ks : List Key) (ts rest : List Token) → SpellsOrderIfAny line ks ts rest → ends_items (kind_ahead rest) ≡ true → ends_items (kind_ahead ts) ≡ true
  order_begins _ _ rest (no_order _) stop = stop
  order_begins _ _ rest (order_by ks order by ts _ is is_by s) stop = at_keyword ends_items word.Order true order is refl

  order_shortens : (ks : List Key) (ts rest : List Token) → SpellsOrderIfAny line ks ts rest → length rest ≤ length ts
  order_shortens _ _ rest (no_order _) = omega arith
  order_shortens _ _ rest (order_by ks order by ts _ is is_by s) = let x = keys_shorten ks ts rest s in omega (arith, x)

  order_reads : (ks : List Key) (ts rest : List Token) → SpellsOrderIfAny line ks ts rest → ends_order (kind_ahead rest) ≡ true →
      read.keys_if_any line ts ≡ Some (ks, rest)
  unfolding read.keys_if_any
  order_reads _ _ rest (no_order _) stop = after _ (leaves_keyword word.Order rest (no_order_after (kind_ahead rest) stop)) refl
  order_reads _ _ rest (order_by ks order by ts _ is is_by s) stop =
      after _ (eats_keyword word.Order order (by ∷ ts) is) (after _ (expects_keyword word.By by ts is_by) (keys_read ks ts rest s (items_end (kind_ahead rest) stop)))

  pub projection_shortens : (p : Projection) (ts rest : List Token) → SpellsProjection line p ts rest → suc (length rest) ≤ length ts
  projection_shortens _ ts rest (projection d is ks s l _ from mid behind last_ _ of_distinct of_items of_order of_skip of_limit) =
      let x = distinct_shortens line d ts from of_distinct in
      let y = items_shorten is from mid of_items in
      let z = order_shortens ks mid behind of_order in
      let v = count_shortens line word.Skip s behind last_ of_skip in
      let w = count_shortens line word.Limit l last_ rest of_limit in
      omega (arith, x, y, z, v, w)

  pub projection_reads : (p : Projection) (ts rest : List Token) → SpellsProjection line p ts rest → ends_projection (kind_ahead rest) ≡ true →
      read.projection line ts ≡ Some (p, rest)
  unfolding read.projection
  projection_reads _ ts rest (projection d is ks s l _ from mid behind last_ _ of_distinct of_items of_order of_skip of_limit) stop =
      let at_limit : ends_skip (kind_ahead last_) ≡ true = count_begins line ends_skip true word.Limit refl l last_ rest of_limit (skip_ends (kind_ahead rest) stop) in
      let at_skip : ends_order (kind_ahead behind) ≡ true = count_begins line ends_order true word.Skip refl s behind last_ of_skip (order_ends (kind_ahead last_) at_limit) in
      let at_order : ends_items (kind_ahead mid) ≡ true = order_begins ks mid behind of_order (items_end (kind_ahead behind) at_skip) in
      after _ (distinct_reads line d ts from of_distinct (each_begins (SpellsItem line) (is_keyword word.Distinct) false item_begins is from mid of_items))
      (after _ (items_read is from mid of_items at_order)
      (after _ (order_reads ks mid behind of_order at_skip)
      (after _ (count_reads line word.Skip s behind last_ of_skip (no_skip_after (kind_ahead last_) at_limit))
      (after _ (count_reads line word.Limit l last_ rest of_limit (no_limit_after (kind_ahead rest) stop)) refl))))
