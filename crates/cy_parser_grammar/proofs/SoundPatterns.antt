-- What is read spells what is answered: patterns.
use Rattle.std.proofs.Common.{◌≡◌, ℕ, zero, suc, ◌≤◌, Bool, true, false, IsTrue, List, [], ◌∷◌, ◌++◌, length, Option, Some, None, refl, sym, ap, ◌∙◌, subst, arith, nat_lt, nat_le, if◌then◌else◌, ◌&&◌}
use Rattle.std.proofs.lemmas.Bool.Decides.{nat_tests}
use Rattle.cy_lexer.specs.declared.tokens.Token.{Token}
use Rattle.cy_lexer.specs.declared.tokens.TokenKind.{TokenKind}
use Rattle.cy_lexer.specs.declared.tokens.TokenKind.TheVariants as kind
use Rattle.cy_lexer.specs.declared.symbols.Symbol.{Symbol}
use Rattle.cy_lexer.specs.declared.symbols.Symbol.TheVariants as sign
use Rattle.cy_trees.specs.declared.clauses.Direction.{Direction}
use Rattle.cy_trees.specs.declared.clauses.Direction.TheVariants as direction
use Rattle.cy_trees.specs.declared.clauses.Length.{Length}
use Rattle.cy_trees.specs.Trees.{Name, Step}
use Rattle.cy_parser_grammar.specs.Words.{is_word, is_name, denotes}
use Rattle.cy_lexer.specs.Numbers.{greatest_number}
use Rattle.cy_parser_grammar.specs.internal.Reader.{Reader, kind_ahead, past, skip, refuse, ◌>>◌, ◌<$>◌, pure}
use Rattle.cy_parser_grammar.specs.internal.Expressions.{expression}
use Rattle.cy_parser_grammar.specs.internal.Clauses as read
use Rattle.cy_parser_grammar.specs.Spells.{IsSymbol}
use Rattle.cy_parser_grammar.specs.SpellsClauses.{SpellsEach, last, next, SpellsExpression, SpellsVariable, variable, SpellsVariableIfAny, no_variable, a_variable, SpellsLabelsIfAny, no_labels, labels, SpellsEntry, entry, SpellsMapIfAny, no_map, empty_map, map_of, SpellsNode, node, SpellsTypes, last_type, next_type, next_type_with_colon, SpellsTypesIfAny, no_types, types, SpellsLength, any_length, exactly, unbounded, at_least, at_most, between, SpellsLengthIfAny, no_length, a_length, SpellsArrow, arrow, no_arrow, SpellsDetails, no_details, details, SpellsRelationship, relationship, SpellsSteps, no_steps, a_step, SpellsPath, path, greatest_bound}
use Rattle.cy_parser_grammar.proofs.Gives.{AteSymbol, Gives, bind, answer, refused, symbol_there, ate_symbol, by_test, denoting_there, bind_peek, bind_skip, ahead}
use Rattle.cy_parser_grammar.proofs.Sound.{later, Found, found_none, found_last, found_more, all_found, labels-sound, expression-sound}

-- one tree after another, each with a comma before it
module _ {A : Type 0} (item : Reader A) (each : A → List Token → List Token → Type 0)
    (item-sound : (ts : List Token) → Gives (item ts) (λ a rest. each a ts rest)) where
  separated-sound-from : (turns : ℕ) (found : List A) (ts : List Token) → Gives (read.separated_from item turns found ts) (Found (SpellsEach each) found ts)
  unfolding read.separated_from
  separated-sound-from zero found ts = refused _
  separated-sound-from (suc turns) found ts =
      bind (item-sound ts) (λ a mid s. bind (ate_symbol sign.Comma mid) (λ goes_on after c. by_test _ _ goes_on after _
      (λ yes. found_more _ found a ts after (λ these rest others.
      let x = c.there yes in
      next a these x.0 ts after rest (subst (λ z. each a ts z) x.1 s) x.2 others)
      (separated-sound-from turns (found ++ a ∷ []) after))
      (λ stop. found_last _ found a ts after (last a ts after (subst (λ z. each a ts z) (sym (c.absent stop)) s)))))

  pub separated-sound : (ts : List Token) → Gives (read.separated item ts) (λ all rest. SpellsEach each all ts rest)
  separated-sound ts = all_found (SpellsEach each) ts (separated-sound-from (length ts) [] ts)

module _ (line : List ℕ) where
  pub whole-sound : (ts : List Token) → Gives (expression line ts) (λ e rest. SpellsExpression line e ts rest)
  whole-sound ts = later _ _ (λ e rest s. record { spells = s.spells; shallow = s.shallow }) (expression-sound line ts)

  pub variable-sound : (ts : List Token) → Gives (read.variable_read line ts) (λ v rest. SpellsVariable line v ts rest)
  variable-sound ts = bind (denoting_there is_name line ts) (λ n mid w. answer _ _ _ (
      subst (λ z. SpellsVariable line (record { name = n; column = None }) z mid) (sym w.1)
      (subst (λ z. SpellsVariable line (record { name = z; column = None }) (w.0 ∷ mid) mid) (sym w.3) (variable w.0 mid w.2))))

  some_variable : (ts : List Token) → Gives ((Some <$> read.variable_read line) ts) (λ v rest. SpellsVariableIfAny line v ts rest)
  some_variable ts = bind (variable-sound ts) (λ v rest s. answer _ _ _ (a_variable v ts rest s))

  variable-at : (ts : List Token) (k : Option TokenKind) → Gives (read.variable_by line k ts) (λ v rest. SpellsVariableIfAny line v ts rest)
  variable-at ts (Some kind.Name) = some_variable ts
  variable-at ts (Some kind.QuotedName) = some_variable ts
  variable-at ts _ = answer _ _ _ (no_variable ts)

  variable_if_any-sound : (ts : List Token) → Gives (read.variable_if_any line ts) (λ v rest. SpellsVariableIfAny line v ts rest)
  unfolding read.variable_if_any
  variable_if_any-sound ts = bind_peek _ ts (variable-at ts (kind_ahead ts))

  labels_if_any-sound : (ts : List Token) → Gives (read.labels_if_any line ts) (λ ls rest. SpellsLabelsIfAny line ls ts rest)
  unfolding read.labels_if_any
  labels_if_any-sound ts =
      bind (ate_symbol sign.Colon ts) (λ is_there after c. by_test _ _ is_there after _
      (λ yes. later _ _ (λ ls rest s. (
      let x = c.there yes in
      subst (λ z. SpellsLabelsIfAny line ls z rest) (sym x.1) (labels ls x.0 after rest x.2 s))) (labels-sound line after))
      (λ none. answer _ _ _ (subst (λ z. SpellsLabelsIfAny line [] z after) (c.absent none) (no_labels after))))

  entry-sound : (ts : List Token) → Gives (read.entry line ts) (λ e rest. SpellsEntry line e ts rest)
  unfolding read.entry
  entry-sound ts =
      bind (denoting_there is_word line ts) (λ key from w. bind (symbol_there sign.Colon from) (λ _ mid x. bind (whole-sound mid) (λ e rest s. answer _ _ _ (
      let begins : ts ≡ w.0 ∷ x.0 ∷ mid = w.1 ∙ ap (λ z. w.0 ∷ z) x.1 in
      subst (λ z. SpellsEntry line (record { key = key; value = e }) z rest) (sym begins)
      (subst (λ z. SpellsEntry line (record { key = z; value = e }) (w.0 ∷ x.0 ∷ mid) rest) (sym w.3) (entry e w.0 x.0 mid rest w.2 x.2 s))))))

  map-sound : (opening : Token) (ts : List Token) → IsSymbol sign.LeftBrace opening →
      Gives (read.map_read line ts) (λ es rest. SpellsMapIfAny line (Some es) (opening ∷ ts) rest)
  unfolding read.map_read read.entries
  map-sound opening ts is =
      bind (ate_symbol sign.RightBrace ts) (λ is_empty after c. by_test _ _ is_empty after _
      (λ yes. answer _ _ _ (
      let x = c.there yes in
      subst (λ z. SpellsMapIfAny line (Some []) (opening ∷ z) after) (sym x.1) (empty_map opening x.0 after is x.2)))
      (λ some. bind (separated-sound (read.entry line) (SpellsEntry line) entry-sound after) (λ es mid s. bind (symbol_there sign.RightBrace mid) (λ _ rest x. answer _ _ _ (
      subst (λ z. SpellsMapIfAny line (Some es) (opening ∷ z) rest) (c.absent some)
      (map_of es opening x.0 after rest is (subst (λ z. SpellsEach (SpellsEntry line) es after z) x.1 s) x.2))))))

  map_if_any-sound : (ts : List Token) → Gives (read.map_if_any line ts) (λ m rest. SpellsMapIfAny line m ts rest)
  unfolding read.map_if_any
  map_if_any-sound ts =
      bind (ate_symbol sign.LeftBrace ts) (λ is_there after c. by_test _ _ is_there after _
      (λ yes.
      let x = c.there yes in
      bind (map-sound x.0 after x.2) (λ es rest s. answer _ _ _ (subst (λ z. SpellsMapIfAny line (Some es) z rest) (sym x.1) s)))
      (λ none. answer _ _ _ (subst (λ z. SpellsMapIfAny line None z after) (c.absent none) (no_map after))))

  node-sound : (ts : List Token) → Gives (read.node line ts) (λ n rest. SpellsNode line n ts rest)
  unfolding read.node
  node-sound ts =
      bind (symbol_there sign.LeftParenthesis ts) (λ _ from o. bind (variable_if_any-sound from) (λ v next a. bind (labels_if_any-sound next) (λ ls mid b.
      bind (map_if_any-sound mid) (λ m last_ d. bind (symbol_there sign.RightParenthesis last_) (λ _ rest x. answer _ _ _ (
      subst (λ z. SpellsNode line (record { variable = v; labels = ls; properties = m }) z rest) (sym o.1)
      (node v ls m o.0 x.0 from next mid rest o.2 a b (subst (λ z. SpellsMapIfAny line m mid z) x.1 d) x.2)))))))

  -- a type and a `|`, and a `:` that may follow
  type_more : (n : Name) (w bar : Token) (ns : List Name) (ts mid after left rest : List Token) (colon : Bool) → ts ≡ w ∷ mid → mid ≡ bar ∷ after →
      IsTrue (is_word w.kind) → n ≡ denotes line w → IsSymbol sign.Bar bar → AteSymbol sign.Colon after colon left →
      SpellsTypes line ns left rest → SpellsTypes line (n ∷ ns) ts rest
  type_more n w bar ns ts mid after left rest true e f is is_n is_bar c s =
      let x = c.there refl in
      let begins : ts ≡ w ∷ bar ∷ x.0 ∷ left = e ∙ ap (λ z. w ∷ z) (f ∙ ap (λ z. bar ∷ z) x.1) in
      subst (λ z. SpellsTypes line (n ∷ ns) z rest) (sym begins)
      (subst (λ z. SpellsTypes line (z ∷ ns) (w ∷ bar ∷ x.0 ∷ left) rest) (sym is_n) (next_type_with_colon ns w bar x.0 left rest is is_bar x.2 s))
  type_more n w bar ns ts mid after left rest false e f is is_n is_bar c s =
      let begins : ts ≡ w ∷ bar ∷ left = e ∙ ap (λ z. w ∷ z) (f ∙ ap (λ z. bar ∷ z) (sym (c.absent refl))) in
      subst (λ z. SpellsTypes line (n ∷ ns) z rest) (sym begins)
      (subst (λ z. SpellsTypes line (z ∷ ns) (w ∷ bar ∷ left) rest) (sym is_n) (next_type ns w bar left rest is is_bar s))

  types-sound-from : (turns : ℕ) (found : List Name) (ts : List Token) → Gives (read.types_from line turns found ts) (Found (SpellsTypes line) found ts)
  unfolding read.types_from
  types-sound-from zero found ts = refused _
  types-sound-from (suc turns) found ts =
      bind (denoting_there is_word line ts) (λ n mid w. bind (ate_symbol sign.Bar mid) (λ goes_on after b. by_test _ _ goes_on after _
      (λ yes. bind (ate_symbol sign.Colon after) (λ colon next c. found_more _ found n ts next (λ these rest others.
      let x = b.there yes in
      type_more n w.0 x.0 these ts mid after next rest colon w.1 x.1 w.2 w.3 x.2 c others)
      (types-sound-from turns (found ++ n ∷ []) next)))
      (λ stop. found_last _ found n ts after
      (subst (λ z. SpellsTypes line (n ∷ []) z after) (sym w.1)
      (subst (λ z. SpellsTypes line (n ∷ []) (w.0 ∷ z) after) (b.absent stop)
      (subst (λ z. SpellsTypes line (z ∷ []) (w.0 ∷ after) after) (sym w.3) (last_type w.0 after w.2)))))))

  types-sound : (ts : List Token) → Gives (read.types line ts) (λ ns rest. SpellsTypes line ns ts rest)
  unfolding read.types
  types-sound ts = all_found (SpellsTypes line) ts (types-sound-from (length ts) [] ts)

  types_if_any-sound : (ts : List Token) → Gives (read.types_if_any line ts) (λ ns rest. SpellsTypesIfAny line ns ts rest)
  unfolding read.types_if_any
  types_if_any-sound ts =
      bind (ate_symbol sign.Colon ts) (λ is_there after c. by_test _ _ is_there after _
      (λ yes. later _ _ (λ ns rest s. (
      let x = c.there yes in
      subst (λ z. SpellsTypesIfAny line ns z rest) (sym x.1) (types ns x.0 after rest x.2 s))) (types-sound after))
      (λ none. answer _ _ _ (subst (λ z. SpellsTypesIfAny line [] z after) (c.absent none) (no_types after))))

-- a number, if any
data SpellsNumberIfAny : Option ℕ → List Token → List Token → Type 0 where
  no_number : (ts : List Token) → SpellsNumberIfAny None ts ts
  a_number : (n : ℕ) (t : Token) (rest : List Token) → t.kind ≡ kind.Number n → SpellsNumberIfAny (Some n) (t ∷ rest) rest

number-at : (ts : List Token) (k : Option TokenKind) → kind_ahead ts ≡ k → Gives (read.number_by k ts) (λ n rest. SpellsNumberIfAny n ts rest)
number-at ts (Some (kind.Number n)) e = number-if (nat_lt n greatest_number)
  where
    number-if : (b : Bool) → Gives ((if b then skip >> pure (Some n) else refuse) ts) (λ n rest. SpellsNumberIfAny n ts rest)
    number-if true = bind_skip _ ts (answer _ _ _ (
        let x = ahead ts (kind.Number n) e in
        subst (λ z. SpellsNumberIfAny (Some n) z (past ts)) (sym x.1) (a_number n x.0 (past ts) x.2)))
    number-if false = refused _
number-at ts _ e = answer _ _ _ (no_number ts)

number_if_any-sound : (ts : List Token) → Gives (read.number_if_any ts) (λ n rest. SpellsNumberIfAny n ts rest)
unfolding read.number_if_any
number_if_any-sound ts = bind_peek _ ts (number-at ts (kind_ahead ts) refl)

-- bounds in order, as a length has them
abbrev AreBounds : ℕ → Option ℕ → Type 0
AreBounds least None = least ≤ greatest_bound
AreBounds least (Some most) = (least ≤ most) × (most ≤ greatest_bound)

record IsRange (least : ℕ) (most : Option ℕ) (ts : List Token) (l : Length) (rest : List Token) : Type 0 where
  pub is : l ≡ record { least = least; most = most }
  pub left_is : rest ≡ ts
  pub bounds_are : AreBounds least most

ranging-sound : (least : ℕ) (most : Option ℕ) (ts : List Token) → Gives (read.ranging least most ts) (IsRange least most ts)
ranging-sound least None ts = without (nat_le least greatest_bound) refl
  where
    without : (b : Bool) → nat_le least greatest_bound ≡ b →
        Gives ((if b then pure (record { least = least; most = None }) else refuse) ts) (IsRange least None ts)
    without true e = answer _ _ _ (record { is = refl; left_is = refl; bounds_are = grind (arith, nat_tests) })
    without false e = refused _
ranging-sound least (Some most) ts = within (nat_le least most && nat_le most greatest_bound) refl
  where
    within : (b : Bool) → (nat_le least most && nat_le most greatest_bound) ≡ b →
        Gives ((if b then pure (record { least = least; most = Some most }) else refuse) ts) (IsRange least (Some most) ts)
    within true e = answer _ _ _ (record { is = refl; left_is = refl; bounds_are = (grind (arith, nat_tests), grind (arith, nat_tests)) })
    within false e = refused _

open_length : (least most : Option ℕ) (dots : Token) (ts from mid rest : List Token) → SpellsNumberIfAny least ts from → from ≡ dots ∷ mid →
    IsSymbol sign.DotDot dots → SpellsNumberIfAny most mid rest → AreBounds (read.least_of least) most →
    SpellsLength (record { least = read.least_of least; most = most }) ts rest
open_length None None dots ts from mid rest (no_number _) e is (no_number _) b =
    subst (λ z. SpellsLength (record { least = 1; most = None }) z rest) (sym e) (unbounded dots rest is)
open_length (Some m) None dots _ from mid rest (a_number _ t _ n) e is (no_number _) b =
    subst (λ z. SpellsLength (record { least = m; most = None }) (t ∷ z) rest) (sym e) (at_least m t dots rest n is b)
open_length None (Some k) dots ts from mid rest (no_number _) e is (a_number _ u _ n) b =
    subst (λ z. SpellsLength (record { least = 1; most = Some k }) z rest) (sym e) (at_most k dots u rest is n b.0 b.1)
open_length (Some m) (Some k) dots _ from mid rest (a_number _ t _ n) e is (a_number _ u _ o) b =
    subst (λ z. SpellsLength (record { least = m; most = Some k }) (t ∷ z) rest) (sym e) (between m k t dots u rest n is o b.0 b.1)

alone-sound : (least : Option ℕ) (ts rest : List Token) → SpellsNumberIfAny least ts rest → Gives (read.alone least rest) (λ l left. SpellsLength l ts left)
alone-sound None ts rest (no_number _) = later _ _ (λ l left r.
    subst (λ z. SpellsLength l ts z) (sym r.left_is) (subst (λ z. SpellsLength z ts ts) (sym r.is) (any_length ts))) (ranging-sound 1 None ts)
alone-sound (Some n) _ rest (a_number _ t _ is) = later _ _ (λ l left r.
    subst (λ z. SpellsLength l (t ∷ rest) z) (sym r.left_is)
    (subst (λ z. SpellsLength z (t ∷ rest) rest) (sym r.is) (exactly n t rest is r.bounds_are.1))) (ranging-sound n (Some n) rest)

bounds-sound : (ts : List Token) → Gives (read.bounds ts) (λ l rest. SpellsLength l ts rest)
unfolding read.bounds
bounds-sound ts =
    bind (number_if_any-sound ts) (λ least from a. bind (ate_symbol sign.DotDot from) (λ is_open mid c. by_test _ _ is_open mid _
    (λ yes. bind (number_if_any-sound mid) (λ most rest b. later _ _ (λ l left r. (
    let x = c.there yes in
    subst (λ z. SpellsLength l ts z) (sym r.left_is)
    (subst (λ z. SpellsLength z ts rest) (sym r.is) (open_length least most x.0 ts from mid rest a x.1 x.2 b r.bounds_are)))) (ranging-sound (read.least_of least) most rest)))
    (λ none. subst (λ z. Gives (read.alone least z) (λ l rest. SpellsLength l ts rest)) (sym (c.absent none)) (alone-sound least ts from a))))

length_if_any-sound : (ts : List Token) → Gives (read.length_if_any ts) (λ l rest. SpellsLengthIfAny l ts rest)
unfolding read.length_if_any
length_if_any-sound ts =
    bind (ate_symbol sign.Star ts) (λ is_there after c. by_test _ _ is_there after _
    (λ yes. bind (bounds-sound after) (λ l rest s. answer _ _ _ (
    let x = c.there yes in
    subst (λ z. SpellsLengthIfAny (Some l) z rest) (sym x.1) (a_length l x.0 after rest x.2 s))))
    (λ none. answer _ _ _ (subst (λ z. SpellsLengthIfAny None z after) (c.absent none) (no_length after))))

arrow-sound : (s : Symbol) (ts : List Token) (b : Bool) (rest : List Token) → AteSymbol s ts b rest → SpellsArrow s b ts rest
arrow-sound s ts true rest c = let x = c.there refl in subst (λ z. SpellsArrow s true z rest) (sym x.1) (arrow x.0 rest x.2)
arrow-sound s ts false rest c = subst (λ z. SpellsArrow s false z rest) (c.absent refl) (no_arrow rest)

module _ (line : List ℕ) where
  body-sound : (towards : Direction) (opening : Token) (ts : List Token) → IsSymbol sign.LeftBracket opening →
      Gives (read.relationship_body line towards ts) (λ r rest. SpellsDetails line r (opening ∷ ts) rest)
  unfolding read.relationship_body
  body-sound towards opening ts is =
      bind (variable_if_any-sound line ts) (λ v from a. bind (types_if_any-sound line from) (λ ns mid b. bind (length_if_any-sound mid) (λ l after c.
      bind (map_if_any-sound line after) (λ m last_ d. bind (symbol_there sign.RightBracket last_) (λ _ rest x. answer _ _ _
      (details v towards ns l m opening x.0 ts from mid after rest is a b c (subst (λ z. SpellsMapIfAny line m after z) x.1 d) x.2))))))

  details-sound : (ts : List Token) → Gives (read.relationship_if_any line ts) (λ r rest. SpellsDetails line r ts rest)
  unfolding read.relationship_if_any
  details-sound ts =
      bind (ate_symbol sign.LeftBracket ts) (λ is_there after c. by_test _ _ is_there after _
      (λ yes. later _ _ (λ r rest s. (
      let x = c.there yes in
      subst (λ z. SpellsDetails line r z rest) (sym x.1) s)) (body-sound direction.Either (c.there yes).0 after (c.there yes).2))
      (λ none. answer _ _ _ (subst (λ z. SpellsDetails line (read.plain_relationship line direction.Either) z after) (c.absent none) (no_details direction.Either after))))

  relationship-sound : (ts : List Token) → Gives (read.relationship line ts) (λ r rest. SpellsRelationship line r ts rest)
  unfolding read.relationship
  relationship-sound ts =
      bind (ate_symbol sign.Less ts) (λ is_left from a. bind (symbol_there sign.Minus from) (λ _ mid x. bind (details-sound mid) (λ r after s.
      bind (symbol_there sign.Minus after) (λ _ last_ y. bind (ate_symbol sign.Greater last_) (λ is_right rest b. answer _ _ _ (
      (relationship r is_left is_right x.0 y.0 ts mid last_ rest (subst (λ z. SpellsArrow sign.Less is_left ts z) x.1 (arrow-sound sign.Less ts is_left from a)) x.2
      (subst (λ z. SpellsDetails line r mid z) y.1 s) y.2 (arrow-sound sign.Greater last_ is_right rest b))))))))

  step-sound : (ts : List Token) → Gives (read.step line ts)
      (λ s rest. (mid : List Token) × SpellsRelationship line s.relationship ts mid × SpellsNode line s.node mid rest)
  unfolding read.step
  step-sound ts = bind (relationship-sound ts) (λ r mid a. bind (node-sound line mid) (λ n rest b. answer _ _ _ (mid, a, b)))

  steps-sound-from : (turns : ℕ) (found : List Step) (ts : List Token) → Gives (read.steps_from line turns found ts) (Found (SpellsSteps line) found ts)
  unfolding read.steps_from
  steps-sound-from zero found ts = found_none _ found ts (no_steps ts)
  steps-sound-from (suc turns) found ts = bind_peek _ ts (by_test _ _ (read.begins_step (kind_ahead ts)) ts _
      (λ yes. bind (step-sound ts) (λ s mid x. found_more _ found s ts mid
      (λ these rest others. a_step s.relationship s.node these ts x.0 mid rest x.1 x.2 others) (steps-sound-from turns (found ++ s ∷ []) mid)))
      (λ none. found_none _ found ts (no_steps ts)))

  pub path-sound : (ts : List Token) → Gives (read.path line ts) (λ p rest. SpellsPath line p ts rest)
  unfolding read.path read.steps
  path-sound ts = bind (node-sound line ts) (λ n mid a. bind (all_found (SpellsSteps line) mid (steps-sound-from (length mid) [] mid)) (λ more rest s. answer _ _ _
      (path n more ts mid rest a s)))

  pub paths-sound : (ts : List Token) → Gives (read.paths line ts) (λ ps rest. SpellsEach (SpellsPath line) ps ts rest)
  unfolding read.paths
  paths-sound ts = separated-sound (read.path line) (SpellsPath line) path-sound ts
