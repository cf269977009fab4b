use Rattle.std.proofs.Common.{◌≡◌, [], ◌∷◌, ◌++◌, true, false, if◌then◌else◌, is_some, List, ap, sym, subst, ◌∙◌}
use Rattle.std.specs.BTreeMap.{insert_entry}
use Rattle.std.specs.List.{position_from}
use Rattle.std.specs.Map.{lookup}
use Rattle.cy_planner_rows.specs.declared.places.Wanted.{Wanted}
use Rattle.cy_planner_rows.specs.Places as places
use Rattle.cy_planner_rows.specs.internal.WantedLists.{ArePlaced, by_items, has, has_words, words_of}
use Rattle.cy_planner_rows.proofs.WantedLemmas.{added_if, placed_more, unless_new}
use Rattle.cy_planner_rows.proofs.wanted.WantedList.add.Goals as goal
use Rattle.cy_planner_rows.proofs.wanted.WantedList.add.Goals.{in-Property-4, in-RelType-4}

grown : (c : goal.After-push_reserved) → c.push_reserved.new.self.items ≡ c.self.inside.wanted.items ++ c.args.asked ∷ []
grown c = c.push_reserved.ensures.items ∙ ap (λ (ws : List Wanted). ws ++ c.args.asked ∷ []) c.in_ok-reserve.ensures.items

pub invariant_of-self-then-branch : goal.invariant_of-self-then-branch
invariant_of-self-then-branch c =
    let before : List Wanted = c.self.inside.wanted.items in
    let asked : Wanted = c.args.asked in
    let entries = c.self.inside.places.entries in
    let key = c.in_ok-words.words in
    let found = lookup (has key.items) entries in
    let at : found ≡ position_from (has_words (words_of asked.column asked.attribute)) 0 before = c.self.invariant key.items ∙ ap (λ l. position_from (has_words l) 0 before) c.in_ok-words.ensures in
    let put = c.in_ok-add_place.ensures.places ∙ ap (λ b. if b then insert_entry by_items entries key c.len-place.result else entries) c.if-branch.true in
    subst (ArePlaced c.add_place.new.places.entries) (sym (grown c))
    (subst (λ es. ArePlaced es (before ++ asked ∷ [])) (sym put)
    (placed_more entries before asked key found c.len-place.result c.self.invariant c.in_ok-words.ensures at (unless_new (is_some found) true (sym c.in_ok-add_place.ensures.new ∙ c.if-branch.true))
    (c.len-place.ensures ∙ c.self.inside.wanted.ok.0)))

pub returns-then-branch : goal.returns-then-branch
returns-then-branch c =
    let before : List Wanted = c.self.inside.wanted.items in
    let asked : Wanted = c.args.asked in
    let found = lookup (has c.in_ok-words.words.items) c.self.inside.places.entries in
    let at : found ≡ position_from (has_words (words_of asked.column asked.attribute)) 0 before = c.self.invariant c.in_ok-words.words.items ∙ ap (λ l. position_from (has_words l) 0 before) c.in_ok-words.ensures in
    grown c
    ∙ sym (added_if before asked false found at (sym (unless_new (is_some found) true (sym c.in_ok-add_place.ensures.new ∙ c.if-branch.true))))
    ∙ ap (λ ws. places.added ws asked) c.self.view_is

pub returns-else-branch : goal.returns-else-branch
returns-else-branch c =
    let before : List Wanted = c.self.inside.wanted.items in
    let asked : Wanted = c.args.asked in
    let found = lookup (has c.in_ok-words.words.items) c.self.inside.places.entries in
    let at : found ≡ position_from (has_words (words_of asked.column asked.attribute)) 0 before = c.self.invariant c.in_ok-words.words.items ∙ ap (λ l. position_from (has_words l) 0 before) c.in_ok-words.ensures in
    let there : before ≡ places.added before asked = sym (added_if before asked true found at (sym (unless_new (is_some found) false (sym c.in_ok-add_place.ensures.new ∙ c.if-branch.false)))) in
    let same : c.match-asked-4.self ≡ before = elim c.match-asked-4.branch [
      | in-Property-4 w ↦ w.self-is ∙ c.in_ok-reserve.ensures.items
      | in-RelType-4 w ↦ w.self-is ∙ c.in_ok-reserve.ensures.items
    ] in
    same ∙ there ∙ ap (λ ws. places.added ws asked) c.self.view_is
