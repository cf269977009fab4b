use Rattle.std.proofs.Common.{◌≡◌, ◌+◌, ◌<◌, length, ap, sym, ◌∙◌, arith}
use Rattle.std.specs.List.{position_from}
use Rattle.std.specs.Option.{option_map_or}
use Rattle.cy_scope_kinds.proofs.ScopesLemmas.{position_inside}
use Rattle.cy_planner_rows.specs.internal.WantedLists.{has_words, words_of}
use Rattle.cy_planner_rows.proofs.WantedLemmas.{place_found}
use Rattle.cy_planner_rows.proofs.wanted.WantedList.place.Goals as goal

pub overflow_add-result : goal.overflow_add-result
overflow_add-result c =
    let found : c.find.result ≡ position_from (has_words c.as_slice.result.now) 0 c.args.self.now = c.find.ensures in
    let inside : c.in-Some.place < 0 + length c.args.self.now = position_inside (has_words c.as_slice.result.now) 0 c.args.self.now c.in-Some.place (sym found ∙ c.in-Some.is) in
    let room = c.requires in
    omega (arith, inside, room)

pub returns-in-Some : goal.returns-in-Some
returns-in-Some c =
    let found : c.find.result ≡ position_from (has_words (words_of c.args.column c.args.attribute.now)) 0 c.args.self.now =
    c.find.ensures ∙ ap (λ l. position_from (has_words l) 0 c.args.self.now) (c.as_slice.ensures.value ∙ c.in_ok-words.ensures) in
    sym (place_found c.args.first c.args.column c.args.attribute.now c.args.self.now c.find.result found ∙ ap (λ o. option_map_or (λ p. c.args.first + p) o (c.args.first + length c.args.self.now)) c.in-Some.is)

pub returns : goal.returns
returns c =
    let found : c.find.result ≡ position_from (has_words (words_of c.args.column c.args.attribute.now)) 0 c.args.self.now =
    c.find.ensures ∙ ap (λ l. position_from (has_words l) 0 c.args.self.now) (c.as_slice.ensures.value ∙ c.in_ok-words.ensures) in
    ap (λ n. c.args.first + n) c.len.ensures
    ∙ sym (place_found c.args.first c.args.column c.args.attribute.now c.args.self.now c.find.result found ∙ ap (λ o. option_map_or (λ p. c.args.first + p) o (c.args.first + length c.args.self.now)) c.in-None.is)
