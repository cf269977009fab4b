-- The number among the distinct ones leads to the place.
use Rattle.std.proofs.Common.{◌≡◌, ℕ, ◌+◌, ◌<◌, ◌≤◌, List, length, ap, sym, subst, ◌∙◌, arith}
use Rattle.std.specs.Prelude.{get_or}
use Rattle.std.proofs.lemmas.Bool.Decides.{nat_tests}
use Rattle.cy_planner_rows.specs.Places as places
use Rattle.cy_planner_tables.proofs.CodeLemmas.{place_most}
use Rattle.cy_planner_tables.proofs.LookupLemmas.{place_known, place_unknown}
use Rattle.cy_planner_tables.proofs.lookup_lists.LookupList.place.Goals as goal

known : (c : goal.After-row_known-1) → c.args.first + c.in-Some.place.now ≡ places.place c.args.first c.args.self.now c.args.column c.args.attribute.now
known c =
    let e = c.in-Some.ensures.lookup.0 in
    let low : c.in_ok-number.number < length c.deref.result.now = grind (arith, nat_tests, e) in
    place_known c.self.inside.lookups.items c.self.inside.distinct c.self.inside.firsts.items c.args.first c.in_ok-number.number c.in-Some.place.now c.args.column c.args.attribute.now
    c.self.invariant c.in_ok-number.ensures
    (subst (λ (places : List ℕ). c.in_ok-number.number < length places) c.deref.ensures.value low)
    (c.in-Some.ensures.lookup.1 ∙ ap (λ (places : List ℕ). get_or places c.in_ok-number.number c.in-Some.place.now) c.deref.ensures.value)
    ∙ ap (λ ws. places.place c.args.first ws c.args.column c.args.attribute.now) c.self.view_is

pub overflow_add-result : goal.overflow_add-result
overflow_add-result c =
    let is = known c in
    let most = place_most c.args.first c.args.self.now c.args.column c.args.attribute.now in
    let room = c.requires in
    omega (arith, is, most, room)

pub returns-in-Some : goal.returns-in-Some
returns-in-Some c = known c

pub returns-in-None : goal.returns-in-None
returns-in-None c =
    let e = c.in-None.ensures.lookup.0 in
    let high : length c.deref.result.now ≤ c.in_ok-number.number = grind (arith, nat_tests, e) in
    ap (λ n. c.args.first + n) c.len.ensures
    ∙ ap (λ ws. c.args.first + length ws) (sym c.self.view_is)
    ∙ place_unknown c.self.inside.lookups.items c.self.inside.distinct c.self.inside.firsts.items c.args.first c.in_ok-number.number c.args.column c.args.attribute.now
    c.self.invariant c.in_ok-number.ensures
    (subst (λ (places : List ℕ). length places ≤ c.in_ok-number.number) c.deref.ensures.value high)
    ∙ ap (λ ws. places.place c.args.first ws c.args.column c.args.attribute.now) c.self.view_is
