use Rattle.std.proofs.Common.{◌≡◌, ◌<◌, ◌≤◌, true, false, List, map, Option, Some, None, sym, ap, ◌∙◌, arith}
use Rattle.std.specs.Prelude.{slice_get, ltb, if◌then◌else◌}
use Rattle.std.proofs.lemmas.Bool.Decides.{nat_tests}
use Rattle.cy_values.specs.declared.numbers.RelId.{RelId}
use Rattle.cy_graph.specs.declared.nodes.Rel.{Rel}
use Rattle.cy_graph.proofs.Least.{least_is}
use Rattle.cy_graph.proofs.graph.Graph.least_rel.Goals as goal

below : (a b : RelId) → a.0 < b.0 → Some a ≡ Some (if ltb a.0 b.0 then a else b)
below a b lt = let t : ltb a.0 b.0 ≡ true = grind (arith, nat_tests) in sym (ap (λ c. Some (if c then a else b)) t)

not_below : (a b : RelId) → b.0 ≤ a.0 → Some b ≡ Some (if ltb a.0 b.0 then a else b)
not_below a b le = let t : ltb a.0 b.0 ≡ false = grind (arith, nat_tests) in sym (ap (λ c. Some (if c then a else b)) t)

-- the number of the first relationship
abbrev first_id : List (RelId × Rel) → Option RelId
first_id rels = slice_get (map (λ e. e.0) rels) 0

pub returns-then-out-into : goal.returns-then-out-into
returns-then-out-into c =
    let both = c.in-Some-Some in
    below both.out both.into c.if-out-into.true
    ∙ least_is c.args.id c.args.self.now.now.content.rels c.laws.ensures.rels_rising (Some both.out) (Some both.into) (sym (ap first_id both.ensures.steps) ∙ ap first_id c.out_rels.ensures) (sym (ap first_id both.ensures'.steps) ∙ ap first_id c.in_rels.ensures)

pub returns-else-out-into : goal.returns-else-out-into
returns-else-out-into c =
    let both = c.in-Some-Some in
    not_below both.out both.into c.if-out-into.false
    ∙ least_is c.args.id c.args.self.now.now.content.rels c.laws.ensures.rels_rising (Some both.out) (Some both.into) (sym (ap first_id both.ensures.steps) ∙ ap first_id c.out_rels.ensures) (sym (ap first_id both.ensures'.steps) ∙ ap first_id c.in_rels.ensures)

pub returns-in-None-None : goal.returns-in-None-None
returns-in-None-None c =
    let none = c.in-None-None in
    least_is c.args.id c.args.self.now.now.content.rels c.laws.ensures.rels_rising None None (sym (ap first_id none.ensures.steps.0) ∙ ap first_id c.out_rels.ensures) (sym (ap first_id none.ensures'.steps.0) ∙ ap first_id c.in_rels.ensures)

pub returns-in-Some-None : goal.returns-in-Some-None
returns-in-Some-None c =
    let one = c.in-Some-None in
    least_is c.args.id c.args.self.now.now.content.rels c.laws.ensures.rels_rising (Some one.out) None (sym (ap first_id one.ensures.steps) ∙ ap first_id c.out_rels.ensures) (sym (ap first_id one.ensures'.steps.0) ∙ ap first_id c.in_rels.ensures)

pub returns-in-None-Some : goal.returns-in-None-Some
returns-in-None-Some c =
    let one = c.in-None-Some in
    least_is c.args.id c.args.self.now.now.content.rels c.laws.ensures.rels_rising None (Some one.into) (sym (ap first_id one.ensures.steps.0) ∙ ap first_id c.out_rels.ensures) (sym (ap first_id one.ensures'.steps) ∙ ap first_id c.in_rels.ensures)
