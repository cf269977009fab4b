use Rattle.std.proofs.Common.{List, [], ◌∷◌, ◌++◌, length, map, sym, ap, subst, ◌∙◌}
use Rattle.std.proofs.lemmas.Iterator.Adapters.{YieldsList-from_vec}
use Rattle.std.proofs.lemmas.Iterator.Consumers.{YieldsList-end, YieldsList-turn}
use Rattle.std.proofs.lemmas.List.{map-id}
use Rattle.cy_values.specs.declared.rows.Cell.{Cell}
use Rattle.cy_planner_algebra.specs.PlanModels.{plan_of}
use Rattle.cy_network_sources.specs.internal.Through.{AreFit, attribute_in, through}
use Rattle.cy_network_sources.proofs.ThroughSteps.{fit_each, more_through, none_through}
use Rattle.cy_network_sources.proofs.entities.rows_through.Goals as goal

pub loop-row-init : goal.loop-row-init
loop-row-init c = c.new-made.ensures.items ∙ sym (none_through (attribute_in c.args.entity) (map (λ part. plan_of part.now) c.args.parts.now))

pub add_row-requires : goal.add_row-requires
add_row-requires c =
    let ps = map (λ part. plan_of part.now) c.args.parts.now in
    let gives = c.into_iter-row-iterator.ensures.into_iter_gives in
    let turn =
    YieldsList-turn (YieldsList-from_vec {s = c.into_iter-row-iterator.result} c.args.rows.items gives.0 (gives.1 ∙ c.args.rows.ok.0)) c.loop-row.yielded c.loop-row.row-iterator c.loop-row.yielded_by c.next.result c.next.new.self c.in-Some.row c.in-Some.is c.next.ensures.steps in
    subst (λ (r : List Cell). AreFit (attribute_in c.args.entity) ps (r ∷ [])) (sym turn.1)
    (fit_each (attribute_in c.args.entity) ps c.args.rows.items (length c.loop-row.yielded) c.in-Some.row turn.0 c.requires)

pub loop-row-preserved : goal.loop-row-preserved
loop-row-preserved c =
    let ps = map (λ part. plan_of part.now) c.args.parts.now in
    c.in_ok-add_row.ensures
    ∙ ap (λ made. made ++ through (attribute_in c.args.entity) ps (c.in-Some.row ∷ [])) c.loop-row.invariant
    ∙ sym (more_through (attribute_in c.args.entity) ps c.loop-row.yielded (c.in-Some.row ∷ []))

pub returns : goal.returns
returns c =
    let gives = c.into_iter-row-iterator.ensures.into_iter_gives in
    let seen = YieldsList-end (YieldsList-from_vec {s = c.into_iter-row-iterator.result} c.args.rows.items gives.0 (gives.1 ∙ c.args.rows.ok.0)) c.loop-row.yielded c.loop-row.row-iterator c.loop-row.yielded_by c.next.result c.next.new.self c.in-None.is c.next.ensures.steps in
    c.loop-row.invariant ∙ ap (through (attribute_in c.args.entity) (map (λ part. plan_of part.now) c.args.parts.now)) (sym (map-id c.loop-row.yielded) ∙ seen.0)
