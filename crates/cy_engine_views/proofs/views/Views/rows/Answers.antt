use Rattle.std.proofs.Common.{Option, Some, None, is_some, sym, ap, subst, ◌∙◌}
use Rattle.std.proofs.lemmas.Result.{err_from_is_err_and}
use Rattle.cy_engine_views.specs.Upkeep.{Rests}
use Rattle.cy_engine_views.specs.RegisteredViews.{AreShown, View}
use Rattle.cy_engine_views.proofs.Named.{holds_there, is_there, view_absent, view_there}
use Rattle.cy_engine_views.proofs.views.Views.rows.Goals as goal

pub counted-requires : goal.counted-requires
counted-requires c =
    let graph = c.requires.0 in
    let tick = c.requires.1.0 in
    (graph, (holds_there c.args.name.now (λ r. Rests r graph tick) c.in-Some.view.now c.args.self.now.registered.entries c.requires.1.1.rest c.in-Some.ensures.value).rows)

pub returns-in_err-counted-in-Some-clause-there : goal.returns-in_err-counted-in-Some-clause-there
returns-in_err-counted-in-Some-clause-there c =
    let p = err_from_is_err_and c.from_residual.result c.from_residual.ensures.1 in
    rw p.1 (sym (is_there c.args.name.now c.args.self.now.registered.entries) ∙ sym (ap is_some c.in-Some.ensures.value))

pub returns-in_ok-counted-in-Some-clause-rows : goal.returns-in_ok-counted-in-Some-clause-rows
returns-in_ok-counted-in-Some-clause-rows c = λ graph tick stand.
    let entries = c.args.self.now.registered.entries in
    let rests = holds_there c.args.name.now (λ r. Rests r graph tick) c.in-Some.view.now entries stand.rest c.in-Some.ensures.value in
    subst (λ (o : Option View). AreShown o graph (Some c.in_ok-counted-in-Some.field-0.items)) (sym (view_there c.args.name.now c.in-Some.view.now entries c.in-Some.ensures.value))
    (c.in_ok-counted-in-Some.ensures graph rests.rows)

pub returns-in-None-clause-rows : goal.returns-in-None-clause-rows
returns-in-None-clause-rows c = λ graph tick stand.
    subst (λ (o : Option View). AreShown o graph None) (sym (view_absent c.args.name.now c.args.self.now.registered.entries (sym (ap is_some c.in-None.ensures.value)))) tt
