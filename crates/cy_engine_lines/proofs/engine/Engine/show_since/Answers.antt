use Rattle.std.proofs.Common.{◌≡◌, Option, None, Some, true, is_some, refl, sym, ap, ◌∙◌, inr}
use Rattle.cy_feeds.specs.declared.feeds.Answer.TheVariants.{Entries as Since, Lagged}
use Rattle.cy_engine_views.specs.Upkeep.{views_in}
use Rattle.cy_engine_views.specs.RegisteredViews.{View, view_among}
use Rattle.cy_engine_lines.specs.Model.{state_of}
use Rattle.cy_engine_lines.specs.Fields.{machine_of}
use Rattle.cy_engine_lines.proofs.Since.{is_known, lagged, no_tick, no_view, told, untold}
use Rattle.cy_engine_lines.proofs.Steps.{name_free}
use Rattle.cy_engine_lines.proofs.engine.Engine.show_since.Goals as goal

-- the view that is there
one_found : (o : Option View) → is_some o ≡ true → (view : View) × (o ≡ Some view)
one_found None some = cc
one_found (Some view) some = (view, refl)

pub returns-then-not-contains : goal.returns-then-not-contains
returns-then-not-contains c =
    let old = c.self.inside in
    inr (rw (← c.self.view_is) (no_view c.args.name.now c.args.tick (state_of (machine_of old.store old.views old.tick old.history old.entries)) (name_free _ (sym c.contains.ensures ∙ c.if-not-contains.true))))

pub returns-then-tick-self : goal.returns-then-tick-self
returns-then-tick-self c =
    let old = c.self.inside in
    let found = one_found (view_among c.args.name.now (views_in old.views)) (sym c.contains.ensures ∙ c.if-not-contains.false) in
    inr (rw (← c.self.view_is) (no_tick c.args.name.now c.args.tick (state_of (machine_of old.store old.views old.tick old.history old.entries)) found.0 found.1 c.if-tick-self.true))

pub returns-in_ok-from_str-in-Some-Entries : goal.returns-in_ok-from_str-in-Some-Entries
returns-in_ok-from_str-in-Some-Entries c =
    let old = c.self.inside in
    let found = told (view_among c.args.name.now (views_in old.views)) c.args.tick (Since c.in-Some-Entries.entries) (sym (c.in-Some-Entries.is ∙ ap Some c.in-Some-Entries.field-0-is) ∙ c.in_ok-entries.ensures) in
    rw (← c.self.view_is) (
      found.0,
      is_known c.args.name.now c.args.tick (state_of (machine_of old.store old.views old.tick old.history old.entries)) found.0 found.1 c.if-tick-self.false,
      (sym found.2, refl, c.in_ok-from_str-in-Some-Entries.ensures),
    )

pub returns-in-Some-Lagged : goal.returns-in-Some-Lagged
returns-in-Some-Lagged c =
    let old = c.self.inside in
    let found = told (view_among c.args.name.now (views_in old.views)) c.args.tick Lagged (sym (c.in-Some-Lagged.is ∙ ap Some c.in-Some-Lagged.field-0-is) ∙ c.in_ok-entries.ensures) in
    rw (← c.self.view_is) (lagged c.args.name.now c.args.tick (state_of (machine_of old.store old.views old.tick old.history old.entries)) found.0 found.1 c.if-tick-self.false (sym found.2) c.show_rows.result
    (rw (← c.self.view_is) at (c.show_rows.ensures)))

pub returns-in-None : goal.returns-in-None
returns-in-None c =
    let old = c.self.inside in
    inr (rw (← c.self.view_is) (no_view c.args.name.now c.args.tick (state_of (machine_of old.store old.views old.tick old.history old.entries))
    (untold (view_among c.args.name.now (views_in old.views)) c.args.tick (sym c.in-None.is ∙ c.in_ok-entries.ensures))))
