use Rattle.std.proofs.Common.{sym, ◌∙◌, arith}
use Rattle.std.proofs.lemmas.List.{length-map}
use Rattle.cy_engine_views.specs.HeldViews.{view_of}
use Rattle.cy_engine_views.specs.Upkeep.{held_in}
use Rattle.cy_engine_lines.specs.Model.{state_of}
use Rattle.cy_engine_lines.specs.Fields.{machine_of}
use Rattle.cy_engine_lines.proofs.Steps.{name_free, name_taken, many_views, may_make}
use Rattle.cy_engine_lines.proofs.engine.Engine.next_view.Goals as goal

pub returns-then-contains-clause-made : goal.returns-then-contains-clause-made
returns-then-contains-clause-made c =
    sym (name_taken c.args.name.now (state_of c.args.self.now) (rw (← c.self.view_is) (sym c.contains.ensures ∙ c.if-contains.true)))

pub returns-then-len-ge-VIEW_LIMIT-clause-made : goal.returns-then-len-ge-VIEW_LIMIT-clause-made
returns-then-len-ge-VIEW_LIMIT-clause-made c =
    sym (many_views c.args.name.now (state_of c.args.self.now)
    (rw (← c.self.view_is) (name_free _ (sym c.contains.ensures ∙ c.if-contains.false)))
    (rw (← c.self.view_is) (omega (arith, length-map (held_in c.self.inside.views) view_of, c.len.ensures, c.if-len-ge-VIEW_LIMIT.true))))

pub returns-clause-made : goal.returns-clause-made
returns-clause-made c =
    let old = c.self.inside in
    let state = state_of (machine_of old.store old.views old.tick old.history old.entries) in
    rw (← c.self.view_is) (c.next_tick.ensures.next ∙ sym (may_make c.args.name.now state
    (name_free _ (sym c.contains.ensures ∙ c.if-contains.false))
    (omega (arith, length-map (held_in old.views) view_of, c.len.ensures, c.if-len-ge-VIEW_LIMIT.false))))
