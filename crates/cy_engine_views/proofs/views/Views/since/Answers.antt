use Rattle.std.proofs.Common.{Some, is_some, sym, ap, ◌∙◌}
use Rattle.std.specs.Option.{option_map}
use Rattle.cy_feeds.specs.Feeds.{answer_since}
use Rattle.cy_engine_views.specs.RegisteredViews.{View}
use Rattle.cy_engine_views.proofs.Named.{view_absent, view_there}
use Rattle.cy_engine_views.proofs.views.Views.since.Goals as goal

pub returns-in_ok-since-in-Some : goal.returns-in_ok-since-in-Some
returns-in_ok-since-in-Some c =
    ap Some c.in_ok-since-in-Some.ensures
    ∙ sym (ap (option_map (λ (view : View). answer_since c.args.tick view.feed)) (view_there c.args.name.now c.in-Some.view.now c.args.self.now.registered.entries c.in-Some.ensures.value))

pub returns-in-None : goal.returns-in-None
returns-in-None c =
    sym (ap (option_map (λ (view : View). answer_since c.args.tick view.feed)) (view_absent c.args.name.now c.args.self.now.registered.entries (sym (ap is_some c.in-None.ensures.value))))
