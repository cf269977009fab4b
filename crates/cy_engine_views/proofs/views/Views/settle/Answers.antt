use Rattle.std.proofs.Common.{map, sym, ap, ◌∙◌, arith}
use Rattle.std.proofs.lemmas.List.{length-map}
use Rattle.cy_engine_views.specs.Upkeep.{IsReady, Rests, held}
use Rattle.cy_engine_views.specs.RegisteredViews.{Entries, fed}
use Rattle.cy_engine_views.specs.internal.Loops.{IsSettledFrom}
use Rattle.cy_engine_views.proofs.Feeding.{all_take, kept_up, settled_named, settled_rests, views_fed}
use Rattle.cy_engine_views.proofs.Going.{related_hold, related_length}
use Rattle.cy_engine_views.proofs.Named.{views}
use Rattle.cy_engine_views.proofs.views.Views.settle.Goals as goal

pub settle_all-requires : goal.settle_all-requires
settle_all-requires c = let given = c.requires in all_take given.0 given.1.0 c.args.tick c.args.self.now.registered.entries given.1.1.1.ready

pub returns-clause-stand : goal.returns-clause-stand
returns-clause-stand c = λ before after entries ready.
    let old = c.args.self.now.registered.entries in
    let now = c.settle_all.new.registry.entries in
    record {
      rest = related_hold (IsSettledFrom c.args.tick) (λ view. IsReady view before after c.args.tick) (λ view. Rests view after.content c.args.tick)
          (λ view next r s. settled_rests before after c.args.tick view next r s) old now c.settle_all.ensures ready.ready;
      named = settled_named c.args.tick old now c.settle_all.ensures ready.named;
      few = omega (arith, length-map old held, length-map now held, related_length (IsSettledFrom c.args.tick) old now c.settle_all.ensures, ready.few);
    }

pub returns-clause-fed : goal.returns-clause-fed
returns-clause-fed c = λ before after entries ready.
    let old = c.args.self.now.registered.entries in
    views_fed c.args.tick old c.settle_all.new.registry.entries c.settle_all.ensures ready.named ∙ ap (λ (es : Entries). map (fed es) (views old)) (sym ready.are)

pub returns-clause-kept : goal.returns-clause-kept
returns-clause-kept c = λ before after entries ready. kept_up before after c.args.tick c.args.self.now.registered.entries c.settle_all.new.registry.entries c.settle_all.ensures ready.ready
