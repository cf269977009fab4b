use Rattle.std.proofs.Common.{subst}
use Rattle.cy_network_relevance.specs.Masks.{AreApart}
use Rattle.cy_network_relevance.specs.declared.masks.Mask.{Mask}
use Rattle.cy_engine_views.proofs.Still.{still_rows}
use Rattle.cy_engine_views.proofs.rows.QueryRows.may_change.Goals as goal

pub returns : goal.returns
returns c = λ no before now touches change is. still_rows c.args.self.now before now touches change (subst (λ (m : Mask). AreApart c.args.self.now.reads m) is (c.meets.ensures.apart no))
