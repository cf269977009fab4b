use Rattle.std.proofs.Common.{Bool, List, map, sym, subst}
use Rattle.cy_trees.specs.TreeModels.{clause_of}
use Rattle.cy_oneshot.specs.Carried.{AreAlike, IsEnough, updates_ahead}
use Rattle.cy_oneshot.proofs.Marked.{all_alike, none_enough}
use Rattle.cy_oneshot.proofs.needed.needed_after.Goals as goal

pub returns-in-Match-clause-enough : goal.returns-in-Match-clause-enough
returns-in-Match-clause-enough c =
    subst (λ (flags : List Bool). IsEnough (updates_ahead (map clause_of c.args.others.now)) flags (map clause_of c.args.others.now)) (sym c.new.ensures.items)
    (none_enough (updates_ahead (map clause_of c.args.others.now)) (map clause_of c.args.others.now))

pub returns-in-Match-clause-alike : goal.returns-in-Match-clause-alike
returns-in-Match-clause-alike c =
    λ ahead. subst (λ (flags : List Bool). AreAlike flags c.args.rows.now) (sym c.new.ensures.items) (all_alike c.args.rows.now)
