use Rattle.std.proofs.Common.{List, Bool, [], map, subst, sym, ◌≡◌, ◌∙◌, true, false, arith}
use Rattle.std.proofs.lemmas.Bool.{false≢true}
use Rattle.std.proofs.lemmas.Grind.{common_steps}
use Rattle.cy_trees.specs.TreeModels.{clause_of}
use Rattle.cy_oneshot.specs.Carried.{AreAlike, IsEnough, updates_ahead}
use Rattle.cy_oneshot.proofs.Marked.{all_alike, none_enough, only_ahead, still_enough}
use Rattle.cy_oneshot.proofs.needed.needed_by.Goals as goal

pub returns-then-not-updates_ahead-clause-alike : goal.returns-then-not-updates_ahead-clause-alike
returns-then-not-updates_ahead-clause-alike c = λ ahead. absurd (false≢true (let none : c.updates_ahead.result ≡ false = cc in sym none ∙ c.updates_ahead.ensures ∙ ahead))

pub returns-then-not-updates_ahead-clause-enough : goal.returns-then-not-updates_ahead-clause-enough
returns-then-not-updates_ahead-clause-enough c =
    only_ahead (updates_ahead (map clause_of c.args.clauses.now)) c.in_ok-needed.needed.items (map clause_of c.args.clauses.now)
    (λ ahead. ahead) c.in_ok-needed.ensures.enough

pub returns-clause-enough : goal.returns-clause-enough
returns-clause-enough c =
    only_ahead (updates_ahead (map clause_of c.args.clauses.now)) c.mark_differences.new.needed.items (map clause_of c.args.clauses.now) (λ ahead. ahead)
    (still_enough c.in_ok-needed.needed.items c.mark_differences.new.needed.items c.mark_differences.ensures.still true (map clause_of c.args.clauses.now) c.in_ok-needed.ensures.enough)

pub returns-then-is_empty-clause-alike : goal.returns-then-is_empty-clause-alike
returns-then-is_empty-clause-alike c =
    λ ahead.
    let none : c.in_ok-needed.needed.items ≡ [] = grind (arith, common_steps) in
    subst (λ (l : List Bool). AreAlike l c.args.rows.now) (sym none) (all_alike c.args.rows.now)

pub returns-then-is_empty-clause-enough : goal.returns-then-is_empty-clause-enough
returns-then-is_empty-clause-enough c =
    let none : c.in_ok-needed.needed.items ≡ [] = grind (arith, common_steps) in
    subst (λ (l : List Bool). IsEnough (updates_ahead (map clause_of c.args.clauses.now)) l (map clause_of c.args.clauses.now)) (sym none)
    (none_enough (updates_ahead (map clause_of c.args.clauses.now)) (map clause_of c.args.clauses.now))
