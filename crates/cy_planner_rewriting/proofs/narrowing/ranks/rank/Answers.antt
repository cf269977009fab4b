use Rattle.std.proofs.Common.{◌≡◌, ℕ, rules, List, [], ◌∷◌, ◌++◌, None, Option, Some, length, set, sym, subst, ◌∙◌, arith}
use Rattle.std.proofs.lemmas.Grind.{common_steps}
use Rattle.cy_planner_rewriting.specs.internal.Ranks.{AreRanks}
use Rattle.cy_planner_rewriting.proofs.Ranking.{ranks_pushed, there_any}
use Rattle.cy_planner_rewriting.proofs.narrowing.ranks.rank.Goals as goal

pub returns-in-Some-clause-place : goal.returns-in-Some-clause-place
returns-in-Some-clause-place c =
    c.requires.ranked c.args.column c.in-Some.place (there_any c.args.ranks.now.items c.args.column None c.index.result.now c.requires.inside ∙ sym c.index.ensures ∙ c.in-Some.is)

pub returns-clause-ranked : goal.returns-clause-ranked
returns-clause-ranked c =
    let ranks : List (Option ℕ) = c.args.ranks.now.items in
    let kept : List ℕ = c.args.kept.now.items in
    let column : ℕ = c.args.column in
    let long : c.len-place.result ≡ length kept = first_of (search rules, grind (arith, common_steps)) in
    subst (λ (ks : List ℕ). AreRanks (set ranks column (Some c.len-place.result)) ks) (sym c.in_ok-push.ensures.items)
    (subst (λ (n : ℕ). AreRanks (set ranks column (Some n)) (kept ++ column ∷ [])) (sym long) (ranks_pushed ranks kept column c.requires.ranked c.requires.inside))
