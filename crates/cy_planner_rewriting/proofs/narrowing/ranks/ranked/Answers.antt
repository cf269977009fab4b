use Rattle.std.proofs.Common.{ℕ, ◌<◌, List, [], ◌∷◌, ◌++◌, take, sym, subst, ◌∙◌}
use Rattle.std.specs.Prelude.{slice_index_or}
use Rattle.std.specs.List.{AllByRecursion}
use Rattle.std.proofs.lemmas.List.{take_more}
use Rattle.cy_planner_rewriting.specs.internal.Ranks.{AreRanked}
use Rattle.cy_planner_rewriting.proofs.Ranking.{none_ranked, ranked_longer}
use Rattle.cy_planner_rewriting.proofs.narrowing.ranks.ranked.Goals as goal

pub loop-column-init : goal.loop-column-init
loop-column-init c =
    record {
      ranks = c.in_ok-ranks.ensures.ranks c.new-kept.result.items;
      all = c.in_ok-ranks.ensures.all;
      ranked =
          subst (λ (ks : List ℕ). AreRanked c.args.width [] ks c.in_ok-places.places.items) (sym c.new-kept.ensures.items)
          (subst (λ (ps : List ℕ). AreRanked c.args.width [] [] ps) (sym c.in_ok-places.ensures.items) (none_ranked c.args.width));
    }

pub loop-column-preserved : goal.loop-column-preserved
loop-column-preserved c =
    let width : ℕ = c.args.width in
    let columns : List ℕ = c.args.columns.now in
    let i : ℕ = c.loop-column.column-index in
    let column : ℕ = slice_index_or columns i 0 in
    let kept : List ℕ = c.loop-column.kept.items in
    let places : List ℕ = c.loop-column.places.items in
    let longer : List ℕ = c.rank.new.kept.items in
    let inside : AllByRecursion (λ k. k < width) kept → AllByRecursion (λ k. k < width) longer =
    subst (λ (n : ℕ). AllByRecursion (λ k. k < n) kept → AllByRecursion (λ k. k < n) longer) c.loop-column.invariant.all c.in_ok-place.ensures.there in
    let so_far : AreRanked width (take i columns) kept places = c.loop-column.invariant.ranked in
    record {
      ranks = c.in_ok-place.ensures.ranked;
      all = c.in_ok-place.ensures.all ∙ c.loop-column.invariant.all;
      ranked =
          subst (λ (cs : List ℕ). AreRanked width cs longer c.push.new.self.items) (sym (take_more columns i 0 c.loop-column-test.true))
          (subst (λ (ps : List ℕ). AreRanked width (take i columns ++ column ∷ []) longer ps) (sym c.in_ok-push.ensures.items)
          (ranked_longer width (take i columns) kept places longer column c.in_ok-place.place so_far c.in_ok-place.ensures.longer c.in_ok-place.ensures.place c.in_ok-place.ensures.few (inside so_far.there)));
    }
