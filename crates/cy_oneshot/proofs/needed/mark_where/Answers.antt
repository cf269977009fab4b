use Rattle.std.proofs.Common.{List, map, subst}
use Rattle.std.specs.Prelude.{Option}
use Rattle.std.proofs.lemmas.Result.{on_ok_weaker}
use Rattle.cy_trees.specs.declared.clauses.PathTest as coded
use Rattle.cy_trees.specs.Trees.{Expression}
use Rattle.cy_trees.specs.TreeModels.{filter_of, path_test_of}
use Rattle.cy_oneshot_patterns.specs.Places.{places}
use Rattle.cy_oneshot.specs.Carried.{ArePlacesRead, IsTestRead}
use Rattle.cy_oneshot.specs.internal.Carried.{StillNeeded}
use Rattle.cy_oneshot.proofs.Filters.{filter_lent}
use Rattle.cy_oneshot.proofs.Marked.{both_ok, still_test, still_then}
use Rattle.cy_oneshot.proofs.needed.mark_where.Goals as goal

pub returns-clause-read : goal.returns-clause-read
returns-clause-read c =
    let before = c.mark_test.new.needed.items in
    let after = c.mark_path_tests.new.needed.items in
    on_ok_weaker c.mark_path_tests.result
    (λ marked. (
      still_test before after marked.1 (filter_of c.args.filter.now.test)
          (subst (λ (t : Option Expression). IsTestRead before t) (filter_lent c.as_ref.result c.args.filter.now.test c.as_ref.ensures.value) c.in_ok-mark_test.ensures.read),
      subst (λ (ts : List coded.PathTest). ArePlacesRead after (places (map (λ t. t.path) (map path_test_of ts)))) c.deref.ensures.value marked.0,
    ))
    (both_ok (ArePlacesRead after (places (map (λ t. t.path) (map path_test_of c.deref.result.now)))) (StillNeeded before after) c.mark_path_tests.result c.mark_path_tests.ensures.read c.mark_path_tests.ensures.still)

pub returns-clause-still : goal.returns-clause-still
returns-clause-still c =
    on_ok_weaker c.mark_path_tests.result (λ still. still_then c.args.needed.now.items c.mark_test.new.needed.items c.mark_path_tests.new.needed.items c.in_ok-mark_test.ensures.still still) c.mark_path_tests.ensures.still
