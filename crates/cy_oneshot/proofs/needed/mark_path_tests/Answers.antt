use Rattle.std.proofs.Common.{◌≡◌, List, [], ◌∷◌, map, refl, ap, subst}
use Rattle.std.proofs.lemmas.List.{take_all}
use Rattle.std.specs.List.{AllByRecursion}
use Rattle.cy_trees.specs.Trees.{Path}
use Rattle.cy_trees.specs.declared.clauses.PathTest as coded
use Rattle.cy_trees.specs.TreeModels.{path_of, path_test_of}
use Rattle.cy_oneshot_patterns.specs.Places.{path_places, places}
use Rattle.cy_oneshot.specs.Carried.{ArePlacesRead}
use Rattle.cy_oneshot.proofs.Marked.{each_more, paths_read, still_nothing, still_places, still_then}
use Rattle.cy_oneshot.proofs.needed.mark_path_tests.Goals as goal

-- the paths of the tests
through : (ts : List coded.PathTest) → map (λ (t : coded.PathTest). path_of t.path) ts ≡ map (λ t. t.path) (map path_test_of ts)
through [] = refl
through (t ∷ ts) = ap (λ l. path_of t.path ∷ l) (through ts)

pub loop-test-init : goal.loop-test-init
loop-test-init c = record { read = tt; still = still_nothing c.args.needed.now.items }

pub loop-test-preserved : goal.loop-test-preserved
loop-test-preserved c =
    let before = c.loop-test.needed.items in
    let after = c.mark_path.new.needed.items in
    let marked = c.in_ok-mark_path.ensures in
    record {
      read = each_more (λ flags x. ArePlacesRead flags (path_places x)) (λ (t : coded.PathTest). path_of t.path) before after c.args.tests.now c.loop-test.test-index c.test-item.result c.loop-test-test.true c.test-item.is
          (λ x are. still_places before after marked.still (path_places x) are) c.loop-test.invariant.read marked.read;
      still = still_then c.args.needed.now.items before after c.loop-test.invariant.still marked.still;
    }

pub returns-clause-read : goal.returns-clause-read
returns-clause-read c =
    let flags = c.loop-test.needed.items in
    subst (λ (xs : List Path). ArePlacesRead flags (places xs)) (through c.args.tests.now) (paths_read flags (map (λ (t : coded.PathTest). path_of t.path) c.args.tests.now)
    (subst (λ (xs : List coded.PathTest). AllByRecursion (λ x. ArePlacesRead flags (path_places x)) (map (λ (t : coded.PathTest). path_of t.path) xs)) (take_all c.loop-test.test-index c.args.tests.now c.loop-test-test.false) c.loop-test.invariant.read))

pub returns-clause-still : goal.returns-clause-still
returns-clause-still c = c.loop-test.invariant.still
