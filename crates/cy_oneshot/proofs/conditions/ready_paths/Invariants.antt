-- The paths so far are made ready.
use Rattle.std.proofs.Common.{◌≡◌, All, map, take}
use Rattle.cy_trees.specs.TreeModels.{path_test_of}
use Rattle.cy_oneshot.specs.internal.Conditions.{IsReady, tests_in}
use Rattle.cy_oneshot.proofs.conditions.ready_paths.Given as goal

abbrev pub invariant-loop-test : goal.invariant-loop-test
invariant-loop-test l = record {
  made : tests_in l.paths.items ≡ map path_test_of (take l.test-index l.tests);
  ready : All (IsReady l.store.graph.now.content l.width) l.paths.items;
}
