-- One path more.
use Rattle.std.proofs.Common.{◌≡◌, ◌++◌, ◌∷◌, [], All, map, take, sym, ap, subst, ◌∙◌}
use Rattle.std.proofs.lemmas.List.{map-append, take_more}
use Rattle.std.proofs.lemmas.List.Elements.{All-push}
use Rattle.cy_trees.specs.TreeModels.{path_test_of}
use Rattle.cy_oneshot.specs.declared.conditions.PathCondition.{PathCondition}
use Rattle.cy_oneshot.specs.internal.Conditions.{IsReady, tests_in}
use Rattle.cy_oneshot.proofs.conditions.ready_paths.Goals as goal

pub loop-test-preserved : goal.loop-test-preserved
loop-test-preserved c =
    let graph = c.args.store.now.graph.now.content in
    let all = c.args.tests.now in
    let i = c.loop-test.test-index in
    let path = c.in_ok-new.field-0 in
    let test = λ (p : PathCondition). path_test_of p.test.now in
    record {
      made =
          ap tests_in c.in_ok-push.ensures.items
          ∙ map-append test c.loop-test.paths.items (path ∷ [])
          ∙ (λ j. c.loop-test.invariant.made j ++ path_test_of (c.in_ok-new.ensures.test j) ∷ [])
          ∙ sym (ap (map path_test_of) (take_more all i c.test-item.result c.loop-test-test.true ∙ ap (λ t. take i all ++ t ∷ []) (sym c.test-item.is)) ∙ map-append path_test_of (take i all) (c.test-item.result ∷ []));
      ready =
          subst (All (IsReady graph c.args.width)) (sym c.in_ok-push.ensures.items)
          (All-push (IsReady graph c.args.width) c.loop-test.paths.items path c.loop-test.invariant.ready c.in_ok-new.ensures.ready);
    }
