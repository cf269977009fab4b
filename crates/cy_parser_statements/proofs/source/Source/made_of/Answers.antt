use Rattle.std.proofs.Common.{rules, arith, ◌≡◌, map, option_map, reverse, [], ◌∷◌, Some, sym, ap, ◌∙◌}
use Rattle.std.proofs.lemmas.Grind.{common_steps}
use Rattle.std.proofs.lemmas.List.{map-append}
use Rattle.cy_trees.specs.TreeModels.{path_test_of, filter_of}
use Rattle.cy_parser_grammar.specs.internal.Clauses.{where_from}
use Rattle.cy_parser_statements.specs.internal.Parts.{condition_of, part_of}
use Rattle.cy_parser_statements.proofs.PartsLemmas.{popped, joined, all_refused, path_added, no_parts}
use Rattle.cy_parser_statements.proofs.source.Source.made_of.Goals as goal
use Rattle.cy_parser_statements.proofs.source.Source.made_of.Goals.{in-Some-test, in-None}

pub returns-in_err-conjoined-in-Condition : goal.returns-in_err-conjoined-in-Condition
returns-in_err-conjoined-in-Condition c =
    let all =
    c.loop-part.invariant
    ∙ ap (λ ps. where_from (record { test = option_map condition_of c.loop-part.test; paths = map path_test_of c.loop-part.paths.items }) ps c.args.tokens.now)
    (popped c.loop-part.parts.items c.pop.new.self.items c.in-Some.part c.in-Some.ensures.items
    ∙ ap (λ p. part_of p ∷ map part_of (reverse c.pop.new.self.items)) c.in-Condition.is) in
    let none =
    all_refused (record { test = option_map condition_of c.loop-part.test; paths = map path_test_of c.loop-part.paths.items }) (condition_of c.in-Condition.condition)
    (map part_of (reverse c.pop.new.self.items)) c.args.tokens.now all c.in_err-conjoined-in-Condition.ensures in
    first_of (search rules, grind (arith, common_steps))

pub loop-part-preserved-in-Condition : goal.loop-part-preserved-in-Condition
loop-part-preserved-in-Condition c =
    c.loop-part.invariant
    ∙ ap (λ ps. where_from (record { test = option_map condition_of c.loop-part.test; paths = map path_test_of c.loop-part.paths.items }) ps c.args.tokens.now)
    (popped c.loop-part.parts.items c.pop.new.self.items c.in-Some.part c.in-Some.ensures.items
    ∙ ap (λ p. part_of p ∷ map part_of (reverse c.pop.new.self.items)) c.in-Condition.is)
    ∙ joined (record { test = option_map condition_of c.loop-part.test; paths = map path_test_of c.loop-part.paths.items }) (condition_of c.in-Condition.condition)
    (condition_of c.in_ok-conjoined-in-Condition.field-0) (map part_of (reverse c.pop.new.self.items)) c.args.tokens.now c.args.tokens.now c.in_ok-conjoined-in-Condition.ensures

pub loop-part-preserved : goal.loop-part-preserved
loop-part-preserved c =
    c.loop-part.invariant
    ∙ ap (λ ps. where_from (record { test = option_map condition_of c.loop-part.test; paths = map path_test_of c.loop-part.paths.items }) ps c.args.tokens.now)
    (popped c.loop-part.parts.items c.pop.new.self.items c.in-Some.part c.in-Some.ensures.items
    ∙ ap (λ p. part_of p ∷ map part_of (reverse c.pop.new.self.items)) c.in-Path.is)
    ∙ path_added (record { test = option_map condition_of c.loop-part.test; paths = map path_test_of c.loop-part.paths.items }) (path_test_of c.in-Path.path)
    (map part_of (reverse c.pop.new.self.items)) c.args.tokens.now
    ∙ ap (λ ts. where_from (record { test = option_map condition_of c.loop-part.test; paths = ts }) (map part_of (reverse c.pop.new.self.items)) c.args.tokens.now)
    (sym (ap (map path_test_of) c.in_ok-push-in-Path.ensures.items ∙ map-append path_test_of c.loop-part.paths.items (c.in-Path.path ∷ [])))

pub returns : goal.returns
returns c =
    let none : c.loop-part.parts.items ≡ [] = first_of (search rules, grind (arith, common_steps)) in
    let test : option_map condition_of c.loop-part.test ≡ filter_of c.match-test-2.result =
    elim c.match-test-2.branch [
      | in-Some-test w ↦ first_of (search rules, grind (arith, common_steps))
      | in-None w ↦ first_of (search rules, grind (arith, common_steps))
    ] in
    c.loop-part.invariant
    ∙ ap (λ ps. where_from (record { test = option_map condition_of c.loop-part.test; paths = map path_test_of c.loop-part.paths.items }) (map part_of (reverse ps)) c.args.tokens.now) none
    ∙ no_parts (record { test = option_map condition_of c.loop-part.test; paths = map path_test_of c.loop-part.paths.items }) c.args.tokens.now
    ∙ ap (λ t. Some (record { test = t; paths = map path_test_of c.loop-part.paths.items }, c.args.tokens.now)) test
