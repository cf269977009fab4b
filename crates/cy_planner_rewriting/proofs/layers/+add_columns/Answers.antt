use Rattle.std.proofs.Common.{◌≡◌, rules, [], ◌∷◌, ◌++◌, arith}
use Rattle.std.proofs.lemmas.Grind.{common_steps}
use Rattle.cy_planner_rewriting.specs.declared.layers.Layer.TheVariants as layer
use Rattle.cy_planner_rewriting.proofs.Rising.{rises_over_filter, rises_over_test}
use Rattle.cy_planner_rewriting.proofs.layers.+add_columns.Goals as goal

pub returns-in_ok-push-in-Some-Filter : goal.returns-in_ok-push-in-Some-Filter
returns-in_ok-push-in-Some-Filter t c p =
    let from : c.args.layers.now.items ≡ c.pop.new.self.items ++ layer.Filter c.in-Some-Filter.test ∷ [] = first_of (search rules, grind (arith, common_steps)) in
    rises_over_filter c.pop.new.self.items c.add_columns.new.layers.items c.in-Some-Filter.test c.in_ok-lower-in-Some-Filter.lower c.args.outputs c.args.columns.now p c.requires
    c.in_ok-lower-in-Some-Filter.ensures c.in_ok-add_columns-in-Some-Filter.ensures c.args.layers.now.items c.push-in-Some-Filter.new.self.items from c.in_ok-push-in-Some-Filter.ensures.items

pub returns-in_ok-push-in-Some-AllDifferent : goal.returns-in_ok-push-in-Some-AllDifferent
returns-in_ok-push-in-Some-AllDifferent t c p =
    let from : c.args.layers.now.items ≡ c.pop.new.self.items ++ layer.AllDifferent c.in-Some-AllDifferent.members ∷ [] = first_of (search rules, grind (arith, common_steps)) in
    let lower = rw c.as_slice.ensures.value at c.in_ok-lower-in-Some-AllDifferent.ensures in
    rises_over_test c.pop.new.self.items c.add_columns-in-Some-AllDifferent.new.layers.items c.in-Some-AllDifferent.members c.in_ok-lower-in-Some-AllDifferent.lower c.args.outputs c.args.columns.now p c.requires
    lower c.in_ok-add_columns-in-Some-AllDifferent.ensures c.args.layers.now.items c.push-in-Some-AllDifferent.new.self.items from c.in_ok-push-in-Some-AllDifferent.ensures.items
