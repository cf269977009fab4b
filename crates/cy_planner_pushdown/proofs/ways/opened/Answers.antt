use Rattle.std.proofs.Common.{◌≡◌, List, [], map, sym, ap, subst, ◌∙◌, rules}
use Rattle.cy_trees.specs.Trees.{Expression}
use Rattle.cy_trees.specs.TreeModels.{expression_of}
use Rattle.cy_planner_algebra.specs.declared.operators.Operator.{Operator, size-Operator, the_lemmas}
use Rattle.cy_planner_algebra.specs.Plans as plan
use Rattle.cy_planner_algebra.specs.Plans.{Output, Plan}
use Rattle.cy_planner_algebra.specs.PlanModels.{output_of, plan_of, plan_step}
use Rattle.cy_planner_algebra.specs.declared.operators.KeyColumns.{KeyColumns}
use Rattle.cy_planner_algebra.specs.declared.operators.Operator.TheFolds.{fold-roll-Operator}
use Rattle.cy_planner_algebra.specs.declared.operators.Operator.TheOpen.{Operator-F}
use Rattle.cy_planner_algebra.specs.declared.operators.Operator.TheVariants.{rolls-AllDifferent, rolls-Distinct, rolls-Filter, rolls-Lookup, rolls-Outer, rolls-Project, rolls-Semi}
use Rattle.cy_planner_algebra.specs.Fields.{operator_of}
use Rattle.cy_planner_algebra.specs.WellFormed.{IsWellFormed}
use Rattle.cy_planner_pushdown.specs.declared.above.Above.TheVariants as above
use Rattle.cy_planner_pushdown.specs.internal.Above.{placed}
use Rattle.cy_planner_pushdown.specs.internal.Splits.{IsSplit, Tests, tests_in}
use Rattle.cy_planner_pushdown.specs.internal.Steps.{IsStep, LeadsTo}
use Rattle.cy_planner_pushdown.proofs.Stepping.{into_different, into_distinct, into_filter, into_lookup, into_outer, into_project, into_semi, steps_below}
use Rattle.cy_planner_pushdown.proofs.ways.opened.Goals as goal

pub returns-in-Join-clause-less : goal.returns-in-Join-clause-less
returns-in-Join-clause-less c = c.below_join.ensures.less (size-Operator c.args.part) (search (rules, the_lemmas)) (search (rules, the_lemmas))

pub returns-in-Union-clause-less : goal.returns-in-Union-clause-less
returns-in-Union-clause-less c = c.below_union.ensures.less (size-Operator c.args.part) (search (rules, the_lemmas)) (search (rules, the_lemmas))

pub returns-in-Outer-clause-is : goal.returns-in-Outer-clause-is
returns-in-Outer-clause-is c tests split =
    let ts : Tests = tests_in c.args.split in
    let left : Plan = plan_of c.in-Outer.left.value in
    let right : Plan = plan_of c.in-Outer.right.value in
    let keys : List KeyColumns = c.in-Outer.keys.items in
    let predicate : Expression = expression_of c.in-Outer.predicate in
    let whole : Plan = plan.outer left right keys predicate in
    let part : plan_of c.args.part ≡ whole = ap plan_of (c.into_fields.ensures ∙ ap operator_of c.in-Outer.is) ∙ ap plan_of (sym (rolls-Outer c.in-Outer.left c.in-Outer.right c.in-Outer.keys c.in-Outer.predicate)) ∙ fold-roll-Operator Plan plan_step (Operator-F.Outer c.in-Outer.left c.in-Outer.right c.in-Outer.keys c.in-Outer.predicate) in
    let well : IsWellFormed whole = subst IsWellFormed part c.requires.good in
    let is : IsSplit whole tests [] ts = subst (λ (q : Plan). IsSplit q tests [] ts) part split in
    subst (λ (q : Plan). IsStep q tests c.below_alone.result) (sym part)
    (steps_below whole tests (above.Outer c.from_root-right.result c.in-Outer.keys c.in-Outer.predicate) left c.args.split c.below_alone.result c.below_alone.ensures.is
    (subst (λ (q : Operator). LeadsTo whole tests left ts.first ts.here (placed (above.Outer q c.in-Outer.keys c.in-Outer.predicate))) (sym (c.from_root-right.ensures ∙ c.into_inner.ensures)) (into_outer tests ts left right keys predicate well is)))

pub returns-in-Semi-clause-is : goal.returns-in-Semi-clause-is
returns-in-Semi-clause-is c tests split =
    let ts : Tests = tests_in c.args.split in
    let left : Plan = plan_of c.in-Semi.left.value in
    let right : Plan = plan_of c.in-Semi.right.value in
    let keys : List KeyColumns = c.in-Semi.keys.items in
    let whole : Plan = plan.semi left right keys c.in-Semi.keeping in
    let part : plan_of c.args.part ≡ whole = ap plan_of (c.into_fields.ensures ∙ ap operator_of c.in-Semi.is) ∙ ap plan_of (sym (rolls-Semi c.in-Semi.left c.in-Semi.right c.in-Semi.keys c.in-Semi.keeping)) ∙ fold-roll-Operator Plan plan_step (Operator-F.Semi c.in-Semi.left c.in-Semi.right c.in-Semi.keys c.in-Semi.keeping) in
    let well : IsWellFormed whole = subst IsWellFormed part c.requires.good in
    let is : IsSplit whole tests [] ts = subst (λ (q : Plan). IsSplit q tests [] ts) part split in
    subst (λ (q : Plan). IsStep q tests c.below_alone-in-Semi.result) (sym part)
    (steps_below whole tests (above.Semi c.from_root-right-in-Semi.result c.in-Semi.keys c.in-Semi.keeping) left c.args.split c.below_alone-in-Semi.result c.below_alone-in-Semi.ensures.is
    (subst (λ (q : Operator). LeadsTo whole tests left ts.first ts.here (placed (above.Semi q c.in-Semi.keys c.in-Semi.keeping))) (sym (c.from_root-right-in-Semi.ensures ∙ c.into_inner-in-Semi.ensures)) (into_semi tests ts left right keys c.in-Semi.keeping well is)))

pub returns-in-Lookup-clause-is : goal.returns-in-Lookup-clause-is
returns-in-Lookup-clause-is c tests split =
    let ts : Tests = tests_in c.args.split in
    let below : Plan = plan_of c.in-Lookup.below.value in
    let whole : Plan = plan.lookup below c.in-Lookup.at c.in-Lookup.attribute in
    let part : plan_of c.args.part ≡ whole = ap plan_of (c.into_fields.ensures ∙ ap operator_of c.in-Lookup.is) ∙ ap plan_of (sym (rolls-Lookup c.in-Lookup.below c.in-Lookup.at c.in-Lookup.attribute)) ∙ fold-roll-Operator Plan plan_step (Operator-F.Lookup c.in-Lookup.below c.in-Lookup.at c.in-Lookup.attribute) in
    let well : IsWellFormed whole = subst IsWellFormed part c.requires.good in
    let is : IsSplit whole tests [] ts = subst (λ (q : Plan). IsSplit q tests [] ts) part split in
    subst (λ (q : Plan). IsStep q tests c.below_alone-in-Lookup.result) (sym part)
    (steps_below whole tests (above.Lookup c.in-Lookup.at c.in-Lookup.attribute) below c.args.split c.below_alone-in-Lookup.result c.below_alone-in-Lookup.ensures.is
    (into_lookup tests ts below c.in-Lookup.at c.in-Lookup.attribute well is))

pub returns-in-Filter-clause-is : goal.returns-in-Filter-clause-is
returns-in-Filter-clause-is c tests split =
    let ts : Tests = tests_in c.args.split in
    let below : Plan = plan_of c.in-Filter.below.value in
    let whole : Plan = plan.filter below (expression_of c.in-Filter.condition) in
    let part : plan_of c.args.part ≡ whole = ap plan_of (c.into_fields.ensures ∙ ap operator_of c.in-Filter.is) ∙ ap plan_of (sym (rolls-Filter c.in-Filter.below c.in-Filter.condition)) ∙ fold-roll-Operator Plan plan_step (Operator-F.Filter c.in-Filter.below c.in-Filter.condition) in
    let well : IsWellFormed whole = subst IsWellFormed part c.requires.good in
    let is : IsSplit whole tests [] ts = subst (λ (q : Plan). IsSplit q tests [] ts) part split in
    subst (λ (q : Plan). IsStep q tests c.below_alone-in-Filter.result) (sym part)
    (steps_below whole tests (above.Filter c.in-Filter.condition) below c.args.split c.below_alone-in-Filter.result c.below_alone-in-Filter.ensures.is
    (into_filter tests ts below (expression_of c.in-Filter.condition) well is))

pub returns-in-AllDifferent-clause-is : goal.returns-in-AllDifferent-clause-is
returns-in-AllDifferent-clause-is c tests split =
    let ts : Tests = tests_in c.args.split in
    let below : Plan = plan_of c.in-AllDifferent.below.value in
    let whole : Plan = plan.all_different below c.in-AllDifferent.others.items in
    let part : plan_of c.args.part ≡ whole = ap plan_of (c.into_fields.ensures ∙ ap operator_of c.in-AllDifferent.is) ∙ ap plan_of (sym (rolls-AllDifferent c.in-AllDifferent.below c.in-AllDifferent.others)) ∙ fold-roll-Operator Plan plan_step (Operator-F.AllDifferent c.in-AllDifferent.below c.in-AllDifferent.others) in
    let well : IsWellFormed whole = subst IsWellFormed part c.requires.good in
    let is : IsSplit whole tests [] ts = subst (λ (q : Plan). IsSplit q tests [] ts) part split in
    subst (λ (q : Plan). IsStep q tests c.below_alone-in-AllDifferent.result) (sym part)
    (steps_below whole tests (above.AllDifferent c.in-AllDifferent.others) below c.args.split c.below_alone-in-AllDifferent.result c.below_alone-in-AllDifferent.ensures.is
    (into_different tests ts below c.in-AllDifferent.others.items well is))

pub returns-in-Project-clause-is : goal.returns-in-Project-clause-is
returns-in-Project-clause-is c tests split =
    let ts : Tests = tests_in c.args.split in
    let below : Plan = plan_of c.in-Project.below.value in
    let whole : Plan = plan.project below (map output_of c.in-Project.outputs.items) in
    let part : plan_of c.args.part ≡ whole = ap plan_of (c.into_fields.ensures ∙ ap operator_of c.in-Project.is) ∙ ap plan_of (sym (rolls-Project c.in-Project.below c.in-Project.outputs)) ∙ fold-roll-Operator Plan plan_step (Operator-F.Project c.in-Project.below c.in-Project.outputs) in
    let well : IsWellFormed whole = subst IsWellFormed part c.requires.good in
    let is : IsSplit whole tests [] ts = subst (λ (q : Plan). IsSplit q tests [] ts) part split in
    subst (λ (q : Plan). IsStep q tests c.below_alone-in-Project.result) (sym part)
    (steps_below whole tests (above.Project c.in-Project.outputs) below c.args.split c.below_alone-in-Project.result c.below_alone-in-Project.ensures.is
    (into_project tests ts below (map output_of c.in-Project.outputs.items) well is))

pub returns-in-Distinct-clause-is : goal.returns-in-Distinct-clause-is
returns-in-Distinct-clause-is c tests split =
    let ts : Tests = tests_in c.args.split in
    let below : Plan = plan_of c.in-Distinct.below.value in
    let whole : Plan = plan.distinct below in
    let part : plan_of c.args.part ≡ whole = ap plan_of (c.into_fields.ensures ∙ ap operator_of c.in-Distinct.is) ∙ ap plan_of (sym (rolls-Distinct c.in-Distinct.below)) ∙ fold-roll-Operator Plan plan_step (Operator-F.Distinct c.in-Distinct.below) in
    let well : IsWellFormed whole = subst IsWellFormed part c.requires.good in
    let is : IsSplit whole tests [] ts = subst (λ (q : Plan). IsSplit q tests [] ts) part split in
    subst (λ (q : Plan). IsStep q tests c.below_alone-in-Distinct.result) (sym part)
    (steps_below whole tests (above.Distinct) below c.args.split c.below_alone-in-Distinct.result c.below_alone-in-Distinct.ensures.is
    (into_distinct tests ts below well is))
