use Rattle.std.proofs.Common.{◌+◌, ◌++◌, List, drop, sym, ap, ◌∙◌}
use Rattle.std.specs.Prelude.{flat_map, option_to_list}
use Rattle.std.proofs.lemmas.List.{append-nil, drop_all}
use Rattle.cy_trees.specs.declared.expressions.Variable.{Variable}
use Rattle.cy_oneshot_patterns.proofs.SliceReads.{next_of}
use Rattle.cy_updates_meaning.specs.Values.{named_by}
use Rattle.cy_updates.specs.internal.Deleting.{nodes_among, rels_among}
use Rattle.cy_updates.proofs.DeletedSets.{nodes_pushed, rels_pushed}
use Rattle.cy_updates.proofs.writes.deleting.push_named.Goals as goal

pub loop-variable-preserved : goal.loop-variable-preserved
loop-variable-preserved c =
    let l = c.loop-variable in
    let variables = c.args.variables.now in
    let row = c.args.row.now in
    let rest = flat_map (λ v. option_to_list (named_by v row)) (drop (l.variable-index + 1) variables) in
    let next = ap (flat_map (λ v. option_to_list (named_by v row))) (next_of variables l.variable-index c.variable-item.result c.loop-variable-test.true c.variable-item.is) in
    let here = option_to_list (named_by c.variable-item.result row) in
    let done = c.in_ok-push_variable.ensures in
    record {
      nodes = nodes_pushed l.named.nodes.items c.push_variable.new.named.nodes.items here rest _ done.nodes (ap (λ set. l.named.nodes.items ++ nodes_among set) (sym next) ∙ l.invariant.nodes);
      rels = rels_pushed l.named.rels.items c.push_variable.new.named.rels.items here rest _ done.rels (ap (λ set. l.named.rels.items ++ rels_among set) (sym next) ∙ l.invariant.rels);
    }

pub returns-clause-nodes : goal.returns-clause-nodes
returns-clause-nodes c =
    let l = c.loop-variable in
    sym (append-nil l.named.nodes.items) ∙ ap (λ (vs : List Variable). l.named.nodes.items ++ nodes_among (flat_map (λ v. option_to_list (named_by v c.args.row.now)) vs)) (sym (drop_all l.variable-index c.args.variables.now c.loop-variable-test.false)) ∙ l.invariant.nodes

pub returns-clause-rels : goal.returns-clause-rels
returns-clause-rels c =
    let l = c.loop-variable in
    sym (append-nil l.named.rels.items) ∙ ap (λ (vs : List Variable). l.named.rels.items ++ rels_among (flat_map (λ v. option_to_list (named_by v c.args.row.now)) vs)) (sym (drop_all l.variable-index c.args.variables.now c.loop-variable-test.false)) ∙ l.invariant.rels
