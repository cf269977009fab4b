use Rattle.std.proofs.Common.{◌+◌, ◌++◌, List, drop, sym, ap, ◌∙◌}
use Rattle.std.specs.Prelude.{flat_map, option_to_list}
use Rattle.std.proofs.lemmas.List.{append-nil, drop_all}
use Rattle.cy_values.specs.declared.rows.Cell.{Cell}
use Rattle.cy_oneshot_patterns.proofs.SliceReads.{next_of}
use Rattle.cy_updates_meaning.specs.Deleting.{named}
use Rattle.cy_updates_meaning.specs.Values.{named_by}
use Rattle.cy_updates.specs.internal.Deleting.{nodes_among, rels_among}
use Rattle.cy_updates.proofs.DeletedSets.{nodes_pushed, rels_pushed}
use Rattle.cy_updates.proofs.writes.deleting.all_named.Goals as goal

pub loop-row-preserved : goal.loop-row-preserved
loop-row-preserved c =
    let l = c.loop-row in
    let rows = c.args.rows.now in
    let variables = c.args.variables.now in
    let rest = drop (l.row-index + 1) rows in
    let next = ap (named variables) (next_of rows l.row-index c.row-item.result c.loop-row-test.true c.row-item.is) in
    let here = flat_map (λ v. option_to_list (named_by v c.row-item.result)) variables in
    let done = c.in_ok-push_named.ensures in
    record {
      nodes = nodes_pushed l.named.nodes.items c.push_named.new.named.nodes.items here (named variables rest) _ done.nodes (ap (λ set. l.named.nodes.items ++ nodes_among set) (sym next) ∙ l.invariant.nodes);
      rels = rels_pushed l.named.rels.items c.push_named.new.named.rels.items here (named variables rest) _ done.rels (ap (λ set. l.named.rels.items ++ rels_among set) (sym next) ∙ l.invariant.rels);
    }

pub returns-clause-nodes : goal.returns-clause-nodes
returns-clause-nodes c =
    let l = c.loop-row in
    sym (append-nil l.named.nodes.items) ∙ ap (λ (rows : List (List Cell)). l.named.nodes.items ++ nodes_among (named c.args.variables.now rows)) (sym (drop_all l.row-index c.args.rows.now c.loop-row-test.false)) ∙ l.invariant.nodes

pub returns-clause-rels : goal.returns-clause-rels
returns-clause-rels c =
    let l = c.loop-row in
    sym (append-nil l.named.rels.items) ∙ ap (λ (rows : List (List Cell)). l.named.rels.items ++ rels_among (named c.args.variables.now rows)) (sym (drop_all l.row-index c.args.rows.now c.loop-row-test.false)) ∙ l.invariant.rels
