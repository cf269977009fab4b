use Rattle.std.proofs.Common.{◌≡◌, ◌++◌, drop}
use Rattle.std.specs.Prelude.{flat_map, option_to_list}
use Rattle.cy_updates_meaning.specs.Values.{named_by}
use Rattle.cy_updates.specs.internal.Deleting.{nodes_among, rels_among}
use Rattle.cy_updates.proofs.writes.deleting.push_named.Given as goal

-- what is named so far, and by the variables that are left
abbrev pub invariant-loop-variable : goal.invariant-loop-variable
invariant-loop-variable l = record {
  nodes : l.named.nodes.items ++ nodes_among (flat_map (λ v. option_to_list (named_by v l.row)) (drop l.variable-index l.variables)) ≡ l.fn.named.nodes.items ++ nodes_among (flat_map (λ v. option_to_list (named_by v l.row)) l.variables);
  rels : l.named.rels.items ++ rels_among (flat_map (λ v. option_to_list (named_by v l.row)) (drop l.variable-index l.variables)) ≡ l.fn.named.rels.items ++ rels_among (flat_map (λ v. option_to_list (named_by v l.row)) l.variables);
}
