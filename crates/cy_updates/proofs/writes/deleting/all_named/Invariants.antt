use Rattle.std.proofs.Common.{◌≡◌, ◌++◌, drop}
use Rattle.cy_updates_meaning.specs.Deleting.{named}
use Rattle.cy_updates.specs.internal.Deleting.{nodes_among, rels_among}
use Rattle.cy_updates.proofs.writes.deleting.all_named.Given as goal

-- what is named so far, and on the rows that are left
abbrev pub invariant-loop-row : goal.invariant-loop-row
invariant-loop-row l = record {
  nodes : l.named.nodes.items ++ nodes_among (named l.variables (drop l.row-index l.rows)) ≡ nodes_among (named l.variables l.rows);
  rels : l.named.rels.items ++ rels_among (named l.variables (drop l.row-index l.rows)) ≡ rels_among (named l.variables l.rows);
}
