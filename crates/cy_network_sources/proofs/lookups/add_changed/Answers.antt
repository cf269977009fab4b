use Rattle.std.proofs.Common.{◌∙◌}
use Rattle.cy_network_sources.proofs.AttributeLemmas.{changed_step, one_more_read}
use Rattle.cy_network_sources.proofs.lookups.add_changed.Goals as goal

pub loop-row_delta-preserved : goal.loop-row_delta-preserved
loop-row_delta-preserved c = record {
  made =
      changed_step c.args.sight.now.graph c.loop-row_delta.sight.graph c.loop-row_delta.invariant.graph c.args.change.now c.args.asked.now.column c.args.asked.now.attribute.now c.in-Some.row_delta c.in_ok-values.values
      c.args.made.now.items c.loop-row_delta.made.items c.add_valued.new.made.items c.loop-row_delta.yielded c.in_ok-values.ensures.values c.loop-row_delta.invariant.made c.in_ok-add_valued.ensures;
  graph = c.attributes_at.ensures.graph ∙ c.loop-row_delta.invariant.graph;
  reads = one_more_read c.loop-row_delta.yielded c.in-Some.row_delta c.args.sight.now.reads c.loop-row_delta.sight.reads c.attributes_at.new.sight.reads c.loop-row_delta.invariant.reads c.attributes_at.ensures.reads;
}
