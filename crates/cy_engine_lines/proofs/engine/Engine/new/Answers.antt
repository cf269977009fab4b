use Rattle.std.proofs.Common.{ap, arith}
use Rattle.cy_index.specs.Index.{StoreState}
use Rattle.cy_engine_lines.proofs.engine.Engine.new.Goals as goal

pub invariant_of-result : goal.invariant_of-result
invariant_of-result c = record {
  closed = ap (λ (s : StoreState). s.graph.was) c.new.ensures;
  stand = c.new-2.ensures.stand c.new.result.graph.now.content 0;
  in_time = omega arith;
  some = c.requires.from;
  most = c.requires.to;
}
