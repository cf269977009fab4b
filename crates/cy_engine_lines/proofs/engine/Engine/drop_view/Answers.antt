use Rattle.std.proofs.Common.{sym, ◌∙◌}
use Rattle.cy_engine_lines.proofs.Dropping.{dropped, not_there}
use Rattle.cy_engine_lines.proofs.engine.Engine.drop_view.Goals as goal

pub invariant_of-self : goal.invariant_of-self
invariant_of-self c = record {
  closed = c.self.invariant.closed;
  stand = c.remove.ensures.stand c.self.inside.store.graph.now.content c.self.inside.tick c.self.invariant.stand;
  in_time = c.self.invariant.in_time;
  some = c.self.invariant.some;
  most = c.self.invariant.most;
}

pub invariant_of-self-2 : goal.invariant_of-self-2
invariant_of-self-2 c = record {
  closed = c.self.invariant.closed;
  stand = c.remove.ensures.stand c.self.inside.store.graph.now.content c.self.inside.tick c.self.invariant.stand;
  in_time = c.self.invariant.in_time;
  some = c.self.invariant.some;
  most = c.self.invariant.most;
}

pub returns-then-not-remove : goal.returns-then-not-remove
returns-then-not-remove c line =
    let old = c.self.inside in
    rw (← c.as_str.ensures, ← c.self.view_is) (not_there line c.as_str.result.now old.store old.views c.remove.new.self old.tick old.history old.entries (sym c.remove.ensures.there ∙ c.if-not-remove.true)
    (c.remove.ensures.none c.if-not-remove.true))

pub returns : goal.returns
returns c line =
    let old = c.self.inside in
    rw (← c.as_str.ensures, ← c.self.view_is) (dropped line c.as_str.result.now old.store old.views c.remove.new.self old.tick old.history old.entries (sym c.remove.ensures.there ∙ c.if-not-remove.false)
    (c.remove.ensures.gone old.store.graph.now.content old.tick c.self.invariant.stand).held)
