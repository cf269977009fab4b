use Rattle.std.proofs.Common.{◌≡◌, [], ◌<◌, ◌+◌, None, refl, sym, arith, length, nat_lt, true}
use Rattle.std.proofs.lemmas.Bool.Decides.{nat_tests}
use Rattle.std.proofs.lemmas.List.{length-map}
use Rattle.std.proofs.lemmas.Result.{err_from_is_err_and}
use Rattle.cy_trees.specs.TreeModels.{statement_of}
use Rattle.cy_engine_views.specs.HeldViews.{view_of}
use Rattle.cy_engine_views.specs.Upkeep.{held_in, views_in}
use Rattle.cy_engine_views.specs.RegisteredViews.{view_limit}
use Rattle.cy_engine_lines.specs.KeptStep.{kept_state_of}
use Rattle.cy_engine_lines.specs.Model.{state_of}
use Rattle.cy_engine_lines.specs.Requests.{ViewOf}
use Rattle.cy_engine_lines.specs.State.{view_at}
use Rattle.cy_engine_lines.proofs.Queries.{made_free, made_few, made_rises}
use Rattle.cy_engine_lines.proofs.Refusals.{wants_memory}
use Rattle.cy_engine_lines.proofs.Steps.{no_query, view_done, view_refused, view_unkept}
use Rattle.cy_engine_lines.proofs.engine.Engine.make_view.Goals as goal

pub returns-in_err-query : goal.returns-in_err-query
returns-in_err-query c =
    let p = err_from_is_err_and c.from_residual.result c.from_residual.ensures.1 in
    rw (p.1, p.2) (no_query c.args.line.now c.args.tokens.now (kept_state_of c.args.self.now) [] (kept_state_of c.args.self.now) refl refl c.args.name.now c.in_err-query.field-0.0 c.in_err-query.ensures)

pub returns-in_err-made : goal.returns-in_err-made
returns-in_err-made c =
    let p = err_from_is_err_and c.from_residual-in_err-made.result c.from_residual-in_err-made.ensures.1 in
    rw (p.1, p.2) (view_refused c.args.line.now c.args.tokens.now (kept_state_of c.args.self.now) [] (kept_state_of c.args.self.now) refl refl c.args.name.now (statement_of c.in_ok-query.query)
    c.in_err-made.field-0.0 c.in_ok-query.ensures (sym c.in_err-made.ensures.made))

pub returns-in_err-reply : goal.returns-in_err-reply
returns-in_err-reply c =
    let p = err_from_is_err_and c.from_residual-in_err-reply.result c.from_residual-in_err-reply.ensures.1 in
    rw (p.1, p.2) (wants_memory c.args.line.now (ViewOf c.args.name.now c.args.tokens.now) (kept_state_of c.args.self.now) [] (kept_state_of c.args.self.now) refl refl c.in_err-reply.field-0.0 c.in_err-reply.ensures.memory)

pub make-requires : goal.make-requires
make-requires c =
    let state = state_of c.args.self.now in
    let verdict = sym c.in_ok-made.ensures.made in
    let free : view_at c.args.name.now state ≡ None = made_free c.args.name.now state c.in_ok-made.made verdict in
    let few : nat_lt (length state.views) view_limit ≡ true = made_few c.args.name.now state c.in_ok-made.made verdict in
    let room : nat_lt (length (views_in c.self.inside.views)) view_limit ≡ true = rw (← c.self.view_is) at few in
    record {
      from = c.self.invariant.some;
      to = c.self.invariant.most;
      new = rw (← c.self.view_is) at free;
      few = let below : length (views_in c.self.inside.views) < view_limit = grind (arith, nat_tests) in omega (arith, below, length-map (held_in c.self.inside.views) view_of);
    }

-- after a refusal the views stand for the graph as before
pub invariant_of-self : goal.invariant_of-self
invariant_of-self c = record {
  closed = c.self.invariant.closed;
  stand = c.in_err-make.ensures.err c.self.inside.store.graph.now.content c.self.inside.tick c.self.invariant.stand;
  in_time = c.self.invariant.in_time;
  some = c.self.invariant.some;
  most = c.self.invariant.most;
}

pub invariant_of-self-2 : goal.invariant_of-self-2
invariant_of-self-2 c =
    let next : c.in_ok-made.made ≡ c.self.inside.tick + 1 = rw (← c.self.view_is) at (made_rises c.args.name.now (state_of c.args.self.now) c.in_ok-made.made (sym c.in_ok-made.ensures.made)) in
    record {
      closed = c.self.invariant.closed;
      stand = c.in_ok-make.ensures.stand c.self.inside.tick c.self.invariant.stand (omega (arith, next));
      in_time = c.in_ok-made.ensures.in_time;
      some = c.self.invariant.some;
      most = c.self.invariant.most;
    }

pub returns-in_err-make : goal.returns-in_err-make
returns-in_err-make c =
    let p = err_from_is_err_and c.from_residual-in_err-make.result c.from_residual-in_err-make.ensures.1 in
    let old = c.self.inside in
    let verdict = sym c.in_ok-made.ensures.made in
    rw (p.1, p.2, ← c.self.view_is) (view_unkept c.args.line.now c.args.tokens.now old.store old.views old.tick old.history old.entries c.args.name.now c.in_ok-query.query c.in_ok-made.made c.in_ok-query.ensures
    (rw (← c.self.view_is) at verdict) c.make.new.self old.entries [] refl c.in_err-make.ensures.same c.in_err-make.field-0.0 c.in_err-make.ensures.refused)

pub returns : goal.returns
returns c =
    let old = c.self.inside in
    let verdict = sym c.in_ok-made.ensures.made in
    let next : c.in_ok-made.made ≡ old.tick + 1 = rw (← c.self.view_is) at (made_rises c.args.name.now (state_of c.args.self.now) c.in_ok-made.made verdict) in
    let made = c.in_ok-make.ensures.made in
    rw (← c.self.view_is) (view_done c.args.line.now c.args.tokens.now old.store old.views old.tick old.history old.entries c.args.name.now c.in_ok-query.query c.in_ok-made.made c.in_ok-query.ensures
    (rw (← c.self.view_is) at verdict) c.make.new.self made.0 [] old.entries c.in_ok-reply.reply c.in_ok-make.ensures.light made.1 refl c.in_ok-reply.ensures.reply made.2
    (c.in_ok-make.ensures.stand old.tick c.self.invariant.stand (omega (arith, next))))
