use Rattle.std.proofs.Common.{◌+◌, ◌≤◌, arith}
use Rattle.cy_network_columns.proofs.Links.{no_link, not_up, of_link, step}
use Rattle.cy_network_columns.proofs.chains.above.Goals as goal

pub loop-above-preserved : goal.loop-above-preserved
loop-above-preserved c =
    let low = not_up c.args.links.now c.loop-above.above no_link c.loop-above.invariant.inside c.requires.descend in
    record {
      above = omega (arith, c.loop-above-test.true);
      inside = omega (arith, c.loop-above-test.true, low, c.loop-above.invariant.inside);
      placed = λ at place chained first.
          step at c.args.links.now c.loop-above.above place _ no_link c.loop-above.invariant.inside chained (c.loop-above.invariant.placed at place chained first) (omega (arith, c.loop-above-test.true));
    }

pub returns-clause-last : goal.returns-clause-last
returns-clause-last c = of_link c.args.links.now c.loop-above.above _ (λ l. l.below ≤ c.args.number + 1) c.loop-above.invariant.inside c.loop-above-test.false
