use Rattle.std.proofs.Common.{Some, sym, ap, ◌∙◌}
use Rattle.cy_index.specs.internal.Postings.{latest}
use Rattle.cy_index.proofs.Filling.{entry_filled}
use Rattle.cy_index.proofs.Versions.{goes_on}
use Rattle.cy_index.proofs.store.choosing.fill.Goals as goal

-- one node more
pub loop-id-preserved-in_ok-add : goal.loop-id-preserved-in_ok-add
loop-id-preserved-in_ok-add c =
    let l = c.loop-id in
    let pair = c.args.pair.now in
    record {
      goes = goes_on c.args.postings.now l.postings c.add.new.self l.invariant.goes c.add.ensures.goes;
      rest = λ k n. entry_filled c.args.place pair c.in-Some.id c.in-Some.node.now c.in_ok-copy.field-0 (latest l.postings) (latest c.add.new.self) l.id-iterator c.next.new.self
          (sym c.in-Some-value_at.ensures ∙ ap Some (sym c.in_ok-copy.ensures)) c.in_ok-add.ensures.ok c.in-Some.ensures.steps k n ∙ l.invariant.rest k n;
    }
