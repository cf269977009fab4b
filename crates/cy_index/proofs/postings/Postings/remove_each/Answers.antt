use Rattle.std.proofs.Common.{◌++◌, ◌∷◌, [], false, take, sym, ap, subst, ◌∙◌}
use Rattle.std.proofs.lemmas.List.{take_more}
use Rattle.cy_index.specs.internal.Postings.{latest, Puts}
use Rattle.cy_index.proofs.Standing.{puts_next}
use Rattle.cy_index.proofs.Versions.{goes_on}
use Rattle.cy_index.proofs.postings.Postings.remove_each.Goals as goal

-- one key more
pub loop-key-preserved : goal.loop-key-preserved
loop-key-preserved g c =
    let eq = g.K.PartialEq.eq in
    let l = c.loop-key in
    let keys = c.args.keys.now in
    let key = c.key-item.result in
    let old = c.args.self.now in
    let next = take_more keys l.key-index key c.loop-key-test.true ∙ ap (λ k. take l.key-index keys ++ k ∷ []) (sym c.key-item.is) in
    record {
      goes = goes_on old l.self c.remove.new.self l.invariant.goes c.remove.ensures.goes;
      puts = subst (λ ks. Puts eq ks c.args.number false (latest old) (latest c.remove.new.self)) (sym next)
          (puts_next eq (take l.key-index keys) key c.args.number false (latest old) (latest l.self) (latest c.remove.new.self) l.invariant.puts c.in_ok-remove.ensures.ok);
    }
