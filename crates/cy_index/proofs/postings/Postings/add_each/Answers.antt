use Rattle.std.proofs.Common.{◌++◌, ◌∷◌, [], true, sym, ap, subst, ◌∙◌, arith, append_assoc}
use Rattle.std.proofs.lemmas.List.{nil_from_length}
use Rattle.cy_index.specs.internal.Postings.{latest, Puts}
use Rattle.cy_index.proofs.Standing.{puts_before}
use Rattle.cy_index.proofs.Versions.{goes_on}
use Rattle.cy_index.proofs.postings.Postings.add_each.Goals as goal

-- one key more
pub loop-key-preserved : goal.loop-key-preserved
loop-key-preserved g c =
    let eq = g.K.PartialEq.eq in
    let l = c.loop-key in
    let key = c.in-Some.key in
    let old = c.args.self.now in
    let done = l.invariant.done in
    record {
      goes = goes_on old l.self c.add.new.self l.invariant.goes c.add.ensures.goes;
      done = key ∷ done;
      all = l.invariant.all ∙ ap (λ ks. ks ++ done) c.in-Some.ensures.items ∙ append_assoc c.pop.new.self.items (key ∷ []) done;
      puts = puts_before eq done key c.args.number true (latest old) (latest l.self) (latest c.add.new.self) l.invariant.puts c.in_ok-add.ensures.ok;
    }

-- each key was taken
pub returns-clause-ok : goal.returns-clause-ok
returns-clause-ok g c =
    let eq = g.K.PartialEq.eq in
    let l = c.loop-key in
    let none = nil_from_length l.keys.items (omega (arith, l.keys.ok.0, c.in_default.ensures.cases.0)) in
    subst (λ ks. Puts eq ks c.args.number true (latest c.args.self.now) (latest l.self)) (sym (l.invariant.all ∙ ap (λ ks. ks ++ l.invariant.done) none)) l.invariant.puts
