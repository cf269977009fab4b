use Rattle.std.proofs.Common.{length, reverse, refl, sym, ap, subst, arith}
use Rattle.std.proofs.lemmas.Result.{on_ok_weaker}
use Rattle.cy_index.specs.internal.Postings.{latest, IsSlotOf, IsNew}
use Rattle.cy_index.proofs.Standing.{slot_found, new_found, puts_removed, puts_nothing}
use Rattle.cy_index.proofs.Versions.{length_version}
use Rattle.cy_index.proofs.Versions.{newest}
use Rattle.cy_index.proofs.postings.Postings.remove.Goals as goal

-- the slot that was found is one of the newest version
pub remove_in-requires : goal.remove_in-requires
remove_in-requires g c =
    let es = c.self.inside.lists.entries in
    let last = newest (reverse c.self.inside.steps.items) es c.args.self.now c.self.view_is in
    omega (arith, c.in-Some.ensures.within, length_version es, ap length last)

-- the number doesn't stand under the key then
pub returns-in-Some-clause-ok : goal.returns-in-Some-clause-ok
returns-in-Some-clause-ok g c =
    let eq = g.K.PartialEq.eq in
    let key = c.args.key.now in
    let es = c.self.inside.lists.entries in
    let slot = c.in-Some.slot in
    let last = newest (reverse c.self.inside.steps.items) es c.args.self.now c.self.view_is in
    let here = subst (IsSlotOf eq key slot) (sym last) (slot_found eq key es slot (sym c.in-Some.ensures.index) c.in-Some.ensures.within) in
    on_ok_weaker c.remove_in.result (λ w. puts_removed eq g.met.K.Eq.laws key slot c.args.number (latest c.args.self.now) (latest c.remove_in.new.self) here w.1) c.remove_in.ensures.ok

-- it never did
pub returns-in-None-clause-ok : goal.returns-in-None-clause-ok
returns-in-None-clause-ok g c =
    let eq = g.K.PartialEq.eq in
    let key = c.args.key.now in
    let es = c.self.inside.lists.entries in
    let last = newest (reverse c.self.inside.steps.items) es c.args.self.now c.self.view_is in
    let new = subst (IsNew eq key) (sym last) (new_found eq key es c.in-None.ensures.found) in
    puts_nothing eq g.met.K.Eq.laws key c.args.number (latest c.args.self.now) (latest c.args.self.now) new refl
