use Rattle.std.proofs.Common.{◌≡◌, [], Result, Ok, Err, refl, ap}
use Rattle.std.proofs.lemmas.Result.{err_from_is_err_and}
use Rattle.cy_index.specs.declared.faults.IndexFault.{IndexFault}
use Rattle.cy_engine_lines.specs.KeptStep.{kept_state_of}
use Rattle.cy_engine_lines.specs.Requests.{IndexOf}
use Rattle.cy_engine_lines.proofs.Refusals.{wants_memory}
use Rattle.cy_engine_lines.proofs.Steps.{index_made, index_refused}
use Rattle.cy_engine_lines.proofs.engine.Engine.add_index.Goals as goal

not_refused : (x : Unit {0}) (why : IndexFault) → (let r : Result (Unit {0}) IndexFault = Ok x in r) ≡ Err why → ⊥
not_refused x why is = cc

pub returns-in_err-copy : goal.returns-in_err-copy
returns-in_err-copy c line =
    let p = err_from_is_err_and c.from_residual.result c.from_residual.ensures.1 in
    rw p.1 (wants_memory line (IndexOf c.args.label c.args.key) (kept_state_of c.args.self.now) [] (kept_state_of c.args.self.now) refl refl _ p.2)

pub returns-in_err-copy-2 : goal.returns-in_err-copy-2
returns-in_err-copy-2 c line =
    let p = err_from_is_err_and c.from_residual-in_err-copy-2.result c.from_residual-in_err-copy-2.ensures.1 in
    rw p.1 (wants_memory line (IndexOf c.args.label c.args.key) (kept_state_of c.args.self.now) [] (kept_state_of c.args.self.now) refl refl _ p.2)

pub returns-in_err-add_index : goal.returns-in_err-add_index
returns-in_err-add_index c line =
    let p = err_from_is_err_and c.from_residual-in_err-add_index.result c.from_residual-in_err-add_index.ensures.1 in
    let refused = c.in_err-add_index in
    rw (p.1, p.2, ← c.self.view_is) (index_refused c.self.inside.store c.add_index.new.self c.self.inside.views c.self.inside.tick c.self.inside.history c.self.inside.entries c.self.inside.entries
    line c.args.label c.args.key refused.field-0.0 (λ is. refused.ensures.there.0 (ap Err is)) refused.ensures.err)

pub returns : goal.returns
returns c line =
    let made = c.in_ok-add_index.ensures in
    rw (c.in_ok-copy.ensures, c.in_ok-copy-2.ensures, ← c.self.view_is) (index_made c.self.inside.store c.add_index.new.self c.self.inside.views c.self.inside.tick c.self.inside.history c.self.inside.entries c.self.inside.entries
    line c.args.label c.args.key (λ there. not_refused tt _ (made.there.1 there)) made.ok)
