use Rattle.std.proofs.Common.{◌++◌, ◌∷◌, [], length, reverse, ap, ◌∙◌, arith}
use Rattle.cy_index.specs.internal.Numbers.{without_number}
use Rattle.cy_index.specs.internal.Postings.{version_of, versions}
use Rattle.cy_index.proofs.Versions.{length_version, newest, stepped, writes}
use Rattle.cy_index.proofs.postings.Postings.remove_in.Goals as goal

-- the slot is there
pub leave_at-step-requires : goal.leave_at-step-requires
leave_at-step-requires g c =
    let es = c.self.inside.lists.entries in
    let last = newest (reverse c.self.inside.steps.items) es c.args.self.now c.self.view_is in
    omega (arith, c.requires, length_version es, ap length last)

-- there is a step more
pub returns-clause-ok : goal.returns-clause-ok
returns-clause-ok g c =
    let inside = c.self.inside in
    let es = inside.lists.entries in
    let steps = inside.steps.items in
    let new = c.leave_at-step.new.lists.entries in
    let step = c.leave_at-step.result in
    let last = newest (reverse steps) es c.args.self.now c.self.view_is in
    let pushed = c.push_reserved.ensures.items ∙ ap (λ l. l ++ step ∷ []) c.reserve.ensures.items in
    let shown = ap (λ l. versions (reverse l) new) pushed
    ∙ stepped steps step es new c.leave_at-step.ensures.back
    ∙ ap (λ vs. version_of new ∷ vs) c.self.view_is in
    writes c.args.self.now _ es new c.args.spot.slot (without_number c.args.spot.number) last shown c.leave_at-step.ensures.removed
