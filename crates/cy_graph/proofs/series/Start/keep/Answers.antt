use Rattle.std.proofs.Common.{◌++◌, ◌∷◌, [], refl, ap, ◌∙◌}
use Rattle.cy_graph.proofs.Steps.{kept_first}
use Rattle.cy_graph.proofs.series.Start.keep.Goals as goal

-- the copy is the value
pub returns-in_ok-copy-clause-ok : goal.returns-in_ok-copy-clause-ok
returns-in_ok-copy-clause-ok g c =
    let first = c.is_first_change.ensures.0 c.if-is_first_change.true in
    let number = c.args.number in
    let twin = c.in_ok-copy.field-0 in
    let last = c.add.ensures ∙ ap (λ es. es ++ (number, twin) ∷ []) c.in_ok-reserve.ensures.entries ∙ ap (λ v. c.args.self.now.before.entries ++ (number, v) ∷ []) c.in_ok-copy.ensures in
    kept_first c.args.slot number c.args.value.now c.args.self.now _ refl first last
