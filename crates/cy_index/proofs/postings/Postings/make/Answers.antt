use Rattle.std.proofs.Common.{◌++◌, ◌∷◌, [], true, reverse, ap, subst, ◌∙◌}
use Rattle.indexmap.specs.IndexMap.{insert_entry}
use Rattle.indexmap.proofs.CallerLemmas.{insert_entry-new}
use Rattle.cy_index.specs.declared.postings.Step.TheVariants as step
use Rattle.cy_index.specs.internal.Postings.{version_of, versions, IsNew}
use Rattle.cy_index.proofs.Standing.{new_lookup}
use Rattle.cy_index.proofs.Versions.{newest, stepped, made_back, makes}
use Rattle.cy_index.proofs.postings.Postings.make.Goals as goal

-- the key goes last, and the step with it
pub returns-clause-ok : goal.returns-clause-ok
returns-clause-ok g c =
    let eq = g.K.PartialEq.eq in
    let inside = c.self.inside in
    let es = inside.lists.entries in
    let steps = inside.steps.items in
    let key = c.args.key in
    let list = (c.args.number, true) ∷ [] in
    let old = newest (reverse steps) es c.args.self.now c.self.view_is in
    let new = new_lookup eq key es (subst (IsNew eq key) old c.requires) in
    let last = c.in_ok-insert.ensures.entries ∙ ap (λ l. insert_entry eq es key l) c.one.ensures ∙ insert_entry-new eq inside.lists key list new in
    let pushed = c.push_reserved.ensures.items ∙ ap (λ l. l ++ step.Made ∷ []) c.reserve.ensures.items in
    let shown = ap (λ l. versions (reverse l) c.insert.new.self.entries) pushed
    ∙ ap (versions (reverse (steps ++ step.Made ∷ []))) last
    ∙ stepped steps step.Made es (es ++ (key, list) ∷ []) (made_back es (key, list))
    ∙ ap (λ vs. version_of (es ++ (key, list) ∷ []) ∷ vs) c.self.view_is in
    makes c.args.self.now _ es key c.args.number old shown
