use Rattle.std.proofs.Common.{◌≡◌, [], reverse, sym, ap, subst, ◌∙◌}
use Rattle.std.proofs.lemmas.Result.{IfOk-weaker}
use Rattle.std.specs.Option.{option_map_or}
use Rattle.cy_index.specs.internal.Entries.{present}
use Rattle.cy_index.specs.internal.Numbers.{Rises, ids_of}
use Rattle.cy_index.specs.internal.Postings.{latest, numbers_at}
use Rattle.cy_index.proofs.Standing.{numbers_looked_up}
use Rattle.cy_index.proofs.Versions.{newest}
use Rattle.cy_index.proofs.postings.Postings.ids.Goals as goal

-- those in the list under the key
pub returns-in-Some-clause-ids : goal.returns-in-Some-clause-ids
returns-in-Some-clause-ids g c =
    let eq = g.K.PartialEq.eq in
    let key = c.args.key.now in
    let es = c.self.inside.lists.entries in
    let last = newest (reverse c.self.inside.steps.items) es c.args.self.now c.self.view_is in
    let same = ap (λ o. option_map_or present o []) c.in-Some.ensures.value ∙ sym (numbers_looked_up eq key es) ∙ sym (ap (numbers_at eq key) last) in
    IfOk-weaker c.ids.result (λ ids. ids.items ≡ ids_of (present c.in-Some.list.now)) (λ ids. ids.items ≡ ids_of (numbers_at eq key (latest c.args.self.now))) (λ ids are. are ∙ ap ids_of same) c.ids.ensures.ids

pub returns-in-Some-clause-rising : goal.returns-in-Some-clause-rising
returns-in-Some-clause-rising g c =
    let eq = g.K.PartialEq.eq in
    let key = c.args.key.now in
    let es = c.self.inside.lists.entries in
    let last = newest (reverse c.self.inside.steps.items) es c.args.self.now c.self.view_is in
    subst (Rises 0) (ap (λ o. option_map_or present o []) c.in-Some.ensures.value ∙ sym (numbers_looked_up eq key es) ∙ sym (ap (numbers_at eq key) last)) c.ids.ensures.rising

-- there are none
pub returns-in-None-clause-ids : goal.returns-in-None-clause-ids
returns-in-None-clause-ids g c =
    let eq = g.K.PartialEq.eq in
    let key = c.args.key.now in
    let es = c.self.inside.lists.entries in
    let last = newest (reverse c.self.inside.steps.items) es c.args.self.now c.self.view_is in
    c.new.ensures.items ∙ ap (λ o. ids_of (option_map_or present o [])) c.in-None.ensures.value ∙ ap ids_of (sym (numbers_looked_up eq key es) ∙ sym (ap (numbers_at eq key) last))

pub returns-in-None-clause-rising : goal.returns-in-None-clause-rising
returns-in-None-clause-rising g c =
    let eq = g.K.PartialEq.eq in
    let key = c.args.key.now in
    let es = c.self.inside.lists.entries in
    let last = newest (reverse c.self.inside.steps.items) es c.args.self.now c.self.view_is in
    subst (Rises 0) (ap (λ o. option_map_or present o []) c.in-None.ensures.value ∙ sym (numbers_looked_up eq key es) ∙ sym (ap (numbers_at eq key) last)) tt
