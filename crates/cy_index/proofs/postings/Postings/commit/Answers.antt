use Rattle.std.proofs.Common.{reverse, sym, ap, ◌∙◌}
use Rattle.cy_index.specs.internal.Postings.{versions, latest, numbers_at}
use Rattle.cy_index.proofs.Versions.{newest}
use Rattle.cy_index.proofs.postings.Postings.commit.Goals as goal

-- the numbers are those of the newest version
pub returns-then-self-len-clause-numbers : goal.returns-then-self-len-clause-numbers
returns-then-self-len-clause-numbers g c = λ key.
    let inside = c.self.inside in
    let eq = g.K.PartialEq.eq in
    let last = newest (reverse inside.steps.items) inside.lists.entries c.args.self.now c.self.view_is in
    ap (λ l. numbers_at eq key (latest (versions (reverse l) c.drop_empty.new.lists.entries))) c.emptied.ensures
    ∙ c.drop_empty.ensures key ∙ ap (numbers_at eq key) c.settle.ensures ∙ sym (ap (numbers_at eq key) last)

pub returns-else-self-len-clause-numbers : goal.returns-else-self-len-clause-numbers
returns-else-self-len-clause-numbers g c = λ key.
    let inside = c.self.inside in
    let eq = g.K.PartialEq.eq in
    let last = newest (reverse inside.steps.items) inside.lists.entries c.args.self.now c.self.view_is in
    ap (λ l. numbers_at eq key (latest (versions (reverse l) c.settle.new.lists.entries))) c.emptied.ensures
    ∙ ap (numbers_at eq key) c.settle.ensures ∙ sym (ap (numbers_at eq key) last)
