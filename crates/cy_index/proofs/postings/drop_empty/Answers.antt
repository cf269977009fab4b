use Rattle.std.proofs.Common.{rules, ap, ◌∙◌}
use Rattle.indexmap.proofs.CallerLemmas.{filter-RetainsPairs}
use Rattle.cy_index.specs.internal.Numbers.{is_nonempty}
use Rattle.cy_index.specs.internal.Postings.{version_of, numbers_at}
use Rattle.cy_index.proofs.Standing.{numbers_filled}
use Rattle.cy_index.proofs.postings.drop_empty.Goals as goal

-- a key without numbers is as good as none
pub returns : goal.returns
returns g c = λ key.
    let es = c.args.lists.now.entries in
    let kept = filter-RetainsPairs _ (λ e. is_nonempty e.1) _ (λ k v b w f call. search rules) _ _ c.retain.ensures.filtered in
    ap (λ fs. numbers_at g.K.PartialEq.eq key (version_of fs)) kept
    ∙ numbers_filled g.K.PartialEq.eq g.met.K.Eq.laws key es c.len-unique.ensures.unique
