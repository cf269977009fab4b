-- No column was marked.
use Rattle.std.proofs.Common.{◌≡◌, true, not, sym, ap, ◌∙◌}
use Rattle.std.specs.List.{list_all}
use Rattle.cy_trees.specs.TreeModels.{path_of}
use Rattle.cy_oneshot.proofs.KnownPaths.{none_read}
use Rattle.cy_oneshot.proofs.conditions.reads_nothing.Goals as goal

pub returns : goal.returns
returns c = λ nothing.
    let needed = c.mark_path.new.needed.items in
    let none : list_all (λ b. not b) needed ≡ true = ap (list_all (λ b. not b)) (sym c.deref.ensures.value) ∙ sym c.is_none_needed.ensures ∙ nothing in
    none_read needed c.args.width (path_of c.args.path.now) (c.in_ok-mark_path.ensures.still.1 ∙ sym c.in_ok-needed.needed.ok.0 ∙ c.in_ok-needed.ensures.len) none c.in_ok-mark_path.ensures.read
