use Rattle.std.proofs.Common.{length, reverse, ap, arith}
use Rattle.std.proofs.lemmas.List.{length-reverse}
use Rattle.cy_index.proofs.Versions.{length_versions}
use Rattle.cy_index.proofs.postings.Postings.mark.Goals as goal

-- there is a version more than steps
pub returns : goal.returns
returns g c =
    let inside = c.self.inside in
    omega (arith, c.len.ensures, inside.steps.ok.0, length-reverse inside.steps.items, length_versions (reverse inside.steps.items) inside.lists.entries, ap length c.self.view_is)
