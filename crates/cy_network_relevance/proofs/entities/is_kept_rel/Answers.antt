use Rattle.std.proofs.Common.{ap, sym, ◌∙◌}
use Rattle.std.specs.Option.{option_copied}
use Rattle.cy_planner_algebra.specs.Plans as plan
use Rattle.cy_network_sources.specs.Scans.{scan_parts}
use Rattle.cy_network_sources.specs.internal.Through.{rel_made}
use Rattle.cy_network_relevance.proofs.Rules.{both_rels}
use Rattle.cy_network_relevance.proofs.entities.is_kept_rel.Goals as goal

pub returns-in-Some-Some : goal.returns-in-Some-Some
returns-in-Some-Some c = λ yes types orientation other_types other_orientation leaf number.
    let old = c.in-Some-Some.old.now in
    let new = c.in-Some-Some.new.now in
    ap (λ o. rel_made other_types other_orientation (scan_parts (plan.rels types orientation)) number (option_copied o)) c.in-Some-Some.is-0
    ∙ both_rels old new (c.have_same_ends.ensures yes) types orientation other_types other_orientation leaf number
    ∙ sym (ap (λ o. rel_made other_types other_orientation (scan_parts (plan.rels types orientation)) number (option_copied o)) c.in-Some-Some.is-1)
