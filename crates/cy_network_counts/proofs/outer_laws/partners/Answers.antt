use Rattle.cy_network_counts.proofs.PartnerLemmas.{are_numbers, only_numbers}
use Rattle.cy_network_counts.proofs.outer_laws.partners.Goals as goal

pub returns-clause-are : goal.returns-clause-are
returns-clause-are c = are_numbers

pub returns-clause-only : goal.returns-clause-only
returns-clause-only c = only_numbers
