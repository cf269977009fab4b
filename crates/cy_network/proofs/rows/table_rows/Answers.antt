use Rattle.std.proofs.Common.{sym, subst}
use Rattle.cy_network_memory.specs.Listings.{IsListing}
use Rattle.cy_network_parts.specs.Counted.{counted}
use Rattle.cy_network.proofs.Entries.{all_positive, distinct_once, weight_counted}
use Rattle.cy_network.proofs.rows.table_rows.Goals as goal

pub returns : goal.returns
returns c =
    let es = c.args.rows.now.entries in
    let once = distinct_once es c.in_ok-pairs.ensures.unique in
    subst (IsListing (counted es)) (sym c.in_ok-pairs.ensures.pairs) (record { counts = λ row. weight_counted es once row; once = once; positive = all_positive es once c.requires })
