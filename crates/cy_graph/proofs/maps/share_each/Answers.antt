use Rattle.std.proofs.Common.{ap, ◌∙◌}
use Rattle.std.proofs.Math.ListN.{get_or, set}
use Rattle.std.proofs.lemmas.List.{set-get_or}
use Rattle.cy_graph.proofs.maps.share_each.Goals as goal

-- an entry with the same key
pub loop-entry-preserved : goal.loop-entry-preserved
loop-entry-preserved g c =
    let l = c.loop-entry in
    let entry = c.entry-item.result in
    ap (λ key. set l.entries l.entry-index (key, (get_or l.entries l.entry-index entry).1)) c.share.ensures ∙ set-get_or l.entries l.entry-index entry ∙ l.invariant
