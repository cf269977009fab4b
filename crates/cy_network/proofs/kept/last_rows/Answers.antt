use Rattle.std.proofs.Common.{Some, None, sym, subst}
use Rattle.std.specs.Prelude.{IfOk}
use Rattle.cy_network_memory.specs.Counts.{Counts}
use Rattle.cy_network_memory.specs.Listings.{IsListing}
use Rattle.cy_network.proofs.LastMemory.{last_found}
use Rattle.cy_network.proofs.Once.{none_listing}
use Rattle.cy_network.proofs.kept.last_rows.Goals as goal

pub returns-in-Some : goal.returns-in-Some
returns-in-Some g c =
    subst (λ (f : Counts). IfOk c.counted.result (λ pairs. IsListing f pairs.items)) (sym (last_found g.M.Memory.was c.args.memories.now (Some c.in-Some.memory.now) c.in-Some.ensures.value)) c.counted.ensures

pub returns-in-None : goal.returns-in-None
returns-in-None g c =
    subst (λ (f : Counts). IsListing f c.new.result.items) (sym (last_found g.M.Memory.was c.args.memories.now None c.in-None.ensures.value))
    (subst (IsListing _) (sym c.new.ensures.items) none_listing)
