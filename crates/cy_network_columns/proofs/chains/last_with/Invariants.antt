use Rattle.std.proofs.Common.{◌≡◌, ◌≤◌, ℕ, suc, true, Option, Some, length}
use Rattle.cy_network_columns.specs.Hashes.{has_hash, last_below}
use Rattle.cy_network_columns.specs.internal.Chains.{AreChained, hashes_of, is_at, rank_below}
use Rattle.cy_network_columns.proofs.chains.last_with.Given as goal

-- none of the numbers so far has the hash, and the next one is at the place
abbrev pub invariant-loop-rank : goal.invariant-loop-rank
invariant-loop-rank l = record {
  inside : l.rank ≤ length l.links;
  skipped : (at : ℕ → Option ℕ) (place bound : ℕ) → AreChained at l.links → l.rank-2 ≡ rank_below (is_at at place) bound
      → ((i : ℕ) → has_hash (hashes_of l.links) l.hash i ≡ true → at i ≡ Some place) → last_below (has_hash (hashes_of l.links) l.hash) bound ≡ last_below (has_hash (hashes_of l.links) l.hash) l.rank;
  placed : (at : ℕ → Option ℕ) (place bound i : ℕ) → AreChained at l.links → l.rank-2 ≡ rank_below (is_at at place) bound → l.rank ≡ suc i → at i ≡ Some place;
}

abbrev pub decreases-loop-rank : goal.decreases-loop-rank
decreases-loop-rank l = l.rank
