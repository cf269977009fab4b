-- Buckets under hashes, and how they are found.
use Rattle.std.specs.Prelude.{◌≡◌, ℕ, Bool, true, List, [], Some, if◌then◌else◌, length, nat_eq, slice_get, IsFalse, IsTrue}
use Rattle.cy_network_columns.specs.Hashes.{IsFilled, has_hash}
use Rattle.cy_network_memory.specs.declared.buckets.Bucket.{Bucket}
use Rattle.cy_network_memory.specs.internal.Buckets.{numbers_in}
use Rattle.cy_network_memory.specs.internal.Maps.{at_hash}

-- the buckets, each with its hash
pub record FiledBuckets : Type 0 where
  pub entries : List (ℕ × Bucket)

-- there is a hash for each bucket, and none stands twice
pub record AreFiled (hashes : List ℕ) (buckets : List Bucket) : Type 0 where
  pub as_many : length buckets ≡ length hashes
  pub once : (hash i j : ℕ) → has_hash hashes hash i ≡ true → has_hash hashes hash j ≡ true → i ≡ j

-- under the hash at a place there is another bucket
pub record Replaces (place hash : ℕ) (bucket : Bucket) (old new : List (ℕ × Bucket)) : Type 0 where
  pub there : slice_get new place ≡ Some (hash, bucket)
  pub under : (other : ℕ) → at_hash other new ≡ (if nat_eq hash other then Some bucket else at_hash other old)

-- the number in a seat of the bucket at a place went; where it was the only one the bucket is to be dropped
pub record Leaves (seat place hash : ℕ) (bucket : Bucket) (old new : List (ℕ × Bucket)) (is_last : Bool) : Type 0 where
  pub left : Bucket
  pub replaces : Replaces place hash left old new
  pub none : IsTrue is_last → IsFilled seat (numbers_in bucket) []
  pub some : IsFalse is_last → IsFilled seat (numbers_in bucket) (numbers_in left)
