-- What a source and a sink over memory are (own).
use Rattle.std.specs.Prelude.{ℕ, List, Bool}

-- the bytes that are left to read, and those that the last read took
pub record BytesLeft : Type 0 where
  pub left : List ℕ
  pub taken : List ℕ

-- what was written, how many bytes there is room for in all, and whether a write has failed
pub record MemoryBytes : Type 0 where
  pub written : List ℕ
  pub room : ℕ
  pub has_failed : Bool
