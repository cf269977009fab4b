-- What a source over a reader and a sink over a writer are (own).
use Rattle.std.specs.Prelude.{Bool}

-- the reader or the writer, and whether one of its calls has failed
pub record StreamState (Stream : Type 0) : Type 0 where
  pub stream : Stream
  pub has_failed : Bool
