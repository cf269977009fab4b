use Rattle.std.proofs.Common.{◌≡◌, ◌++◌, List, true, length}
use Rattle.cy_index.specs.internal.Postings.{latest, Goes, Puts}
use Rattle.cy_index.proofs.postings.Postings.add_each.Given as goal

-- the keys that were taken from the end have the number
abbrev pub invariant-loop-key : goal.invariant-loop-key
invariant-loop-key g l = record {
  goes : Goes l.initial.self l.self;
  done : List g.row.K.Denot;
  all : l.initial.keys.items ≡ l.keys.items ++ done;
  puts : Puts g.K.PartialEq.eq done l.number true (latest l.initial.self) (latest l.self);
}

abbrev pub decreases-loop-key : goal.decreases-loop-key
decreases-loop-key g l = length l.keys.items
