use Rattle.std.proofs.Common.{false, take}
use Rattle.cy_index.specs.internal.Postings.{latest, Goes, Puts}
use Rattle.cy_index.proofs.postings.Postings.remove_each.Given as goal

-- the keys so far do not have the number
abbrev pub invariant-loop-key : goal.invariant-loop-key
invariant-loop-key g l = record {
  goes : Goes l.initial.self l.self;
  puts : Puts g.K.PartialEq.eq (take l.key-index l.keys) l.number false (latest l.initial.self) (latest l.self);
}
