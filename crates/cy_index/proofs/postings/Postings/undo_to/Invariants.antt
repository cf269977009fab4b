use Rattle.std.proofs.Common.{◌≡◌, ◌+◌, ◌-◌, ◌<◌, length, drop}
use Rattle.cy_index.proofs.postings.Postings.undo_to.Given as goal

-- what is left to be taken back leads to the version at the mark
abbrev pub invariant-loop-self : goal.invariant-loop-self
invariant-loop-self g l = record {
  there : l.mark < length l.self;
  leads : drop (length l.self - (l.mark + 1)) l.self ≡ drop (length l.initial.self - (l.mark + 1)) l.initial.self;
}

abbrev pub decreases-loop-self : goal.decreases-loop-self
decreases-loop-self g l = length l.self
