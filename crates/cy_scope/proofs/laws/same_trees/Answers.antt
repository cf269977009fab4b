use Rattle.cy_scope.proofs.SameItself.{same_itself}
use Rattle.cy_scope.proofs.SameTrees.{same_resolved}
use Rattle.cy_scope.proofs.laws.same_trees.Goals as goal

pub returns-clause-itself : goal.returns-clause-itself
returns-clause-itself c = λ e. same_itself e

pub returns-clause-resolves : goal.returns-clause-resolves
returns-clause-resolves c = λ scope a b is. same_resolved scope a b is
