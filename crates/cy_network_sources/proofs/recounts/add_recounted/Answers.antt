use Rattle.std.specs.Prelude.{OnOk, Result, Ok, Err}
use Rattle.std.specs.List.{All}
use Rattle.cy_network_operators.specs.Deltas.{IsBounded}
use Rattle.cy_network_sources.proofs.recounts.add_recounted.Goals as goal

both : {A E : Type 0} (P Q R : Type 0) (result : Result A E) → (P → Q) → OnOk result (Q → R) → OnOk result (P → R)
both P Q R (Ok a) first second = λ p. second (first p)
both P Q R (Err e) first second = tt

pub returns-clause-bounded : goal.returns-clause-bounded
returns-clause-bounded c =
    both (All IsBounded c.args.deltas.now.items) (All IsBounded c.add_gone.new.deltas.items) (All IsBounded c.add_come.new.deltas.items) c.add_come.result
    c.in_ok-add_gone.ensures.bounded c.add_come.ensures.bounded
