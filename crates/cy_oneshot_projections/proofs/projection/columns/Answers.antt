use Rattle.std.proofs.Common.{inl, inr, sym, arith}
use Rattle.std.proofs.lemmas.List.{take_all}
use Rattle.cy_oneshot_projections.proofs.projection.columns.Goals as goal

pub returns-in-None : goal.returns-in-None
returns-in-None c = sym (take_all c.args.width c.args.cells.now (elim c.in-None.ensures.lookup.0 [ inl h ↦ omega arith | inr h ↦ omega arith ]))
