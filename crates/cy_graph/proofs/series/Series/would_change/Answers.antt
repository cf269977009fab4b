use Rattle.std.proofs.Common.{sym, ap, ◌∙◌}
use Rattle.std.specs.Option.{option_copied}
use Rattle.cy_graph.proofs.Unchanged.{edited_same}
use Rattle.cy_graph.proofs.series.Series.would_change.Goals as goal

pub returns-in-Some : goal.returns-in-Some
returns-in-Some g c passes =
    edited_same (g.E.Edit.edited c.args.edit.now) c.args.number c.in-Some.value.now c.args.self.now.now c.get.ensures.numbered (sym c.get.ensures.value ∙ ap option_copied c.in-Some.is) (c.changes.ensures passes)
