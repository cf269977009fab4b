use Rattle.std.proofs.Common.{sym, ap, ◌∙◌, is_some}
use Rattle.cy_engine_views.proofs.Gone.{held_gone, none_gone, stand_gone}
use Rattle.cy_engine_views.proofs.Named.{is_there}
use Rattle.cy_engine_views.proofs.views.Views.remove.Goals as goal

pub returns-clause-there : goal.returns-clause-there
returns-clause-there c = c.is_some.ensures ∙ ap is_some c.shift_remove.ensures.value ∙ is_there c.args.name.now c.args.self.now.registered.entries

pub returns-clause-stand : goal.returns-clause-stand
returns-clause-stand c = λ graph tick stand. stand_gone c.args.self.now (record c.args.self.now { registered = c.shift_remove.new.self }) c.args.name.now c.shift_remove.ensures.entries graph tick stand

pub returns-clause-gone : goal.returns-clause-gone
returns-clause-gone c = λ graph tick stand. held_gone c.args.self.now (record c.args.self.now { registered = c.shift_remove.new.self }) c.args.name.now c.shift_remove.ensures.entries stand.named

pub returns-clause-none : goal.returns-clause-none
returns-clause-none c = λ none. none_gone c.args.self.now (record c.args.self.now { registered = c.shift_remove.new.self }) c.args.name.now c.shift_remove.ensures.entries (sym (ap is_some c.shift_remove.ensures.value) ∙ sym c.is_some.ensures ∙ none)
