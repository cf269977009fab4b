use Rattle.cy_engine_views.proofs.registered.Registered.settle.Goals as goal

pub settle-requires : goal.settle-requires
settle-requires c = c.requires.rows c.if-not-self.false
