use Rattle.cy_graph.proofs.Slots.{distinct_one}
use Rattle.cy_graph.proofs.before_images.BeforeImages.iter.Goals as goal

pub returns-in-One-None-clause-distinct : goal.returns-in-One-None-clause-distinct
returns-in-One-None-clause-distinct g c = rw (← c.self.view_is, c.in-One-None.is) (distinct_one _)

pub returns-in-One-Some-clause-distinct : goal.returns-in-One-Some-clause-distinct
returns-in-One-Some-clause-distinct g c = rw (← c.self.view_is, c.in-One-Some.is) (distinct_one _)
