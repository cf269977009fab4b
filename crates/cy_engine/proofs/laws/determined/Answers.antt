use Rattle.cy_engine.proofs.OneAnswer.{step_one}
use Rattle.cy_engine.proofs.laws.determined.Goals as goal

pub returns : goal.returns
returns c = step_one c.row_order_laws.ensures.total c.trees_and_texts.ensures.one
