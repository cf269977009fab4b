use Rattle.cy_index.proofs.Versions.{goes_on}
use Rattle.cy_index.proofs.postings.Postings.replace_each.Goals as goal

-- the versions go on twice
pub returns-clause-goes : goal.returns-clause-goes
returns-clause-goes g c = goes_on c.args.self.now c.remove_each.new.self c.add_each.new.self c.remove_each.ensures.goes c.add_each.ensures.goes
