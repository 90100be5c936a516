use Rattle.season.proofs.Adding.{add_job}
use Rattle.season.proofs.add.Goals as goal

pub returns : goal.returns
returns c = add_job _ _ _ _ c.counts_of.ensures c.add_up.ensures
