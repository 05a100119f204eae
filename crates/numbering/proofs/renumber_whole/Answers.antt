use Rattle.numbering.proofs.Placing.{anew_above}
use Rattle.numbering.proofs.renumber_whole.Goals as goal

pub returns : goal.returns
returns c = anew_above c.full_block_renumber.ensures
