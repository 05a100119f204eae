-- The name is neither of the two. Assumes nothing.
use Rattle.call_names.proofs.Positions.{no_call}
use Rattle.call_names.proofs.reading.of_position.Goals as goal

pub returns-in_default : goal.returns-in_default
returns-in_default c = no_call c.args.name.now c.in_default.not-set_position c.in_default.not-at_position c.args.position
