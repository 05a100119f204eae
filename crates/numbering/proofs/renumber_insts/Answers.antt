use Rattle.numbering.proofs.Pushes.{followed_then}
use Rattle.numbering.proofs.renumber_insts.Goals as goal

pub renumber_behind-requires : goal.renumber_behind-requires
renumber_behind-requires c = record { followed = record { slots = _; followed = followed_then _ c.set_seq.ensures.stored c.requires.followed.followed }; room = c.requires.room }
