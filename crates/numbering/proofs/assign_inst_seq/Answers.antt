use Rattle.std.proofs.Common.{rules}
use Rattle.numbering.proofs.Placing.{in_table, next_in_table, prev_in_table, rises}
use Rattle.numbering.proofs.assign_inst_seq.Goals as goal

pub seq_ahead-prev_seq-requires : goal.seq_ahead-prev_seq-requires
seq_ahead-prev_seq-requires c = let p = c.requires.placed in record { here = in_table _ _ _ p; prev = prev_in_table _ _ _ p }

pub seq_behind-next_seq-requires : goal.seq_behind-next_seq-requires
seq_behind-next_seq-requires c = let p = c.requires.placed in record { here = in_table _ _ _ p; next = next_in_table _ _ _ p }

pub and_then-requires : goal.and_then-requires
and_then-requires c = search (rules, rises c.requires c.seq_ahead-prev_seq.ensures c.seq_behind-next_seq.ensures)

pub set_seq-requires : goal.set_seq-requires
set_seq-requires c = in_table _ _ _ c.requires.placed

pub set_seq-requires-in-None : goal.set_seq-requires-in-None
set_seq-requires-in-None c = in_table _ _ _ c.requires.placed
