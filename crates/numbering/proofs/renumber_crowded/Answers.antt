use Rattle.std.proofs.Common.{arith}
use Rattle.numbering.proofs.Placing.{crowded_past, crowded_settled, followed, run_stays, stored_few}
use Rattle.numbering.proofs.Tails.{few, run_tail}
use Rattle.numbering.proofs.renumber_crowded.Goals as goal

pub renumber_insts-requires : goal.renumber_insts-requires
renumber_insts-requires c = record { followed = record { slots = _; followed = followed _ _ _ c.requires.placed.placed }; room = omega arith }

pub full_block_renumber-requires : goal.full_block_renumber-requires
full_block_renumber-requires c =
    let p = c.requires.placed.placed in
    record { insts = _; run = run_stays (c.in-Err.ensures _ (followed _ _ _ p)) p.run }

pub overflow_add-result : goal.overflow_add-result
overflow_add-result c =
    let p = c.requires.placed.placed in
    let f = followed _ _ _ p in
    let s = c.in-Err.ensures _ f in
    omega (arith, stored_few f s, few (run_tail p.run), (c.full_block_renumber.ensures _ (run_stays s p.run)).count)

pub returns-in-Ok : goal.returns-in-Ok
returns-in-Ok c = crowded_settled c.requires.room c.in-Ok.ensures

pub returns-in-Err : goal.returns-in-Err
returns-in-Err c = crowded_past c.requires.room c.in-Err.ensures c.full_block_renumber.ensures
