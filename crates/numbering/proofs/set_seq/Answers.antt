use Rattle.std.proofs.Common.{refl}
use Rattle.chain.proofs.Writes.{written}
use Rattle.numbering.proofs.Placing.{alone_between, alone_last}
use Rattle.numbering.proofs.set_seq.Goals as goal

pub returns : goal.returns
returns c =
    let stored = written c.args.insts.now _ _ _ _ _ _ refl c.index.ensures refl in
    record { stored = stored; last = alone_last stored; between = alone_between stored }
