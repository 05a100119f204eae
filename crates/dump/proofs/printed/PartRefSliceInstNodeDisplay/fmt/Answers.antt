-- One line more is written. Assumes nothing.
use Rattle.std.proofs.Common.{refl}
use Rattle.std.proofs.lemmas.Grind.{put_two}
use Rattle.dump.proofs.Spelled.{insts_more}
use Rattle.dump.proofs.printed.PartRefSliceInstNodeDisplay.fmt.Goals as goal

pub loop-number-preserved : goal.loop-number-preserved
loop-number-preserved g c plain =
    let so_far = c.loop-number.invariant plain in
    put_two g.W.Write.write_str_gives _ _ _ _ _ _ so_far (c.in_ok-writeln.ensures.writes so_far.plain refl) (insts_more c.args.self.now.0.now c.loop-number.number-counter c.loop-number-test.true)
