use Rattle.std.proofs.Common.{◌≡◌, true, length}
use Rattle.entities.specs.Program.{remove_block, with_lines}
use Rattle.entities.specs.Reading.{inserted_block, slots_of}
use Rattle.listing.specs.Held.{program}
use Rattle.bodies.proofs.remove_block_and_insts.Given as goal

abbrev pub invariant-loop-inst : goal.invariant-loop-inst
invariant-loop-inst l = record {
  inserted : inserted_block l.block (program l.listing) ≡ true;
  without_block : with_lines (program l.listing) (remove_block l.block (program l.listing).lines) ≡ with_lines (program l.initial.listing) (remove_block l.block (program l.initial.listing).lines);
}

abbrev pub decreases-loop-inst : goal.decreases-loop-inst
decreases-loop-inst l = length (slots_of l.block (program l.listing))
