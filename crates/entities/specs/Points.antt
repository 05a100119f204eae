-- Points. Assumes nothing.
use Rattle.std.specs.Prelude.{Some, None, Option}
use Rattle.entities.specs.declared.Inst.{Inst}
use Rattle.entities.specs.declared.progpoint.ProgramPoint.{ProgramPoint}
use Rattle.entities.specs.declared.progpoint.ProgramPoint.TheVariants.{Inst as inst_point, Block as block_point}

abbrev pub inst_of : ProgramPoint → Option Inst
inst_of (inst_point i) = Some i
inst_of (block_point b) = None
