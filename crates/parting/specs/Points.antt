-- What a walk through a whole layout still has to give. Assumes nothing.
use Rattle.std.specs.Prelude.{List, [], ◌++◌, map, Some, None, Option}
use Rattle.std.specs.List.{flat_map}
use Rattle.entities.specs.declared.Inst.{Inst}
use Rattle.entities.specs.declared.progpoint.ProgramPoint.{ProgramPoint}
use Rattle.entities.specs.declared.progpoint.ProgramPoint.TheVariants.{Inst as inst_point}
use Rattle.entities.specs.Reading.{walk_of}
use Rattle.layout.specs.Program.{program}
use Rattle.walks.specs.Walks.{blocks_left, insts_left}
use Rattle.walks.specs.declared.Insts.{Insts}
use Rattle.parting.specs.declared.walk.Points.{Points}

-- the instructions of the block that came last that are still to come
abbrev pub insts_of_last : Option Insts → List Inst
insts_of_last None = []
insts_of_last (Some s) = insts_left s.listing.now s.block s.left

-- these, and behind them each block to come with its instructions
abbrev pub points_left : Points → List ProgramPoint
points_left s = map inst_point (insts_of_last s.insts) ++ flat_map (λ b. walk_of b (program s.layout.now)) (blocks_left s.blocks.listing.now s.blocks.next)
