-- What is asked to put something in at a position, and the number of what the position is on. Assumes nothing.
use Rattle.std.specs.Prelude.{Bool, true, List}
use Rattle.cursor.specs.declared.CursorPosition.{CursorPosition}
use Rattle.cursor.specs.declared.CursorPosition.TheVariants.{Nowhere, At, Before, After}
use Rattle.cursor_faults.specs.Questions.{put_block_asked, put_inst_asked}
use Rattle.entities.specs.Program.{Program}
use Rattle.entities.specs.declared.progpoint.ProgramPoint.{ProgramPoint}
use Rattle.entities.specs.declared.progpoint.ProgramPoint.TheVariants.{Block as block_point, Inst as inst_point}
use Rattle.faults.specs.Questions.{Question, in_range_block, in_range_inst}

abbrev pub put_asked : ProgramPoint → CursorPosition → Program → List Question
put_asked (inst_point i) at p = put_inst_asked i at p
put_asked (block_point b) at p = put_block_asked b at p

-- is it Nowhere, or on a number in range?
abbrev pub place_in_range : CursorPosition → Bool
place_in_range Nowhere = true
place_in_range (At i) = in_range_inst i
place_in_range (Before b) = in_range_block b
place_in_range (After b) = in_range_block b
