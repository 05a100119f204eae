-- What a replacement leaves to ask. Assumes nothing.
use Rattle.std.specs.Prelude.{List}
use Rattle.cursor.specs.declared.CursorPosition.{CursorPosition}
use Rattle.cursor_faults.specs.Edits.{inst_taken}
use Rattle.cursor_faults.specs.Moves.{next_inst_position, or_this}
use Rattle.cursor_faults.specs.Questions.{put_inst_asked}
use Rattle.entities.specs.declared.Inst.{Inst}
use Rattle.entities.specs.Program.{Program}
use Rattle.faults.specs.Questions.{Question}

-- what putting i in is asked, once the instruction at `at` is taken out and the cursor has stepped on
abbrev pub put_then_asked : Inst → CursorPosition → Program → List Question
put_then_asked i at p = put_inst_asked i (or_this (next_inst_position at p) at) (inst_taken at p)
