-- What a position says of the program. Assumes nothing.
use Rattle.std.specs.Prelude.{Bool, true, Some, None, Option}
use Rattle.entities.specs.declared.Block.{Block}
use Rattle.entities.specs.declared.Inst.{Inst}
use Rattle.entities.specs.Program.{Program}
use Rattle.entities.specs.Reading.{inserted_block, inserted_inst, inst_block}
use Rattle.cursor.specs.declared.CursorPosition.{CursorPosition}
use Rattle.cursor.specs.declared.CursorPosition.TheVariants.{Nowhere, At, Before, After}

-- is it Nowhere, or on something inserted?
abbrev pub standing : CursorPosition → Program → Bool
standing Nowhere p = true
standing (At i) p = inserted_inst i p
standing (Before b) p = inserted_block b p
standing (After b) p = inserted_block b p

-- the instruction at which it is
abbrev pub current_inst : CursorPosition → Option Inst
current_inst Nowhere = None
current_inst (At i) = Some i
current_inst (Before b) = None
current_inst (After b) = None

-- that instruction's block, or the one before or after which it is
abbrev pub current_block : CursorPosition → Program → Option Block
current_block Nowhere p = None
current_block (At i) p = inst_block i p
current_block (Before b) p = Some b
current_block (After b) p = Some b
