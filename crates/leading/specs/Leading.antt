-- Which calls lead their cursor. Assumes nothing.
use Rattle.std.specs.Prelude.{Bool, true, false}
use Rattle.calls.specs.declared.CursorCall.{CursorCall}
use Rattle.calls.specs.declared.CursorCall.TheVariants.{Goto, At, Step, Position, Edit, SetPosition, AtPosition}

-- gotos, at_ calls, steps and cursor edits; a position question leaves the cursor, and a position that is set is never asked
abbrev pub leads : CursorCall → Bool
leads (Goto g) = true
leads (At g) = true
leads (Step s) = true
leads (Position q) = false
leads (Edit e) = true
leads (SetPosition at) = false
leads (AtPosition at) = false
