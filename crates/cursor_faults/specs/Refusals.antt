-- How a cursor call is refused: the place where the numbers of the cursor's questions stand. Assumes nothing.
use Rattle.std.specs.Prelude.{Some, None, Ok, Err, Option, Result}
use Rattle.faults.specs.declared.Layer.TheVariants.{Cursor as by_cursor}
use Rattle.faults.specs.declared.LayoutFault.{LayoutFault}
use Rattle.faults.specs.Refusals.{Refusal, Told, accepted, refused, refusal_of}
use Rattle.cursor_faults.specs.declared.CursorFault.{CursorFault}
use Rattle.cursor_faults.specs.declared.CursorFault.TheVariants.{Stale, WrongPosition, Empty, Layout}

-- the layout's refusal is told as the layout tells it
abbrev pub cursor_refusal_of : CursorFault → Refusal
cursor_refusal_of (Stale e) = record { number = 3; layer = by_cursor; entity = Some e }
cursor_refusal_of WrongPosition = record { number = 4; layer = by_cursor; entity = None }
cursor_refusal_of (Empty e) = record { number = 8; layer = by_cursor; entity = Some e }
cursor_refusal_of (Layout f) = refusal_of f

-- the layout's refusal, whole, where the layout refused
abbrev pub carried : CursorFault → Option LayoutFault
carried (Stale e) = None
carried WrongPosition = None
carried (Empty e) = None
carried (Layout f) = Some f

-- what a cursor call tells
abbrev pub cursor_told : {A : Type 0} → Result A CursorFault → Told A
cursor_told (Ok a) = accepted a
cursor_told (Err f) = refused (cursor_refusal_of f)
