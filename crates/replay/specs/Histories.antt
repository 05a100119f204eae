-- What a list of calls makes of a program by the rules. Assumes nothing.
use Rattle.std.specs.Prelude.{◌≡◌, ℕ, Bool, true, List, [], ◌∷◌, nat_lt, slice_index_or, slice_set}
use Rattle.entities.specs.Program.{Program}
use Rattle.faults.specs.Refusals.{Told}
use Rattle.cursor.specs.declared.CursorPosition.{CursorPosition}
use Rattle.cursor.specs.declared.CursorPosition.TheVariants.{Nowhere}
use Rattle.layout.specs.declared.Layout.{Layout}
use Rattle.layout.specs.Program.{program}
use Rattle.calls.specs.declared.Edit.{Edit}
use Rattle.calls.specs.declared.CursorCall.{CursorCall}
use Rattle.calls.specs.declared.Call.{Call}
use Rattle.calls.specs.declared.Call.TheVariants.{Layout as of_layout, Cursor as of_cursor}
use Rattle.calls.specs.Replies.{Reply, wrote, as_reply}
use Rattle.calls.specs.Calls.{edit_rule, cursor_rule}

-- ---- one call, of a layout that holds p with cursors at these places

-- is there such a cursor among n?
abbrev pub fits : (n : ℕ) → Call → Bool
fits n (of_layout e) = true
fits n (of_cursor k c) = nat_lt k n

-- what it answers, the program afterwards, and where the cursors then are
pub record Made : Type 0 where
  pub answer : Told Reply
  pub after : Program
  pub places : List CursorPosition

-- where cursor k is
abbrev pub place_of : ℕ → List CursorPosition → CursorPosition
place_of k ps = slice_index_or ps k Nowhere

abbrev pub made : Call → Program → List CursorPosition → Made
made (of_layout e) p ps = record { answer = as_reply wrote (edit_rule e p).answer; after = (edit_rule e p).after; places = ps }
made (of_cursor k c) p ps = record { answer = (cursor_rule c (place_of k ps) p).answer; after = (cursor_rule c (place_of k ps) p).after; places = slice_set ps k (cursor_rule c (place_of k ps) p).place }

-- ---- histories: the calls that led here

-- a call of a history: an edit of the layout, or a cursor call with the position that its cursor had
pub data Move : Type 0 where
  edited : Edit → Move
  called : CursorCall → CursorPosition → Move

-- what it made of the list
abbrev pub after_move : Move → Program → Program
after_move (edited e) p = (edit_rule e p).after
after_move (called c at) p = (cursor_rule c at p).after

-- the list that a history makes of the one it started from
abbrev pub listed : (start : Program) → List Move → Program
listed p [] = p
listed p (m ∷ h) = listed (after_move m p) h

-- the history led to this layout: its list, numbers and all 256 marks are what the history makes of the start
abbrev pub Reached : (start : Program) → List Move → Layout → Type 0
Reached start h l = program l ≡ listed start h

abbrev pub move_of : Call → List CursorPosition → Move
move_of (of_layout e) ps = edited e
move_of (of_cursor k c) ps = called c (place_of k ps)

-- a list of calls as a history, each with the position that its cursor then has
abbrev pub moves : List Call → Program → List CursorPosition → List Move
moves [] p ps = []
moves (c ∷ cs) p ps = move_of c ps ∷ moves cs (made c p ps).after (made c p ps).places
