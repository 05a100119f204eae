-- What carrying out the commands of a script makes of a session, and what it prints. Assumes nothing.
use Rattle.std.specs.Prelude.{◌≡◌, ◌⊎◌, ℕ, Bool, true, List, [], ◌∷◌, ◌++◌, length, nat_lt, Some, None, Option, Result, Ok, Err}
use Rattle.std.specs.Io.KnownBytes.{Appends, Keeps}
use Rattle.std.specs.IoError.{error_kind}
use Rattle.std.specs.declared.io.Error.{Error}
use Rattle.std.specs.declared.io.ErrorKind.TheVariants.{InvalidInput}
use Rattle.entities.specs.Program.{Program, no_program}
use Rattle.layout.specs.Program.{program}
use Rattle.cursor.specs.declared.CursorPosition.{CursorPosition}
use Rattle.cursor.specs.declared.CursorPosition.TheVariants.{Nowhere}
use Rattle.cursor.specs.Kinds.{any_position}
use Rattle.calls.specs.declared.Call.{Call}
use Rattle.calls.specs.declared.Call.TheVariants.{Layout as of_layout, Cursor as of_cursor}
use Rattle.replay.specs.Histories.{Move, Reached, fits}
use Rattle.replay.specs.Runs.{OneCallInOrder, Outcome}
use Rattle.commands.specs.declared.LayoutCommand.TheVariants as layout_command
use Rattle.commands.specs.declared.CursorCommand.TheVariants as cursor_command
use Rattle.printed.specs.declared.Reply.{Reply}
use Rattle.printed.specs.declared.Reply.TheVariants as reply
use Rattle.printed.specs.Printed.{told_text}
use Rattle.script.specs.declared.Command.{Command}
use Rattle.script.specs.declared.Command.TheVariants as command
use Rattle.script.specs.Names.{line_of}
use Rattle.session.specs.declared.Session.{Session}
use Rattle.session.specs.Sessions.{AddsCursor, Answers, Unchanged, cursor_answer, place_at}
use Rattle.transcript.specs.Walks.{row, walk_text, walk_back_text}

-- the call's cursor is there, and from s to t the call was made, as a run of one: whatever history led here, it answers o
pub record Makes (c : Call) (o : Outcome) (s t : Session) : Type 0 where
  pub there : fits (length s.cursors.items) c ≡ true
  pub one_order : (start : Program) (h : List Move) → Reached start h s.layout → OneCallInOrder any_position start h c (Some o) s.layout s.cursors.items t.layout t.cursors.items

-- the line of a command with its reply, and where the cursor that it calls then is
abbrev pub entry_row : (names : List (List ℕ)) → Command → Reply → Option CursorPosition → List ℕ
entry_row names c r at = row (told_text (line_of names c) r at)

-- a command was carried out from s to t, and prints the text; the names are those of the script's cursors
abbrev pub CarriedOut : (names : List (List ℕ)) → Command → (s t : Session) → (text : List ℕ) → Type 0
CarriedOut names (command.Layout (layout_command.Edit e)) s t text = (o : Outcome) × Makes (of_layout e) o s t × (text ≡ entry_row names (command.Layout (layout_command.Edit e)) (reply.Outcome o) None)
CarriedOut names (command.Layout (layout_command.Ask q)) s t text = Unchanged s t × ((r : Reply) × Answers q (program s.layout) r × (text ≡ entry_row names (command.Layout (layout_command.Ask q)) r None))
CarriedOut names (command.Layout layout_command.Walk) s t text = Unchanged s t × (text ≡ walk_text (program s.layout))
CarriedOut names (command.Layout layout_command.WalkBack) s t text = Unchanged s t × (text ≡ walk_back_text (program s.layout))
CarriedOut names (command.NewCursor k kind) s t text = AddsCursor kind s t × (text ≡ entry_row names (command.NewCursor k kind) (reply.Position Nowhere) None)
CarriedOut names (command.Cursor k (cursor_command.Call c)) s t text = (o : Outcome) × Makes (of_cursor k c) o s t × (text ≡ entry_row names (command.Cursor k (cursor_command.Call c)) (reply.Outcome o) (place_at k t))
CarriedOut names (command.Cursor k (cursor_command.Ask q)) s t text = Unchanged s t × ((r : Reply) × (cursor_answer q (place_at k s) (program s.layout) ≡ Some r) × (text ≡ entry_row names (command.Cursor k (cursor_command.Ask q)) r (place_at k s)))

-- what is told of it: what it prints is appended to the known bytes; or there is an error, and then nothing was done, or it could not be printed
abbrev pub CarryTold : {E : Type 0} → Result (Unit {0}) E → (names : List (List ℕ)) → Command → (s t : Session) → (old new : Option (List ℕ)) → Type 0
CarryTold (Ok u) names c s t old new = (text : List ℕ) × CarriedOut names c s t text × Appends old new text
CarryTold (Err e) names c s t old new = Unchanged s t ⊎ ((text : List ℕ) × CarriedOut names c s t text)

-- is the cursor of the command among n?
abbrev pub is_there : (n : ℕ) → Command → Bool
is_there n (command.Layout c) = true
is_there n (command.NewCursor k kind) = true
is_there n (command.Cursor k c) = nat_lt k n

-- the error where a cursor was not made: nothing is done, and nothing printed
abbrev pub NothingDone : Result (Unit {0}) Error → (s t : Session) → (old new : Option (List ℕ)) → Type 0
NothingDone (Ok u) s t old new = ⊥
NothingDone (Err e) s t old new = (error_kind e ≡ InvalidInput) × Unchanged s t × Keeps old new

-- the commands were carried out in turn from s to t: each on what the one before it left, and all that they print is the text
abbrev pub CarriedInTurn : (names : List (List ℕ)) → List Command → (s t : Session) → (text : List ℕ) → Type 0
CarriedInTurn names [] s t text = (t ≡ s) × (text ≡ [])
CarriedInTurn names (c ∷ cs) s t text = (mid : Session) × (here : List ℕ) × (rest : List ℕ) × CarriedOut names c s mid here × CarriedInTurn names cs mid t rest × (text ≡ here ++ rest)

-- the same, with what is printed appended to the known bytes
pub record CarriesInTurn (names : List (List ℕ)) (cs : List Command) (s t : Session) (old new : Option (List ℕ)) : Type 0 where
  pub text : List ℕ
  pub in_turn : CarriedInTurn names cs s t text
  pub printed : Appends old new text

-- an empty layout, and no cursor
pub record IsEmpty (s : Session) : Type 0 where
  pub layout : program s.layout ≡ no_program
  pub cursors : s.cursors.items ≡ []

-- the commands, in turn, led from an empty session to t
pub record Plays (names : List (List ℕ)) (cs : List Command) (t : Session) (old new : Option (List ℕ)) : Type 0 where
  pub start : Session
  pub is_empty : IsEmpty start
  pub carries : CarriesInTurn names cs start t old new
