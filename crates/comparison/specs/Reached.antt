-- The program that commands reach: what their calls make of the empty one. Assumes nothing.
use Rattle.std.specs.Prelude.{◌≡◌, Bool, true, false, List, map, length, filter_map, Option, Some, None}
use Rattle.entities.specs.Program.{Program, no_program}
use Rattle.cursor.specs.declared.CursorPosition.{CursorPosition}
use Rattle.cursor.specs.declared.CursorPosition.TheVariants.{Nowhere}
use Rattle.layout.specs.declared.Layout.{Layout}
use Rattle.layout.specs.Program.{program}
use Rattle.calls.specs.declared.Call.{Call}
use Rattle.calls.specs.declared.Call.TheVariants as call
use Rattle.commands.specs.declared.CursorKind.{CursorKind}
use Rattle.commands.specs.declared.LayoutCommand.TheVariants as layout_command
use Rattle.commands.specs.declared.CursorCommand.TheVariants as cursor_command
use Rattle.replay.specs.Histories.{listed, moves}
use Rattle.replay.specs.Runs.{all_fit}
use Rattle.cursor.specs.Kinds.{any_position}
use Rattle.session.specs.declared.Session.{Session}
use Rattle.script.specs.declared.Command.{Command}
use Rattle.script.specs.declared.Command.TheVariants as command

-- the call that a command makes: questions and walks make none
abbrev pub call_of : Command → Option Call
call_of (command.Layout (layout_command.Edit e)) = Some (call.Layout e)
call_of (command.Cursor k (cursor_command.Call c)) = Some (call.Cursor k c)
call_of _ = None

-- the calls of commands, in order
abbrev pub calls_of : List Command → List Call
calls_of commands = filter_map call_of commands

-- the kind of the cursor that a command makes
abbrev pub kind_of : Command → Option CursorKind
kind_of (command.NewCursor k kind) = Some kind
kind_of _ = None

-- the kinds of the cursors that commands make, in order of making
abbrev pub kinds_of : List Command → List CursorKind
kinds_of commands = filter_map kind_of commands

-- every cursor that is made is Nowhere at first
abbrev pub first_places : List CursorKind → List CursorPosition
first_places kinds = map (λ kind. Nowhere) kinds

-- does some command make each cursor that is called?
abbrev pub cursors_made : List Command → Bool
cursors_made commands = all_fit (length (kinds_of commands)) (calls_of commands)

-- what the calls make of the empty program, in turn
abbrev pub program_of : List Command → Program
program_of commands = listed no_program (moves (calls_of commands) no_program (first_places (kinds_of commands)))

-- an empty layout, and a cursor that is Nowhere for each kind
pub record IsFresh (kinds : List CursorKind) (s : Session) : Type 0 where
  pub layout : program s.layout ≡ no_program
  pub cursors : map any_position s.cursors.items ≡ first_places kinds

-- the layout is behind the calls, made in turn on the session
pub record RunOf (s : Session) (calls : List Call) (l : Layout) : Type 0 where
  pub fit : all_fit (length s.cursors.items) calls ≡ true
  pub list : program l ≡ listed (program s.layout) (moves calls (program s.layout) (map any_position s.cursors.items))

-- there is such a layout, or a call's cursor is not there
abbrev pub Runs : Session → List Call → Option Layout → Type 0
Runs s calls None = all_fit (length s.cursors.items) calls ≡ false
Runs s calls (Some l) = RunOf s calls l

-- a layout that holds the program that the calls make
pub record ReachedBy (commands : List Command) (l : Layout) : Type 0 where
  pub made : cursors_made commands ≡ true
  pub list : program l ≡ program_of commands

-- there is such a layout, or a cursor is called that no command makes
abbrev pub Reaches : List Command → Option Layout → Type 0
Reaches commands None = cursors_made commands ≡ false
Reaches commands (Some l) = ReachedBy commands l
