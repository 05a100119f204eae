-- The names of cursors, and the commands that lines give behind those that made them. Assumes nothing.
use Rattle.std.specs.Prelude.{◌≡◌, ℕ, List, [], ◌∷◌, ◌++◌, length, slice_index_or, bytes_eq, position, Option, Some, None, Result, Ok, Err}
use Rattle.std.specs.Borrow.{Bor}
use Rattle.std.specs.HashMap.{HashMap, get_by}
use Rattle.script.specs.declared.Command.{Command}
use Rattle.script.specs.declared.Command.TheVariants as command
use Rattle.commands.specs.declared.CursorKind.{CursorKind}
use Rattle.commands.specs.declared.CursorCommand.{CursorCommand}
use Rattle.script.specs.declared.texts.What.{What}
use Rattle.script.specs.declared.texts.What.TheVariants.{UnknownCursor, NameTaken}
use Rattle.words.specs.Words.{texts}
use Rattle.lines.specs.Lines.{Said, layout, new_cursor, cursor}

-- where the name stands in the order of making
abbrev pub place_of : List ℕ → (names : List (List ℕ)) → Option ℕ
place_of name names = position (bytes_eq name) names

-- the map finds each name where it stands
abbrev pub Indexes : {S : Type 0} → HashMap (Bor (List ℕ)) ℕ S → (order : List (Bor (List ℕ))) → Type 0
Indexes places order = (name : List ℕ) → get_by (λ k. bytes_eq name k.now) places ≡ place_of name (texts order)

-- ---- from a line to its command

-- a cursor is made by a name that none has
abbrev pub made : (found : Option ℕ) → (index : ℕ) → CursorKind → Result Command What
made None index k = Ok (command.NewCursor index k)
made (Some i) index k = Err NameTaken

-- a cursor is called by a name that it has
abbrev pub called : (found : Option ℕ) → CursorCommand → Result Command What
called None c = Err UnknownCursor
called (Some index) c = Ok (command.Cursor index c)

abbrev pub command_of : (names : List (List ℕ)) → Said → Result Command What
command_of names (layout c) = Ok (command.Layout c)
command_of names (new_cursor name k) = made (place_of name names) (length names) k
command_of names (cursor name c) = called (place_of name names) c

-- the names behind a line
abbrev pub names_after : (names : List (List ℕ)) → Said → List (List ℕ)
names_after names (layout c) = names
names_after names (new_cursor name k) = names ++ (name ∷ [])
names_after names (cursor name c) = names

-- ---- from a command to its line

abbrev pub line_of : (names : List (List ℕ)) → Command → Said
line_of names (command.Layout c) = layout c
line_of names (command.NewCursor index k) = new_cursor (slice_index_or names index []) k
line_of names (command.Cursor index c) = cursor (slice_index_or names index []) c
