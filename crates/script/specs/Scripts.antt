-- A script: what is read of the words of its lines. Assumes nothing.
use Rattle.std.specs.Prelude.{◌≡◌, ◌≢◌, ℕ, ◌+◌, ◌<◌, true, false, List, [], ◌∷◌, ◌++◌, length, map, take, slice_index_or, Result, Ok, Err}
use Rattle.std.specs.List.{list_any}
use Rattle.script.specs.declared.Command.{Command}
use Rattle.script.specs.declared.texts.What.{What}
use Rattle.script.specs.declared.texts.What.TheVariants.{NotACall, NumberTooLarge, UnknownCursor, NameTaken, OutOfMemory}
use Rattle.script.specs.declared.texts.ScriptFault.{ScriptFault}
use Rattle.script.specs.declared.texts.Script.{Script}
use Rattle.words.specs.Words.{rows}
use Rattle.words.specs.Numbers.{is_too_large}
use Rattle.lines.specs.declared.Line.{Line}
use Rattle.lines.specs.Lines.{Said, said, Says, said_words}
use Rattle.script.specs.Names.{command_of, names_after, line_of}

-- ---- what the words of lines say

-- the commands, and the names of the cursors that they make
pub record Content : Type 0 where
  pub commands : List Command
  pub names : List (List ℕ)

abbrev pub content : Script → Content
content s = record { commands = s.commands.items; names = s.names }

abbrev pub nothing : Content
nothing = record { commands = []; names = [] }

-- the line gives a command, and it is added, with the name of a cursor that it makes
pub record Adds (old : Content) (l : Said) (new : Content) : Type 0 where
  pub command : Command
  pub gives : command_of old.names l ≡ Ok command
  pub commands : new.commands ≡ old.commands ++ (command ∷ [])
  pub names : new.names ≡ names_after old.names l

-- a line without words says nothing, and one with words says a command
abbrev pub ReadsRow : List (List ℕ) → (old new : Content) → Type 0
ReadsRow [] old new = new ≡ old
ReadsRow (w ∷ ws) old new = (l : Said) × Says (w ∷ ws) l × Adds old l new

abbrev pub ReadsRows : List (List (List ℕ)) → (old new : Content) → Type 0
ReadsRows [] old new = new ≡ old
ReadsRows (row ∷ rest) old new = (mid : Content) × ReadsRow row old mid × ReadsRows rest mid new

-- ---- what they do not say

-- no line has these words
abbrev pub SaysNothing : List (List ℕ) → Type 0
SaysNothing row = (l : Said) → ¬ Says row l

-- how a line is refused behind those that made cursors with these names, unless there is no memory left
abbrev pub IsRefused : (names : List (List ℕ)) → Said → What → Type 0
IsRefused names l NotACall = ⊥
IsRefused names l NumberTooLarge = ⊥
IsRefused names l UnknownCursor = command_of names l ≡ Err UnknownCursor
IsRefused names l NameTaken = command_of names l ≡ Err NameTaken
IsRefused names l OutOfMemory = Unit {0}

-- what is wrong with a line of these words
abbrev pub IsWrong : (names : List (List ℕ)) → (row : List (List ℕ)) → What → Type 0
IsWrong names row NotACall = (row ≢ []) × SaysNothing row × (list_any is_too_large row ≡ false)
IsWrong names row NumberTooLarge = SaysNothing row × (list_any is_too_large row ≡ true)
IsWrong names row UnknownCursor = (l : Said) × Says row l × IsRefused names l UnknownCursor
IsWrong names row NameTaken = (l : Said) × Says row l × IsRefused names l NameTaken
IsWrong names row OutOfMemory = Unit {0}

-- the lines ahead are read, and this one is wrong
pub record IsFault (all : List (List (List ℕ))) (old : Content) (fault : ScriptFault) : Type 0 where
  pub ahead : ℕ
  pub inside : ahead < length all
  pub line : fault.line ≡ ahead + 1
  pub mid : Content
  pub reads : ReadsRows (take ahead all) old mid
  pub wrong : IsWrong mid.names (slice_index_or all ahead []) fault.what

-- ---- what reading tells

-- of words: the line that has them, or how they are wrong, if they are any, whatever the cursors are
abbrev pub WordsTold : List (List ℕ) → Result Line What → Type 0
WordsTold row (Ok l) = Says row (said l)
WordsTold row (Err w) = row ≢ [] → (names : List (List ℕ)) → IsWrong names row w

-- of a line behind what was read
abbrev pub LineTold : Said → (old : Content) → Result (Unit {0}) What → (new : Content) → Type 0
LineTold l old (Ok u) new = Adds old l new
LineTold l old (Err w) new = IsRefused old.names l w

abbrev pub RowTold : List (List ℕ) → (old : Content) → Result (Unit {0}) What → (new : Content) → Type 0
RowTold row old (Ok u) new = ReadsRow row old new
RowTold row old (Err w) new = IsWrong old.names row w

abbrev pub RowsTold : List (List (List ℕ)) → (old : Content) → Result (Unit {0}) ScriptFault → (new : Content) → Type 0
RowsTold all old (Ok u) new = ReadsRows all old new
RowsTold all old (Err f) new = IsFault all old f

-- of a whole text
abbrev pub Parses : (text : List ℕ) → Result Script ScriptFault → Type 0
Parses text (Ok s) = ReadsRows (rows text) nothing (content s)
Parses text (Err f) = IsFault (rows text) nothing f

-- what was read, as it is written
abbrev pub written : Content → List (List (List ℕ))
written s = map (λ c. said_words (line_of s.names c)) s.commands
