-- What a line says, and in which words. Assumes nothing.
use Rattle.std.specs.Prelude.{◌≡◌, ℕ, Bool, true, not, ◌&&◌, ◌||◌, ◌==◌, List, [], ◌∷◌, ◌++◌, length, codes}
use Rattle.std.specs.List.{list_all}
use Rattle.std.specs.Char.{is_ascii_alphanumeric}
use Rattle.forms.specs.declared.Args.{Args}
use Rattle.commands.specs.declared.LayoutCommand.{LayoutCommand}
use Rattle.commands.specs.declared.CursorCommand.{CursorCommand}
use Rattle.commands.specs.declared.CursorKind.{CursorKind}
use Rattle.lines.specs.declared.Line.{Line}
use Rattle.lines.specs.declared.Line.TheVariants.{Layout, NewCursor, Cursor}
use Rattle.forms.specs.Args.{FitsArgs}
use Rattle.forms.specs.Forms.{Form, form_words}
use Rattle.call_names.specs.Forms.{layout_form, cursor_form, kind_word}

-- a line by what it says: a name is its text
pub data Said : Type 0 where
  layout : LayoutCommand → Said
  new_cursor : (name : List ℕ) → CursorKind → Said
  cursor : (name : List ℕ) → CursorCommand → Said

abbrev pub said : Line → Said
said (Layout c) = layout c
said (NewCursor name k) = new_cursor name.now k
said (Cursor name c) = cursor name.now c

-- ---- its words

-- the call of a cursor with this name: the name, a dot, and the call
abbrev pub of_cursor : (name : List ℕ) → Form → Form
of_cursor name f = record { name = name ++ (46 ∷ f.name); args = f.args }

abbrev pub said_words : Said → List (List ℕ)
said_words (layout c) = form_words (layout_form c)
said_words (new_cursor name k) = codes "cursor" ∷ name ∷ kind_word k ∷ []
said_words (cursor name c) = form_words (of_cursor name (cursor_form c))

-- ---- which can be said

-- a letter, a digit or an underscore
abbrev pub is_name_byte : ℕ → Bool
is_name_byte b = is_ascii_alphanumeric b || b == 95

abbrev pub is_name : List ℕ → Bool
is_name w = not (length w == 0) && list_all is_name_byte w

-- its numbers have up to 32 bits, and a cursor's name is a word of letters, digits and underscores
abbrev pub CanBeSaid : Said → Type 0
CanBeSaid (layout c) = FitsArgs (layout_form c).args
CanBeSaid (new_cursor name k) = is_name name ≡ true
CanBeSaid (cursor name c) = (is_name name ≡ true) × FitsArgs (cursor_form c).args

-- the words are those of what is said
pub record Says (words : List (List ℕ)) (l : Said) : Type 0 where
  pub written : words ≡ said_words l
  pub can : CanBeSaid l

-- the call with this first word and these arguments
abbrev pub IsCall : List ℕ → Args → Said → Type 0
IsCall word a (layout c) = layout_form c ≡ record { name = word; args = a }
IsCall word a (new_cursor name k) = ⊥
IsCall word a (cursor name c) = (is_name name ≡ true) × (of_cursor name (cursor_form c) ≡ record { name = word; args = a })

-- what makes a cursor, by the words behind the first
abbrev pub IsNewCursor : List (List ℕ) → Said → Type 0
IsNewCursor words (layout c) = ⊥
IsNewCursor words (new_cursor name k) = (words ≡ name ∷ kind_word k ∷ []) × (is_name name ≡ true)
IsNewCursor words (cursor name c) = ⊥
