-- The beginning of a dump, line by line: what the functions inside tell one another. Assumes nothing.
use Rattle.std.specs.Prelude.{◌≡◌, ◌≢◌, ℕ, ◌+◌, ◌<◌, Bool, true, false, ◌&&◌, ◌==◌, List, [], ◌∷◌, ◌++◌, length, take, slice_index_or, Option, Some, None, Result, Ok, Err}
use Rattle.std.specs.List.{All}
use Rattle.std.specs.Option.{is_some, is_none}
use Rattle.chain.specs.declared.Ends.{Ends}
use Rattle.entities.specs.declared.Block.{Block}
use Rattle.entities.specs.declared.nodes.BlockNode.{BlockNode}
use Rattle.entities.specs.declared.nodes.InstNode.{InstNode}
use Rattle.entities.specs.declared.nodes.Tables.{Tables}
use Rattle.dump.specs.declared.lines.Line.{Line}
use Rattle.dump.specs.declared.lines.Line.TheVariants as line
use Rattle.dump.specs.declared.texts.Partial.{Partial}
use Rattle.dump.specs.declared.texts.What.{What}
use Rattle.dump.specs.declared.texts.What.TheVariants.{NotALine, NumberTooLarge, OutOfOrder, NoEnds, OutOfMemory}
use Rattle.dump.specs.declared.texts.DumpFault.{DumpFault}
use Rattle.words.specs.Words.{rows}
use Rattle.dump.specs.Lines.{Says, FitsLine}
use Rattle.dump.specs.Dumps.{Unreadable, IsFault, dump_lines, dump_text}

-- what was read so far
pub record Part : Type 0 where
  pub ends : Option (Ends Block)
  pub blocks : List BlockNode
  pub insts : List InstNode

-- the same, of the program's value
abbrev pub part : Partial → Part
part p = record { ends = p.ends; blocks = p.blocks.items; insts = p.insts.items }

-- ahead of the first line
abbrev pub nothing : Part
nothing = record { ends = None; blocks = []; insts = [] }

-- ---- a line

-- can the line stand behind the lines ahead?
abbrev pub is_next : Part → Line → Bool
is_next p (line.Ends e) = is_none p.ends
is_next p (line.Block b n) = is_some p.ends && (length p.insts == 0) && (b.0 == length p.blocks)
is_next p (line.Inst i n) = is_some p.ends && (i.0 == length p.insts)

-- with this line behind the others
abbrev pub with_line : Part → Line → Part
with_line p (line.Ends e) = record { ends = Some e; blocks = p.blocks; insts = p.insts }
with_line p (line.Block b n) = record { ends = p.ends; blocks = p.blocks ++ (n ∷ []); insts = p.insts }
with_line p (line.Inst i n) = record { ends = p.ends; blocks = p.blocks; insts = p.insts ++ (n ∷ []) }

-- the line is the next one, and it is added
pub record Adds (old : Part) (l : Line) (new : Part) : Type 0 where
  pub next : is_next old l ≡ true
  pub new_is : new ≡ with_line old l

-- why the line is refused
abbrev pub IsRefused : Part → Line → What → Type 0
IsRefused p l NotALine = ⊥
IsRefused p l NumberTooLarge = ⊥
IsRefused p l OutOfOrder = is_next p l ≡ false
IsRefused p l NoEnds = ⊥
IsRefused p l OutOfMemory = Unit {0}

-- what adding a line tells
abbrev pub LineTold : Line → (old : Part) → Result (Unit {0}) What → (new : Part) → Type 0
LineTold l old (Ok u) new = Adds old l new
LineTold l old (Err w) new = IsRefused old l w

-- ---- a row of words

-- a line without words adds nothing, and one with words the line that has them
abbrev pub AddsRow : List (List ℕ) → (old new : Part) → Type 0
AddsRow [] old new = new ≡ old
AddsRow (w ∷ ws) old new = (l : Line) × Says (w ∷ ws) l × Adds old l new

-- what is wrong with words, whatever the lines ahead are
abbrev pub IsUnread : List (List ℕ) → What → Type 0
IsUnread row NotALine = Unreadable row false
IsUnread row NumberTooLarge = Unreadable row true
IsUnread row OutOfOrder = ⊥
IsUnread row NoEnds = ⊥
IsUnread row OutOfMemory = ⊥

-- what reading words tells
abbrev pub WordsTold : List (List ℕ) → Result Line What → Type 0
WordsTold row (Ok l) = Says row l
WordsTold row (Err w) = IsUnread row w

-- what is wrong with a row behind the lines ahead
abbrev pub IsWrongRow : Part → List (List ℕ) → What → Type 0
IsWrongRow p row NotALine = (row ≢ []) × Unreadable row false
IsWrongRow p row NumberTooLarge = (row ≢ []) × Unreadable row true
IsWrongRow p row OutOfOrder = (l : Line) × Says row l × (is_next p l ≡ false)
IsWrongRow p row NoEnds = ⊥
IsWrongRow p row OutOfMemory = Unit {0}

-- what adding a row tells
abbrev pub RowTold : List (List ℕ) → (old : Part) → Result (Unit {0}) What → (new : Part) → Type 0
RowTold row old (Ok u) new = AddsRow row old new
RowTold row old (Err w) new = IsWrongRow old row w

-- ---- all rows

-- one row behind the other
abbrev pub AddsRows : List (List (List ℕ)) → (old new : Part) → Type 0
AddsRows [] old new = new ≡ old
AddsRows (row ∷ rest) old new = (mid : Part) × AddsRow row old mid × AddsRows rest mid new

-- the rows ahead are added, and this one is wrong
pub record Stops (all : List (List (List ℕ))) (old : Part) (fault : DumpFault) : Type 0 where
  pub ahead : ℕ
  pub inside : ahead < length all
  pub line : fault.line ≡ ahead + 1
  pub mid : Part
  pub adds : AddsRows (take ahead all) old mid
  pub wrong : IsWrongRow mid (slice_index_or all ahead []) fault.what

-- what adding all rows tells
abbrev pub RowsTold : List (List (List ℕ)) → (old : Part) → Result (Unit {0}) DumpFault → (new : Part) → Type 0
RowsTold all old (Ok u) new = AddsRows all old new
RowsTold all old (Err f) new = Stops all old f

-- the text is no dump, and so no printed one, or there is no memory left
pub record FaultTold (text : List ℕ) (fault : DumpFault) : Type 0 where
  pub fault_is : IsFault (rows text) fault
  pub not_printed : (t : Tables) → All FitsLine (dump_lines t) → text ≡ dump_text t → fault.what ≡ OutOfMemory

-- what reading the lines of a text tells
abbrev pub TextTold : (text : List ℕ) → Result Partial DumpFault → Type 0
TextTold text (Ok p) = AddsRows (rows text) nothing (part p)
TextTold text (Err f) = FaultTold text f
