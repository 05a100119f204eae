-- A dump: what tables look like in it, and which text is none. Assumes nothing.
use Rattle.std.specs.Prelude.{◌≡◌, ℕ, ◌+◌, ◌<◌, Bool, true, false, ◌||◌, List, [], ◌∷◌, ◌++◌, length, map, take, filter, slice_index_or, Result, Ok, Err}
use Rattle.std.specs.List.{All, enumerate_from, flat_map, list_any}
use Rattle.entities.specs.declared.nodes.BlockNode.{BlockNode}
use Rattle.entities.specs.declared.nodes.InstNode.{InstNode}
use Rattle.entities.specs.declared.nodes.Tables.{Tables}
use Rattle.words.specs.Numbers.{is_past, is_too_large}
use Rattle.words.specs.Words.{has_some, rows, unwords}
use Rattle.dump.specs.declared.lines.Line.{Line}
use Rattle.dump.specs.declared.lines.Line.TheVariants as line
use Rattle.dump.specs.declared.texts.Dump.{Dump}
use Rattle.dump.specs.declared.texts.What.{What}
use Rattle.dump.specs.declared.texts.What.TheVariants.{NotALine, NumberTooLarge, OutOfOrder, NoEnds, OutOfMemory}
use Rattle.dump.specs.declared.texts.DumpFault.{DumpFault}
use Rattle.dump.specs.Lines.{Says, FitsLine, line_words}

-- ---- the lines of a dump

-- blocks in the order of their numbers, from this number on
abbrev pub block_lines : (from : ℕ) → List BlockNode → List Line
block_lines from nodes = map (λ p. line.Block (record { 0 = p.0 }) p.1) (enumerate_from from nodes)

-- instructions likewise
abbrev pub inst_lines : (from : ℕ) → List InstNode → List Line
inst_lines from nodes = map (λ p. line.Inst (record { 0 = p.0 }) p.1) (enumerate_from from nodes)

-- the ends, the blocks, the instructions
abbrev pub dump_lines : Tables → List Line
dump_lines t = line.Ends t.ends ∷ (block_lines 0 t.blocks ++ inst_lines 0 t.insts)

-- a line as it is printed, with its end
abbrev pub line_text : Line → List ℕ
line_text l = unwords (line_words l) ++ (10 ∷ [])

-- tables as they are printed
abbrev pub dump_text : Tables → List ℕ
dump_text t = flat_map line_text (dump_lines t)

-- ---- what is a dump

-- these are the words of the tables' lines, and their numbers have up to 32 bits
pub record IsDump (rows : List (List (List ℕ))) (t : Tables) : Type 0 where
  pub written : rows ≡ map line_words (dump_lines t)
  pub fits : All FitsLine (dump_lines t)

-- lines without words say nothing
abbrev pub spoken : List (List (List ℕ)) → List (List (List ℕ))
spoken all = filter has_some all

-- a dump can begin with these lines
pub record Begins (all : List (List (List ℕ))) : Type 0 where
  pub tables : Tables
  pub more : List (List (List ℕ))
  pub is : IsDump (spoken all ++ more) tables

-- ---- what is none

-- has the word a number of more than 32 bits, be it the number of a block, of an instruction or none?
abbrev pub names_too_large : (word : List ℕ) → Bool
names_too_large w = is_too_large w || is_past w

-- no line has these words, and `large` tells whether a number in them has more than 32 bits
pub record Unreadable (words : List (List ℕ)) (large : Bool) : Type 0 where
  pub says_nothing : (l : Line) → ¬ Says words l
  pub large_is : list_any names_too_large words ≡ large

-- with the line behind so many, no dump can begin with these lines any more
abbrev pub Breaks : (all : List (List (List ℕ))) → (ahead : ℕ) → Type 0
Breaks all ahead = ¬ Begins (take (ahead + 1) all)

-- what is wrong with the line behind so many
abbrev pub IsWrong : (all : List (List (List ℕ))) → (ahead : ℕ) → What → Type 0
IsWrong all ahead NotALine = Breaks all ahead × Unreadable (slice_index_or all ahead []) false
IsWrong all ahead NumberTooLarge = Breaks all ahead × Unreadable (slice_index_or all ahead []) true
IsWrong all ahead OutOfOrder = Breaks all ahead × ((l : Line) × Says (slice_index_or all ahead []) l)
IsWrong all ahead NoEnds = (spoken all ≡ []) × (ahead ≡ length all)
IsWrong all ahead OutOfMemory = ahead < length all

-- a dump can begin with the lines ahead, and what comes then is wrong
pub record IsFault (all : List (List (List ℕ))) (fault : DumpFault) : Type 0 where
  pub ahead : ℕ
  pub line : fault.line ≡ ahead + 1
  pub begins : Begins (take ahead all)
  pub wrong : IsWrong all ahead fault.what

-- ---- what reading tells

-- the tables and ends that were read
abbrev pub tables_of : Dump → Tables
tables_of d = record { blocks = d.blocks.items; insts = d.insts.items; ends = d.ends }

-- the text is a dump of these tables, or this is the first line that is wrong
abbrev pub Reads : (text : List ℕ) → Result Dump DumpFault → Type 0
Reads text (Ok d) = IsDump (spoken (rows text)) (tables_of d)
Reads text (Err f) = IsFault (rows text) f

-- these very tables are read, unless there is no memory left
abbrev pub ReadsBack : Tables → Result Dump DumpFault → Type 0
ReadsBack t (Ok d) = tables_of d ≡ t
ReadsBack t (Err f) = f.what ≡ OutOfMemory
