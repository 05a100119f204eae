-- How faults of a dump are written. Assumes nothing.
use Rattle.std.specs.Prelude.{ℕ, List, ◌++◌, codes, decimal}
use Rattle.dump.specs.declared.texts.What.{What}
use Rattle.dump.specs.declared.texts.What.TheVariants.{NotALine, NumberTooLarge, OutOfOrder, NoEnds, OutOfMemory}
use Rattle.dump.specs.declared.texts.DumpFault.{DumpFault}

-- what is wrong
abbrev pub what_text : What → List ℕ
what_text NotALine = codes "no line of a dump"
what_text NumberTooLarge = codes "a number of more than 32 bits"
what_text OutOfOrder = codes "out of its order"
what_text NoEnds = codes "no ends"
what_text OutOfMemory = codes "out of memory"

-- where, and what
abbrev pub dump_fault_text : DumpFault → List ℕ
dump_fault_text f = codes "line " ++ decimal f.line ++ codes ": " ++ what_text f.what
