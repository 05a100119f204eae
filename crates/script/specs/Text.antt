-- How faults of a script are written. Assumes nothing.
use Rattle.std.specs.Prelude.{ℕ, List, ◌++◌, codes, decimal}
use Rattle.script.specs.declared.texts.What.{What}
use Rattle.script.specs.declared.texts.What.TheVariants.{NotACall, NumberTooLarge, UnknownCursor, NameTaken, OutOfMemory}
use Rattle.script.specs.declared.texts.ScriptFault.{ScriptFault}

abbrev pub what_text : What → List ℕ
what_text NotACall = codes "no call"
what_text NumberTooLarge = codes "a number of more than 32 bits"
what_text UnknownCursor = codes "no cursor with this name"
what_text NameTaken = codes "another cursor has this name"
what_text OutOfMemory = codes "out of memory"

abbrev pub script_fault_text : ScriptFault → List ℕ
script_fault_text f = codes "line " ++ decimal f.line ++ codes ": " ++ what_text f.what
