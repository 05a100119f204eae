-- How the programs compare that two lists of commands reach. Assumes nothing.
use Rattle.std.specs.Prelude.{◌≡◌, true, false, cond, List, Option, Some, None}
use Rattle.entities.specs.Laws.{walk}
use Rattle.parting.specs.Parts.{Parts}
use Rattle.script.specs.declared.Command.{Command}
use Rattle.comparison.specs.declared.Comparison.{Comparison}
use Rattle.comparison.specs.Reached.{cursors_made, program_of}

-- the walks of the two programs part there, or are the same
pub record ComparedBy (first second : List Command) (c : Comparison) : Type 0 where
  pub first_made : cursors_made first ≡ true
  pub second_made : cursors_made second ≡ true
  pub parts : Parts c.0 (walk (program_of first).lines) (walk (program_of second).lines)

-- there is no comparison where a cursor is called that no command makes
abbrev pub Compares : (first second : List Command) → Option Comparison → Type 0
Compares first second None = cond (cursors_made first) (cursors_made second) false ≡ false
Compares first second (Some c) = ComparedBy first second c
