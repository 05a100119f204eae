-- What is said of the programs that two scripts reach. Assumes nothing.
use Rattle.std.specs.Prelude.{◌≡◌, ℕ, List, ◌++◌, codes, Option, Some, None}
use Rattle.std.specs.Io.KnownBytes.{Appends}
use Rattle.std.specs.Process.{exit_status}
use Rattle.std.specs.declared.process.ExitCode.{ExitCode}
use Rattle.words.specs.Words.{rows}
use Rattle.script.specs.Scripts.{Content, ReadsRows, nothing}
use Rattle.parting.specs.declared.Parting.{Parting}
use Rattle.comparison.specs.declared.Comparison.{Comparison}
use Rattle.comparison.specs.Scripts.{ScriptsCompared}
use Rattle.comparison.specs.Text.{comparison_text}

-- the text is a script
abbrev pub IsScript : (text : List ℕ) → Type 0
IsScript text = (c : Content) × ReadsRows (rows text) nothing c

-- both are
abbrev pub AreScripts : (first second : List ℕ) → Type 0
AreScripts first second = IsScript first × IsScript second

-- the status tells whether the programs are the same
abbrev pub status_of : Option Parting → ℕ
status_of None = 0
status_of (Some p) = 2

-- how the programs compare that two scripts reach is written on a line, and told by the status
pub record TellsComparison (first second : List ℕ) (old new : Option (List ℕ)) (status : ExitCode) : Type 0 where
  pub comparison : Comparison
  pub compared : ScriptsCompared first second comparison
  pub said : Appends old new (comparison_text comparison.0 ++ codes "\n")
  pub told : exit_status status ≡ status_of comparison.0
