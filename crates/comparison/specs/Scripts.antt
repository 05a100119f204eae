-- How the programs compare that two texts of scripts reach, and why they do not. Assumes nothing.
use Rattle.std.specs.Prelude.{ℕ, List, Result, Ok, Err}
use Rattle.entities.specs.Laws.{walk}
use Rattle.words.specs.Words.{rows}
use Rattle.script.specs.Scripts.{Content, IsFault, ReadsRows, nothing}
use Rattle.parting.specs.Parts.{Parts}
use Rattle.comparison.specs.declared.Comparison.{Comparison}
use Rattle.comparison.specs.declared.texts.CompareFault.{CompareFault}
use Rattle.comparison.specs.declared.texts.CompareFault.TheVariants.{First, Second, OutOfMemory}
use Rattle.comparison.specs.Reached.{program_of}

-- both texts are scripts, and the walks of the programs that they reach part there, or are the same
pub record ScriptsCompared (first second : List ℕ) (c : Comparison) : Type 0 where
  pub one : Content
  pub other : Content
  pub reads_first : ReadsRows (rows first) nothing one
  pub reads_second : ReadsRows (rows second) nothing other
  pub parts : Parts c.0 (walk (program_of one.commands).lines) (walk (program_of other.commands).lines)

-- they are compared, or a line is wrong in the first, or else in the second, or there is no memory left
abbrev pub ScriptsTold : (first second : List ℕ) → Result Comparison CompareFault → Type 0
ScriptsTold a b (Ok c) = ScriptsCompared a b c
ScriptsTold a b (Err (First f)) = IsFault (rows a) nothing f
ScriptsTold a b (Err (Second f)) = ((one : Content) × ReadsRows (rows a) nothing one) × IsFault (rows b) nothing f
ScriptsTold a b (Err OutOfMemory) = Unit {0}
