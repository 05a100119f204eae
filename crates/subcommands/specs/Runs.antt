-- What is printed of a script. Assumes nothing.
use Rattle.std.specs.Prelude.{◌≡◌, ℕ, List, Option, Some}
use Rattle.std.specs.Io.KnownBytes.{Appends}
use Rattle.std.specs.Process.{exit_status}
use Rattle.std.specs.declared.process.ExitCode.{ExitCode}
use Rattle.words.specs.Words.{rows}
use Rattle.script.specs.Scripts.{Content, ReadsRows, nothing}
use Rattle.session.specs.declared.Session.{Session}
use Rattle.layout.specs.declared.Layout.{Layout}
use Rattle.layout.specs.Program.{tables}
use Rattle.comparison.specs.Reached.{Reaches}
use Rattle.transcript.specs.Carried.{Plays}
use Rattle.dump.specs.Dumps.{dump_text}

-- the text is a script, and what each of its lines answers is printed; the status is 0
pub record PrintsAnswers (text : List ℕ) (old new : Option (List ℕ)) (status : ExitCode) : Type 0 where
  pub script : Content
  pub reads : ReadsRows (rows text) nothing script
  pub reached : Session
  pub plays : Plays script.names script.commands reached old new
  pub success : exit_status status ≡ 0

-- the tables of a layout are printed; the status is 0
pub record PrintsTablesOf (layout : Layout) (old new : Option (List ℕ)) (status : ExitCode) : Type 0 where
  pub printed : Appends old new (dump_text (tables layout))
  pub success : exit_status status ≡ 0

-- the text is a script, and the tables of a layout that it reaches are printed
pub record PrintsTables (text : List ℕ) (old new : Option (List ℕ)) (status : ExitCode) : Type 0 where
  pub script : Content
  pub reads : ReadsRows (rows text) nothing script
  pub layout : Layout
  pub reaches : Reaches script.commands (Some layout)
  pub prints : PrintsTablesOf layout old new status
