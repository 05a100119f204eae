-- What each subcommand does with the texts that it reads: what is printed, and the status. Assumes nothing.
use Rattle.std.specs.Prelude.{◌≡◌, ℕ, List, Option}
use Rattle.std.specs.Io.KnownBytes.{Appends}
use Rattle.std.specs.Process.{exit_status}
use Rattle.std.specs.declared.process.ExitCode.{ExitCode}
use Rattle.subcommands.specs.declared.Subcommand.{Subcommand}
use Rattle.subcommands.specs.declared.Subcommand.TheVariants as subcommand
use Rattle.subcommands.specs.declared.TheConstants.{HELP}
use Rattle.subcommands.specs.declared.example.TheConstants.{FIRST, SECOND}
use Rattle.subcommands.specs.Compared.{AreScripts, IsScript, TellsComparison}
use Rattle.subcommands.specs.Contrasts.{Shows}
use Rattle.subcommands.specs.Judged.{IsDumped, Judges}
use Rattle.subcommands.specs.Runs.{PrintsAnswers, PrintsTables}

-- what can be told is printed; the status is 0
pub record PrintsHelp (old new : Option (List ℕ)) (status : ExitCode) : Type 0 where
  pub printed : Appends old new HELP.now
  pub success : exit_status status ≡ 0

-- the subcommand is done
abbrev pub Obeys : Subcommand → (old new : Option (List ℕ)) → (status : ExitCode) → Type 0
Obeys subcommand.Example old new status = Shows FIRST.now SECOND.now old new status
Obeys (subcommand.Run text) old new status = PrintsAnswers text.now old new status
Obeys (subcommand.Tables text) old new status = PrintsTables text.now old new status
Obeys (subcommand.Compare first second) old new status = TellsComparison first.now second.now old new status
Obeys (subcommand.Audit text) old new status = Judges text.now old new status
Obeys subcommand.Help old new status = PrintsHelp old new status

-- a text that it is to read is no script, or no dump
abbrev pub Unreadable : Subcommand → Type 0
Unreadable subcommand.Example = ⊥
Unreadable (subcommand.Run text) = ¬ IsScript text.now
Unreadable (subcommand.Tables text) = ¬ IsScript text.now
Unreadable (subcommand.Compare first second) = ¬ AreScripts first.now second.now
Unreadable (subcommand.Audit text) = ¬ IsDumped text.now
Unreadable subcommand.Help = ⊥
