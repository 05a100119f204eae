-- What is printed of the tables in a dump. Assumes nothing.
use Rattle.std.specs.Prelude.{◌≡◌, ℕ, List, ◌++◌, codes, Option, Result, Ok, Err}
use Rattle.std.specs.Io.KnownBytes.{Appends}
use Rattle.std.specs.Process.{exit_status}
use Rattle.std.specs.declared.process.ExitCode.{ExitCode}
use Rattle.entities.specs.declared.nodes.Tables.{Tables}
use Rattle.words.specs.Words.{rows}
use Rattle.dump.specs.Dumps.{IsDump, spoken}
use Rattle.verdicts.specs.declared.AuditFault.{AuditFault}
use Rattle.verdicts.specs.declared.Verdict.{Verdict}
use Rattle.verdicts.specs.declared.Verdict.TheVariants.{Lawful, Broken}
use Rattle.verdicts.specs.Text.{fault_text, verdict_text}
use Rattle.audit.specs.Audited.{Audited}

abbrev pub judgement_text : Result Verdict AuditFault → List ℕ
judgement_text (Ok v) = verdict_text v
judgement_text (Err f) = fault_text f

-- the status tells whether the tables are lawful
abbrev pub status_of : Result Verdict AuditFault → ℕ
status_of (Ok Lawful) = 0
status_of (Ok (Broken x)) = 2
status_of (Err f) = 2

-- the text is a dump
abbrev pub IsDumped : (text : List ℕ) → Type 0
IsDumped text = (tables : Tables) × IsDump (spoken (rows text)) tables

-- the text is a dump of these tables, and what the audit says of them is written on a line, and told by the status
pub record Judges (text : List ℕ) (old new : Option (List ℕ)) (status : ExitCode) : Type 0 where
  pub tables : Tables
  pub reads : IsDump (spoken (rows text)) tables
  pub judgement : Result Verdict AuditFault
  pub audited : Audited tables judgement
  pub said : Appends old new (judgement_text judgement ++ codes "\n")
  pub told : exit_status status ≡ status_of judgement
