-- How the layouts of two controllers compare, and how that is written. Assumes nothing.
use Rattle.std.specs.Prelude.{◌≡◌, ℕ, Bool, true, false, List, ◌++◌, map, codes, Option, IsTrue, ◌↔◌}
use Rattle.std.specs.Io.KnownBytes.{Appends}
use Rattle.std.specs.Process.{exit_status}
use Rattle.std.specs.declared.process.ExitCode.{ExitCode}
use Rattle.entities.specs.Program.{Program}
use Rattle.entities.specs.Laws.{walk}
use Rattle.layout.specs.Program.{program}
use Rattle.words.specs.Words.{rows}
use Rattle.script.specs.Scripts.{Content, ReadsRows, nothing}
use Rattle.session.specs.declared.Session.{Session}
use Rattle.transcript.specs.Carried.{Plays}
use Rattle.comparison.specs.Numbering.{differences}
use Rattle.comparison.specs.Ranking.{all_ranks, ranks_of}
use Rattle.comparison.specs.Text.{numbers_lines, ranks_lines}
use Rattle.subcommands.specs.declared.example.Contrast.{Contrast}

-- the numbers that differ, how the instructions of each block rank, and whether the walks are the same
pub record Contrasts (p q : Program) (c : Contrast) : Type 0 where
  pub numbers : c.differences.0.items ≡ differences p q
  pub ranks : map ranks_of c.ties.0.items ≡ all_ranks p q
  pub same_walk : IsTrue c.same ↔ (walk p.lines ≡ walk q.lines)

-- what is said of whether they hold the same program
abbrev pub same_text : Bool → List ℕ
same_text true = codes "Every tie is ranked alike: both hold the same program."
same_text false = codes "They do not hold the same program."

abbrev pub contrast_text : Contrast → List ℕ
contrast_text c =
    codes "Their sequence numbers differ:\n\n" ++ (numbers_lines c.differences.0.items ++ (codes "\nTheir order does not. How does each instruction of a block rank against those behind it?\n\n" ++ (ranks_lines (map ranks_of c.ties.0.items) ++ (codes "\n" ++ same_text c.same))))

-- a heading is written, and below it what the lines of a script answer, which leads to s
pub record PlaysBelow (heading : List ℕ) (script : Content) (s : Session) (old new : Option (List ℕ)) : Type 0 where
  pub headed : Option (List ℕ)
  pub heads : Appends old headed (heading ++ codes "\n")
  pub plays : Plays script.names script.commands s headed new

-- how two programs compare is written, below an empty line; the status is 0
pub record ShowsContrast (p q : Program) (old new : Option (List ℕ)) (status : ExitCode) : Type 0 where
  pub contrast : Contrast
  pub contrasts : Contrasts p q contrast
  pub printed : Appends old new (codes "\n" ++ (contrast_text contrast ++ codes "\n"))
  pub success : exit_status status ≡ 0

-- each of two scripts is replayed below its heading, and how the layouts compare to which they lead is printed
pub record ShowsScripts (one other : Content) (old new : Option (List ℕ)) (status : ExitCode) : Type 0 where
  pub s : Session
  pub t : Session
  pub told : Option (List ℕ)
  pub told_again : Option (List ℕ)
  pub plays_first : PlaysBelow (codes "Two controllers of a pair are to hold one dispatch program. The first enters it in order, and a patch is squeezed in:\n") one s old told
  pub plays_second : PlaysBelow (codes "\nThe second enters two blocks as one and cuts it, and joins one from two:\n") other t told told_again
  pub shows : ShowsContrast (program s.layout) (program t.layout) told_again new status

-- both texts are scripts, and that is done with them
pub record Shows (first second : List ℕ) (old new : Option (List ℕ)) (status : ExitCode) : Type 0 where
  pub one : Content
  pub other : Content
  pub reads_first : ReadsRows (rows first) nothing one
  pub reads_second : ReadsRows (rows second) nothing other
  pub shows : ShowsScripts one other old new status
