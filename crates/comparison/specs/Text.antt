-- How comparisons are written. Assumes nothing.
use Rattle.std.specs.Prelude.{ℕ, List, [], ◌++◌, codes, Option, Some, None}
use Rattle.entities.specs.declared.progpoint.ProgramPoint.{ProgramPoint}
use Rattle.faults.specs.Refusals.{Told, accepted, entity_at, refused}
use Rattle.std.specs.List.{flat_map}
use Rattle.faults.specs.declared.Entity.TheVariants.{Inst as the_inst}
use Rattle.faults.specs.Text.{entity_text}
use Rattle.printed.specs.Printed.{number_text, order_text, refusal_text}
use Rattle.comparison.specs.declared.seqs.Numbers.{Numbers}
use Rattle.comparison.specs.Ranking.{Ranks}
use Rattle.comparison.specs.declared.texts.CompareFault.{CompareFault}
use Rattle.comparison.specs.declared.texts.CompareFault.TheVariants.{First, Second, OutOfMemory}
use Rattle.script.specs.Text.{script_fault_text}
use Rattle.std.specs.declared.cmp.Ordering.{Ordering}
use Rattle.parting.specs.declared.Parting.{Parting}

-- a place in a walk: what stands there, if the walk is not over
abbrev pub place_text : Option ProgramPoint → List ℕ
place_text None = codes "the end"
place_text (Some point) = entity_text (entity_at point)

abbrev pub comparison_text : Option Parting → List ℕ
comparison_text None = codes "the same program"
comparison_text (Some p) = codes "not the same program: the walks part at " ++ (place_text p.first ++ (codes " in the first and " ++ (place_text p.second ++ codes " in the second")))

abbrev pub compare_fault_text : CompareFault → List ℕ
compare_fault_text (First f) = codes "the first script: " ++ script_fault_text f
compare_fault_text (Second f) = codes "the second script: " ++ script_fault_text f
compare_fault_text OutOfMemory = codes "out of memory"

-- ---- numbers and ranks

abbrev pub numbers_text : Numbers → List ℕ
numbers_text n = entity_text (the_inst n.inst) ++ (codes ": " ++ (number_text n.first ++ (codes " in the first, " ++ (number_text n.second ++ codes " in the second"))))

-- the order, or the refusal
abbrev pub order_told_text : Told Ordering → List ℕ
order_told_text (accepted o) = order_text o
order_told_text (refused r) = refusal_text r []

abbrev pub ranks_text : Ranks → List ℕ
ranks_text r = entity_text (the_inst r.one) ++ (codes " to " ++ (entity_text (the_inst r.against) ++ (codes ": " ++ (order_told_text r.in_first ++ (codes " in the first, " ++ (order_told_text r.in_second ++ codes " in the second"))))))

-- each on a line of its own
abbrev pub numbers_lines : List Numbers → List ℕ
numbers_lines ns = flat_map (λ n. numbers_text n ++ codes "\n") ns

abbrev pub ranks_lines : List Ranks → List ℕ
ranks_lines rs = flat_map (λ r. ranks_text r ++ codes "\n") rs
