-- How each instruction of a block ranks against those behind it, in each of two programs. Assumes nothing.
use Rattle.std.specs.Prelude.{List, [], ◌∷◌, ◌++◌, map}
use Rattle.std.specs.List.{flat_map}
use Rattle.std.specs.declared.cmp.Ordering.{Ordering}
use Rattle.entities.specs.declared.Inst.{Inst}
use Rattle.entities.specs.declared.progpoint.ProgramPoint.TheVariants.{Inst as inst_point}
use Rattle.entities.specs.Program.{Program, blocks_of}
use Rattle.entities.specs.Reading.{block_insts}
use Rattle.faults.specs.Refusals.{Told, told}
use Rattle.faults.specs.Rules.{pp_cmp_rule}
use Rattle.comparison.specs.declared.ranking.Tie.{Tie}

-- how an instruction ranks against another in each of two programs
pub record Ranks : Type 0 where
  pub one : Inst
  pub against : Inst
  pub in_first : Told Ordering
  pub in_second : Told Ordering

abbrev pub ranks_of : Tie → Ranks
ranks_of t = record { one = t.inst; against = t.other; in_first = told t.first; in_second = told t.second }

-- by the rule of comparing points
abbrev pub ranks : (p q : Program) → (i j : Inst) → Ranks
ranks p q i j = record { one = i; against = j; in_first = pp_cmp_rule (inst_point i) (inst_point j) p; in_second = pp_cmp_rule (inst_point i) (inst_point j) q }

-- each of a list against those behind it
abbrev pub ranks_among : (p q : Program) → List Inst → List Ranks
ranks_among p q [] = []
ranks_among p q (i ∷ behind) = map (ranks p q i) behind ++ ranks_among p q behind

-- the same of each block of the first program, in order
abbrev pub all_ranks : (p q : Program) → List Ranks
all_ranks p q = flat_map (λ b. ranks_among p q (block_insts b p)) (blocks_of p.lines)
