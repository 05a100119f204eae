-- The instructions that two programs number differently. Assumes nothing.
use Rattle.std.specs.Prelude.{cond, List, filter_map, Option, Some, None, nat_eq}
use Rattle.std.specs.List.{flat_map}
use Rattle.std.specs.Option.{option_eq}
use Rattle.entities.specs.declared.Inst.{Inst}
use Rattle.entities.specs.Program.{Program, blocks_of}
use Rattle.entities.specs.Reading.{block_insts, shown_seq}
use Rattle.comparison.specs.declared.seqs.Numbers.{Numbers}

-- every instruction, in the order of the walk
abbrev pub walked : Program → List Inst
walked p = flat_map (λ b. block_insts b p) (blocks_of p.lines)

-- the numbers of an instruction, where they are not the same
abbrev pub difference : Inst → (p q : Program) → Option Numbers
difference i p q = cond (option_eq nat_eq (shown_seq i p) (shown_seq i q)) None (Some (record { inst = i; first = shown_seq i p; second = shown_seq i q }))

-- those of the first program's instructions that have different numbers
abbrev pub differences : (p q : Program) → List Numbers
differences p q = filter_map (λ i. difference i p q) (walked p)
