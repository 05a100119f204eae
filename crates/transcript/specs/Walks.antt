-- A walk as a transcript has it, a line a block. Assumes nothing.
use Rattle.std.specs.Prelude.{ℕ, List, [], ◌∷◌, ◌++◌, map, reverse, codes}
use Rattle.std.specs.List.{flat_map}
use Rattle.entities.specs.declared.Block.{Block}
use Rattle.entities.specs.declared.Inst.{Inst}
use Rattle.entities.specs.Program.{Program, Slot, blocks_of}
use Rattle.entities.specs.Reading.{is_cold, slots_of}
use Rattle.printed.specs.Printed.{block_text_with}
use Rattle.transcript.specs.declared.rows.Direction.{Direction}
use Rattle.transcript.specs.declared.rows.Direction.TheVariants.{Forward, Backward}

-- a text as a line
abbrev pub row : List ℕ → List ℕ
row text = text ++ (10 ∷ [])

-- in the order of the walk from this end
abbrev pub along : {A : Type 0} → Direction → List A → List A
along Forward xs = xs
along Backward xs = reverse xs

-- an instruction with its number
abbrev pub slot_at : Slot → Inst × ℕ
slot_at s = (s.inst, s.seq)

-- the instructions of block b with their numbers, from one end or the other
abbrev pub slots_along : Direction → Block → Program → List (Inst × ℕ)
slots_along way b p = along way (map slot_at (slots_of b p))

-- the line of block b
abbrev pub block_row : Direction → Program → Block → List ℕ
block_row way p b = row (block_text_with b (is_cold b p) (slots_along way b p))

-- the lines of these blocks; of none it is told that there is none
abbrev pub rows : Direction → Program → List Block → List ℕ
rows way p [] = row (codes "empty")
rows way p (b ∷ bs) = flat_map (block_row way p) (b ∷ bs)

-- the whole walk, from one end or the other
abbrev pub walk_text_along : Direction → Program → List ℕ
walk_text_along way p = rows way p (along way (blocks_of p.lines))

abbrev pub walk_text : Program → List ℕ
walk_text p = walk_text_along Forward p

abbrev pub walk_back_text : Program → List ℕ
walk_back_text p = walk_text_along Backward p
