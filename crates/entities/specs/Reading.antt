-- What every question of a layout answers, read off the list. Assumes nothing.
use Rattle.std.specs.Prelude.{◌≡◌, ◌<◌, ℕ, Bool, true, false, cond, List, [], ◌∷◌, ◌++◌, map, Some, None, Option, nat_eq, slice_index_or}
use Rattle.chain.specs.Chain.{head_or, last_or}
use Rattle.entities.specs.declared.Block.{Block}
use Rattle.entities.specs.declared.Inst.{Inst}
use Rattle.entities.specs.declared.progpoint.ProgramPoint.{ProgramPoint}
use Rattle.entities.specs.declared.progpoint.ProgramPoint.TheVariants.{Inst as inst_point, Block as block_point}
use Rattle.std.specs.declared.cmp.Ordering.{Ordering}
use Rattle.std.specs.declared.cmp.Ordering.TheVariants.{Less, Equal, Greater}
use Rattle.entities.specs.Nodes.{block_place, inst_place}
use Rattle.entities.specs.Lists.{of_first, holds, behind, ahead}
use Rattle.entities.specs.Program.{Slot, Line, Program, insts_in, blocks_of, insts_of}

-- what f reads off the line of block b; o where b is not inserted
abbrev pub of_block : {A : Type 0} → Block → (Line → A) → A → List Line → A
of_block b f o ls = of_first (λ l. nat_eq l.block.0 b.0) f o ls

-- what f reads off the line in which i stands; o where i is not inserted
abbrev pub of_inst : {A : Type 0} → Inst → (Line → A) → A → List Line → A
of_inst i f o ls = of_first (λ l. holds inst_place i (insts_in l.slots)) f o ls

-- ---- blocks

abbrev pub inserted_block : Block → Program → Bool
inserted_block b p = holds block_place b (blocks_of p.lines)

abbrev pub entry_block : Program → Option Block
entry_block p = head_or (blocks_of p.lines) None

abbrev pub last_block : Program → Option Block
last_block p = last_or None (blocks_of p.lines)

abbrev pub next_block : Block → Program → Option Block
next_block b p = behind block_place b (blocks_of p.lines)

abbrev pub prev_block : Block → Program → Option Block
prev_block b p = ahead block_place b (blocks_of p.lines)

abbrev pub is_cold : Block → Program → Bool
is_cold b p = slice_index_or p.cold b.0 false

-- ---- a block's instructions

abbrev pub slots_of : Block → Program → List Slot
slots_of b p = of_block b (λ l. l.slots) [] p.lines

abbrev pub block_insts : Block → Program → List Inst
block_insts b p = insts_in (slots_of b p)

abbrev pub first_inst : Block → Program → Option Inst
first_inst b p = head_or (block_insts b p) None

abbrev pub last_inst : Block → Program → Option Inst
last_inst b p = last_or None (block_insts b p)

-- is there nothing in the list?
abbrev pub empty : {A : Type 0} → List A → Bool
empty [] = true
empty (x ∷ xs) = false

abbrev pub exactly_one : {A : Type 0} → List A → Bool
exactly_one [] = false
exactly_one (x ∷ []) = true
exactly_one (x ∷ y ∷ zs) = false

-- ---- instructions

-- the slots of the block in which i stands
abbrev pub slots_with : Inst → Program → List Slot
slots_with i p = of_inst i (λ l. l.slots) [] p.lines

abbrev pub inserted_inst : Inst → Program → Bool
inserted_inst i p = holds inst_place i (insts_of p.lines)

abbrev pub inst_block : Inst → Program → Option Block
inst_block i p = of_inst i (λ l. Some l.block) None p.lines

abbrev pub next_inst : Inst → Program → Option Inst
next_inst i p = of_inst i (λ l. behind inst_place i (insts_in l.slots)) None p.lines

abbrev pub prev_inst : Inst → Program → Option Inst
prev_inst i p = of_inst i (λ l. ahead inst_place i (insts_in l.slots)) None p.lines

-- the number of i among these slots
abbrev pub seq_in : Inst → List Slot → ℕ
seq_in i ss = of_first (λ s. nat_eq s.inst.0 i.0) (λ s. s.seq) 0 ss

abbrev pub inst_seq : Inst → Program → ℕ
inst_seq i p = of_inst i (λ l. seq_in i l.slots) 0 p.lines

-- its number where it is inserted: nothing reads the number of what is not
abbrev pub shown_seq : Inst → Program → Option ℕ
shown_seq i p = cond (inserted_inst i p) (Some (inst_seq i p)) None

-- ---- what may be put in: it is in range and not inserted

abbrev pub BlockFree : Block → Program → Type 0
BlockFree b p = (b.0 < 256) × (inserted_block b p ≡ false)

abbrev pub InstFree : Inst → Program → Type 0
InstFree i p = (i.0 < 1024) × (inserted_inst i p ≡ false)

-- ---- points

-- the block of a point: a block is its own
abbrev pub point_block : ProgramPoint → Program → Option Block
point_block (inst_point i) p = inst_block i p
point_block (block_point b) p = Some b

-- is it there to be compared? An instruction has to be inserted, a block need not be
abbrev pub inserted_point : ProgramPoint → Program → Bool
inserted_point (inst_point i) p = inserted_inst i p
inserted_point (block_point b) p = true

-- the number by which a point is compared: 0 for a block
abbrev pub point_seq : ProgramPoint → Program → ℕ
point_seq (inst_point i) p = inst_seq i p
point_seq (block_point b) p = 0

-- the walk of block b: the block itself, then its instructions
abbrev pub walk_of : Block → Program → List ProgramPoint
walk_of b p = block_point b ∷ map inst_point (block_insts b p)

-- a stands in the walk, and c behind it
pub record Precedes {A : Type 0} (a c : A) (xs : List A) : Type 0 where
  pub ahead : List A
  pub between : List A
  pub behind : List A
  pub is : xs ≡ ahead ++ (a ∷ (between ++ (c ∷ behind)))

-- how a stands to c in the walk
abbrev pub Stands : {A : Type 0} → Ordering → A → A → List A → Type 0
Stands Less a c xs = Precedes a c xs
Stands Equal a c xs = a ≡ c
Stands Greater a c xs = Precedes c a xs

-- o is how a stands to c in the walk of the block of a, and nothing else is
pub record Ranked (p : Program) (a c : ProgramPoint) (o : Ordering) : Type 0 where
  pub block : Block
  pub of_a : point_block a p ≡ Some block
  pub of_c : point_block c p ≡ Some block
  pub stands : Stands o a c (walk_of block p)
  pub only : (q : Ordering) → Stands q a c (walk_of block p) → q ≡ o
