-- What an edit does to the walk through the whole program, whatever the numbers. Assumes nothing.
use Rattle.std.specs.Prelude.{◌≡◌, List, [], ◌∷◌, ◌++◌, map, Some}
use Rattle.entities.specs.declared.Block.{Block}
use Rattle.entities.specs.declared.Inst.{Inst}
use Rattle.entities.specs.declared.progpoint.ProgramPoint.{ProgramPoint}
use Rattle.entities.specs.declared.progpoint.ProgramPoint.TheVariants.{Inst as inst_point, Block as block_point}
use Rattle.entities.specs.Program.{Line, Program, insts_in}
use Rattle.entities.specs.Reading.{inst_block, slots_of, walk_of}

-- a block, and then its instructions
abbrev pub walk_along : Line → List ProgramPoint
walk_along l = block_point l.block ∷ map inst_point (insts_in l.slots)

-- the whole walk: block by block
abbrev pub walk : List Line → List ProgramPoint
walk [] = []
walk (l ∷ ls) = walk_along l ++ walk ls

-- from p to q, k was put in directly ahead of `place`: all that was there keeps its order
pub record PutAhead (k place : ProgramPoint) (p q : Program) : Type 0 where
  pub ahead : List ProgramPoint
  pub behind : List ProgramPoint
  pub was : walk p.lines ≡ ahead ++ (place ∷ behind)
  pub is : walk q.lines ≡ ahead ++ (k ∷ place ∷ behind)

-- from p to q, k was put in directly behind block b and its instructions: all that was there keeps its order
pub record PutBehind (k : ProgramPoint) (b : Block) (p q : Program) : Type 0 where
  pub ahead : List ProgramPoint
  pub behind : List ProgramPoint
  pub was : walk p.lines ≡ ahead ++ (walk_of b p ++ behind)
  pub is : walk q.lines ≡ ahead ++ (walk_of b p ++ (k ∷ behind))

-- from p to q, k was put in behind all that was there
abbrev pub PutLast : ProgramPoint → (p q : Program) → Type 0
PutLast k p q = walk q.lines ≡ walk p.lines ++ (k ∷ [])

-- from p to q, `part` was taken out: all that stays keeps its order
pub record TakenOut (part : List ProgramPoint) (p q : Program) : Type 0 where
  pub ahead : List ProgramPoint
  pub behind : List ProgramPoint
  pub was : walk p.lines ≡ ahead ++ (part ++ behind)
  pub is : walk q.lines ≡ ahead ++ behind

-- from p to q, the block in which i stood was cut in two: it and b now have what it had, in this order and with the same numbers
abbrev pub CutInTwo : Inst → (b : Block) → (p q : Program) → Type 0
CutInTwo i b p q = (old : Block) → inst_block i p ≡ Some old → slots_of old q ++ slots_of b q ≡ slots_of old p
