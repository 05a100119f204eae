-- What is read off a program is inserted in it, whatever its list. Assumes nothing.
use Rattle.std.proofs.Common.{◌≡◌, Bool, true, false, cond, List, [], ◌∷◌, Some, None, Option, sym}
use Rattle.std.proofs.lemmas.Option.{none-some}
use Rattle.chain.proofs.Keys.{head_not, last_not, misses_left, misses_right}
use Rattle.chain.specs.Chain.{Misses}
use Rattle.entities.specs.Lists.{ahead, behind, of_first}
use Rattle.entities.specs.Nodes.{block_place, inst_place}
use Rattle.entities.specs.Program.{Line, Program, blocks_of, has_inst, insts_in, insts_of, is_block}
use Rattle.entities.specs.Reading.{block_insts, entry_block, first_inst, inserted_block, inserted_inst, inst_block, last_block, last_inst, next_block, next_inst, prev_block, prev_inst}
use Rattle.entities.specs.declared.Block.{Block}
use Rattle.entities.specs.declared.Inst.{Inst}
use Rattle.leading.proofs.Lists.{ahead_held, ahead_not, behind_held, behind_not, first_held, last_held}
use Rattle.listing.proofs.Found.{block_apart, inst_apart}
use Rattle.listing.proofs.Stretches.{holds_in}

-- ---- blocks

module _ (b : Block) (p : Program) where
  pub entry_inserted : entry_block p ≡ Some b → inserted_block b p ≡ true
  entry_inserted e = first_held block_place block_apart b (blocks_of p.lines) e

  pub last_inserted : last_block p ≡ Some b → inserted_block b p ≡ true
  last_inserted e = last_held block_place block_apart b (blocks_of p.lines) e

  pub next_block_inserted : (c : Block) → next_block c p ≡ Some b → inserted_block b p ≡ true
  next_block_inserted c e = behind_held block_place block_apart b (blocks_of p.lines) c e

  pub prev_block_inserted : (c : Block) → prev_block c p ≡ Some b → inserted_block b p ≡ true
  prev_block_inserted c e = ahead_held block_place block_apart b (blocks_of p.lines) c e

-- the block of a line
line_not : (b : Block) (test : Line → Bool) (ls : List Line) → Misses (Some b) (blocks_of ls) → of_first test (λ l. Some l.block) None ls ≡ Some b → ⊥
line_not b test [] m = none-some b
line_not b test (l ∷ ls) m =
    elim (test l) as (λ c. cond c (Some l.block) (of_first test (λ k. Some k.block) None ls) ≡ Some b → ⊥) [ true ↦ λ e. m.0 (sym e) | false ↦ line_not b test ls m.1 ]

pub inst_block_inserted : (b : Block) (p : Program) (i : Inst) → inst_block i p ≡ Some b → inserted_block b p ≡ true
inst_block_inserted b p i e = holds_in block_place block_apart b (blocks_of p.lines) (λ m. line_not b (has_inst i) p.lines m e)

-- ---- instructions

-- what is read off one line, where nothing but its own instructions is read off it
read_not : (n : Inst) (test : Line → Bool) (f : List Inst → Option Inst) → ((is : List Inst) → Misses (Some n) is → f is ≡ Some n → ⊥) → (ls : List Line) → Misses (Some n) (insts_of ls) → of_first test (λ l. f (insts_in l.slots)) None ls ≡ Some n → ⊥
read_not n test f g [] m = none-some n
read_not n test f g (l ∷ ls) m =
    elim (test l) as (λ c. cond c (f (insts_in l.slots)) (of_first test (λ k. f (insts_in k.slots)) None ls) ≡ Some n → ⊥) [
      | true ↦ g (insts_in l.slots) (misses_left (Some n) (insts_in l.slots) (insts_of ls) m)
      | false ↦ read_not n test f g ls (misses_right (Some n) (insts_in l.slots) (insts_of ls) m)
    ]

-- the instructions of one line
slots_miss : (n : Inst) (test : Line → Bool) (ls : List Line) → Misses (Some n) (insts_of ls) → Misses (Some n) (insts_in (of_first test (λ l. l.slots) [] ls))
slots_miss n test [] m = tt
slots_miss n test (l ∷ ls) m =
    elim (test l) as (λ c. Misses (Some n) (insts_in (cond c l.slots (of_first test (λ k. k.slots) [] ls)))) [
      | true ↦ misses_left (Some n) (insts_in l.slots) (insts_of ls) m
      | false ↦ slots_miss n test ls (misses_right (Some n) (insts_in l.slots) (insts_of ls) m)
    ]

module _ (n : Inst) (p : Program) where
  pub first_inst_inserted : (b : Block) → first_inst b p ≡ Some n → inserted_inst n p ≡ true
  first_inst_inserted b e = holds_in inst_place inst_apart n (insts_of p.lines) (λ m. head_not n (block_insts b p) (slots_miss n (is_block b) p.lines m) e)

  pub last_inst_inserted : (b : Block) → last_inst b p ≡ Some n → inserted_inst n p ≡ true
  last_inst_inserted b e = holds_in inst_place inst_apart n (insts_of p.lines) (λ m. last_not n None (block_insts b p) (none-some n) (slots_miss n (is_block b) p.lines m) e)

  pub next_inst_inserted : (i : Inst) → next_inst i p ≡ Some n → inserted_inst n p ≡ true
  next_inst_inserted i e = holds_in inst_place inst_apart n (insts_of p.lines) (λ m. read_not n (has_inst i) (behind inst_place i) (λ is. behind_not inst_place n i is) p.lines m e)

  pub prev_inst_inserted : (i : Inst) → prev_inst i p ≡ Some n → inserted_inst n p ≡ true
  prev_inst_inserted i e = holds_in inst_place inst_apart n (insts_of p.lines) (λ m. read_not n (has_inst i) (ahead inst_place i) (λ is. ahead_not inst_place n i is) p.lines m e)
