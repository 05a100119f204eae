-- What still stands in a program once something is put in, and that a block put in stands there; whatever its list. Assumes nothing.
use Rattle.std.proofs.Common.{◌≡◌, Bool, true, false, cond, List, [], ◌∷◌, ◌++◌, sym, refl, ap, ◌∙◌, subst, inl, inr}
use Rattle.std.proofs.lemmas.Bool.{cases_Bool}
use Rattle.std.proofs.lemmas.List.{map-append}
use Rattle.entities.specs.Lists.{ahead_of, from_on, holds}
use Rattle.entities.specs.Nodes.{block_place, inst_place}
use Rattle.entities.specs.Numbering.{appended_inst, inserted_before, numbered_before, numbered_last}
use Rattle.entities.specs.Program.{Line, Program, Slot, append_block, blocks_of, chosen, empty_line, has_inst, insert_block, insert_block_after, insts_in, insts_of, instead_where, is_block, is_inst, split_block, with_lines, with_slots}
use Rattle.entities.specs.Reading.{inserted_block, inserted_inst}
use Rattle.entities.specs.declared.Block.{Block}
use Rattle.entities.specs.declared.Inst.{Inst}
use Rattle.leading.proofs.Lists.{holds_first, holds_left, holds_right, instead_holds, one_passes}
use Rattle.listing.proofs.Found.{inst_apart, insts_in-append}
use Rattle.listing.proofs.Numbered.{numbered_insts}
use Rattle.listing.proofs.Stretches.{holds-append}

-- ---- the blocks

blocks-append : (xs ys : List Line) → blocks_of (xs ++ ys) ≡ blocks_of xs ++ blocks_of ys
blocks-append xs ys = map-append (λ l. l.block) xs ys

block_passes : (b : Block) (ls : List Line) → one_passes (is_block b) ls ≡ holds block_place b (blocks_of ls)
block_passes b [] = refl
block_passes b (l ∷ ls) = ap (λ c. cond (is_block b l) true c) (block_passes b ls)

-- where the slots of some lines change, the blocks stay
slots_changed : (test : Line → Bool) (f : List Slot → List Slot) (ls : List Line) → blocks_of (instead_where test (λ l. with_slots l (f l.slots) ∷ []) ls) ≡ blocks_of ls
slots_changed test f [] = refl
slots_changed test f (l ∷ ls) =
    elim (test l) as (λ c. blocks_of (chosen c (with_slots l (f l.slots) ∷ []) l (instead_where test (λ k. with_slots k (f k.slots) ∷ []) ls)) ≡ l.block ∷ blocks_of ls) [
      | true ↦ ap (λ bs. l.block ∷ bs) (slots_changed test f ls)
      | false ↦ ap (λ bs. l.block ∷ bs) (slots_changed test f ls)
    ]

-- b is inserted wherever an instruction is appended
pub append_keeps_block : (b : Block) (p : Program) (i : Inst) (c : Block) → inserted_block b (appended_inst i c p) ≡ inserted_block b p
append_keeps_block b p i c = ap (holds block_place b) (slots_changed (is_block c) (λ ss. (numbered_last ss i).slots) p.lines)

module _ (b : Block) (p : Program) where
  pub append_block_inserts : inserted_block b (with_lines p (append_block b p.lines)) ≡ true
  append_block_inserts = ap (holds block_place b) (blocks-append p.lines (empty_line b ∷ [])) ∙ holds_right block_place b (blocks_of p.lines) (b ∷ []) (holds_first block_place b [])

  module _ (c : Block) (inserted : inserted_block c p ≡ true) where
    -- what f puts in place of the line of c has the block b
    put_beside : (f : Line → List Line) → ((l : Line) → holds block_place b (blocks_of (f l)) ≡ true) → inserted_block b (with_lines p (instead_where (is_block c) f p.lines)) ≡ true
    put_beside f puts = instead_holds block_place blocks_of blocks-append (is_block c) f b (λ l e. puts l) p.lines (block_passes c p.lines ∙ inserted)

    pub insert_block_inserts : inserted_block b (with_lines p (insert_block b c p.lines)) ≡ true
    insert_block_inserts = put_beside (λ l. empty_line b ∷ l ∷ []) (λ l. holds_first block_place b (l.block ∷ []))

    pub insert_block_after_inserts : inserted_block b (with_lines p (insert_block_after b c p.lines)) ≡ true
    insert_block_after_inserts = put_beside (λ l. l ∷ empty_line b ∷ []) (λ l. holds_right block_place b (l.block ∷ []) (b ∷ []) (holds_first block_place b []))

-- ---- the instructions

inst_passes : (k : Inst) (ls : List Line) → one_passes (has_inst k) ls ≡ holds inst_place k (insts_of ls)
inst_passes k [] = refl
inst_passes k (l ∷ ls) = ap (λ c. cond (has_inst k l) true c) (inst_passes k ls) ∙ sym (holds-append inst_place inst_apart k (insts_in l.slots) (insts_of ls))

-- k stands in what is cut off ahead of it
cut_holds : (k : Inst) (ss : List Slot) → holds inst_place k (insts_in ss) ≡ true → holds inst_place k (insts_in (from_on (is_inst k) ss)) ≡ true
cut_holds k [] h = h
cut_holds k (s ∷ ss) h =
    elim (cases_Bool (is_inst k s)) [
      | inl e ↦ ap (λ c. holds inst_place k (insts_in (cond c (s ∷ ss) (from_on (is_inst k) ss)))) e ∙ h
      | inr e ↦ ap (λ c. holds inst_place k (insts_in (cond c (s ∷ ss) (from_on (is_inst k) ss)))) e ∙ cut_holds k ss (subst (λ c. cond c true (holds inst_place k (insts_in ss)) ≡ true) e h)
    ]

module _ (k : Inst) (p : Program) (inserted : inserted_inst k p ≡ true) where
  -- what f puts in place of the line of k has the instruction k
  put_at : (f : Line → List Line) → ((l : Line) → has_inst k l ≡ true → holds inst_place k (insts_of (f l)) ≡ true) → inserted_inst k (with_lines p (instead_where (has_inst k) f p.lines)) ≡ true
  put_at f puts = instead_holds inst_place insts_of insts_in-append (has_inst k) f k puts p.lines (inst_passes k p.lines ∙ inserted)

  pub insert_keeps_inst : (i : Inst) → inserted_inst k (inserted_before i k p) ≡ true
  insert_keeps_inst i =
      put_at (λ l. with_slots l (numbered_before i k l.slots).slots ∷ []) (λ l h.
      let ia : List Inst = insts_in (ahead_of (is_inst k) l.slots) in
      let ib : List Inst = insts_in (from_on (is_inst k) l.slots) in
      holds_left inst_place k (insts_in (numbered_before i k l.slots).slots) []
      (ap (holds inst_place k) (numbered_insts (ahead_of (is_inst k) l.slots) i (from_on (is_inst k) l.slots)) ∙ holds_right inst_place k ia (i ∷ ib) (holds_right inst_place k (i ∷ []) ib (cut_holds k l.slots h))))

  pub split_keeps_inst : (b : Block) → inserted_inst k (with_lines p (split_block b k p.lines)) ≡ true
  split_keeps_inst b =
      put_at (λ l. with_slots l (ahead_of (is_inst k) l.slots) ∷ record { block = b; slots = from_on (is_inst k) l.slots } ∷ []) (λ l h.
      let ia : List Inst = insts_in (ahead_of (is_inst k) l.slots) in
      let ib : List Inst = insts_in (from_on (is_inst k) l.slots) in
      holds_right inst_place k ia (ib ++ []) (holds_left inst_place k ib [] (cut_holds k l.slots h)))
