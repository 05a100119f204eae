-- A block's instructions taken out of a listing one by one, each the first of those that are left. Assumes nothing.
use Rattle.std.proofs.Common.{◌≡◌, ℕ, ◌+◌, true, cond, List, [], ◌∷◌, ◌++◌, length, is_some, Some, None, Option, sym, refl, ap, ◌∙◌, subst, arith}
use Rattle.std.proofs.lemmas.List.{length-append, map-append}
use Rattle.std.proofs.lemmas.Option.{none-some, same_Some}
use Rattle.chain.specs.Chain.{Misses, head_or}
use Rattle.chain.specs.Table.{read_at}
use Rattle.entities.specs.Lists.{holds}
use Rattle.entities.specs.Nodes.{block_named, block_place}
use Rattle.entities.specs.Program.{Line, Program, Slot, blocks_of, insts_in, instead_where, is_inst, remove_block, remove_inst, with_lines, with_slots}
use Rattle.entities.specs.Reading.{first_inst, inserted_block, inst_block, of_block, slots_of}
use Rattle.entities.specs.declared.Block.{Block}
use Rattle.entities.specs.declared.Inst.{Inst}
use Rattle.entities.specs.declared.nodes.InstNode.{InstNode}
use Rattle.listing.proofs.BlockEdits.{block_at}
use Rattle.listing.proofs.Found.{block_instead}
use Rattle.listing.proofs.InstEdits.{InstAt, other_ahead, other_behind, this_line}
use Rattle.listing.proofs.Landed.{block_stands}
use Rattle.listing.proofs.Props.{sound_out}
use Rattle.listing.proofs.Questions.{inst_reads, of_block_at, slots_at}
use Rattle.listing.proofs.Standing.{StandsIn, its_line_instead, slots_without, stands_in}
use Rattle.listing.specs.Held.{program}
use Rattle.listing.specs.Lawful.{Held, listed}
use Rattle.listing.specs.declared.Listing.{Listing}

-- ---- the first instruction of a block stands in it

head_named : (t : List InstNode) (b : Block) (i : Inst) (ss : List Slot) → Held t b ss → head_or (insts_in ss) None ≡ Some i → read_at block_named t i.0 ≡ Some b
head_named t b i [] h e = absurd (none-some i e)
head_named t b i (s ∷ ss) h e = ap (λ (x : Inst). read_at block_named t x.0) (sym (same_Some s.inst i e)) ∙ h.0

pub first_stands : (l : Listing) (b : Block) (i : Inst) → inserted_block b (program l) ≡ true → first_inst b (program l) ≡ Some i → inst_block i (program l) ≡ Some b
first_stands l b i inserted first =
    let law = (sound_out l.sound).wired in
    let a = block_at l.tables b law (block_stands l.tables b inserted) in
    let line = this_line l.tables a.ahead a.it a.behind a.rep in
    sym (inst_reads l.tables i law).block
    ∙ head_named l.tables.insts a.it.block i a.it.slots line.held (ap (λ ss. head_or (insts_in ss) None) (sym (slots_at l.tables b a)) ∙ first)
    ∙ ap Some a.here

-- ---- what is left once an instruction is taken out

-- q has n instructions fewer than p in block b, which is inserted in both or in neither; without the block they are the same
record Fewer (b : Block) (n : ℕ) (p q : Program) : Type 0 where
  inserted : inserted_block b p ≡ inserted_block b q
  slots : length (slots_of b p) ≡ n + length (slots_of b q)
  without_block : with_lines p (remove_block b p.lines) ≡ with_lines q (remove_block b q.lines)

one_fewer : (sa : List Slot) (s : Slot) (sb : List Slot) → length (sa ++ (s ∷ sb)) ≡ 1 + length (sa ++ sb)
one_fewer sa s sb = simp length-append (omega arith)

-- p without an instruction, if there is one
abbrev without : Option Inst → Program → Program
without None p = p
without (Some i) p = with_lines p (remove_inst i p.lines)

-- i stands in block b
module _ (l : Listing) (b : Block) (i : Inst) (stands : inst_block i (program l) ≡ Some b) where
  stood : StandsIn l.tables i b
  stood = stands_in l.tables i b (sound_out l.sound).wired stands

  abbrev at : InstAt l.tables i
  at = stood.at

  -- its line without it
  abbrev rest : Line
  rest = with_slots at.it (at.sa ++ at.sb)

  lines : remove_inst i (listed l.tables) ≡ at.ahead ++ (rest ∷ at.behind)
  lines =
      its_line_instead l.tables i at (λ m. with_slots m (instead_where (is_inst i) (λ s. []) m.slots) ∷ [])
      ∙ ap (λ ss. at.ahead ++ (with_slots at.it ss ∷ at.behind)) (slots_without l.tables i at)

  not_ahead : Misses (Some b) (blocks_of at.ahead)
  not_ahead = subst (λ x. Misses (Some x) (blocks_of at.ahead)) stood.block (other_ahead l.tables at.ahead at.it at.behind at.rep)

  not_behind : Misses (Some b) (blocks_of at.behind)
  not_behind = subst (λ x. Misses (Some x) (blocks_of at.behind)) stood.block (other_behind l.tables at.ahead at.it at.behind at.rep)

  -- what is read of b where m is its line, and what is left without it
  module _ (m : Line) (here : m.block ≡ b) where
    slots_there : of_block b (λ k. k.slots) [] (at.ahead ++ (m ∷ at.behind)) ≡ m.slots
    slots_there = of_block_at b (λ k. k.slots) [] at.ahead m at.behind not_ahead here

    lines_without : remove_block b (at.ahead ++ (m ∷ at.behind)) ≡ at.ahead ++ at.behind
    lines_without = block_instead b (λ k. []) at.ahead m at.behind not_ahead here not_behind

  blocks : blocks_of (listed l.tables) ≡ blocks_of (remove_inst i (listed l.tables))
  blocks =
      ap blocks_of at.is ∙ map-append (λ m. m.block) at.ahead (at.it ∷ at.behind)
      ∙ sym (ap blocks_of lines ∙ map-append (λ m. m.block) at.ahead (rest ∷ at.behind))

  taken : Fewer b 1 (program l) (without (Some i) (program l))
  taken =
      let slots : List Line → List Slot = of_block b (λ k. k.slots) [] in
      record {
        inserted = ap (holds block_place b) blocks;
        slots = ap length (ap slots at.is ∙ slots_there at.it stood.block ∙ at.cut)
            ∙ one_fewer at.sa at.slot at.sb
            ∙ ap (λ ss. 1 + length ss) (sym (ap slots lines ∙ slots_there rest stood.block));
        without_block = ap (with_lines (program l)) (ap (remove_block b) at.is ∙ lines_without at.it stood.block ∙ sym (ap (remove_block b) lines ∙ lines_without rest stood.block));
      }

-- ---- the same of the first instruction of block b, if it has one: a search has `first_inst b` in sight, and not the instruction

abbrev without_first : Block → Program → Program
without_first b p = without (first_inst b p) p

module _ (l : Listing) (b : Block) (inserted : inserted_block b (program l) ≡ true) where
  out : (o : Option Inst) → ((i : Inst) → o ≡ Some i → inst_block i (program l) ≡ Some b) → Fewer b (cond (is_some o) 1 0) (program l) (without o (program l))
  out None stands = record { inserted = refl; slots = omega arith; without_block = refl }
  out (Some i) stands = taken l b i (stands i refl)

  first_out : Fewer b (cond (is_some (first_inst b (program l))) 1 0) (program l) (without_first b (program l))
  first_out = out (first_inst b (program l)) (λ i e. first_stands l b i inserted e)

  pub still_inserted : inserted_block b (program l) ≡ inserted_block b (without_first b (program l))
  still_inserted = first_out.inserted

  pub fewer_slots : length (slots_of b (program l)) ≡ cond (is_some (first_inst b (program l))) 1 0 + length (slots_of b (without_first b (program l)))
  fewer_slots = first_out.slots

  pub same_without_block : with_lines (program l) (remove_block b (program l).lines) ≡ with_lines (without_first b (program l)) (remove_block b (without_first b (program l)).lines)
  same_without_block = first_out.without_block

-- what a search for the emptying is told
pub ruleset emptying = (first_stands, still_inserted, fewer_slots, same_without_block)
