-- What stands in a layout's program once an instruction is taken out. Assumes nothing.
use Rattle.std.proofs.Common.{◌≡◌, Bool, true, false, cond, List, [], ◌∷◌, ◌++◌, is_some, Some, None, sym, refl, ap, ◌∙◌, subst, inl, inr, append_assoc}
use Rattle.std.proofs.lemmas.Bool.{both_ways, cases_Bool, cases_eq, ne_eqb}
use Rattle.std.proofs.lemmas.List.{map-append}
use Rattle.std.proofs.lemmas.Option.{none-some}
use Rattle.chain.proofs.Keys.{head_not, last_not, misses_both, misses_left, misses_right}
use Rattle.chain.specs.Chain.{Misses}
use Rattle.entities.specs.Lists.{ahead, behind, holds}
use Rattle.entities.specs.Nodes.{block_place, ends_of, inst_links, inst_place}
use Rattle.entities.specs.Program.{Line, Program, Slot, blocks_of, chosen, has_inst, insts_in, insts_of, instead_where, is_inst, remove_inst, with_lines, with_slots}
use Rattle.entities.specs.Reading.{inserted_block, inserted_inst, inst_block, next_inst, prev_inst}
use Rattle.entities.specs.declared.Block.{Block}
use Rattle.entities.specs.declared.Inst.{Inst}
use Rattle.layout.specs.Program.{program}
use Rattle.layout.specs.declared.Layout.{Layout}
use Rattle.listing.proofs.BlockEdits.{next_is, prev_is}
use Rattle.listing.proofs.Found.{block_apart, inst_apart, insts_in-append, instead_where_none, no_line_with}
use Rattle.listing.proofs.InstEdits.{inst_at, insts_cut}
use Rattle.listing.proofs.Props.{sound_out}
use Rattle.listing.proofs.Questions.{inst_reads, of_inst_none}
use Rattle.listing.proofs.Standing.{its_line_instead, slots_without, stands_in}
use Rattle.listing.proofs.Stretches.{holds-append, holds_in, holds_not, in_holds, not_holds}
use Rattle.listing.specs.Lawful.{listed}

-- the program without i
abbrev pub without : Inst → Program → Program
without i p = with_lines p (remove_inst i p.lines)

-- ---- blocks: all of them stay

chosen_block : (c : Bool) (l : Line) (ss : List Slot) (xs ys : List Line) → blocks_of xs ≡ blocks_of ys → blocks_of (chosen c (with_slots l ss ∷ []) l xs) ≡ l.block ∷ blocks_of ys
chosen_block true l ss xs ys e = ap (λ r. l.block ∷ r) e
chosen_block false l ss xs ys e = ap (λ r. l.block ∷ r) e

same_blocks : (i : Inst) (ls : List Line) → blocks_of (remove_inst i ls) ≡ blocks_of ls
same_blocks i [] = refl
same_blocks i (l ∷ ls) = chosen_block (has_inst i l) l (instead_where (is_inst i) (λ s. []) l.slots) (remove_inst i ls) ls (same_blocks i ls)

pub block_kept : (l : Layout) (i : Inst) (b : Block) → inserted_block b (without i (program l)) ≡ inserted_block b (program l)
block_kept l i b = ap (holds block_place b) (same_blocks i (program l).lines)

-- ---- an instruction's block

module _ (l : Layout) (i : Inst) where
  pub inst_has_block : is_some (inst_block i (program l)) ≡ inserted_inst i (program l)
  inst_has_block = let r = inst_reads l.listing.tables i (sound_out l.listing.sound).wired in ap is_some (sym r.block) ∙ r.inserted

  pub its_block_inserted : (b : Block) → inst_block i (program l) ≡ Some b → inserted_block b (program l) ≡ true
  its_block_inserted b e =
      let t = l.listing.tables in
      let s = stands_in t i b (sound_out l.listing.sound).wired e in
      let a = s.at in
      let names : blocks_of (listed t) ≡ blocks_of a.ahead ++ (b ∷ blocks_of a.behind) = ap blocks_of a.is ∙ map-append (λ m. m.block) a.ahead (a.it ∷ a.behind) ∙ ap (λ x. blocks_of a.ahead ++ (x ∷ blocks_of a.behind)) s.block in
      holds_in block_place block_apart b (blocks_of (listed t)) (λ m. (misses_right (Some b) (blocks_of a.ahead) (b ∷ blocks_of a.behind) (subst (λ ks. Misses (Some b) ks) names m)).0 refl)

  pub its_block_kept : (b : Block) → inst_block i (program l) ≡ Some b → inserted_block b (without i (program l)) ≡ true
  its_block_kept b e = block_kept l i b ∙ its_block_inserted b e

-- ---- instructions

-- one more key that is not k
holds_other : (k x : Inst) (xs ys : List Inst) → (x.0 ≡ k.0 → ⊥) → holds inst_place k (xs ++ (x ∷ ys)) ≡ holds inst_place k (xs ++ ys)
holds_other k x xs ys ne =
    holds-append inst_place inst_apart k xs (x ∷ ys)
    ∙ ap (λ c. cond (holds inst_place k xs) true (cond c true (holds inst_place k ys))) (ne_eqb x.0 k.0 ne)
    ∙ sym (holds-append inst_place inst_apart k xs ys)

holds_left : (k : Inst) (xs ys : List Inst) → holds inst_place k xs ≡ true → holds inst_place k (xs ++ ys) ≡ true
holds_left k xs ys h = holds_in inst_place inst_apart k (xs ++ ys) (λ m. in_holds inst_place inst_apart k xs h (misses_left (Some k) xs ys m))

holds_right : (k : Inst) (xs ys : List Inst) → holds inst_place k ys ≡ true → holds inst_place k (xs ++ ys) ≡ true
holds_right k xs ys h = holds_in inst_place inst_apart k (xs ++ ys) (λ m. in_holds inst_place inst_apart k ys h (misses_right (Some k) xs ys m))

-- the instructions around i
record Around (l : Layout) (i : Inst) : Type 0 where
  ahead : List Inst
  behind : List Inst
  was : insts_of (program l).lines ≡ ahead ++ (i ∷ behind)
  is : insts_of (without i (program l)).lines ≡ ahead ++ behind
  not_ahead : Misses (Some i) ahead
  not_behind : Misses (Some i) behind
  next : (n : Inst) → next_inst i (program l) ≡ Some n → holds inst_place n behind ≡ true
  prev : (n : Inst) → prev_inst i (program l) ≡ Some n → holds inst_place n ahead ≡ true

around : (l : Layout) (i : Inst) → inserted_inst i (program l) ≡ true → Around l i
around l i h =
    let t = l.listing.tables in
    let law = (sound_out l.listing.sound).wired in
    let a = inst_at t i law (in_holds inst_place inst_apart i (insts_of (listed t)) h) in
    let xs : List Inst = insts_of a.ahead in
    let ys : List Inst = insts_of a.behind in
    let ia : List Inst = insts_in a.sa in
    let ib : List Inst = insts_in a.sb in
    let ends = ends_of t.blocks a.it.block in
    let parts : insts_in a.it.slots ≡ ia ++ (i ∷ ib) = ap insts_in a.cut ∙ insts_cut a.sa (a.slot ∷ a.sb) ∙ ap (λ x. ia ++ (x ∷ ib)) a.here in
    let lines : remove_inst i (listed t) ≡ a.ahead ++ (with_slots a.it (a.sa ++ a.sb) ∷ a.behind) = its_line_instead t i a (λ m. with_slots m (slots_but m.slots) ∷ []) ∙ ap (λ ss. a.ahead ++ (with_slots a.it ss ∷ a.behind)) (slots_without t i a) in
    record {
      ahead = xs ++ ia;
      behind = ib ++ ys;
      was = ap insts_of a.is ∙ insts_in-append a.ahead (a.it ∷ a.behind) ∙ ap (λ ks. xs ++ (ks ++ ys)) parts ∙ regroup xs ia (i ∷ ib) ys;
      is = ap insts_of lines ∙ insts_in-append a.ahead (with_slots a.it (a.sa ++ a.sb) ∷ a.behind) ∙ ap (λ ks. xs ++ (ks ++ ys)) (insts_cut a.sa a.sb) ∙ regroup xs ia ib ys;
      not_ahead = misses_both (Some i) xs ia a.not_ahead a.not_sa;
      not_behind = misses_both (Some i) ib ys a.not_sb a.not_behind;
      next = λ n e. holds_in inst_place inst_apart n (ib ++ ys) (λ m. head_not n ib (misses_left (Some n) ib ys m) (sym (next_is inst_place inst_links t.insts ends ia i ib a.chain) ∙ (inst_reads t i law).next ∙ e));
      prev = λ n e. holds_in inst_place inst_apart n (xs ++ ia) (λ m. last_not n None ia (none-some n) (misses_right (Some n) xs ia m) (sym (prev_is inst_place inst_links t.insts ends ia i ib a.chain) ∙ (inst_reads t i law).prev ∙ e));
    }
  where
    slots_but : List Slot → List Slot
    slots_but ss = instead_where (is_inst i) (λ s. []) ss

    regroup : (us vs ws zs : List Inst) → us ++ ((vs ++ ws) ++ zs) ≡ (us ++ vs) ++ (ws ++ zs)
    regroup us vs ws zs = simp append_assoc

-- where i is not inserted, nothing is taken out
nothing_taken : (l : Layout) (i : Inst) → inserted_inst i (program l) ≡ false → remove_inst i (program l).lines ≡ (program l).lines
nothing_taken l i h =
    let ls : List Line = (program l).lines in
    instead_where_none (has_inst i) (λ m. with_slots m (instead_where (is_inst i) (λ s. []) m.slots) ∷ []) ls (no_line_with i ls (not_holds inst_place inst_apart i (insts_of ls) h))

module _ (l : Layout) (i : Inst) where
  -- i itself is out
  pub taken_out : inserted_inst i (without i (program l)) ≡ false
  taken_out =
      elim (cases_Bool (inserted_inst i (program l))) [
        | inl h ↦ let a = around l i h in ap (holds inst_place i) a.is ∙ holds_not inst_place inst_apart i (a.ahead ++ a.behind) (misses_both (Some i) a.ahead a.behind a.not_ahead a.not_behind)
        | inr h ↦ ap (λ ls. holds inst_place i (insts_of ls)) (nothing_taken l i h) ∙ h
      ]

  -- every other instruction is as it was
  pub others_kept : (k : Inst) → (k.0 ≡ i.0 → ⊥) → inserted_inst k (without i (program l)) ≡ inserted_inst k (program l)
  others_kept k ne =
      elim (cases_Bool (inserted_inst i (program l))) [
        | inl h ↦ let a = around l i h in ap (holds inst_place k) a.is ∙ sym (ap (holds inst_place k) a.was ∙ holds_other k i a.ahead a.behind (λ e. ne (sym e)))
        | inr h ↦ ap (λ ls. holds inst_place k (insts_of ls)) (nothing_taken l i h)
      ]

  -- nothing comes in
  pub still_out : (k : Inst) → inserted_inst k (program l) ≡ false → inserted_inst k (without i (program l)) ≡ false
  still_out k h =
      elim (cases_eq k.0 i.0) [
        | inl e ↦ subst (λ x. inserted_inst x (without i (program l)) ≡ false) (sym (inst_apart k i e)) taken_out
        | inr ne ↦ others_kept k ne ∙ h
      ]

-- ---- the neighbours of i stay

module _ (l : Layout) (i n : Inst) where
  pub next_inserts : next_inst i (program l) ≡ Some n → inserted_inst i (program l) ≡ true
  next_inserts e = holds_in inst_place inst_apart i (insts_of (program l).lines) (λ m. none-some n (sym (of_inst_none i (λ m. behind inst_place i (insts_in m.slots)) None (program l).lines m) ∙ e))

  pub prev_inserts : prev_inst i (program l) ≡ Some n → inserted_inst i (program l) ≡ true
  prev_inserts e = holds_in inst_place inst_apart i (insts_of (program l).lines) (λ m. none-some n (sym (of_inst_none i (λ m. ahead inst_place i (insts_in m.slots)) None (program l).lines m) ∙ e))

  pub next_kept : next_inst i (program l) ≡ Some n → inserted_inst n (without i (program l)) ≡ true
  next_kept e =
      let a = around l i (next_inserts e) in
      ap (holds inst_place n) a.is ∙ holds_right n a.ahead a.behind (a.next n e)

  pub prev_kept : prev_inst i (program l) ≡ Some n → inserted_inst n (without i (program l)) ≡ true
  prev_kept e =
      let a = around l i (prev_inserts e) in
      ap (holds inst_place n) a.is ∙ holds_left n a.ahead a.behind (a.prev n e)

  pub next_other : next_inst i (program l) ≡ Some n → n.0 ≡ i.0 → ⊥
  next_other e same = both_ways (inserted_inst n (without i (program l))) (subst (λ x. inserted_inst x (without i (program l)) ≡ false) (sym (inst_apart n i same)) (taken_out l i)) (next_kept e)

  pub prev_other : prev_inst i (program l) ≡ Some n → n.0 ≡ i.0 → ⊥
  prev_other e same = both_ways (inserted_inst n (without i (program l))) (subst (λ x. inserted_inst x (without i (program l)) ≡ false) (sym (inst_apart n i same)) (taken_out l i)) (prev_kept e)
