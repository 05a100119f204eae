-- One step of a walk over a listing: what it gives, and that the walk can go on. Each is a lemma of its own, since the search for a proof
-- meets a lemma by the first call in its conclusion. Assumes nothing.
use Rattle.std.proofs.Common.{◌≡◌, Bool, true, false, nat_eq, [], ◌∷◌, ◌++◌, Some, None, Option, refl, rules, sym}
use Rattle.std.specs.Option.{option_eq}
use Rattle.entities.specs.Reading.{next_block, next_inst, prev_inst}
use Rattle.entities.specs.declared.Block.{Block}
use Rattle.entities.specs.declared.Inst.{Inst}
use Rattle.listing.proofs.Walking.{blocks_step, insts_back, insts_front, insts_only}
use Rattle.listing.specs.Held.{program}
use Rattle.listing.specs.declared.Listing.{Listing}
use Rattle.walks.specs.Walks.{blocks_left, insts_left, on_blocks, on_insts}

-- ---- blocks

module _ (l : Listing) (b : Block) (on : on_blocks l (Some b) ≡ true) where
  pub block_given : blocks_left l (Some b) ≡ b ∷ blocks_left l (next_block b (program l))
  block_given = (blocks_step l.tables l.sound b (next_block b (program l)) on refl).1

  pub block_on : on_blocks l (next_block b (program l)) ≡ true
  block_on = (blocks_step l.tables l.sound b (next_block b (program l)) on refl).0

pub ruleset block_steps = (block_given, block_on)

-- ---- instructions

-- what `==` answers at two instructions, either of which may be absent
abbrev equal : Option Inst → Option Inst → Bool
equal a b = option_eq (λ i j. nat_eq i.0 j.0) a b

same : (o : Option Inst) (i : Inst) → equal o (Some i) ≡ true → o ≡ Some i
same None i e = search (rules, e)
same (Some j) i e = search (rules, e)

apart : (o : Option Inst) (i : Inst) → equal o (Some i) ≡ false → o ≡ Some i → ⊥
apart None i e = search (rules, e)
apart (Some j) i e = search (rules, e)

-- i is the first of what is left; given alone, it was the last too
module _ (l : Listing) (b : Block) (i : Inst) (last : Option Inst) (on : on_insts l b (record { first = Some i; last = last }) ≡ true) where
  pub front_only : equal last (Some i) ≡ true → insts_left l b (record { first = Some i; last = last }) ≡ i ∷ []
  front_only e = insts_only l.tables l.sound b (Some i) last i on refl (sym (same last i e))

  pub front_given : equal last (Some i) ≡ false → insts_left l b (record { first = Some i; last = last }) ≡ i ∷ insts_left l b (record { first = next_inst i (program l); last = last })
  front_given e = (insts_front l.tables l.sound b i last (next_inst i (program l)) on (λ h. apart last i e (sym h)) refl).1

  pub front_on : equal last (Some i) ≡ false → on_insts l b (record { first = next_inst i (program l); last = last }) ≡ true
  front_on e = (insts_front l.tables l.sound b i last (next_inst i (program l)) on (λ h. apart last i e (sym h)) refl).0

pub ruleset front_steps = (front_only, front_given, front_on)

-- i is the last of what is left; given alone, it was the first too
module _ (l : Listing) (b : Block) (first : Option Inst) (i : Inst) (on : on_insts l b (record { first = first; last = Some i }) ≡ true) where
  pub back_only : equal first (Some i) ≡ true → insts_left l b (record { first = first; last = Some i }) ≡ i ∷ []
  back_only e = insts_only l.tables l.sound b first (Some i) i on (same first i e) (same first i e)

  pub back_given : equal first (Some i) ≡ false → insts_left l b (record { first = first; last = Some i }) ≡ insts_left l b (record { first = first; last = prev_inst i (program l) }) ++ i ∷ []
  back_given e = (insts_back l.tables l.sound b first (prev_inst i (program l)) i on (apart first i e) refl).1

  pub back_on : equal first (Some i) ≡ false → on_insts l b (record { first = first; last = prev_inst i (program l) }) ≡ true
  back_on e = (insts_back l.tables l.sound b first (prev_inst i (program l)) i on (apart first i e) refl).0

pub ruleset back_steps = (back_only, back_given, back_on)
