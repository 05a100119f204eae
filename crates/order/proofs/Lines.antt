-- What a layout says of a line of its list, asked for the line's block and for its instructions. Assumes nothing.
use Rattle.std.proofs.Common.{◌≡◌, true, cond, List, [], ◌∷◌, ◌++◌, is_some, Some, None, sym, refl, ap, ◌∙◌, subst}
use Rattle.std.specs.List.{AllByRecursion}
use Rattle.entities.specs.Program.{Line, Slot, insts_in}
use Rattle.entities.specs.Reading.{block_insts, inserted_inst, inst_seq, of_block, shown_seq, slots_of}
use Rattle.entities.specs.declared.Block.{Block}
use Rattle.entities.specs.declared.nodes.Tables.{Tables}
use Rattle.listing.proofs.InstEdits.{other_ahead, this_line}
use Rattle.listing.proofs.Questions.{inst_reads, of_block_at}
use Rattle.listing.specs.Lawful.{Held, Represents, Wired, listed, program_of}

module _ (t : Tables) (law : Wired t) (xs : List Line) (l : Line) (ys : List Line) (is : listed t ≡ xs ++ (l ∷ ys)) where
  rep : Represents t (xs ++ (l ∷ ys))
  rep = subst (λ q. Represents t q) is law.sound

  own_slots : slots_of l.block (program_of t) ≡ l.slots
  own_slots = ap (of_block l.block (λ m. m.slots) []) is ∙ of_block_at l.block (λ m. m.slots) [] xs l ys (other_ahead t xs l ys rep) refl

  pub own_insts : block_insts l.block (program_of t) ≡ insts_in l.slots
  own_insts = ap insts_in own_slots

  pub own_held : Held t.insts l.block l.slots
  own_held = (this_line t xs l ys rep).held

-- each slot shows its number
pub numbers_shown : (t : Tables) (law : Wired t) (b : Block) (ss : List Slot) → Held t.insts b ss → AllByRecursion (λ s. shown_seq s.inst (program_of t) ≡ Some s.seq) ss
numbers_shown t law b [] h = tt
numbers_shown t law b (s ∷ ss) h =
    let r = inst_reads t s.inst law in
    let inserted : inserted_inst s.inst (program_of t) ≡ true = sym r.inserted ∙ ap is_some h.0 in
    (ap (λ c. cond c (Some (inst_seq s.inst (program_of t))) None) inserted ∙ sym (r.seq inserted) ∙ h.1, numbers_shown t law b ss h.2)
