-- An instruction linked into a block, and then numbered. Assumes nothing.
use Rattle.std.proofs.Common.{◌≡◌, ℕ, ◌<◌, ◌≤◌, List, [], ◌∷◌, ◌++◌, length, sym, ◌∙◌, subst, arith}
use Rattle.chain.proofs.Counting.{no_more}
use Rattle.chain.specs.Chain.{Chain}
use Rattle.chain.specs.Table.{read_at}
use Rattle.entities.specs.Nodes.{ends_of, first_of, inst_links, inst_place, last_of}
use Rattle.entities.specs.Numbering.{last_number, numbered}
use Rattle.entities.specs.Program.{Line, Program, Slot, insts_in, with_slots}
use Rattle.entities.specs.declared.Block.{Block}
use Rattle.entities.specs.declared.Inst.{Inst}
use Rattle.entities.specs.declared.nodes.InstNode.{InstNode}
use Rattle.entities.specs.declared.nodes.Tables.{Tables}
use Rattle.listing.proofs.Found.{inst_apart}
use Rattle.listing.proofs.InstEdits.{block_low, held_left, held_right, insts_cut, this_line}
use Rattle.listing.proofs.Numbered.{length_with, numbered_fits, numbered_insts, numbered_rises, rising_back}
use Rattle.listing.proofs.Numbers.{renumbered}
use Rattle.listing.proofs.Props.{sound_out}
use Rattle.listing.proofs.Rises.{becomes, rising_apart, rising_at}
use Rattle.listing.specs.Edits.{Edited, Linked, unnumbered, with_insts}
use Rattle.listing.specs.Lawful.{AllWellNumbered, Filled, Held, Represents, Rising, Sound, WellNumbered, program_of}
use Rattle.listing.specs.Numbers.{BelowFirst, Placed, Renumbered, Renumbers, Written}

written_of : (t : List InstNode) (b : Block) (ss : List Slot) → Held t b ss → Written t ss
written_of t b [] h = tt
written_of t b (s ∷ ss) h = (h.1, written_of t b ss h.2)

below_first : (n : ℕ) (ss : List Slot) → Rising n ss → BelowFirst n ss
below_first n [] r = tt
below_first n (s ∷ ss) r = r.0

-- ---- the tables u, in which i is linked in and not numbered yet

module _ (u : Tables) (i : Inst) (b : Block) (writes : ℕ) (p : Program) (l : Linked u i b writes p) where
  -- the line of b
  abbrev line : Line
  line = with_slots l.it (l.sa ++ (unnumbered l.before i ∷ l.sb))

  stands_for : Represents u (l.ahead ++ (line ∷ l.behind))
  stands_for = subst (λ q. Represents u q) l.edited.list l.edited.wired.sound

  filled : Filled u line
  filled = this_line u l.ahead line l.behind stands_for

  pub linked_low : b.0 < length u.blocks
  linked_low = subst (λ (x : Block). x.0 < length u.blocks) l.here (block_low u l.ahead line l.behind stands_for)

  numbers : AllWellNumbered (l.ahead ++ (l.it ∷ l.behind))
  numbers = subst (λ q. AllWellNumbered q) l.list (sound_out l.sound).numbers

  -- those of its line, its own left out
  numbers_here : WellNumbered (l.sa ++ l.sb)
  numbers_here = subst (λ ss. WellNumbered ss) l.cut (rising_at l.ahead l.it l.behind numbers)

  pub placed : Placed u.insts (read_at first_of u.blocks b.0) l.sa i l.sb
  placed = record {
    run = record {
      last = read_at last_of u.blocks b.0;
      chain = subst (λ (x : Block). Chain inst_place inst_links u.insts (ends_of u.blocks x) (insts_in l.sa ++ (i ∷ insts_in l.sb))) l.here (subst (λ ks. Chain inst_place inst_links u.insts (ends_of u.blocks l.it.block) ks) (insts_cut l.sa (unnumbered l.before i ∷ l.sb)) filled.chain);
      size = let n : length u.insts ≡ 1024 = l.edited.wired.insts_size in omega arith;
    };
    ahead = written_of u.insts l.it.block l.sa (held_left u.insts l.it.block l.sa (unnumbered l.before i ∷ l.sb) filled.held);
    behind = written_of u.insts l.it.block l.sb (held_right u.insts l.it.block l.sa (unnumbered l.before i ∷ l.sb) filled.held).2;
    between = below_first (last_number 0 l.sa) l.sb (rising_back 0 l.sa l.sb numbers_here.rising);
  }

  -- a block has no more instructions than the table has nodes
  few : length (l.sa ++ l.sb) < 1024
  few =
      let all : List Inst = insts_in l.sa ++ (i ∷ insts_in l.sb) in
      let size : length all ≤ length u.insts = no_more inst_place inst_apart (length u.insts) all placed.run.chain.distinct placed.run.chain.within in
      let n : length u.insts ≡ 1024 = l.edited.wired.insts_size in
      omega (arith, length_with l.sa i l.sb)

  new_numbers : WellNumbered (numbered l.sa i l.sb).slots
  new_numbers = record { rising = numbered_rises l.sa i l.sb numbers_here.rising; fit = numbered_fits l.sa i l.sb few numbers_here.fit }

  -- once it is numbered
  pub numbered_now : (is : List InstNode) → Renumbered u.insts is (numbered l.sa i l.sb).slots → (Sound (with_insts u is)) × (program_of (with_insts u is) ≡ p)
  numbered_now is r =
      let new : List Slot = (numbered l.sa i l.sb).slots in
      let same : insts_in new ≡ insts_in line.slots = numbered_insts l.sa i l.sb ∙ sym (insts_cut l.sa (unnumbered l.before i ∷ l.sb)) in
      let edited = renumbered u is l.ahead line l.behind new l.edited.wired stands_for same (subst (λ ks. Renumbers u.insts is ks) same r.spares) r.written in
      let whole : Edited l.before (with_insts u is) (l.ahead ++ (with_slots l.it new ∷ l.behind)) = record { wired = edited.wired; list = edited.list; cold = edited.cold ∙ l.edited.cold } in
      let now = becomes whole (rising_apart l.ahead l.it l.behind new numbers new_numbers) in
      (now.sound, now.program ∙ sym l.program)
