-- An instruction that is linked in, numbered. Assumes nothing.
use Rattle.std.proofs.Common.{◌≡◌, ℕ, List, Option, sym, ◌∙◌, subst}
use Rattle.chain.specs.Table.{read_at}
use Rattle.entities.specs.declared.Block.{Block}
use Rattle.entities.specs.declared.Inst.{Inst}
use Rattle.entities.specs.declared.nodes.InstNode.{InstNode}
use Rattle.entities.specs.declared.nodes.Tables.{Tables}
use Rattle.entities.specs.Nodes.{first_of}
use Rattle.entities.specs.Program.{Program}
use Rattle.listing.specs.Edits.{Linked, with_insts}
use Rattle.listing.specs.Lawful.{Sound, program_of}
use Rattle.listing.specs.Numbers.{Placed, SomePlaced}
use Rattle.listing.proofs.Linking.{numbered_now, placed}
use Rattle.numbering.specs.Assigned.{AssignedAt}

module _ (t : Tables) (i : Inst) (b : Block) (first : Option Inst) (e : first ≡ read_at first_of t.blocks b.0) where
  placed_from : (n : ℕ) (p : Program) (l : Linked t i b n p) → Placed t.insts first l.sa i l.sb
  placed_from n p l = subst (λ (o : Option Inst). Placed t.insts o l.sa i l.sb) (sym e) (placed t i b n p l)

  pub some_placed : (n : ℕ) (p : Program) → Linked t i b n p → SomePlaced t.insts first i
  some_placed n p l = record { ahead = l.sa; behind = l.sb; placed = placed_from n p l }

  pub put_in : (is : List InstNode) (r : ℕ) → AssignedAt t.insts is first i r → (n : ℕ) (p : Program) → Linked t i b n p → (Sound (with_insts t is)) × (r ≡ n) × (program_of (with_insts t is) ≡ p)
  put_in is r assigned n p l =
      let stored = assigned l.sa l.sb (placed_from n p l) in
      let now = numbered_now t i b n p l is stored.table in
      (now.0, stored.count ∙ sym l.count, now.1)
