-- Where an inserted instruction stands, and what the words for edits make there. Assumes nothing.
use Rattle.std.proofs.Common.{◌≡◌, true, List, [], ◌∷◌, ◌++◌, Some, None, sym, refl, ap, ◌∙◌, subst, inl, inr}
use Rattle.std.proofs.lemmas.Option.{none-some, same_Some}
use Rattle.chain.proofs.Keys.{misses_right}
use Rattle.chain.specs.Chain.{Misses}
use Rattle.entities.specs.Lists.{ahead_of, from_on}
use Rattle.entities.specs.Nodes.{inst_place}
use Rattle.entities.specs.Program.{Line, has_inst, insts_in, instead_where, is_inst}
use Rattle.entities.specs.Reading.{inst_block, of_inst, slots_with}
use Rattle.entities.specs.declared.Block.{Block}
use Rattle.entities.specs.declared.Inst.{Inst}
use Rattle.entities.specs.declared.nodes.Tables.{Tables}
use Rattle.listing.proofs.Found.{ahead_of_at, from_on_at, inst_apart, instead_where_at, no_line_with, other_insts, this_inst}
use Rattle.listing.proofs.InstEdits.{InstAt, inst_at, insts_cut, stand, standing_in}
use Rattle.listing.proofs.Questions.{inst_reads, of_inst_at, of_inst_none}
use Rattle.listing.proofs.Stretches.{holds_in}
use Rattle.listing.specs.Edits.{InstIn}
use Rattle.listing.specs.Lawful.{Wired, listed, program_of}

-- i stands in block b
pub record StandsIn (t : Tables) (i : Inst) (b : Block) : Type 0 where
  pub inserted : InstIn i t
  pub at : InstAt t i
  pub block : at.it.block ≡ b

pub stands_in : (t : Tables) (i : Inst) (b : Block) → Wired t → inst_block i (program_of t) ≡ Some b → StandsIn t i b
stands_in t i b law e =
    elim (stand i (listed t)) [
      | inl m ↦ absurd (none-some b (sym (of_inst_none i (λ l. Some l.block) None (listed t) m) ∙ e))
      | inr g ↦
          let h : InstIn i t = λ m. standing_in i (listed t) g m in
          let a = inst_at t i law h in
          record { inserted = h; at = a; block = same_Some a.it.block b (sym a.named ∙ (inst_reads t i law).block ∙ e) }
    ]

module _ (t : Tables) (i : Inst) (a : InstAt t i) where
  pub in_its_line : has_inst i a.it ≡ true
  in_its_line =
      let parts : insts_in a.it.slots ≡ insts_in a.sa ++ (i ∷ insts_in a.sb) = ap insts_in a.cut ∙ insts_cut a.sa (a.slot ∷ a.sb) ∙ ap (λ x. insts_in a.sa ++ (x ∷ insts_in a.sb)) a.here in
      holds_in inst_place inst_apart i (insts_in a.it.slots) (λ m. (misses_right (Some i) (insts_in a.sa) (i ∷ insts_in a.sb) (subst (λ ks. Misses (Some i) ks) parts m)).0 refl)

  -- in place of the line in which it stands, what f makes of that line
  pub its_line_instead : (f : Line → List Line) → instead_where (has_inst i) f (listed t) ≡ a.ahead ++ (f a.it ++ a.behind)
  its_line_instead f = ap (instead_where (has_inst i) f) a.is ∙ instead_where_at (has_inst i) f a.ahead a.it a.behind (no_line_with i a.ahead a.not_ahead) in_its_line (no_line_with i a.behind a.not_behind)

  pub its_slots : slots_with i (program_of t) ≡ a.it.slots
  its_slots = ap (of_inst i (λ l. l.slots) []) a.is ∙ of_inst_at i (λ l. l.slots) [] a.ahead a.it a.behind a.not_ahead in_its_line

  pub slots_ahead : ahead_of (is_inst i) a.it.slots ≡ a.sa
  slots_ahead = ap (ahead_of (is_inst i)) a.cut ∙ ahead_of_at (is_inst i) a.sa a.slot a.sb (other_insts i a.sa a.not_sa) (this_inst i a.slot a.here)

  pub slots_from : from_on (is_inst i) a.it.slots ≡ a.slot ∷ a.sb
  slots_from = ap (from_on (is_inst i)) a.cut ∙ from_on_at (is_inst i) a.sa a.slot a.sb (other_insts i a.sa a.not_sa) (this_inst i a.slot a.here)

  pub slots_without : instead_where (is_inst i) (λ s. []) a.it.slots ≡ a.sa ++ a.sb
  slots_without = ap (instead_where (is_inst i) (λ s. [])) a.cut ∙ instead_where_at (is_inst i) (λ s. []) a.sa a.slot a.sb (other_insts i a.sa a.not_sa) (this_inst i a.slot a.here) (other_insts i a.sb a.not_sb)
