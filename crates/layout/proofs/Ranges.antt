-- What is inserted in a layout is in range. Assumes nothing.
use Rattle.std.proofs.Common.{◌≡◌, ◌<◌, true, false, subst, inl, inr}
use Rattle.std.proofs.lemmas.Bool.{both_ways, cases_Bool, lt-ltb}
use Rattle.entities.specs.Nodes.{block_links, block_place, ends_of, inst_links, inst_place}
use Rattle.entities.specs.Program.{blocks_of, insts_in, insts_of}
use Rattle.entities.specs.Reading.{inserted_block, inserted_inst}
use Rattle.entities.specs.declared.Block.{Block}
use Rattle.entities.specs.declared.Inst.{Inst}
use Rattle.faults.specs.Questions.{in_range_block, in_range_inst}
use Rattle.layout.specs.Program.{program}
use Rattle.layout.specs.declared.Layout.{Layout}
use Rattle.listing.proofs.BlockEdits.{block_at, here_within}
use Rattle.listing.proofs.Found.{inst_apart}
use Rattle.listing.proofs.InstEdits.{inst_at}
use Rattle.listing.proofs.Landed.{block_stands}
use Rattle.listing.proofs.Props.{sound_out}
use Rattle.listing.proofs.Stretches.{in_holds}
use Rattle.listing.specs.Lawful.{listed}

module _ (l : Layout) (i : Inst) where
  pub inst_low : inserted_inst i (program l) ≡ true → i.0 < 1024
  inst_low h =
      let t = l.listing.tables in
      let law = (sound_out l.listing.sound).wired in
      let a = inst_at t i law (in_holds inst_place inst_apart i (insts_of (listed t)) h) in
      subst (λ n. i.0 < n) law.insts_size (here_within inst_place inst_links t.insts (ends_of t.blocks a.it.block) (insts_in a.sa) i (insts_in a.sb) a.chain)

  pub inst_in_range : inserted_inst i (program l) ≡ true → in_range_inst i ≡ true
  inst_in_range h = lt-ltb i.0 1024 (inst_low h)

  pub inst_out_of_range : in_range_inst i ≡ false → inserted_inst i (program l) ≡ false
  inst_out_of_range out =
      elim (cases_Bool (inserted_inst i (program l))) [ inl h ↦ absurd (both_ways (in_range_inst i) out (inst_in_range h)) | inr h ↦ h ]

module _ (l : Layout) (b : Block) where
  pub block_low : inserted_block b (program l) ≡ true → b.0 < 256
  block_low h =
      let t = l.listing.tables in
      let law = (sound_out l.listing.sound).wired in
      let a = block_at t b law (block_stands t b h) in
      subst (λ n. b.0 < n) law.blocks_size (here_within block_place block_links t.blocks t.ends (blocks_of a.ahead) b (blocks_of a.behind) a.chain)

  pub block_in_range : inserted_block b (program l) ≡ true → in_range_block b ≡ true
  block_in_range h = lt-ltb b.0 256 (block_low h)

  pub block_out_of_range : in_range_block b ≡ false → inserted_block b (program l) ≡ false
  block_out_of_range out =
      elim (cases_Bool (inserted_block b (program l))) [ inl h ↦ absurd (both_ways (in_range_block b) out (block_in_range h)) | inr h ↦ h ]

-- a number outside the range is that of nothing inserted
pub ruleset out_of_range = (inst_out_of_range, block_out_of_range)
