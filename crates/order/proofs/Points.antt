-- Points of the walk of an inserted block: each is there to be compared, and is of that block. Assumes nothing.
use Rattle.std.proofs.Common.{◌≡◌, ◌<◌, true, List, [], ◌∷◌, map, Some, None, sym, refl, ap, ◌∙◌, subst, inl, inr, nat_cmp}
use Rattle.std.proofs.lemmas.Option.{same_Some}
use Rattle.std.proofs.lemmas.Bool.{eq-eqb, lt-ltb}
use Rattle.chain.specs.Table.{read_at}
use Rattle.entities.specs.Nodes.{block_links, block_named, block_place, ends_of, inst_links, inst_place}
use Rattle.entities.specs.Program.{Slot, blocks_of, insts_in}
use Rattle.entities.specs.Reading.{block_insts, inserted_block, inst_block, of_block, point_block, point_seq, slots_of, walk_of}
use Rattle.entities.specs.declared.Block.{Block}
use Rattle.entities.specs.declared.Inst.{Inst}
use Rattle.entities.specs.declared.nodes.InstNode.{InstNode}
use Rattle.entities.specs.declared.nodes.Tables.{Tables}
use Rattle.entities.specs.declared.progpoint.ProgramPoint.{ProgramPoint}
use Rattle.entities.specs.declared.progpoint.ProgramPoint.TheVariants.{Inst as inst_point, Block as block_point}
use Rattle.faults.specs.Questions.{first_no, in_range, in_range_block, in_range_inst, pp_cmp_asked, same_block, same_option}
use Rattle.faults.specs.Refusals.{accepted}
use Rattle.faults.specs.Rules.{answered, pp_cmp_rule}
use Rattle.listing.proofs.BlockEdits.{block_at, here_within}
use Rattle.listing.proofs.Found.{block_apart, locate}
use Rattle.listing.proofs.Frames.{filled_right}
use Rattle.listing.proofs.Props.{sound_out}
use Rattle.listing.proofs.Questions.{inst_reads, of_block_at, of_block_none}
use Rattle.listing.proofs.Ranks.{point_inserted}
use Rattle.listing.proofs.Standing.{stands_in}
use Rattle.listing.proofs.Stretches.{in_holds}
use Rattle.listing.specs.Lawful.{AllFilled, Held, Sound, Wired, listed, program_of}
use Rattle.order.specs.Order.{OneOf}

one_of_map : {A B : Type 0} (f : A → B) (y : B) (xs : List A) → OneOf y (map f xs) → (x : A) × (y ≡ f x) × OneOf x xs
one_of_map f y [] m = absurd m
one_of_map f y (x ∷ xs) (inl e) = (x, e, inl refl)
one_of_map f y (x ∷ xs) (inr m) = let r = one_of_map f y xs m in (r.0, r.1, inr r.2)

-- one of a block's instructions names the block
held_names : (t : List InstNode) (b : Block) (ss : List Slot) (i : Inst) → Held t b ss → OneOf i (insts_in ss) → read_at block_named t i.0 ≡ Some b
held_names t b [] i h m = absurd m
held_names t b (s ∷ ss) i h (inl e) = ap (λ (q : Inst). read_at block_named t q.0) e ∙ h.0
held_names t b (s ∷ ss) i h (inr m) = held_names t b ss i h.2 m

module _ (t : Tables) (h : Sound t) (b : Block) where
  law : Wired t
  law = (sound_out h).wired

  -- each of its instructions names block b
  pub insts_named : (i : Inst) → OneOf i (block_insts b (program_of t)) → inst_block i (program_of t) ≡ Some b
  insts_named i m =
      elim (locate block_place block_apart (λ l. l.block) b (listed t)) [
        | inl out ↦ absurd (subst (λ ss. OneOf i (insts_in ss)) (of_block_none b (λ l. l.slots) [] (listed t) out) m)
        | inr f ↦
            let line = (filled_right t f.ahead (f.it ∷ f.behind) (subst (λ q. AllFilled t q) f.is law.sound.lines)).0 in
            let slots : slots_of b (program_of t) ≡ f.it.slots = ap (of_block b (λ l. l.slots) []) f.is ∙ of_block_at b (λ l. l.slots) [] f.ahead f.it f.behind f.clear f.here in
            sym (inst_reads t i law).block ∙ held_names t.insts f.it.block f.it.slots i line.held (subst (λ ss. OneOf i (insts_in ss)) slots m) ∙ ap Some f.here
      ]

  -- a point of the walk of b is of block b
  pub of_walk : (x : ProgramPoint) → OneOf x (walk_of b (program_of t)) → point_block x (program_of t) ≡ Some b
  of_walk x (inl e) = ap (λ q. point_block q (program_of t)) e
  of_walk x (inr m) =
      let r = one_of_map inst_point x (block_insts b (program_of t)) m in
      ap (λ q. point_block q (program_of t)) r.1 ∙ insts_named r.0 r.2

  block_fits : inserted_block b (program_of t) ≡ true → in_range_block b ≡ true
  block_fits on =
      let a = block_at t b law (λ m. in_holds block_place block_apart b (blocks_of (listed t)) on m) in
      lt-ltb b.0 256 (subst (λ n. b.0 < n) law.blocks_size (here_within block_place block_links t.blocks t.ends (blocks_of a.ahead) b (blocks_of a.behind) a.chain))

  inst_fits : (i : Inst) → inst_block i (program_of t) ≡ Some b → in_range_inst i ≡ true
  inst_fits i e =
      let a = (stands_in t i b law e).at in
      lt-ltb i.0 1024 (subst (λ n. i.0 < n) law.insts_size (here_within inst_place inst_links t.insts (ends_of t.blocks a.it.block) (insts_in a.sa) i (insts_in a.sb) a.chain))

  point_fits : inserted_block b (program_of t) ≡ true → (x : ProgramPoint) → point_block x (program_of t) ≡ Some b → in_range x ≡ true
  point_fits on (block_point c) e = subst (λ q. in_range_block q ≡ true) (sym (same_Some c b e)) (block_fits on)
  point_fits on (inst_point i) e = inst_fits i e

  -- of two points of an inserted block, every question has its yes
  pub all_yes : inserted_block b (program_of t) ≡ true → (x y : ProgramPoint) → point_block x (program_of t) ≡ Some b → point_block y (program_of t) ≡ Some b → pp_cmp_rule x y (program_of t) ≡ accepted (nat_cmp (point_seq x (program_of t)) (point_seq y (program_of t)))
  all_yes on x y ex ey =
      let p = program_of t in
      let rx = point_fits on x ex in
      let ry = point_fits on y ey in
      let ix = point_inserted t h x b ex in
      let iy = point_inserted t h y b ey in
      let same : same_block x y p ≡ true = ap (λ o. same_option o (point_block y p)) ex ∙ ap (λ o. same_option (Some b) o) ey ∙ eq-eqb b.0 b.0 refl in
      let none : first_no (pp_cmp_asked x y p) ≡ None = simp (rx, ry, ix, iy, same) in
      ap (λ o. answered o (nat_cmp (point_seq x p) (point_seq y p))) none
