-- Walks along the blocks, and along the instructions of a block, by the answers about neighbours. Assumes nothing.
use Rattle.std.proofs.Common.{◌≡◌, ℕ, true, false, cond, List, [], ◌∷◌, ◌++◌, Some, None, Option, sym, refl, ap, ◌∙◌, subst, inl, inr, arith}
use Rattle.std.proofs.lemmas.Bool.{cases_eq, ne_eqb}
use Rattle.chain.specs.Chain.{Distinct, head_or}
use Rattle.chain.specs.Table.{read_at}
use Rattle.entities.specs.Lists.{ahead, behind, from_key, holds, spans, stretch, walks_on}
use Rattle.entities.specs.Nodes.{block_named, block_place, inst_place}
use Rattle.entities.specs.Program.{Slot, blocks_of, insts_in}
use Rattle.entities.specs.Reading.{block_insts, entry_block, first_inst, last_inst, next_block, next_inst, of_block, of_inst, prev_inst, slots_of}
use Rattle.entities.specs.declared.Block.{Block}
use Rattle.entities.specs.declared.Inst.{Inst}
use Rattle.entities.specs.declared.nodes.InstNode.{InstNode}
use Rattle.entities.specs.declared.nodes.Tables.{Tables}
use Rattle.listing.proofs.Found.{block_apart, inst_apart, locate}
use Rattle.listing.proofs.Frames.{filled_left, named_misses}
use Rattle.listing.proofs.InstEdits.{other_ahead, this_line}
use Rattle.listing.proofs.Props.{sound_out}
use Rattle.listing.proofs.Questions.{of_block_at, of_block_none, of_inst_at, slots_distinct}
use Rattle.listing.proofs.Stretches.{span_back, span_front, span_one, span_start, walk_start, walk_step}
use Rattle.listing.specs.Lawful.{Held, Represents, Sound, Wired, listed, program_of}

-- ---- blocks

module _ (t : Tables) (h : Sound t) where
  pub blocks_start : (o : Option Block) → o ≡ entry_block (program_of t) → (walks_on block_place o (blocks_of (listed t)) ≡ true) × (from_key block_place o (blocks_of (listed t)) ≡ blocks_of (listed t))
  blocks_start o e =
      let s = walk_start block_place block_apart (blocks_of (listed t)) in
      (ap (λ q. walks_on block_place q (blocks_of (listed t))) e ∙ s.0, ap (λ q. from_key block_place q (blocks_of (listed t))) e ∙ s.1)

  pub blocks_step : (b : Block) (o : Option Block) → holds block_place b (blocks_of (listed t)) ≡ true → o ≡ next_block b (program_of t) → (walks_on block_place o (blocks_of (listed t)) ≡ true) × (from_key block_place (Some b) (blocks_of (listed t)) ≡ b ∷ from_key block_place o (blocks_of (listed t)))
  blocks_step b o on e =
      let s = walk_step block_place block_apart b (blocks_of (listed t)) (sound_out h).wired.sound.blocks.distinct on in
      (ap (λ q. walks_on block_place q (blocks_of (listed t))) e ∙ s.1, s.0 ∙ ap (λ q. b ∷ from_key block_place q (blocks_of (listed t))) (sym e))

-- ---- instructions

-- one that stands among a block's slots names the block
named_in : (t : List InstNode) (b : Block) (ss : List Slot) (i : Inst) → Held t b ss → holds inst_place i (insts_in ss) ≡ true → read_at block_named t i.0 ≡ Some b
named_in t b [] i d h = absurd (let z : ◌≡◌ {A = ℕ} 0 1 = cc in omega arith)
named_in t b (s ∷ ss) i d h =
    elim (cases_eq s.inst.0 i.0) [
      | inl e ↦ ap (λ (x : Inst). read_at block_named t x.0) (sym (inst_apart s.inst i e)) ∙ d.0
      | inr ne ↦ named_in t b ss i d.2 (sym (ap (λ c. cond c true (holds inst_place i (insts_in ss))) (ne_eqb s.inst.0 i.0 ne)) ∙ h)
    ]

-- the neighbours of an instruction are its neighbours in its block
module _ (t : Tables) (law : Wired t) (b : Block) (i : Inst) (on : holds inst_place i (block_insts b (program_of t)) ≡ true) where
  of_own_line : {A : Type 0} (f : List Inst → A) (o : A) → of_inst i (λ l. f (insts_in l.slots)) o (listed t) ≡ f (block_insts b (program_of t))
  of_own_line f o =
      elim (locate block_place block_apart (λ l. l.block) b (listed t)) [
        | inl m ↦ absurd (let e : holds inst_place i (block_insts b (program_of t)) ≡ false = ap (λ ss. holds inst_place i (insts_in ss)) (of_block_none b (λ l. l.slots) [] (listed t) m) in let z : ◌≡◌ {A = ℕ} 0 1 = cc in omega arith)
        | inr g ↦
            let slots : slots_of b (program_of t) ≡ g.it.slots = ap (of_block b (λ l. l.slots) []) g.is ∙ of_block_at b (λ l. l.slots) [] g.ahead g.it g.behind g.clear g.here in
            let rep : Represents t (g.ahead ++ (g.it ∷ g.behind)) = subst (λ q. Represents t q) g.is law.sound in
            let line = this_line t g.ahead g.it g.behind rep in
            let here : holds inst_place i (insts_in g.it.slots) ≡ true = ap (λ ss. holds inst_place i (insts_in ss)) (sym slots) ∙ on in
            let named = named_in t.insts g.it.block g.it.slots i line.held here in
            let clear = named_misses t i g.it.block g.ahead named (filled_left t g.ahead (g.it ∷ g.behind) rep.lines) (other_ahead t g.ahead g.it g.behind rep) in
            ap (of_inst i (λ l. f (insts_in l.slots)) o) g.is ∙ of_inst_at i (λ l. f (insts_in l.slots)) o g.ahead g.it g.behind clear here ∙ ap (λ ss. f (insts_in ss)) (sym slots)
      ]

  next_in_block : next_inst i (program_of t) ≡ behind inst_place i (block_insts b (program_of t))
  next_in_block = of_own_line (behind inst_place i) None

  prev_in_block : prev_inst i (program_of t) ≡ ahead inst_place i (block_insts b (program_of t))
  prev_in_block = of_own_line (ahead inst_place i) None

module _ (t : Tables) (sound : Sound t) (b : Block) where
  law : Wired t
  law = (sound_out sound).wired

  distinct : Distinct (block_insts b (program_of t))
  distinct = slots_distinct t b (sound_out sound).wired

  pub insts_start : (h l : Option Inst) → h ≡ first_inst b (program_of t) → l ≡ last_inst b (program_of t) → (spans inst_place h l (block_insts b (program_of t)) ≡ true) × (stretch inst_place h l (block_insts b (program_of t)) ≡ block_insts b (program_of t))
  insts_start h l eh el =
      let xs = block_insts b (program_of t) in
      let s = span_start inst_place inst_apart xs distinct in
      (ap (λ q. spans inst_place q l xs) eh ∙ ap (λ q. spans inst_place (head_or xs None) q xs) el ∙ s.0, ap (λ q. stretch inst_place q l xs) eh ∙ ap (λ q. stretch inst_place (head_or xs None) q xs) el ∙ s.1)

  -- the only one left is given
  pub insts_only : (h l : Option Inst) (i : Inst) → spans inst_place h l (block_insts b (program_of t)) ≡ true → h ≡ Some i → h ≡ l → stretch inst_place h l (block_insts b (program_of t)) ≡ i ∷ []
  insts_only h l i on e same = span_one inst_place inst_apart h l (block_insts b (program_of t)) i distinct on e same

  pub insts_front : (i : Inst) (l o : Option Inst) → spans inst_place (Some i) l (block_insts b (program_of t)) ≡ true → (Some i ≡ l → ⊥) → o ≡ next_inst i (program_of t) → (spans inst_place o l (block_insts b (program_of t)) ≡ true) × (stretch inst_place (Some i) l (block_insts b (program_of t)) ≡ i ∷ stretch inst_place o l (block_insts b (program_of t)))
  insts_front i l o on apart e =
      let xs = block_insts b (program_of t) in
      let s = span_front inst_place inst_apart (Some i) l xs i distinct on refl apart in
      let is : o ≡ behind inst_place i xs = e ∙ next_in_block t law b i s.2 in
      (ap (λ q. spans inst_place q l xs) is ∙ s.1, s.0 ∙ ap (λ q. i ∷ stretch inst_place q l xs) (sym is))

  pub insts_back : (h o : Option Inst) (i : Inst) → spans inst_place h (Some i) (block_insts b (program_of t)) ≡ true → (h ≡ Some i → ⊥) → o ≡ prev_inst i (program_of t) → (spans inst_place h o (block_insts b (program_of t)) ≡ true) × (stretch inst_place h (Some i) (block_insts b (program_of t)) ≡ stretch inst_place h o (block_insts b (program_of t)) ++ (i ∷ []))
  insts_back h o i on apart e =
      let xs = block_insts b (program_of t) in
      let s = span_back inst_place inst_apart h (Some i) xs i distinct on refl apart in
      let is : o ≡ ahead inst_place i xs = e ∙ prev_in_block t law b i s.2 in
      (ap (λ q. spans inst_place h q xs) is ∙ s.1, s.0 ∙ ap (λ q. stretch inst_place h q xs ++ (i ∷ [])) (sym is))
