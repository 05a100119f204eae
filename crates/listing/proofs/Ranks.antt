-- Numbers and the walk of a block rank two points alike. Assumes nothing.
use Rattle.std.proofs.Common.{◌≡◌, ℕ, ◌<◌, true, ◌⊎◌, List, [], ◌∷◌, ◌++◌, map, is_some, Some, sym, refl, ap, ◌∙◌, subst, inl, inr, arith, nat_cmp, Ordering, Less, Equal, Greater}
use Rattle.std.proofs.lemmas.Option.{none-some, same_Some}
use Rattle.std.proofs.lemmas.List.{map-append}
use Rattle.std.specs.Cmp.{nat_cmp_is}
use Rattle.entities.specs.declared.progpoint.ProgramPoint.TheVariants.{Inst as inst_point, Block as block_point}
use Rattle.chain.specs.Chain.{Misses}
use Rattle.chain.specs.Table.{read_at}
use Rattle.entities.specs.Nodes.{block_named, block_place, number_of}
use Rattle.entities.specs.Program.{Slot, blocks_of, insts_in}
use Rattle.entities.specs.Reading.{Precedes, Ranked, Stands, block_insts, inserted_inst, inserted_point, inst_seq, of_block, point_block, point_seq, slots_of, walk_of}
use Rattle.entities.specs.declared.Block.{Block}
use Rattle.entities.specs.declared.nodes.Tables.{Tables}
use Rattle.entities.specs.declared.progpoint.ProgramPoint.{ProgramPoint}
use Rattle.listing.proofs.Found.{block_apart, locate}
use Rattle.listing.proofs.Frames.{filled_right}
use Rattle.listing.proofs.InstEdits.{inst_at, insts_cut, other_ahead}
use Rattle.listing.proofs.Props.{sound_out}
use Rattle.listing.proofs.Questions.{inst_reads, of_block_at, of_block_none}
use Rattle.listing.proofs.Rises.{rising_at}
use Rattle.listing.specs.Edits.{InstIn}
use Rattle.listing.specs.Lawful.{AllFilled, AllWellNumbered, Held, Lawful, Rising, Sound, listed, program_of}

-- ---- numbers that climb along a list

-- f climbs strictly along the list, from above n
abbrev Climbs : {A : Type 0} → (A → ℕ) → ℕ → List A → Type 0
Climbs f n [] = Unit {0}
Climbs f n (x ∷ xs) = (n < f x) × Climbs f (f x) xs

module _ {A : Type 0} (f : A → ℕ) where
  climbs_above : (n : ℕ) (us : List A) (c : A) (ws : List A) → Climbs f n (us ++ (c ∷ ws)) → n < f c
  climbs_above n [] c ws k = k.0
  climbs_above n (u ∷ us) c ws k = let h : f u < f c = climbs_above (f u) us c ws k.1 in let g : n < f u = k.0 in omega arith

  climbs_ahead : (n : ℕ) (us : List A) (a : A) (vs : List A) (c : A) (ws : List A) → Climbs f n (us ++ (a ∷ (vs ++ (c ∷ ws)))) → f a < f c
  climbs_ahead n [] a vs c ws k = climbs_above (f a) vs c ws k.1
  climbs_ahead n (u ∷ us) a vs c ws k = climbs_ahead (f u) us a vs c ws k.1

  -- the first at any number, the others above it
  up_ahead : (x : A) (xs us : List A) (a : A) (vs : List A) (c : A) (ws : List A) → Climbs f (f x) xs → x ∷ xs ≡ us ++ (a ∷ (vs ++ (c ∷ ws))) → f a < f c
  up_ahead x xs [] a vs c ws k e =
      let hx : x ≡ a = cc in
      let hs : xs ≡ vs ++ (c ∷ ws) = cc in
      climbs_above (f a) vs c ws (subst (λ q. Climbs f (f a) q) hs (subst (λ y. Climbs f (f y) xs) hx k))
  up_ahead x xs (u ∷ us) a vs c ws k e =
      let hs : xs ≡ us ++ (a ∷ (vs ++ (c ∷ ws))) = cc in
      climbs_ahead (f x) us a vs c ws (subst (λ q. Climbs f (f x) q) hs k)

-- a stands in the list
record Among {A : Type 0} (a : A) (xs : List A) : Type 0 where
  ahead : List A
  behind : List A
  is : xs ≡ ahead ++ (a ∷ behind)

-- of two that stand in a list, one is ahead, or they are the same
two : {A : Type 0} (xs us : List A) (a : A) (vs ws : List A) (c : A) (zs : List A) → xs ≡ us ++ (a ∷ vs) → xs ≡ ws ++ (c ∷ zs) → Precedes a c xs ⊎ ((a ≡ c) ⊎ Precedes c a xs)
two xs [] a vs [] c zs e h = inr (inl cc)
two xs [] a vs (w ∷ ws) c zs e h =
    let hv : vs ≡ ws ++ (c ∷ zs) = cc in
    inl (record { ahead = []; between = ws; behind = zs; is = e ∙ ap (λ q. a ∷ q) hv })
two xs (u ∷ us) a vs [] c zs e h =
    let hz : zs ≡ us ++ (a ∷ vs) = cc in
    inr (inr (record { ahead = []; between = us; behind = vs; is = h ∙ ap (λ q. c ∷ q) hz }))
two xs (u ∷ us) a vs (w ∷ ws) c zs e h =
    let rest : us ++ (a ∷ vs) ≡ ws ++ (c ∷ zs) = cc in
    elim (two (us ++ (a ∷ vs)) us a vs ws c zs refl rest) [
      | inl p ↦ inl (record { ahead = u ∷ p.ahead; between = p.between; behind = p.behind; is = e ∙ ap (λ q. u ∷ q) p.is })
      | inr r ↦ elim r [
        | inl q ↦ inr (inl q)
        | inr p ↦ inr (inr (record { ahead = u ∷ p.ahead; between = p.between; behind = p.behind; is = e ∙ ap (λ q. u ∷ q) p.is }))
      ]
    ]

-- a list that climbs behind its first ranks by number as by place
module _ {A : Type 0} (f : A → ℕ) (x : A) (xs : List A) (up : Climbs f (f x) xs) where
  ahead_less : (a c : A) → Precedes a c (x ∷ xs) → f a < f c
  ahead_less a c p = up_ahead f x xs p.ahead a p.between c p.behind up p.is

  stood : (o : Ordering) (a c : A) → Stands o a c (x ∷ xs) → nat_cmp (f a) (f c) ≡ o
  stood Less a c s = sym (nat_cmp_is (f a) (f c) Less (ahead_less a c s))
  stood Equal a c s = sym (nat_cmp_is (f a) (f c) Equal (ap f s))
  stood Greater a c s = sym (nat_cmp_is (f a) (f c) Greater (ahead_less c a s))

  stands_by : (a c : A) → Among a (x ∷ xs) → Among c (x ∷ xs) → Stands (nat_cmp (f a) (f c)) a c (x ∷ xs)
  stands_by a c p q =
      elim (two (x ∷ xs) p.ahead a p.behind q.ahead c q.behind p.is q.is) [
        | inl s ↦ subst (λ o. Stands o a c (x ∷ xs)) (sym (stood Less a c s)) s
        | inr r ↦ elim r [
          | inl s ↦ subst (λ o. Stands o a c (x ∷ xs)) (sym (stood Equal a c s)) s
          | inr s ↦ subst (λ o. Stands o a c (x ∷ xs)) (sym (stood Greater a c s)) s
        ]
      ]

-- ---- the walk of a block

module _ (t : Tables) (law : Lawful t) where
  -- an instruction that names a block is inserted, and its number is in its node
  slot_rank : (b : Block) (s : Slot) → read_at block_named t.insts s.inst.0 ≡ Some b → read_at number_of t.insts s.inst.0 ≡ Some s.seq → inst_seq s.inst (program_of t) ≡ s.seq
  slot_rank b s named number =
      let r = inst_reads t s.inst law.wired in
      let inserted : inserted_inst s.inst (program_of t) ≡ true = sym r.inserted ∙ ap is_some named in
      same_Some (inst_seq s.inst (program_of t)) s.seq (sym (r.seq inserted) ∙ number)

  climbing : (b : Block) (n : ℕ) (ss : List Slot) → Held t.insts b ss → Rising n ss → Climbs (λ a. point_seq a (program_of t)) n (map inst_point (insts_in ss))
  climbing b n [] h r = tt
  climbing b n (s ∷ ss) h r =
      let is = slot_rank b s h.0 h.1 in
      (subst (λ m. n < m) (sym is) r.0, subst (λ m. Climbs (λ a. point_seq a (program_of t)) m (map inst_point (insts_in ss))) (sym is) (climbing b s.seq ss h.2 r.1))

  walk_climbs : (b : Block) → Climbs (λ a. point_seq a (program_of t)) 0 (map inst_point (block_insts b (program_of t)))
  walk_climbs b =
      elim (locate block_place block_apart (λ l. l.block) b (listed t)) [
        | inl m ↦ subst (λ ss. Climbs (λ a. point_seq a (program_of t)) 0 (map inst_point (insts_in ss))) (sym (of_block_none b (λ l. l.slots) [] (listed t) m)) tt
        | inr f ↦
            let line = (filled_right t f.ahead (f.it ∷ f.behind) (subst (λ q. AllFilled t q) f.is law.wired.sound.lines)).0 in
            let rising = (rising_at f.ahead f.it f.behind (subst (λ q. AllWellNumbered q) f.is law.numbers)).rising in
            let slots : slots_of b (program_of t) ≡ f.it.slots = ap (of_block b (λ l. l.slots) []) f.is ∙ of_block_at b (λ l. l.slots) [] f.ahead f.it f.behind f.clear f.here in
            subst (λ ss. Climbs (λ a. point_seq a (program_of t)) 0 (map inst_point (insts_in ss))) (sym slots) (climbing f.it.block 0 f.it.slots line.held rising)
      ]

  -- a point of block b stands in its walk
  in_walk : (a : ProgramPoint) (b : Block) → point_block a (program_of t) ≡ Some b → Among a (walk_of b (program_of t))
  in_walk (block_point c) b e = record { ahead = []; behind = map inst_point (block_insts b (program_of t)); is = ap (λ x. block_point x ∷ map inst_point (block_insts b (program_of t))) (sym (same_Some c b e)) }
  in_walk (inst_point i) b e =
      let named : read_at block_named t.insts i.0 ≡ Some b = (inst_reads t i law.wired).block ∙ e in
      let stands : InstIn i t = λ m. none-some b (sym (law.wired.sound.bare_insts i m).block ∙ named) in
      let a = inst_at t i law.wired stands in
      let here : a.it.block ≡ b = same_Some a.it.block b (sym a.named ∙ named) in
      let slots : slots_of b (program_of t) ≡ a.it.slots = ap (of_block b (λ l. l.slots) []) a.is ∙ of_block_at b (λ l. l.slots) [] a.ahead a.it a.behind (subst (λ x. Misses (Some x) (blocks_of a.ahead)) here (other_ahead t a.ahead a.it a.behind a.rep)) here in
      let parts : block_insts b (program_of t) ≡ insts_in a.sa ++ (i ∷ insts_in a.sb) = ap insts_in (slots ∙ a.cut) ∙ insts_cut a.sa (a.slot ∷ a.sb) ∙ ap (λ x. insts_in a.sa ++ (x ∷ insts_in a.sb)) a.here in
      record {
        ahead = block_point b ∷ map inst_point (insts_in a.sa);
        behind = map inst_point (insts_in a.sb);
        is = ap (λ ks. block_point b ∷ map inst_point ks) parts ∙ ap (λ ps. block_point b ∷ ps) (map-append inst_point (insts_in a.sa) (i ∷ insts_in a.sb));
      }

pub ranked : (t : Tables) → Sound t → (a c : ProgramPoint) (b : Block) → point_block a (program_of t) ≡ Some b → point_block c (program_of t) ≡ Some b → Ranked (program_of t) a c (nat_cmp (point_seq a (program_of t)) (point_seq c (program_of t)))
ranked t h a c b ea ec =
    let law = sound_out h in
    let p = program_of t in
    let f : ProgramPoint → ℕ = λ q. point_seq q p in
    let up : Climbs f (f (block_point b)) (map inst_point (block_insts b p)) = walk_climbs t law b in
    record {
      block = b;
      of_a = ea;
      of_c = ec;
      stands = stands_by f (block_point b) (map inst_point (block_insts b p)) up a c (in_walk t law a b ea) (in_walk t law c b ec);
      only = λ o s. sym (stood f (block_point b) (map inst_point (block_insts b p)) up o a c s);
    }

pub point_inserted : (t : Tables) → Sound t → (a : ProgramPoint) (b : Block) → point_block a (program_of t) ≡ Some b → inserted_point a (program_of t) ≡ true
point_inserted t h (block_point c) b e = refl
point_inserted t h (inst_point i) b e = let r = inst_reads t i (sound_out h).wired in sym r.inserted ∙ ap is_some (r.block ∙ e)
