-- What the first word of a line names. Assumes nothing.
use Rattle.std.proofs.Common.{◌≡◌, ◌≢◌, ◌↔◌, ℕ, ◌<◌, ◌^◌, List, [], ◌∷◌, ◌≤◌, length, get_or, Bool, true, false, Bor, Option, Some, None, codes, refl, ap, subst, arith}
use Rattle.entities.specs.declared.Block.{Block}
use Rattle.entities.specs.declared.Inst.{Inst}
use Rattle.entities.specs.declared.nodes.BlockNode.{BlockNode}
use Rattle.entities.specs.declared.nodes.InstNode.{InstNode}
use Rattle.faults.specs.declared.Entity.{Entity}
use Rattle.faults.specs.declared.Entity.TheVariants.{Block as the_block, Inst as the_inst}
use Rattle.faults.specs.Text.{entity_text}
use Rattle.dump.specs.declared.lines.Line.{Line}
use Rattle.dump.specs.declared.lines.Line.TheVariants as line
use Rattle.words.specs.Words.{texts}
use Rattle.words.specs.Entities.{FitsEntity, block_text, inst_text}
use Rattle.dump.specs.Lines.{Says, block_words, inst_words, mark_words, FitsBlockNode, FitsInstNode}

-- o is what the word names
abbrev pub IsNamed : List ℕ → Option Entity → Type 0
IsNamed w o = (e : Entity) → o ≡ Some e ↔ (w ≡ entity_text e) × FitsEntity e

-- ---- a block, or an instruction

module _ (w : List ℕ) (b : Block) where
  pub nothing_no_block : IsNamed w None → ◌≡◌ {A = Option Block} None (Some b) ↔ (w ≡ entity_text (the_block b)) × (b.0 < 2 ^ 32)
  nothing_no_block named = (λ e. cc, λ is. let found = (named (the_block b)).1 is in cc)

  pub inst_no_block : (i : Inst) → IsNamed w (Some (the_inst i)) → ◌≡◌ {A = Option Block} None (Some b) ↔ (w ≡ entity_text (the_block b)) × (b.0 < 2 ^ 32)
  inst_no_block i named = (λ e. cc, λ is. let found = (named (the_block b)).1 is in cc)

  pub this_block : (c : Block) → IsNamed w (Some (the_block c)) → Some c ≡ Some b ↔ (w ≡ entity_text (the_block b)) × (b.0 < 2 ^ 32)
  this_block c named = (
    λ e. let same : c ≡ b = cc in subst (λ (d : Block). (w ≡ entity_text (the_block d)) × (d.0 < 2 ^ 32)) same ((named (the_block c)).0 refl),
    λ is. let found = (named (the_block b)).1 is in cc,
  )

module _ (w : List ℕ) (i : Inst) where
  pub nothing_no_inst : IsNamed w None → ◌≡◌ {A = Option Inst} None (Some i) ↔ (w ≡ entity_text (the_inst i)) × (i.0 < 2 ^ 32)
  nothing_no_inst named = (λ e. cc, λ is. let found = (named (the_inst i)).1 is in cc)

  pub block_no_inst : (b : Block) → IsNamed w (Some (the_block b)) → ◌≡◌ {A = Option Inst} None (Some i) ↔ (w ≡ entity_text (the_inst i)) × (i.0 < 2 ^ 32)
  block_no_inst b named = (λ e. cc, λ is. let found = (named (the_inst i)).1 is in cc)

  pub this_inst : (j : Inst) → IsNamed w (Some (the_inst j)) → Some j ≡ Some i ↔ (w ≡ entity_text (the_inst i)) × (i.0 < 2 ^ 32)
  this_inst j named = (
    λ e. let same : j ≡ i = cc in subst (λ (k : Inst). (w ≡ entity_text (the_inst k)) × (k.0 < 2 ^ 32)) same ((named (the_inst j)).0 refl),
    λ is. let found = (named (the_inst i)).1 is in cc,
  )

-- ---- the line that begins with it

head_same : (v w : List ℕ) (vs ws : List (List ℕ)) → v ∷ vs ≡ w ∷ ws → v ≡ w
head_same v w vs ws e = cc

tail_same : (v w : List ℕ) (vs ws : List (List ℕ)) → v ∷ vs ≡ w ∷ ws → vs ≡ ws
tail_same v w vs ws e = cc

module _ (w : List ℕ) (rest : List (List ℕ)) (other : w ≢ codes "ends") where
  pub no_line : IsNamed w None → (l : Line) → ◌≡◌ {A = Option Line} None (Some l) ↔ Says (w ∷ rest) l
  no_line named (line.Ends e) = (λ r. cc, λ s. absurd (other (head_same _ _ _ _ s.written)))
  no_line named (line.Block b n) = (λ r. cc, λ s. let found = (named (the_block b)).1 (head_same _ _ _ _ s.written, s.fits.0) in cc)
  no_line named (line.Inst i n) = (λ r. cc, λ s. let found = (named (the_inst i)).1 (head_same _ _ _ _ s.written, s.fits.0) in cc)

  found_inside : (k l : Line) → Some k ≡ Some l → k ≡ l
  found_inside k l e = cc

  module _ (c : Block) (named : IsNamed w (Some (the_block c))) where
    pub no_block_line : ((n : BlockNode) → ◌≡◌ {A = Option BlockNode} None (Some n) ↔ (rest ≡ block_words n) × FitsBlockNode n) → (l : Line) → ◌≡◌ {A = Option Line} None (Some l) ↔ Says (w ∷ rest) l
    no_block_line read (line.Ends e) = (λ r. cc, λ s. absurd (other (head_same _ _ _ _ s.written)))
    no_block_line read (line.Block b n) = (λ r. cc, λ s. let found = (read n).1 (tail_same _ _ _ _ s.written, s.fits.1) in cc)
    no_block_line read (line.Inst i n) = (λ r. cc, λ s. let found = (named (the_inst i)).1 (head_same _ _ _ _ s.written, s.fits.0) in cc)

    module _ (m : BlockNode) (read : (n : BlockNode) → Some m ≡ Some n ↔ (rest ≡ block_words n) × FitsBlockNode n) where
      says_block : Says (w ∷ rest) (line.Block c m)
      says_block = let (name, fits) = (named (the_block c)).0 refl in let (words, fit) = (read m).0 refl in record { written = cc; fits = (fits, fit) }

      pub block_line : (l : Line) → Some (line.Block c m) ≡ Some l ↔ Says (w ∷ rest) l
      block_line l = (λ r. subst (Says (w ∷ rest)) (found_inside _ l r) says_block, back l) where
        back : (l : Line) → Says (w ∷ rest) l → Some (line.Block c m) ≡ Some l
        back (line.Ends e) s = absurd (other (head_same _ _ _ _ s.written))
        back (line.Block b n) s = let name = (named (the_block b)).1 (head_same _ _ _ _ s.written, s.fits.0) in let found = (read n).1 (tail_same _ _ _ _ s.written, s.fits.1) in cc
        back (line.Inst i n) s = let name = (named (the_inst i)).1 (head_same _ _ _ _ s.written, s.fits.0) in cc

  module _ (j : Inst) (named : IsNamed w (Some (the_inst j))) where
    pub no_inst_line : ((n : InstNode) → ◌≡◌ {A = Option InstNode} None (Some n) ↔ (rest ≡ inst_words n) × FitsInstNode n) → (l : Line) → ◌≡◌ {A = Option Line} None (Some l) ↔ Says (w ∷ rest) l
    no_inst_line read (line.Ends e) = (λ r. cc, λ s. absurd (other (head_same _ _ _ _ s.written)))
    no_inst_line read (line.Block b n) = (λ r. cc, λ s. let found = (named (the_block b)).1 (head_same _ _ _ _ s.written, s.fits.0) in cc)
    no_inst_line read (line.Inst i n) = (λ r. cc, λ s. let found = (read n).1 (tail_same _ _ _ _ s.written, s.fits.1) in cc)

    module _ (m : InstNode) (read : (n : InstNode) → Some m ≡ Some n ↔ (rest ≡ inst_words n) × FitsInstNode n) where
      says_inst : Says (w ∷ rest) (line.Inst j m)
      says_inst = let (name, fits) = (named (the_inst j)).0 refl in let (words, fit) = (read m).0 refl in record { written = cc; fits = (fits, fit) }

      pub inst_line : (l : Line) → Some (line.Inst j m) ≡ Some l ↔ Says (w ∷ rest) l
      inst_line l = (λ r. subst (Says (w ∷ rest)) (found_inside _ l r) says_inst, back l) where
        back : (l : Line) → Says (w ∷ rest) l → Some (line.Inst j m) ≡ Some l
        back (line.Ends e) s = absurd (other (head_same _ _ _ _ s.written))
        back (line.Block b n) s = let name = (named (the_block b)).1 (head_same _ _ _ _ s.written, s.fits.0) in cc
        back (line.Inst i n) s = let name = (named (the_inst i)).1 (head_same _ _ _ _ s.written, s.fits.0) in let found = (read n).1 (tail_same _ _ _ _ s.written, s.fits.1) in cc

-- ---- a block's five words

pub five_texts : (ws : List (Bor (List ℕ))) (d : Bor (List ℕ)) (v : List ℕ) → 5 ≤ length ws → length ws < 6 → (get_or ws 4 d).now ≡ v → texts ws ≡ (get_or ws 0 d).now ∷ (get_or ws 1 d).now ∷ (get_or ws 2 d).now ∷ (get_or ws 3 d).now ∷ v ∷ []
five_texts [] d v most least last = absurd (omega arith)
five_texts (p ∷ []) d v most least last = absurd (omega arith)
five_texts (p ∷ q ∷ []) d v most least last = absurd (omega arith)
five_texts (p ∷ q ∷ r ∷ []) d v most least last = absurd (omega arith)
five_texts (p ∷ q ∷ r ∷ s ∷ []) d v most least last = absurd (omega arith)
five_texts (p ∷ q ∷ r ∷ s ∷ t ∷ []) d v most least last = ap (λ (u : List ℕ). p.now ∷ q.now ∷ r.now ∷ s.now ∷ u ∷ []) last
five_texts (p ∷ q ∷ r ∷ s ∷ t ∷ u ∷ more) d v most least last = absurd (omega arith)

is_marked : (b : Bool) → codes "cold" ∷ [] ≡ mark_words b → true ≡ b
is_marked true e = refl
is_marked false e = cc

pub cold_words : (p q r s : List ℕ) (n : BlockNode) (o : Option BlockNode)
    → o ≡ Some n ↔ (p ≡ block_text n.prev) × (q ≡ block_text n.next) × (r ≡ inst_text n.first_inst) × (s ≡ inst_text n.last_inst) × (true ≡ n.cold) × FitsBlockNode n
    → o ≡ Some n ↔ (p ∷ q ∷ r ∷ s ∷ codes "cold" ∷ [] ≡ block_words n) × FitsBlockNode n
cold_words p q r s n o read = (
  λ e. let (a, b, c, d, cold, fits) = read.0 e in (rw (a, b, c, d, ← cold) refl, fits),
  λ (e, fits). read.1 (cc, cc, cc, cc, is_marked n.cold cc, fits),
)
