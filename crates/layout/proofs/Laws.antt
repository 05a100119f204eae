-- What each edit of a listing does to the walk, in the form that a search can use: the listing l becomes m. Assumes nothing.
use Rattle.std.proofs.Common.{◌≡◌, true, List, [], ◌∷◌, ◌++◌, map, Some, sym, ap, ◌∙◌, subst}
use Rattle.entities.specs.Laws.{CutInTwo, PutAhead, PutBehind, PutLast, TakenOut, walk}
use Rattle.entities.specs.Numbering.{appended_inst, inserted_before}
use Rattle.entities.specs.Program.{Line, Program, append_block, insert_block, insert_block_after, insts_in, remove_block, remove_inst, split_block, with_lines}
use Rattle.entities.specs.Reading.{BlockFree, InstFree, inserted_block, inst_block, slots_of, walk_of}
use Rattle.entities.specs.declared.Block.{Block}
use Rattle.entities.specs.declared.Inst.{Inst}
use Rattle.entities.specs.declared.progpoint.ProgramPoint.TheVariants.{Inst as inst_point, Block as block_point}
use Rattle.listing.proofs.BlockEdits.{At, block_at}
use Rattle.listing.proofs.InstEdits.{InstAt}
use Rattle.listing.proofs.Landed.{block_missing, block_stands, inst_missing}
use Rattle.listing.proofs.Laws.{block_ahead_back, block_behind_back, block_last_back, block_put_ahead, block_put_behind, block_put_last, block_taken, cut_put_ahead, cut_slots, inst_ahead_back, inst_last_back, inst_put_ahead, inst_put_last, inst_taken, slots_numbered}
use Rattle.listing.proofs.Props.{sound_out}
use Rattle.listing.proofs.Standing.{stands_in}
use Rattle.listing.specs.Held.{program}
use Rattle.listing.specs.Lawful.{Fitting, Rising}
use Rattle.listing.specs.declared.Listing.{Listing}

abbrev lines : Listing → List Line
lines l = (program l).lines

-- where an inserted block stands, and where an inserted instruction
block_in : (l : Listing) (b : Block) → inserted_block b (program l) ≡ true → At l.tables b
block_in l b stands = block_at l.tables b (sound_out l.sound).wired (block_stands l.tables b stands)

inst_in : (l : Listing) (i : Inst) (b : Block) → inst_block i (program l) ≡ Some b → InstAt l.tables i
inst_in l i b stands = (stands_in l.tables i b (sound_out l.sound).wired stands).at

module _ (l m : Listing) (k : Block) (free : BlockFree k (program l)) where
  module _ (made : program m ≡ with_lines (program l) (append_block k (lines l))) where
    pub block_last : PutLast (block_point k) (program l) (program m)
    block_last = subst (λ p. PutLast (block_point k) (program l) p) (sym made) (block_put_last l.tables k)

    pub block_last_undone : remove_block k (lines m) ≡ lines l
    block_last_undone = ap (λ (p : Program). remove_block k p.lines) made ∙ block_last_back l.tables k (block_missing l.tables k free.1)

  module _ (b : Block) (stands : inserted_block b (program l) ≡ true) where
    module _ (made : program m ≡ with_lines (program l) (insert_block k b (lines l))) where
      pub block_ahead : PutAhead (block_point k) (block_point b) (program l) (program m)
      block_ahead = subst (λ p. PutAhead (block_point k) (block_point b) (program l) p) (sym made) (block_put_ahead l.tables b (block_in l b stands) k)

      pub block_ahead_undone : remove_block k (lines m) ≡ lines l
      block_ahead_undone = ap (λ (p : Program). remove_block k p.lines) made ∙ block_ahead_back l.tables b (block_in l b stands) k (block_missing l.tables k free.1)

    module _ (made : program m ≡ with_lines (program l) (insert_block_after k b (lines l))) where
      pub block_behind : PutBehind (block_point k) b (program l) (program m)
      block_behind = subst (λ p. PutBehind (block_point k) b (program l) p) (sym made) (block_put_behind l.tables b (block_in l b stands) k)

      pub block_behind_undone : remove_block k (lines m) ≡ lines l
      block_behind_undone = ap (λ (p : Program). remove_block k p.lines) made ∙ block_behind_back l.tables b (block_in l b stands) k (block_missing l.tables k free.1)

module _ (l m : Listing) (i : Inst) (free : InstFree i (program l)) (b : Block) where
  module _ (stands : inserted_block b (program l) ≡ true) (made : program m ≡ appended_inst i b (program l)) where
    pub inst_last : PutBehind (inst_point i) b (program l) (program m)
    inst_last = subst (λ p. PutBehind (inst_point i) b (program l) p) (sym made) (inst_put_last l.tables b (block_in l b stands) i)

    pub inst_last_undone : walk (remove_inst i (lines m)) ≡ walk (lines l)
    inst_last_undone = ap (λ (p : Program). walk (remove_inst i p.lines)) made ∙ inst_last_back l.tables b (block_in l b stands) i (inst_missing l.tables i free.1)

  module _ (before : Inst) (stands : inst_block before (program l) ≡ Some b) (made : program m ≡ inserted_before i before (program l)) where
    pub inst_ahead : PutAhead (inst_point i) (inst_point before) (program l) (program m)
    inst_ahead = subst (λ p. PutAhead (inst_point i) (inst_point before) (program l) p) (sym made) (inst_put_ahead l.tables before (inst_in l before b stands) i)

    pub inst_ahead_undone : walk (remove_inst i (lines m)) ≡ walk (lines l)
    inst_ahead_undone = ap (λ (p : Program). walk (remove_inst i p.lines)) made ∙ inst_ahead_back l.tables before (inst_in l before b stands) i (inst_missing l.tables i free.1)

module _ (l m : Listing) (b : Block) (stands : inserted_block b (program l) ≡ true) (made : program m ≡ with_lines (program l) (remove_block b (lines l))) where
  pub block_out : TakenOut (walk_of b (program l)) (program l) (program m)
  block_out = subst (λ p. TakenOut (walk_of b (program l)) (program l) p) (sym made) (block_taken l.tables b (block_in l b stands))

  pub empty_block_out : slots_of b (program l) ≡ [] → TakenOut (block_point b ∷ []) (program l) (program m)
  empty_block_out none = subst (λ ss. TakenOut (block_point b ∷ map inst_point (insts_in ss)) (program l) (program m)) none block_out

module _ (l m : Listing) (i : Inst) (b : Block) (stands : inst_block i (program l) ≡ Some b) where
  pub inst_out : program m ≡ with_lines (program l) (remove_inst i (lines l)) → TakenOut (inst_point i ∷ []) (program l) (program m)
  inst_out made = subst (λ p. TakenOut (inst_point i ∷ []) (program l) p) (sym made) (inst_taken l.tables i (inst_in l i b stands))

  module _ (k : Block) (free : BlockFree k (program l)) (made : program m ≡ with_lines (program l) (split_block k i (lines l))) where
    pub split_ahead : PutAhead (block_point k) (inst_point i) (program l) (program m)
    split_ahead = subst (λ p. PutAhead (block_point k) (inst_point i) (program l) p) (sym made) (cut_put_ahead l.tables i (inst_in l i b stands) k)

    pub split_in_two : CutInTwo i k (program l) (program m)
    split_in_two old e =
        let s = stands_in l.tables i old (sound_out l.sound).wired e in
        subst (λ (p : Program). slots_of old p ++ slots_of k p ≡ slots_of old (program l)) (sym made)
        (subst (λ (x : Block). slots_of x (cut k) ++ slots_of k (cut k) ≡ slots_of x (program l)) s.block (cut_slots l.tables i s.at k (block_missing l.tables k free.1)))
      where
        cut : Block → Program
        cut k = with_lines (program l) (split_block k i (lines l))

module _ (l : Listing) (b : Block) where
  pub numbers_rise : Rising 0 (slots_of b (program l))
  numbers_rise = (slots_numbered l.tables b l.sound).rising

  pub numbers_fit : Fitting (slots_of b (program l))
  numbers_fit = (slots_numbered l.tables b l.sound).fit

pub ruleset append_block_laws = (block_last, block_last_undone)

pub ruleset insert_block_laws = (block_ahead, block_ahead_undone)

pub ruleset insert_block_after_laws = (block_behind, block_behind_undone)

pub ruleset split_block_laws = (split_ahead, split_in_two)

pub ruleset append_inst_laws = (inst_last, inst_last_undone)

pub ruleset insert_inst_laws = (inst_ahead, inst_ahead_undone)

pub ruleset block_insts_laws = (numbers_rise, numbers_fit)
