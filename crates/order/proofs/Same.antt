-- Two layouts have one walk exactly where they have the same blocks, each with the same instructions, and then they rank alike.
-- Assumes nothing.
use Rattle.std.proofs.Common.{◌≡◌, suc, List, [], ◌∷◌, ◌++◌, map, sym, refl, ap, ◌∙◌, arith}
use Rattle.std.specs.List.{All, flat_map}
use lib.Seq.{append_snoc}
use Rattle.entities.specs.Laws.{walk}
use Rattle.entities.specs.Program.{Line, Program, blocks_of}
use Rattle.entities.specs.Reading.{block_insts, walk_of}
use Rattle.entities.specs.declared.Block.{Block}
use Rattle.entities.specs.declared.nodes.Tables.{Tables}
use Rattle.entities.specs.declared.progpoint.ProgramPoint.{ProgramPoint}
use Rattle.entities.specs.declared.progpoint.ProgramPoint.TheVariants.{Inst as inst_point, Block as block_point}
use Rattle.faults.specs.Rules.{pp_cmp_rule}
use Rattle.layout.specs.Program.{program}
use Rattle.layout.specs.declared.Layout.{Layout}
use Rattle.listing.proofs.Props.{sound_out}
use Rattle.listing.specs.Lawful.{Wired, listed, program_of}
use Rattle.order.proofs.Alike.{rank_alike}
use Rattle.order.proofs.Bare.{same_block_insts, same_blocks}
use Rattle.order.proofs.Lines.{own_insts}
use Rattle.order.proofs.Comparing.{blocks_ended}

-- the walks of these blocks, one behind the other
abbrev walks_of : Program → List Block → List ProgramPoint
walks_of p bs = flat_map (λ b. walk_of b p) bs

-- the walk goes by the blocks alone, and what each is asked for
by_blocks : (t : Tables) → Wired t → (ahead ls : List Line) → listed t ≡ ahead ++ ls → walk ls ≡ walks_of (program_of t) (blocks_of ls)
by_blocks t law ahead [] e = refl
by_blocks t law ahead (l ∷ ls) e =
    ap (λ is. (block_point l.block ∷ map inst_point is) ++ walk ls) (sym (own_insts t law ahead l ls e))
    ∙ ap (λ r. walk_of l.block (program_of t) ++ r) (by_blocks t law (ahead ++ (l ∷ [])) ls (e ∙ sym (append_snoc ahead l ls)))

same_walks : (p q : Program) (bs : List Block) → All (λ b. block_insts b p ≡ block_insts b q) bs → walks_of p bs ≡ walks_of q bs
same_walks p q [] f = refl
same_walks p q (b ∷ bs) f =
    ap (λ is. (block_point b ∷ map inst_point is) ++ walks_of p bs) (f 0 b (omega arith))
    ∙ ap (λ r. walk_of b q ++ r) (same_walks p q bs (λ k d h. f (suc k) d (omega arith)))

-- of a whole layout
pub walk_by_blocks : (l : Layout) → walk (program l).lines ≡ flat_map (λ b. walk_of b (program l)) (blocks_of (program l).lines)
walk_by_blocks l = by_blocks l.listing.tables (sound_out l.listing.sound).wired [] (program l).lines refl

module _ (a b : Layout) where
  pub walk_from_blocks : blocks_of (program a).lines ≡ blocks_of (program b).lines → All (λ block. block_insts block (program a) ≡ block_insts block (program b)) (blocks_of (program a).lines) → walk (program a).lines ≡ walk (program b).lines
  walk_from_blocks e f =
      walk_by_blocks a
      ∙ same_walks (program a) (program b) (blocks_of (program a).lines) f
      ∙ ap (walks_of (program b)) e
      ∙ sym (walk_by_blocks b)

  pub blocks_from_walk : walk (program a).lines ≡ walk (program b).lines → blocks_of (program a).lines ≡ blocks_of (program b).lines
  blocks_from_walk e = same_blocks (program a) (program b) e

  pub insts_from_walk : (block : Block) → walk (program a).lines ≡ walk (program b).lines → block_insts block (program a) ≡ block_insts block (program b)
  insts_from_walk block e = same_block_insts (program a) (program b) e block

  pub rank_by_walk : (x y : ProgramPoint) → walk (program a).lines ≡ walk (program b).lines → pp_cmp_rule x y (program a) ≡ pp_cmp_rule x y (program b)
  rank_by_walk x y e = rank_alike a.listing.tables b.listing.tables a.listing.sound b.listing.sound e x y

pub ruleset same_programs = (blocks_ended, walk_from_blocks, blocks_from_walk, insts_from_walk, rank_by_walk)
