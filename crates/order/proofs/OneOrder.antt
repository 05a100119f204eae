-- Walk and numbers of every layout stand in one order. Assumes nothing.
use Rattle.std.proofs.Common.{◌≡◌, true, ◌∷◌, ◌++◌, get_or, reverse, Some, Option, sym, refl, ap, ◌∙◌, subst, Ordering, nat_cmp}
use Rattle.std.proofs.lemmas.Option.{same_Some}
use Rattle.std.specs.List.{AllByRecursion}
use Rattle.chain.proofs.Keys.{misses_both}
use Rattle.chain.proofs.Walks.{chain_walked}
use Rattle.chain.specs.Chain.{Gives}
use Rattle.chain.specs.Table.{read_at}
use Rattle.entities.specs.Nodes.{block_links, no_block}
use Rattle.entities.specs.Program.{Program, blocks_of, insts_in, insts_of}
use Rattle.entities.specs.Reading.{Stands, block_insts, inserted_block, last_block, point_seq, prev_block, shown_seq, walk_of}
use Rattle.entities.specs.declared.Block.{Block}
use Rattle.entities.specs.declared.nodes.Tables.{Tables}
use Rattle.entities.specs.declared.progpoint.ProgramPoint.{ProgramPoint}
use Rattle.faults.specs.Refusals.{accepted}
use Rattle.faults.specs.Rules.{pp_cmp_rule}
use Rattle.layout.specs.Program.{program}
use Rattle.layout.specs.declared.Layout.{Layout}
use Rattle.listing.proofs.InstEdits.{insts_cut}
use Rattle.listing.proofs.Props.{sound_out}
use Rattle.listing.proofs.Questions.{of_block_node, read_any}
use Rattle.listing.proofs.Ranks.{ranked}
use Rattle.listing.proofs.Standing.{stands_in}
use Rattle.listing.specs.Lawful.{Wired}
use Rattle.order.proofs.Asking.{each, gives_first, gives_last, leads}
use Rattle.order.proofs.Lines.{numbers_shown, own_held, own_insts}
use Rattle.order.proofs.Points.{all_yes, insts_named, of_walk}
use Rattle.order.specs.Order.{GivesAll, Mirror, Names, OneOf, OneOrder, Ranks, WalkIsTheList}
use Rattle.walks.specs.Walks.{GivesFirst, GivesLast}

-- ---- the four parts, of a layout: its tables are sound

module _ (l : Layout) where
  abbrev t : Tables
  t = l.listing.tables

  abbrev p : Program
  p = program l

  law : Wired t
  law = (sound_out l.listing.sound).wired

  walked : WalkIsTheList l p
  walked = record {
    blocks = gives_first (blocks_of p.lines) (blocks_of p.lines) refl;
    once = law.sound.blocks.distinct;
    inserted = λ b. refl;
    insts = each (λ line. GivesAll GivesFirst (block_insts line.block p) (insts_in line.slots)) p.lines (λ xs line ys is. gives_first (block_insts line.block p) (insts_in line.slots) (own_insts t law xs line ys is));
    numbers = each (λ line. AllByRecursion (λ s. shown_seq s.inst p ≡ Some s.seq) line.slots) p.lines (λ xs line ys is. numbers_shown t law line.block line.slots (own_held t law xs line ys is));
    marks = refl;
  }

  names : Names l p
  names = record {
    named_stands = λ i b e.
        let s = stands_in t i b law e in
        let a = s.at in
        record {
          lines_ahead = a.ahead;
          line = a.it;
          lines_behind = a.behind;
          insts_ahead = insts_in a.sa;
          insts_behind = insts_in a.sb;
          list = a.is;
          block = s.block;
          insts = ap insts_in a.cut ∙ insts_cut a.sa (a.slot ∷ a.sb) ∙ ap (λ x. insts_in a.sa ++ (x ∷ insts_in a.sb)) a.here;
          once = misses_both (Some i) (insts_of a.ahead) (insts_in a.sa ++ (insts_in a.sb ++ insts_of a.behind)) a.not_ahead (misses_both (Some i) (insts_in a.sa) (insts_in a.sb ++ insts_of a.behind) a.not_sa (misses_both (Some i) (insts_in a.sb) (insts_of a.behind) a.not_sb a.not_behind));
        };
    standing_named = λ i b m. insts_named t l.listing.sound b i m;
  }

  mirror : Mirror l p
  mirror =
      let back : (b : Block) → read_at block_links.prev_of t.blocks b.0 ≡ prev_block b p = λ b. sym (read_any block_links.prev_of no_block refl t.blocks b.0) ∙ (of_block_node t b (get_or t.blocks b.0 no_block) l.listing.sound refl).prev in
      let link : Block → Option Block = λ b. read_at block_links.prev_of t.blocks b.0 in
      record {
        blocks = leads link (λ b. prev_block b p) back (last_block p) (reverse (blocks_of p.lines)) (subst (λ o. Gives link o (reverse (blocks_of p.lines))) law.sound.blocks.last (chain_walked law.sound.blocks).backward);
        insts = each (λ line. GivesAll GivesLast (block_insts line.block p) (reverse (insts_in line.slots))) p.lines (λ xs line ys is. gives_last (block_insts line.block p) (insts_in line.slots) (own_insts t law xs line ys is));
      }

  -- x and y of the walk of block b rank by their numbers as they stand in it
  module _ (b : Block) (on : inserted_block b p ≡ true) (x y : ProgramPoint) (mx : OneOf x (walk_of b p)) (my : OneOf y (walk_of b p)) where
    abbrev by_number : Ordering
    by_number = nat_cmp (point_seq x p) (point_seq y p)

    told : pp_cmp_rule x y p ≡ accepted by_number
    told = all_yes t l.listing.sound b on x y (of_walk t l.listing.sound b x mx) (of_walk t l.listing.sound b y my)

    by_place : Stands by_number x y (walk_of b p) × ((o : Ordering) → Stands o x y (walk_of b p) → o ≡ by_number)
    by_place =
        let ex = of_walk t l.listing.sound b x mx in
        let r = ranked t l.listing.sound x y b ex (of_walk t l.listing.sound b y my) in
        subst (λ c. Stands by_number x y (walk_of c p) × ((o : Ordering) → Stands o x y (walk_of c p) → o ≡ by_number)) (same_Some r.block b (sym r.of_a ∙ ex)) (r.stands, r.only)

    told_stands : (o : Ordering) → pp_cmp_rule x y p ≡ accepted o → Stands o x y (walk_of b p)
    told_stands o e =
        let both : accepted by_number ≡ accepted o = sym told ∙ e in
        let is : by_number ≡ o = cc in
        subst (λ q. Stands q x y (walk_of b p)) is by_place.0

    stands_told : (o : Ordering) → Stands o x y (walk_of b p) → pp_cmp_rule x y p ≡ accepted o
    stands_told o s = told ∙ ap accepted (sym (by_place.1 o s))

  ranks : Ranks l p
  ranks = record {
    accepts = λ b x y on mx my. (by_number b on x y mx my, told b on x y mx my);
    says = λ b x y o on mx my e. told_stands b on x y mx my o e;
    stands = λ b x y o on mx my s. stands_told b on x y mx my o s;
  }

-- of every layout
pub in_order : (l : Layout) → OneOrder l (program l)
in_order l = record { walk = walked l; names = names l; mirror = mirror l; ranks = ranks l }

-- the same of the program p that it holds, however that is written
pub in_order_of : (l : Layout) (p : Program) → program l ≡ p → OneOrder l p
in_order_of l p e = subst (λ q. OneOrder l q) e (in_order l)
