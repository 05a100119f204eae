-- The tables of a layout keep all five rules. Assumes nothing.
use Rattle.std.proofs.Common.{◌≡◌, ◌<◌, ℕ, ◌⊎◌, List, [], ◌∷◌, ◌++◌, length, Some, None, Ok, Err, Result, sym, refl, ap, ◌∙◌, subst, inl, inr, arith}
use Rattle.std.proofs.lemmas.List.{map-append}
use Rattle.chain.proofs.Chained.{split_right}
use Rattle.chain.proofs.Keys.{head_within, last_within, misses_both, within_left, within_right}
use Rattle.chain.specs.Chain.{AllWithin, Chain, Misses}
use Rattle.chain.specs.Links.{Links}
use Rattle.chain.specs.Table.{Within, read_at}
use Rattle.chain.specs.declared.Ends.{Ends}
use Rattle.entities.specs.Nodes.{block_links, block_named, block_place, ends_of, first_of, inst_links, inst_place, last_of, no_block, no_inst}
use Rattle.entities.specs.Program.{Line, Slot, blocks_of, insts_in, insts_of}
use Rattle.entities.specs.declared.Block.{Block}
use Rattle.entities.specs.declared.Inst.{Inst}
use Rattle.entities.specs.declared.nodes.Tables.{Tables}
use Rattle.layout.specs.declared.Layout.{Layout}
use Rattle.layout.specs.Program.{tables}
use Rattle.listing.proofs.Found.{Located, block_apart, inst_apart, locate}
use Rattle.listing.proofs.Props.{sound_out}
use Rattle.listing.specs.Lawful.{AllFilled, AllWellNumbered, BareBlock, BareInst, Filled, Held, Lawful, Represents, WellNumbered, listed}
use Rattle.verdicts.specs.declared.AuditFault.{AuditFault}
use Rattle.verdicts.specs.declared.Verdict.{Verdict}
use Rattle.verdicts.specs.declared.Verdict.TheVariants.{Lawful as lawful}
use Rattle.audit_rules.proofs.Lists.{Every, every_all}
use Rattle.audit_rules.proofs.Nexts.{read_or}
use Rattle.audit_rules.specs.Rules.{AllRules, BlockInside, InTable, InstInside, Rises, SlotsRise}
use Rattle.audit_rules.specs.Tables.{received}
use Rattle.audit.specs.Audited.{Audited, Fits}

-- ---- the neighbours of a key that stands in a chain lie in the table

record Near {N K : Type 0} (place : K → ℕ) (links : Links N K) (t : List N) (k : K) : Type 0 where
  prev : Within place (length t) (read_at links.prev_of t (place k))
  next : Within place (length t) (read_at links.next_of t (place k))

near : {N K : Type 0} (place : K → ℕ) (links : Links N K) (t : List N) (e : Ends K) (xs : List K) (k : K) (ys : List K) → Chain place links t e (xs ++ (k ∷ ys)) → Near place links t k
near place links t e xs k ys c =
    let l = split_right (λ q. read_at links.prev_of t (place q)) (λ q. read_at links.next_of t (place q)) None xs (k ∷ ys) None c.linked in
    let right = within_right place (length t) xs (k ∷ ys) c.within in
    record {
      prev = subst (λ o. Within place (length t) o) (sym l.0) (last_within place (length t) xs (within_left place (length t) xs (k ∷ ys) c.within));
      next = subst (λ o. Within place (length t) o) (sym l.1) (head_within place (length t) ys right.1);
    }

-- ---- blocks

module _ (t : Tables) where
  filled_at : (ls : List Line) → AllFilled t ls → (xs : List Line) (l : Line) (ys : List Line) → ls ≡ xs ++ (l ∷ ys) → Filled t l
  filled_at ls a xs l ys e = at xs (subst (λ q. AllFilled t q) e a)
    where
      at : (xs : List Line) → AllFilled t (xs ++ (l ∷ ys)) → Filled t l
      at [] a = a.0
      at (z ∷ zs) a = at zs a.1

  module _ (r : Represents t (listed t)) where
    bare_inside : (b : Block) → BareBlock t.blocks b → BlockInside t.blocks t.insts b
    bare_inside b n = record {
      prev = subst (λ o. Within block_place (length t.blocks) o) (sym n.prev ∙ read_or block_links.prev_of t.blocks b.0 no_block refl) tt;
      next = subst (λ o. Within block_place (length t.blocks) o) (sym n.next ∙ read_or block_links.next_of t.blocks b.0 no_block refl) tt;
      first = subst (λ o. Within inst_place (length t.insts) o) (sym n.first ∙ read_or first_of t.blocks b.0 no_block refl) tt;
      last = subst (λ o. Within inst_place (length t.insts) o) (sym n.last ∙ read_or last_of t.blocks b.0 no_block refl) tt;
    }

    met_inside : (b : Block) → Located (λ (l : Line). l.block) b (listed t) → BlockInside t.blocks t.insts b
    met_inside b f =
        let e : blocks_of (listed t) ≡ blocks_of f.ahead ++ (b ∷ blocks_of f.behind) = ap blocks_of f.is ∙ map-append (λ (l : Line). l.block) f.ahead (f.it ∷ f.behind) ∙ ap (λ k. blocks_of f.ahead ++ (k ∷ blocks_of f.behind)) f.here in
        let n = near block_place block_links t.blocks t.ends (blocks_of f.ahead) b (blocks_of f.behind) (subst (λ ks. Chain block_place block_links t.blocks t.ends ks) e r.blocks) in
        let c : Chain inst_place inst_links t.insts (ends_of t.blocks b) (insts_in f.it.slots) = subst (λ k. Chain inst_place inst_links t.insts (ends_of t.blocks k) (insts_in f.it.slots)) f.here (filled_at (listed t) r.lines f.ahead f.it f.behind f.is).chain in
        record {
          prev = subst (λ o. Within block_place (length t.blocks) o) (read_or block_links.prev_of t.blocks b.0 no_block refl) n.prev;
          next = subst (λ o. Within block_place (length t.blocks) o) (read_or block_links.next_of t.blocks b.0 no_block refl) n.next;
          first = subst (λ o. Within inst_place (length t.insts) o) (sym c.first ∙ read_or first_of t.blocks b.0 no_block refl) (head_within inst_place (length t.insts) (insts_in f.it.slots) c.within);
          last = subst (λ o. Within inst_place (length t.insts) o) (sym c.last ∙ read_or last_of t.blocks b.0 no_block refl) (last_within inst_place (length t.insts) (insts_in f.it.slots) c.within);
        }

    block_inside : (b : Block) → BlockInside t.blocks t.insts b
    block_inside b = elim (locate block_place block_apart (λ (l : Line). l.block) b (listed t)) [ inl m ↦ bare_inside b (r.bare_blocks b m) | inr f ↦ met_inside b f ]

  -- ---- instructions

  held_at : (b : Block) (xs : List Slot) (s : Slot) (ys : List Slot) → Held t.insts b (xs ++ (s ∷ ys)) → read_at block_named t.insts s.inst.0 ≡ Some b
  held_at b [] s ys h = h.0
  held_at b (z ∷ zs) s ys h = held_at b zs s ys h.2

  met_inst : (l : Line) (i : Inst) → l.block.0 < length t.blocks → Filled t l → Located (λ (s : Slot). s.inst) i l.slots → InstInside t.blocks t.insts i
  met_inst l i h f s =
      let e : insts_in l.slots ≡ insts_in s.ahead ++ (i ∷ insts_in s.behind) = ap insts_in s.is ∙ map-append (λ (q : Slot). q.inst) s.ahead (s.it ∷ s.behind) ∙ ap (λ k. insts_in s.ahead ++ (k ∷ insts_in s.behind)) s.here in
      let n = near inst_place inst_links t.insts (ends_of t.blocks l.block) (insts_in s.ahead) i (insts_in s.behind) (subst (λ ks. Chain inst_place inst_links t.insts (ends_of t.blocks l.block) ks) e f.chain) in
      let b : read_at block_named t.insts i.0 ≡ Some l.block = ap (λ (k : Inst). read_at block_named t.insts k.0) (sym s.here) ∙ held_at l.block s.ahead s.it s.behind (subst (λ q. Held t.insts l.block q) s.is f.held) in
      record {
        block = subst (λ o. Within block_place (length t.blocks) o) (sym b ∙ read_or block_named t.insts i.0 no_inst refl) h;
        prev = subst (λ o. Within inst_place (length t.insts) o) (read_or inst_links.prev_of t.insts i.0 no_inst refl) n.prev;
        next = subst (λ o. Within inst_place (length t.insts) o) (read_or inst_links.next_of t.insts i.0 no_inst refl) n.next;
      }

  inst_in : (ls : List Line) (i : Inst) → AllFilled t ls → AllWithin block_place (length t.blocks) (blocks_of ls) → Misses (Some i) (insts_of ls) ⊎ InstInside t.blocks t.insts i
  inst_in [] i a w = inl tt
  inst_in (l ∷ ls) i a w =
      elim (locate inst_place inst_apart (λ (s : Slot). s.inst) i l.slots) [
        | inl m ↦ elim (inst_in ls i a.1 w.1) [ inl n ↦ inl (misses_both (Some i) (insts_in l.slots) (insts_of ls) m n) | inr f ↦ inr f ]
        | inr s ↦ inr (met_inst l i w.0 a.0 s)
      ]

  module _ (r : Represents t (listed t)) where
    bare_inst_inside : (i : Inst) → BareInst t.insts i → InstInside t.blocks t.insts i
    bare_inst_inside i n = record {
      block = subst (λ o. Within block_place (length t.blocks) o) (sym n.block ∙ read_or block_named t.insts i.0 no_inst refl) tt;
      prev = subst (λ o. Within inst_place (length t.insts) o) (sym n.prev ∙ read_or inst_links.prev_of t.insts i.0 no_inst refl) tt;
      next = subst (λ o. Within inst_place (length t.insts) o) (sym n.next ∙ read_or inst_links.next_of t.insts i.0 no_inst refl) tt;
    }

    inst_inside : (i : Inst) → InstInside t.blocks t.insts i
    inst_inside i = elim (inst_in (listed t) i r.lines r.blocks.within) [ inl m ↦ bare_inst_inside i (r.bare_insts i m) | inr f ↦ f ]

    in_table : InTable t
    in_table = record {
      ends = record {
        first = subst (λ o. Within block_place (length t.blocks) o) (sym r.blocks.first) (head_within block_place (length t.blocks) (blocks_of (listed t)) r.blocks.within);
        last = subst (λ o. Within block_place (length t.blocks) o) (sym r.blocks.last) (last_within block_place (length t.blocks) (blocks_of (listed t)) r.blocks.within);
      };
      blocks = block_inside r;
      insts = inst_inside;
    }

  -- ---- all five

  every_filled : (ls : List Line) → AllFilled t ls → Every (Filled t) ls
  every_filled [] a = tt
  every_filled (l ∷ ls) a = (a.0, every_filled ls a.1)

  rises : (ss : List Slot) → WellNumbered ss → SlotsRise ss
  rises [] w = tt
  rises (s ∷ ss) w = w.rising.1

  every_rises : (ls : List Line) → AllWellNumbered ls → Every Rises ls
  every_rises [] a = tt
  every_rises (l ∷ ls) a = (rises l.slots a.0, every_rises ls a.1)

  all_rules : Lawful t → AllRules t
  all_rules l =
      let r = l.wired.sound in
      record {
        in_table = in_table r;
        block_chain = r.blocks;
        inst_chains = every_all (Filled t) (listed t) (every_filled (listed t) r.lines);
        unmet_bare = record { blocks = r.bare_blocks; insts = r.bare_insts };
        rising_numbers = every_all Rises (listed t) (every_rises (listed t) l.numbers);
      }

  fits : Lawful t → Fits t
  fits l =
      let b : length t.blocks ≡ 256 = l.wired.blocks_size in
      let i : length t.insts ≡ 1024 = l.wired.insts_size in
      record { blocks = omega arith; insts = omega arith }

  passed : Lawful t → (r : Result Verdict AuditFault) → Audited t r → r ≡ Ok lawful
  passed l (Ok v) a = ap Ok (sym (a.1.only lawful (all_rules l)))
  passed l (Err f) a = absurd (a.0 (fits l))

-- an audit passes the tables of a layout
pub passes : (l : Layout) {r : Result Verdict AuditFault} → Audited (received (tables l).blocks (tables l).insts (tables l).ends) r → r ≡ Ok lawful
passes l {r} a = passed (tables l) (sound_out l.listing.sound) r a
