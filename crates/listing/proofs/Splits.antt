-- A line's tail moved into the empty line behind it. Assumes nothing.
use Rattle.std.proofs.Common.{◌≡◌, ◌<◌, true, List, [], ◌∷◌, ◌++◌, length, Some, None, Option, sym, refl, ap, ◌∙◌, subst, inr, append-nil, arith}
use Rattle.std.proofs.lemmas.Option.{none-some}
use Rattle.std.proofs.lemmas.List.{map-append}
use Rattle.chain.proofs.Edits.{cuts, length-alter}
use Rattle.chain.proofs.Keys.{disjoint_nil, distinct_across, distinct_right, last_not, misses_left, misses_right, within_right}
use Rattle.chain.proofs.Members.{cut_away, cut_keeps, length_cut, map-alter}
use Rattle.chain.proofs.Walks.{chain_keys}
use Rattle.chain.specs.Chain.{AllWithin, Chain, Cuts, Disjoint, Distinct, Misses, head_or, keys_from, last_or}
use Rattle.chain.specs.Table.{Within, alter, cut_table, if_none, read_at}
use Rattle.chain.specs.declared.Ends.{Ends}
use Rattle.entities.specs.Lists.{ahead_of, from_on}
use Rattle.entities.specs.Nodes.{block_named, block_place, ends_of, inst_links, inst_place, number_of}
use Rattle.entities.specs.Program.{Line, Program, Slot, blocks_of, empty_line, insert_block_after, insts_in, insts_of, is_inst, split_block, with_slots}
use Rattle.entities.specs.Reading.{inserted_block, inst_block}
use Rattle.entities.specs.declared.Block.{Block}
use Rattle.entities.specs.declared.Inst.{Inst}
use Rattle.entities.specs.declared.nodes.BlockNode.{BlockNode}
use Rattle.entities.specs.declared.nodes.InstNode.{InstNode}
use Rattle.entities.specs.declared.nodes.Tables.{Tables}
use Rattle.listing.proofs.BlockEdits.{finish, here_within, prev_is, prev_within}
use Rattle.listing.proofs.Found.{block_apart, block_instead, inst_apart}
use Rattle.listing.proofs.Frames.{SameBlocks, SameInst, filled_left, filled_right, lines_apart, lines_edited}
use Rattle.listing.proofs.InstEdits.{ends_here, ends_set, held_left, held_right, insts_cut, other_ahead, other_behind}
use Rattle.listing.proofs.Naming.{length_named, named_away, named_chain, named_held}
use Rattle.listing.proofs.Props.{sound_out}
use Rattle.listing.proofs.Rises.{becomes, split_block_rises}
use Rattle.listing.proofs.Standing.{its_line_instead, slots_ahead, slots_from, stands_in}
use Rattle.listing.proofs.Stretches.{holds_in}
use Rattle.listing.specs.Edits.{Becomes, Edited, cut_off, ends_ahead, named, with_blocks, with_inst_ends, with_insts}
use Rattle.listing.specs.Lawful.{Filled, Held, Represents, Sound, Wired, listed, program_of}
use Rattle.listing.specs.Numbers.{SomeRun}

both_set : (t u w : List BlockNode) (a b : Block) → SameBlocks t u (a ∷ []) → SameBlocks u w (b ∷ []) → SameBlocks t w (a ∷ b ∷ [])
both_set t u w a b f g = record {
  size = g.size ∙ f.size;
  prev = λ x. g.prev x ∙ f.prev x;
  next = λ x. g.next x ∙ f.next x;
  ends = λ x m. g.ends x (m.1.0, tt) ∙ f.ends x (m.0, tt);
}

-- ends of what stays ahead
ahead_ends : (e : Ends Inst) (xs : List Inst) (k : Inst) (ys : List Inst) → e.first ≡ head_or (xs ++ (k ∷ ys)) None → ends_ahead e (last_or None xs) ≡ record { first = head_or xs None; last = last_or None xs }
ahead_ends e [] k ys h = refl
ahead_ends e (x ∷ xs) k ys h = ap (λ o. record { first = o; last = last_or (Some x) xs }) (some_last x xs e.first ∙ h)
  where
    some_last : (x : Inst) (xs : List Inst) (o : Option Inst) → if_none (last_or (Some x) xs) None o ≡ o
    some_last x [] o = refl
    some_last x (y ∷ ys) o = some_last y ys o

trimmed : (us : List Block) (a b : Block) (zs : List Block) → Disjoint us (a ∷ b ∷ zs) → Disjoint us (a ∷ b ∷ [])
trimmed [] a b zs d = tt
trimmed (u ∷ us) a b zs d = ((d.0.0, (d.0.1.0, tt)), trimmed us a b zs d.1)

apart_both : (us : List Block) (a b : Block) → Misses (Some a) us → Misses (Some b) us → Disjoint us (a ∷ b ∷ [])
apart_both [] a b x y = tt
apart_both (u ∷ us) a b x y = ((λ e. x.0 (sym e), (λ e. y.0 (sym e), tt)), apart_both us a b x.1 y.1)

-- names and numbers that are the same away from ks
held_far : (t u : List InstNode) (b : Block) (ks : List Inst) → ((i : Inst) → Misses (Some i) ks → read_at block_named u i.0 ≡ read_at block_named t i.0) → ((i : Inst) → Misses (Some i) ks → read_at number_of u i.0 ≡ read_at number_of t i.0) → (ss : List Slot) → Disjoint (insts_in ss) ks → Held t b ss → Held u b ss
held_far t u b ks f g [] d h = tt
held_far t u b ks f g (s ∷ ss) d h = (f s.inst d.0 ∙ h.0, g s.inst d.0 ∙ h.1, held_far t u b ks f g ss d.1 h.2)

-- the tail of l, from s on, is cut off and is the chain of b, which stood empty behind l; then each of it names b
module _ (t u : Tables) (xs : List Line) (l : Line) (b : Block) (ys : List Line) (sa : List Slot) (s : Slot) (sb : List Slot) (p : Option Inst) (is : List InstNode) (law : Wired t) (r : Represents t (xs ++ (l ∷ empty_line b ∷ ys))) (cut : l.slots ≡ sa ++ (s ∷ sb)) (ep : p ≡ last_or None (insts_in sa)) (table : is ≡ cut_table inst_place inst_links t.insts p s.inst) (chains : Cuts inst_place inst_links t.insts s.inst is) (made : u ≡ with_insts (cut_off t (ends_of t.blocks l.block) p b s.inst l.block) (named is (keys_from inst_place inst_links is (Some s.inst)) b)) where
  tail_moved : Edited t u (xs ++ (with_slots l sa ∷ record { block = b; slots = s ∷ sb } ∷ ys))
  tail_moved =
      let a : Block = l.block in
      let k : Inst = s.inst in
      let ia : List Inst = insts_in sa in
      let ib : List Inst = insts_in sb in
      let e : Ends Inst = ends_of t.blocks a in
      let e1 : Ends Inst = record { first = head_or ia None; last = last_or None ia } in
      let e2 : Ends Inst = record { first = Some k; last = e.last } in
      let l1 : Line = with_slots l sa in
      let l2 : Line = record { block = b; slots = s ∷ sb } in
      let old : List Line = l ∷ empty_line b ∷ [] in
      let new : List Line = l1 ∷ l2 ∷ [] in
      let fs = filled_right t xs (l ∷ empty_line b ∷ ys) r.lines in
      let fl : Filled t l = fs.0 in
      let whole : insts_in l.slots ≡ ia ++ (k ∷ ib) = ap insts_in cut ∙ insts_cut sa (s ∷ sb) in
      let c : Chain inst_place inst_links t.insts e (ia ++ (k ∷ ib)) = subst (λ ks. Chain inst_place inst_links t.insts e ks) whole fl.chain in
      let two = chains e ia ib c in
      let es : ends_ahead e p ≡ e1 = ap (ends_ahead e) ep ∙ ahead_ends e ia k ib c.first in
      let keys : keys_from inst_place inst_links is (Some k) ≡ k ∷ ib = chain_keys inst_apart two.behind in
      let js : List InstNode = named is (k ∷ ib) b in
      let b1 : List BlockNode = alter t.blocks a.0 (λ n. with_inst_ends n e1) in
      let b2 : List BlockNode = alter b1 b.0 (λ n. with_inst_ends n e2) in
      let w : Tables = with_insts (with_blocks t b2) js in
      let final : u ≡ w = made ∙ ap (λ (q : Ends Inst). with_insts (with_blocks t (alter (alter t.blocks a.0 (λ n. with_inst_ends n q)) b.0 (λ n. with_inst_ends n e2))) (named is (keys_from inst_place inst_links is (Some k)) b)) es ∙ ap (λ q. with_insts (with_blocks t b2) (named is q b)) keys in
      let names : Distinct (blocks_of xs ++ (a ∷ b ∷ blocks_of ys)) = subst (λ ks. Distinct ks) (map-append (λ m. m.block) xs (l ∷ empty_line b ∷ ys)) r.blocks.distinct in
      let dab = distinct_right (blocks_of xs) (a ∷ b ∷ blocks_of ys) names in
      let across = distinct_across (blocks_of xs) (a ∷ b ∷ blocks_of ys) names in
      let within = subst (λ ks. AllWithin block_place (length t.blocks) ks) (map-append (λ m. m.block) xs (l ∷ empty_line b ∷ ys)) r.blocks.within in
      let wab = within_right block_place (length t.blocks) (blocks_of xs) (a ∷ b ∷ blocks_of ys) within in
      let wb : b.0 < length b1 = subst (λ n. b.0 < n) (sym (length-alter (λ n. with_inst_ends n e1) t.blocks a.0)) wab.1.0 in
      let nodes : SameBlocks t.blocks b2 (a ∷ b ∷ []) = both_set t.blocks b1 b2 a b (ends_set t.blocks a e1) (ends_set b1 b e2) in
      let at_a : ends_of b2 a ≡ e1 = (ends_set b1 b e2).ends a (dab.0.0, tt) ∙ ends_here t.blocks a e1 wab.0 in
      let at_b : ends_of b2 b ≡ e2 = ends_here b1 b e2 wb in
      let size1 : length is ≡ length t.insts = ap length table ∙ length_cut inst_place inst_links t.insts p k in
      let size : length js ≡ length t.insts = length_named is (k ∷ ib) b ∙ size1 in
      let touched : List Inst = insts_of old in
      let flat : touched ≡ ia ++ (k ∷ ib) = append-nil (insts_in l.slots) ∙ whole in
      let flat2 : insts_of new ≡ ia ++ (k ∷ ib) = ap (λ q. insts_in sa ++ q) (append-nil (k ∷ ib)) in
      let far : (i : Inst) → Misses (Some i) touched → SameInst t.insts js i = λ i m.
      let m0 = subst (λ ks. Misses (Some i) ks) flat m in
      let ma = misses_left (Some i) ia (k ∷ ib) m0 in
      let mk : Misses (Some i) (k ∷ ib) = misses_right (Some i) ia (k ∷ ib) m0 in
      let hp : p ≡ Some i → ⊥ = λ q. last_not i None ia (none-some i) ma (sym ep ∙ q) in
      let hk : Some k ≡ Some i → ⊥ = λ q. mk.0 (sym q) in
      record {
        block = named_away block_named is (k ∷ ib) b i mk ∙ ap (λ q. read_at block_named q i.0) table ∙ cut_away inst_apart inst_links block_named t.insts p k i hp hk;
        seq = named_away number_of is (k ∷ ib) b i mk ∙ ap (λ q. read_at number_of q i.0) table ∙ cut_away inst_apart inst_links number_of t.insts p k i hp hk;
        prev = named_away inst_links.prev_of is (k ∷ ib) b i mk ∙ ap (λ q. read_at inst_links.prev_of q i.0) table ∙ cut_away inst_apart inst_links inst_links.prev_of t.insts p k i hp hk;
        next = named_away inst_links.next_of is (k ∷ ib) b i mk ∙ ap (λ q. read_at inst_links.next_of q i.0) table ∙ cut_away inst_apart inst_links inst_links.next_of t.insts p k i hp hk;
      } in
      let block1 : (i : Inst) → read_at block_named is i.0 ≡ read_at block_named t.insts i.0 = λ i. ap (λ q. read_at block_named q i.0) table ∙ cut_keeps inst_place inst_links block_named (λ m o. refl) (λ m o. refl) t.insts p k i.0 in
      let seq1 : (i : Inst) → read_at number_of is i.0 ≡ read_at number_of t.insts i.0 = λ i. ap (λ q. read_at number_of q i.0) table ∙ cut_keeps inst_place inst_links number_of (λ m o. refl) (λ m o. refl) t.insts p k i.0 in
      let held0 : Held t.insts a (sa ++ (s ∷ sb)) = subst (λ ss. Held t.insts a ss) cut fl.held in
      let held1 : Held js a sa = held_far t.insts js a (k ∷ ib) (λ i m. named_away block_named is (k ∷ ib) b i m ∙ block1 i) (λ i m. named_away number_of is (k ∷ ib) b i m ∙ seq1 i) sa (distinct_across ia (k ∷ ib) c.distinct) (held_left t.insts a sa (s ∷ sb) held0) in
      let held2 : Held is a (s ∷ sb) = held_far t.insts is a [] (λ i _. block1 i) (λ i _. seq1 i) (s ∷ sb) (disjoint_nil (k ∷ ib)) (held_right t.insts a sa (s ∷ sb) held0) in
      let filled1 : Filled w l1 = record {
        chain = subst (λ q. Chain inst_place inst_links js q ia) (sym at_a) (named_chain is (k ∷ ib) b e1 ia two.ahead);
        held = held1;
      } in
      let filled2 : Filled w l2 = record {
        chain = subst (λ q. Chain inst_place inst_links js q (k ∷ ib)) (sym at_b) (named_chain is (k ∷ ib) b e2 (k ∷ ib) two.behind);
        held = named_held is b a (s ∷ sb) two.behind.distinct two.behind.within held2;
      } in
      let rep : Represents w (xs ++ (l1 ∷ l2 ∷ ys)) = lines_edited t w xs old new ys touched r refl refl nodes size far
      (lines_apart t xs old (filled_left t xs (l ∷ empty_line b ∷ ys) r.lines) (fl, (fs.1.0, tt)) (trimmed (blocks_of xs) a b (blocks_of ys) across))
      (lines_apart t ys old fs.1.1 (fl, (fs.1.0, tt)) (apart_both (blocks_of ys) a b dab.0.1 dab.1.0))
      (filled1, (filled2, tt))
      (λ i m. let m0 : Misses (Some i) touched = subst (λ ks. Misses (Some i) ks) (flat2 ∙ sym flat) m in inr (m0, m0)) in
      subst (λ q. Edited t q (xs ++ (l1 ∷ l2 ∷ ys))) (sym final)
      (finish t w (xs ++ (l1 ∷ l2 ∷ ys)) (nodes.size ∙ law.blocks_size) (size ∙ law.insts_size) (map-alter (λ n. with_inst_ends n e2) (λ n. n.cold) (λ n. refl) b1 b.0 ∙ map-alter (λ n. with_inst_ends n e1) (λ n. n.cold) (λ n. refl) t.blocks a.0) rep)

-- ---- the new block nb is put directly behind b, in which i stands: t becomes t1

record Opened (t t1 : Tables) (nb b : Block) (i : Inst) : Type 0 where
  ahead : List Line
  it : Line
  behind : List Line
  sa : List Slot
  slot : Slot
  sb : List Slot
  cut : it.slots ≡ sa ++ (slot ∷ sb)
  here : slot.inst ≡ i
  block : it.block ≡ b
  rep : Represents t1 (ahead ++ (it ∷ empty_line nb ∷ behind))
  chain : Chain inst_place inst_links t1.insts (ends_of t1.blocks b) (insts_in sa ++ (i ∷ insts_in sb))
  list : split_block nb i (listed t) ≡ ahead ++ (with_slots it sa ∷ record { block = nb; slots = slot ∷ sb } ∷ behind)

module _ (t : Tables) (nb b : Block) (i : Inst) (h : Sound t) (stands : inst_block i (program_of t) ≡ Some b) where
  -- the block in which it stands is inserted
  pub its_block : inserted_block b (program_of t) ≡ true
  its_block =
      let s = stands_in t i b (sound_out h).wired stands in
      let names : blocks_of (listed t) ≡ blocks_of s.at.ahead ++ (s.at.it.block ∷ blocks_of s.at.behind) = ap blocks_of s.at.is ∙ map-append (λ l. l.block) s.at.ahead (s.at.it ∷ s.at.behind) in
      holds_in block_place block_apart b (blocks_of (listed t)) (λ m. (misses_right (Some b) (blocks_of s.at.ahead) (s.at.it.block ∷ blocks_of s.at.behind) (subst (λ ks. Misses (Some b) ks) names m)).0 (ap Some (sym s.block)))

  module _ (t1 : Tables) (made : Becomes t t1 (insert_block_after nb b (listed t))) where
    opened : Opened t t1 nb b i
    opened =
        let s = stands_in t i b (sound_out h).wired stands in
        let a = s.at in
        let l : Line = a.it in
        let ia : List Inst = insts_in a.sa in
        let ib : List Inst = insts_in a.sb in
        let q : List Line = a.ahead ++ (l ∷ empty_line nb ∷ a.behind) in
        let lines : listed t1 ≡ q = ap (λ (x : Program). x.lines) made.program ∙ ap (insert_block_after nb b) a.is ∙ block_instead b (λ m. m ∷ empty_line nb ∷ []) a.ahead l a.behind (subst (λ x. Misses (Some x) (blocks_of a.ahead)) s.block (other_ahead t a.ahead l a.behind a.rep)) s.block (subst (λ x. Misses (Some x) (blocks_of a.behind)) s.block (other_behind t a.ahead l a.behind a.rep)) in
        let r : Represents t1 q = subst (λ x. Represents t1 x) lines (sound_out made.sound).wired.sound in
        let f : Filled t1 l = (filled_right t1 a.ahead (l ∷ empty_line nb ∷ a.behind) r.lines).0 in
        record {
          ahead = a.ahead;
          it = l;
          behind = a.behind;
          sa = a.sa;
          slot = a.slot;
          sb = a.sb;
          cut = a.cut;
          here = a.here;
          block = s.block;
          rep = r;
          chain = subst (λ x. Chain inst_place inst_links t1.insts (ends_of t1.blocks x) (ia ++ (i ∷ ib))) s.block (subst (λ ks. Chain inst_place inst_links t1.insts (ends_of t1.blocks l.block) ks) (ap insts_in a.cut ∙ insts_cut a.sa (a.slot ∷ a.sb) ∙ ap (λ x. ia ++ (x ∷ ib)) a.here) f.chain);
          list = its_line_instead t i a (λ m. with_slots m (ahead_of (is_inst i) m.slots) ∷ record { block = nb; slots = from_on (is_inst i) m.slots } ∷ [])
              ∙ ap (λ ss. a.ahead ++ (with_slots l ss ∷ record { block = nb; slots = from_on (is_inst i) l.slots } ∷ a.behind)) (slots_ahead t i a)
              ∙ ap (λ ss. a.ahead ++ (with_slots l a.sa ∷ record { block = nb; slots = ss } ∷ a.behind)) (slots_from t i a);
        }

    lows : AllWithin block_place (length t1.blocks) (opened.it.block ∷ nb ∷ blocks_of opened.behind)
    lows = within_right block_place (length t1.blocks) (blocks_of opened.ahead) (opened.it.block ∷ nb ∷ blocks_of opened.behind) (subst (λ ks. AllWithin block_place (length t1.blocks) ks) (map-append (λ m. m.block) opened.ahead (opened.it ∷ empty_line nb ∷ opened.behind)) opened.rep.blocks.within)

    pub old_low : b.0 < length t1.blocks
    old_low = subst (λ (x : Block). x.0 < length t1.blocks) opened.block lows.0

    pub cut_low : i.0 < length t1.insts
    cut_low = here_within inst_place inst_links t1.insts (ends_of t1.blocks b) (insts_in opened.sa) i (insts_in opened.sb) opened.chain

    pub cut_prev : Within inst_place (length t1.insts) (read_at inst_links.prev_of t1.insts i.0)
    cut_prev = prev_within inst_place inst_links t1.insts (ends_of t1.blocks b) (insts_in opened.sa) i (insts_in opened.sb) opened.chain

    -- then i and all that follow it are cut off: t1 becomes u
    module _ (u : Tables) (is_cut : u ≡ cut_off t1 (ends_of t1.blocks b) (read_at inst_links.prev_of t1.insts i.0) nb i b) where
      table : u.insts ≡ cut_table inst_place inst_links t1.insts (read_at inst_links.prev_of t1.insts i.0) i
      table = ap (λ (x : Tables). x.insts) is_cut

      chains : Cuts inst_place inst_links t1.insts i u.insts
      chains = cuts inst_apart inst_links t1.insts i (read_at inst_links.prev_of t1.insts i.0) u.insts refl table

      pub tail_run : SomeRun u.insts (Some i)
      tail_run =
          let sizes : length u.insts ≡ 1024 = ap length table ∙ length_cut inst_place inst_links t1.insts (read_at inst_links.prev_of t1.insts i.0) i ∙ (sound_out made.sound).wired.insts_size in
          record {
            insts = i ∷ insts_in opened.sb;
            run = record {
              last = (ends_of t1.blocks b).last;
              chain = (chains (ends_of t1.blocks b) (insts_in opened.sa) (insts_in opened.sb) opened.chain).behind;
              size = omega (arith, sizes);
            };
          }

      -- and each of them names nb
      pub tail_named : (js : List InstNode) → js ≡ named u.insts (keys_from inst_place inst_links u.insts (Some i)) nb → Becomes t (with_insts u js) (split_block nb i (listed t))
      tail_named js names =
          let ia : List Inst = insts_in opened.sa in
          let ib : List Inst = insts_in opened.sb in
          let p : Option Inst = read_at inst_links.prev_of t1.insts i.0 in
          let is : List InstNode = u.insts in
          let built : Block → Inst → Tables = λ x k. with_insts (cut_off t1 (ends_of t1.blocks x) p nb k x) (named is (keys_from inst_place inst_links is (Some k)) nb) in
          let made_so : with_insts u js ≡ built opened.it.block opened.slot.inst = ap (with_insts u) names ∙ ap (λ (x : Tables). with_insts x (named is (keys_from inst_place inst_links is (Some i)) nb)) is_cut ∙ ap (λ (x : Block). built x i) (sym opened.block) ∙ ap (λ (k : Inst). built opened.it.block k) (sym opened.here) in
          let done = tail_moved t1 (with_insts u js) opened.ahead opened.it nb opened.behind opened.sa opened.slot opened.sb p is (sound_out made.sound).wired opened.rep opened.cut
          (prev_is inst_place inst_links t1.insts (ends_of t1.blocks b) ia i ib opened.chain)
          (table ∙ ap (λ k. cut_table inst_place inst_links t1.insts p k) (sym opened.here))
          (subst (λ k. Cuts inst_place inst_links t1.insts k is) (sym opened.here) chains) made_so in
          let edited : Edited t (with_insts u js) (split_block nb i (listed t)) = record { wired = done.wired; list = done.list ∙ sym opened.list; cold = done.cold ∙ ap (λ (x : Program). x.cold) made.program } in
          becomes edited (split_block_rises nb i (listed t) (sound_out h).numbers)

-- the writes of the cut, one behind the other
pub cut_written : (t : Tables) (e o : Ends Inst) (p : Option Inst) (nb : Block) (i : Inst) (b : Block) (is : List InstNode) (b1 b2 : List BlockNode) → e ≡ ends_of t.blocks b → p ≡ read_at inst_links.prev_of t.insts i.0 → is ≡ cut_table inst_place inst_links t.insts (read_at inst_links.prev_of t.insts i.0) i → o ≡ ends_ahead e p → b1 ≡ alter t.blocks b.0 (λ n. with_inst_ends n o) → b2 ≡ alter b1 nb.0 (λ n. with_inst_ends n (record { first = Some i; last = e.last })) → ◌≡◌ {A = Tables} (record { blocks = b2; insts = is; ends = t.ends }) (cut_off t (ends_of t.blocks b) (read_at inst_links.prev_of t.insts i.0) nb i b)
cut_written t e o p nb i b is b1 b2 ee ep ei eo e1 e2 =
    let f : BlockNode → BlockNode = λ n. with_inst_ends n (record { first = Some i; last = e.last }) in
    let q : Option Inst = read_at inst_links.prev_of t.insts i.0 in
    let blocks : b2 ≡ alter (alter t.blocks b.0 (λ n. with_inst_ends n (ends_ahead e p))) nb.0 f = e2 ∙ ap (λ ns. alter ns nb.0 f) (e1 ∙ ap (λ (x : Ends Inst). alter t.blocks b.0 (λ n. with_inst_ends n x)) eo) in
    ap (λ ns. tables_of ns is) blocks ∙ ap (λ ns. tables_of (alter (alter t.blocks b.0 (λ n. with_inst_ends n (ends_ahead e p))) nb.0 f) ns) ei
    ∙ ap (λ (x : Option Inst). tables_of (alter (alter t.blocks b.0 (λ n. with_inst_ends n (ends_ahead e x))) nb.0 f) (cut_table inst_place inst_links t.insts q i)) ep
    ∙ ap (λ (x : Ends Inst). cut_off t x q nb i b) ee
  where
    tables_of : List BlockNode → List InstNode → Tables
    tables_of x y = record { blocks = x; insts = y; ends = t.ends }
