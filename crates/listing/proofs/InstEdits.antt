-- Edits of one block's instruction chain. Assumes nothing.
use Rattle.std.proofs.Common.{◌≡◌, ℕ, ◌<◌, ◌⊎◌, List, [], ◌∷◌, ◌++◌, length, Some, None, Option, sym, refl, ap, ◌∙◌, subst, inl, inr, append-nil}
use Rattle.std.proofs.lemmas.Option.{none-some, same_Some}
use Rattle.std.proofs.lemmas.List.{map-append}
use Rattle.std.proofs.lemmas.Bool.{cases_eq}
use Rattle.chain.proofs.Chained.{frame}
use Rattle.chain.proofs.Edits.{length-alter, read_here, read_kept, read_other}
use Rattle.chain.proofs.Keys.{disjoint_head, distinct_across, distinct_right, head_not, last_not, misses_both, misses_left, misses_right, none_misses, within_right}
use Rattle.chain.proofs.Members.{inserted_away, inserted_keeps, length_inserted, length_removed, map-alter, removed_away, removed_keeps}
use Rattle.chain.specs.Chain.{AllWithin, Chain, Disjoint, Distinct, Misses, head_or, last_or}
use Rattle.chain.specs.Table.{alter, inserted_table, read_at, removed_table}
use Rattle.chain.specs.declared.Ends.{Ends}
use Rattle.entities.specs.Nodes.{block_links, block_named, block_place, ends_of, first_of, inst_links, inst_place, last_of, number_of}
use Rattle.entities.specs.Program.{Line, Slot, blocks_of, insts_in, insts_of, with_slots}
use Rattle.entities.specs.declared.Block.{Block}
use Rattle.entities.specs.declared.Inst.{Inst}
use Rattle.entities.specs.declared.nodes.BlockNode.{BlockNode}
use Rattle.entities.specs.declared.nodes.InstNode.{InstNode}
use Rattle.entities.specs.declared.nodes.Tables.{Tables}
use Rattle.listing.proofs.BlockEdits.{finish, pair}
use Rattle.listing.proofs.Found.{block_apart, inst_apart, insts_in-append, locate}
use Rattle.listing.proofs.Frames.{SameBlocks, SameInst, filled_left, filled_right, lines_apart, lines_edited, named_misses}
use Rattle.listing.specs.Edits.{Edited, InstIn, after_insts, with_block, with_inst_ends}
use Rattle.listing.specs.Lawful.{BareInst, Filled, Held, Represents, Wired, listed}

-- ---- a block's ends written

module _ (t : List BlockNode) (b : Block) (e : Ends Inst) where
  pub ends_here : b.0 < length t → ends_of (alter t b.0 (λ n. with_inst_ends n e)) b ≡ e
  ends_here h =
      ap (λ o. pair o (read_at last_of (alter t b.0 (λ n. with_inst_ends n e)) b.0)) (read_here (λ n. with_inst_ends n e) first_of e.first (λ n. refl) t b.0 h)
      ∙ ap (λ o. pair e.first o) (read_here (λ n. with_inst_ends n e) last_of e.last (λ n. refl) t b.0 h)

  pub ends_set : SameBlocks t (alter t b.0 (λ n. with_inst_ends n e)) (b ∷ [])
  ends_set = record {
    size = length-alter (λ n. with_inst_ends n e) t b.0;
    prev = λ x. read_kept (λ n. with_inst_ends n e) block_links.prev_of (λ n. refl) t b.0 x.0;
    next = λ x. read_kept (λ n. with_inst_ends n e) block_links.next_of (λ n. refl) t b.0 x.0;
    ends = λ x m.
        let ne : b.0 ≡ x.0 → ⊥ = λ q. m.0 (ap Some (sym (block_apart b x q))) in
        ap (λ o. pair o (read_at last_of (alter t b.0 (λ n. with_inst_ends n e)) x.0)) (read_other (λ n. with_inst_ends n e) first_of t b.0 x.0 ne)
        ∙ ap (λ o. pair (read_at first_of t x.0) o) (read_other (λ n. with_inst_ends n e) last_of t b.0 x.0 ne);
  }

-- a node changed but for its links
pub unlinked : (f : InstNode → InstNode) → ((n : InstNode) → (f n).prev ≡ n.prev) → ((n : InstNode) → (f n).next ≡ n.next) → (t : List InstNode) (i : ℕ) (e : Ends Inst) (ks : List Inst) → Chain inst_place inst_links t e ks → Chain inst_place inst_links (alter t i f) e ks
unlinked f hp hn t i e ks c = record {
  first = c.first;
  last = c.last;
  linked = frame None None ks None (λ x _. read_kept f inst_links.prev_of hp t i x.0) (λ x _. read_kept f inst_links.next_of hn t i x.0) (none_misses ks) c.linked;
  distinct = c.distinct;
  within = subst (λ n. AllWithin inst_place n ks) (sym (length-alter f t i)) c.within;
}

-- ---- lists

pub insts_cut : (sa sb : List Slot) → insts_in (sa ++ sb) ≡ insts_in sa ++ insts_in sb
insts_cut sa sb = map-append (λ s. s.inst) sa sb

pub held_left : (t : List InstNode) (b : Block) (sa sb : List Slot) → Held t b (sa ++ sb) → Held t b sa
held_left t b [] sb h = tt
held_left t b (s ∷ sa) sb h = (h.0, h.1, held_left t b sa sb h.2)

pub held_right : (t : List InstNode) (b : Block) (sa sb : List Slot) → Held t b (sa ++ sb) → Held t b sb
held_right t b [] sb h = h
held_right t b (s ∷ sa) sb h = held_right t b sa sb h.2

pub held_both : (t : List InstNode) (b : Block) (sa sb : List Slot) → Held t b sa → Held t b sb → Held t b (sa ++ sb)
held_both t b [] sb x y = y
held_both t b (s ∷ sa) sb x y = (x.0, x.1, held_both t b sa sb x.2 y)

misses_put : {K : Type 0} (u k : K) (xs ys : List K) → (Some u ≡ Some k → ⊥) → Misses (Some u) (xs ++ ys) → Misses (Some u) (xs ++ (k ∷ ys))
misses_put u k [] ys h m = (h, m)
misses_put u k (x ∷ xs) ys h m = (m.0, misses_put u k xs ys h m.1)

misses_drop : {K : Type 0} (u k : K) (xs ys : List K) → Misses (Some u) (xs ++ (k ∷ ys)) → Misses (Some u) (xs ++ ys)
misses_drop u k [] ys m = m.1
misses_drop u k (x ∷ xs) ys m = (m.0, misses_drop u k xs ys m.1)

disjoint_put : {K : Type 0} (us : List K) (k : K) (xs ys : List K) → Misses (Some k) us → Disjoint us (xs ++ ys) → Disjoint us (xs ++ (k ∷ ys))
disjoint_put [] k xs ys m d = tt
disjoint_put (u ∷ us) k xs ys m d = (misses_put u k xs ys (λ e. m.0 (sym e)) d.0, disjoint_put us k xs ys m.1 d.1)

-- ---- the lines around one line

module _ (t : Tables) (xs : List Line) (l : Line) (ys : List Line) (r : Represents t (xs ++ (l ∷ ys))) where
  around : Distinct (blocks_of xs ++ (l.block ∷ blocks_of ys))
  around = subst (λ ks. Distinct ks) (map-append (λ m. m.block) xs (l ∷ ys)) r.blocks.distinct

  pub other_ahead : Misses (Some l.block) (blocks_of xs)
  other_ahead = disjoint_head (blocks_of xs) l.block (blocks_of ys) (distinct_across (blocks_of xs) (l.block ∷ blocks_of ys) around)

  pub other_behind : Misses (Some l.block) (blocks_of ys)
  other_behind = (distinct_right (blocks_of xs) (l.block ∷ blocks_of ys) around).0

  pub this_line : Filled t l
  this_line = (filled_right t xs (l ∷ ys) r.lines).0

  single : (zs : List Line) → Misses (Some l.block) (blocks_of zs) → Disjoint (blocks_of zs) (l.block ∷ [])
  single [] m = tt
  single (z ∷ zs) m = ((λ e. m.0 (sym e), tt), single zs m.1)

  pub far_ahead : Disjoint (insts_of xs) (insts_of (l ∷ []))
  far_ahead = lines_apart t xs (l ∷ []) (filled_left t xs (l ∷ ys) r.lines) (this_line, tt) (single xs other_ahead)

  pub far_behind : Disjoint (insts_of ys) (insts_of (l ∷ []))
  far_behind = lines_apart t ys (l ∷ []) (filled_right t xs (l ∷ ys) r.lines).1 (this_line, tt) (single ys other_behind)

  pub block_low : l.block.0 < length t.blocks
  block_low = (within_right block_place (length t.blocks) (blocks_of xs) (l.block ∷ blocks_of ys) (subst (λ ks. AllWithin block_place (length t.blocks) ks) (map-append (λ m. m.block) xs (l ∷ ys)) r.blocks.within)).0

-- ---- two node tables that have the same names and numbers, but at k

pub held_kept : (t u : List InstNode) (b : Block) (k : Inst) → ((i : Inst) → (Some k ≡ Some i → ⊥) → read_at block_named u i.0 ≡ read_at block_named t i.0) → ((i : Inst) → (Some k ≡ Some i → ⊥) → read_at number_of u i.0 ≡ read_at number_of t i.0) → (ss : List Slot) → Misses (Some k) (insts_in ss) → Held t b ss → Held u b ss
held_kept t u b k names numbers [] m h = tt
held_kept t u b k names numbers (s ∷ ss) m h = (names s.inst m.0 ∙ h.0, numbers s.inst m.0 ∙ h.1, held_kept t u b k names numbers ss m.1 h.2)

-- ---- the nodes once k is linked in between p and n, or taken out there, and names o

module _ (t is : List InstNode) (p n : Option Inst) (k : Inst) (o : Option Block) (names : (j : ℕ) → read_at block_named is j ≡ read_at block_named t j) (numbers : (j : ℕ) → read_at number_of is j ≡ read_at number_of t j) (away : (link : InstNode → Option Inst) (i : Inst) → (p ≡ Some i → ⊥) → (n ≡ Some i → ⊥) → (Some k ≡ Some i → ⊥) → read_at link is i.0 ≡ read_at link t i.0) where
  abbrev renamed : List InstNode
  renamed = alter is k.0 (λ m. with_block m o)

  names_kept : (i : Inst) → (Some k ≡ Some i → ⊥) → read_at block_named renamed i.0 ≡ read_at block_named t i.0
  names_kept i h = read_other (λ m. with_block m o) block_named is k.0 i.0 (λ q. h (ap Some (inst_apart k i q))) ∙ names i.0

  numbers_kept : (i : Inst) → read_at number_of renamed i.0 ≡ read_at number_of t i.0
  numbers_kept i = read_kept (λ m. with_block m o) number_of (λ m. refl) is k.0 i.0 ∙ numbers i.0

  -- the same names and numbers, but at k
  held_renamed : (b : Block) (ss : List Slot) → Misses (Some k) (insts_in ss) → Held t b ss → Held renamed b ss
  held_renamed b = held_kept t renamed b k names_kept (λ i _. numbers_kept i)

  elsewhere : (ia ib : List Inst) → p ≡ last_or None ia → n ≡ head_or ib None → (i : Inst) → Misses (Some i) (ia ++ (k ∷ ib)) → SameInst t renamed i
  elsewhere ia ib ep en i m =
      let ma = misses_left (Some i) ia (k ∷ ib) m in
      let mk = misses_right (Some i) ia (k ∷ ib) m in
      let hp : p ≡ Some i → ⊥ = λ q. last_not i None ia (none-some i) ma (sym ep ∙ q) in
      let hn : n ≡ Some i → ⊥ = λ q. head_not i ib mk.1 (sym en ∙ q) in
      let hk : Some k ≡ Some i → ⊥ = λ q. mk.0 (sym q) in
      record {
        block = names_kept i hk;
        seq = numbers_kept i;
        prev = read_kept (λ m. with_block m o) inst_links.prev_of (λ m. refl) is k.0 i.0 ∙ away inst_links.prev_of i hp hn hk;
        next = read_kept (λ m. with_block m o) inst_links.next_of (λ m. refl) is k.0 i.0 ∙ away inst_links.next_of i hp hn hk;
      }

-- ---- an instruction put into a line, between sa and sb; it has the number of its node

module _ (t u : Tables) (new : Slot) (xs : List Line) (l : Line) (ys : List Line) (sa sb : List Slot) (p n : Option Inst) (is : List InstNode) (e : Ends Inst) (law : Wired t) (r : Represents t (xs ++ (l ∷ ys))) (cut : l.slots ≡ sa ++ sb) (low : new.inst.0 < length t.insts) (fresh : Misses (Some new.inst) (insts_of (xs ++ (l ∷ ys)))) (ep : p ≡ last_or None (insts_in sa)) (en : n ≡ head_or (insts_in sb) None) (table : is ≡ inserted_table inst_place inst_links t.insts p n new.inst) (chain : Chain inst_place inst_links is e (insts_in sa ++ (new.inst ∷ insts_in sb))) (number : read_at number_of t.insts new.inst.0 ≡ Some new.seq) (made : u ≡ after_insts t l.block (alter is new.inst.0 (λ m. with_block m (Some l.block))) e) where
  pub put_inst : Edited t u (xs ++ (with_slots l (sa ++ (new ∷ sb)) ∷ ys))
  put_inst =
      let k : Inst = new.inst in
      let b : Block = l.block in
      let f : InstNode → InstNode = λ m. with_block m (Some b) in
      let js : List InstNode = alter is k.0 f in
      let w : Tables = after_insts t b js e in
      let l' : Line = with_slots l (sa ++ (new ∷ sb)) in
      let ia : List Inst = insts_in sa in
      let ib : List Inst = insts_in sb in
      let touched : List Inst = insts_of (l' ∷ []) in
      let parts : touched ≡ ia ++ (k ∷ ib) = append-nil (insts_in (sa ++ (new ∷ sb))) ∙ insts_cut sa (new ∷ sb) in
      let old : insts_of (l ∷ []) ≡ ia ++ ib = append-nil (insts_in l.slots) ∙ ap insts_in cut ∙ insts_cut sa sb in
      let here = this_line t xs l ys r in
      let held : Held t.insts b (sa ++ sb) = subst (λ ss. Held t.insts b ss) cut here.held in
      let all : Misses (Some k) (insts_of xs ++ (insts_in l.slots ++ insts_of ys)) = subst (λ ks. Misses (Some k) ks) (insts_in-append xs (l ∷ ys)) fresh in
      let mx = misses_left (Some k) (insts_of xs) (insts_in l.slots ++ insts_of ys) all in
      let mly = misses_right (Some k) (insts_of xs) (insts_in l.slots ++ insts_of ys) all in
      let ml : Misses (Some k) (ia ++ ib) = subst (λ ks. Misses (Some k) ks) (ap insts_in cut ∙ insts_cut sa sb) (misses_left (Some k) (insts_in l.slots) (insts_of ys) mly) in
      let my = misses_right (Some k) (insts_in l.slots) (insts_of ys) mly in
      let size1 : length is ≡ length t.insts = ap length table ∙ length_inserted inst_place inst_links t.insts p n k in
      let size : length js ≡ length t.insts = length-alter f is k.0 ∙ size1 in
      let low1 : k.0 < length is = subst (λ m. k.0 < m) (sym size1) low in
      let names : (j : ℕ) → read_at block_named is j ≡ read_at block_named t.insts j = λ j. ap (λ q. read_at block_named q j) table ∙ inserted_keeps inst_place inst_links block_named (λ m o. refl) (λ m o. refl) t.insts p n k j in
      let numbers : (j : ℕ) → read_at number_of is j ≡ read_at number_of t.insts j = λ j. ap (λ q. read_at number_of q j) table ∙ inserted_keeps inst_place inst_links number_of (λ m o. refl) (λ m o. refl) t.insts p n k j in
      let away : (link : InstNode → Option Inst) (i : Inst) → (p ≡ Some i → ⊥) → (n ≡ Some i → ⊥) → (Some k ≡ Some i → ⊥) → read_at link is i.0 ≡ read_at link t.insts i.0 = λ link i hp hn hk. ap (λ q. read_at link q i.0) table ∙ inserted_away inst_apart inst_links link t.insts p n k i hp hn hk in
      let kept : (ss : List Slot) → Misses (Some k) (insts_in ss) → Held t.insts b ss → Held js b ss = held_renamed t.insts is p n k (Some b) names numbers away b in
      let filled : Filled w l' = record {
        chain = subst (λ q. Chain inst_place inst_links js q (insts_in (sa ++ (new ∷ sb)))) (sym (ends_here t.blocks b e (block_low t xs l ys r))) (subst (λ ks. Chain inst_place inst_links js e ks) (sym (insts_cut sa (new ∷ sb))) (unlinked f (λ m. refl) (λ m. refl) is k.0 e (ia ++ (k ∷ ib)) chain));
        held = held_both js b sa (new ∷ sb) (kept sa (misses_left (Some k) ia ib ml) (held_left t.insts b sa sb held)) (read_here f block_named (Some b) (λ m. refl) is k.0 low1, numbers_kept t.insts is p n k (Some b) names numbers away k ∙ number, kept sb (misses_right (Some k) ia ib ml) (held_right t.insts b sa sb held));
      } in
      let rep : Represents w (xs ++ (l' ∷ ys)) = lines_edited t w xs (l ∷ []) (l' ∷ []) ys touched r refl refl (ends_set t.blocks b e) size
      (λ i m. elsewhere t.insts is p n k (Some b) names numbers away ia ib ep en i (subst (λ ks. Misses (Some i) ks) parts m))
      (subst (λ ks. Disjoint (insts_of xs) ks) (sym parts) (disjoint_put (insts_of xs) k ia ib mx (subst (λ ks. Disjoint (insts_of xs) ks) old (far_ahead t xs l ys r))))
      (subst (λ ks. Disjoint (insts_of ys) ks) (sym parts) (disjoint_put (insts_of ys) k ia ib my (subst (λ ks. Disjoint (insts_of ys) ks) old (far_behind t xs l ys r))))
      (filled, tt)
      (λ i m. inr (m, subst (λ ks. Misses (Some i) ks) (sym old) (misses_drop i k ia ib (subst (λ ks. Misses (Some i) ks) parts m)))) in
      subst (λ q. Edited t q (xs ++ (l' ∷ ys))) (sym made)
      (finish t w (xs ++ (l' ∷ ys)) (length-alter (λ m. with_inst_ends m e) t.blocks b.0 ∙ law.blocks_size) (size ∙ law.insts_size) (map-alter (λ m. with_inst_ends m e) (λ m. m.cold) (λ m. refl) t.blocks b.0) rep)

-- ---- an instruction taken out of a line, from between sa and sb

module _ (t u : Tables) (xs : List Line) (l : Line) (ys : List Line) (sa : List Slot) (s : Slot) (sb : List Slot) (p n : Option Inst) (is : List InstNode) (e : Ends Inst) (law : Wired t) (r : Represents t (xs ++ (l ∷ ys))) (cut : l.slots ≡ sa ++ (s ∷ sb)) (ep : p ≡ last_or None (insts_in sa)) (en : n ≡ head_or (insts_in sb) None) (table : is ≡ removed_table inst_place inst_links t.insts p n s.inst) (chain : Chain inst_place inst_links is e (insts_in sa ++ insts_in sb)) (no_prev : read_at inst_links.prev_of is s.inst.0 ≡ None) (no_next : read_at inst_links.next_of is s.inst.0 ≡ None) (made : u ≡ after_insts t l.block (alter is s.inst.0 (λ m. with_block m None)) e) where
  pub take_inst : Edited t u (xs ++ (with_slots l (sa ++ sb) ∷ ys))
  take_inst =
      let k : Inst = s.inst in
      let b : Block = l.block in
      let f : InstNode → InstNode = λ m. with_block m None in
      let js : List InstNode = alter is k.0 f in
      let w : Tables = after_insts t b js e in
      let l' : Line = with_slots l (sa ++ sb) in
      let ia : List Inst = insts_in sa in
      let ib : List Inst = insts_in sb in
      let touched : List Inst = insts_of (l ∷ []) in
      let mine : insts_in l.slots ≡ ia ++ (k ∷ ib) = ap insts_in cut ∙ insts_cut sa (s ∷ sb) in
      let old : touched ≡ ia ++ (k ∷ ib) = append-nil (insts_in l.slots) ∙ mine in
      let parts : insts_of (l' ∷ []) ≡ ia ++ ib = append-nil (insts_in (sa ++ sb)) ∙ insts_cut sa sb in
      let here = this_line t xs l ys r in
      let held : Held t.insts b (sa ++ (s ∷ sb)) = subst (λ ss. Held t.insts b ss) cut here.held in
      let d : Distinct (ia ++ (k ∷ ib)) = subst (λ ks. Distinct ks) mine here.chain.distinct in
      let size1 : length is ≡ length t.insts = ap length table ∙ length_removed inst_place inst_links t.insts p n k in
      let size : length js ≡ length t.insts = length-alter f is k.0 ∙ size1 in
      let low : k.0 < length t.insts = (within_right inst_place (length t.insts) ia (k ∷ ib) (subst (λ ks. AllWithin inst_place (length t.insts) ks) mine here.chain.within)).0 in
      let low1 : k.0 < length is = subst (λ m. k.0 < m) (sym size1) low in
      let names : (j : ℕ) → read_at block_named is j ≡ read_at block_named t.insts j = λ j. ap (λ q. read_at block_named q j) table ∙ removed_keeps inst_place inst_links block_named (λ m o. refl) (λ m o. refl) t.insts p n k j in
      let numbers : (j : ℕ) → read_at number_of is j ≡ read_at number_of t.insts j = λ j. ap (λ q. read_at number_of q j) table ∙ removed_keeps inst_place inst_links number_of (λ m o. refl) (λ m o. refl) t.insts p n k j in
      let away : (link : InstNode → Option Inst) (i : Inst) → (p ≡ Some i → ⊥) → (n ≡ Some i → ⊥) → (Some k ≡ Some i → ⊥) → read_at link is i.0 ≡ read_at link t.insts i.0 = λ link i hp hn hk. ap (λ q. read_at link q i.0) table ∙ removed_away inst_apart inst_links link t.insts p n k i hp hn hk in
      let kept : (ss : List Slot) → Misses (Some k) (insts_in ss) → Held t.insts b ss → Held js b ss = held_renamed t.insts is p n k None names numbers away b in
      let filled : Filled w l' = record {
        chain = subst (λ q. Chain inst_place inst_links js q (insts_in (sa ++ sb))) (sym (ends_here t.blocks b e (block_low t xs l ys r))) (subst (λ ks. Chain inst_place inst_links js e ks) (sym (insts_cut sa sb)) (unlinked f (λ m. refl) (λ m. refl) is k.0 e (ia ++ ib) chain));
        held = held_both js b sa sb (kept sa (disjoint_head ia k ib (distinct_across ia (k ∷ ib) d)) (held_left t.insts b sa (s ∷ sb) held)) (kept sb (distinct_right ia (k ∷ ib) d).0 (held_right t.insts b sa (s ∷ sb) held).2);
      } in
      let bare : BareInst js k = record {
        block = read_here f block_named None (λ m. refl) is k.0 low1;
        prev = read_kept f inst_links.prev_of (λ m. refl) is k.0 k.0 ∙ no_prev;
        next = read_kept f inst_links.next_of (λ m. refl) is k.0 k.0 ∙ no_next;
      } in
      let rep : Represents w (xs ++ (l' ∷ ys)) = lines_edited t w xs (l ∷ []) (l' ∷ []) ys touched r refl refl (ends_set t.blocks b e) size
      (λ i m. elsewhere t.insts is p n k None names numbers away ia ib ep en i (subst (λ ks. Misses (Some i) ks) old m))
      (far_ahead t xs l ys r) (far_behind t xs l ys r) (filled, tt)
      (λ i m. elim (cases_eq i.0 k.0) [
        | inl q ↦ inl (subst (λ x. BareInst js x) (sym (inst_apart i k q)) bare)
        | inr ne ↦
            let m0 : Misses (Some i) touched = subst (λ ks. Misses (Some i) ks) (sym old) (misses_put i k ia ib (λ q. ne (ap inst_place (same_Some i k q))) (subst (λ ks. Misses (Some i) ks) parts m)) in
            inr (m0, m0)
      ]) in
      subst (λ q. Edited t q (xs ++ (l' ∷ ys))) (sym made)
      (finish t w (xs ++ (l' ∷ ys)) (length-alter (λ m. with_inst_ends m e) t.blocks b.0 ∙ law.blocks_size) (size ∙ law.insts_size) (map-alter (λ m. with_inst_ends m e) (λ m. m.cold) (λ m. refl) t.blocks b.0) rep)

-- ---- where an inserted instruction stands

pub record Standing (i : Inst) (p : List Line) : Type 0 where
  pub ahead : List Line
  pub it : Line
  pub behind : List Line
  pub sa : List Slot
  pub slot : Slot
  pub sb : List Slot
  pub is : p ≡ ahead ++ (it ∷ behind)
  pub cut : it.slots ≡ sa ++ (slot ∷ sb)
  pub here : slot.inst ≡ i

pub stand : (i : Inst) (p : List Line) → Misses (Some i) (insts_of p) ⊎ Standing i p
stand i [] = inl tt
stand i (l ∷ ls) =
    elim (locate inst_place inst_apart (λ s. s.inst) i l.slots) [
      | inr f ↦ inr (record { ahead = []; it = l; behind = ls; sa = f.ahead; slot = f.it; sb = f.behind; is = refl; cut = f.is; here = f.here })
      | inl m ↦ elim (stand i ls) [
        | inl n ↦ inl (misses_both (Some i) (insts_in l.slots) (insts_of ls) m n)
        | inr g ↦ inr (record { ahead = l ∷ g.ahead; it = g.it; behind = g.behind; sa = g.sa; slot = g.slot; sb = g.sb; is = ap (λ q. l ∷ q) g.is; cut = g.cut; here = g.here })
      ]
    ]

pub standing_in : (i : Inst) (p : List Line) → Standing i p → Misses (Some i) (insts_of p) → ⊥
standing_in i p g m =
    let m1 = subst (λ ks. Misses (Some i) ks) (ap insts_of g.is ∙ insts_in-append g.ahead (g.it ∷ g.behind)) m in
    let m2 = misses_left (Some i) (insts_in g.it.slots) (insts_of g.behind) (misses_right (Some i) (insts_of g.ahead) (insts_in g.it.slots ++ insts_of g.behind) m1) in
    let m3 = subst (λ ks. Misses (Some i) ks) (ap insts_in g.cut ∙ insts_cut g.sa (g.slot ∷ g.sb)) m2 in
    (misses_right (Some i) (insts_in g.sa) (g.slot.inst ∷ insts_in g.sb) m3).0 (ap Some (sym g.here))

pub record InstAt (t : Tables) (i : Inst) : Type 0 where
  pub ahead : List Line
  pub it : Line
  pub behind : List Line
  pub sa : List Slot
  pub slot : Slot
  pub sb : List Slot
  pub is : listed t ≡ ahead ++ (it ∷ behind)
  pub cut : it.slots ≡ sa ++ (slot ∷ sb)
  pub here : slot.inst ≡ i
  pub rep : Represents t (ahead ++ (it ∷ behind))
  pub chain : Chain inst_place inst_links t.insts (ends_of t.blocks it.block) (insts_in sa ++ (i ∷ insts_in sb))
  pub named : read_at block_named t.insts i.0 ≡ Some it.block
  pub not_ahead : Misses (Some i) (insts_of ahead)
  pub not_behind : Misses (Some i) (insts_of behind)
  pub not_sa : Misses (Some i) (insts_in sa)
  pub not_sb : Misses (Some i) (insts_in sb)

pub inst_at : (t : Tables) (i : Inst) → Wired t → InstIn i t → InstAt t i
inst_at t i law h =
    elim (stand i (listed t)) [
      | inl m ↦ absurd (h m)
      | inr g ↦
          let v : Tables = t in
          let xs : List Line = g.ahead in
          let ys : List Line = g.behind in
          let l : Line = g.it in
          let ia : List Inst = insts_in g.sa in
          let ib : List Inst = insts_in g.sb in
          let r : Represents v (xs ++ (l ∷ ys)) = subst (λ q. Represents v q) g.is law.sound in
          let f = this_line t xs l ys r in
          let c : Chain inst_place inst_links t.insts (ends_of t.blocks l.block) (ia ++ (i ∷ ib)) = subst (λ ks. Chain inst_place inst_links t.insts (ends_of t.blocks l.block) ks) (ap insts_in g.cut ∙ insts_cut g.sa (g.slot ∷ g.sb) ∙ ap (λ x. ia ++ (x ∷ ib)) g.here) f.chain in
          let named : read_at block_named t.insts i.0 ≡ Some l.block = ap (λ (x : Inst). read_at block_named t.insts x.0) (sym g.here) ∙ (held_right t.insts l.block g.sa (g.slot ∷ g.sb) (subst (λ ss. Held t.insts l.block ss) g.cut f.held)).0 in
          record {
            ahead = xs;
            it = l;
            behind = ys;
            sa = g.sa;
            slot = g.slot;
            sb = g.sb;
            is = g.is;
            cut = g.cut;
            here = g.here;
            rep = r;
            chain = c;
            named = named;
            not_ahead = named_misses v i l.block xs named (filled_left v xs (l ∷ ys) r.lines) (other_ahead t xs l ys r);
            not_behind = named_misses v i l.block ys named (filled_right v xs (l ∷ ys) r.lines).1 (other_behind t xs l ys r);
            not_sa = disjoint_head ia i ib (distinct_across ia (i ∷ ib) c.distinct);
            not_sb = (distinct_right ia (i ∷ ib) c.distinct).0;
          }
    ]
