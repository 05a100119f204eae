-- What an edit leaves: one lemma for edits of the block chain, one for edits of instruction chains. Assumes nothing.
use Rattle.std.proofs.Common.{◌≡◌, ◌⊎◌, List, [], ◌∷◌, ◌++◌, length, Some, None, Option, sym, ap, ◌∙◌, subst, inl, inr}
use Rattle.std.proofs.lemmas.Option.{same_Some}
use Rattle.std.proofs.lemmas.List.{map-append}
use Rattle.chain.proofs.Chained.{frame}
use Rattle.chain.proofs.Keys.{disjoint_left, disjoint_nil, disjoint_right, disjoint_sym, distinct_across, distinct_right, misses_both, misses_left, misses_right, none_misses}
use Rattle.chain.specs.Chain.{AllWithin, Chain, Disjoint, Distinct, Linked, Misses}
use Rattle.chain.specs.Table.{read_at}
use Rattle.chain.specs.declared.Ends.{Ends}
use Rattle.entities.specs.Nodes.{block_links, block_named, block_place, ends_of, inst_links, inst_place, number_of}
use Rattle.entities.specs.Program.{Line, Slot, blocks_of, insts_in, insts_of}
use Rattle.entities.specs.declared.Block.{Block}
use Rattle.entities.specs.declared.Inst.{Inst}
use Rattle.entities.specs.declared.nodes.BlockNode.{BlockNode}
use Rattle.entities.specs.declared.nodes.InstNode.{InstNode}
use Rattle.entities.specs.declared.nodes.Tables.{Tables}
use Rattle.listing.proofs.Found.{insts_in-append}
use Rattle.listing.specs.Lawful.{AllFilled, BareBlock, BareInst, Filled, Held, Represents}

-- ---- lists of lines

pub filled_left : (v : Tables) (xs ys : List Line) → AllFilled v (xs ++ ys) → AllFilled v xs
filled_left v [] ys a = tt
filled_left v (x ∷ xs) ys a = (a.0, filled_left v xs ys a.1)

pub filled_right : (v : Tables) (xs ys : List Line) → AllFilled v (xs ++ ys) → AllFilled v ys
filled_right v [] ys a = a
filled_right v (x ∷ xs) ys a = filled_right v xs ys a.1

pub filled_both : (v : Tables) (xs ys : List Line) → AllFilled v xs → AllFilled v ys → AllFilled v (xs ++ ys)
filled_both v [] ys a b = b
filled_both v (x ∷ xs) ys a b = (a.0, filled_both v xs ys a.1 b)

-- ---- an instruction stands in one block's line

-- one that does not name b is not among b's
pub held_misses : (t : List InstNode) (b : Block) (ss : List Slot) (i : Inst) → (read_at block_named t i.0 ≡ Some b → ⊥) → Held t b ss → Misses (Some i) (insts_in ss)
held_misses t b [] i h o = tt
held_misses t b (s ∷ ss) i h o =
    (λ e. h (ap (λ (q : Inst). read_at block_named t q.0) (same_Some i s.inst e) ∙ o.0), held_misses t b ss i h o.2)

-- one that names b is not among the lines of others
pub named_misses : (v : Tables) (i : Inst) (b : Block) (ls : List Line) → read_at block_named v.insts i.0 ≡ Some b → AllFilled v ls → Misses (Some b) (blocks_of ls) → Misses (Some i) (insts_of ls)
named_misses v i b [] h a m = tt
named_misses v i b (l ∷ ls) h a m =
    misses_both (Some i) (insts_in l.slots) (insts_of ls)
    (held_misses v.insts l.block l.slots i (λ q. m.0 (sym h ∙ q)) a.0.held)
    (named_misses v i b ls h a.1 m.1)

slots_apart : (v : Tables) (b : Block) (ss : List Slot) (ls : List Line) → Held v.insts b ss → AllFilled v ls → Misses (Some b) (blocks_of ls) → Disjoint (insts_in ss) (insts_of ls)
slots_apart v b [] ls h a m = tt
slots_apart v b (s ∷ ss) ls h a m = (named_misses v s.inst b ls h.0 a m, slots_apart v b ss ls h.2 a m)

pub disjoint_join : {K : Type 0} (xs ys zs : List K) → Disjoint xs zs → Disjoint ys zs → Disjoint (xs ++ ys) zs
disjoint_join [] ys zs a b = b
disjoint_join (x ∷ xs) ys zs a b = (a.0, disjoint_join xs ys zs a.1 b)

-- lines of different blocks have no instruction in common
pub lines_apart : (v : Tables) (xs ls : List Line) → AllFilled v xs → AllFilled v ls → Disjoint (blocks_of xs) (blocks_of ls) → Disjoint (insts_of xs) (insts_of ls)
lines_apart v [] ls a b d = tt
lines_apart v (x ∷ xs) ls a b d =
    disjoint_join (insts_in x.slots) (insts_of xs) (insts_of ls) (slots_apart v x.block x.slots ls a.0.held b d.0) (lines_apart v xs ls a.1 b d.1)

-- ---- what is read at an instruction is the same in both tables

pub record SameInst (t u : List InstNode) (i : Inst) : Type 0 where
  pub block : read_at block_named u i.0 ≡ read_at block_named t i.0
  pub seq : read_at number_of u i.0 ≡ read_at number_of t i.0
  pub prev : read_at inst_links.prev_of u i.0 ≡ read_at inst_links.prev_of t i.0
  pub next : read_at inst_links.next_of u i.0 ≡ read_at inst_links.next_of t i.0

module _ {t u : List InstNode} (touched : List Inst) (far : (i : Inst) → Misses (Some i) touched → SameInst t u i) where
  pub linked_moved : (p : Option Inst) (ks : List Inst) (s : Option Inst) → Disjoint ks touched → Linked (λ k. read_at inst_links.prev_of t (inst_place k)) (λ k. read_at inst_links.next_of t (inst_place k)) p ks s → Linked (λ k. read_at inst_links.prev_of u (inst_place k)) (λ k. read_at inst_links.next_of u (inst_place k)) p ks s
  linked_moved p [] s d l = tt
  linked_moved p (k ∷ ks) s d l = ((far k d.0).prev ∙ l.0, (far k d.0).next ∙ l.1, linked_moved (Some k) ks s d.1 l.2)

  pub held_moved : (b : Block) (ss : List Slot) → Disjoint (insts_in ss) touched → Held t b ss → Held u b ss
  held_moved b [] d h = tt
  held_moved b (s ∷ ss) d h = ((far s.inst d.0).block ∙ h.0, (far s.inst d.0).seq ∙ h.1, held_moved b ss d.1 h.2)

module _ (v w : Tables) (touched : List Inst) (size : length w.insts ≡ length v.insts) (far : (i : Inst) → Misses (Some i) touched → SameInst v.insts w.insts i) where
  filled_moved : (l : Line) → ends_of w.blocks l.block ≡ ends_of v.blocks l.block → Disjoint (insts_in l.slots) touched → Filled v l → Filled w l
  filled_moved l e d f = record {
    chain = subst (λ q. Chain inst_place inst_links w.insts q (insts_in l.slots)) (sym e) (record {
      first = f.chain.first;
      last = f.chain.last;
      linked = linked_moved touched far None (insts_in l.slots) None d f.chain.linked;
      distinct = f.chain.distinct;
      within = subst (λ n. AllWithin inst_place n (insts_in l.slots)) (sym size) f.chain.within;
    });
    held = held_moved touched far l.block l.slots d f.held;
  }

  pub all_moved : (ls : List Line) (bs : List Block) → ((b : Block) → Misses (Some b) bs → ends_of w.blocks b ≡ ends_of v.blocks b) → Disjoint (blocks_of ls) bs → Disjoint (insts_of ls) touched → AllFilled v ls → AllFilled w ls
  all_moved [] bs e d a f = tt
  all_moved (l ∷ ls) bs e d a f = (
    filled_moved l (e l.block d.0) (disjoint_left (insts_in l.slots) (insts_of ls) touched a) f.0,
    all_moved ls bs e d.1 (disjoint_right (insts_in l.slots) (insts_of ls) touched a) f.1,
  )

-- ---- an edit of instruction chains: the lines ls become ls', of the same blocks

-- the block nodes keep their links; those of other blocks keep their instructions
pub record SameBlocks (t u : List BlockNode) (bs : List Block) : Type 0 where
  pub size : length u ≡ length t
  pub prev : (b : Block) → read_at block_links.prev_of u b.0 ≡ read_at block_links.prev_of t b.0
  pub next : (b : Block) → read_at block_links.next_of u b.0 ≡ read_at block_links.next_of t b.0
  pub ends : (b : Block) → Misses (Some b) bs → ends_of u b ≡ ends_of t b

chain_kept : (t u : List BlockNode) (bs : List Block) → SameBlocks t u bs → (e : Ends Block) (ks : List Block) → Chain block_place block_links t e ks → Chain block_place block_links u e ks
chain_kept t u bs s e ks c = record {
  first = c.first;
  last = c.last;
  linked = frame None None ks None (λ x _. s.prev x) (λ x _. s.next x) (none_misses ks) c.linked;
  distinct = c.distinct;
  within = subst (λ n. AllWithin block_place n ks) (sym s.size) c.within;
}

pub lines_edited : (v w : Tables) (xs ls new ys : List Line) (touched : List Inst) → Represents v (xs ++ (ls ++ ys)) → w.ends ≡ v.ends → blocks_of new ≡ blocks_of ls → SameBlocks v.blocks w.blocks (blocks_of ls) → length w.insts ≡ length v.insts → ((i : Inst) → Misses (Some i) touched → SameInst v.insts w.insts i) → Disjoint (insts_of xs) touched → Disjoint (insts_of ys) touched → AllFilled w new → ((i : Inst) → Misses (Some i) (insts_of new) → BareInst w.insts i ⊎ (Misses (Some i) touched × Misses (Some i) (insts_of ls))) → Represents w (xs ++ (new ++ ys))
lines_edited v w xs ls new ys touched r ends names blocks size far dx dy filled left =
    let bx : List Block = blocks_of xs in
    let bl : List Block = blocks_of ls in
    let by : List Block = blocks_of ys in
    let old : blocks_of (xs ++ (ls ++ ys)) ≡ bx ++ (bl ++ by) = map-append (λ l. l.block) xs (ls ++ ys) ∙ ap (λ q. bx ++ q) (map-append (λ l. l.block) ls ys) in
    let now : blocks_of (xs ++ (new ++ ys)) ≡ bx ++ (bl ++ by) = map-append (λ l. l.block) xs (new ++ ys) ∙ ap (λ q. bx ++ q) (map-append (λ l. l.block) new ys ∙ ap (λ q. q ++ by) names) in
    let same : blocks_of (xs ++ (ls ++ ys)) ≡ blocks_of (xs ++ (new ++ ys)) = old ∙ sym now in
    let d : Distinct (bx ++ (bl ++ by)) = subst (λ q. Distinct q) old r.blocks.distinct in
    let across = distinct_across bx (bl ++ by) d in
    let rest = distinct_right bx (bl ++ by) d in
    let fx = filled_left v xs (ls ++ ys) r.lines in
    let fy = filled_right v ls ys (filled_right v xs (ls ++ ys) r.lines) in
    let gx = all_moved v w touched size far xs bl blocks.ends (disjoint_trim bx bl by across) dx fx in
    let gy = all_moved v w touched size far ys bl blocks.ends (disjoint_sym bl by (distinct_across bl by rest)) dy fy in
    let names_kept : blocks_of (xs ++ (new ++ ys)) ≡ blocks_of (xs ++ (ls ++ ys)) = sym same in
    record {
      blocks = subst (λ e. Chain block_place block_links w.blocks e (blocks_of (xs ++ (new ++ ys)))) (sym ends) (subst (λ ks. Chain block_place block_links w.blocks v.ends ks) same (chain_kept v.blocks w.blocks bl blocks v.ends (blocks_of (xs ++ (ls ++ ys))) r.blocks));
      lines = filled_both w xs (new ++ ys) gx (filled_both w new ys filled gy);
      bare_blocks = λ b m.
          let m0 : Misses (Some b) (blocks_of (xs ++ (ls ++ ys))) = subst (λ ks. Misses (Some b) ks) names_kept m in
          let bare = r.bare_blocks b m0 in
          let mb : Misses (Some b) bl = misses_left (Some b) bl by (misses_right (Some b) bx (bl ++ by) (subst (λ ks. Misses (Some b) ks) old m0)) in
          let e = blocks.ends b mb in
          record {
            prev = blocks.prev b ∙ bare.prev;
            next = blocks.next b ∙ bare.next;
            first = ap (λ (q : Ends Inst). q.first) e ∙ bare.first;
            last = ap (λ (q : Ends Inst). q.last) e ∙ bare.last;
          };
      bare_insts = λ i m.
          let parts : Misses (Some i) (insts_of xs ++ (insts_of new ++ insts_of ys)) = subst (λ ks. Misses (Some i) ks) (insts_in-append xs (new ++ ys) ∙ ap (λ q. insts_of xs ++ q) (insts_in-append new ys)) m in
          let mx = misses_left (Some i) (insts_of xs) (insts_of new ++ insts_of ys) parts in
          let mn = misses_right (Some i) (insts_of xs) (insts_of new ++ insts_of ys) parts in
          let my = misses_right (Some i) (insts_of new) (insts_of ys) mn in
          elim (left i (misses_left (Some i) (insts_of new) (insts_of ys) mn)) [
            | inl bare ↦ bare
            | inr away ↦
                let f = far i away.0 in
                let m0 : Misses (Some i) (insts_of (xs ++ (ls ++ ys))) = subst (λ ks. Misses (Some i) ks) (sym (insts_in-append xs (ls ++ ys) ∙ ap (λ q. insts_of xs ++ q) (insts_in-append ls ys))) (misses_both (Some i) (insts_of xs) (insts_of ls ++ insts_of ys) mx (misses_both (Some i) (insts_of ls) (insts_of ys) away.1 my)) in
                let bare = r.bare_insts i m0 in
                record { block = f.block ∙ bare.block; prev = f.prev ∙ bare.prev; next = f.next ∙ bare.next }
          ];
    }
  where
    disjoint_trim : {K : Type 0} (us bs cs : List K) → Disjoint us (bs ++ cs) → Disjoint us bs
    disjoint_trim [] bs cs d = tt
    disjoint_trim (a ∷ rest) bs cs d = (misses_left (Some a) bs cs d.0, disjoint_trim rest bs cs d.1)

-- ---- an edit of the block chain: p becomes q, with the same instructions

pub blocks_edited : (v w : Tables) (p q : List Line) → Represents v p → w.insts ≡ v.insts → Chain block_place block_links w.blocks w.ends (blocks_of q) → ((b : Block) → ends_of w.blocks b ≡ ends_of v.blocks b) → AllFilled v q → insts_of q ≡ insts_of p → ((b : Block) → Misses (Some b) (blocks_of q) → BareBlock w.blocks b) → Represents w q
blocks_edited v w p q r insts chain ends filled kept bare =
    let same : (i : Inst) → Misses (Some i) [] → SameInst v.insts w.insts i = λ i _. record { block = ap (λ t. read_at block_named t i.0) insts; seq = ap (λ t. read_at number_of t i.0) insts; prev = ap (λ t. read_at inst_links.prev_of t i.0) insts; next = ap (λ t. read_at inst_links.next_of t i.0) insts } in
    record {
      blocks = chain;
      lines = all_moved v w [] (ap length insts) same q [] (λ b _. ends b) (disjoint_nil (blocks_of q)) (disjoint_nil (insts_of q)) filled;
      bare_blocks = bare;
      bare_insts = λ i m. subst (λ t. BareInst t i) (sym insts) (r.bare_insts i (subst (λ ks. Misses (Some i) ks) kept m));
    }
