-- What a node says of the list that the tables stand for, at any number. Assumes nothing.
use Rattle.std.proofs.Common.{◌≡◌, ℕ, zero, suc, Bool, true, false, cond, List, [], ◌∷◌, ◌++◌, get_or, is_some, Some, None, Option, sym, refl, ap, ◌∙◌, subst, inl, inr, arith}
use Rattle.std.proofs.lemmas.Option.{none-some}
use Rattle.std.proofs.lemmas.List.{map-append}
use Rattle.std.proofs.lemmas.Bool.{eq-eqb, ne_eqb}
use Rattle.chain.proofs.Keys.{head_not, last_not, misses_left, misses_right}
use Rattle.chain.proofs.Members.{not_in}
use Rattle.chain.specs.Chain.{Distinct, Misses, head_or, last_or}
use Rattle.chain.specs.Table.{read_at}
use Rattle.chain.specs.declared.Ends.{Ends}
use Rattle.entities.specs.Lists.{ahead, behind, holds}
use Rattle.entities.specs.Nodes.{block_links, block_named, block_place, ends_of, first_of, inst_links, inst_place, last_of, marks, no_block, no_inst, number_of}
use Rattle.entities.specs.Program.{Line, Slot, blocks_of, insts_in, insts_of}
use Rattle.entities.specs.Reading.{block_insts, empty, entry_block, exactly_one, first_inst, inserted_inst, inst_block, inst_seq, last_block, last_inst, next_block, next_inst, of_block, of_inst, prev_block, prev_inst, seq_in, slots_of}
use Rattle.entities.specs.declared.Block.{Block}
use Rattle.entities.specs.declared.Inst.{Inst}
use Rattle.entities.specs.declared.nodes.BlockNode.{BlockNode}
use Rattle.entities.specs.declared.nodes.InstNode.{InstNode}
use Rattle.entities.specs.declared.nodes.Tables.{Tables}
use Rattle.listing.proofs.BlockEdits.{At, block_at, next_is, prev_is}
use Rattle.listing.proofs.Found.{Located, block_apart, inst_apart, locate}
use Rattle.listing.proofs.Frames.{filled_right}
use Rattle.listing.proofs.InstEdits.{InstAt, held_right, inst_at, insts_cut, stand, standing_in, this_line}
use Rattle.listing.proofs.Props.{sound_out}
use Rattle.listing.proofs.Stretches.{ahead_at, ahead_none, behind_at, behind_none, holds_in, holds_not}
use Rattle.listing.specs.Edits.{BlockIn, InstIn}
use Rattle.listing.specs.Lawful.{AllFilled, Held, Sound, Wired, listed, program_of}
use Rattle.listing.specs.Reads.{OfBlock, OfInst}

-- ---- a read of a node, at any place

pub read_any : {N A : Type 0} (f : N → Option A) (d : N) → f d ≡ None → (t : List N) (i : ℕ) → f (get_or t i d) ≡ read_at f t i
read_any f d e [] i = e
read_any f d e (n ∷ ns) zero = refl
read_any f d e (n ∷ ns) (suc i) = read_any f d e ns i

pub mark_any : (t : List BlockNode) (i : ℕ) → (get_or t i no_block).cold ≡ get_or (marks t) i false
mark_any [] i = refl
mark_any (n ∷ ns) zero = refl
mark_any (n ∷ ns) (suc i) = mark_any ns i

none_is : {A : Type 0} (o : Option A) → is_some o ≡ false → o ≡ None
none_is None e = refl
none_is (Some a) e = absurd (let z : ◌≡◌ {A = ℕ} 0 1 = cc in omega arith)

-- ---- the line of a block, and the line in which an instruction stands

module _ {A : Type 0} (b : Block) (f : Line → A) (o : A) where
  pub of_block_none : (ls : List Line) → Misses (Some b) (blocks_of ls) → of_block b f o ls ≡ o
  of_block_none [] m = refl
  of_block_none (l ∷ ls) m =
      ap (λ c. cond c (f l) (of_block b f o ls)) (ne_eqb l.block.0 b.0 (λ e. m.0 (ap Some (sym (block_apart l.block b e))))) ∙ of_block_none ls m.1

  pub of_block_at : (xs : List Line) (l : Line) (ys : List Line) → Misses (Some b) (blocks_of xs) → l.block ≡ b → of_block b f o (xs ++ (l ∷ ys)) ≡ f l
  of_block_at [] l ys m e = ap (λ c. cond c (f l) (of_block b f o ys)) (eq-eqb l.block.0 b.0 (ap block_place e))
  of_block_at (x ∷ xs) l ys m e =
      ap (λ c. cond c (f x) (of_block b f o (xs ++ (l ∷ ys)))) (ne_eqb x.block.0 b.0 (λ q. m.0 (ap Some (sym (block_apart x.block b q))))) ∙ of_block_at xs l ys m.1 e

module _ {A : Type 0} (i : Inst) (f : Line → A) (o : A) where
  pub of_inst_none : (ls : List Line) → Misses (Some i) (insts_of ls) → of_inst i f o ls ≡ o
  of_inst_none [] m = refl
  of_inst_none (l ∷ ls) m =
      ap (λ c. cond c (f l) (of_inst i f o ls)) (holds_not inst_place inst_apart i (insts_in l.slots) (misses_left (Some i) (insts_in l.slots) (insts_of ls) m)) ∙ of_inst_none ls (misses_right (Some i) (insts_in l.slots) (insts_of ls) m)

  pub of_inst_at : (xs : List Line) (l : Line) (ys : List Line) → Misses (Some i) (insts_of xs) → holds inst_place i (insts_in l.slots) ≡ true → of_inst i f o (xs ++ (l ∷ ys)) ≡ f l
  of_inst_at [] l ys m h = ap (λ c. cond c (f l) (of_inst i f o ys)) h
  of_inst_at (x ∷ xs) l ys m h =
      ap (λ c. cond c (f x) (of_inst i f o (xs ++ (l ∷ ys)))) (holds_not inst_place inst_apart i (insts_in x.slots) (misses_left (Some i) (insts_in x.slots) (insts_of xs) m)) ∙ of_inst_at xs l ys (misses_right (Some i) (insts_in x.slots) (insts_of xs) m) h

pub seq_in_at : (i : Inst) (sa : List Slot) (s : Slot) (sb : List Slot) → Misses (Some i) (insts_in sa) → s.inst ≡ i → seq_in i (sa ++ (s ∷ sb)) ≡ s.seq
seq_in_at i [] s sb m e = ap (λ c. cond c s.seq (seq_in i sb)) (eq-eqb s.inst.0 i.0 (ap inst_place e))
seq_in_at i (x ∷ sa) s sb m e =
    ap (λ c. cond c x.seq (seq_in i (sa ++ (s ∷ sb)))) (ne_eqb x.inst.0 i.0 (λ q. m.0 (ap Some (sym (inst_apart x.inst i q))))) ∙ seq_in_at i sa s sb m.1 e

-- ---- blocks

-- what the tables hold at a block's place
record BlockReads (t : Tables) (b : Block) : Type 0 where
  prev : read_at block_links.prev_of t.blocks b.0 ≡ prev_block b (program_of t)
  next : read_at block_links.next_of t.blocks b.0 ≡ next_block b (program_of t)
  first : read_at first_of t.blocks b.0 ≡ first_inst b (program_of t)
  last : read_at last_of t.blocks b.0 ≡ last_inst b (program_of t)

-- the slots of an inserted block
pub slots_at : (t : Tables) (b : Block) (a : At t b) → slots_of b (program_of t) ≡ a.it.slots
slots_at t b a = ap (of_block b (λ l. l.slots) []) a.is ∙ of_block_at b (λ l. l.slots) [] a.ahead a.it a.behind a.clear a.here

block_reads : (t : Tables) (b : Block) → Wired t → BlockReads t b
block_reads t b law =
    elim (locate block_place block_apart (λ l. l.block) b (listed t)) [
      | inl m ↦
          let bare = law.sound.bare_blocks b m in
          let none : slots_of b (program_of t) ≡ [] = of_block_none b (λ l. l.slots) [] (listed t) m in
          record {
            prev = bare.prev ∙ sym (ahead_none block_place block_apart b (blocks_of (listed t)) m);
            next = bare.next ∙ sym (behind_none block_place block_apart b (blocks_of (listed t)) m);
            first = bare.first ∙ sym (ap (λ ss. head_or (insts_in ss) None) none);
            last = bare.last ∙ sym (ap (λ ss. last_or None (insts_in ss)) none);
          }
      | inr f ↦
          let a = block_at t b law (located_in t b f) in
          let bx = blocks_of a.ahead in
          let by = blocks_of a.behind in
          let names : blocks_of (listed t) ≡ bx ++ (b ∷ by) = ap blocks_of a.is ∙ map-append (λ l. l.block) a.ahead (a.it ∷ a.behind) ∙ ap (λ x. bx ++ (x ∷ by)) a.here in
          let line = this_line t a.ahead a.it a.behind a.rep in
          let slots = slots_at t b a in
          record {
            prev = prev_is block_place block_links t.blocks t.ends bx b by a.chain ∙ sym (ap (ahead block_place b) names ∙ ahead_at block_place block_apart bx b by a.chain.distinct);
            next = next_is block_place block_links t.blocks t.ends bx b by a.chain ∙ sym (ap (behind block_place b) names ∙ behind_at block_place block_apart bx b by a.chain.distinct);
            first = ap (λ (x : Block). read_at first_of t.blocks x.0) (sym a.here) ∙ line.chain.first ∙ sym (ap (λ ss. head_or (insts_in ss) None) slots);
            last = ap (λ (x : Block). read_at last_of t.blocks x.0) (sym a.here) ∙ line.chain.last ∙ sym (ap (λ ss. last_or None (insts_in ss)) slots);
          }
    ]
  where
    located_in : (t : Tables) (b : Block) → Located (λ (l : Line). l.block) b (listed t) → BlockIn b t
    located_in t b f m =
        let m1 = subst (λ ks. Misses (Some b) ks) (ap blocks_of f.is ∙ map-append (λ l. l.block) f.ahead (f.it ∷ f.behind)) m in
        (misses_right (Some b) (blocks_of f.ahead) (f.it.block ∷ blocks_of f.behind) m1).0 (ap Some (sym f.here))

-- a list of one, told by its ends
one_empty : (ss : List Slot) → is_some (head_or (insts_in ss) None) ≡ false → exactly_one ss ≡ false
one_empty [] e = refl
one_empty (s ∷ ss) e = absurd (let z : ◌≡◌ {A = ℕ} 0 1 = cc in omega arith)

none_first : (ss : List Slot) → is_some (head_or (insts_in ss) None) ≡ false → ss ≡ []
none_first [] e = refl
none_first (s ∷ ss) e = absurd (let z : ◌≡◌ {A = ℕ} 0 1 = cc in omega arith)

some_first : (ss : List Slot) → is_some (head_or (insts_in ss) None) ≡ true → empty ss ≡ false
some_first [] e = absurd (let z : ◌≡◌ {A = ℕ} 0 1 = cc in omega arith)
some_first (s ∷ ss) e = refl

one_only : (ss : List Slot) → Distinct (insts_in ss) → is_some (head_or (insts_in ss) None) ≡ true → head_or (insts_in ss) None ≡ last_or None (insts_in ss) → exactly_one ss ≡ true
one_only [] d h e = absurd (let z : ◌≡◌ {A = ℕ} 0 1 = cc in omega arith)
one_only (s ∷ []) d h e = refl
one_only (s ∷ x ∷ ss) d h e = absurd (last_not s.inst (Some x.inst) (insts_in ss) (λ q. d.0.0 (sym q)) d.0.1 (sym e))

one_more : (ss : List Slot) → (head_or (insts_in ss) None ≡ last_or None (insts_in ss) → ⊥) → exactly_one ss ≡ false
one_more [] f = refl
one_more (s ∷ []) f = absurd (f refl)
one_more (s ∷ x ∷ ss) f = refl

-- a block's instructions are different ones
pub slots_distinct : (t : Tables) (b : Block) → Wired t → Distinct (block_insts b (program_of t))
slots_distinct t b law =
    elim (locate block_place block_apart (λ l. l.block) b (listed t)) [
      | inl m ↦ subst (λ ss. Distinct (insts_in ss)) (sym (of_block_none b (λ l. l.slots) [] (listed t) m)) tt
      | inr f ↦
          let line = (filled_right t f.ahead (f.it ∷ f.behind) (subst (λ q. AllFilled t q) f.is law.sound.lines)).0 in
          let slots : slots_of b (program_of t) ≡ f.it.slots = ap (of_block b (λ l. l.slots) []) f.is ∙ of_block_at b (λ l. l.slots) [] f.ahead f.it f.behind f.clear f.here in
          subst (λ ss. Distinct (insts_in ss)) (sym slots) line.chain.distinct
    ]

pub of_block_node : (t : Tables) (b : Block) (n : BlockNode) → Sound t → n ≡ get_or t.blocks b.0 no_block → OfBlock (program_of t) b n
of_block_node t b n h e =
    let law = (sound_out h).wired in
    let r = block_reads t b law in
    let ks = blocks_of (listed t) in
    let prev : n.prev ≡ read_at block_links.prev_of t.blocks b.0 = ap (λ (m : BlockNode). m.prev) e ∙ read_any block_links.prev_of no_block refl t.blocks b.0 in
    let first : n.first_inst ≡ first_inst b (program_of t) = ap first_of e ∙ read_any first_of no_block refl t.blocks b.0 ∙ r.first in
    let last : n.last_inst ≡ last_inst b (program_of t) = ap last_of e ∙ read_any last_of no_block refl t.blocks b.0 ∙ r.last in
    let ss = slots_of b (program_of t) in
    record {
      vacant = λ h. none_first ss (ap is_some (sym first) ∙ h);
      occupied = λ h. some_first ss (ap is_some (sym first) ∙ h);
      empty = λ h. one_empty ss (ap is_some (sym first) ∙ h);
      one = λ h q. one_only ss (slots_distinct t b law) (ap is_some (sym first) ∙ h) (sym first ∙ q ∙ last);
      more = λ f. one_more ss (λ q. f (first ∙ q ∙ sym last));
      prev = prev ∙ r.prev;
      next = ap (λ (m : BlockNode). m.next) e ∙ read_any block_links.next_of no_block refl t.blocks b.0 ∙ r.next;
      first = first;
      last = last;
      cold = ap (λ (m : BlockNode). m.cold) e ∙ mark_any t.blocks b.0;
      entry = λ q. holds_in block_place block_apart b ks (λ m. head_not b ks m q);
      linked = λ q. holds_in block_place block_apart b ks (λ m. absurd (let z : ◌≡◌ {A = Bool} false true = ap is_some (sym (law.sound.bare_blocks b m).prev ∙ sym prev) ∙ q in let y : ◌≡◌ {A = ℕ} 0 1 = cc in omega arith));
      loose = λ f q. holds_not block_place block_apart b ks (not_in law.sound.blocks b (λ x. f (sym law.sound.blocks.first ∙ x)) (sym prev ∙ none_is n.prev q));
    }

abbrev ends_pair : Option Block → Option Block → Ends Block
ends_pair a b = record { first = a; last = b }

pub block_ends_read : (t : Tables) → Sound t → t.ends ≡ record { first = entry_block (program_of t); last = last_block (program_of t) }
block_ends_read t h =
    let c = (sound_out h).wired.sound.blocks in
    ap (λ o. ends_pair o t.ends.last) c.first ∙ ap (λ o. ends_pair (entry_block (program_of t)) o) c.last

-- ---- instructions

pub record InstReads (t : Tables) (i : Inst) : Type 0 where
  pub block : read_at block_named t.insts i.0 ≡ inst_block i (program_of t)
  pub inserted : is_some (read_at block_named t.insts i.0) ≡ inserted_inst i (program_of t)
  pub prev : read_at inst_links.prev_of t.insts i.0 ≡ prev_inst i (program_of t)
  pub next : read_at inst_links.next_of t.insts i.0 ≡ next_inst i (program_of t)
  pub seq : inserted_inst i (program_of t) ≡ true → read_at number_of t.insts i.0 ≡ Some (inst_seq i (program_of t))

pub inst_reads : (t : Tables) (i : Inst) → Wired t → InstReads t i
inst_reads t i law =
    elim (stand i (listed t)) [
      | inl m ↦
          let bare = law.sound.bare_insts i m in
          let out : inserted_inst i (program_of t) ≡ false = holds_not inst_place inst_apart i (insts_of (listed t)) m in
          record {
            block = bare.block ∙ sym (of_inst_none i (λ l. Some l.block) None (listed t) m);
            inserted = ap is_some bare.block ∙ sym out;
            prev = bare.prev ∙ sym (of_inst_none i (λ l. ahead inst_place i (insts_in l.slots)) None (listed t) m);
            next = bare.next ∙ sym (of_inst_none i (λ l. behind inst_place i (insts_in l.slots)) None (listed t) m);
            seq = λ h. absurd (let z : ◌≡◌ {A = ℕ} 0 1 = cc in omega arith);
          }
      | inr g ↦
          let stands : InstIn i t = λ m. standing_in i (listed t) g m in
          let a = inst_at t i law stands in
          let ia = insts_in a.sa in
          let ib = insts_in a.sb in
          let parts : insts_in a.it.slots ≡ ia ++ (i ∷ ib) = ap insts_in a.cut ∙ insts_cut a.sa (a.slot ∷ a.sb) ∙ ap (λ x. ia ++ (x ∷ ib)) a.here in
          let here : holds inst_place i (insts_in a.it.slots) ≡ true = holds_in inst_place inst_apart i (insts_in a.it.slots) (λ m. (misses_right (Some i) ia (i ∷ ib) (subst (λ ks. Misses (Some i) ks) parts m)).0 refl) in
          let line = this_line t a.ahead a.it a.behind a.rep in
          let ends = ends_of t.blocks a.it.block in
          record {
            block = a.named ∙ sym (at t i (λ l. Some l.block) None a here);
            inserted = ap is_some a.named ∙ sym (holds_in inst_place inst_apart i (insts_of (listed t)) stands);
            prev = prev_is inst_place inst_links t.insts ends ia i ib a.chain ∙ sym (at t i (λ l. ahead inst_place i (insts_in l.slots)) None a here ∙ ap (ahead inst_place i) parts ∙ ahead_at inst_place inst_apart ia i ib a.chain.distinct);
            next = next_is inst_place inst_links t.insts ends ia i ib a.chain ∙ sym (at t i (λ l. behind inst_place i (insts_in l.slots)) None a here ∙ ap (behind inst_place i) parts ∙ behind_at inst_place inst_apart ia i ib a.chain.distinct);
            seq = λ _. ap (λ (x : Inst). read_at number_of t.insts x.0) (sym a.here) ∙ (held_right t.insts a.it.block a.sa (a.slot ∷ a.sb) (subst (λ ss. Held t.insts a.it.block ss) a.cut line.held)).1 ∙ ap Some (sym (at t i (λ l. seq_in i l.slots) 0 a here ∙ ap (seq_in i) a.cut ∙ seq_in_at i a.sa a.slot a.sb a.not_sa a.here));
          }
    ]
  where
    at : {A : Type 0} (t : Tables) (i : Inst) (f : Line → A) (o : A) (a : InstAt t i) → holds inst_place i (insts_in a.it.slots) ≡ true → of_inst i f o (listed t) ≡ f a.it
    at t i f o a h = ap (of_inst i f o) a.is ∙ of_inst_at i f o a.ahead a.it a.behind a.not_ahead h

some_is : (a b : ℕ) → ◌≡◌ {A = Option ℕ} (Some a) (Some b) → a ≡ b
some_is a b e = cc

-- the number of a node that is in the table
number_read : (t : List InstNode) (i m : ℕ) → read_at number_of t i ≡ Some m → (get_or t i no_inst).seq ≡ m
number_read [] i m e = absurd (none-some m e)
number_read (n ∷ ns) zero m e = some_is n.seq m e
number_read (n ∷ ns) (suc i) m e = number_read ns i m e

pub of_inst_node : (t : Tables) (i : Inst) (n : InstNode) → Sound t → n ≡ get_or t.insts i.0 no_inst → OfInst (program_of t) i n
of_inst_node t i n h e =
    let r = inst_reads t i (sound_out h).wired in
    let block : n.block ≡ read_at block_named t.insts i.0 = ap block_named e ∙ read_any block_named no_inst refl t.insts i.0 in
    record {
      block = block ∙ r.block;
      inserted = ap is_some block ∙ r.inserted;
      prev = ap (λ (m : InstNode). m.prev) e ∙ read_any inst_links.prev_of no_inst refl t.insts i.0 ∙ r.prev;
      next = ap (λ (m : InstNode). m.next) e ∙ read_any inst_links.next_of no_inst refl t.insts i.0 ∙ r.next;
      seq = λ q. ap (λ (m : InstNode). m.seq) e ∙ number_read t.insts i.0 (inst_seq i (program_of t)) (r.seq q);
    }
