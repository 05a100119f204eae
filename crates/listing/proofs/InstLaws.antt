-- The edits of instruction chains, from what the calls in their bodies give. Assumes nothing.
use Rattle.std.proofs.Common.{◌≡◌, ℕ, zero, suc, ◌<◌, true, false, List, [], ◌∷◌, ◌++◌, length, Some, None, Option, sym, refl, ap, ◌∙◌, subst, append-nil, le_of_suc-le-suc, not-suc-le-zero}
use Rattle.chain.proofs.Keys.{misses_left, misses_right}
use Rattle.chain.proofs.Members.{length_removed}
use Rattle.chain.proofs.Walks.{last_in}
use Rattle.chain.specs.Chain.{Chain, Inserts, Misses, Removes, head_or, last_or}
use Rattle.chain.specs.Table.{Within, alter, inserted_table, read_at, removed_table}
use Rattle.chain.specs.declared.Ends.{Ends}
use Rattle.entities.specs.Lists.{from_on}
use Rattle.entities.specs.Nodes.{block_links, block_place, ends_of, inst_links, inst_place, number_of}
use Rattle.entities.specs.Numbering.{Numbered, appended_inst, inserted_before, numbered, numbered_before}
use Rattle.entities.specs.Program.{in_block, Line, Slot, blocks_of, insts_in, insts_of, instead_where, is_inst, remove_inst, with_lines, with_slots}
use Rattle.entities.specs.Reading.{inserted_block, inserted_inst, inst_block, of_block, slots_of, slots_with}
use Rattle.entities.specs.declared.Block.{Block}
use Rattle.entities.specs.declared.Inst.{Inst}
use Rattle.entities.specs.declared.nodes.BlockNode.{BlockNode}
use Rattle.entities.specs.declared.nodes.InstNode.{InstNode}
use Rattle.entities.specs.declared.nodes.Tables.{Tables}
use Rattle.listing.proofs.BlockEdits.{At, block_at, here_within, next_is, next_within, none_behind, prev_is, prev_within}
use Rattle.listing.proofs.Found.{in_block_at, insts_in-append}
use Rattle.listing.proofs.InstEdits.{InstAt, block_low, insts_cut, put_inst, take_inst, this_line}
use Rattle.listing.proofs.Landed.{block_stands, inst_missing}
use Rattle.listing.proofs.Props.{sound_out}
use Rattle.listing.proofs.Questions.{of_block_at}
use Rattle.listing.proofs.Rises.{becomes, remove_inst_rises}
use Rattle.listing.proofs.Standing.{StandsIn, its_line_instead, its_slots, slots_ahead, slots_from, slots_without, stands_in}
use Rattle.listing.specs.Edits.{Becomes, BlockIn, Edited, Linked, after_insts, linked_last, unnumbered, with_block, with_inst_ends}
use Rattle.listing.specs.Lawful.{Represents, Sound, Wired, listed, or_zero, program_of}

-- a block's last instruction is in the table
pub last_low : (t : Tables) (b : Block) → Wired t → BlockIn b t → Within inst_place (length t.insts) (ends_of t.blocks b).last
last_low t b law h =
    let a = block_at t b law h in
    subst (λ (x : Block). Within inst_place (length t.insts) (ends_of t.blocks x).last) a.here (last_in (this_line t a.ahead a.it a.behind a.rep).chain)

-- both tables written
written_both : (t : Tables) (bs cs : List BlockNode) (is js : List InstNode) → bs ≡ cs → is ≡ js → ◌≡◌ {A = Tables} (record { blocks = bs; insts = is; ends = t.ends }) (record { blocks = cs; insts = js; ends = t.ends })
written_both t bs cs is js x y = ap (λ q. tables_of q is) x ∙ ap (λ q. tables_of cs q) y
  where
    tables_of : List BlockNode → List InstNode → Tables
    tables_of bl il = record { blocks = bl; insts = il; ends = t.ends }

-- ---- an instruction that stands in block b

module _ (t : Tables) (i : Inst) (b : Block) (h : Sound t) (stands : inst_block i (program_of t) ≡ Some b) where
  abbrev placed_in : StandsIn t i b
  placed_in = stands_in t i b (sound_out h).wired stands

  abbrev at : InstAt t i
  at = placed_in.at

  -- the ends of its block
  abbrev its_ends : Ends Inst
  its_ends = ends_of t.blocks at.it.block

  pub inst_low : i.0 < length t.insts
  inst_low = here_within inst_place inst_links t.insts its_ends (insts_in at.sa) i (insts_in at.sb) at.chain

  pub inst_prev : Within inst_place (length t.insts) (read_at inst_links.prev_of t.insts i.0)
  inst_prev = prev_within inst_place inst_links t.insts its_ends (insts_in at.sa) i (insts_in at.sb) at.chain

  pub inst_next : Within inst_place (length t.insts) (read_at inst_links.next_of t.insts i.0)
  inst_next = next_within inst_place inst_links t.insts its_ends (insts_in at.sa) i (insts_in at.sb) at.chain

  -- also once it is taken out of its chain
  pub still_low : (is : List InstNode) → is ≡ removed_table inst_place inst_links t.insts (read_at inst_links.prev_of t.insts i.0) (read_at inst_links.next_of t.insts i.0) i → i.0 < length is
  still_low is e = subst (λ m. i.0 < m) (sym (ap length e ∙ length_removed inst_place inst_links t.insts (read_at inst_links.prev_of t.insts i.0) (read_at inst_links.next_of t.insts i.0) i)) inst_low

  pub its_block_low : b.0 < length t.blocks
  its_block_low = subst (λ (x : Block). x.0 < length t.blocks) placed_in.block (block_low t at.ahead at.it at.behind at.rep)

  -- it is taken out of its chain, its block gets the new ends, and it names no block
  pub taken : (old e : Ends Inst) (is js : List InstNode) (bs : List BlockNode) → old ≡ ends_of t.blocks b → is ≡ removed_table inst_place inst_links t.insts (read_at inst_links.prev_of t.insts i.0) (read_at inst_links.next_of t.insts i.0) i → Removes inst_place inst_links t.insts old i (read_at inst_links.prev_of t.insts i.0) (read_at inst_links.next_of t.insts i.0) is e → bs ≡ alter t.blocks b.0 (λ n. with_inst_ends n e) → js ≡ alter is i.0 (λ n. with_block n None) → Becomes t (record { blocks = bs; insts = js; ends = t.ends }) (remove_inst i (listed t))
  taken old e is js bs eo table chains wrote named =
      let law = sound_out h in
      let u : Tables = record { blocks = bs; insts = js; ends = t.ends } in
      let ia : List Inst = insts_in at.sa in
      let ib : List Inst = insts_in at.sb in
      let p : Option Inst = read_at inst_links.prev_of t.insts i.0 in
      let n : Option Inst = read_at inst_links.next_of t.insts i.0 in
      let ep : p ≡ last_or None ia = prev_is inst_place inst_links t.insts its_ends ia i ib at.chain in
      let en : n ≡ head_or ib None = next_is inst_place inst_links t.insts its_ends ia i ib at.chain in
      let eo2 : old ≡ its_ends = eo ∙ ap (λ (x : Block). ends_of t.blocks x) (sym placed_in.block) in
      let cut = chains ia ib ep en (subst (λ o. Chain inst_place inst_links t.insts o (ia ++ (i ∷ ib))) (sym eo2) at.chain) in
      let ii : i ≡ at.slot.inst = sym at.here in
      let made : u ≡ after_insts t b (alter is i.0 (λ m. with_block m None)) e = written_both t bs (alter t.blocks b.0 (λ n. with_inst_ends n e)) js (alter is i.0 (λ m. with_block m None)) wrote named in
      let list : remove_inst i (listed t) ≡ at.ahead ++ (with_slots at.it (at.sa ++ at.sb) ∷ at.behind) = its_line_instead t i at (λ l. with_slots l (without l.slots) ∷ []) ∙ ap (λ ss. at.ahead ++ (with_slots at.it ss ∷ at.behind)) (slots_without t i at) in
      let edited = take_inst t u at.ahead at.it at.behind at.sa at.slot at.sb p n is e law.wired at.rep at.cut ep en
      (subst (λ x. is ≡ removed_table inst_place inst_links t.insts p n x) ii table)
      cut.0.chain
      (subst (λ (x : Inst). read_at inst_links.prev_of is x.0 ≡ None) ii cut.1)
      (subst (λ (x : Inst). read_at inst_links.next_of is x.0 ≡ None) ii cut.2)
      (subst (λ (x : Inst). u ≡ after_insts t at.it.block (alter is x.0 (λ m. with_block m None)) e) ii (subst (λ x. u ≡ after_insts t x (alter is i.0 (λ m. with_block m None)) e) (sym placed_in.block) made)) in
      becomes (subst (λ q. Edited t u q) (sym list) edited) (remove_inst_rises i (listed t) law.numbers)
    where
      without : List Slot → List Slot
      without ss = instead_where (is_inst i) (λ s. []) ss

-- ---- an instruction linked in between p and n in block b, whose ends it then has, and which it then names

module _ (t : Tables) (b : Block) (i : Inst) (old e : Ends Inst) (p n : Option Inst) (is js : List InstNode) (bs : List BlockNode) (h : Sound t) (low : i.0 < 1024) (fresh : inserted_inst i (program_of t) ≡ false) (eo : old ≡ ends_of t.blocks b) (table : is ≡ inserted_table inst_place inst_links t.insts p n i) (chains : Inserts inst_place inst_links t.insts old i p n is e) (wrote : bs ≡ alter t.blocks b.0 (λ m. with_inst_ends m e)) (named : js ≡ alter is i.0 (λ m. with_block m (Some b))) where
  abbrev linked : Tables
  linked = record { blocks = bs; insts = js; ends = t.ends }

  linked_at : (ahead : List Line) (it : Line) (behind : List Line) (sa sb : List Slot) → listed t ≡ ahead ++ (it ∷ behind) → it.block ≡ b → it.slots ≡ sa ++ sb → p ≡ last_or None (insts_in sa) → n ≡ head_or (insts_in sb) None → Edited t linked (ahead ++ (with_slots it (sa ++ (unnumbered t i ∷ sb)) ∷ behind))
  linked_at ahead it behind sa sb list here cut ep en =
      let law = (sound_out h).wired in
      let r : Represents t (ahead ++ (it ∷ behind)) = subst (λ q. Represents t q) list law.sound in
      let f = this_line t ahead it behind r in
      let ends : Ends Inst = ends_of t.blocks it.block in
      let eo2 : old ≡ ends = eo ∙ ap (λ (x : Block). ends_of t.blocks x) (sym here) in
      let mine : insts_in it.slots ≡ insts_in sa ++ insts_in sb = ap insts_in cut ∙ insts_cut sa sb in
      let out : Misses (Some i) (insts_of (ahead ++ (it ∷ behind))) = subst (λ q. Misses (Some i) (insts_of q)) list (inst_missing t i fresh) in
      let all = subst (λ ks. Misses (Some i) ks) (insts_in-append ahead (it ∷ behind)) out in
      let not_here = misses_left (Some i) (insts_in it.slots) (insts_of behind) (misses_right (Some i) (insts_of ahead) (insts_in it.slots ++ insts_of behind) all) in
      let stood : Chain inst_place inst_links t.insts old (insts_in sa ++ insts_in sb) = subst (λ o. Chain inst_place inst_links t.insts o (insts_in sa ++ insts_in sb)) (sym eo2) (subst (λ ks. Chain inst_place inst_links t.insts ends ks) mine f.chain) in
      let low1 : i.0 < length t.insts = subst (λ m. i.0 < m) (sym law.insts_size) low in
      let made : linked ≡ after_insts t b (alter is i.0 (λ m. with_block m (Some b))) e = written_both t bs (alter t.blocks b.0 (λ m. with_inst_ends m e)) js (alter is i.0 (λ m. with_block m (Some b))) wrote named in
      put_inst t linked (unnumbered t i) ahead it behind sa sb p n is e law r cut low1 out ep en table
      (chains (insts_in sa) (insts_in sb) ep en stood (subst (λ ks. Misses (Some i) ks) mine not_here)).chain
      (numbered_node t.insts i.0 low1)
      (subst (λ x. linked ≡ after_insts t x (alter is i.0 (λ m. with_block m (Some x))) e) (sym here) made)
    where
      numbered_node : (ns : List InstNode) (j : ℕ) → j < length ns → read_at number_of ns j ≡ Some (or_zero (read_at number_of ns j))
      numbered_node [] j g = absurd (not-suc-le-zero g)
      numbered_node (m ∷ ns) zero g = refl
      numbered_node (m ∷ ns) (suc j) g = numbered_node ns j (le_of_suc-le-suc g)

  -- behind the last of b, which is the line that `a` finds
  behind_last : (a : At t b) → p ≡ old.last → n ≡ None → Edited t linked (a.ahead ++ (with_slots a.it (a.it.slots ++ (unnumbered t i ∷ [])) ∷ a.behind))
  behind_last a ep en =
      let f = this_line t a.ahead a.it a.behind a.rep in
      let eo2 : old ≡ ends_of t.blocks a.it.block = eo ∙ ap (λ (x : Block). ends_of t.blocks x) (sym a.here) in
      linked_at a.ahead a.it a.behind a.it.slots [] a.is a.here (sym (append-nil a.it.slots)) (ep ∙ ap (λ (o : Ends Inst). o.last) eo2 ∙ f.chain.last) en

  at_its_line : (a : At t b) (f : List Slot → List Slot) → in_block b f (listed t) ≡ a.ahead ++ (with_slots a.it (f a.it.slots) ∷ a.behind)
  at_its_line a f =
      ap (in_block b f) a.is
      ∙ in_block_at b f a.ahead a.it a.behind a.clear a.here (none_behind block_place block_links t.blocks t.ends (blocks_of a.ahead) b (blocks_of a.behind) a.chain)

  pub put_last : p ≡ old.last → n ≡ None → inserted_block b (program_of t) ≡ true → Linked linked i b (numbered (slots_of b (program_of t)) i []).writes (appended_inst i b (program_of t))
  put_last ep en stands =
      let a : At t b = block_at t b (sound_out h).wired (block_stands t b stands) in
      let slots : slots_of b (program_of t) ≡ a.it.slots = ap (of_block b (λ l. l.slots) []) a.is ∙ of_block_at b (λ l. l.slots) [] a.ahead a.it a.behind a.clear a.here in
      record {
        before = t;
        ahead = a.ahead;
        it = a.it;
        behind = a.behind;
        sa = a.it.slots;
        sb = [];
        sound = h;
        list = a.is;
        here = a.here;
        cut = sym (append-nil a.it.slots);
        edited = behind_last a ep en;
        count = ap (λ ss. (numbered ss i []).writes) slots;
        program = ap (with_lines (program_of t)) (at_its_line a (λ ss. (numbered ss i []).slots));
      }

  pub last_linked : p ≡ old.last → n ≡ None → inserted_block b (program_of t) ≡ true → Edited t linked (linked_last i b t)
  last_linked ep en stands =
      let a : At t b = block_at t b (sound_out h).wired (block_stands t b stands) in
      subst (λ q. Edited t linked q) (sym (at_its_line a (λ ss. ss ++ (unnumbered t i ∷ [])))) (behind_last a ep en)

  -- ahead of `before`
  pub put_before : (before : Inst) → p ≡ read_at inst_links.prev_of t.insts before.0 → n ≡ Some before → inst_block before (program_of t) ≡ Some b → Linked linked i b (numbered_before i before (slots_with before (program_of t))).writes (inserted_before i before (program_of t))
  put_before before ep en stands =
      let s = stands_in t before b (sound_out h).wired stands in
      let a : InstAt t before = s.at in
      let cut_there : numbered_before i before a.it.slots ≡ numbered a.sa i (a.slot ∷ a.sb) = ap (λ q. numbered q i (from_on (is_inst before) a.it.slots)) (slots_ahead t before a) ∙ ap (λ q. numbered a.sa i q) (slots_from t before a) in
      record {
        before = t;
        ahead = a.ahead;
        it = a.it;
        behind = a.behind;
        sa = a.sa;
        sb = a.slot ∷ a.sb;
        sound = h;
        list = a.is;
        here = s.block;
        cut = a.cut;
        edited = linked_at a.ahead a.it a.behind a.sa (a.slot ∷ a.sb) a.is s.block a.cut (ep ∙ prev_is inst_place inst_links t.insts (ends_of t.blocks a.it.block) (insts_in a.sa) before (insts_in a.sb) a.chain) (en ∙ ap Some (sym a.here));
        count = ap (λ ss. (numbered_before i before ss).writes) (its_slots t before a) ∙ ap (λ (q : Numbered). q.writes) cut_there;
        program = ap (with_lines (program_of t)) (its_line_instead t before a (λ l. with_slots l (numbered_before i before l.slots).slots ∷ []) ∙ ap (λ (q : Numbered). a.ahead ++ (with_slots a.it q.slots ∷ a.behind)) cut_there);
      }

-- ---- i linked in at the end of b

pub inst_linked : (t : Tables) (b : Block) (i : Inst) (old e : Ends Inst) (is js : List InstNode) (bs : List BlockNode) → Sound t → i.0 < 1024 → inserted_block b (program_of t) ≡ true → inserted_inst i (program_of t) ≡ false → old ≡ ends_of t.blocks b → is ≡ inserted_table inst_place inst_links t.insts old.last None i → Inserts inst_place inst_links t.insts old i old.last None is e → bs ≡ alter t.blocks b.0 (λ n. with_inst_ends n e) → js ≡ alter is i.0 (λ n. with_block n (Some b)) → Edited t (record { blocks = bs; insts = js; ends = t.ends }) (linked_last i b t)
inst_linked t b i old e is js bs h low stands fresh eo table chains wrote named = last_linked t b i old e old.last None is js bs h low fresh eo table chains wrote named refl refl stands
