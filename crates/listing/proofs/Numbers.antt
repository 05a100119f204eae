-- New numbers in one line. Assumes nothing.
use Rattle.std.proofs.Common.{◌≡◌, ℕ, List, [], ◌∷◌, ◌++◌, Some, None, sym, refl, ap, ◌∙◌, subst, inr, append-nil, arith}
use Rattle.chain.proofs.Chained.{frame}
use Rattle.chain.proofs.Keys.{none_misses}
use Rattle.chain.specs.Chain.{AllWithin, Chain, Misses}
use Rattle.chain.specs.Table.{read_at}
use Rattle.entities.specs.Nodes.{block_named, ends_of, inst_links, inst_place}
use Rattle.entities.specs.Program.{Line, Slot, insts_in, insts_of, with_slots}
use Rattle.entities.specs.declared.Block.{Block}
use Rattle.entities.specs.declared.Inst.{Inst}
use Rattle.entities.specs.declared.nodes.InstNode.{InstNode}
use Rattle.entities.specs.declared.nodes.Tables.{Tables}
use Rattle.listing.proofs.BlockEdits.{finish}
use Rattle.listing.proofs.Frames.{SameBlocks, lines_edited}
use Rattle.listing.proofs.InstEdits.{far_ahead, far_behind, this_line}
use Rattle.listing.specs.Edits.{Edited, with_insts}
use Rattle.listing.specs.Lawful.{Filled, Held, Represents, Wired}
use Rattle.listing.specs.Numbers.{Renumbers, Written}

held_new : (t u : List InstNode) (b : Block) (ss new : List Slot) → insts_in new ≡ insts_in ss → ((i : Inst) → read_at block_named u i.0 ≡ read_at block_named t i.0) → Written u new → Held t b ss → Held u b new
held_new t u b ss [] e f w h = tt
held_new t u b [] (n ∷ ns) e f w h = absurd (let z : ◌≡◌ {A = ℕ} 0 1 = cc in omega arith)
held_new t u b (s ∷ ss) (n ∷ ns) e f w h =
    let q : n.inst ≡ s.inst = cc in
    let rest : insts_in ns ≡ insts_in ss = cc in
    (f n.inst ∙ ap (λ (x : Inst). read_at block_named t x.0) q ∙ h.0, w.0, held_new t u b ss ns rest f w.1 h.2)

-- a line gets new numbers, and nothing else moves
pub renumbered : (t : Tables) (is : List InstNode) (xs : List Line) (l : Line) (ys : List Line) (new : List Slot) → Wired t → Represents t (xs ++ (l ∷ ys)) → insts_in new ≡ insts_in l.slots → Renumbers t.insts is (insts_in l.slots) → Written is new → Edited t (with_insts t is) (xs ++ (with_slots l new ∷ ys))
renumbered t is xs l ys new law r same w nums =
    let v : Tables = t in
    let u : Tables = with_insts t is in
    let f = this_line t xs l ys r in
    let ks : List Inst = insts_in l.slots in
    let flat : insts_of (l ∷ []) ≡ ks = append-nil ks in
    let blocks : SameBlocks t.blocks t.blocks (l.block ∷ []) = record { size = refl; prev = λ b. refl; next = λ b. refl; ends = λ b m. refl } in
    let filled : Filled u (with_slots l new) = record {
      chain = subst (λ q. Chain inst_place inst_links is (ends_of t.blocks l.block) q) (sym same) (record {
        first = f.chain.first;
        last = f.chain.last;
        linked = frame None None ks None (λ x _. w.prev x) (λ x _. w.next x) (none_misses ks) f.chain.linked;
        distinct = f.chain.distinct;
        within = subst (λ n. AllWithin inst_place n ks) (sym w.size) f.chain.within;
      });
      held = held_new t.insts is l.block l.slots new same w.block nums f.held;
    } in
    finish t u (xs ++ (with_slots l new ∷ ys)) law.blocks_size (w.size ∙ law.insts_size) refl
    (lines_edited v u xs (l ∷ []) (with_slots l new ∷ []) ys (insts_of (l ∷ [])) r refl refl blocks w.size
    (λ i m. record { block = w.block i; seq = w.seq i (subst (λ q. Misses (Some i) q) flat m); prev = w.prev i; next = w.next i })
    (far_ahead t xs l ys r) (far_behind t xs l ys r) (filled, tt)
    (λ i m. let m0 : Misses (Some i) (insts_of (l ∷ [])) = subst (λ q. Misses (Some i) (q ++ [])) same m in inr (m0, m0)))
