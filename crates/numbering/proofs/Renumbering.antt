-- Numbers written into nodes: into one, and into some after others. Assumes nothing.
use Rattle.std.proofs.Common.{◌≡◌, ℕ, ◌<◌, List, [], ◌∷◌, ◌++◌, length, get_or, Some, sym, refl, ap, ◌∙◌, subst}
use Rattle.chain.proofs.Edits.{length-alter, read_here, read_kept, read_other}
use Rattle.chain.proofs.Keys.{misses_left, misses_right}
use Rattle.chain.specs.Chain.{Disjoint, Misses}
use Rattle.chain.specs.Table.{read_at}
use Rattle.entities.specs.Nodes.{block_named, inst_links, no_inst, number_of}
use Rattle.entities.specs.Program.{Slot, insts_in, slot}
use Rattle.entities.specs.declared.Inst.{Inst}
use Rattle.entities.specs.declared.nodes.InstNode.{InstNode}
use Rattle.listing.proofs.Found.{inst_apart}
use Rattle.listing.proofs.InstEdits.{insts_cut}
use Rattle.listing.proofs.Parts.{node_reads}
use Rattle.listing.specs.Lawful.{or_zero}
use Rattle.listing.specs.Numbers.{Renumbered, Renumbers, Written}
use Rattle.numbering.specs.Assigned.{with_number}

-- ---- what is read from a node

pub reads_prev : (t : List InstNode) (i : ℕ) → i < length t → (get_or t i no_inst).prev ≡ read_at inst_links.prev_of t i
reads_prev t i h = node_reads inst_links.prev_of t i i no_inst refl h

pub reads_next : (t : List InstNode) (i : ℕ) → i < length t → (get_or t i no_inst).next ≡ read_at inst_links.next_of t i
reads_next t i h = node_reads inst_links.next_of t i i no_inst refl h

pub reads_seq : (t : List InstNode) (i : ℕ) → i < length t → (get_or t i no_inst).seq ≡ or_zero (read_at number_of t i)
reads_seq t i h = ap or_zero (node_reads number_of t i i no_inst refl h)

-- ---- numbers written

-- one number
pub put : (t : List InstNode) (i : Inst) (n : ℕ) → i.0 < length t → Renumbered t (with_number t i n) (slot i n ∷ [])
put t i n h = record {
  spares = record {
    size = length-alter _ t i.0;
    block = λ j. read_kept _ block_named (λ m. refl) t i.0 j.0;
    prev = λ j. read_kept _ inst_links.prev_of (λ m. refl) t i.0 j.0;
    next = λ j. read_kept _ inst_links.next_of (λ m. refl) t i.0 j.0;
    seq = λ j m. read_other _ number_of t i.0 j.0 (λ e. m.0 (ap Some (sym (inst_apart i j e))));
  };
  written = (read_here _ number_of (Some n) (λ m. refl) t i.0 h, tt);
}

-- none
pub unchanged : (t : List InstNode) (ss : List Slot) → Written t ss → Renumbered t t ss
unchanged t ss w = record { spares = record { size = refl; block = λ i. refl; prev = λ i. refl; next = λ i. refl; seq = λ i m. refl }; written = w }

pub stays : (t u : List InstNode) (ks : List Inst) (ss : List Slot) → Renumbers t u ks → Disjoint (insts_in ss) ks → Written t ss → Written u ss
stays t u ks [] r d w = tt
stays t u ks (s ∷ ss) r d w = (r.seq s.inst d.0 ∙ w.0, stays t u ks ss r d.1 w.1)

written_both : (t : List InstNode) (ss rs : List Slot) → Written t ss → Written t rs → Written t (ss ++ rs)
written_both t [] rs a b = b
written_both t (s ∷ ss) rs a b = (a.0, written_both t ss rs a.1 b)

-- some, and then others
pub both : (t u v : List InstNode) (ss rs : List Slot) → Disjoint (insts_in ss) (insts_in rs) → Renumbered t u ss → Renumbered u v rs → Renumbered t v (ss ++ rs)
both t u v ss rs d a b = record {
  spares = record {
    size = b.spares.size ∙ a.spares.size;
    block = λ i. b.spares.block i ∙ a.spares.block i;
    prev = λ i. b.spares.prev i ∙ a.spares.prev i;
    next = λ i. b.spares.next i ∙ a.spares.next i;
    seq = λ i m.
        let cut : Misses (Some i) (insts_in ss ++ insts_in rs) = subst (λ q. Misses (Some i) q) (insts_cut ss rs) m in
        b.spares.seq i (misses_right (Some i) (insts_in ss) (insts_in rs) cut) ∙ a.spares.seq i (misses_left (Some i) (insts_in ss) (insts_in rs) cut);
  };
  written = written_both v ss rs (stays u v (insts_in rs) ss b.spares d a.written) b.written;
}

-- some, and then the same anew
pub again : (t u v : List InstNode) (ss rs : List Slot) → insts_in ss ≡ insts_in rs → Renumbered t u ss → Renumbered u v rs → Renumbered t v rs
again t u v ss rs e a b = record {
  spares = record {
    size = b.spares.size ∙ a.spares.size;
    block = λ i. b.spares.block i ∙ a.spares.block i;
    prev = λ i. b.spares.prev i ∙ a.spares.prev i;
    next = λ i. b.spares.next i ∙ a.spares.next i;
    seq = λ i m. b.spares.seq i m ∙ a.spares.seq i (subst (λ q. Misses (Some i) q) (sym e) m);
  };
  written = b.written;
}
