-- A cold mark written: the list stays. Assumes nothing.
use Rattle.std.proofs.Common.{◌≡◌, ℕ, zero, suc, Bool, List, [], ◌∷◌, length, set, None, sym, refl, ap, ◌∙◌, subst}
use Rattle.chain.proofs.Chained.{frame}
use Rattle.chain.proofs.Edits.{length-alter, read_kept}
use Rattle.chain.proofs.Keys.{none_misses}
use Rattle.chain.specs.Chain.{AllWithin, Chain}
use Rattle.chain.specs.Table.{alter, read_at}
use Rattle.entities.specs.Nodes.{block_links, block_place, ends_of, first_of, last_of, marks}
use Rattle.entities.specs.Program.{blocks_of}
use Rattle.entities.specs.declared.Block.{Block}
use Rattle.entities.specs.declared.nodes.BlockNode.{BlockNode}
use Rattle.entities.specs.declared.nodes.Tables.{Tables}
use Rattle.listing.proofs.BlockEdits.{pair}
use Rattle.listing.proofs.Frames.{blocks_edited}
use Rattle.listing.proofs.Props.{sound_out}
use Rattle.listing.proofs.Rises.{program_is_now}
use Rattle.listing.proofs.Unique.{program_is, sound_from}
use Rattle.listing.specs.Edits.{with_blocks}
use Rattle.listing.specs.Lawful.{AllWellNumbered, Lawful, Represents, Sound, listed, program_of}

-- the node with the mark c
abbrev pub marked : Bool → BlockNode → BlockNode
marked c n = record { prev = n.prev; next = n.next; first_inst = n.first_inst; last_inst = n.last_inst; cold = c }

marks_set : (c : Bool) (t : List BlockNode) (i : ℕ) → marks (alter t i (marked c)) ≡ set (marks t) i c
marks_set c [] i = refl
marks_set c (n ∷ ns) zero = refl
marks_set c (n ∷ ns) (suc i) = ap (λ r. n.cold ∷ r) (marks_set c ns i)

pub cold_marked : (t u : Tables) (b : Block) (mark : Bool) → Sound t → u ≡ with_blocks t (alter t.blocks b.0 (marked mark)) → (Sound u) × (program_of u ≡ record { lines = listed t; cold = set (marks t.blocks) b.0 mark })
cold_marked t u b mark h made =
    let law = sound_out h in
    let w = law.wired in
    let bs : List BlockNode = alter t.blocks b.0 (marked mark) in
    let v : Tables = with_blocks t bs in
    let size : length bs ≡ length t.blocks = length-alter (marked mark) t.blocks b.0 in
    let ends : (x : Block) → ends_of bs x ≡ ends_of t.blocks x = λ x. ap (λ o. pair o (read_at last_of bs x.0)) (read_kept (marked mark) first_of (λ n. refl) t.blocks b.0 x.0) ∙ ap (λ o. pair (read_at first_of t.blocks x.0) o) (read_kept (marked mark) last_of (λ n. refl) t.blocks b.0 x.0) in
    let c = w.sound.blocks in
    let chain : Chain block_place block_links bs t.ends (blocks_of (listed t)) = record {
      first = c.first;
      last = c.last;
      linked = frame None None (blocks_of (listed t)) None (λ x _. read_kept (marked mark) block_links.prev_of (λ n. refl) t.blocks b.0 x.0) (λ x _. read_kept (marked mark) block_links.next_of (λ n. refl) t.blocks b.0 x.0) (none_misses (blocks_of (listed t))) c.linked;
      distinct = c.distinct;
      within = subst (λ n. AllWithin block_place n (blocks_of (listed t))) (sym size) c.within;
    } in
    let rep : Represents v (listed t) = blocks_edited t v (listed t) (listed t) w.sound refl chain ends w.sound.lines refl
    (λ x m. let bare = w.sound.bare_blocks x m in record {
      prev = read_kept (marked mark) block_links.prev_of (λ n. refl) t.blocks b.0 x.0 ∙ bare.prev;
      next = read_kept (marked mark) block_links.next_of (λ n. refl) t.blocks b.0 x.0 ∙ bare.next;
      first = read_kept (marked mark) first_of (λ n. refl) t.blocks b.0 x.0 ∙ bare.first;
      last = read_kept (marked mark) last_of (λ n. refl) t.blocks b.0 x.0 ∙ bare.last;
    }) in
    let same : listed v ≡ listed t = program_is rep in
    let lawful : Lawful v = record { wired = record { blocks_size = size ∙ w.blocks_size; insts_size = w.insts_size; sound = sound_from rep }; numbers = subst (λ q. AllWellNumbered q) (sym same) law.numbers } in
    let list : listed u ≡ listed t = ap listed made ∙ same in
    let cold : marks u.blocks ≡ set (marks t.blocks) b.0 mark = ap (λ (x : Tables). marks x.blocks) made ∙ marks_set mark t.blocks b.0 in
    (subst (λ x. Sound x) (sym made) ∣ lawful ∣₁, program_is_now u (listed t) (set (marks t.blocks) b.0 mark) list cold)
