-- Tables stand for one list at most: the one that the links give. Assumes nothing.
use Rattle.std.proofs.Common.{◌≡◌, List, [], ◌∷◌, map, sym, refl, ap, ◌∙◌, subst}
use Rattle.chain.proofs.Walks.{chain_keys}
use Rattle.entities.specs.Program.{Line, Slot, blocks_of, insts_in}
use Rattle.entities.specs.declared.Block.{Block}
use Rattle.entities.specs.declared.nodes.InstNode.{InstNode}
use Rattle.entities.specs.declared.nodes.Tables.{Tables}
use Rattle.listing.proofs.Found.{block_apart, inst_apart}
use Rattle.listing.specs.Lawful.{AllFilled, Filled, Held, Represents, line_of, listed, or_zero, slot_of}

slots_read : (t : List InstNode) (b : Block) (ss : List Slot) → Held t b ss → map (slot_of t) (insts_in ss) ≡ ss
slots_read t b [] h = refl
slots_read t b (s ∷ ss) h =
    ap (λ o. record { inst = s.inst; seq = or_zero o } ∷ map (slot_of t) (insts_in ss)) h.1 ∙ ap (λ r. s ∷ r) (slots_read t b ss h.2)

line_read : (v : Tables) (l : Line) → Filled v l → line_of v l.block ≡ l
line_read v l f =
    ap (λ ks. record { block = l.block; slots = map (slot_of v.insts) ks }) (chain_keys inst_apart f.chain)
    ∙ ap (λ ss. record { block = l.block; slots = ss }) (slots_read v.insts l.block l.slots f.held)

lines_read : (v : Tables) (p : List Line) → AllFilled v p → map (line_of v) (blocks_of p) ≡ p
lines_read v [] a = refl
lines_read v (l ∷ ls) a = ap (λ m. m ∷ map (line_of v) (blocks_of ls)) (line_read v l a.0) ∙ ap (λ r. l ∷ r) (lines_read v ls a.1)

pub program_is : {v : Tables} {p : List Line} → Represents v p → listed v ≡ p
unfolding listed
program_is {v} {p} r = ap (map (line_of v)) (chain_keys block_apart r.blocks) ∙ lines_read v p r.lines

pub sound_from : {v : Tables} {p : List Line} → Represents v p → Represents v (listed v)
sound_from {v} {p} r = subst (λ q. Represents v q) (sym (program_is r)) r
