-- Reads and writes of a node's parts. Assumes nothing.
use Rattle.std.proofs.Common.{◌≡◌, ℕ, ◌<◌, List, length, get_or, Option, sym, ap, ◌∙◌}
use Rattle.chain.proofs.Writes.{read_is}
use Rattle.chain.specs.Table.{read_at}
use Rattle.entities.specs.Nodes.{ends_of, first_of, last_of}
use Rattle.entities.specs.declared.Block.{Block}
use Rattle.entities.specs.declared.nodes.BlockNode.{BlockNode}
use Rattle.listing.proofs.BlockEdits.{pair}

pub node_reads : {N A : Type 0} (link : N → Option A) (t : List N) (i j : ℕ) (d : N) → j ≡ i → i < length t → link (get_or t j d) ≡ read_at link t i
node_reads link t i j d e h = ap (λ q. link (get_or t q d)) e ∙ sym (read_is link t i d h)

pub ends_read : (t : List BlockNode) (b : Block) (i : ℕ) (d : BlockNode) → i ≡ b.0 → b.0 < length t → pair (first_of (get_or t i d)) (last_of (get_or t i d)) ≡ ends_of t b
ends_read t b i d e h =
    ap (λ o. pair o (last_of (get_or t i d))) (node_reads first_of t b.0 i d e h) ∙ ap (λ o. pair (read_at first_of t b.0) o) (node_reads last_of t b.0 i d e h)
