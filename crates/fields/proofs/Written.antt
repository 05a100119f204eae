-- What a write of a node's fields is to its table. Assumes nothing.
use Rattle.std.proofs.Common.{◌≡◌, ℕ, List, get_or, set, Option, refl}
use Rattle.chain.proofs.Writes.{written}
use Rattle.chain.specs.Table.{alter}
use Rattle.chain.specs.declared.Ends.{Ends}
use Rattle.entities.specs.declared.Block.{Block}
use Rattle.entities.specs.declared.Inst.{Inst}
use Rattle.entities.specs.declared.nodes.BlockNode.{BlockNode}
use Rattle.entities.specs.declared.nodes.InstNode.{InstNode}
use Rattle.listing.specs.Edits.{with_block, with_inst_ends}

pub ends_written : (t : List BlockNode) (i j : ℕ) (d : BlockNode) (e : Ends Inst) → i ≡ j → set t i (with_inst_ends (get_or t i d) e) ≡ alter t j (λ n. with_inst_ends n e)
ends_written t i j d e h = written t t i j d _ (λ n. with_inst_ends n e) refl h refl

pub block_written : (t : List InstNode) (i j : ℕ) (d : InstNode) (b : Option Block) → i ≡ j → set t i (with_block (get_or t i d) b) ≡ alter t j (λ n. with_block n b)
block_written t i j d b h = written t t i j d _ (λ n. with_block n b) refl h refl
