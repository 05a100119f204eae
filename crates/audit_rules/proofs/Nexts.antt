-- What lies in its table, as the walks ask it. Assumes nothing.
use Rattle.std.proofs.Common.{◌≡◌, ℕ, zero, suc, List, [], ◌∷◌, length, get_or, None, Option, sym, refl, subst}
use Rattle.chain.specs.Table.{Within, read_at}
use Rattle.entities.specs.Nodes.{block_links, block_place, ends_of, first_of, inst_links, inst_place, no_block, no_inst}
use Rattle.entities.specs.declared.Block.{Block}
use Rattle.entities.specs.declared.nodes.Tables.{Tables}
use Rattle.audit_walks.specs.Met.{NextsWithin}
use Rattle.audit_rules.specs.Rules.{InTable}

-- a reading that an empty node does not have is that of the node at the place, or of the empty one past the table
pub read_or : {N A : Type 0} (link : N → Option A) (t : List N) (i : ℕ) (d : N) → link d ≡ None → read_at link t i ≡ link (get_or t i d)
read_or link [] i d e = sym e
read_or link (n ∷ ns) zero d e = refl
read_or link (n ∷ ns) (suc i) d e = read_or link ns i d e

module _ (t : Tables) (inside : InTable t) where
  pub block_nexts : NextsWithin block_place block_links t.blocks
  block_nexts b = subst (λ o. Within block_place (length t.blocks) o) (sym (read_or block_links.next_of t.blocks b.0 no_block refl)) (inside.blocks b).next

  pub inst_nexts : NextsWithin inst_place inst_links t.insts
  inst_nexts i = subst (λ o. Within inst_place (length t.insts) o) (sym (read_or inst_links.next_of t.insts i.0 no_inst refl)) (inside.insts i).next

  pub first_inside : (b : Block) → Within inst_place (length t.insts) (ends_of t.blocks b).first
  first_inside b = subst (λ o. Within inst_place (length t.insts) o) (sym (read_or first_of t.blocks b.0 no_block refl)) (inside.blocks b).first
