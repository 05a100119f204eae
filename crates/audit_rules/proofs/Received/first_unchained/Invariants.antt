use Rattle.std.proofs.Common.{◌≡◌, ◌++◌, false, replicate}
use Rattle.chain.specs.Chain.{walk}
use Rattle.chain.specs.Table.{read_at}
use Rattle.entities.specs.Nodes.{block_links, inst_place}
use Rattle.entities.specs.Program.{insts_of}
use Rattle.listing.specs.Lawful.{Filled}
use Rattle.audit_walks.specs.Marks.{marked}
use Rattle.audit_rules.proofs.Lists.{Every, block_keys}
use Rattle.audit_rules.proofs.Turns.{lines}
use Rattle.audit_rules.specs.Tables.{tables}
use Rattle.audit_rules.proofs.Received.first_unchained.Given as goal

abbrev pub invariant-loop-block : goal.invariant-loop-block
invariant-loop-block l = record {
  parts : block_keys (tables l.self) ≡ l.yielded ++ walk (λ k. read_at block_links.next_of l.block-iterator.nodes.now k.0) l.block-iterator.left l.block-iterator.next;
  filled : Every (Filled (tables l.self)) (lines (tables l.self) l.yielded);
  marks : l.met ≡ marked inst_place (insts_of (lines (tables l.self) l.yielded)) (replicate 1024 false);
}
