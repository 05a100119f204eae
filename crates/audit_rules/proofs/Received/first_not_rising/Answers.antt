use Rattle.std.proofs.Common.{of_calls, rules}
use Rattle.chain.specs.Chain.{walk}
use Rattle.chain.specs.Table.{read_at}
use Rattle.entities.specs.Nodes.{block_links}
use Rattle.entities.specs.declared.Block.{Block}
use Rattle.entities.specs.declared.nodes.BlockNode.{BlockNode}
use Rattle.listing.specs.Lawful.{line_of}
use Rattle.audit_walks.specs.declared.Keys.{Keys}
use Rattle.audit_rules.proofs.Finding.{found}
use Rattle.audit_rules.proofs.Turns.{earliest_found}
use Rattle.audit_rules.specs.Rules.{Rises}
use Rattle.audit_rules.specs.Tables.{tables}
use Rattle.audit_rules.proofs.Received.first_not_rising.Goals as goal

pub returns : goal.returns
returns c =
    let t = tables c.args.self in
    let left = λ (s : Keys BlockNode Block). walk (λ k. read_at block_links.next_of s.nodes.now k.0) s.left s.next in
    earliest_found t Rises c.find.result c.new.ensures
    (found left _ (λ b. Rises (line_of t b)) c.new.result c.find.new.self _ c.find.result c.find.ensures.ran (search (of_calls, rules)) (search (of_calls, rules)))
